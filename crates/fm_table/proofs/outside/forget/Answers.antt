use Rattle.std.proofs.Common.{ap, length, sym, subst, ◌∙◌, arith}
use Rattle.std.specs.Prelude.{slice_get}
use Rattle.fm_run.specs.Orders.{Among}
use Rattle.std.proofs.lemmas.Option.{slice_get_within}
use Rattle.fm_table.specs.Inside.{outs_of}
use Rattle.fm_table.specs.Outs.{IsPlaceOut}
use Rattle.fm_table.specs.Told.{numbers_out}
use Rattle.fm_table.proofs.Outs.{as_many, removed_without, without_none}
use Rattle.fm_table.proofs.outside.forget.Goals as goal

pub remove-requires : goal.remove-requires
remove-requires c =
    let out = c.args.out.now.items in
    let at = subst (IsPlaceOut (outs_of c.as_slice.result.now) c.args.number) c.in-Some.is c.place_out.ensures in
    let low = slice_get_within (numbers_out (outs_of c.as_slice.result.now)) c.in-Some.place c.args.number at.0 in
    omega (arith, low, as_many c.as_slice.result.now, ap length c.as_slice.ensures.value, c.args.out.now.ok.0)

pub returns-in-Some : goal.returns-in-Some
returns-in-Some c =
    let out = c.args.out.now.items in
    let at = subst (IsPlaceOut (outs_of c.as_slice.result.now) c.args.number) c.in-Some.is c.place_out.ensures in
    ap outs_of c.remove.ensures.by_index.2 ∙ removed_without out c.args.number c.in-Some.place c.requires (ap (λ os. slice_get (numbers_out (outs_of os)) c.in-Some.place) (sym c.as_slice.ensures.value) ∙ at.0)

pub returns-in-None : goal.returns-in-None
returns-in-None c =
    let none = subst (IsPlaceOut (outs_of c.as_slice.result.now) c.args.number) c.in-None.is c.place_out.ensures in
    sym (without_none c.args.number (outs_of c.args.out.now.items) (subst (λ os. Among c.args.number (numbers_out (outs_of os)) → ⊥) c.as_slice.ensures.value none))

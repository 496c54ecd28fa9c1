use Rattle.std.proofs.Common.{Some, Bool, ap, sym, subst, ◌∙◌, rules}
use Rattle.fm_same.specs.Same.{IsSameTest}
use Rattle.fm_table.specs.Inside.{outs_of}
use Rattle.fm_table.specs.Outs.{IsPlaceOut}
use Rattle.fm_table.specs.declared.outside.Taken.{Taken}
use Rattle.fm_table.proofs.Outs.{no_start, start_at}
use Rattle.fm_table.proofs.outside.is_taken.Goals as goal

-- the start of the one at the place
pub returns-in-Some-clause-yes : goal.returns-in-Some-clause-yes
returns-in-Some-clause-yes c = λ e.
    let k = subst (IsPlaceOut (outs_of c.args.out.now) c.process.result) c.in-Some.is c.place_out.ensures in
    let at = start_at c.args.out.now c.process.result c.in-Some.place c.index-out-place.result k.0 k.1 ∙ ap (λ (t : Taken). Some t.start.value) (sym c.index-out-place.is) in
    let same = subst (λ (r : Bool). IsSameTest r c.deref.result.now c.deref-in-Some.result.now) e c.same_body.ensures in
    search rules

pub returns-in-Some-clause-no : goal.returns-in-Some-clause-no
returns-in-Some-clause-no c = λ e f.
    let k = subst (IsPlaceOut (outs_of c.args.out.now) c.process.result) c.in-Some.is c.place_out.ensures in
    let at = start_at c.args.out.now c.process.result c.in-Some.place c.index-out-place.result k.0 k.1 ∙ ap (λ (t : Taken). Some t.start.value) (sym c.index-out-place.is) in
    let differs = subst (λ (r : Bool). IsSameTest r c.deref.result.now c.deref-in-Some.result.now) e c.same_body.ensures in
    search rules

pub returns-in-None-clause-no : goal.returns-in-None-clause-no
returns-in-None-clause-no c = λ e f.
    let none = subst (IsPlaceOut (outs_of c.args.out.now) c.process.result) c.in-None.is c.place_out.ensures in
    let at = no_start (outs_of c.args.out.now) c.process.result none in
    search rules

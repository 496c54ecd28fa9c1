use Rattle.std.proofs.Common.{◌≡◌, List, [], ◌++◌, ap, ◌∙◌, sym, arith, append_assoc}
use Rattle.std.specs.Prelude.{Option}
use Rattle.std.specs.List.{flat_map}
use Rattle.std.specs.Vec.Iter.{into_iter_items}
use Rattle.std.proofs.lemmas.List.{append-nil, nil_from_length}
use Rattle.fm_base.specs.declared.rule.Refusal.{Refusal}
use Rattle.fm_base.specs.Verdict.{least_from}
use Rattle.fm_base.proofs.Least.{least_from_append}
use Rattle.fm_tree.specs.declared.program_unit.Placed.{Placed}
use Rattle.fm_tree.specs.declared.program_unit.Unit as tree
use Rattle.fm_tree.specs.declared.entry_mark.EntryMark.{EntryMark}
use Rattle.fm_tree.specs.Layout.{laid_out}
use Rattle.fm_rules.specs.BrokenUnit.{broken_in_unit}
use Rattle.fm_rules.specs.BrokenStructure.{broken_in_units}
use Rattle.fm_unit.specs.Entries.{built}
use Rattle.fm_rules.specs.UnitTitles.{is_function_named}
use Rattle.fm_unit.proofs.source.build.Goals as goal

pub add_unit-requires : goal.add_unit-requires
add_unit-requires c = c.as_slice-marks.ensures.value ∙ c.in_ok-entries.ensures ∙ ap laid_out c.as_slice.ensures

pub units-preserved : goal.units-preserved
units-preserved c =
    let rest : List (List Placed) = into_iter_items c.next.new.self in
    let unit = c.in-Some.statements in
    let test = is_function_named c.args.titles.now in
    let all = c.units.all.items in
    let best = c.units.best in
    let laid : c.as_slice-marks.result.now ≡ laid_out unit = c.as_slice-marks.ensures.value ∙ c.in_ok-entries.ensures ∙ ap laid_out c.as_slice.ensures in
    record {
      units = ap (λ (xs : List tree.Unit). xs ++ flat_map (built test) rest) c.in_ok-add_unit.ensures
          ∙ append_assoc all (built test unit) (flat_map (built test) rest)
          ∙ ap (λ (xs : List (List Placed)). all ++ flat_map (built test) xs) (sym c.in-Some.ensures.steps.0)
          ∙ c.units.invariant.units;
      best = ap (λ (b : Option Refusal). least_from b (broken_in_units rest)) (c.in_ok-best.ensures ∙ ap (λ (es : List EntryMark). least_from best (broken_in_unit es)) laid)
          ∙ sym (least_from_append best (broken_in_unit (laid_out unit)) (broken_in_units rest))
          ∙ ap (λ (xs : List (List Placed)). least_from best (broken_in_units xs)) (sym c.in-Some.ensures.steps.0)
          ∙ c.units.invariant.best;
    }

pub returns : goal.returns
returns c =
    let n = c.units.statements-iterator.rest.ok.0 in let z = c.in-None.ensures.steps.0 in
    let e : into_iter_items c.units.statements-iterator ≡ [] = nil_from_length _ (omega arith) in
    let test = is_function_named c.args.titles.now in
    let all = c.units.all.items in
    record {
      units = sym (append-nil all) ∙ ap (λ (xs : List (List Placed)). all ++ flat_map (built test) xs) (sym e) ∙ c.units.invariant.units;
      best = ap (λ (xs : List (List Placed)). least_from c.units.best (broken_in_units xs)) (sym e) ∙ c.units.invariant.best;
    }

use Rattle.std.proofs.Common.{refl}
use Rattle.std.specs.Prelude.{ℕ, List}
use Rattle.std.specs.List.{flat_map}
use Rattle.fm_tree.specs.declared.program_unit.Placed.{Placed}
use Rattle.fm_rules.specs.Sheets.{intents_at}
use Rattle.fm_names.proofs.Maps.{all_more}
use Rattle.fm_names.proofs.sheet.inputs.Goals as goal

pub specs-preserved : goal.specs-preserved
specs-preserved c =
    all_more (λ (i : ℕ) (p : Placed). intents_at p) (λ (i : ℕ) (ps : List Placed). flat_map intents_at ps) (λ i x xs. refl) c.args.specs.now c.specs.placed-index c.placed-item.result c.specs.inputs c.add_intents.new.inputs _
    c.specs-test.true c.placed-item.is c.in_ok-add_intents.ensures c.specs.invariant

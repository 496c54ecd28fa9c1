use Rattle.std.specs.Prelude.{ℕ, ◌+◌, List}
use Rattle.fm_tree.specs.declared.program_unit.Placed.{Placed}
use Rattle.fm_rules.specs.Sheets.{kinds_at, kinds_from}
use Rattle.fm_names_constants.specs.Kept.{kept_field_kind}
use Rattle.fm_names.specs.KeptSheets.{with_values}
use Rattle.fm_names.proofs.KeptMaps.{with_values_append}
use Rattle.fm_names.proofs.Maps.{all_more}
use Rattle.fm_names.proofs.sheet.add_all_kinds.Goals as goal

pub specs-preserved : goal.specs-preserved
specs-preserved c =
    let known = c.args.known.now in
    all_more (λ (i : ℕ) (p : Placed). with_values kept_field_kind (kinds_at known i p)) (λ (i : ℕ) (ps : List Placed). with_values kept_field_kind (kinds_from known i ps))
    (λ i p ps. with_values_append kept_field_kind (kinds_at known i p) (kinds_from known (i + 1) ps)) c.args.specs.now c.specs.at c.index-specs-at.result c.specs.kinds c.add_kinds_at.new.kinds _
    c.specs-test.true c.index-specs-at.is c.in_ok-add_kinds_at.ensures c.specs.invariant

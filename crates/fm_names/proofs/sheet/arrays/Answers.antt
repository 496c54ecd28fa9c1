use Rattle.std.proofs.Common.{sym, ap, ◌∙◌}
use Rattle.std.specs.Prelude.{ℕ, ◌+◌, List}
use Rattle.std.specs.List.{flat_map}
use Rattle.fm_tree.specs.declared.program_unit.Placed.{Placed}
use Rattle.fm_tree.specs.declared.statement.Decl.{Decl}
use Rattle.fm_symbols.specs.ByName.{with_all}
use Rattle.fm_rules.specs.ConstantParts.{decls_of}
use Rattle.fm_rules.specs.Sheets.{decl_shapes, shapes_from}
use Rattle.fm_names.specs.KeptSheets.{kept_array, with_values}
use Rattle.fm_names.proofs.KeptMaps.{with_values_append}
use Rattle.fm_names.proofs.Maps.{all_more}
use Rattle.fm_names.proofs.sheet.arrays.Goals as goal

pub specs-preserved : goal.specs-preserved
specs-preserved c =
    let known = c.args.known.now in
    all_more (λ (i : ℕ) (p : Placed). with_values kept_array (flat_map (decl_shapes known i) (decls_of p.stmt))) (λ (i : ℕ) (ps : List Placed). with_values kept_array (shapes_from known i ps))
    (λ i p ps. with_values_append kept_array (flat_map (decl_shapes known i) (decls_of p.stmt)) (shapes_from known (i + 1) ps))
    c.args.specs.now c.specs.at c.index-specs-at.result c.specs.arrays c.add_shapes.new.arrays _
    c.specs-test.true c.index-specs-at.is
    (c.in_ok-add_shapes.ensures ∙ ap (λ (ds : List Decl). with_all c.specs.arrays (with_values kept_array (flat_map (decl_shapes known c.specs.at) ds))) c.decls_of.ensures
    ∙ ap (λ (p : Placed). with_all c.specs.arrays (with_values kept_array (flat_map (decl_shapes known c.specs.at) (decls_of p.stmt)))) (sym c.index-specs-at.is))
    c.specs.invariant

use Rattle.std.proofs.Common.{◌≡◌, List, ap, ap₂, ◌∙◌}
use Rattle.std.specs.List.{flat_map}
use Rattle.fm_base.specs.Verdict.{least, least_from}
use Rattle.fm_tree.specs.declared.program_unit.Placed.{Placed}
use Rattle.fm_tree.specs.Units.{cut_of}
use Rattle.fm_symbols.specs.ByName.{ByName}
use Rattle.fm_rules.specs.declared.titles.Title.{Title}
use Rattle.fm_rules.specs.BrokenStructure.{broken_in_units, missing_end, program_lines, wrong_programs, wrong_titles}
use Rattle.fm_unit.specs.Entries.{built}
use Rattle.fm_rules.specs.UnitTitles.{is_function_named, titles_of}
use Rattle.fm_unit.proofs.Clean.{least_four}
use Rattle.fm_unit.proofs.source.judged.Goals as goal

pub returns : goal.returns
returns c =
    let source = c.args.statements.items in
    let cut : c.in_ok-cut.cut.items ≡ cut_of source = c.in_ok-cut.ensures in
    let units : c.as_slice-units.result.now ≡ cut_of source = c.as_slice-units.ensures.value ∙ cut in
    let titles : c.in_ok-titles.titles ≡ titles_of (cut_of source) = c.in_ok-titles.ensures ∙ ap titles_of units in
    record {
      units = c.in_ok-all.ensures.units
          ∙ ap (λ (m : ByName Title). flat_map (built (is_function_named m)) c.in_ok-cut.cut.items) titles
          ∙ ap (flat_map (built (is_function_named (titles_of (cut_of source))))) cut;
      best = least_four c.in_ok-best.best c.missing_end-ended.result c.wrong_titles-titled.result c.in_ok-all.best
          (wrong_programs (program_lines source)) (missing_end source) (wrong_titles (titles_of (cut_of source)) 0 (cut_of source)) (broken_in_units (cut_of source))
          (c.in_ok-best.ensures ∙ ap (λ (ps : List Placed). least (wrong_programs (program_lines ps))) c.as_slice-source.ensures.value)
          (c.missing_end-ended.ensures ∙ ap (λ (ps : List Placed). least_from c.in_ok-best.best (missing_end ps)) c.as_slice-source.ensures.value)
          (c.wrong_titles-titled.ensures ∙ ap₂ (λ (m : ByName Title) (us : List (List Placed)). least_from c.missing_end-ended.result (wrong_titles m 0 us)) titles units)
          (c.in_ok-all.ensures.best ∙ ap (λ (us : List (List Placed)). least_from c.wrong_titles-titled.result (broken_in_units us)) cut);
    }

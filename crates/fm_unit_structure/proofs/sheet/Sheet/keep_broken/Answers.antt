use Rattle.fm_base.specs.declared.rule.Rule.TheVariants.{E20, E21, E22, E23, E24, E25, E29}
use Rattle.fm_base.specs.Verdict.{when}
use Rattle.fm_rules.specs.BrokenUnit.{place_at}
use Rattle.fm_rules.specs.StructureLookups.{line_at}
use Rattle.fm_rules.specs.StructureRules.{is_badly_ended, is_foreign, is_misplaced, is_unmatched, jumps_into_block, lacks_target, repeats_label}
use Rattle.fm_unit_structure.proofs.Walks.{kept, kept_seven}
use Rattle.fm_unit_structure.proofs.sheet.Sheet.keep_broken.Goals as goal

pub returns : goal.returns
returns c =
    let es = c.args.self.now.entries.now in
    let k = c.args.k in
    let line = line_at es k in
    let e1 = kept c.args.best c.keep_if-best.result c.is_misplaced.result (is_misplaced es k) c.line_at-line.result line E20 c.keep_if-best.ensures c.is_misplaced.ensures c.line_at-line.ensures in
    let e2 = kept c.keep_if-best.result c.keep_if-best-2.result c.is_unmatched.result (is_unmatched es k) c.line_at-line.result line E21 c.keep_if-best-2.ensures c.is_unmatched.ensures c.line_at-line.ensures in
    let e3 = kept c.keep_if-best-2.result c.keep_if-best-3.result c.repeats_label.result (repeats_label es k) c.line_at-line.result line E22 c.keep_if-best-3.ensures c.repeats_label.ensures c.line_at-line.ensures in
    let e4 = kept c.keep_if-best-3.result c.keep_if-best-4.result c.lacks_target.result (lacks_target es k) c.line_at-line.result line E23 c.keep_if-best-4.ensures c.lacks_target.ensures c.line_at-line.ensures in
    let e5 = kept c.keep_if-best-4.result c.keep_if-best-5.result c.jumps_into_block.result (jumps_into_block es k) c.line_at-line.result line E24 c.keep_if-best-5.ensures c.jumps_into_block.ensures c.line_at-line.ensures in
    let e6 = kept c.keep_if-best-5.result c.keep_if-best-6.result c.is_badly_ended.result (is_badly_ended es k) c.line_at-line.result line E25 c.keep_if-best-6.ensures c.is_badly_ended.ensures c.line_at-line.ensures in
    let e7 = kept c.keep_if-best-6.result c.keep_if.result c.is_foreign.result (is_foreign es k) c.line_at-line.result line E29 c.keep_if.ensures c.is_foreign.ensures c.line_at-line.ensures in
    kept_seven c.args.best c.keep_if-best.result c.keep_if-best-2.result c.keep_if-best-3.result c.keep_if-best-4.result c.keep_if-best-5.result c.keep_if-best-6.result c.keep_if.result
    (when (is_misplaced es k) (place_at es k E20))
    (when (is_unmatched es k) (place_at es k E21))
    (when (repeats_label es k) (place_at es k E22))
    (when (lacks_target es k) (place_at es k E23))
    (when (jumps_into_block es k) (place_at es k E24))
    (when (is_badly_ended es k) (place_at es k E25))
    (when (is_foreign es k) (place_at es k E29))
    e1 e2 e3 e4 e5 e6 e7

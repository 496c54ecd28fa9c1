use Rattle.std.proofs.Common.{◌∙◌}
use Rattle.fm_rules.specs.BrokenConstants.{broken_decl}
use Rattle.fm_names_constants.proofs.Steps.{all_next}
use Rattle.fm_names_constants.proofs.judging.judge_decls.Goals as goal

pub decls-preserved : goal.decls-preserved
decls-preserved c =
    rw (c.judge_bounds-best.ensures, c.as_slice.ensures)
    (all_next (broken_decl c.args.known.now c.args.at c.args.line.0) c.decls.best c.args.decls.now c.decls.decl-index c.decl-item.result c.decls-test.true c.decl-item.is
    ∙ c.decls.invariant)

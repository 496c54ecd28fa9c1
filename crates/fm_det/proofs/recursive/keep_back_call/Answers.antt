use Rattle.std.proofs.Common.{◌∙◌, sym}
use Rattle.fm_base.specs.declared.rule.Rule.TheVariants.{E45}
use Rattle.fm_base.specs.Verdict.{place}
use Rattle.fm_det.specs.Search.{is_back}
use Rattle.fm_det.proofs.Backs.{kept_true}
use Rattle.fm_det.proofs.recursive.keep_back_call.Goals as goal

pub returns-then-is_back : goal.returns-then-is_back
returns-then-is_back c =
    let a = c.args in
    c.keep_earlier.ensures ∙ kept_true (is_back a.names.now a.unit a.call) a.best (place a.call.line.0 E45) (sym c.is_back.ensures ∙ c.if-is_back.true)

use Rattle.std.proofs.Common.{codes, ap, ◌∙◌}
use Rattle.std.proofs.lemmas.Result.{IfOk-weaker}
use Rattle.clap.specs.Words.{App, with_rule}
use Rattle.fm_words.specs.Values.{valued_rule, vars_rule}
use Rattle.fm_words.proofs.values.with_options.Goals as goal

pub returns : goal.returns
returns c =
    let two = c.in_ok-command-2.ensures ∙ ap (λ (a : App). with_rule a (valued_rule (codes "workers"))) c.in_ok-command.ensures in
    let three = c.in_ok-command-3.ensures ∙ ap (λ (a : App). with_rule a (valued_rule (codes "slice"))) two in
    let four = c.in_ok-command-4.ensures ∙ ap (λ (a : App). with_rule a (valued_rule (codes "plan"))) three in
    IfOk-weaker c.with_vars.result _ _ (λ r e. e ∙ ap (λ (a : App). with_rule a vars_rule) four) c.with_vars.ensures

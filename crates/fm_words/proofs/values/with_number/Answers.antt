use Rattle.std.proofs.Common.{rules, ◌≡◌, codes, ap, ◌∙◌}
use Rattle.std.proofs.lemmas.Result.{IfOk-weaker}
use Rattle.clap.specs.Simple.{new_rule}
use Rattle.clap.specs.Words.{app_of, rule_of, with_rule}
use Rattle.fm_words.proofs.values.with_number.Goals as goal

pub returns : goal.returns
returns c =
    let rule_is : rule_of c.new.result ≡ new_rule (codes "number") = search rules in
    IfOk-weaker c.arg.result _ _ (λ r a. a.shape (search rules) ∙ ap (with_rule (app_of c.args.command)) rule_is) c.arg.ensures

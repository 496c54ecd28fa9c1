use Rattle.std.proofs.Common.{ap, sym, ◌∙◌, drop, length}
use Rattle.fm_base.specs.Tokens.{keyword_text}
use Rattle.fm_token.proofs.TokenSteps.{keyed_none, keyed_push, keyed_bad, pushed}
use Rattle.fm_token.proofs.statements.push_keyed.Goals as goal

pub returns-then-is_nothing : goal.returns-then-is_nothing
returns-then-is_nothing c = λ _. keyed_none c.args.text.now c.class-class.result c.class-class.ensures (sym c.is_nothing.ensures ∙ c.if-is_nothing.true)

pub returns : goal.returns
returns c =
    let test = sym c.is_nothing.ensures ∙ c.if-is_nothing.false in
    let behind = c.behind.ensures ∙ ap (λ k. drop (length k) c.args.text.now) c.keyword.ensures ∙ ap (λ k. drop (length (keyword_text k)) c.args.text.now) c.class-class.ensures in
    pushed c.push_cut.result _ _ _ _ _
    (keyed_push c.args.out.now.items _ c.args.text.now _ c.class-class.result c.class-class.ensures test c.in_ok-push_key.ensures.ok behind)
    (keyed_bad c.args.text.now _ c.class-class.result c.class-class.ensures test behind)
    c.push_cut.ensures

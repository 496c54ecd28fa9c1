use Rattle.std.proofs.Common.{◌≤◌, List, ℕ, length, sym, subst, ap, ◌∙◌}
use Rattle.fm_make.proofs.Short.{made_text_short}
use Rattle.fm_make.proofs.Texts.{made_by_units}
use Rattle.fm_make.proofs.made.make.Goals as goal

pub returns-clause-text : goal.returns-clause-text
returns-clause-text c =
    ap (λ v. v.items) c.into_bytes.ensures.value
    ∙ made_by_units c.args.number c.stages_of-stages.result c.messages_of.result _ _ _ _ _ c.stages_of-stages.ensures c.messages_of.ensures c.new-out.ensures.bytes
    c.in_ok-push_program.ensures c.in_ok-push_feed.ensures c.in_ok-push_stages.ensures c.in_ok-push_take.ensures

pub returns-clause-short : goal.returns-clause-short
returns-clause-short c = subst (λ (t : List ℕ). length t ≤ 1000000) (sym (returns-clause-text c)) (made_text_short c.args.number)

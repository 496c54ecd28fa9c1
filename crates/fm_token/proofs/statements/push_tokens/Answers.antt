use Rattle.std.proofs.Common.{◌<◌, ◌≤◌, length, ap, sym, ◌∙◌}
use Rattle.fm_token.specs.Steps.{behind_items}
use Rattle.fm_token.proofs.Cuts.{behind_none}
use Rattle.fm_token.proofs.TokenSteps.{tokens_plain, logical_more, logical_bad, pushed}
use Rattle.fm_token.proofs.statements.push_tokens.Goals as goal

pub ifs-preserved : goal.ifs-preserved
ifs-preserved c =
    let w : (0 < c.in-Some.n) × (c.in-Some.n ≤ length c.ifs.rest.now) = rw c.in-Some.is at c.logical_end.ensures.within in
    logical_more c.ifs.out.items _ c.ifs.rest.now _ _ c.in-Some.n (sym c.logical_end.ensures.at ∙ c.in-Some.is) w.0 w.1 c.split_at.ensures.front c.split_at.ensures.back c.in-Ok.ensures
    ∙ c.ifs.invariant

pub returns-in-Err : goal.returns-in-Err
returns-in-Err c = λ e.
    let w : (0 < c.in-Some.n) × (c.in-Some.n ≤ length c.ifs.rest.now) = rw c.in-Some.is at c.logical_end.ensures.within in
    behind_none c.args.out.now.items _ (sym c.ifs.invariant ∙ ap (behind_items c.ifs.out.items)
    (logical_bad c.ifs.rest.now _ c.in-Some.n (sym c.logical_end.ensures.at ∙ c.in-Some.is) w.0 w.1 c.split_at.ensures.front (c.in-Err.ensures e)))

pub returns : goal.returns
returns c =
    let plain = tokens_plain c.ifs.rest.now (sym c.logical_end.ensures.at ∙ c.in_default.is) in
    pushed c.push_keyed.result _ _ _ _ _
    (ap (behind_items c.ifs.out.items) (sym plain) ∙ c.ifs.invariant)
    (λ e. behind_none c.args.out.now.items _ (sym c.ifs.invariant ∙ ap (behind_items c.ifs.out.items) (plain ∙ e)))
    c.push_keyed.ensures

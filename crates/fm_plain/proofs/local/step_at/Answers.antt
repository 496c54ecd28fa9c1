use Rattle.std.proofs.Common.{rules, ◌≡◌, ℕ, length, sym, ap, ◌∙◌}
use Rattle.std.specs.Option.{option_copied}
use Rattle.fm_mean.specs.Actions.{next_reference}
use Rattle.fm_plain.proofs.LocalLaws.{next_here}
use Rattle.fm_plain.proofs.StandingLaws.{statement_next}
use Rattle.fm_plain.proofs.local.step_at.Goals as goal

pub returns-in-None-clause-acts : goal.returns-in-None-clause-acts
returns-in-None-clause-acts c =
    let h = c.args.here.now in
    let f = c.args.top.now in
    let done : c.len.result ≡ length f.results.items = search rules in
    statement_next h (next_here h f) f c.statement.new.top c.args.below.now.items c.statement.new.below.items c.statement.result
    (ap (λ (n : ℕ). next_reference h.entry.now n) (sym done) ∙ (sym c.next_reference.ensures ∙ ap option_copied c.in-None.is)) c.statement.ensures.acts

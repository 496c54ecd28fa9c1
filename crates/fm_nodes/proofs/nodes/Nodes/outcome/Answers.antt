use Rattle.std.proofs.Common.{◌≡◌, ap, subst, ◌∙◌}
use Rattle.fm_sched.specs.Schedule.{IsFinal}
use Rattle.fm_rules.specs.declared.program.Program.{Program}
use Rattle.fm_mean.specs.Outcome.{outcome_of}
use Rattle.fm_mean.specs.Steps.{step}
use Rattle.fm_link_law.specs.Hosts.{state_of}
use Rattle.fm_nodes_hosts.specs.States.{hosts_in}
use Rattle.fm_plain_frame.specs.Frames.{proc_of}
use Rattle.fm_nodes.specs.Nodes.{Hosted}
use Rattle.fm_nodes.proofs.nodes.Nodes.outcome.Goals as goal

pub has_ended-requires : goal.has_ended-requires
has_ended-requires c = c.self.invariant.played

pub returns-then-branch : goal.returns-then-branch
returns-then-branch c =
    let s = c.self.inside.state in
    let shown = c.in_ok-shown.ensures ∙ ap (λ (p : Program). outcome_of p s.used (state_of (hosts_in (proc_of p) s.processes s.network))) c.program.ensures in
    subst (λ (h : Hosted). IsFinal (step h.program) (state_of h.run.hosts) × (c.in_ok-shown.shown ≡ outcome_of h.program h.run.used (state_of h.run.hosts))) c.self.view_is
    (c.in_ok-has_ended.ensures.ended c.if-branch.true, shown)

pub returns : goal.returns
returns c = subst (λ (h : Hosted). IsFinal (step h.program) (state_of h.run.hosts) → ⊥) c.self.view_is (c.in_ok-has_ended.ensures.goes_on c.if-branch.false)

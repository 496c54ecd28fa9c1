use Rattle.std.proofs.Common.{◌≡◌, true, false, subst}
use Rattle.std.specs.Prelude.{IfOk}
use Rattle.fm_sched.specs.Schedule.{IsFinal}
use Rattle.fm_mean.specs.Steps.{step}
use Rattle.fm_link_law.specs.Hosts.{state_of}
use Rattle.fm_nodes.specs.Nodes.{Hosted}
use Rattle.fm_nodes.proofs.nodes.Nodes.has_ended.Goals as goal

pub has_ended-requires : goal.has_ended-requires
has_ended-requires c = c.self.invariant.played

pub returns-clause-ended : goal.returns-clause-ended
returns-clause-ended c = subst (λ (h : Hosted). IfOk c.has_ended.result (λ over. over ≡ true → IsFinal (step h.program) (state_of h.run.hosts))) c.self.view_is c.has_ended.ensures.ended

pub returns-clause-goes_on : goal.returns-clause-goes_on
returns-clause-goes_on c = subst (λ (h : Hosted). IfOk c.has_ended.result (λ over. over ≡ false → IsFinal (step h.program) (state_of h.run.hosts) → ⊥)) c.self.view_is c.has_ended.ensures.goes_on

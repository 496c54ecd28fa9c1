use Rattle.std.proofs.Common.{◌≡◌, true, false, subst}
use Rattle.std.specs.Prelude.{IfOk}
use Rattle.fm_sched.specs.Schedule.{IsFinal}
use Rattle.fm_mean.specs.Steps.{step}
use Rattle.fm_link_law.specs.Hosts.{state_of}
use Rattle.fm_nodes.specs.Played.{Played}
use Rattle.fm_nodes.proofs.playing.PlayingHosts.has_ended.Goals as goal

pub returns-clause-ended : goal.returns-clause-ended
returns-clause-ended c = subst (λ (a : Played). IfOk c.has_ended.result (λ over. over ≡ true → IsFinal (step a.hosted.program) (state_of a.hosted.run.hosts))) c.self.view_is c.has_ended.ensures.ended

pub returns-clause-goes_on : goal.returns-clause-goes_on
returns-clause-goes_on c = subst (λ (a : Played). IfOk c.has_ended.result (λ over. over ≡ false → IsFinal (step a.hosted.program) (state_of a.hosted.run.hosts) → ⊥)) c.self.view_is c.has_ended.ensures.goes_on

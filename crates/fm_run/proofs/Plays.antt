-- The laws of a play along every schedule.
use Rattle.std.proofs.Common.{◌≡◌, ℕ, ◌≤◌, Some}
use Rattle.fm_sched.specs.Schedule.{Throughout}
use Rattle.fm_net.specs.Machine.{Place, State}
use Rattle.fm_net.specs.Owned.{IsOwned}
use Rattle.fm_net.proofs.Costs as costs
use Rattle.fm_net.proofs.First.{main_owned}
use Rattle.fm_net.proofs.Laws as net
use Rattle.fm_run.specs.Plays.{IsLawfulPlay, Play, language, step, first}

pub owned_along : (p : Play) → IsLawfulPlay p → Throughout (step p) (IsOwned (language p)) (first p)
owned_along p law = net.owned_throughout p.speaks law.lawful (first p) (main_owned p.speaks p.main law.free)

pub step_costs : (p : Play) → IsLawfulPlay p → (s : State p.Proc) (q : Place) (t : State p.Proc × ℕ) → step p s q ≡ Some t → 1 ≤ t.1
step_costs p law s q t e = costs.step_costs p.speaks law.lawful s q t e

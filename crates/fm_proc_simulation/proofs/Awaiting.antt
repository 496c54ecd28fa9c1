-- The children for which a process of stack code waits are those for which that of the meaning does.
use Rattle.std.proofs.Common.{◌≡◌, ℕ, Some, List, refl, ap₂}
use Rattle.fm_symbols.specs.declared.names.Variable.{Variable}
use Rattle.fm_rules.specs.declared.program.Program.{Program}
use Rattle.fm_mean.specs.Process as mean
use Rattle.fm_mean.specs.Process.{Ended, Faulted, Joining, Proc, Running}
use Rattle.fm_proc_language.specs.Processes as code
use Rattle.fm_proc_language.specs.Processes.{CodeProc}
use Rattle.fm_procs.specs.Readings as stacks
use Rattle.fm_run.specs.Awaited as run
use Rattle.fm_proc_simulation.specs.Corresponds.{Corresponds, PhaseStands, first_variables}
use Rattle.fm_proc_simulation.proofs.Joins.{as_many_kids}

-- the same children, by the phases
phases_await : (p : Program) (mine : List Variable) (a : mean.Phase) (b : code.Phase) → PhaseStands p mine a b → stacks.awaited_in b ≡ run.awaited_in a
phases_await p mine Running code.Running stand = refl
phases_await p mine Running (code.Joining block kids) stand = absurd stand
phases_await p mine Running code.Ended stand = absurd stand
phases_await p mine Running (code.Faulted line fault) stand = absurd stand
phases_await p mine (Joining b ks) code.Running stand = absurd stand
phases_await p mine (Joining b ks) (code.Joining block kids) stand = ap₂ (λ (u v : ℕ). Some (u, v)) stand.0 (as_many_kids p mine ks kids stand.1)
phases_await p mine (Joining b ks) code.Ended stand = absurd stand
phases_await p mine (Joining b ks) (code.Faulted line fault) stand = absurd stand
phases_await p mine Ended code.Running stand = absurd stand
phases_await p mine Ended (code.Joining block kids) stand = absurd stand
phases_await p mine Ended code.Ended stand = refl
phases_await p mine Ended (code.Faulted line fault) stand = absurd stand
phases_await p mine (Faulted l f) code.Running stand = absurd stand
phases_await p mine (Faulted l f) (code.Joining block kids) stand = absurd stand
phases_await p mine (Faulted l f) code.Ended stand = absurd stand
phases_await p mine (Faulted l f) (code.Faulted line fault) stand = refl

pub same_children : (p : Program) (x : Proc) (y : CodeProc) → Corresponds p y x → stacks.awaits y ≡ run.awaits x
same_children p x y alike = phases_await p (first_variables p x.execution.frames) x.phase y.phase alike.phase

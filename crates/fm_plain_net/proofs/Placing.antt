-- What a process does, at its place among the processes.
use Rattle.std.proofs.Common.{◌≡◌, ℕ, Some, List, subst}
use Rattle.fm_base.specs.Channels.{Chans}
use Rattle.fm_net.specs.Machine.{Place}
use Rattle.fm_rules.specs.declared.program.Program.{Program}
use Rattle.fm_mean.specs.Process.{Proc}
use Rattle.fm_plain_net.specs.declared.ports.Ports.{Ports}
use Rattle.fm_plain_net.specs.Goes.{Joins, JoinsAt}
use Rattle.fm_plain_net.specs.Readings.{proc_in, Processes, procs_of, Slot, tree_of}
use Rattle.fm_net_procs.proofs.Maps.{Puts, puts_one}

-- the process at a place did it, and it alone changed
pub joins_at : (program : Program) (p : Place) (x w : Proc) → Some w ≡ Some x → (next : ℕ) (kids : List Proc) (ports : Ports) (m : Chans) (old new : Processes) (y : Slot) → Puts old new p y
    → (n : Chans) (later : Ports) (cost : ℕ) → Joins w next kids ports m (proc_in program y) n later cost → JoinsAt p x next kids ports m (procs_of program old) (procs_of program new) n later cost
joins_at program p x w same next kids ports m old new y puts n later cost does =
    let one : w ≡ x = cc same in
    record {
      after = proc_in program y;
      joins = subst (λ (v : Proc). Joins v next kids ports m (proc_in program y) n later cost) one does;
      procs_are = puts_one (tree_of program) old new p y puts;
    }

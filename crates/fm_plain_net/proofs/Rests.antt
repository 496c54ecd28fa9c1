-- A process that has ended does nothing more.
use Rattle.std.proofs.Common.{◌≡◌, true, Option, Some, None, sym, ap, ◌∙◌}
use Rattle.fm_rules.specs.declared.program.Program.{Program}
use Rattle.fm_mean.specs.Outcome.{ended_at, need_in, need_of}
use Rattle.fm_mean.specs.Process.{Proc, emptied, has_ended}
use Rattle.fm_mean.proofs.Lawful.{lawful}

pub ended_rests : (program : Program) (x : Proc) → has_ended x ≡ true → need_of program (emptied x) ≡ None
ended_rests program x done = ap need_in ((lawful program).stops (emptied x) ((lawful program).stays_ended x done))

pub emptied_rests : (program : Program) (o : Option Proc) (x y : Proc) → o ≡ Some x → ended_at o ≡ true → y ≡ emptied x → need_of program y ≡ None
emptied_rests program o x y is done e = ap (need_of program) e ∙ ended_rests program x (sym (ap ended_at is) ∙ done)

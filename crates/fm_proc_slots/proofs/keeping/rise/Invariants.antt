use Rattle.std.proofs.Common.{◌≡◌, length}
use Rattle.fm_proc_slots.specs.Keeps.{rise}
use Rattle.fm_proc_slots.proofs.keeping.rise.Given as goal

abbrev pub invariant-formals : goal.invariant-formals
invariant-formals l = rise l.rest ≡ rise l.formals

abbrev pub decreases-formals : goal.decreases-formals
decreases-formals l = length l.rest

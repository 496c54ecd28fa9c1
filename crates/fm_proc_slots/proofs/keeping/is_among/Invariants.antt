use Rattle.std.proofs.Common.{◌≡◌, drop}
use Rattle.fm_proc_language.specs.Frames.{is_kept}
use Rattle.fm_proc_slots.proofs.keeping.is_among.Given as goal

abbrev pub invariant-formals : goal.invariant-formals
invariant-formals l = is_kept (drop l.formal-index l.formals) l.span ≡ is_kept l.formals l.span

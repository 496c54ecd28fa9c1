use Rattle.std.proofs.Common.{ℕ, ◌+◌, drop}
use Rattle.fm_code.specs.Passing.{back_words}
use Rattle.fm_proc_language.specs.Frames.{all_given}
use Rattle.fm_proc_slots.specs.Joins.{GivesAlike, HasRoomFor, joined}
use Rattle.fm_proc_slots.proofs.joining.give_back.Given as goal

abbrev pub invariant-backs : goal.invariant-backs
invariant-backs l = record {
  given : GivesAlike (all_given (joined l.fn.gains l.fn.child) l.backs) (all_given (joined l.gains l.child) (drop l.back-index l.backs));
  room : (n : ℕ) → HasRoomFor l.fn.gains (back_words l.backs + n) → HasRoomFor l.gains (back_words (drop l.back-index l.backs) + n);
}

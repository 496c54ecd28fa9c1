use Rattle.std.proofs.Common.{◌≡◌, ◌+◌, ◌++◌, length}
use Rattle.fm_code.specs.Passing.{merged, displaced}
use Rattle.fm_machine_calls.proofs.giving.merge.Given as goal

abbrev pub invariant-words : goal.invariant-words
invariant-words l = record {
  merges : l.words ++ merged l.mine l.theirs ≡ merged l.fn.mine l.fn.theirs;
  drops : l.drops ++ displaced l.mine l.theirs ≡ l.fn.drops ++ displaced l.fn.mine l.fn.theirs;
  size : length l.words + length l.mine ≡ length l.fn.mine;
  same : length l.mine ≡ length l.theirs;
}

abbrev pub decreases-words : goal.decreases-words
decreases-words l = length l.mine

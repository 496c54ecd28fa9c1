use Rattle.std.proofs.Common.{◌≡◌, ◌++◌, drop}
use Rattle.std.specs.Prelude.{reverse}
use Rattle.std.specs.List.{flat_map}
use Rattle.fm_shown.specs.Holding.{words_held}
use Rattle.fm_shown.proofs.holders.push_frames.Given as goal

abbrev pub invariant-frames : goal.invariant-frames
invariant-frames l = l.words ≡ l.fn.words ++ flat_map (words_held l.code) (reverse (drop l.k l.frames))

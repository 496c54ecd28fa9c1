-- What a child gives back to its parent, each with slots of its own, and what that is in the meaning.
-- Source: this profile.
use Rattle.std.specs.Prelude.{◌≡◌, ℤ, List}
use Rattle.fm_symbols.specs.declared.names.Variable.{Variable}
use Rattle.fm_mean.specs.Places.{Returned}
use Rattle.fm_proc_language.specs.Frames.{Held, Joined}
use Rattle.fm_proc_simulation.specs.SlotWords.{GoesTo}

-- the frames of both, which began as these, go to what both are in the meaning, and the same ports are let go in the same order
pub record JoinsAlike (parent child : List Variable) (others1 others2 : List ℤ) (h k : Held) (j : Joined) (r : Returned) : Type 0 where
  pub mine : GoesTo parent others1 h j.mine r.mine
  pub theirs : GoesTo child others2 k j.theirs r.theirs
  pub drops : j.drops ≡ r.drops

-- What a table's answer says of its history, whatever it was.
use Rattle.std.proofs.Common.{◌≡◌, ℕ, List, [], ◌∷◌, ◌++◌, inl, inr}
use Rattle.fm_base.specs.declared.schedule.Turn.{Turn}
use Rattle.fm_workers.specs.declared.shared.Given.{Given}
use Rattle.fm_workers.specs.declared.shared.Given.TheVariants.{Played, Stranger, Over}
use Rattle.fm_workers.specs.Histories.{entry, HasGrown, HasPlayed, IsGiven}

-- one entry that came was played
pub plays_one : (process steps : ℕ) (old new : List Turn) → new ≡ old ++ entry process steps ∷ [] → HasPlayed process old new
plays_one process steps old new is = inr (steps, is)

-- whatever a table answers, it has played one entry of that process or nothing
pub plays_at_most_once : (given : Given) (process : ℕ) (old new : List Turn) → IsGiven given process old new → HasPlayed process old new
plays_at_most_once Played process old new is = is
plays_at_most_once Stranger process old new is = inl is
plays_at_most_once Over process old new is = inl is

-- where nothing was played, no more than one entry has come
pub plays_nothing : (old new : List Turn) → new ≡ old → HasGrown old new
plays_nothing old new is = inl is

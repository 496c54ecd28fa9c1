-- What a lane and its thieves have put and taken, and which lane a thief takes from.
-- Source: work stealing, as in R. D. Blumofe and C. E. Leiserson, Scheduling Multithreaded Computations by Work
-- Stealing, J. ACM 46 (1999); that items have tickets is this profile's.
use Rattle.std.specs.Prelude.{◌≡◌, ◌<◌, ℕ, List, [], ◌∷◌, ◌++◌, length, All}
use Rattle.crossbeam_deque.specs.Handles.{view, worker_view, worker_deque, worker_port, worker_flavor, stealer_deque}
use Rattle.crossbeam_deque.specs.declared.handles.Worker.{Worker}
use Rattle.fm_steal.specs.Deals.{WasEmpty}
use Rattle.fm_steal.specs.declared.handles.Lane.{Lane}
use Rattle.fm_steal.specs.declared.handles.Thief.{Thief}

module _ {T : Type 0} where
  -- the items whose puts succeeded, in the order of their tickets
  abbrev pub put_list : Lane T → List T
  put_list lane = (worker_view lane.worker).put

  -- what the lane's owner took, each item with its ticket
  abbrev pub got_list : Lane T → List (ℕ × T)
  got_list lane = (worker_view lane.worker).got

  -- how many thieves it has
  abbrev pub thieves_of : Lane T → ℕ
  thieves_of lane = lane.thieves

  -- how many items it takes in all
  abbrev pub capacity_of : Lane T → ℕ
  capacity_of lane = lane.room

  -- what a thief took, each item with its ticket
  abbrev pub loot_list : Thief T → List (ℕ × T)
  loot_list thief = (view thief.pass).got

  -- the lane was empty at a moment when the thief had taken no more than this
  abbrev pub FoundEmpty : Thief T → Type 0
  FoundEmpty thief = WasEmpty (view thief.pass)

  -- what thieves took, one after the other
  abbrev pub all_loot_list : List (Thief T) → List (ℕ × T)
  all_loot_list [] = []
  all_loot_list (t ∷ ts) = loot_list t ++ all_loot_list ts

  -- it takes items from this lane
  abbrev pub IsThiefOf : Lane T → Thief T → Type 0
  IsThiefOf lane thief = stealer_deque thief.stealer ≡ worker_deque lane.worker

  -- these are all thieves of the lane
  abbrev pub AreThievesOf : Lane T → List (Thief T) → Type 0
  AreThievesOf lane thieves = (length thieves ≡ thieves_of lane) × All (IsThiefOf lane) thieves

  -- the lane has taken nothing in, and nothing has been taken from it
  abbrev pub IsNewLane : ℕ → ℕ → Lane T → Type 0
  IsNewLane capacity thieves lane =
      (put_list lane ≡ []) × (got_list lane ≡ []) × (capacity_of lane ≡ capacity) × (thieves_of lane ≡ thieves)

  -- so many thieves of the lane, who have taken nothing
  abbrev pub AreNewThieves : ℕ → Lane T → List (Thief T) → Type 0
  AreNewThieves count lane thieves =
      (length thieves ≡ count) × All (λ t. IsThiefOf lane t × (loot_list t ≡ [])) thieves

  -- the item was put in with this ticket
  abbrev pub IsPut : Lane T → Lane T → T → ℕ → Type 0
  IsPut old new item ticket =
      (ticket ≡ length (put_list old)) × (put_list new ≡ put_list old ++ item ∷ [])
      × (length (put_list old) < capacity_of old)

  -- the lane had taken as many items as it can, and the item came back
  abbrev pub IsRefused : Lane T → Lane T → T → T → Type 0
  IsRefused old new item back =
      (back ≡ item) × (put_list new ≡ put_list old) × (length (put_list old) ≡ capacity_of old)

  -- it is the same lane, with as many thieves and as much room
  abbrev pub SameLane : Lane T → Lane T → Type 0
  SameLane old new =
      (worker_deque new.worker ≡ worker_deque old.worker) × (new.room ≡ old.room) × (new.thieves ≡ old.thieves)

  -- it takes from the same lane
  abbrev pub SameThief : Thief T → Thief T → Type 0
  SameThief old new = stealer_deque new.stealer ≡ stealer_deque old.stealer

-- the owner's pass is the first one of a deque that gives out its oldest item first
abbrev pub IsOwner : {T A V P : Type 0} → Worker T A V P → Type 0
IsOwner worker = (worker_port worker ≡ 0) × (worker_flavor worker ≡ 0)

-- What a worker took, and what became of it.
-- Source: this profile.
use Rattle.std.specs.Prelude.{◌≡◌, ◌≢◌, ◌<◌, ◌⊎◌, ⊤, ℕ, ◌+◌, Option, Some, None, IfNone, List, [], ◌∷◌, ◌++◌, length, slice_get, sum_by}
use Rattle.fm_pool.specs.Desks.{last_of}
use Rattle.fm_pool.specs.declared.desk.Next.{Next}
use Rattle.fm_pool.specs.declared.desk.Next.TheVariants.{Runs, Goes, Waits, Stops}
use Rattle.fm_steal.specs.Deals.{AreTaken}
use Rattle.fm_steal.specs.Lanes.{FoundEmpty, put_list, got_list, loot_list}
use Rattle.fm_steal.specs.declared.handles.Thief.{Thief}
use Rattle.fm_steal_pool.specs.declared.crew.Worker.{Worker}

module _ {P : Type 0} where
  -- what the pieces of pairs weigh together, where each weighs h
  abbrev pub weight : (h : P → ℕ) → List (ℕ × P) → ℕ
  weight h pairs = sum_by (λ (p : ℕ × P). h p.1) pairs

  -- what was taken from the lanes of others weighs this
  abbrev pub loot_weight : (h : P → ℕ) → List (Thief P) → ℕ
  loot_weight h thieves = sum_by (λ (t : Thief P). weight h (loot_list t)) thieves

  -- what a worker took from its own lane and from those of the others weighs this
  abbrev pub taken_weight : (h : P → ℕ) → Worker P → ℕ
  taken_weight h w = weight h (got_list w.lane) + loot_weight h w.others.items

  -- what a piece weighs, and nothing where there is none
  abbrev pub hand_weight : (h : P → ℕ) → Option P → ℕ
  hand_weight h None = 0
  hand_weight h (Some piece) = h piece

  -- what the worker took from lanes is what it had taken and what it hands on: the same pieces, as they weigh the same whatever each weighs
  abbrev pub HandsOn : (old new : Worker P) → Option P → Type 0
  HandsOn old new handed = (h : P → ℕ) → taken_weight h new ≡ taken_weight h old + hand_weight h handed

  -- so, or it hands on one that came from the desk
  abbrev pub Hands : (old new : Worker P) → Option P → Type 0
  Hands old new handed = HandsOn old new handed ⊎ HandsOn old new None

  -- it is the same worker, with as many ways into other lanes
  abbrev pub IsSameWorker : (old new : Worker P) → Type 0
  IsSameWorker old new = (new.number ≡ old.number) × (length new.others.items ≡ length old.others.items)

  -- and nothing has come to its own lane
  abbrev pub HasPutNothing : (old new : Worker P) → Type 0
  HasPutNothing old new = (put_list new.lane ≡ put_list old.lane) × IsSameWorker old new

  -- all that had been put into the worker's own lane had been taken
  abbrev pub IsBare : Worker P → Type 0
  IsBare w = AreTaken (put_list w.lane) (got_list w.lane)

  -- the thief at this place found its lane empty
  abbrev pub WasEmptyAt : ℕ → List (Thief P) → Type 0
  WasEmptyAt place thieves = (t : Thief P) → slice_get thieves place ≡ Some t → FoundEmpty t

  -- each of these did
  abbrev pub WereEmpty : List (Thief P) → Type 0
  WereEmpty thieves = (place : ℕ) → WasEmptyAt place thieves

  -- all thieves but the one at this place are as they were
  abbrev pub SameElsewhere : ℕ → (old new : List (Thief P)) → Type 0
  SameElsewhere place old new = (k : ℕ) → k ≢ place → slice_get new k ≡ slice_get old k

  -- what a worker takes next from its own lane: nothing only where all had been taken
  abbrev pub IsOwn : (old new : Worker P) → Option P → Type 0
  IsOwn old new handed = HandsOn old new handed × HasPutNothing old new × IfNone handed (IsBare old)

  -- so, and else from a lane of the others: nothing only where each of these was empty too
  abbrev pub IsReached : (old new : Worker P) → Option P → Type 0
  IsReached old new handed = IsOwn old new handed × IfNone handed (WereEmpty old.others.items)

  -- the pieces that were given out, by the answers of a desk, the last answer first
  abbrev pub given_out : List (Next P) → List P
  given_out [] = []
  given_out (Runs piece ∷ answers) = given_out answers ++ piece ∷ []
  given_out (Goes ∷ answers) = given_out answers
  given_out (Waits ∷ answers) = given_out answers
  given_out (Stops ∷ answers) = given_out answers

  -- the piece that is computed next
  abbrev pub hand_of : Next P → Option P
  hand_of (Runs piece) = Some piece
  hand_of Goes = None
  hand_of Waits = None
  hand_of Stops = None

  -- it computes a piece next, if there is one
  abbrev pub or_else : Option P → Next P → Next P
  or_else (Some piece) next = Runs piece
  or_else None next = next

  -- what a worker does next behind what a desk said: it computes the piece that came back, or one of its own lane;
  -- where it would wait, also one of a lane of the others; and it does what the desk said where there is none
  abbrev pub IsFound : (mid new : Worker P) → (said next : Next P) → Type 0
  IsFound mid new (Runs piece) next = (new ≡ mid) × (next ≡ Runs piece)
  IsFound mid new Goes next = (handed : Option P) × IsOwn mid new handed × (next ≡ or_else handed Goes)
  IsFound mid new Waits next = (handed : Option P) × IsReached mid new handed × (next ≡ or_else handed Waits)
  IsFound mid new Stops next = (handed : Option P) × IsOwn mid new handed × (next ≡ or_else handed Stops)

  -- it asks the desk again
  abbrev pub AsksAgain : Next P → Type 0
  AsksAgain (Runs piece) = ⊥
  AsksAgain Goes = ⊤
  AsksAgain Waits = ⊤
  AsksAgain Stops = ⊥

  -- each answer gave a piece out
  abbrev pub ArePieces : List (Next P) → Type 0
  ArePieces answers = length (given_out answers) ≡ length answers

  -- behind pieces it says what the last answer said; or some pieces were enough, and it goes on
  abbrev pub EndsIn : List (Next P) → Next P → Type 0
  EndsIn answers said =
      ((pieces : List (Next P)) × (answers ≡ said ∷ pieces) × ArePieces pieces)
      ⊎ ((said ≡ Goes) × (0 < length answers) × ArePieces answers)

  -- a piece that comes back, behind others
  abbrev pub with_back : List P → Option P → List P
  with_back pieces None = pieces
  with_back pieces (Some piece) = pieces ++ piece ∷ []

module _ {D P : Type 0} (step : Next P → D → D → Type 0) where
  -- a desk answered so, the last answer first
  abbrev pub AreAnswers : List (Next P) → D → D → Type 0
  AreAnswers [] a c = c ≡ a
  AreAnswers (next ∷ answers) a c = (b : D) × AreAnswers answers a b × step next b c

  -- each piece that the desk gave out was put into the worker's lane, or comes back; and the desk said this last
  abbrev pub IsFilled : (old new : Worker P) → Next P → D → D → Type 0
  IsFilled old new back a c =
      (answers : List (Next P)) × AreAnswers answers a c
      × (with_back (put_list new.lane) (hand_of back) ≡ put_list old.lane ++ given_out answers) × EndsIn answers back

module _ {D P : Type 0} (step : (worker : ℕ) → Next P → D → D → Type 0) where
  -- a turn of the worker at a desk: pieces come into its lane, and what it does next is found
  abbrev pub IsTurn : (old new : Worker P) → Next P → D → D → Type 0
  IsTurn old new next a c =
      (mid : Worker P) × (said : Next P) × IsFilled (step old.number) old mid said a c
      × HandsOn old mid None × IsSameWorker old mid × IsFound mid new said next

  -- so at some desk, as others change it between turns
  abbrev pub HasTurned : (old new : Worker P) → Next P → Type 0
  HasTurned old new next = (a : D) × (c : D) × IsTurn old new next a c

  -- turns behind which there was no piece to compute, the last one first
  abbrev pub HasWaited : List (Next P) → Worker P → Worker P → Type 0
  HasWaited [] a c = c ≡ a
  HasWaited (next ∷ turns) a c = (b : Worker P) × HasWaited turns a b × HasTurned b c next × AsksAgain next

  -- the worker took turns until there was a piece to compute, which is handed on, or until it stopped
  abbrev pub IsServed : (old new : Worker P) → Option P → Type 0
  IsServed old new handed =
      (turns : List (Next P)) × (b : Worker P) × HasWaited turns old b × HasTurned b new (last_of handed)

  -- a piece of a lane is handed on; or there was none, and turns at the desk served the worker
  abbrev pub IsNextPiece : (old new : Worker P) → Option P → Type 0
  IsNextPiece old new handed =
      ((piece : P) × (handed ≡ Some piece) × IsReached old new handed)
      ⊎ ((b : Worker P) × IsReached old b None × IsServed b new handed)

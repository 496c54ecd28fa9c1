-- How many pieces are out with workers that still work, what that says to a worker who finds none ready, what is played meanwhile, and
-- which answers of the table decide what a worker does.
-- Source: this profile.
use Rattle.std.specs.Prelude.{◌≡◌, ◌<◌, ◌+◌, ◌⊎◌, ℕ, Bool, true, false, Option, Some, None, Result, Ok, Err, MatchBool, List, min}
use Rattle.fm_base.specs.declared.memory.NoMemory.{NoMemory}
use Rattle.fm_base.specs.declared.schedule.Turn.{Turn}
use Rattle.fm_workers.specs.Histories.{HasGrown}
use Rattle.fm_workers.specs.declared.shared.Given.{Given}
use Rattle.fm_workers.specs.declared.shared.Phase.{Phase}
use Rattle.fm_workers.specs.declared.shared.Phase.TheVariants.{Going, Ended, Spent}
use Rattle.fm_pool.specs.declared.desk.Desk.{Desk}
use Rattle.fm_pool.specs.declared.desk.Next.{Next}
use Rattle.fm_pool.specs.declared.desk.Next.TheVariants.{Runs, Goes, Waits, Stops}

-- who runs counts, up to the greatest number, and nobody waits but for one who runs
abbrev pub IsCounted : {P : Type 0} → Next P → ℕ → ℕ → Type 0
IsCounted (Runs piece) old new = new ≡ min (old + 1) 4294967295
IsCounted Goes old new = new ≡ old
IsCounted Waits old new = (0 < old) × (new ≡ old)
IsCounted Stops old new = new ≡ old

-- nothing was played, but where the table made a piece by itself
abbrev pub IsPassed : {P : Type 0} → Next P → List Turn → List Turn → Type 0
IsPassed (Runs piece) old new = new ≡ old
IsPassed Goes old new = HasGrown old new
IsPassed Waits old new = new ≡ old
IsPassed Stops old new = new ≡ old

-- ---- what a worker does, by what the table answers: a is the table before, and c the table after

-- nothing is done
abbrev pub IsSame : {T : Type 0} → T → T → Type 0
IsSame a c = c ≡ a

module _ {T : Type 0} (turns : ℕ → T → Result Bool NoMemory → T → Type 0) (light : Bool) (worker : ℕ) where
  -- the table was asked to make a piece by itself, and answered; where it isn't to be asked, it made none
  abbrev pub IsMade : Result Bool NoMemory → T → T → Type 0
  IsMade answer a c = MatchBool light (turns worker a answer c) ((answer ≡ Ok false) × (c ≡ a))

module _ {T P : Type 0} (takes : ℕ → T → Result (Option P) NoMemory → T → Type 0) (leaves : T → T → Type 0) (nobody : Type 0) (worker : ℕ) where
  -- the table gave a piece out, which the worker computes; or it gave none, and the worker waits, or it stops as nobody has a piece; or
  -- memory lacked, and the worker stops
  abbrev pub IsTaken : Next P → T → T → Type 0
  IsTaken next a c =
      ((piece : P) × (next ≡ Runs piece) × takes worker a (Ok (Some piece)) c)
      ⊎ (((next ≡ Waits) × takes worker a (Ok None) c)
      ⊎ (((next ≡ Stops) × nobody × takes worker a (Ok None) c)
      ⊎ ((b : T) × (e : NoMemory) × (next ≡ Stops) × takes worker a (Err e) b × leaves b c)))

module _ {T P : Type 0} (takes : ℕ → T → Result (Option P) NoMemory → T → Type 0) (turns : ℕ → T → Result Bool NoMemory → T → Type 0) (leaves : T → T → Type 0) (nobody : Type 0) (light : Bool) (worker : ℕ) where
  -- the table made a piece by itself, and the worker goes on; or it made none, and was asked for one to take; or memory lacked, and the
  -- worker stops
  abbrev pub IsGoing : Next P → T → T → Type 0
  IsGoing next a c =
      ((next ≡ Goes) × IsMade turns light worker (Ok true) a c)
      ⊎ (((b : T) × IsMade turns light worker (Ok false) a b × IsTaken takes leaves nobody worker next b c)
      ⊎ ((b : T) × (e : NoMemory) × (next ≡ Stops) × IsMade turns light worker (Err e) a b × leaves b c))

  -- the table is over, and the worker stops; or the table goes on
  abbrev pub IsNext : (tells : T → Phase → Type 0) → Next P → T → T → Type 0
  IsNext tells next a c = ((next ≡ Stops) × (tells a Ended ⊎ tells a Spent) × (c ≡ a)) ⊎ (tells a Going × IsGoing next a c)

module _ {T P : Type 0} (takes : ℕ → T → Result (Option P) NoMemory → T → Type 0) (turns : ℕ → T → Result Bool NoMemory → T → Type 0) (tells : T → Phase → Type 0) (light : Bool) (worker : ℕ) where
  -- so at a desk, where nothing is done for want of memory
  abbrev pub IsNextAt : Next P → Desk T → Desk T → Type 0
  IsNextAt next a c = IsNext takes turns IsSame (a.working ≡ 0) light worker tells next a.table c.table

module _ {T D : Type 0} (gives : D → T → Result Given (D × NoMemory) → T → Type 0) (leaves : T → T → Type 0) where
  -- what a piece came to was given, and the table answered, so the worker goes on; or memory lacked, and it stops
  abbrev pub IsBrought : D → (goes_on : Bool) → T → T → Type 0
  IsBrought done goes_on a c =
      MatchBool goes_on ((given : Given) × gives done a (Ok given) c)
      ((b : T) × (e : D × NoMemory) × gives done a (Err e) b × leaves b c)

-- ---- what a worker gets at desks, as others change the desk whenever the lock is free

-- it computes a piece, or it stops
abbrev pub last_of : {P : Type 0} → Option P → Next P
last_of None = Stops
last_of (Some piece) = Runs piece

module _ {D P : Type 0} (step : Next P → D → D → Type 0) where
  -- a desk said this last
  abbrev pub IsServed : Option P → Type 0
  IsServed handed = (a : D) × (c : D) × step (last_of handed) a c

module _ {T D : Type 0} (gives : D → T → Result Given (D × NoMemory) → T → Type 0) where
  -- what a piece came to was brought to a table, where nothing is done for want of memory
  abbrev pub HasBrought : D → (goes_on : Bool) → Type 0
  HasBrought done goes_on = (a : T) × (c : T) × IsBrought gives IsSame done goes_on a c

module _ {T D P : Type 0} (gives : D → T → Result Given (D × NoMemory) → T → Type 0) (step : Next P → Desk T → Desk T → Type 0) where
  -- it was brought, and a desk served the worker; or memory lacked, and the worker stops
  abbrev pub IsExchanged : D → Option P → Type 0
  IsExchanged done handed = (HasBrought gives done true × IsServed step handed) ⊎ (HasBrought gives done false × (handed ≡ None))

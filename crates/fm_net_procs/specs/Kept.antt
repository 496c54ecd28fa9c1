-- What is kept of each process beside itself.
-- Source: this profile.
use Rattle.std.specs.Prelude.{◌≡◌, ◌≢◌, ◌<◌, ◌+◌, ℕ, Option, Some, None, List, slice_get}
use Rattle.std.specs.FinMap.{get}
use Rattle.fm_finmap.specs.Rows.{numbered_map}
use Rattle.fm_net.specs.Machine.{Place, child}
use Rattle.fm_net_procs.specs.declared.entries.Entry.{Entry}
use Rattle.fm_net_procs.specs.declared.entries.Entries.{Entries}
use Rattle.fm_net_procs.specs.Readings.{order_of, proc_in}

-- ---- what it does next

module _ {P L X : Type 0} (seen : P → X) (IsNext : X → L → Type 0) where
  -- what the process does next is told
  abbrev pub IsTold : Entry P L → Type 0
  IsTold e = IsNext (proc_in seen e) e.next

  abbrev pub AreTold : Entries P L → Type 0
  AreTold x = (q : Place) (e : Entry P L) → get (numbered_map x.rows) q ≡ Some e → IsTold e

  -- of each but the one at this place
  abbrev pub AreToldBut : (own : Place) → Entries P L → Type 0
  AreToldBut own x = (q : Place) (e : Entry P L) → q ≢ own → get (numbered_map x.rows) q ≡ Some e → IsTold e

-- ---- the children for which it waits

-- how many they are, where it waits for the children of a block
abbrev pub count_awaited : Option (ℕ × ℕ) → ℕ
count_awaited None = 0
count_awaited (Some bn) = bn.1

-- so many children of a block have numbers one behind the other, the first one this
abbrev pub AreChildren : (places : List Place) → (first : ℕ) → Place → (block count : ℕ) → Type 0
AreChildren places first p b n = (i : ℕ) → i < n → slice_get places (first + i) ≡ Some (child p b (i + 1))

-- so have the children of a block, if a process waits for them
abbrev pub HasFamily : (places : List Place) → Place → (awaited : Option (ℕ × ℕ)) → (first : ℕ) → Type 0
HasFamily places p awaited first = (b n : ℕ) → awaited ≡ Some (b, n) → AreChildren places first p b n

module _ {P L X : Type 0} (seen : P → X) (awaits : X → Option (ℕ × ℕ)) where
  -- the first child of each is told
  abbrev pub AreFamilies : Entries P L → Type 0
  AreFamilies x = (q : Place) (e : Entry P L) → get (numbered_map x.rows) q ≡ Some e → HasFamily (order_of x) q (awaits (proc_in seen e)) e.first_child

  -- of each but the one at this place
  abbrev pub AreFamiliesBut : (own : Place) → Entries P L → Type 0
  AreFamiliesBut own x = (q : Place) (e : Entry P L) → q ≢ own → get (numbered_map x.rows) q ≡ Some e → HasFamily (order_of x) q (awaits (proc_in seen e)) e.first_child

-- Changes of a finite map: at one key, and lists of them.
-- Source: this profile.
use Rattle.std.specs.Prelude.{◌≢◌, Option, Some, None, List, [], ◌∷◌}
use Rattle.std.specs.FinMap.{FinMap, get, insert, remove}
use Rattle.std.specs.declared.cmp.Ordering.{Ordering}

-- a key, and what becomes of what the map has there, be it a value or none
abbrev pub Change : Type 0 → Type 0 → Type 0
Change K X = K × (Option X → Option X)

module _ {K X : Type 0} {R : K → K → Ordering} where
  abbrev pub adjust_found : FinMap R X → K → (X → X) → Option X → FinMap R X
  adjust_found m k f None = m
  adjust_found m k f (Some x) = insert m k (f x)

  -- the map with its value at k changed by f, if it has one
  unfoldable pub adjust : FinMap R X → K → (X → X) → FinMap R X
  adjust m k f = adjust_found m k f (get m k)

  -- the map with this at k: a value, or no entry
  abbrev pub put : FinMap R X → K → Option X → FinMap R X
  put m k None = remove m k
  put m k (Some x) = insert m k x

  -- the map with what it has at k changed by f
  unfoldable pub alter : FinMap R X → K → (Option X → Option X) → FinMap R X
  alter m k f = put m k (f (get m k))

  -- the map after a list of changes, of which the last is made first
  abbrev pub alters : List (Change K X) → FinMap R X → FinMap R X
  alters [] m = m
  alters (w ∷ ws) m = alter (alters ws m) w.0 w.1

module _ {K X : Type 0} where
  -- no change is at the key
  abbrev pub Off : K → List (Change K X) → Type 0
  Off k [] = Unit {0}
  Off k (w ∷ ws) = (k ≢ w.0) × Off k ws

  -- no key changes in both lists
  abbrev pub Apart : List (Change K X) → List (Change K X) → Type 0
  Apart [] vs = Unit {0}
  Apart (w ∷ ws) vs = Off w.0 vs × Apart ws vs

  -- no key changes twice in the list
  abbrev pub EachOnce : List (Change K X) → Type 0
  EachOnce [] = Unit {0}
  EachOnce (w ∷ ws) = Off w.0 ws × EachOnce ws

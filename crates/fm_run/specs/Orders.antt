-- Who can step, and in which order those that can are served. Processes are numbered in the order of
-- their starting.
-- Source: this profile.
use Rattle.std.specs.Prelude.{◌≡◌, ◌⊎◌, ◌<◌, ◌%◌, ℕ, Bool, false, ◌==◌, ◌&&◌, not, Option, Some, None, List, [], ◌∷◌, ◌++◌, map, filter, length, slice_get, slice_index_or}
use Rattle.std.specs.List.{list_any, range_with_len}
use Rattle.std.specs.Arc.{arc_value}
use Rattle.std.specs.declared.alloc.Global.{Global}
use Rattle.std.specs.declared.sync.Arc.{Arc}
use Rattle.fm_base.specs.declared.path.Path.{Path}
use Rattle.fm_net.specs.Machine.{Place, State}
use Rattle.fm_net_procs.specs.Waiting as waiting
use Rattle.fm_run.specs.Plays.{Play, language}

-- x is in the list
abbrev pub Among : {X : Type 0} → X → List X → Type 0
Among x [] = ⊥
Among x (y ∷ ys) = (x ≡ y) ⊎ Among x ys

abbrev pub place_in : Arc Path Global → Place
place_in a = arc_value a

-- the places of the processes
abbrev pub places_of : List (Arc Path Global) → List Place
places_of = map place_in

abbrev pub can_in : (program : Play) → State program.Proc → Option Place → Bool
can_in program s o = waiting.can_in (language program) s o

-- whether the process at this place of the order can step
abbrev pub can_at : (program : Play) → State program.Proc → List Place → ℕ → Bool
can_at program s places n = waiting.can_at (language program) s places n

-- ---- who is chosen

-- the place that a choice tells among so many, and the first one without a choice
abbrev pub place_chosen : Option ℕ → (count : ℕ) → ℕ
place_chosen None count = 0
place_chosen (Some choice) count = choice % count

-- who is chosen among those that can step, or none where there is none
abbrev pub chosen : Option ℕ → (able : List ℕ) → Option ℕ
chosen choice able = slice_get able (place_chosen choice (length able))

-- the place of a number in a list, or none where it isn't there
abbrev pub IsPlaceOf : List ℕ → ℕ → Option ℕ → Type 0
IsPlaceOf ns n None = Among n ns → ⊥
IsPlaceOf ns n (Some k) = slice_get ns k ≡ Some n

-- ---- who can step, before the first piece and after a piece

abbrev pub is_among : List ℕ → ℕ → Bool
is_among ns n = list_any (λ m. m == n) ns

-- those of the list but this one, in their order
abbrev pub others_in : (own : ℕ) → List ℕ → List ℕ
others_in own = filter (λ n. not (n == own))

-- neither this one nor in the list
abbrev pub is_new : (own : ℕ) → (old : List ℕ) → ℕ → Bool
is_new own old n = not (n == own) && not (is_among old n)

-- neither this one nor in the list, and able
abbrev pub newly : (can : ℕ → Bool) (own : ℕ) (old : List ℕ) → ℕ → Bool
newly can own old n = is_new own old n && can n

-- all numbers of so many processes: those of the list but this one, in their order; then those that
-- aren't in the list, in the order of starting; and behind them this one
abbrev pub in_turn : (own : ℕ) → (old : List ℕ) → (count : ℕ) → List ℕ
in_turn own old count = others_in own old ++ (filter (is_new own old) (range_with_len 0 count) ++ own ∷ [])

-- those that can step after a piece of this process, where the list was of those that could before it:
-- those that can still keep their order; then those that have become able, in the order of starting; and
-- behind them the process itself, where it can
abbrev pub ready_after : (program : Play) → State program.Proc → (places : List Place) → (old : List ℕ) → (own : ℕ) → List ℕ
ready_after program s places old own = filter (can_at program s places) (in_turn own old (length places))

-- main, if it can step
abbrev pub ready_first : (program : Play) → State program.Proc → (places : List Place) → List ℕ
ready_first program s places = filter (can_at program s places) (0 ∷ [])

-- no number is in the list twice
abbrev pub EachOnce : List ℕ → Type 0
EachOnce [] = Unit {0}
EachOnce (n ∷ ns) = (Among n ns → ⊥) × EachOnce ns

-- the list, with perhaps more behind it
abbrev pub KeepsFront : (old new : List ℕ) → Type 0
KeepsFront old new = (more : List ℕ) × (new ≡ old ++ more)

-- ---- marks

-- a mark for each of so many processes that is in the list, and for no other
pub record AreMarked (count : ℕ) (marks : List Bool) (numbers : List ℕ) : Type 0 where
  pub whole : length marks ≡ count
  pub marked : (n : ℕ) → n < count → slice_index_or marks n false ≡ is_among numbers n

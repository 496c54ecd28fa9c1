-- The blocks of a unit, by counting openers and closers.
-- Source: ANSI X3.9-1978, sections 11.6 to 11.9 (IF-blocks, their branches, nesting) and 11.10 (range of a DO, active DO);
-- the Fortran M report for process blocks; this profile for units that break a rule.
use Rattle.std.specs.Prelude.{ℕ, suc, zero, ◌+◌, ◌≡◌, ◌<◌, ◌≤◌, ◌||◌, Bool, true, false, Option, Some, None, List, [], ◌∷◌, length, reverse, take, drop}
use Rattle.fm_tree.specs.declared.form.Form.{Form}
use Rattle.fm_tree.specs.declared.form.Bracket.{Bracket}
use Rattle.fm_tree.specs.declared.form.Bracket.TheVariants.{Opens, Closes, Parts, Stays}
use Rattle.fm_tree.specs.declared.entry_mark.EntryMark.{EntryMark}
use Rattle.fm_tree.specs.declared.entry_mark.Open.{Open}
use Rattle.fm_tree.specs.Structure.{bracket_of, is_else}

abbrev pub head_of : {X : Type 0} → List X → Option X
head_of [] = None
head_of (x ∷ xs) = Some x

-- Open blocks, counting back.

abbrev pub opened : ℕ → Form → Open
opened at f = record { at = at; start = at; branch = 0; has_else = false; form = f }

-- the next branch of a block
abbrev pub parted : ℕ → Form → Open → Open
parted at f o = record { at = o.at; start = at; branch = suc o.branch; has_else = o.has_else || is_else f; form = o.form }

abbrev pub part_first : ℕ → Form → List Open → List Open
part_first at f [] = []
part_first at f (o ∷ os) = parted at f o ∷ os

-- over one entry: c blocks, which end behind it, are to be passed over
abbrev pub counted : Bracket → ℕ → Form → (ℕ → List Open) → ℕ → List Open
counted Opens at f outer zero = opened at f ∷ outer zero
counted Opens at f outer (suc c) = outer c
counted Closes at f outer c = outer (suc c)
counted Parts at f outer zero = part_first at f (outer zero)
counted Parts at f outer (suc c) = outer (suc c)
counted Stays at f outer c = outer c

-- the blocks that are open behind these entries, which are given last first: innermost first, without the c innermost
abbrev pub open_blocks : List EntryMark → ℕ → List Open
open_blocks [] c = []
open_blocks (e ∷ before) c = counted (bracket_of e.form) (length before) e.form (open_blocks before) c

-- the blocks that are open behind a run of entries, innermost first
abbrev pub behind : List EntryMark → List Open
behind entries = open_blocks (reverse entries) zero

-- the innermost block that is open before the entry at k
abbrev pub innermost : List EntryMark → ℕ → Option Open
innermost entries k = head_of (behind (take k entries))

-- Ends, counting on.

-- over one entry: what ends one of c blocks isn't looked for; a separator ends its branch, where branches count
abbrev pub counted_on : Bool → Bracket → ℕ → (ℕ → List ℕ) → ℕ → List ℕ
counted_on branches Opens at rest c = rest (suc c)
counted_on branches Closes at rest zero = at ∷ rest zero
counted_on branches Closes at rest (suc c) = rest c
counted_on false Parts at rest c = rest c
counted_on true Parts at rest zero = at ∷ rest (suc zero)
counted_on true Parts at rest (suc c) = rest (suc c)
counted_on branches Stays at rest c = rest c

-- the places in a run of entries, the first of which has place `at`, that end what was begun before the run, but for c blocks
abbrev pub ends : Bool → List EntryMark → ℕ → ℕ → List ℕ
ends branches [] at c = []
ends branches (e ∷ es) at c = counted_on branches (bracket_of e.form) at (ends branches es (at + 1)) c

-- the end of the block that is innermost behind the entry at i: the least later place at which more closers than openers
-- have stood since. Of an opener it is the mate: as many closers as openers have stood, the opener with them
abbrev pub mate_of : List EntryMark → ℕ → Option ℕ
mate_of entries i = head_of (ends false (drop (i + 1) entries) (i + 1) zero)

-- the place that ends the branch which starts at i
abbrev pub branch_end : List EntryMark → ℕ → Option ℕ
branch_end entries i = head_of (ends true (drop (i + 1) entries) (i + 1) zero)

-- The same for each entry of a run.

-- the innermost open block before each, behind these entries, which are given last first
abbrev pub inner_from : List EntryMark → List EntryMark → List (Option Open)
inner_from before [] = []
inner_from before (e ∷ es) = head_of (open_blocks before zero) ∷ inner_from (e ∷ before) es

abbrev pub inner_list : List EntryMark → List (Option Open)
inner_list entries = inner_from [] entries

-- the place that ends what each begins, or else what is innermost behind it; the first has place `at`
abbrev pub ends_from : Bool → ℕ → List EntryMark → List (Option ℕ)
ends_from branches at [] = []
ends_from branches at (e ∷ es) = head_of (ends branches es (at + 1) zero) ∷ ends_from branches (at + 1) es

abbrev pub end_list : Bool → List EntryMark → List (Option ℕ)
end_list branches entries = ends_from branches 0 entries

-- Step by step.

-- what an entry at a place does to the open blocks, innermost first
abbrev pub turned : Bracket → ℕ → Form → List Open → List Open
turned Opens at f os = opened at f ∷ os
turned Closes at f os = drop 1 os
turned Parts at f os = part_first at f os
turned Stays at f os = os

-- what an entry at a place does to the ends that are still to come, first first
abbrev pub turned_back : Bool → Bracket → ℕ → List ℕ → List ℕ
turned_back branches Opens at ms = drop 1 ms
turned_back branches Closes at ms = at ∷ ms
turned_back false Parts at ms = ms
turned_back true Parts at ms = at ∷ drop 1 ms
turned_back branches Stays at ms = ms

-- What blocks and mates are, in the words of counts and of paths.

-- the blocks open before t are those open before k but for the m innermost: the block path of t, from the outside, is a prefix
abbrev pub PathEnds : List EntryMark → ℕ → ℕ → Type 0
PathEnds entries t k = (m : ℕ) × (drop m (behind (take k entries)) ≡ behind (take t entries))

-- the branch has started before k and isn't ended before it
abbrev pub Holds : List EntryMark → Open → ℕ → Type 0
Holds entries o k = (o.start < k) × ((j : ℕ) → branch_end entries o.start ≡ Some j → k ≤ j)

abbrev pub opens_once : Bracket → ℕ
opens_once Opens = 1
opens_once Closes = 0
opens_once Parts = 0
opens_once Stays = 0

abbrev pub closes_once : Bracket → ℕ
closes_once Opens = 0
closes_once Closes = 1
closes_once Parts = 0
closes_once Stays = 0

-- how many openers, and closers, stand in a run of entries
abbrev pub openers : List EntryMark → ℕ
openers [] = 0
openers (e ∷ es) = opens_once (bracket_of e.form) + openers es

abbrev pub closers : List EntryMark → ℕ
closers [] = 0
closers (e ∷ es) = closes_once (bracket_of e.form) + closers es

-- n entries on behind an opener: as many closers as openers, with it, and before that always fewer
pub record IsMate (es : List EntryMark) (n : ℕ) : Type 0 where
  pub equal : closers (take (suc n) es) ≡ openers (take (suc n) es) + 1
  pub fewer : (m : ℕ) → m < n → closers (take (suc m) es) ≤ openers (take (suc m) es)

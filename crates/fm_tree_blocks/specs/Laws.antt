-- What blocks and mates are, in the words of counts, of paths and of nesting.
-- Source: ANSI X3.9-1978, sections 11.6.1 (nesting of IF-blocks), 11.9 (the END IF of a block IF) and 11.10.2 (nesting of DO-loops).
use Rattle.std.specs.Prelude.{ℕ, ◌+◌, ◌≡◌, ◌<◌, ◌≤◌, Some, List, length, drop}
use Rattle.fm_tree.specs.declared.form.Bracket.TheVariants.{Opens, Closes}
use Rattle.fm_tree.specs.declared.entry_mark.EntryMark.{EntryMark}
use Rattle.fm_tree.specs.declared.entry_mark.Open.{Open}
use Rattle.fm_tree.specs.Structure.{bracket_of}
use Rattle.fm_tree.specs.Blocks.{PathEnds, Holds, IsMate, innermost, mate_of}
use Rattle.fm_tree.specs.Units.{form_at}

-- the block path of a place is a prefix of that of another one exactly where its innermost branch holds the other
abbrev pub PathsAgree : Type 0
PathsAgree = (entries : List EntryMark) (t k : ℕ) (q : Open) → t ≤ length entries → k ≤ length entries → innermost entries t ≡ Some q
    → (PathEnds entries t k → Holds entries q k) × (Holds entries q k → PathEnds entries t k)

-- the mate of an entry is the first later place at which as many closers as openers have stood, the entry with them
abbrev pub MatesCount : Type 0
MatesCount = (entries : List EntryMark) (i n : ℕ)
    → (mate_of entries i ≡ Some (i + 1 + n) → IsMate (drop (i + 1) entries) n) × (IsMate (drop (i + 1) entries) n → mate_of entries i ≡ Some (i + 1 + n))

-- an opener inside a block has its mate inside the block
abbrev pub BlocksNest : Type 0
BlocksNest = (entries : List EntryMark) (i j k : ℕ) → mate_of entries i ≡ Some j → i < k → k < j → bracket_of (form_at entries k) ≡ Opens
    → (m : ℕ) × (mate_of entries k ≡ Some m) × (k < m) × (m < j)

-- a closer is the mate of the opener of the block that is innermost before it
abbrev pub ClosersMatch : Type 0
ClosersMatch = (entries : List EntryMark) (j : ℕ) (o : Open) → j < length entries → bracket_of (form_at entries j) ≡ Closes → innermost entries j ≡ Some o
    → mate_of entries o.at ≡ Some j

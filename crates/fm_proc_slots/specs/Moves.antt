-- One port that comes to other slots.
-- Source: this profile.
use Rattle.std.specs.Prelude.{ℕ, ℤ, List, slice_set}
use Rattle.fm_code.specs.Statements.{word_at}
use Rattle.fm_proc_language.specs.Slots.{Slots, taken, put_any}

-- the port of one port word comes to other slots, and the word names its slot there
abbrev pub word_moved : ℕ → List ℤ → (from to : Slots) → List ℤ × (Slots × Slots)
word_moved k ws from to =
    let out = taken from (word_at ws k) in
    let new = put_any to out.0 in
    (slice_set ws k new.0, (out.1, new.1))

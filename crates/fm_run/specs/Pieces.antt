-- Pieces: several steps of one process.
-- Source: this profile.
use Rattle.std.specs.Prelude.{ℕ, Bool, Option, List}
use Rattle.fm_net.specs.Machine.{Place, State}
use Rattle.fm_net_procs.specs.declared.piece.Piece.{Piece}
use Rattle.fm_net_procs.specs.Pieces as pieces
use Rattle.fm_run.specs.Plays.{Play, language, has_local}

-- so many steps of one process: where they lead at what cost, and whom they start
abbrev pub Makes : (program : Play) → State program.Proc → Place → (steps : ℕ) → State program.Proc → (cost : ℕ) → (starts : List Place) → Type 0
Makes program s p steps t cost starts = pieces.Makes (language program) s p steps t cost starts

-- whether a process, if it's there, has a local step
abbrev pub is_local_in : (program : Play) → Option program.Proc → Bool
is_local_in program o = pieces.is_local_in (has_local program) o

abbrev pub is_local_at : (program : Play) → State program.Proc → Place → Bool
is_local_at program s p = pieces.is_local_at (has_local program) s p

-- the state after so many steps of one process
abbrev pub after_steps : (program : Play) → State program.Proc → Place → (steps : ℕ) → State program.Proc
after_steps program s p n = pieces.after_steps (language program) s p n

-- the most steps of a piece: the slice's, and where it has one to spare, one more
abbrev pub most_steps : (slice : ℕ) → (spare : Bool) → ℕ
most_steps slice spare = pieces.most_steps slice spare

-- so many steps of one process are all that a slice lets it do: it can make them, and all before the last one
-- are local. It made the whole slice, and with a step to spare the next one is local; or the last one isn't local
-- (an event, an end or a fault), be it the spare one; or within the slice it came to where it can't step
abbrev pub IsFull : (program : Play) → (slice : ℕ) → (spare : Bool) → State program.Proc → Place → (steps : ℕ) → Type 0
IsFull program slice spare s p steps = pieces.IsFull (language program) (has_local program) slice spare s p steps

-- a full piece of one step or more
abbrev pub IsPiece : (program : Play) → (slice : ℕ) → (spare : Bool) → State program.Proc → Place → Piece → State program.Proc → Type 0
IsPiece program slice spare s p r t = pieces.IsPiece (language program) (has_local program) slice spare s p r t

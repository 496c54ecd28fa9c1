-- Calls: what formals get, what is given back, and the frames of units.
-- Source: ANSI X3.9-1978, sections 15.5 to 15.9, with copying in and back and the travel of ports by this profile.
use Rattle.std.specs.Prelude.{ℕ, zero, suc, ◌+◌, Bool, true, false, cond, Option, Some, None, List, [], ◌∷◌, ◌++◌, slice_get}
use Rattle.std.specs.FinMap.{empty}
use Rattle.fm_base.specs.declared.port.PortValue.{PortValue}
use Rattle.fm_base.specs.Channels.{Item, Words, Ports, item_ports, message_ports}
use Rattle.fm_symbols.specs.declared.names.Variable.{Variable}
use Rattle.fm_rules.specs.declared.program.Program.{Program}
use Rattle.fm_mean.specs.Names.{ProgramUnit, unit_at, all_unset, formal_place}
use Rattle.fm_mean.specs.declared.place.Actual.{Actual}
use Rattle.fm_mean.specs.declared.place.Back.{Back}
use Rattle.fm_mean.specs.declared.place.Span.{Span}
use Rattle.fm_mean.specs.declared.place.Actual.TheVariants.{Given, Taken}
use Rattle.fm_mean.specs.Places.{written_from, exchange_all, live, taken_ports, Returned}
use Rattle.fm_mean.specs.Process.{Start, Frame, Running, Proc, frame_ports, started_ports}

-- the formal with this number gets what the argument is; ports leave their places NULL
abbrev pub entered_one : ProgramUnit → ℕ → Actual → Returned → Returned
entered_one u n (Given ws back) r = record r { theirs = written_from r.theirs (formal_place u n) 0 ws }
entered_one u n (Taken s) r = record {
  mine = (taken_ports r.mine s).0;
  theirs = (exchange_all r.theirs (formal_place u n) 0 (taken_ports r.mine s).1).0;
  drops = r.drops ++ live (exchange_all r.theirs (formal_place u n) 0 (taken_ports r.mine s).1).1;
}

-- from left to right. Nothing is let go on the way, since the new frame has no ports
abbrev pub entered_all : ProgramUnit → ℕ → List Actual → Returned → Returned
entered_all u n [] r = r
entered_all u n (a ∷ more) r = entered_all u (suc n) more (entered_one u n a r)

abbrev pub entered : ProgramUnit → List Item → List Actual → Returned
entered u mine args = entered_all u 1 args (record { mine = mine; theirs = all_unset u.names.variables; drops = [] })

-- What is given back: by formals without INTENT(IN), to arguments that have a place.

abbrev pub input_in : Option Variable → Bool
input_in None = false
input_in (Some v) = v.input

abbrev pub is_input : ProgramUnit → ℕ → Bool
is_input u n = input_in (slice_get u.names.variables (formal_place u n))

abbrev pub back_place : Actual → Option Span
back_place (Given ws back) = back
back_place (Taken s) = Some s

abbrev pub back_for : ProgramUnit → ℕ → Option Span → List Back
back_for u n None = []
back_for u n (Some s) = cond (is_input u n) [] (record { formal = formal_place u n; place = s } ∷ [])

abbrev pub backs_from : ProgramUnit → ℕ → List Actual → List Back
backs_from u n [] = []
backs_from u n (a ∷ more) = back_for u n (back_place a) ++ backs_from u (suc n) more

abbrev pub backs_of : ProgramUnit → List Actual → List Back
backs_of u args = backs_from u 1 args

-- the words that may be copied back
abbrev pub back_words : List Back → ℕ
back_words [] = 0
back_words (b ∷ bs) = b.place.count + back_words bs

-- a frame at its first entry
abbrev pub new_frame : ℕ → List Item → List Back → Frame
new_frame u values backs = record { unit = u; entry = 0; values = values; loops = empty; results = []; starts = []; backs = backs }

-- a child begins with what its formals got
abbrev pub child_of : Start → Proc
child_of s = record { phase = Running; execution = record { frames = new_frame s.unit s.values s.backs ∷ []; machine = s.machine; node = s.node }; lines = []; next_block = 1; next_channel = 1 }

-- The end of a process: its formals without INTENT(IN) are kept, all other ports are let go and leave NULL.

abbrev pub is_formal : ℕ → Bool
is_formal zero = false
is_formal (suc n) = true

abbrev pub is_kept : Variable → Bool
is_kept v = cond v.input false (is_formal v.formal)

abbrev pub nulls : List (Option PortValue) → List (Option PortValue)
nulls [] = []
nulls (p ∷ ps) = None ∷ nulls ps

abbrev pub null_item : Item → Item
null_item (Words ws) = Words ws
null_item (Ports ps) = Ports (nulls ps)

-- what stays, and what is let go
abbrev pub kept : List Variable → List Item → List Item × List PortValue
kept [] xs = ([], message_ports xs)
kept (v ∷ vs) [] = ([], [])
kept (v ∷ vs) (x ∷ xs) = cond (is_kept v) (x ∷ (kept vs xs).0, (kept vs xs).1) (null_item x ∷ (kept vs xs).0, item_ports x ++ (kept vs xs).1)

abbrev pub variables_in : Option ProgramUnit → List Variable
variables_in None = []
variables_in (Some u) = u.names.variables

-- the frames of calls are let go with their ports; the process's own frame stays with what is kept
abbrev pub ended_frames : Program → List Frame → List Frame × List PortValue
ended_frames p [] = ([], [])
ended_frames p (f ∷ []) = (
  record f { values = (kept (variables_in (unit_at p f.unit)) f.values).0; results = []; starts = [] } ∷ [],
  (kept (variables_in (unit_at p f.unit)) f.values).1 ++ started_ports f.starts,
)
ended_frames p (f ∷ g ∷ fs) = ((ended_frames p (g ∷ fs)).0, frame_ports f ++ (ended_frames p (g ∷ fs)).1)

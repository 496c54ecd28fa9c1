-- Children before their words and ports come to them.
-- Source: the Fortran M report (process blocks), with this profile's copying in and travel of ports.
use Rattle.std.specs.Prelude.{◌≡◌, ℕ, Option, Some, None, List, [], ◌∷◌, ◌+◌}
use Rattle.fm_code.specs.declared.body.Body.{Body}
use Rattle.fm_code.specs.declared.body.Start.{Start}
use Rattle.fm_code.specs.Statements.{ports_of, unit_at}
use Rattle.fm_proc_language.specs.Slots.{Slots, no_slots}
use Rattle.fm_proc_language.specs.Frames.{moved_over}
use Rattle.fm_proc_language.specs.Processes.{CodeProc, Running, first_frame}
use Rattle.fm_proc_slots.specs.Rooms.{HasRoom, slots_in, span_words}
use Rattle.fm_procs.specs.declared.beginning.Draft.{Draft}
use Rattle.fm_proc_events.specs.Phases.{boxed_of}

-- the body with which a child begins, before the words of its start come and what it gives back
abbrev pub blank_body : Body → Start → Body
blank_body b s = record { code = b.code; machine = s.machine; node = s.node; frame = record (first_frame b s []) { backs = [] }; below = [] }

-- the child, before these come and its ports
abbrev pub blank : Body → Start → CodeProc
blank b s = record { phase = Running; body = Some (blank_body b s); slots = no_slots; lines = []; next_block = 1; next_channel = 1 }

abbrev pub child_in : Draft → CodeProc
child_in d = boxed_of d.process

-- as many ports as the frame of a body has at most
abbrev pub ports_room : Body → ℕ
ports_room c = span_words (ports_of (unit_at c c.frame.unit))

abbrev pub room_in : Option Body → ℕ
room_in None = 0
room_in (Some c) = ports_room c

-- as many as that of a process has
abbrev pub room_of : CodeProc → ℕ
room_of y = room_in y.body

abbrev pub rooms : List CodeProc → ℕ
rooms [] = 0
rooms (y ∷ ys) = room_of y + rooms ys

-- its own slots are empty, with room for its ports
pub record IsReady (d : Draft) : Type 0 where
  pub empty : slots_in d.slots ≡ no_slots
  pub room : HasRoom d.slots (room_of (child_in d))

-- the words of a start come to a body and what it gives back, and their ports from slots to others: the body, and both slots then
abbrev pub filled : Body → Start → (from to : Slots) → Body × (Slots × Slots)
filled c s from to =
    let over = moved_over (ports_of (unit_at c c.frame.unit)) s.words from to in
    (record c { frame = record c.frame { words = over.0; backs = s.backs } }, over.1)

abbrev pub begun_in : Slots → CodeProc → Option Body → Start → CodeProc × Slots
begun_in slots y None s = (y, slots)
begun_in slots y (Some c) s =
    let all = filled c s slots no_slots in
    (record y { body = Some all.0; slots = all.1.1 }, all.1.0)

-- a blank child begins with its start: the child, and the slots of its parent, from which the ports come
abbrev pub begun : Slots → CodeProc → Start → CodeProc × Slots
begun slots y s = begun_in slots y y.body s

-- one after the other, each with its start
abbrev pub all_begun : Slots → List CodeProc → List Start → List CodeProc × Slots
all_begun slots [] ss = ([], slots)
all_begun slots (y ∷ ys) [] = ([], slots)
all_begun slots (y ∷ ys) (s ∷ ss) = ((begun slots y s).0 ∷ (all_begun (begun slots y s).1 ys ss).0, (all_begun (begun slots y s).1 ys ss).1)

-- A join under way, whose children come to their parent one after the other.
-- Source: the Fortran M report (process blocks), with this profile's copying back, discarding and costs.
use Rattle.std.specs.Prelude.{◌≡◌, ℕ, ◌+◌, Option, Some, List, length, map, drop}
use Rattle.fm_code.specs.declared.ask.Ask.TheVariants as ask
use Rattle.fm_code.specs.declared.body.Body.{Body}
use Rattle.fm_machine_calls.specs.declared.looking.Look.TheVariants.{Asks}
use Rattle.fm_proc_language.specs.Slots.{Slots}
use Rattle.fm_proc_language.specs.Frames.{Held}
use Rattle.fm_proc_language.specs.Processes.{CodeProc, Kid, Running, Joining, joining_words}
use Rattle.fm_proc_slots.specs.Joins.{HasRoomFor}
use Rattle.fm_procs.specs.declared.opening.OpenJoin.{OpenJoin}
use Rattle.fm_procs.specs.Gains.{gained, joined_by, mine_of}
use Rattle.fm_proc_events.specs.Phases.{kid_of}
use Rattle.fm_proc_events.specs.Told.{look_of}

-- the children that aren't joined yet
abbrev pub kids_of : OpenJoin → List Kid
kids_of j = map kid_of j.kids.items

-- room for all that the other children give back, and for so many ports that they still have
abbrev pub HasRoomToJoin : OpenJoin → ℕ → Type 0
HasRoomToJoin j ports = HasRoomFor j.gains (joining_words (kids_of j) + ports)

-- a process has joined those of its children that left these, in the order of their starts. What it has is with the join meanwhile,
-- and the process is as it will be but for its words and slots, and for where it goes on
pub record HasJoined (y : CodeProc) (lefts : List (Option Body × Slots)) (z : CodeProc) (j : OpenJoin) : Type 0 where
  pub block : ℕ
  pub kids : List Kid
  pub body : Body
  pub rest : Held
  pub phase_is : y.phase ≡ Joining block kids
  pub body_is : y.body ≡ Some body
  pub looks : look_of y ≡ Asks (ask.Join j.next)
  pub stays : z ≡ record y { phase = Running; body = Some (record body { frame = record body.frame { words = rest.words } }); slots = rest.slots }
  pub gains : mine_of (joined_by body y.slots kids lefts) ≡ mine_of (gained j.gains)
  pub others : kids_of j ≡ drop (length lefts) kids
  pub cost_is : j.cost ≡ 1 + joining_words kids

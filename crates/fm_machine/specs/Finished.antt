-- What came of the end of a statement.
-- Source: this profile.
use Rattle.std.specs.Prelude.{◌≡◌, ℕ, ℤ, Bool, if◌then◌else◌, Ok, Option, Some, None, List, [], option_to_list}
use Rattle.fm_map.specs.Placement.{Seat}
use Rattle.fm_code.specs.declared.ask.Ask.{Ask}
use Rattle.fm_code.specs.declared.ask.Operand.{Operand}
use Rattle.fm_code.specs.declared.body.Body.{Body}
use Rattle.fm_code.specs.declared.body.Frame.{Frame}
use Rattle.fm_code.specs.declared.instr.Instr.{Instr}
use Rattle.fm_code.specs.Statements as statements
use Rattle.fm_code.specs.Statements.{Action, Own, Meets, Ran, CodeUnit, unit_at, code_in, with_frame, run, calls, refers, starts_at}
use Rattle.fm_machine_calls.specs.declared.looking.Look.{Look}
use Rattle.fm_machine_calls.specs.declared.looking.Look.TheVariants as look
use Rattle.fm_machine.specs.declared.performing.Finish.{Finish}
use Rattle.fm_machine.specs.declared.performing.Finish.TheVariants as finish

abbrev pub asked_in : Look → Option Ask
asked_in look.Goes = None
asked_in (look.Asks a) = Some a
asked_in look.Stuck = None

-- the step that was made
abbrev pub went : Finish → Body → Option Ran
went (finish.Went line cost) b = Some (record { body = b; lines = option_to_list line; cost = cost })
went (finish.Asks a) b = None
went finish.Stuck b = None

-- what it tells of the body before
abbrev pub told : Finish → Look
told (finish.Went line cost) = look.Goes
told (finish.Asks a) = look.Asks a
told finish.Stuck = look.Stuck

-- the ports that a step lets go
abbrev pub drops_in : Action → List ℤ
drops_in statements.Stuck = []
drops_in (Own b lines drops cost) = drops
drops_in (Meets a) = []

-- where no step was made, the body is as it was
abbrev pub Stays : Finish → Body → Body → Type 0
Stays (finish.Went line cost) old new = Unit {0}
Stays (finish.Asks a) old new = new ≡ old
Stays finish.Stuck old new = new ≡ old

-- so many statements of a frame with this code change nothing else
abbrev pub RunsFrame : List Instr → ℕ → (old new : Frame) → Type 0
RunsFrame code n old new = (b : Body) → code ≡ code_in (unit_at b old.unit) → run n (with_frame b old) ≡ Some (record { body = with_frame b new; lines = []; cost = n })

-- a frame was opened at this cost, or it doesn't fit
abbrev pub opened_by : Option ℕ → Body → Action
opened_by None b = statements.Stuck
opened_by (Some cost) b = Own b [] [] cost

-- a call, or a reference, where results stay
abbrev pub opening : (keeps : Bool) → (number to : ℕ) → List Operand → Body → Action
opening keeps n to os b = if keeps then refers n (unit_at b n) b to os else calls n (unit_at b n) b to os

-- a start at this seat
abbrev pub starting : (number : ℕ) → Option CodeUnit → (to : ℕ) → List Operand → Seat → Body → Action
starting n None to os seat b = statements.Stuck
starting n (Some u) to os seat b = starts_at n u b to os (Ok seat)

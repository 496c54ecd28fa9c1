-- What is told of an instruction and of a statement.
-- Source: this profile.
use Rattle.std.specs.Prelude.{◌≡◌, ℕ, ℤ, Bool, true, false, Option, Some, None, List, [], slice_set}
use Rattle.fm_code.specs.Acts as acts
use Rattle.fm_code.specs.Acts.{Act, On, Over, builds, nothing}
use Rattle.fm_code.specs.declared.ask.Operand.{Operand}
use Rattle.fm_code.specs.declared.body.Frame.{Frame}
use Rattle.fm_code.specs.declared.body.Trips.{Trips}
use Rattle.fm_code.specs.declared.code.Span.{Span}
use Rattle.fm_code.specs.declared.instr.Build.TheVariants as build
use Rattle.fm_code.specs.declared.scratch.Scratch.{Scratch}
use Rattle.fm_machine_instr.specs.declared.work.Progress.{Progress}
use Rattle.fm_machine_instr.specs.declared.work.Progress.TheVariants as progress
use Rattle.fm_machine_instr.specs.declared.passing.Passing.{Passing}
use Rattle.fm_machine_instr.specs.declared.passing.Passing.TheVariants as passing
use Rattle.fm_machine_instr.specs.declared.statement_end.Change.{Change}
use Rattle.fm_machine_instr.specs.declared.statement_end.Ending.{Ending}
use Rattle.fm_machine_instr.specs.declared.statement_end.Ending.TheVariants as ending
use Rattle.fm_machine_instr.specs.declared.statement_end.StatementEnd.{StatementEnd}
use Rattle.fm_machine_instr.specs.declared.statement_end.StatementEnd.TheVariants as statement_end

-- what an instruction did that left this stack and this behind
abbrev pub progressed : Progress → List ℤ → Scratch → Act
progressed progress.On s b = On s b
progressed (progress.Fails fault) s b = Over (acts.Fails fault)
progressed progress.Stuck s b = Over acts.Stuck

abbrev pub with_word : List ℤ → Option (ℕ × ℤ) → List ℤ
with_word ws None = ws
with_word ws (Some w) = slice_set ws w.0 w.1

abbrev pub with_trips : List (Option Trips) → Option (ℕ × Trips) → List (Option Trips)
with_trips ls None = ls
with_trips ls (Some t) = slice_set ls t.0 (Some t.1)

abbrev pub changed : Change → Frame → Frame
changed c m = record m { words = with_word m.words c.word; loops = with_trips m.loops c.trips }

-- how a statement ended over this frame
abbrev pub ended : Ending → Frame → acts.StatementEnd
ended (ending.Goes c) m = acts.Goes c.to (changed c m)
ended ending.Returns m = acts.Returns
ended (ending.ReturnsValue v) m = acts.ReturnsValue v
ended (ending.Closes k to) m = acts.Closes k to
ended (ending.Moves from into to) m = acts.Moves from into to
ended (ending.Fails fault) m = acts.Fails fault
ended (ending.Asks a) m = acts.Asks a
ended ending.Stuck m = acts.Stuck

-- how a statement ended that built this
abbrev pub told_end : StatementEnd → Scratch → Frame → acts.StatementEnd
told_end (statement_end.Prints to) b m = acts.Prints to b.line
told_end (statement_end.Calls unit to) b m = acts.Calls unit to b.operands
told_end (statement_end.Refers unit to) b m = acts.Refers unit to b.operands
told_end (statement_end.Starts unit to) b m = acts.Starts unit to b.operands b.place
told_end (statement_end.Over e) b m = ended e m

-- what an instruction did that left this stack and this behind, and ended its statement or didn't
abbrev pub next_act : Option StatementEnd → List ℤ → Scratch → Frame → Act
next_act None s b m = On s b
next_act (Some t) s b m = Over (told_end t b m)

-- what is built by a statement that passed these operands
abbrev pub with_operands : List Operand → Scratch
with_operands os = record nothing { operands = os }

-- words of the frame were passed, or nothing is told
abbrev pub PassesWords : Bool → Span → (os os' : List Operand) → Frame → Type 0
PassesWords true span os os' m = builds (build.PassWords span) [] (with_operands os) m ≡ On [] (with_operands os')
PassesWords false span os os' m = Unit {0}

-- what is told at once of how a statement ended that passed these operands
abbrev pub IsTold : Passing → acts.StatementEnd → List Operand → Type 0
IsTold (passing.Calls unit to) t os = t ≡ acts.Calls unit to os
IsTold (passing.Refers unit to) t os = t ≡ acts.Refers unit to os
IsTold passing.Returns t os = t ≡ acts.Returns
IsTold (passing.ReturnsValue v) t os = t ≡ acts.ReturnsValue v
IsTold passing.Untold t os = Unit {0}

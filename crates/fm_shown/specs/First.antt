-- The process with which code begins in one of its units.
-- Source: this profile; the Fortran M report for PROCESSORS.
use Rattle.std.specs.Prelude.{ℕ, Option, Some, None, [], slice_get}
use Rattle.fm_mean.specs.Steps.{nodes_of}
use Rattle.fm_code.specs.declared.body.Body.{Body}
use Rattle.fm_code.specs.declared.code.Code.{Code}
use Rattle.fm_code.specs.declared.code.Unit as code_unit
use Rattle.fm_code.specs.Passing.{nulls}
use Rattle.fm_code.specs.Statements.{new_frame}
use Rattle.fm_proc_language.specs.Slots.{no_slots}
use Rattle.fm_proc_language.specs.Processes.{CodeProc, Running}

-- the unit at its first statement, with nothing in its words, on the nodes of its PROCESSORS, or one
abbrev pub begun : Code → (number : ℕ) → code_unit.Unit → Body
begun code n u = record {
  code = code;
  machine = record { first = 0; count = nodes_of u.extents };
  node = 0;
  frame = new_frame n u (nulls u.words) [];
  below = [];
}

abbrev pub begun_in : Code → (number : ℕ) → Option code_unit.Unit → Option Body
begun_in code n None = None
begun_in code n (Some u) = Some (begun code n u)

-- a process that runs this body, with no ports and nothing put out
abbrev pub process_of : Option Body → CodeProc
process_of b = record { phase = Running; body = b; slots = no_slots; lines = []; next_block = 1; next_channel = 1 }

-- the unit with this number as a process; with no body where there is no such unit
abbrev pub first_process_of : Code → (number : ℕ) → CodeProc
first_process_of code n = process_of (begun_in code n (slice_get code.units n))

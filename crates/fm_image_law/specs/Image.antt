-- What an image is when it runs: main alone, in the unit that is the PROGRAM, at its first statement, over channels as they are for
-- every process of stack code. Each step is one statement, or what comes of what it asks for.
-- Source: this profile; the Fortran M report (processes, channels, process blocks).
use Rattle.std.specs.Prelude.{ℕ, suc, cond, Option, Some, None, List, [], ◌∷◌, slice_get}
use Rattle.fm_code.specs.declared.body.Body.{Body}
use Rattle.fm_code.specs.Passing.{nulls}
use Rattle.fm_code.specs.Statements.{new_frame}
use Rattle.fm_net.specs.Machine.{Place, State}
use Rattle.fm_net.specs.Language.{language_step}
use Rattle.fm_net.specs.Owned.{main_alone}
use Rattle.fm_object.specs.declared.image.Image.{Image}
use Rattle.fm_object.specs.declared.image.UnitImage.{UnitImage}
use Rattle.fm_proc_language.specs.Slots.{no_slots}
use Rattle.fm_proc_language.specs.Processes.{CodeProc, Ended, Faulted, Joining, Phase, Running, code_language}
use Rattle.fm_image_typed.specs.Codes.{code_of, unit_of}
use Rattle.fm_image_typed.specs.Typed.{is_main, nodes}

-- the number of the PROGRAM among the units, from this number on
abbrev pub main_from : ℕ → List UnitImage → Option ℕ
main_from n [] = None
main_from n (u ∷ us) = cond (is_main u) (Some n) (main_from (suc n) us)

-- the PROGRAM at its first statement, with nothing in its words, on the nodes of its PROCESSORS, or one
abbrev pub first_body : Image → ℕ → UnitImage → Body
first_body i n u = record {
  code = code_of i;
  machine = record { first = 0; count = nodes u.extents };
  node = 0;
  frame = new_frame n (unit_of u) (nulls (unit_of u).words) [];
  below = [];
}

abbrev pub body_in : Image → ℕ → Option UnitImage → Option Body
body_in i n None = None
body_in i n (Some u) = Some (first_body i n u)

abbrev pub body_by : Image → Option ℕ → Option Body
body_by i None = None
body_by i (Some n) = body_in i n (slice_get i.units n)

-- as a process, with no ports and nothing put out
abbrev pub first_process : Image → CodeProc
first_process i = record { phase = Running; body = body_by i (main_from 0 i.units); slots = no_slots; lines = []; next_block = 1; next_channel = 1 }

abbrev pub first : Image → State CodeProc
first i = main_alone (first_process i)

-- the step of the process at a place, with its cost
abbrev pub step : State CodeProc → Place → Option (State CodeProc × ℕ)
step = language_step code_language

-- a process that runs or joins has more to do
abbrev pub GoesOn : Phase → Type 0
GoesOn Running = Unit {0}
GoesOn (Joining block kids) = Unit {0}
GoesOn Ended = ⊥
GoesOn (Faulted line fault) = ⊥

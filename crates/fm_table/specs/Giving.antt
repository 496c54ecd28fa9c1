-- What a table does with a piece that is made outside: taking it, what comes back, and what is called back.
-- Source: this profile.
use Rattle.std.specs.Prelude.{◌≡◌, ◌⊎◌, ℕ, ◌+◌, ◌<◌, ◌≤◌, true, cond, Option, Some, List, [], ◌∷◌, ◌++◌, slice_get}
use Rattle.std.specs.List.Sorted.{IsNonDecreasing, IsPermutation}
use Rattle.fm_base.specs.declared.schedule.Turn.{Turn}
use Rattle.fm_code.specs.declared.body.Body.{Body}
use Rattle.fm_machine.specs.declared.done.Done.{Done}
use Rattle.fm_run.specs.Orders.{others_in}
use Rattle.fm_run.specs.Programs.{IsFull}
use Rattle.fm_run.specs.Runs.{place_of}
use Rattle.fm_net.specs.Machine.{Place}
use Rattle.fm_workers.specs.declared.shared.Given.{Given}
use Rattle.fm_workers.specs.declared.shared.Given.TheVariants.{Played, Stranger, Over}
use Rattle.fm_table.specs.Planned.{first_of, mapped}
use Rattle.fm_table.specs.Told.{IsBodyOf, Out, Told, cost_of, is_out, numbers_out, ready_in, ready_of, stand_of, start_in, with_entry, without}

-- a process is out, with this body
abbrev pub taken : (number : ℕ) → Body → Told → Told
taken number start a = record { program = a.program; setup = a.setup; history = a.history; queue = a.queue; out = a.out ++ record { number = number; start = start } ∷ [] }

-- who is taken for a worker: the first one that is ready and that the plan maps to this worker, or else the first one that is ready
abbrev pub taken_for : (worker : ℕ) → Told → Option ℕ
taken_for worker a = first_of (mapped a.program a.setup (stand_of a) worker (ready_of a)) (ready_of a)

-- that one is out, with its path and with a body that stands for it
pub record TakesTo (worker number : ℕ) (path : Place) (start : Body) (a b : Told) : Type 0 where
  pub going : cost_of a ≤ a.setup.turns
  pub who : taken_for worker a ≡ Some number
  pub path_is : slice_get (stand_of a).places number ≡ Some path
  pub own : IsBodyOf a.program (stand_of a) number start
  pub told : b ≡ taken number start a

-- a process that was out is ready again, behind the others
abbrev pub put_back : ℕ → Told → Told
put_back n a = cond (is_out a.out n) (record { program = a.program; setup = a.setup; history = a.history; queue = others_in n a.queue ++ n ∷ []; out = without n a.out }) a

-- the slice wasn't made of a process that is out, or not of the body with which it was taken
abbrev pub IsStranger : Done → Told → Type 0
IsStranger d a = start_in a.out d.process ≡ Some d.start.value → ⊥

-- the steps of the slice are an entry, with one more where the next one isn't local and the process can make it
pub record GivesTo (d : Done) (a b : Told) : Type 0 where
  pub own : start_in a.out d.process ≡ Some d.start.value
  pub entry : Turn
  pub number_is : entry.number ≡ d.process
  pub steps_are : (entry.steps ≡ d.steps) ⊎ (entry.steps ≡ d.steps + 1)
  pub some_steps : 1 ≤ entry.steps
  pub full : IsFull a.program d.steps true (stand_of a).state (place_of (stand_of a).places entry) entry.steps
  pub told : b ≡ with_entry a entry

-- what comes of a slice that is given
abbrev pub GivenTo : Done → (a b : Told) → Given → Type 0
GivenTo d a b Played = (cost_of a ≤ a.setup.turns) × GivesTo d a b
GivenTo d a b Stranger = (cost_of a ≤ a.setup.turns) × IsStranger d a × (b ≡ put_back d.process a)
GivenTo d a b Over = (a.setup.turns < cost_of a) × (b ≡ a)

-- all that were out are ready again, behind the others, in the order of their numbers
pub record IsCalledBack (out : List Out) (queue later : List ℕ) : Type 0 where
  pub numbers : List ℕ
  pub ascend : IsNonDecreasing numbers
  pub those : IsPermutation (numbers_out out) numbers
  pub queue_is : later ≡ ready_in out queue ++ numbers

pub record CallsBack (a b : Told) : Type 0 where
  pub back : IsCalledBack a.out a.queue b.queue
  pub told : b ≡ record { program = a.program; setup = a.setup; history = a.history; queue = b.queue; out = [] }

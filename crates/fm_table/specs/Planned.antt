-- What the plan says of those that can step: which worker the node of each belongs to, and who is taken for a worker.
-- Source: this profile.
use Rattle.std.specs.Prelude.{ℕ, ◌==◌, Option, Some, None, List, [], ◌∷◌, filter, slice_get}
use Rattle.std.specs.FinMap.{get}
use Rattle.fm_base.specs.declared.schedule.Setup.{Setup}
use Rattle.fm_map.specs.Placement.{worker_of}
use Rattle.fm_net.specs.Machine.{Place, State}
use Rattle.fm_rules.specs.declared.program.Program.{Program}
use Rattle.fm_mean.specs.Machines.{main_nodes}
use Rattle.fm_mean.specs.Process.{Proc}
use Rattle.fm_run.specs.Programs.{Stand}

-- the process at a place, if there is one
abbrev pub process_in : State Proc → Option Place → Option Proc
process_in s None = None
process_in s (Some q) = get s.procs q

abbrev pub node_in : Option Proc → ℕ
node_in None = 0
node_in (Some x) = x.execution.node

-- the node of the process of this number
abbrev pub node_at : Stand → ℕ → ℕ
node_at a n = node_in (process_in a.state (slice_get a.places n))

-- the worker that the plan maps it to
abbrev pub worker_at : Program → Setup → Stand → ℕ → ℕ
worker_at program setup a n = worker_of setup.plan (node_at a n) (main_nodes program) setup.workers

-- those of a list that the plan maps to this worker, in their order
abbrev pub mapped : Program → Setup → Stand → (worker : ℕ) → List ℕ → List ℕ
mapped program setup a worker = filter (λ n. worker_at program setup a n == worker)

-- the first one's own, or else the first of all
abbrev pub first_of : (own all : List ℕ) → Option ℕ
first_of [] all = slice_get all 0
first_of (n ∷ own) all = Some n

-- Where processes are put: nodes of a machine, machines that are parts of another, and workers of nodes.
-- Source: the Fortran M report (PROCESSORS, LOCATION, SUBMACHINE), with the shapes and faults of this profile.
use Rattle.std.specs.Prelude.{ℕ, suc, ℤ, pos, ◌-ℤ◌, int_le, ◌+◌, ◌*◌, ◌/◌, ◌%◌, nat_le, nat_lt, Bool, cond, ◌&&◌, Option, Some, None, option_map, List, [], ◌∷◌, Result, Ok, Err}
use Rattle.fm_base.specs.declared.fault.Fault.{Fault}
use Rattle.fm_base.specs.declared.fault.Fault.TheVariants.{BadLocation, BadMachine}
use Rattle.fm_base.specs.declared.schedule.Machine.{Machine}
use Rattle.fm_base.specs.declared.schedule.Plan.{Plan}
use Rattle.fm_base.specs.declared.schedule.Plan.TheVariants.{Cyclic, Block}
use Rattle.fm_values.specs.Trips.{natural}

-- where a child is put: its machine, and its node
abbrev pub Seat : Type 0
Seat = Machine × ℕ

-- how many nodes a shape has
abbrev pub product : List ℕ → ℕ
product [] = 1
product (e ∷ es) = e * product es

-- a number, where it is no more than a limit
abbrev pub no_more : (limit : ℕ) → ℕ → Option ℕ
no_more limit n = cond (nat_le n limit) (Some n) None

-- the shape of a unit, or one dimension over the machine where it has none
abbrev pub shape_of : List ℕ → Machine → List ℕ
shape_of [] m = m.count ∷ []
shape_of (e ∷ es) m = e ∷ es

-- the place of subscripts from 1 in column order, or none where one is outside its extent
abbrev pub place_in : List ℕ → List ℤ → Option ℕ
place_in [] [] = Some 0
place_in [] (k ∷ ks) = None
place_in (e ∷ es) [] = None
place_in (e ∷ es) (k ∷ ks) = cond (int_le (pos 1) k && int_le k (pos e)) (option_map (λ n. natural (k -ℤ pos 1) + e * n) (place_in es ks)) None

-- each node of a machine has a number below 4,294,967,296
abbrev pub is_numbered : Machine → Bool
is_numbered m = nat_le (m.first + m.count) 4294967296

-- a place, where it is one of so many
abbrev pub one_of : (count : ℕ) → Option ℕ → Option ℕ
one_of count None = None
one_of count (Some n) = cond (nat_lt n count) (Some n) None

-- the node of a machine at subscripts in a shape; none where the shape has no such place, or the machine no such node
abbrev pub node_of : Machine → List ℕ → List ℤ → Option ℕ
node_of m extents ks = cond (is_numbered m) (option_map (λ n. m.first + n) (one_of m.count (place_in extents ks))) None

-- one node is a machine of its own
abbrev pub at_node : Option ℕ → Result Seat Fault
at_node None = Err BadLocation
at_node (Some n) = Ok (record { first = n; count = 1 }, n)

-- LOCATION: one node of the machine, by the shape of the unit that calls
abbrev pub located : List ℕ → Machine → List ℤ → Result Seat Fault
located extents m ks = at_node (node_of m (shape_of extents m) ks)

-- the nodes of a machine from one to another, counted from 1; none where it hasn't all of them
abbrev pub part_of : Machine → ℤ → ℤ → Option Machine
part_of m lo hi = cond (is_numbered m && (int_le (pos 1) lo && (int_le lo hi && int_le hi (pos m.count))))
    (Some (record { first = m.first + natural (lo -ℤ pos 1); count = suc (natural (hi -ℤ lo)) }))
    None

-- a process is on the first node of its machine
abbrev pub at_first : Option Machine → Result Seat Fault
at_first None = Err BadMachine
at_first (Some m) = Ok (m, m.first)

-- SUBMACHINE: a part of the machine
abbrev pub parted : Machine → ℤ → ℤ → Result Seat Fault
parted m lo hi = at_first (part_of m lo hi)

-- a child whose unit has PROCESSORS takes so many nodes of its machine, from the first on
abbrev pub fitted : List ℕ → Seat → Result Seat Fault
fitted [] s = Ok s
fitted (e ∷ es) s = cond (nat_lt s.0.count (product (e ∷ es))) (Err BadMachine) (Ok (record { first = s.0.first; count = product (e ∷ es) }, s.1))

-- the worker of a node, by a plan: node after node, each to the next worker; or runs of neighbouring nodes
abbrev pub worker_of : Plan → (node nodes workers : ℕ) → ℕ
worker_of Cyclic node nodes workers = node % workers
worker_of Block node nodes workers = (node * workers) / nodes

-- The shapes over which LOCATION counts, and the machines of processes.
-- Source: the Fortran M report (PROCESSORS, LOCATION), with this profile's machines.
use Rattle.std.specs.Prelude.{◌≡◌, ◌≤◌, ◌+◌, ℤ, true, Some, option_map, List, ◌∷◌}
use Rattle.std.specs.FinMap.{get}
use Rattle.fm_map.specs.Placement.{is_numbered, node_of, place_in, product, shape_of}
use Rattle.fm_net.specs.Machine.{Place, State}
use Rattle.fm_rules.specs.declared.program.Program.{Program}
use Rattle.fm_mean.specs.Names.{ProgramUnit, unit_at}
use Rattle.fm_mean.specs.Process.{Frame, Proc}

-- the shape of the unit at work has no more nodes than the machine, whose nodes are numbered so; LOCATION finds a node wherever the
-- subscripts have a place in the shape
pub record ShapeFits (p : Program) (x : Proc) : Type 0 where
  pub shape : (f : Frame) (below : List Frame) (u : ProgramUnit) → x.execution.frames ≡ f ∷ below → unit_at p f.unit ≡ Some u
      → product (shape_of u.names.extents x.execution.machine) ≤ x.execution.machine.count
  pub numbered : is_numbered x.execution.machine ≡ true
  pub nodes : (f : Frame) (below : List Frame) (u : ProgramUnit) → x.execution.frames ≡ f ∷ below → unit_at p f.unit ≡ Some u → (subscripts : List ℤ)
      → node_of x.execution.machine (shape_of u.names.extents x.execution.machine) subscripts
      ≡ option_map (λ n. x.execution.machine.first + n) (place_in (shape_of u.names.extents x.execution.machine) subscripts)

abbrev pub ShapesFit : Program → State Proc → Type 0
ShapesFit p s = (q : Place) (x : Proc) → get s.procs q ≡ Some x → ShapeFits p x

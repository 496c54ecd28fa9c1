-- The shape of a unit at work fits the machine of its process: they have equally many nodes, or the shape is the machine's.
use Rattle.std.proofs.Common.{◌≡◌, ◌≤◌, ◌<◌, ◌+◌, ℕ, ℤ, true, cond, Option, Some, None, List, [], ◌∷◌, refl, ap, ◌∙◌, subst, arith}
use Rattle.std.specs.Prelude.{nat_lt, option_map}
use Rattle.std.proofs.lemmas.Bool.Decides.{nat_tests}
use Rattle.fm_base.specs.declared.schedule.Machine.{Machine}
use Rattle.fm_map.specs.Placement.{is_numbered, node_of, one_of, place_in, product, shape_of}
use Rattle.fm_sched.specs.Schedule.{Throughout}
use Rattle.fm_net.specs.Typed.{AllIn}
use Rattle.fm_rules.specs.declared.program.Program.{Program}
use Rattle.fm_mean.specs.Machines.{HasMachine, HasNodes, HasNodesOf}
use Rattle.fm_mean.specs.Process.{Frame, Proc}
use Rattle.fm_mean.specs.Steps.{first, step}
use Rattle.fm_mean.specs.Names.{ProgramUnit, unit_at}
use Rattle.fm_mean.proofs.Machines.{machines_along, place_low}
use Rattle.fm_cost_law.specs.Shapes.{ShapeFits, ShapesFit}

fits : (m : Machine) (extents : List ℕ) → HasNodes m extents → product (shape_of extents m) ≤ m.count
fits m [] h = omega arith
fits m (e ∷ es) h = omega (arith, h)

is_less : (n m : ℕ) → n < m → nat_lt n m ≡ true
is_less n m h = grind (arith, nat_tests)

counted : (m : Machine) → m.first + m.count ≤ 4294967296 → is_numbered m ≡ true
counted m h = grind (arith, nat_tests)

-- each place of a shape that has no more nodes than the machine is one of so many
one_there : (count : ℕ) (o : Option ℕ) → ((j : ℕ) → o ≡ Some j → j < count) → one_of count o ≡ o
one_there count None low = refl
one_there count (Some j) low = ap (λ b. cond b (Some j) None) (is_less j count (low j refl))

node_there : (m : Machine) (es : List ℕ) (ks : List ℤ) → is_numbered m ≡ true → product es ≤ m.count → node_of m es ks ≡ option_map (λ n. m.first + n) (place_in es ks)
node_there m es ks numbered few =
    ap (λ b. cond b (option_map (λ n. m.first + n) (one_of m.count (place_in es ks))) None) numbered
    ∙ ap (option_map (λ n. m.first + n)) (one_there m.count (place_in es ks) (λ j at. let low = place_low es ks j at in omega (arith, low, few)))

fitting : (p : Program) (x : Proc) → HasMachine p x → ShapeFits p x
fitting p x h = record {
  shape = shape;
  numbered = numbered;
  nodes = λ f below u at is ks. node_there x.execution.machine (shape_of u.names.extents x.execution.machine) ks numbered (shape f below u at is);
}
  where
    shape : (f : Frame) (below : List Frame) (u : ProgramUnit) → x.execution.frames ≡ f ∷ below → unit_at p f.unit ≡ Some u → product (shape_of u.names.extents x.execution.machine) ≤ x.execution.machine.count
    shape f below u at is = fits x.execution.machine u.names.extents ((subst (AllIn (λ (f : Frame). HasNodesOf p x.execution.machine f.unit)) at h.asked).0 u is)

    numbered : is_numbered x.execution.machine ≡ true
    numbered = let few = h.numbered in counted x.execution.machine (omega (arith, few))

pub shapes_along : (p : Program) → Throughout (step p) (ShapesFit p) (first p)
shapes_along p cs legal q x there = fitting p x (machines_along p cs legal q x there)

use Rattle.std.proofs.Common.{sym, ap, ◌∙◌, arith, slice_get}
use Rattle.std.specs.Arc.{arc_value}
use Rattle.std.specs.declared.alloc.Global.{Global}
use Rattle.std.specs.declared.sync.Arc.{Arc}
use Rattle.std.proofs.lemmas.List.{length-map}
use Rattle.fm_base.specs.declared.path.Path.{Path}
use Rattle.fm_nodes_procs.specs.Processes.{order_of}
use Rattle.fm_nodes_procs.proofs.Kept.{absent, another_place, low, the_place}
use Rattle.fm_nodes_procs.proofs.processes.Processes.find.Goals as goal
use native.Mathlib.Decide.{ℕ_discrete}

pub returns-then-is_at-clause-there : goal.returns-then-is_at-clause-there
returns-then-is_at-clause-there g c = the_place c.args.path.now (slice_get (order_of c.args.self.now) c.paths.number) (sym c.is_at.ensures ∙ c.if-is_at.true)

pub paths-preserved : goal.paths-preserved
paths-preserved g c = λ k below at.
    elim (ℕ_discrete k c.paths.number) [
      | yes same ↦ another_place c.args.path.now (slice_get (order_of c.args.self.now) c.paths.number) (sym c.is_at.ensures ∙ c.if-is_at.false) (ap (slice_get (order_of c.args.self.now)) (sym same) ∙ at)
      | no off ↦ c.paths.invariant k (omega (arith, below)) at
    ]

pub returns-clause-none : goal.returns-clause-none
returns-clause-none g c =
    let me = c.args.self.now in
    absent me.paths.items me.values.items me.rows c.args.path.now (λ n at.
    c.paths.invariant n (omega (arith, low (order_of me) n c.args.path.now at, c.paths-test.false, c.len-number-end.ensures, me.paths.ok.0, length-map me.paths.items (λ (a : Arc Path Global). arc_value a))) at)

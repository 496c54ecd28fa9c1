-- The host of a process, by its node.
use Rattle.std.proofs.Common.{◌≡◌, ◌<◌, ◌≤◌, ℕ, cond, sym, ap, ◌∙◌, arith}
use Rattle.std.specs.Prelude.{nat_lt}
use Rattle.std.proofs.lemmas.Bool.Decides.{nat_tests}
use Rattle.fm_base.specs.declared.schedule.Plan.{Plan}
use Rattle.fm_map.specs.Placement.{worker_of}
use Rattle.fm_rules.specs.declared.program.Program.{Program}
use Rattle.fm_mean.specs.Machines.{main_nodes}
use Rattle.fm_mean.specs.Process.{Proc}
use Rattle.fm_nodes_trees.specs.Trees.{host_of}

below : (a b u v : ℕ) → a < b → cond (nat_lt a b) u v ≡ u
below a b u v low = grind (arith, nat_tests)

beyond : (a b u v : ℕ) → b ≤ a → cond (nat_lt a b) u v ≡ v
beyond a b u v high = grind (arith, nat_tests)

module _ (p : Program) (hosts : ℕ) (plan : Plan) (x : Proc) (nodes : ℕ) (all : nodes ≡ main_nodes p) where
  -- it is on a node of main's machine
  pub on_node : x.execution.node < nodes → worker_of plan x.execution.node nodes hosts ≡ host_of p hosts plan x
  on_node low = sym (below x.execution.node nodes (worker_of plan x.execution.node nodes hosts) 0 low) ∙ ap (λ (n : ℕ). cond (nat_lt x.execution.node n) (worker_of plan x.execution.node n hosts) 0) all

  -- or on none
  pub elsewhere : nodes ≤ x.execution.node → 0 ≡ host_of p hosts plan x
  elsewhere high = sym (beyond x.execution.node nodes (worker_of plan x.execution.node nodes hosts) 0 high) ∙ ap (λ (n : ℕ). cond (nat_lt x.execution.node n) (worker_of plan x.execution.node n hosts) 0) all

-- Recursion, which this profile forbids.
-- Source: ANSI X3.9-1978, sections 15.5.2 and 15.6.2: a subprogram doesn't reference itself, directly or indirectly.
use Rattle.std.specs.Prelude.{◌≡◌, ℕ, false, List, [], slice_index_or, Contains}
use Rattle.fm_base.specs.declared.rule.Refusal.{Refusal}
use Rattle.fm_base.specs.declared.rule.Rule.TheVariants.{E45}
use Rattle.fm_base.specs.Verdict.{place}
use Rattle.fm_graph.specs.Graph.{Reaches}
use Rattle.fm_tree.specs.declared.program_unit.Unit.{Unit}
use Rattle.fm_symbols.specs.declared.context.Context.{Context}
use Rattle.fm_rules.specs.declared.calls.Call.{Call}
use Rattle.fm_rules.specs.Calls.{all_calls, call_graph}

-- a call of a unit that reaches the unit of the call by calls and references, or is it; PROCESSCALL starts another process
-- and is no recursion
pub record IsRecursion (us : List Unit) (c : Context) (q : Refusal) : Type 0 where
  pub unit : ℕ
  pub call : Call
  pub calls : Contains (slice_index_or (all_calls false us c) unit []) call
  pub back : Reaches (call_graph false us c) call.target unit
  pub broken : q ≡ place call.line.0 E45

-- What ENDCHANNEL ends is an outport.
use Rattle.std.proofs.Common.{◌≡◌, ℕ, Bool, false, Some, ◌++◌, slice_get, subst}
use Rattle.fm_base.specs.Verdict.{place, when}
use Rattle.fm_base.specs.declared.rule.Rule.TheVariants.{E50, E51, E52, E53, E54}
use Rattle.fm_net.specs.Typed.{AllIn}
use Rattle.fm_tree.specs.PortFields.{PortFields, Out}
use Rattle.fm_tree.specs.declared.program_unit.Entry.{Entry}
use Rattle.fm_tree.specs.declared.statement.Simple.TheVariants as simple
use Rattle.fm_tree.specs.declared.statement.Stmt.{Stmt}
use Rattle.fm_tree.specs.declared.statement.Stmt.TheVariants as stmt
use Rattle.fm_tree.specs.declared.statement.Var.{Var}
use Rattle.fm_symbols.specs.Context.{scope_of}
use Rattle.fm_symbols.specs.declared.context.Scope as symbols
use Rattle.fm_rules.specs.JudgedStatements.{has_stray_port, variable_type}
use Rattle.fm_rules.specs.Occurrences as occurrences
use Rattle.fm_rules.specs.PortRules.{breaks_call, breaks_message, breaks_rank, breaks_type, call_in, in_simple, lacks_direction, location_in, simple_in}
use Rattle.fm_rules.specs.TypeStatements.{simple_flags, typed_flags}
use Rattle.fm_rules.specs.VariableTypes.{variable_judged}
use Rattle.fm_rules.specs.declared.program.Program.{Program}
use Rattle.fm_mean.specs.Names.{ProgramUnit, context, unit_at}
use Rattle.fm_mean.specs.Typing.{sort_of}
use Rattle.fm_mean.proofs.JudgedItems.{outport_is}
use Rattle.fm_mean.proofs.JudgedPlaces.{IsMeant, port_is, variable_has_type}
use Rattle.fm_mean.proofs.JudgedPrograms.{arrays_in}
use Rattle.fm_mean.proofs.ProgramMeanings.{meanings}
use Rattle.fm_mean.proofs.Unbroken.{left_empty, right_empty, not_when}
use Rattle.fm_mean.proofs.Unflagged.{IsUnflagged}
use Rattle.fm_gen_relation.proofs.EntryFlags.{entry_ports, entry_unflagged}

module _ (p : Program) (number : ℕ) (u : ProgramUnit) (i : ℕ) (e : Entry) (is : unit_at p number ≡ Some u) (at : slice_get u.tree.body i ≡ Some e) where
  abbrev sc : symbols.Scope
  sc = scope_of u.tree u.names

  direction_kept : in_simple (lacks_direction u.names (context p) sc) (simple_in e.stmt) ≡ false
  direction_kept =
      let ns = p.names.units in
      let line = e.line.0 in
      let b1 = in_simple (lacks_direction u.names (context p) sc) (simple_in e.stmt) in
      let w0 = when (has_stray_port u.names (context p) sc e.stmt) (place line E50) in
      let w1 = when b1 (place line E51) in
      let w2 = when (in_simple (breaks_message u.names (context p) sc) (simple_in e.stmt)) (place line E52) in
      let w3 = when (in_simple (breaks_type u.names (context p) sc) (simple_in e.stmt)) (place line E53) in
      let w4 = when (breaks_call ns u.names (context p) sc (call_in e.stmt)) (place line E53) in
      let w5 = when (breaks_rank u.names (location_in e.stmt)) (place line E54) in
      not_when b1 (place line E51)
      (right_empty w0 w1 (left_empty (w0 ++ w1) w2 (left_empty (w0 ++ w1 ++ w2) w3 (left_empty (w0 ++ w1 ++ w2 ++ w3) w4 (left_empty (w0 ++ w1 ++ w2 ++ w3 ++ w4) w5 (entry_ports p number u is i e at))))))

  closed : (named : Bool) (q : Var) → IsUnflagged (typed_flags (context p) sc u.names.variables (stmt.Simple (simple.EndChannel named q)))
      → AllIn (IsMeant u (context p)) (occurrences.stands_in (arrays_in u) (stmt.Simple (simple.EndChannel named q)))
      → in_simple (lacks_direction u.names (context p) sc) (simple_in (stmt.Simple (simple.EndChannel named q))) ≡ false → (t : PortFields) × (sort_of u q.name ≡ Some (Out t))
  unfolding typed_flags simple_flags occurrences.stands_in occurrences.in_simple simple_in lacks_direction variable_type
  closed named q h some way =
      let x = outport_is u q.name (variable_judged (context p) sc q).expr_type (port_is u (context p) q h) (variable_has_type u (context p) q some.0 h) way in
      (x.fields, x.sort)

  pub closes_outport : (named : Bool) (q : Var) → e.stmt ≡ stmt.Simple (simple.EndChannel named q) → (t : PortFields) × (sort_of u q.name ≡ Some (Out t))
  closes_outport named q same =
      closed named q (subst (λ (s : Stmt). IsUnflagged (typed_flags (context p) sc u.names.variables s)) same (entry_unflagged p number u is i e at))
      (subst (λ (s : Stmt). AllIn (IsMeant u (context p)) (occurrences.stands_in (arrays_in u) s)) same ((meanings p).names number u i e is at))
      (subst (λ (s : Stmt). in_simple (lacks_direction u.names (context p) sc) (simple_in s) ≡ false) same direction_kept)

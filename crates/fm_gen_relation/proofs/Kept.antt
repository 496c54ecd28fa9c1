-- What the rules on types and ports say of an entry of a checked program.
use Rattle.std.proofs.Common.{◌≡◌, ℕ, false, ◌&&◌, Some, ◌++◌, slice_get, subst}
use Rattle.fm_base.specs.declared.rule.Rule.TheVariants.{E50, E51, E52, E53, E54}
use Rattle.fm_base.specs.Verdict.{place, when}
use Rattle.fm_tree.specs.declared.program_unit.Entry.{Entry}
use Rattle.fm_tree.specs.declared.statement.Simple.{Simple}
use Rattle.fm_tree.specs.declared.statement.Stmt.{Stmt}
use Rattle.fm_tree.specs.declared.statement.Stmt.TheVariants as stmt
use Rattle.fm_symbols.specs.Context.{scope_of}
use Rattle.fm_symbols.specs.Headings.{is_function}
use Rattle.fm_symbols.specs.declared.context.Scope.{Scope}
use Rattle.fm_rules.specs.Occurrences as occurrences
use Rattle.fm_rules.specs.Flags.{e46}
use Rattle.fm_rules.specs.TypeStatements.{flags_of, is_barred, simple_flags, typed_flags}
use Rattle.fm_rules.specs.JudgedStatements.{has_stray_port}
use Rattle.fm_rules.specs.PortRules.{breaks_call, breaks_message, breaks_rank, breaks_type, call_in, in_simple, lacks_direction, location_in, simple_in}
use Rattle.fm_net.specs.Typed.{AllIn}
use Rattle.fm_rules.specs.declared.program.Program.{Program}
use Rattle.fm_mean.specs.Names.{ProgramUnit, unit_at, context}
use Rattle.fm_mean.proofs.Unbroken.{left_empty, right_empty, not_when}
use Rattle.fm_mean.proofs.Unflagged.{IsUnflagged, line_unflagged, left_unflagged}
use Rattle.fm_mean.proofs.JudgedPlaces.{IsMeant}
use Rattle.fm_mean.proofs.JudgedPrograms.{arrays_in}
use Rattle.fm_mean.proofs.ProgramMeanings.{meanings}
use Rattle.fm_gen_relation.proofs.EntryFlags.{entry_types, entry_ports}

-- What is kept at an entry.

module _ (p : Program) (number : ℕ) (u : ProgramUnit) (is : unit_at p number ≡ Some u) where
  abbrev sc : Scope
  sc = scope_of u.tree u.names

  -- of a statement that may stand behind a logical IF
  pub record Keeps (s : Simple) : Type 0 where
    pub flags : IsUnflagged (simple_flags (context p) sc u.names.variables s)
    pub names : AllIn (IsMeant u (context p)) (occurrences.in_simple (arrays_in u) s)
    pub direction : lacks_direction u.names (context p) sc s ≡ false
    pub message : breaks_message u.names (context p) sc s ≡ false
    pub alike : breaks_type u.names (context p) sc s ≡ false

  abbrev KeepsStatement : Stmt → Type 0
  KeepsStatement (stmt.Simple s) = Keeps s
  KeepsStatement t = Unit {0}

  keeps_statement : (t : Stmt) → IsUnflagged (typed_flags (context p) sc u.names.variables t) → AllIn (IsMeant u (context p)) (occurrences.stands_in (arrays_in u) t)
      → in_simple (lacks_direction u.names (context p) sc) (simple_in t) ≡ false → in_simple (breaks_message u.names (context p) sc) (simple_in t) ≡ false
      → in_simple (breaks_type u.names (context p) sc) (simple_in t) ≡ false → KeepsStatement t
  unfolding typed_flags occurrences.stands_in simple_in
  keeps_statement (stmt.Simple s) flags names direction message alike = record { flags = flags; names = names; direction = direction; message = message; alike = alike }
  keeps_statement t flags names direction message alike = tt

  pub keeps : (i : ℕ) (e : Entry) → slice_get u.tree.body i ≡ Some e → (s : Simple) → e.stmt ≡ stmt.Simple s → Keeps s
  unfolding has_stray_port
  keeps i e at s same =
      let ns = p.names.units in
      let line = e.line.0 in
      let b0 = has_stray_port u.names (context p) sc e.stmt in
      let b1 = in_simple (lacks_direction u.names (context p) sc) (simple_in e.stmt) in
      let b2 = in_simple (breaks_message u.names (context p) sc) (simple_in e.stmt) in
      let b3 = in_simple (breaks_type u.names (context p) sc) (simple_in e.stmt) in
      let w0 = when b0 (place line E50) in
      let w1 = when b1 (place line E51) in
      let w2 = when b2 (place line E52) in
      let w3 = when b3 (place line E53) in
      let w4 = when (breaks_call ns u.names (context p) sc (call_in e.stmt)) (place line E53) in
      let w5 = when (breaks_rank u.names (location_in e.stmt)) (place line E54) in
      let r3 = left_empty (w0 ++ w1 ++ w2 ++ w3) w4 (left_empty (w0 ++ w1 ++ w2 ++ w3 ++ w4) w5 (entry_ports p number u is i e at)) in
      let r2 = left_empty (w0 ++ w1 ++ w2) w3 r3 in
      let r1 = left_empty (w0 ++ w1) w2 r2 in
      let flags = line_unflagged line (flags_of (context p) sc u.names.variables e.stmt) (entry_types p number u is i e at) (not_when b0 (place line E50) (left_empty w0 w1 r1)) in
      subst KeepsStatement same
      (keeps_statement e.stmt (left_unflagged (typed_flags (context p) sc u.names.variables e.stmt) (e46 (is_function sc.kind && is_barred e.stmt)) flags) ((meanings p).names number u i e is at)
      (not_when b1 (place line E51) (right_empty w0 w1 r1)) (not_when b2 (place line E52) (right_empty (w0 ++ w1) w2 r2)) (not_when b3 (place line E53) (right_empty (w0 ++ w1 ++ w2) w3 r3)))

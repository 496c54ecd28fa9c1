-- No entry of a checked program breaks a rule of types.
use Rattle.std.proofs.Common.{◌≡◌, ℕ, zero, suc, ◌+◌, false, ◌&&◌, Option, Some, List, [], ◌∷◌, ◌++◌, slice_get, inl, refl, sym, ap, ◌∙◌, arith}
use Rattle.std.specs.Prelude.{Contains}
use Rattle.std.specs.List.{flat_map}
use Rattle.fm_base.specs.declared.rule.Refusal.{Refusal}
use Rattle.fm_base.specs.declared.rule.Rule.TheVariants.{E50, E51, E52, E53, E54}
use Rattle.fm_base.specs.Verdict.{place, when}
use Rattle.fm_tree.specs.declared.program_unit.Entry.{Entry}
use Rattle.fm_tree.specs.declared.program_unit.Unit as tree
use Rattle.fm_symbols.specs.Context.{scope_of}
use Rattle.fm_symbols.specs.Headings.{is_function}
use Rattle.fm_symbols.specs.declared.context.Context.{Context}
use Rattle.fm_symbols.specs.declared.context.Scope as symbols
use Rattle.fm_symbols.specs.declared.names.UnitNames.{UnitNames}
use Rattle.fm_rules.specs.Flags.{e46}
use Rattle.fm_rules.specs.TypeStatements.{flags_of, is_barred, typed_flags}
use Rattle.fm_rules.specs.BrokenTypes as types
use Rattle.fm_rules.specs.BrokenPorts as ports
use Rattle.fm_rules.specs.JudgedStatements.{has_stray_port}
use Rattle.fm_rules.specs.PortRules.{breaks_call, breaks_message, breaks_rank, breaks_type, call_in, in_simple, lacks_direction, location_in, simple_in}
use Rattle.fm_rules.specs.Broken.{IsBrokenType}
use Rattle.fm_rules.specs.declared.program.Program.{Program}
use Rattle.fm_mean.specs.Names.{ProgramUnit, unit_at, context}
use Rattle.fm_mean.proofs.Unbroken.{nothing_in, left_empty, right_empty, each_empty, not_when, first_clean, next_clean, uses_clean}
use Rattle.fm_mean.proofs.Unflagged.{IsUnflagged, line_unflagged, left_unflagged}
use Rattle.fm_mean.proofs.JudgedValues.{scope_by, scopes_there}
use Rattle.fm_mean.proofs.Sizes.{parts_of}

types_clean : (p : Program) → types.broken_types p.units.units p.names.units (context p) ≡ []
types_clean p =
    let us = p.units.units in
    let ns = p.names.units in
    nothing_in (types.broken_types us ns (context p)) (λ q broken. first_clean (IsBrokenType us ns (context p)) (Contains (ports.broken_ports us ns (context p))) (uses_clean p) q (inl broken))

ports_clean : (p : Program) → ports.broken_ports p.units.units p.names.units (context p) ≡ []
ports_clean p =
    let us = p.units.units in
    let ns = p.names.units in
    nothing_in (ports.broken_ports us ns (context p)) (next_clean (IsBrokenType us ns (context p)) (Contains (ports.broken_ports us ns (context p))) (uses_clean p))

-- each of several lists, one behind the other, is empty if all are
module _ (part : ℕ → tree.Unit → List Refusal) (parts : ℕ → List tree.Unit → List Refusal) (cut : (number : ℕ) (u : tree.Unit) (us : List tree.Unit) → parts number (u ∷ us) ≡ part number u ++ parts (number + 1) us) where
  unit_clean : (number : ℕ) (us : List tree.Unit) (k : ℕ) (u : tree.Unit) → parts number us ≡ [] → slice_get us k ≡ Some u → part (number + k) u ≡ []
  unit_clean number [] k u e is = absurd (cc)
  unit_clean number (v ∷ us) zero u e is =
      ap (λ (v : tree.Unit). part (number + 0) v) (sym (the_unit v u is)) ∙ ap (λ (n : ℕ). part n v) (omega arith) ∙ left_empty (part number v) (parts (number + 1) us) (sym (cut number v us) ∙ e)
    where
      the_unit : (a b : tree.Unit) → Some a ≡ Some b → a ≡ b
      the_unit a b e = cc
  unit_clean number (v ∷ us) (suc k) u e is = ap (λ (n : ℕ). part n u) (omega arith) ∙ unit_clean (number + 1) us k u (right_empty (part number v) (parts (number + 1) us) (sym (cut number v us) ∙ e)) is

types_from : (ns : List UnitNames) (c : Context) (us : List tree.Unit) (k : ℕ) (u : tree.Unit) → types.broken_from ns c 0 us ≡ [] → slice_get us k ≡ Some u → types.broken_at ns c k u ≡ []
types_from ns c us k u e is =
    ap (λ (n : ℕ). types.broken_at ns c n u) (omega arith)
    ∙ unit_clean (types.broken_at ns c) (types.broken_from ns c) (λ number v vs. ap (λ (n : ℕ). types.broken_at ns c number v ++ types.broken_from ns c n vs) (omega arith)) 0 us k u e is

abbrev ports_at : List UnitNames → Context → ℕ → tree.Unit → List Refusal
ports_at ns c k u = ports.broken_unit ns c u (slice_get ns k) (slice_get c.scopes k)

ports_from : (ns : List UnitNames) (c : Context) (us : List tree.Unit) (k : ℕ) (u : tree.Unit) → ports.broken_from ns c 0 us ≡ [] → slice_get us k ≡ Some u → ports_at ns c k u ≡ []
ports_from ns c us k u e is = ap (λ (n : ℕ). ports_at ns c n u) (omega arith) ∙ unit_clean (ports_at ns c) (ports.broken_from ns c) (λ number v vs. refl) 0 us k u e is

body_clean : (ns : List UnitNames) (n : UnitNames) (c : Context) (s : symbols.Scope) (es : List Entry) (i : ℕ) (x : Entry) → ports.broken_body ns n c s es ≡ [] → slice_get es i ≡ Some x → ports.broken_at ns n c s x.line.0 x.stmt ≡ []
body_clean ns n c s [] i x e is = absurd (cc)
body_clean ns n c s (y ∷ es) zero x e is =
    ap (λ (y : Entry). ports.broken_at ns n c s y.line.0 y.stmt) (sym (the_entry y x is)) ∙ left_empty (ports.broken_at ns n c s y.line.0 y.stmt) (ports.broken_body ns n c s es) e
  where
    the_entry : (a b : Entry) → Some a ≡ Some b → a ≡ b
    the_entry a b e = cc
body_clean ns n c s (y ∷ es) (suc i) x e is = body_clean ns n c s es i x (right_empty (ports.broken_at ns n c s y.line.0 y.stmt) (ports.broken_body ns n c s es) e) is

module _ (p : Program) (number : ℕ) (u : ProgramUnit) (is : unit_at p number ≡ Some u) (i : ℕ) (e : Entry) (at : slice_get u.tree.body i ≡ Some e) where
  abbrev pub sc : symbols.Scope
  sc = scope_of u.tree u.names

  scope_here : slice_get (context p).scopes number ≡ Some (scope_of u.tree u.names)
  scope_here = scopes_there p.units.units p.names.units number ∙ ap scope_by is

  pub entry_types : types.broken_in_entry (context p) sc u.names.variables e ≡ []
  entry_types =
      let vs = u.names.variables in
      let ns = p.names.units in
      let unit : types.broken_in_unit (context p) sc vs u.tree ≡ [] =
      sym (ap (λ (o : Option symbols.Scope). types.broken_by (context p) o (Some u.names) u.tree) scope_here)
      ∙ sym (ap (λ (o : Option UnitNames). types.broken_by (context p) (slice_get (context p).scopes number) o u.tree) (parts_of p number u is).1)
      ∙ types_from ns (context p) p.units.units number u.tree (types_clean p) (parts_of p number u is).0 in
      let heading = types.broken_in_statement (context p) sc vs u.tree.heading in
      let specs = flat_map (types.broken_in_statement (context p) sc vs) u.tree.specs in
      let body = flat_map (types.broken_in_entry (context p) sc vs) u.tree.body in
      each_empty (types.broken_in_entry (context p) sc vs) u.tree.body i e (right_empty specs body (right_empty heading (specs ++ body) unit)) at

  pub entry_ports : ports.broken_at p.names.units u.names (context p) sc e.line.0 e.stmt ≡ []
  entry_ports =
      let ns = p.names.units in
      let unit : ports.broken_body ns u.names (context p) sc u.tree.body ≡ [] =
      sym (ap (λ (o : Option symbols.Scope). ports.broken_unit ns (context p) u.tree (Some u.names) o) scope_here)
      ∙ sym (ap (λ (o : Option UnitNames). ports.broken_unit ns (context p) u.tree o (slice_get (context p).scopes number)) (parts_of p number u is).1)
      ∙ ports_from ns (context p) p.units.units number u.tree (ports_clean p) (parts_of p number u is).0 in
      body_clean ns u.names (context p) sc u.tree.body i e unit at

  no_stray_port : has_stray_port u.names (context p) sc e.stmt ≡ false
  no_stray_port =
      let ns = p.names.units in
      let line = e.line.0 in
      let b0 = has_stray_port u.names (context p) sc e.stmt in
      let w0 = when b0 (place line E50) in
      let w1 = when (in_simple (lacks_direction u.names (context p) sc) (simple_in e.stmt)) (place line E51) in
      let w2 = when (in_simple (breaks_message u.names (context p) sc) (simple_in e.stmt)) (place line E52) in
      let w3 = when (in_simple (breaks_type u.names (context p) sc) (simple_in e.stmt)) (place line E53) in
      let w4 = when (breaks_call ns u.names (context p) sc (call_in e.stmt)) (place line E53) in
      let w5 = when (breaks_rank u.names (location_in e.stmt)) (place line E54) in
      not_when b0 (place line E50)
      (left_empty w0 w1 (left_empty (w0 ++ w1) w2 (left_empty (w0 ++ w1 ++ w2) w3 (left_empty (w0 ++ w1 ++ w2 ++ w3) w4 (left_empty (w0 ++ w1 ++ w2 ++ w3 ++ w4) w5 entry_ports)))))

  pub entry_unflagged : IsUnflagged (typed_flags (context p) (scope_of u.tree u.names) u.names.variables e.stmt)
  unfolding has_stray_port
  entry_unflagged =
      left_unflagged (typed_flags (context p) sc u.names.variables e.stmt) (e46 (is_function sc.kind && is_barred e.stmt))
      (line_unflagged e.line.0 (flags_of (context p) sc u.names.variables e.stmt) entry_types no_stray_port)

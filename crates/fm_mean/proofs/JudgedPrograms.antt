-- A program has the types that its meaning asks for, by what its rules say of each statement.
use Rattle.std.proofs.Common.{◌≡◌, ℕ, zero, suc, ◌+◌, Bool, false, ◌&&◌, Option, Some, None, List, [], ◌∷◌, ◌++◌, slice_get, sym, ap, ◌∙◌, arith}
use Rattle.std.specs.Prelude.{Contains, option_and_then}
use Rattle.std.specs.List.{flat_map}
use Rattle.fm_base.specs.declared.rule.Refusal.{Refusal}
use Rattle.fm_base.specs.declared.rule.Rule.TheVariants.{E50, E51, E52, E53, E54}
use Rattle.fm_base.specs.Verdict.{place, when}
use Rattle.fm_tree.specs.Tree.{Tree}
use Rattle.fm_tree.specs.References as applied
use Rattle.fm_tree.specs.declared.program_unit.Entry.{Entry}
use Rattle.fm_tree.specs.declared.program_unit.Unit as tree
use Rattle.fm_symbols.specs.Context.{scope_of}
use Rattle.fm_symbols.specs.Headings.{is_function}
use Rattle.fm_symbols.specs.declared.context.Context.{Context}
use Rattle.fm_symbols.specs.declared.context.Scope as symbols
use Rattle.fm_symbols.specs.declared.names.UnitNames.{UnitNames}
use Rattle.fm_rules.specs.Constants.{constants_of}
use Rattle.fm_rules.specs.Sheets.{arrays_of}
use Rattle.fm_rules.specs.Arrays.{is_array}
use Rattle.fm_rules.specs.Occurrences.{stands_in}
use Rattle.fm_rules.specs.Flags.{e46}
use Rattle.fm_rules.specs.TypeStatements.{flags_of, is_barred, typed_flags}
use Rattle.fm_rules.specs.BrokenTypes as types
use Rattle.fm_rules.specs.BrokenPorts as ports
use Rattle.fm_rules.specs.JudgedStatements.{has_stray_port}
use Rattle.fm_rules.specs.PortRules.{breaks_call, breaks_message, breaks_rank, breaks_type, call_in, in_simple, lacks_direction, location_in, simple_in}
use Rattle.fm_net.specs.Typed.{AllIn}
use Rattle.fm_rules.specs.Broken.{IsBrokenType}
use Rattle.fm_rules.specs.declared.program.Program.{Program}
use Rattle.fm_mean.specs.Names.{ProgramUnit, unit_at, context}
use Rattle.fm_mean.specs.Actions.{next_reference}
use Rattle.fm_mean.specs.TypedTrees.{ReferenceHasTypes, EntryHasTypes, HasTypes}
use Rattle.fm_mean.proofs.Unbroken.{nothing_in, left_empty, right_empty, each_empty, not_when, next_clean, uses_clean}
use Rattle.fm_mean.proofs.Unflagged.{IsUnflagged, line_unflagged, left_unflagged}
use Rattle.fm_mean.proofs.Sizes.{in_all, parts_of, variable_sized, variables_sized}
use Rattle.fm_mean.proofs.JudgedValues.{HaveNoOwnConstants}
use Rattle.fm_mean.proofs.JudgedArguments.{HaveSizes}
use Rattle.fm_mean.proofs.JudgedPlaces.{IsMeant}
use Rattle.fm_mean.proofs.FunctionFormals.{scope_here, the_unit, unit_types}
use Rattle.fm_mean.proofs.JudgedCalls.{HaveFormals}
use Rattle.fm_mean.proofs.JudgedReferences.{Sound, calls_fit, reference_typed}
use Rattle.fm_mean.proofs.JudgedStatements.{HaveResults, Keeps, statement_typed, loop_typed}
use Rattle.fm_mean.proofs.SoundTrees.{IsAlone, statement_parts}

-- the names of a unit that are arrays
abbrev pub arrays_in : ProgramUnit → List ℕ → Bool
arrays_in u = is_array (arrays_of (constants_of u.tree.specs) u.tree.specs)

-- what the rules on names and the structure of units say of a program
pub record HaveMeanings (p : Program) : Type 0 where
  pub own : HaveNoOwnConstants p
  pub results : HaveResults p
  pub formals : (k : ℕ) (w : ProgramUnit) → unit_at p k ≡ Some w → HaveFormals w
  pub names : (n : ℕ) (u : ProgramUnit) (i : ℕ) (e : Entry) → unit_at p n ≡ Some u → slice_get u.tree.body i ≡ Some e → AllIn (IsMeant u (context p)) (stands_in (arrays_in u) e.stmt)
  pub alone : (n : ℕ) (u : ProgramUnit) (i : ℕ) (e : Entry) → unit_at p n ≡ Some u → slice_get u.tree.body i ≡ Some e → IsAlone p (arrays_in u) u e.stmt

-- ---- what is clean

ports_clean : (p : Program) → ports.broken_ports p.units.units p.names.units (context p) ≡ []
ports_clean p =
    let us = p.units.units in
    let ns = p.names.units in
    nothing_in (ports.broken_ports us ns (context p)) (next_clean (IsBrokenType us ns (context p)) (Contains (ports.broken_ports us ns (context p))) (uses_clean p))

abbrev ports_at : List UnitNames → Context → ℕ → tree.Unit → List Refusal
ports_at ns c k u = ports.broken_unit ns c u (slice_get ns k) (slice_get c.scopes k)

ports_from : (ns : List UnitNames) (c : Context) (number : ℕ) (us : List tree.Unit) (k : ℕ) (u : tree.Unit) → ports.broken_from ns c number us ≡ [] → slice_get us k ≡ Some u → ports_at ns c (number + k) u ≡ []
ports_from ns c number [] k u e is = absurd (cc)
ports_from ns c number (v ∷ us) zero u e is =
    ap (λ (v : tree.Unit). ports_at ns c (number + 0) v) (sym (the_unit v u is)) ∙ ap (λ (n : ℕ). ports_at ns c n v) (omega arith) ∙ left_empty (ports_at ns c number v) (ports.broken_from ns c (number + 1) us) e
ports_from ns c number (v ∷ us) (suc k) u e is =
    ap (λ (n : ℕ). ports_at ns c n u) (omega arith) ∙ ports_from ns c (number + 1) us k u (right_empty (ports_at ns c number v) (ports.broken_from ns c (number + 1) us) e) is

body_clean : (ns : List UnitNames) (n : UnitNames) (c : Context) (s : symbols.Scope) (es : List Entry) (i : ℕ) (x : Entry) → ports.broken_body ns n c s es ≡ [] → slice_get es i ≡ Some x → ports.broken_at ns n c s x.line.0 x.stmt ≡ []
body_clean ns n c s [] i x e is = absurd (cc)
body_clean ns n c s (y ∷ es) zero x e is =
    ap (λ (y : Entry). ports.broken_at ns n c s y.line.0 y.stmt) (sym (the_entry y x is)) ∙ left_empty (ports.broken_at ns n c s y.line.0 y.stmt) (ports.broken_body ns n c s es) e
  where
    the_entry : (a b : Entry) → Some a ≡ Some b → a ≡ b
    the_entry a b e = cc
body_clean ns n c s (y ∷ es) (suc i) x e is = body_clean ns n c s es i x (right_empty (ports.broken_at ns n c s y.line.0 y.stmt) (ports.broken_body ns n c s es) e) is

module _ (p : Program) (h : HaveMeanings p) (n : ℕ) (u : ProgramUnit) (is : unit_at p n ≡ Some u) where
  abbrev pub sc : symbols.Scope
  sc = scope_of u.tree u.names

  entry_types : (i : ℕ) (e : Entry) → slice_get u.tree.body i ≡ Some e → types.broken_in_entry (context p) sc u.names.variables e ≡ []
  entry_types i e at =
      let vs = u.names.variables in
      let heading = types.broken_in_statement (context p) sc vs u.tree.heading in
      let specs = flat_map (types.broken_in_statement (context p) sc vs) u.tree.specs in
      let body = flat_map (types.broken_in_entry (context p) sc vs) u.tree.body in
      each_empty (types.broken_in_entry (context p) sc vs) u.tree.body i e (right_empty specs body (right_empty heading (specs ++ body) (unit_types p n u is))) at

  entry_ports : (i : ℕ) (e : Entry) → slice_get u.tree.body i ≡ Some e → ports.broken_at p.names.units u.names (context p) sc e.line.0 e.stmt ≡ []
  entry_ports i e at =
      let ns = p.names.units in
      let here : ports_at ns (context p) n u.tree ≡ [] = ap (λ (k : ℕ). ports_at ns (context p) k u.tree) (omega arith) ∙ ports_from ns (context p) 0 p.units.units n u.tree (ports_clean p) (parts_of p n u is).0 in
      let unit : ports.broken_body ns u.names (context p) sc u.tree.body ≡ [] =
      sym (ap (λ (o : Option symbols.Scope). ports.broken_unit ns (context p) u.tree (Some u.names) o) (scope_here p n u is))
      ∙ sym (ap (λ (o : Option UnitNames). ports.broken_unit ns (context p) u.tree o (slice_get (context p).scopes n)) (parts_of p n u is).1) ∙ here in
      body_clean ns u.names (context p) sc u.tree.body i e unit at

  sizes : (k : ℕ) (w : ProgramUnit) → unit_at p k ≡ Some w → HaveSizes w
  sizes k w there j v at = variable_sized p k w j v there at

  -- what the rules on ports say of an entry
  record PortRules (e : Entry) : Type 0 where
    stray : has_stray_port u.names (context p) sc e.stmt ≡ false
    direction : in_simple (lacks_direction u.names (context p) sc) (simple_in e.stmt) ≡ false
    message : in_simple (breaks_message u.names (context p) sc) (simple_in e.stmt) ≡ false
    alike : in_simple (breaks_type u.names (context p) sc) (simple_in e.stmt) ≡ false
    call : breaks_call p.names.units u.names (context p) sc (call_in e.stmt) ≡ false

  port_rules : (i : ℕ) (e : Entry) → slice_get u.tree.body i ≡ Some e → PortRules e
  port_rules i e at =
      let ns = p.names.units in
      let line = e.line.0 in
      let b0 = has_stray_port u.names (context p) sc e.stmt in
      let b1 = in_simple (lacks_direction u.names (context p) sc) (simple_in e.stmt) in
      let b2 = in_simple (breaks_message u.names (context p) sc) (simple_in e.stmt) in
      let b3 = in_simple (breaks_type u.names (context p) sc) (simple_in e.stmt) in
      let b4 = breaks_call ns u.names (context p) sc (call_in e.stmt) in
      let w0 = when b0 (place line E50) in
      let w1 = when b1 (place line E51) in
      let w2 = when b2 (place line E52) in
      let w3 = when b3 (place line E53) in
      let w4 = when b4 (place line E53) in
      let w5 = when (breaks_rank u.names (location_in e.stmt)) (place line E54) in
      let r4 = left_empty (w0 ++ w1 ++ w2 ++ w3 ++ w4) w5 (entry_ports i e at) in
      let r3 = left_empty (w0 ++ w1 ++ w2 ++ w3) w4 r4 in
      let r2 = left_empty (w0 ++ w1 ++ w2) w3 r3 in
      let r1 = left_empty (w0 ++ w1) w2 r2 in
      record {
        stray = not_when b0 (place line E50) (left_empty w0 w1 r1);
        direction = not_when b1 (place line E51) (right_empty w0 w1 r1);
        message = not_when b2 (place line E52) (right_empty (w0 ++ w1) w2 r2);
        alike = not_when b3 (place line E53) (right_empty (w0 ++ w1 ++ w2) w3 r3);
        call = not_when b4 (place line E53) (right_empty (w0 ++ w1 ++ w2 ++ w3) w4 r4);
      }

  pub flags_here : (i : ℕ) (e : Entry) → slice_get u.tree.body i ≡ Some e → IsUnflagged (typed_flags (context p) sc u.names.variables e.stmt)
  unfolding has_stray_port
  flags_here i e at =
      left_unflagged (typed_flags (context p) sc u.names.variables e.stmt) (e46 (is_function sc.kind && is_barred e.stmt))
      (line_unflagged e.line.0 (flags_of (context p) sc u.names.variables e.stmt) (entry_types i e at) (port_rules i e at).stray)

  keeps : (i : ℕ) (e : Entry) → slice_get u.tree.body i ≡ Some e → Keeps p u h.own h.results (sizes n u is) (arrays_in u) e.stmt
  keeps i e at =
      let r = port_rules i e at in
      record { flags = flags_here i e at; names = h.names n u i e is at; direction = r.direction; message = r.message; alike = r.alike; call = r.call }

  reference_there : (e : Entry) (j : ℕ) (t : Tree) → next_reference e j ≡ Some t → (k : ℕ) × (slice_get (applied.applied_in e.stmt) k ≡ Some t)
  reference_there e j t next = go (slice_get e.refs j) next
    where
      go : (o : Option ℕ) → option_and_then (applied.reference_at e.stmt) o ≡ Some t → (k : ℕ) × (slice_get (applied.applied_in e.stmt) k ≡ Some t)
      go None next = absurd (cc next)
      go (Some k) next = (k, next)

  references_typed : (i : ℕ) (e : Entry) → slice_get u.tree.body i ≡ Some e → (j : ℕ) (t : Tree) → next_reference e j ≡ Some t → ReferenceHasTypes p u t
  references_typed i e at j t next =
      let x = reference_there e j t next in
      let trees = applied.applied_in e.stmt in
      reference_typed p h.own h.results sizes h.formals (arrays_in u) u n is t
      (in_all (Sound p (arrays_in u) u) trees x.0 t (statement_parts p (arrays_in u) u e.stmt (h.alone n u i e is at) (flags_here i e at) (h.names n u i e is at)) x.1)

  entry_typed : (i : ℕ) (e : Entry) → slice_get u.tree.body i ≡ Some e → EntryHasTypes p u e
  entry_typed i e at = record {
    statement = statement_typed p u h.own h.results (sizes n u is) (arrays_in u) (calls_fit p h.own h.results sizes h.formals (arrays_in u) u n is) e.stmt (keeps i e at);
    loop = loop_typed p u h.own h.results (sizes n u is) (arrays_in u) e.stmt (keeps i e at);
    references = references_typed i e at;
  }

-- a program whose names stand for something has types
pub has_types : (p : Program) → HaveMeanings p → HasTypes p
has_types p h = record { sized = variables_sized p; entries = λ n u i e is at. entry_typed p h n u is i e at }

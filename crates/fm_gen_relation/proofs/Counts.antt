-- Calls and references of a checked program have as many arguments as the unit has formals, and name a unit of the right kind.
use Rattle.std.proofs.Common.{◌≡◌, ℕ, suc, ◌+◌, Bool, true, false, cond, ◌&&◌, not, Option, Some, None, option_map, List, [], map, length, slice_get, unwrap_or, refl, sym, ap, ◌∙◌, subst, arith}
use Rattle.std.specs.Prelude.{if◌then◌else◌, nat_eq, option_and_then}
use Rattle.std.specs.Cmp.{second_so}
use Rattle.std.specs.FinMap.{get}
use Rattle.std.proofs.lemmas.Bool.Decides.{Decides-eqb}
use Rattle.std.proofs.lemmas.List.{length-map}
use Rattle.fm_values.specs.declared.intrinsic.Intrinsic.{Intrinsic}
use Rattle.fm_values.specs.Intrinsics.{intrinsic_named}
use Rattle.fm_tree.specs.Tree.{Tree, Trees, NoTrees, More, Ref, list_of, trees_from}
use Rattle.fm_tree.specs.References.{applied_in, reference_at}
use Rattle.fm_tree.specs.declared.form.UnitKind.{UnitKind}
use Rattle.fm_tree.specs.declared.form.UnitKind.TheVariants as unit_kind
use Rattle.fm_tree.specs.declared.program_unit.Entry.{Entry}
use Rattle.fm_tree.specs.declared.statement.CallPart.{CallPart}
use Rattle.fm_tree.specs.declared.statement.Simple.TheVariants as simple
use Rattle.fm_tree.specs.declared.statement.Stmt.{Stmt}
use Rattle.fm_tree.specs.declared.statement.Stmt.TheVariants as stmt
use Rattle.fm_symbols.specs.Context.{constant_symbol, formal_in, function_at, function_named, is_function_scope, scope_of, symbol_of, symbols_of, unit_numbers}
use Rattle.fm_symbols.specs.Headings.{heading_formals, is_function}
use Rattle.fm_symbols.specs.declared.context.Scope as symbols
use Rattle.fm_symbols.specs.declared.names.Constant.{Constant}
use Rattle.fm_symbols.specs.declared.names.Constant.TheVariants as constant
use Rattle.fm_symbols.specs.declared.names.Variable.{Variable}
use Rattle.fm_symbols.specs.declared.symbol.Symbol.{Symbol}
use Rattle.fm_symbols.specs.declared.symbol.Symbol.TheVariants as symbol
use Rattle.fm_rules.specs.declared.typing.Referent.{Referent}
use Rattle.fm_rules.specs.declared.typing.Referent.TheVariants as referent
use Rattle.fm_rules.specs.Flags.{e42, e43}
use Rattle.fm_rules.specs.Expressions.{array_or, arguments_judged, formals_in, function_referent, intrinsic_or, reference_judged, referent_of}
use Rattle.fm_rules.specs.declared.calls.CallKind.{CallKind}
use Rattle.fm_rules.specs.declared.calls.CallKind.TheVariants as call_kind
use Rattle.fm_rules.specs.TypeStatements.{call_flags, callee_at, callee_in, calls, position_flags, process_call_flags, simple_flags, typed_flags}
use Rattle.fm_rules.specs.declared.program.Program.{Program}
use Rattle.fm_mean.specs.Names.{ProgramUnit, context, kind_of, numbered, unit_at, unit_named, variable_of}
use Rattle.fm_mean.specs.Evaluate.{Reference, Element, Call, Built, Unknown, function_by, is_array, reference_of}
use Rattle.fm_mean.specs.Evaluate as mean
use Rattle.fm_mean.specs.Actions.{arguments_in, next_reference, trees_in}
use Rattle.fm_mean.proofs.Unflagged.{IsUnflagged, left_unflagged, right_unflagged}
use Rattle.fm_mean.proofs.JudgedPrograms.{arrays_in}
use Rattle.fm_mean.proofs.JudgedReferences.{Sound}
use Rattle.fm_mean.proofs.JudgedValues.{Stands, scope_by, scopes_there, stands, stands_constant, stands_none, stands_variable}
use Rattle.fm_mean.proofs.ProgramMeanings.{meanings}
use Rattle.fm_mean.proofs.Sizes.{in_all}
use Rattle.fm_mean.proofs.SoundTrees.{statement_parts}
use Rattle.fm_mean.specs.Referring.{names_in}
use Rattle.fm_gen_relation.specs.Sound.{CallIsFull, IsFull, ReferenceIsFull}
use Rattle.fm_mean.proofs.ArrayNames.{has_bounds, symbol_bounds}
use Rattle.fm_gen_relation.proofs.EntryFlags.{entry_unflagged}
use Rattle.fm_gen_relation.proofs.FormalCounts.{formals_counted}

never : true ≡ false → ⊥
never e = absurd (cc)

not_false : (b : Bool) → not b ≡ false → b ≡ true
not_false true e = refl
not_false false e = absurd (cc)

-- ---- what a reference that calls is judged by

no_element : (j : ℕ) (v : Variable) (k : ℕ) (w : ProgramUnit) → Element j v ≡ Call k w → ⊥
no_element j v k w e = absurd (cc)

no_built : (f : Intrinsic) (k : ℕ) (w : ProgramUnit) → Built f ≡ Call k w → ⊥
no_built f k w e = absurd (cc)

no_unknown : (k : ℕ) (w : ProgramUnit) → Unknown ≡ Call k w → ⊥
no_unknown k w e = absurd (cc)

-- a symbol without bounds hides nothing
unhidden : (y : Symbol) (r : Referent) → has_bounds y ≡ false → array_or (Some y) r ≡ r
unhidden (symbol.Constant s) r e = refl
unhidden (symbol.Variable s place) r e = refl
unhidden (symbol.Array s place x) r e = absurd (never e)
unhidden (symbol.Port d place) r e = refl
unhidden (symbol.Ports d place x) r e = absurd (never e)
unhidden (symbol.Function k) r e = refl

constant_unhidden : (c : Constant) (r : Referent) → array_or (Some (constant_symbol c)) r ≡ r
constant_unhidden (constant.Integer n) r = refl
constant_unhidden (constant.Logical b) r = refl

array_apart : (u : ProgramUnit) (name : List ℕ) (r : Referent) (m : Reference) (k : ℕ) (w : ProgramUnit) → mean.array_or (variable_of u name) m ≡ Call k w → (array_or (get (symbols_of u.names) name) r ≡ r) × (m ≡ Call k w)
array_apart u name r m k w e = go (stands u name)
  where
    by_bounds : (j : ℕ) (v : Variable) (b : Bool) → is_array v.bounds ≡ b → cond b (Element j v) m ≡ Call k w → (array_or (Some (symbol_of j v)) r ≡ r) × (m ≡ Call k w)
    by_bounds j v true array e = absurd (no_element j v k w e)
    by_bounds j v false array e = (unhidden (symbol_of j v) r (symbol_bounds v.kind v.bounds v.words j ∙ array), e)

    go : Stands u name (get (symbols_of u.names) name) → (array_or (get (symbols_of u.names) name) r ≡ r) × (m ≡ Call k w)
    go (stands_none at none) = (ap (λ o. array_or o r) at, sym (ap (λ o. mean.array_or o m) none) ∙ e)
    go (stands_constant c at none there) = (ap (λ o. array_or o r) at ∙ constant_unhidden c r, sym (ap (λ o. mean.array_or o m) none) ∙ e)
    go (stands_variable j v at there here) =
        let x = by_bounds j v (is_array v.bounds) refl (sym (ap (λ o. mean.array_or o m) there) ∙ e) in
        (ap (λ o. array_or o r) at ∙ x.0, x.1)

intrinsic_apart : (f : Option Intrinsic) (r : Referent) (m : Reference) (k : ℕ) (w : ProgramUnit) → mean.intrinsic_or f m ≡ Call k w → (intrinsic_or f r ≡ r) × (m ≡ Call k w)
intrinsic_apart None r m k w e = (refl, e)
intrinsic_apart (Some f) r m k w e = absurd (no_built f k w e)

module _ (p : Program) where
  -- a unit that a call or a reference is judged by
  abbrev IsJudged : Referent → ℕ → ProgramUnit → Type 0
  IsJudged r k w = (r ≡ referent.Unit k) × (unit_at p k ≡ Some w)

  the_call : (a b : ℕ) (v w : ProgramUnit) → Call a v ≡ Call b w → (a ≡ b) × (v ≡ w)
  the_call a b v w e = (ap number e, ap (λ m. callee m v) e)
    where
      number : Reference → ℕ
      number (Element i v) = a
      number (Call n u) = n
      number (Built f) = a
      number Unknown = a

      callee : Reference → ProgramUnit → ProgramUnit
      callee (Element i v) other = other
      callee (Call n u) other = u
      callee (Built f) other = other
      callee Unknown other = other

  function_judged : (name : List ℕ) (k : ℕ) (w : ProgramUnit) → function_by (unit_named p name) ≡ Call k w → IsJudged (function_referent (function_named (context p) name)) k w
  function_judged name k w e = by_number (get (unit_numbers p.units.units) name) e
    where
      by_kind : (j : ℕ) (v : ProgramUnit) → unit_at p j ≡ Some v → (b : Bool) → cond b (Call j v) Unknown ≡ Call k w → IsJudged (function_referent (if b then Some (symbol.Function j) else None)) k w
      by_kind j v is false e = absurd (no_unknown k w e)
      by_kind j v is true e = let same = the_call j k v w e in (ap referent.Unit same.0, sym (ap (unit_at p) same.0) ∙ is ∙ ap Some same.1)

      by_unit : (j : ℕ) (o : Option ProgramUnit) → unit_at p j ≡ o → function_by (option_map {U = ℕ × ProgramUnit} (λ u. (j, u)) o) ≡ Call k w → IsJudged (function_referent (if is_function_scope (scope_by o) then Some (symbol.Function j) else None)) k w
      by_unit j None is e = absurd (no_unknown k w e)
      by_unit j (Some v) is e = by_kind j v is (is_function (kind_of v)) e

      by_number : (o : Option ℕ) → function_by (numbered p o) ≡ Call k w → IsJudged (function_referent (function_at (context p) o)) k w
      by_number None e = absurd (no_unknown k w e)
      by_number (Some j) e =
          subst (λ (o : Option symbols.Scope). IsJudged (function_referent (if is_function_scope o then Some (symbol.Function j) else None)) k w) (sym (scopes_there p.units.units p.names.units j)) (by_unit j (unit_at p j) refl e)

  reference_by_unit : (u : ProgramUnit) (name : List ℕ) (k : ℕ) (w : ProgramUnit) → reference_of (names_in p u) name ≡ Call k w → IsJudged (referent_of (context p) (scope_of u.tree u.names) name) k w
  reference_by_unit u name k w e =
      let r = function_referent (function_named (context p) name) in
      let m = function_by (unit_named p name) in
      let a = array_apart u name (intrinsic_or (intrinsic_named name) r) (mean.intrinsic_or (intrinsic_named name) m) k w e in
      let b = intrinsic_apart (intrinsic_named name) r m k w a.1 in
      let c = function_judged name k w b.1 in
      (a.0 ∙ b.0 ∙ c.0, c.1)

  -- ---- numbers of arguments

  arguments_counted : (sc : symbols.Scope) (r : Referent) (ts : Trees) (i : ℕ) → (arguments_judged (context p) sc r i ts).count ≡ length (list_of ts)
  arguments_counted sc r NoTrees i = refl
  arguments_counted sc r (More t ts) i = ap suc (arguments_counted sc r ts (i + 1))

  abbrev judged_as : symbols.Scope → Referent → Trees → Type 0
  judged_as sc r ts = IsUnflagged (reference_judged (context p) r (arguments_judged (context p) sc r 0 ts)).flags

  unit_full : (sc : symbols.Scope) (k : ℕ) (w : ProgramUnit) (ts : Trees) → unit_at p k ≡ Some w → judged_as sc (referent.Unit k) ts → IsFull w ts
  unit_full sc k w ts is h =
      let a = arguments_judged (context p) sc (referent.Unit k) 0 ts in
      let wants = formals_in (slice_get (context p).scopes k) in
      let names = heading_formals w.tree.heading.stmt in
      let fits = a.fit && nat_eq a.count wants in
      let right = second_so a.fit (nat_eq a.count wants) (not_false fits (right_unflagged a.flags (e42 (not fits)) h).e42) in
      let many : wants ≡ length (map (formal_in (symbols_of w.names)) names) = ap (λ (o : Option symbols.Scope). formals_in o) (scopes_there p.units.units p.names.units k ∙ ap scope_by is) in
      omega (arith, formals_counted p k w is, (Decides-eqb a.count wants).0 right, many, length-map names (formal_in (symbols_of w.names)), arguments_counted sc (referent.Unit k) ts 0)

  -- ---- calls

  the_pair : (a b : ℕ × ProgramUnit) → Some a ≡ Some b → a ≡ b
  the_pair a b e = cc

  named_at : (o : Option ℕ) (v : ℕ × ProgramUnit) → numbered p o ≡ Some v → (o ≡ Some v.0) × (unit_at p v.0 ≡ Some v.1)
  named_at None v e = absurd (cc)
  named_at (Some k) v e = go (unit_at p k) refl e
    where
      go : (o : Option ProgramUnit) → unit_at p k ≡ o → option_map {U = ℕ × ProgramUnit} (λ u. (k, u)) o ≡ Some v → (Some k ≡ Some v.0) × (unit_at p v.0 ≡ Some v.1)
      go None is e = absurd (cc)
      go (Some w) is e =
          let same = the_pair (k, w) v e in
          (ap (λ (x : ℕ × ProgramUnit). Some x.0) same, sym (ap (λ (x : ℕ × ProgramUnit). unit_at p x.0) same) ∙ is ∙ ap (λ (x : ℕ × ProgramUnit). Some x.1) same)

  unit_called : (sc : symbols.Scope) (kd : CallKind) (name : List ℕ) (args : List Tree) (v : ℕ × ProgramUnit) → IsUnflagged (call_flags (context p) sc kd name args) → unit_named p name ≡ Some v
      → (calls kd (kind_of v.1) ≡ true) × IsFull v.1 (trees_from args)
  unit_called sc kd name args v h named =
      let ts = trees_from args in
      let at = named_at (get (unit_numbers p.units.units) name) v named in
      let scope : slice_get (context p).scopes v.0 ≡ Some (scope_of v.1.tree v.1.names) = scopes_there p.units.units p.names.units v.0 ∙ ap scope_by at.1 in
      let callee = ap (callee_at (context p) kd) at.0 ∙ ap (callee_in kd v.0) scope in
      by_kind (calls kd (kind_of v.1)) refl (subst (λ (r : Referent). judged_as sc r ts) callee h) at.1
    where
      by_kind : (b : Bool) → calls kd (kind_of v.1) ≡ b → judged_as sc (if b then referent.Unit v.0 else referent.Unknown) (trees_from args) → unit_at p v.0 ≡ Some v.1 → (calls kd (kind_of v.1) ≡ true) × IsFull v.1 (trees_from args)
      by_kind true is h there = (is, unit_full sc v.0 v.1 (trees_from args) there h)
      by_kind false is h there = absurd (never (right_unflagged (arguments_judged (context p) sc referent.Unknown 0 (trees_from args)).flags (e43 true) h).e43)

  subroutine_called : (k : UnitKind) → calls call_kind.Call k ≡ true → k ≡ unit_kind.Subroutine
  subroutine_called unit_kind.Subroutine e = refl
  subroutine_called unit_kind.Program e = absurd (cc)
  subroutine_called unit_kind.Process e = absurd (cc)
  subroutine_called unit_kind.Function e = absurd (cc)

  process_started : (k : UnitKind) → calls call_kind.ProcessCall k ≡ true → k ≡ unit_kind.Process
  process_started unit_kind.Process e = refl
  process_started unit_kind.Program e = absurd (cc)
  process_started unit_kind.Subroutine e = absurd (cc)
  process_started unit_kind.Function e = absurd (cc)

  module _ (number : ℕ) (u : ProgramUnit) (i : ℕ) (e : Entry) (is : unit_at p number ≡ Some u) (at : slice_get u.tree.body i ≡ Some e) where
    abbrev sc : symbols.Scope
    sc = scope_of u.tree u.names

    unflagged_as : (t : Stmt) → e.stmt ≡ t → IsUnflagged (typed_flags (context p) sc u.names.variables t)
    unflagged_as t same = subst (λ (t : Stmt). IsUnflagged (typed_flags (context p) sc u.names.variables t)) same (entry_unflagged p number u is i e at)

    reference_there : (j : ℕ) (t : Tree) → next_reference e j ≡ Some t → (k : ℕ) × (slice_get (applied_in e.stmt) k ≡ Some t)
    reference_there j t next = go (slice_get e.refs j) next
      where
        go : (o : Option ℕ) → option_and_then (reference_at e.stmt) o ≡ Some t → (k : ℕ) × (slice_get (applied_in e.stmt) k ≡ Some t)
        go None next = absurd (cc)
        go (Some k) next = (k, next)

    tree_full : (t : Tree) → Sound p (arrays_in u) u t → ReferenceIsFull p u t
    tree_full (Ref name args) sound = λ k callee calls.
        let here = reference_by_unit u name k callee calls in
        unit_full sc k callee args here.1 (subst (λ (r : Referent). judged_as sc r args) here.0 sound.flags)
    tree_full t sound = tt

    -- a reference has as many arguments as its FUNCTION has formals
    pub reference_full : (j : ℕ) (t : Tree) → next_reference e j ≡ Some t → ReferenceIsFull p u t
    reference_full j t next =
        let m = meanings p in
        let x = reference_there j t next in
        tree_full t
        (in_all (Sound p (arrays_in u) u) (applied_in e.stmt) x.0 t (statement_parts p (arrays_in u) u e.stmt (m.alone number u i e is at) (entry_unflagged p number u is i e at) (m.names number u i e is at)) x.1)

    -- CALL names a SUBROUTINE
    pub call_full : (name : List ℕ) (args : Option (List Tree)) → e.stmt ≡ stmt.Simple (simple.Call name args) → CallIsFull p unit_kind.Subroutine name (trees_in args)
    unfolding typed_flags simple_flags
    call_full name args same v named = go args (unflagged_as (stmt.Simple (simple.Call name args)) same)
      where
        go : (args : Option (List Tree)) → IsUnflagged (call_flags (context p) (scope_of u.tree u.names) call_kind.Call name (unwrap_or args [])) → (kind_of v.1 ≡ unit_kind.Subroutine) × IsFull v.1 (trees_in args)
        go None h = let x = unit_called sc call_kind.Call name [] v h named in (subroutine_called (kind_of v.1) x.0, x.1)
        go (Some ts) h = let x = unit_called sc call_kind.Call name ts v h named in (subroutine_called (kind_of v.1) x.0, x.1)

    -- a process call names a PROCESS
    pub start_full : (name : List ℕ) (part : Option CallPart) → e.stmt ≡ stmt.ProcessCall name part → CallIsFull p unit_kind.Process name (trees_from (arguments_in part))
    unfolding typed_flags
    start_full name part same v named = go part (unflagged_as (stmt.ProcessCall name part) same)
      where
        go : (part : Option CallPart) → IsUnflagged (process_call_flags (context p) (scope_of u.tree u.names) name part) → (kind_of v.1 ≡ unit_kind.Process) × IsFull v.1 (trees_from (arguments_in part))
        go None h = let x = unit_called sc call_kind.ProcessCall name [] v h named in (process_started (kind_of v.1) x.0, x.1)
        go (Some c) h =
            let flags = left_unflagged (call_flags (context p) sc call_kind.ProcessCall name c.arguments) (position_flags (context p) sc c.place) h in
            let x = unit_called sc call_kind.ProcessCall name c.arguments v flags named in
            (process_started (kind_of v.1) x.0, x.1)

-- The calls and references of a statement that breaks no rule have arguments of the types and sizes of the formals.
use Rattle.std.proofs.Common.{◌≡◌, ℕ, ℤ, Bool, true, false, cond, Option, Some, None, option_map, List, [], ◌∷◌, map, slice_get, refl, sym, ap, ◌∙◌, subst}
use Rattle.std.specs.Prelude.{if◌then◌else◌}
use Rattle.std.specs.FinMap.{get}
use Rattle.std.specs.List.{flat_map}
use Rattle.fm_values.specs.declared.intrinsic.Intrinsic.{Intrinsic}
use Rattle.fm_values.specs.Intrinsics.{intrinsic_named}
use Rattle.fm_tree.specs.Tree.{Tree, Trees, NoTrees, More, Ref, trees_from, list_of}
use Rattle.fm_tree.specs.declared.port_type.Kind.{Kind}
use Rattle.fm_tree.specs.declared.port_type.Kind.TheVariants as kind
use Rattle.fm_symbols.specs.Context.{symbol_by, symbol_of, symbols_of, constant_symbol, scope_of, unit_numbers, function_at, function_named, is_function_scope}
use Rattle.fm_symbols.specs.Headings.{is_function}
use Rattle.fm_symbols.specs.declared.context.Context.{Context}
use Rattle.fm_symbols.specs.declared.context.Scope as symbols
use Rattle.fm_symbols.specs.declared.names.Constant.{Constant}
use Rattle.fm_symbols.specs.declared.names.Constant.TheVariants as constant
use Rattle.fm_symbols.specs.declared.names.Variable.{Variable}
use Rattle.fm_symbols.specs.declared.symbol.Symbol.{Symbol}
use Rattle.fm_symbols.specs.declared.symbol.Symbol.TheVariants as symbol
use Rattle.fm_rules.specs.Occurrences as stands
use Rattle.fm_rules.specs.declared.typing.ExprType.TheVariants.{Nothing}
use Rattle.fm_rules.specs.declared.typing.Judgement.{Judgement}
use Rattle.fm_rules.specs.declared.typing.Referent.{Referent}
use Rattle.fm_rules.specs.declared.typing.Referent.TheVariants as referent
use Rattle.fm_rules.specs.Flags.{e43}
use Rattle.fm_rules.specs.Expressions.{array_or, arguments_judged, function_referent, intrinsic_or, judged, reference_judged, referent_of}
use Rattle.fm_rules.specs.TypeStatements.{callee_at, callee_in, calls}
use Rattle.fm_rules.specs.declared.calls.CallKind.{CallKind}
use Rattle.fm_rules.specs.JudgedStatements as ports
use Rattle.fm_rules.specs.PortRules.{breaks_unit}
use Rattle.fm_net.specs.Typed.{AllIn}
use Rattle.fm_rules.specs.declared.program.Program.{Program}
use Rattle.fm_mean.specs.Names.{ProgramUnit, unit_at, numbered, unit_named, context, kind_of, variable_of}
use Rattle.fm_mean.specs.Evaluate.{Scope, Reference, Element, Call, Built, Unknown, function_by, is_array, reference_of}
use Rattle.fm_mean.specs.Evaluate as mean
use Rattle.fm_mean.specs.TypedTrees.{IsIn, ReferenceHasTypes}
use Rattle.fm_mean.proofs.Unflagged.{IsUnflagged, right_unflagged}
use Rattle.fm_mean.proofs.JudgedValues.{HaveNoOwnConstants, Stands, stands_none, stands_constant, stands_variable, stands, scope_by, scopes_there}
use Rattle.fm_mean.proofs.JudgedArguments.{HaveSizes, arg_typed}
use Rattle.fm_mean.proofs.JudgedPlaces.{IsMeant}
use Rattle.fm_mean.proofs.JudgedItems.{all_left, all_right}
use Rattle.fm_mean.proofs.FunctionFormals.{function_unbroken}
use Rattle.fm_mean.proofs.JudgedCalls.{HaveFormals, AllTrees, arguments_are}
use Rattle.fm_mean.proofs.JudgedStatements.{HaveResults, CallsFit, tree_has_type}

never : true ≡ false → ⊥
never e = absurd (cc)

-- ---- what a reference that calls is judged to be

-- a reference that calls a unit is judged to be one of this unit, which is a FUNCTION
abbrev pub Calls : Program → Referent → Reference → Type 0
Calls p r m = (k : ℕ) (w : ProgramUnit) → m ≡ Call k w → (r ≡ referent.Unit k) × (unit_at p k ≡ Some w) × (is_function (kind_of w) ≡ true)

array_calls : (p : Program) (j : ℕ) (v : Variable) (kd : Kind) (bs : List (ℤ × ℤ)) (words : ℕ) (r : Referent) (m : Reference) → v.bounds ≡ bs → Calls p r m → Calls p (array_or (Some (symbol_by kd bs words j)) r) (mean.array_or (Some (j, v)) m)
array_calls p j v kind.Integer [] words r m eb rest k w e = rest k w (sym (ap (λ bs. cond (is_array bs) (Element j v) m) eb) ∙ e)
array_calls p j v kind.Logical [] words r m eb rest k w e = rest k w (sym (ap (λ bs. cond (is_array bs) (Element j v) m) eb) ∙ e)
array_calls p j v (kind.In t) [] words r m eb rest k w e = rest k w (sym (ap (λ bs. cond (is_array bs) (Element j v) m) eb) ∙ e)
array_calls p j v (kind.Out t) [] words r m eb rest k w e = rest k w (sym (ap (λ bs. cond (is_array bs) (Element j v) m) eb) ∙ e)
array_calls p j v kind.Integer (b ∷ bs) words r m eb rest k w e = absurd (no_element j v k w (sym (ap (λ bs. cond (is_array bs) (Element j v) m) eb) ∙ e))
  where
    no_element : (j : ℕ) (v : Variable) (k : ℕ) (w : ProgramUnit) → Element j v ≡ Call k w → ⊥
    no_element j v k w e = absurd (cc)
array_calls p j v kind.Logical (b ∷ bs) words r m eb rest k w e = absurd (no_element j v k w (sym (ap (λ bs. cond (is_array bs) (Element j v) m) eb) ∙ e))
  where
    no_element : (j : ℕ) (v : Variable) (k : ℕ) (w : ProgramUnit) → Element j v ≡ Call k w → ⊥
    no_element j v k w e = absurd (cc)
array_calls p j v (kind.In t) (b ∷ bs) words r m eb rest k w e = absurd (no_element j v k w (sym (ap (λ bs. cond (is_array bs) (Element j v) m) eb) ∙ e))
  where
    no_element : (j : ℕ) (v : Variable) (k : ℕ) (w : ProgramUnit) → Element j v ≡ Call k w → ⊥
    no_element j v k w e = absurd (cc)
array_calls p j v (kind.Out t) (b ∷ bs) words r m eb rest k w e = absurd (no_element j v k w (sym (ap (λ bs. cond (is_array bs) (Element j v) m) eb) ∙ e))
  where
    no_element : (j : ℕ) (v : Variable) (k : ℕ) (w : ProgramUnit) → Element j v ≡ Call k w → ⊥
    no_element j v k w e = absurd (cc)

constant_calls : (p : Program) (x : Constant) (r : Referent) (m : Reference) → Calls p r m → Calls p (array_or (Some (constant_symbol x)) r) m
constant_calls p (constant.Integer n) r m rest = rest
constant_calls p (constant.Logical b) r m rest = rest

intrinsic_calls : (p : Program) (r : Referent) (m : Reference) → Calls p r m → (f : Option Intrinsic) → Calls p (intrinsic_or f r) (mean.intrinsic_or f m)
intrinsic_calls p r m rest None = rest
intrinsic_calls p r m rest (Some f) = λ k w e. absurd (cc e)

module _ (p : Program) where
  unknown_calls : (r : Referent) → Calls p r Unknown
  unknown_calls r k w e = absurd (cc e)

  the_call : (a b : ℕ) (v w : ProgramUnit) → Call a v ≡ Call b w → (a ≡ b) × (v ≡ w)
  the_call a b v w e = (ap number e, ap (λ m. callee m v) e)
    where
      number : Reference → ℕ
      number (Element i v) = a
      number (Call n u) = n
      number (Built f) = a
      number Unknown = a

      callee : Reference → ProgramUnit → ProgramUnit
      callee (Element i v) other = other
      callee (Call n u) other = u
      callee (Built f) other = other
      callee Unknown other = other

  called_at : (j : ℕ) (o : Option ProgramUnit) → unit_at p j ≡ o → Calls p (function_referent (if is_function_scope (scope_by o) then Some (symbol.Function j) else None)) (function_by (option_map {U = ℕ × ProgramUnit} (λ u. (j, u)) o))
  called_at j None is = unknown_calls _
  called_at j (Some v) is = go (is_function (kind_of v)) refl
    where
      go : (b : Bool) → is_function (kind_of v) ≡ b → Calls p (function_referent (if b then Some (symbol.Function j) else None)) (cond b (Call j v) Unknown)
      go false at = unknown_calls _
      go true at = λ k w e.
          let same = the_call j k v w e in
          (ap referent.Unit same.0, sym (ap (unit_at p) same.0) ∙ is ∙ ap Some same.1, sym (ap (λ (w : ProgramUnit). is_function (kind_of w)) same.1) ∙ at)

  function_calls : (name : List ℕ) → Calls p (function_referent (function_named (context p) name)) (function_by (unit_named p name))
  function_calls name = go (get (unit_numbers p.units.units) name)
    where
      go : (o : Option ℕ) → Calls p (function_referent (function_at (context p) o)) (function_by (numbered p o))
      go None = unknown_calls _
      go (Some j) = subst (λ (o : Option symbols.Scope). Calls p (function_referent (if is_function_scope o then Some (symbol.Function j) else None)) (function_by (numbered p (Some j)))) (sym (scopes_there p.units.units p.names.units j)) (called_at j (unit_at p j) refl)

  abbrev ref_rest : List ℕ → Referent
  ref_rest name = intrinsic_or (intrinsic_named name) (function_referent (function_named (context p) name))

  abbrev mean_rest : Scope → List ℕ → Reference
  mean_rest s name = mean.intrinsic_or (intrinsic_named name) (function_by (unit_named s.program name))

  pub reference_calls : (s : Scope) (name : List ℕ) → s.program ≡ p → Calls p (referent_of (context p) (scope_of s.unit.tree s.unit.names) name) (reference_of s name)
  reference_calls s name same = go (stands s.unit name)
    where
      rest : Calls p (ref_rest name) (mean_rest s name)
      rest = intrinsic_calls p (function_referent (function_named (context p) name)) (function_by (unit_named s.program name)) (subst (λ (x : Program). Calls p (function_referent (function_named (context p) name)) (function_by (unit_named x name))) (sym same) (function_calls name)) (intrinsic_named name)

      both_ways : (o : Option Symbol) (w : Option (ℕ × Variable)) → get (symbols_of s.unit.names) name ≡ o → variable_of s.unit name ≡ w → Calls p (array_or o (ref_rest name)) (mean.array_or w (mean_rest s name))
          → Calls p (referent_of (context p) (scope_of s.unit.tree s.unit.names) name) (reference_of s name)
      both_ways o w at there h =
          subst (λ (o : Option Symbol). Calls p (array_or o (ref_rest name)) (reference_of s name)) (sym at)
          (subst (λ (w : Option (ℕ × Variable)). Calls p (array_or o (ref_rest name)) (mean.array_or w (mean_rest s name))) (sym there) h)

      go : Stands s.unit name (get (symbols_of s.unit.names) name) → Calls p (referent_of (context p) (scope_of s.unit.tree s.unit.names) name) (reference_of s name)
      go (stands_none at none) = both_ways None None at none rest
      go (stands_constant c at none there) = both_ways (Some (constant_symbol c)) None at none (constant_calls p c (ref_rest name) (mean_rest s name) rest)
      go (stands_variable k v at there here) = both_ways (Some (symbol_of k v)) (Some (k, v)) at there (array_calls p k v v.kind v.bounds v.words (ref_rest name) (mean_rest s name) refl rest)

-- ---- calls and references of a program

-- a tree that breaks nothing, and whose names stand for something
pub record Sound (p : Program) (array : List ℕ → Bool) (u : ProgramUnit) (t : Tree) : Type 0 where
  pub flags : IsUnflagged (judged (context p) (scope_of u.tree u.names) t).flags
  pub names : AllIn (IsMeant u (context p)) (stands.in_tree array t)

list_back : (ts : List Tree) → list_of (trees_from ts) ≡ ts
list_back [] = refl
list_back (t ∷ ts) = ap (λ (ts : List Tree). t ∷ ts) (list_back ts)

module _ (p : Program) (own : HaveNoOwnConstants p) (results : HaveResults p) (sizes : (k : ℕ) (w : ProgramUnit) → unit_at p k ≡ Some w → HaveSizes w)
    (formals : (k : ℕ) (w : ProgramUnit) → unit_at p k ≡ Some w → HaveFormals w) (array : List ℕ → Bool) where
  abbrev HasSome : ProgramUnit → Tree → Type 0
  HasSome u t = IsUnflagged (judged (context p) (scope_of u.tree u.names) t).flags → (judged (context p) (scope_of u.tree u.names) t).expr_type ≡ Nothing → ⊥

  some_trees : (u : ProgramUnit) (ts : Trees) → AllIn (IsMeant u (context p)) (stands.in_trees array ts) → AllTrees (HasSome u) ts
  some_trees u NoTrees h = tt
  some_trees u (More t ts) h =
      (tree_has_type p results u array t (all_left (IsMeant u (context p)) (stands.in_tree array t) (stands.in_trees array ts) h), some_trees u ts (all_right (IsMeant u (context p)) (stands.in_tree array t) (stands.in_trees array ts) h))

  some_list : (u : ProgramUnit) (ts : List Tree) → AllIn (IsMeant u (context p)) (flat_map (stands.in_tree array) ts) → AllTrees (HasSome u) (trees_from ts)
  some_list u [] h = tt
  some_list u (t ∷ ts) h =
      (tree_has_type p results u array t (all_left (IsMeant u (context p)) (stands.in_tree array t) (flat_map (stands.in_tree array) ts) h), some_list u ts (all_right (IsMeant u (context p)) (stands.in_tree array t) (flat_map (stands.in_tree array) ts) h))

  typed_in : (u : ProgramUnit) (n : ℕ) → unit_at p n ≡ Some u → (s : Scope) → IsIn p u s → HaveSizes s.unit
  typed_in u n is s at = sizes n s.unit (is ∙ ap Some (sym at.unit))

  -- the arguments of a reference that calls
  reference_of_unit : (u : ProgramUnit) (n : ℕ) → unit_at p n ≡ Some u → (name : List ℕ) (args : Trees) → Sound p array u (Ref name args) → ReferenceHasTypes p u (Ref name args)
  reference_of_unit u n is name args sound k callee s calls at =
      let here = reference_calls p s name at.program k callee calls in
      let there : referent_of (context p) (scope_of u.tree u.names) name ≡ referent.Unit k = ap (λ (w : ProgramUnit). referent_of (context p) (scope_of w.tree w.names) name) (sym at.unit) ∙ here.0 in
      let judged_as : Referent → Judgement = λ r. reference_judged (context p) r (arguments_judged (context p) (scope_of u.tree u.names) r 0 args) in
      let flags : IsUnflagged (judged_as (referent.Unit k)).flags = subst (λ (r : Referent). IsUnflagged (judged_as r).flags) there sound.flags in
      let some = some_trees u args (all_right (IsMeant u (context p)) (stands.subscripted (array name) name) (stands.in_trees array args) sound.names) in
      arguments_are p s sizes formals (arg_typed p own s at.program (typed_in u n is s at)) k callee args here.1
      (subst (λ (w : ProgramUnit). IsUnflagged (reference_judged (context p) (referent.Unit k) (arguments_judged (context p) (scope_of w.tree w.names) (referent.Unit k) 0 args)).flags) (sym at.unit) flags)
      (subst (λ (w : ProgramUnit). AllTrees (HasSome w) args) (sym at.unit) some)
      (function_unbroken p k callee here.1 here.2 s.unit.names (map (ports.type_of (context p) (scope_of s.unit.tree s.unit.names)) (list_of args)))

  pub reference_typed : (u : ProgramUnit) (n : ℕ) → unit_at p n ≡ Some u → (t : Tree) → Sound p array u t → ReferenceHasTypes p u t
  reference_typed u n is (Ref name args) sound = reference_of_unit u n is name args sound
  reference_typed u n is t sound = tt

  -- the unit that is called
  callee_is : (c : Context) (kd : CallKind) (o : Option ℕ) (sc : symbols.Scope) (ts : Trees) → IsUnflagged (reference_judged c (callee_at c kd o) (arguments_judged c sc (callee_at c kd o) 0 ts)).flags → (k : ℕ) × (o ≡ Some k) × (callee_at c kd o ≡ referent.Unit k)
  callee_is c kd None sc ts h = absurd (never (right_unflagged (arguments_judged c sc referent.Unknown 0 ts).flags (e43 true) h).e43)
  callee_is c kd (Some k) sc ts h = (k, refl, by_scope (slice_get c.scopes k) refl h)
    where
      by_kind : (b : Bool) → IsUnflagged (reference_judged c (if b then referent.Unit k else referent.Unknown) (arguments_judged c sc (if b then referent.Unit k else referent.Unknown) 0 ts)).flags → (if b then referent.Unit k else referent.Unknown) ≡ referent.Unit k
      by_kind true h = refl
      by_kind false h = absurd (never (right_unflagged (arguments_judged c sc referent.Unknown 0 ts).flags (e43 true) h).e43)

      by_scope : (o : Option symbols.Scope) → slice_get c.scopes k ≡ o → IsUnflagged (reference_judged c (callee_in kd k (slice_get c.scopes k)) (arguments_judged c sc (callee_in kd k (slice_get c.scopes k)) 0 ts)).flags
          → callee_in kd k (slice_get c.scopes k) ≡ referent.Unit k
      by_scope None is h =
          absurd (never (right_unflagged (arguments_judged c sc referent.Unknown 0 ts).flags (e43 true)
          (subst (λ (o : Option symbols.Scope). IsUnflagged (reference_judged c (callee_in kd k o) (arguments_judged c sc (callee_in kd k o) 0 ts)).flags) is h)).e43)
      by_scope (Some x) is h =
          ap (callee_in kd k) is ∙ by_kind (calls kd x.kind) (subst (λ (o : Option symbols.Scope). IsUnflagged (reference_judged c (callee_in kd k o) (arguments_judged c sc (callee_in kd k o) 0 ts)).flags) is h)

  the_pair : (a b : ℕ × ProgramUnit) → Some a ≡ Some b → a ≡ b
  the_pair a b e = cc

  numbered_at : (k : ℕ) (o : Option ProgramUnit) (v : ℕ × ProgramUnit) → unit_at p k ≡ o → option_map {U = ℕ × ProgramUnit} (λ u. (k, u)) o ≡ Some v → unit_at p k ≡ Some v.1
  numbered_at k None v is e = absurd (cc)
  numbered_at k (Some w) v is e = is ∙ ap (λ (x : ℕ × ProgramUnit). Some x.1) (the_pair (k, w) v e)

  -- the arguments of CALL and PROCESSCALL
  pub calls_fit : (u : ProgramUnit) (n : ℕ) (is : unit_at p n ≡ Some u) → CallsFit p u own results (sizes n u is) array
  calls_fit u n is kd name args h broken some v s named at =
      let sc = scope_of u.tree u.names in
      let ts = trees_from args in
      let called = callee_is (context p) kd (get (context p).units name) sc ts h in
      let k = called.0 in
      let there : unit_at p k ≡ Some v.1 = numbered_at k (unit_at p k) v refl (sym (ap (numbered p) called.1) ∙ named) in
      let flags : IsUnflagged (reference_judged (context p) (referent.Unit k) (arguments_judged (context p) sc (referent.Unit k) 0 ts)).flags =
      subst (λ (r : Referent). IsUnflagged (reference_judged (context p) r (arguments_judged (context p) sc r 0 ts)).flags) called.2 h in
      let unbroken : breaks_unit p.names.units (context p) u.names (map (ports.type_of (context p) sc) (list_of ts)) (Some k) ≡ false =
      ap (λ (l : List Tree). breaks_unit p.names.units (context p) u.names (map (ports.type_of (context p) sc) l) (Some k)) (list_back args)
      ∙ sym (ap (breaks_unit p.names.units (context p) u.names (map (ports.type_of (context p) sc) args)) called.1) ∙ broken in
      arguments_are p s sizes formals (arg_typed p own s at.program (typed_in u n is s at)) k v.1 ts there
      (subst (λ (w : ProgramUnit). IsUnflagged (reference_judged (context p) (referent.Unit k) (arguments_judged (context p) (scope_of w.tree w.names) (referent.Unit k) 0 ts)).flags) (sym at.unit) flags)
      (subst (λ (w : ProgramUnit). AllTrees (HasSome w) ts) (sym at.unit) (some_list u args some))
      (subst (λ (w : ProgramUnit). breaks_unit p.names.units (context p) w.names (map (ports.type_of (context p) (scope_of w.tree w.names)) (list_of ts)) (Some k) ≡ false) (sym at.unit) unbroken)

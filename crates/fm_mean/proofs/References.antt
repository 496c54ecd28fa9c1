-- The references of an entry are those of FUNCTIONs in its statement, by the meaning of their names.
use Rattle.std.proofs.Common.{◌≡◌, ℕ, zero, suc, ◌+◌, Bool, true, false, cond, ◌&&◌, not, Option, Some, None, List, [], ◌∷◌, ◌++◌, map, slice_get, refl, sym, ap, ◌∙◌, subst, arith}
use Rattle.std.specs.Coded.{Coded-set, coded_list, coded_ℕ}
use Rattle.std.specs.FinMap.{get}
use Rattle.std.specs.List.{flat_map}
use Rattle.fm_values.specs.declared.intrinsic.Intrinsic.{Intrinsic}
use Rattle.fm_values.specs.Intrinsics.{intrinsic_named}
use Rattle.fm_tree.specs.Tree.{Tree, Trees, NoTrees, More, Number, Truth, Named, Ref, Paren, Signed, Not, Binary}
use Rattle.fm_tree.specs.References.{applied, applied_each, applied_in, applied_name, in_arguments, in_call, in_channel, in_exprs, in_extra, in_item, in_loop, in_optional, in_place, in_simple, in_var, in_vars, places_where, reference_at, reference_places}
use Rattle.fm_tree.specs.Layout.{laid_out}
use Rattle.fm_tree.specs.Units.{body_of, cut_of, entries_from, entry_of, unit_of}
use Rattle.fm_tree.specs.declared.entry_mark.EntryMark.{EntryMark}
use Rattle.fm_tree.specs.declared.program_unit.Entry.{Entry}
use Rattle.fm_tree.specs.declared.program_unit.Placed.{Placed}
use Rattle.fm_tree.specs.declared.program_unit.Unit as tree
use Rattle.fm_tree.specs.declared.statement.Var.{Var}
use Rattle.fm_tree.specs.declared.statement.CallPart.{CallPart}
use Rattle.fm_tree.specs.declared.statement.LoopHead.{LoopHead}
use Rattle.fm_tree.specs.declared.statement.Item.{Item}
use Rattle.fm_tree.specs.declared.statement.Item.TheVariants as item
use Rattle.fm_tree.specs.declared.statement.Where.{Where}
use Rattle.fm_tree.specs.declared.statement.Where.TheVariants as position
use Rattle.fm_tree.specs.declared.statement.Extra.{Extra}
use Rattle.fm_tree.specs.declared.statement.Extra.TheVariants as extra
use Rattle.fm_tree.specs.declared.statement.Simple.{Simple}
use Rattle.fm_tree.specs.declared.statement.Simple.TheVariants as simple
use Rattle.fm_tree.specs.declared.statement.Stmt.{Stmt}
use Rattle.fm_tree.specs.declared.statement.Stmt.TheVariants as stmt
use Rattle.fm_symbols.specs.Context.{symbol_of, symbols_of}
use Rattle.fm_symbols.specs.Headings.{heading_name}
use Rattle.fm_symbols.specs.declared.names.Variable.{Variable}
use Rattle.fm_symbols.specs.declared.names.UnitNames.{UnitNames}
use Rattle.fm_symbols.specs.declared.symbol.Symbol.{Symbol}
use Rattle.fm_rules.specs.FunctionTitles as facts
use Rattle.fm_net.specs.Typed.{AllIn}
use Rattle.fm_rules.specs.declared.program.Program.{Program}
use Rattle.fm_mean.specs.Names.{ProgramUnit, unit_at, unit_named, variable_of}
use Rattle.fm_mean.specs.Evaluate.{Element, array_or, function_by, intrinsic_or, is_array, reference_of}
use Rattle.fm_mean.proofs.JudgedValues.{Stands, stands, stands_constant, stands_none, stands_variable}
use Rattle.fm_mean.proofs.Members.{from_map, name_is}
use Rattle.fm_mean.proofs.Sizes.{all_append, parts_of}
use Rattle.fm_mean.proofs.Unbroken.{Unbroken, from_rules}
use Rattle.fm_mean.proofs.UnitMeanings.{first_parts}
use Rattle.fm_mean.specs.Referring.{calls_among, calls_one, names_in}
use Rattle.fm_mean.proofs.FirstUnits.{ByRules, Found, by_rules, call_is, first_unit, flag_found, found_there, has_own_name, is_function_found, test_is, test_of}
use Rattle.fm_mean.proofs.ArrayNames.{NoFunction, array_no_function, has_bounds, symbol_bounds}

never : true ≡ false → ⊥
never e = absurd (cc)

-- ---- what stands in a statement with a list behind it

abbrev IsReference : Tree → Type 0
IsReference (Number n) = ⊥
IsReference (Truth b) = ⊥
IsReference (Named name) = ⊥
IsReference (Ref name args) = Unit {0}
IsReference (Paren e) = ⊥
IsReference (Signed op e) = ⊥
IsReference (Not e) = ⊥
IsReference (Binary op a b) = ⊥

abbrev AreReferences : List Tree → Type 0
AreReferences = AllIn IsReference

both : (xs ys : List Tree) → AreReferences xs → AreReferences ys → AreReferences (xs ++ ys)
both xs ys h k = all_append IsReference xs ys h k

each : {X : Type 0} (f : X → List Tree) → ((x : X) → AreReferences (f x)) → (xs : List X) → AreReferences (flat_map f xs)
each f h [] = tt
each f h (x ∷ xs) = both (f x) (flat_map f xs) (h x) (each f h xs)

mutual
  in_tree : (t : Tree) → AreReferences (applied t)
  in_tree (Number n) = tt
  in_tree (Truth b) = tt
  in_tree (Named name) = tt
  in_tree (Ref name args) = both (applied_each args) (Ref name args ∷ []) (in_trees args) (tt, tt)
  in_tree (Paren e) = in_tree e
  in_tree (Signed op e) = in_tree e
  in_tree (Not e) = in_tree e
  in_tree (Binary op a b) = both (applied a) (applied b) (in_tree a) (in_tree b)

  in_trees : (ts : Trees) → AreReferences (applied_each ts)
  in_trees NoTrees = tt
  in_trees (More t ts) = both (applied t) (applied_each ts) (in_tree t) (in_trees ts)

in_list : (ts : List Tree) → AreReferences (in_exprs ts)
in_list ts = each applied in_tree ts

in_variable : (v : Var) → AreReferences (in_var v)
in_variable v = in_list v.subscripts

in_variables : (vs : List Var) → AreReferences (in_vars vs)
in_variables vs = each in_var in_variable vs

in_an_item : (i : Item) → AreReferences (in_item i)
in_an_item (item.Expr e) = in_tree e
in_an_item (item.Constant bytes) = tt

in_an_extra : (x : Extra) → AreReferences (in_extra x)
in_an_extra (extra.End label) = tt
in_an_extra (extra.Iostat v) = in_variable v

in_a_place : (o : Option Where) → AreReferences (in_place o)
in_a_place None = tt
in_a_place (Some (position.Location es)) = in_list es
in_a_place (Some (position.Submachine a b)) = both (applied a) (applied b) (in_tree a) (in_tree b)

in_an_option : (o : Option Tree) → AreReferences (in_optional o)
in_an_option None = tt
in_an_option (Some e) = in_tree e

in_the_arguments : (o : Option (List Tree)) → AreReferences (in_arguments o)
in_the_arguments None = tt
in_the_arguments (Some es) = in_list es

in_a_call : (o : Option CallPart) → AreReferences (in_call o)
in_a_call None = tt
in_a_call (Some c) = both (in_exprs c.arguments) (in_place c.place) (in_list c.arguments) (in_a_place c.place)

in_a_loop : (h : LoopHead) → AreReferences (in_loop h)
in_a_loop h = both (applied h.from ++ applied h.to) (in_optional h.step) (both (applied h.from) (applied h.to) (in_tree h.from) (in_tree h.to)) (in_an_option h.step)

in_two : (v w : Var) → AreReferences (in_var v ++ in_var w)
in_two v w = both (in_var v) (in_var w) (in_variable v) (in_variable w)

in_ports : (b : Bool) (v w : Var) → AreReferences (in_channel b v w)
in_ports true v w = in_two v w
in_ports false v w = in_two w v

in_a_simple : (k : Simple) → AreReferences (in_simple k)
unfolding in_simple
in_a_simple (simple.Assignment v e) = both (in_var v) (applied e) (in_variable v) (in_tree e)
in_a_simple (simple.Goto label) = tt
in_a_simple simple.Continue = tt
in_a_simple simple.Return = tt
in_a_simple simple.Stop = tt
in_a_simple (simple.Call name arguments) = in_the_arguments arguments
in_a_simple (simple.Print items) = each in_item in_an_item items
in_a_simple (simple.Write unit items) = each in_item in_an_item items
in_a_simple (simple.Channel in_first v w) = in_ports in_first v w
in_a_simple (simple.Merger v ws) = both (in_var v) (in_vars ws) (in_variable v) (in_variables ws)
in_a_simple (simple.Send named v items) = both (in_var v) (in_exprs items) (in_variable v) (in_list items)
in_a_simple (simple.Receive named v extras items) = both (in_var v ++ flat_map in_extra extras) (in_vars items) (both (in_var v) (flat_map in_extra extras) (in_variable v) (each in_extra in_an_extra extras)) (in_variables items)
in_a_simple (simple.EndChannel named v) = in_variable v
in_a_simple (simple.MovePort v w) = in_two v w
in_a_simple (simple.Probe named v w) = in_two v w

are_references : (t : Stmt) → AreReferences (applied_in t)
unfolding applied_in
are_references (stmt.Simple s) = in_a_simple s
are_references (stmt.LogicalIf e s) = both (applied e) (in_simple s) (in_tree e) (in_a_simple s)
are_references (stmt.BlockIf e) = in_tree e
are_references (stmt.ElseIf e) = in_tree e
are_references (stmt.Do head) = in_a_loop head
are_references (stmt.DoWhile e) = in_tree e
are_references (stmt.ProcessCall name part) = in_a_call part
are_references (stmt.ProcessDo head) = in_a_loop head
are_references t = tt

-- ---- places and trees

-- whether a name with a list behind it refers to a FUNCTION
abbrev is_called : Program → ProgramUnit → List ℕ → Bool
is_called p u name = calls_one (reference_of (names_in p u) name)

-- what stands at the places of calls
found_places : (p : Program) (u : ProgramUnit) (trees ts : List Tree) (first : ℕ) → AreReferences ts → ((k : ℕ) → slice_get trees (first + k) ≡ slice_get ts k)
    → map (slice_get trees) (places_where (is_called p u) first ts) ≡ map Some (calls_among p u ts)
found_places p u trees [] first h alike = refl
found_places p u trees (Ref name args ∷ ts) first h alike =
    go (is_called p u name) (found_places p u trees ts (first + 1) h.1 (λ k. ap (slice_get trees) (omega arith) ∙ alike (suc k)))
  where
    here : slice_get trees first ≡ Some (Ref name args)
    here = ap (slice_get trees) (omega arith) ∙ alike zero

    go : (b : Bool) → map (slice_get trees) (places_where (is_called p u) (first + 1) ts) ≡ map Some (calls_among p u ts)
        → map (slice_get trees) (cond b (first ∷ places_where (is_called p u) (first + 1) ts) (places_where (is_called p u) (first + 1) ts)) ≡ map Some (cond b (Ref name args ∷ calls_among p u ts) (calls_among p u ts))
    go true rest = ap (λ o. o ∷ map (slice_get trees) (places_where (is_called p u) (first + 1) ts)) here ∙ ap (λ l. Some (Ref name args) ∷ l) rest
    go false rest = rest
found_places p u trees (t ∷ ts) first h alike = absurd h.0

places_by : (f g : List ℕ → Bool) → ((name : List ℕ) → f name ≡ g name) → (first : ℕ) (ts : List Tree) → places_where f first ts ≡ places_where g first ts
places_by f g alike first [] = refl
places_by f g alike first (t ∷ ts) =
    ap (λ b. cond b (first ∷ places_where f (first + 1) ts) (places_where f (first + 1) ts)) (alike (applied_name t))
    ∙ ap (λ l. cond (g (applied_name t)) (first ∷ l) l) (places_by f g alike (first + 1) ts)

-- ---- the two tests agree

-- a name with bounds is no FUNCTION's
hidden : (p : Program) (u : ProgramUnit) (number : ℕ) (name : List ℕ) (y : Symbol) → Unbroken p.units.units p.names.units → unit_at p number ≡ Some u → get (symbols_of u.names) name ≡ Some y → has_bounds y ≡ true
    → is_function_found (first_unit p.units.units name) ≡ false
hidden p u number name y h is at bounds = go (is_function_found (first_unit p.units.units name)) refl
  where
    rules : ByRules p.units.units u
    rules = by_rules p.units.units p.names.units h number u (parts_of p number u is).0 (parts_of p number u is).1

    none : NoFunction (facts.titles_of p.units.units) u.tree (first_parts (facts.titles_of p.units.units) u.tree rules.clean).0 name
    none = array_no_function (facts.titles_of p.units.units) u.tree (first_parts (facts.titles_of p.units.units) u.tree rules.clean).0 name y (ap (λ (n : UnitNames). get (symbols_of n) name) (sym rules.names_are) ∙ at) bounds

    own : (o : Option (List ℕ)) → heading_name u.tree.heading.stmt ≡ o → (true && not (facts.is_own_name o name)) ≡ false → heading_name u.tree.heading.stmt ≡ Some name
    own None named e = absurd (never e)
    own (Some title) named e = named ∙ ap Some (by (facts.same_name title name) refl e)
      where
        by : (b : Bool) → facts.same_name title name ≡ b → (true && not b) ≡ false → title ≡ name
        by true same e = name_is title name same
        by false same e = absurd (never e)

    go : (b : Bool) → is_function_found (first_unit p.units.units name) ≡ b → is_function_found (first_unit p.units.units name) ≡ false
    go false e = e
    go true e =
        let flag = flag_found p.units.units name ∙ e in
        let named = own (heading_name u.tree.heading.stmt) refl (sym (ap (λ (b : Bool). b && not (facts.is_own_name (heading_name u.tree.heading.stmt) name)) flag) ∙ none.other) in
        let first = (has_own_name p.units.units p.names.units h number u.tree name (parts_of p number u is).0 named).1 in
        absurd (none.own named (sym (ap is_function_found first) ∙ e))

-- nor is that of an intrinsic function
intrinsic_alone : (p : Program) (name : List ℕ) (f : Intrinsic) → Unbroken p.units.units p.names.units → intrinsic_named name ≡ Some f → is_function_found (first_unit p.units.units name) ≡ false
intrinsic_alone p name f h is = go (first_unit p.units.units name) refl
  where
    no : None ≡ Some f → ⊥
    no e = absurd (cc)

    go : (o : Option Found) → first_unit p.units.units name ≡ o → is_function_found o ≡ false
    go None at = refl
    go (Some x) at =
        let there = found_there p.units.units name x at in
        absurd (no (sym (has_own_name p.units.units p.names.units h x.0 x.1 name there.there there.named).0 ∙ is))

called_is : (p : Program) (u : ProgramUnit) (number : ℕ) (name : List ℕ) → Unbroken p.units.units p.names.units → unit_at p number ≡ Some u → is_called p u name ≡ is_function_found (first_unit p.units.units name)
called_is p u number name h is = by_stands (stands u name)
  where
    rest : calls_one (intrinsic_or (intrinsic_named name) (function_by (unit_named p name))) ≡ is_function_found (first_unit p.units.units name)
    rest = go (intrinsic_named name) refl
      where
        go : (o : Option Intrinsic) → intrinsic_named name ≡ o → calls_one (intrinsic_or o (function_by (unit_named p name))) ≡ is_function_found (first_unit p.units.units name)
        go None at = call_is p h name
        go (Some f) at = sym (intrinsic_alone p name f h at)

    with_variable : (w : Option (ℕ × Variable)) → variable_of u name ≡ w → calls_one (array_or w (intrinsic_or (intrinsic_named name) (function_by (unit_named p name)))) ≡ is_function_found (first_unit p.units.units name)
        → is_called p u name ≡ is_function_found (first_unit p.units.units name)
    with_variable w at e = ap (λ (w : Option (ℕ × Variable)). calls_one (array_or w (intrinsic_or (intrinsic_named name) (function_by (unit_named p name))))) at ∙ e

    by_bounds : (k : ℕ) (v : Variable) (b : Bool) → is_array v.bounds ≡ b → get (symbols_of u.names) name ≡ Some (symbol_of k v)
        → calls_one (cond b (Element k v) (intrinsic_or (intrinsic_named name) (function_by (unit_named p name)))) ≡ is_function_found (first_unit p.units.units name)
    by_bounds k v true array at = sym (hidden p u number name (symbol_of k v) h is at (symbol_bounds v.kind v.bounds v.words k ∙ array))
    by_bounds k v false array at = rest

    by_stands : Stands u name (get (symbols_of u.names) name) → is_called p u name ≡ is_function_found (first_unit p.units.units name)
    by_stands (stands_none at none) = with_variable None none rest
    by_stands (stands_constant c at none there) = with_variable None none rest
    by_stands (stands_variable k v at there here) = with_variable (Some (k, v)) there (by_bounds k v (is_array v.bounds) refl at)

-- ---- entries

entry_places : (test : List ℕ → Bool) (ps : List Placed) (marks : List EntryMark) (k : ℕ) (ms : List EntryMark) (i : ℕ) (e : Entry) → slice_get (entries_from test ps marks k ms) i ≡ Some e → e.refs ≡ reference_places test e.stmt
entry_places test ps marks k [] i e is = absurd (cc)
entry_places test ps marks k (m ∷ ms) zero e is = subst (λ (x : Entry). x.refs ≡ reference_places test x.stmt) (the_entry (entry_of test ps marks k) e is) refl
  where
    the_entry : (a b : Entry) → Some a ≡ Some b → a ≡ b
    the_entry a b h = cc
entry_places test ps marks k (m ∷ ms) (suc i) e is = entry_places test ps marks (k + 1) ms i e is

unit_places : (us : List tree.Unit) (ns : List UnitNames) (h : Unbroken us ns) (number : ℕ) (u : tree.Unit) (i : ℕ) (e : Entry) → slice_get us number ≡ Some u → slice_get u.body i ≡ Some e → e.refs ≡ reference_places (test_of us ns h) e.stmt
unit_places us ns h number u i e is at =
    let test = test_of us ns h in
    let x = from_map (unit_of test) (cut_of h.statements) number u (ap (λ (l : List tree.Unit). slice_get l number) (sym h.units_are) ∙ is) in
    let body = body_of (laid_out x.0) in
    entry_places test x.0 body 0 body i e (ap (λ (t : tree.Unit). slice_get t.body i) x.2 ∙ at)

places_are : (p : Program) (number : ℕ) (u : ProgramUnit) (i : ℕ) (e : Entry) → unit_at p number ≡ Some u → slice_get u.tree.body i ≡ Some e → e.refs ≡ reference_places (is_called p u) e.stmt
places_are p number u i e is at =
    from_rules p (e.refs ≡ reference_places (is_called p u) e.stmt) (Coded-set (coded_list coded_ℕ) e.refs (reference_places (is_called p u) e.stmt))
    (λ h.
    unit_places p.units.units p.names.units h number u.tree i e (parts_of p number u is).0 at
    ∙ places_by (test_of p.units.units p.names.units h) (is_called p u) (λ name. test_is p.units.units p.names.units h name ∙ sym (called_is p u number name h is)) 0 (applied_in e.stmt))

-- its references are those of FUNCTIONs in its statement, in the order of evaluation
pub entry_references : (p : Program) (number : ℕ) (u : ProgramUnit) (i : ℕ) (e : Entry) → unit_at p number ≡ Some u → slice_get u.tree.body i ≡ Some e → map (reference_at e.stmt) e.refs ≡ map Some (calls_among p u (applied_in e.stmt))
entry_references p number u i e is at =
    let trees = applied_in e.stmt in
    ap (map (slice_get trees)) (places_are p number u i e is at) ∙ found_places p u trees trees 0 (are_references e.stmt) (λ k. ap (slice_get trees) (omega arith))

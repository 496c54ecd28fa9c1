-- The variables of a RECEIVE of a checked program are as many as the fields of its port's messages, and of their types and
-- sizes.
use Rattle.std.proofs.Common.{◌≡◌, ℕ, ℤ, Bool, true, false, not, Option, Some, None, List, [], ◌∷◌, ◌++◌, map, slice_get, refl, sym, ap, ◌∙◌, subst}
use Rattle.std.specs.Cmp.{first_so, second_so}
use Rattle.std.specs.FinMap.{get}
use Rattle.std.specs.List.{flat_map}
use Rattle.fm_net.specs.Typed.{AllIn}
use Rattle.fm_tree.specs.PortFields.{PortFields, FieldKind, NoFields, FieldThen, In}
use Rattle.fm_tree.specs.PortReading as reading
use Rattle.fm_tree.specs.Tree.{Tree, trees_from}
use Rattle.fm_tree.specs.declared.port_type.Bound.{Bound}
use Rattle.fm_tree.specs.declared.port_type.Kind.{Kind}
use Rattle.fm_tree.specs.declared.port_type.Kind.TheVariants as kind
use Rattle.fm_tree.specs.declared.program_unit.Entry.{Entry}
use Rattle.fm_tree.specs.declared.statement.Extra.{Extra}
use Rattle.fm_tree.specs.declared.statement.Simple.TheVariants as simple
use Rattle.fm_tree.specs.declared.statement.Stmt.TheVariants as stmt
use Rattle.fm_tree.specs.declared.statement.Var.{Var}
use Rattle.fm_symbols.specs.Context.{symbol_by, symbol_of, symbols_of, symbol_in, constant_symbol, scope_of}
use Rattle.fm_symbols.specs.declared.context.Context.{Context}
use Rattle.fm_symbols.specs.declared.context.Scope as symbols
use Rattle.fm_symbols.specs.declared.names.Constant.{Constant}
use Rattle.fm_symbols.specs.declared.names.Constant.TheVariants as constant
use Rattle.fm_symbols.specs.declared.names.Variable.{Variable}
use Rattle.fm_symbols.specs.declared.symbol.Direction.TheVariants as direction
use Rattle.fm_symbols.specs.declared.symbol.Symbol.{Symbol}
use Rattle.fm_rules.specs.Occurrences as occurrences
use Rattle.fm_rules.specs.declared.typing.ExprType.{ExprType}
use Rattle.fm_rules.specs.declared.typing.ExprType.TheVariants.{Nothing}
use Rattle.fm_rules.specs.declared.typing.Arguments.{Arguments}
use Rattle.fm_rules.specs.declared.typing.Referent.TheVariants as referent
use Rattle.fm_rules.specs.Expressions.{array_or, arguments_judged}
use Rattle.fm_rules.specs.Flags.{both}
use Rattle.fm_rules.specs.Typing.{symbol_type}
use Rattle.fm_rules.specs.VariableTypes.{subscripted, variable_judged}
use Rattle.fm_rules.specs.TypeStatements.{extra_flags, in_any, port_flags, simple_flags, target_flags}
use Rattle.fm_rules.specs.PortFitting.{fit_fields, fits_field, lacks_port}
use Rattle.fm_rules.specs.JudgedStatements.{variable_type}
use Rattle.fm_rules.specs.PortTypes.{sizing_place}
use Rattle.fm_rules.specs.PortRules.{breaks_fields, breaks_message, lacks_direction, message_at}
use Rattle.fm_rules.specs.declared.program.Program.{Program}
use Rattle.fm_mean.specs.Fits.{elements_in, sort_of_variable}
use Rattle.fm_mean.specs.Names.{ProgramUnit, unit_at, context, variable_of}
use Rattle.fm_mean.specs.Typing.{sort_of}
use Rattle.fm_mean.specs.ValueTypes.{named_arg}
use Rattle.fm_mean.proofs.JudgedArguments.{ArgIs, HaveSizes, name_is}
use Rattle.fm_mean.proofs.JudgedItems.{all_left, all_parts, all_right, all_unflagged, inport_is, IsPairOf, item_fits}
use Rattle.fm_mean.proofs.JudgedPlaces.{item_has_type, port_is, variable_has_type}
use Rattle.fm_mean.proofs.JudgedPlaces as judged
use Rattle.fm_mean.proofs.JudgedPrograms.{arrays_in}
use Rattle.fm_mean.proofs.JudgedValues.{Stands, stands_none, stands_constant, stands_variable, stands}
use Rattle.fm_mean.proofs.Sizes.{variable_sized}
use Rattle.fm_mean.proofs.Unflagged.{IsUnflagged, left_unflagged, right_unflagged}
use Rattle.fm_mean.specs.Referring.{names_in}
use Rattle.fm_gen_relation.specs.Sound.{IsVariable}
use Rattle.fm_gen_relation.specs.Targets.{HasWords, TargetsFit, target_words}
use Rattle.fm_gen_relation.proofs.Kept.{keeps}
use Rattle.fm_gen_relation.proofs.Meant.{meant}

-- Kinds with numbers of elements.

abbrev Pair : Type 0
Pair = FieldKind × ℕ

abbrev of_kind : ℕ → Kind → Option Pair
of_kind n k = Some (reading.kind_of k, n)

-- what is received into a variable
abbrev taken : Variable → ℕ → Option Pair
taken v n = Some (sort_of_variable v, n)

parts_alike : (a b : FieldKind) (m n : ℕ) → ◌≡◌ {A = Option Pair} (Some (a, m)) (Some (b, n)) → (a ≡ b) × (m ≡ n)
parts_alike a b m n e = (ap first e, ap second e)
  where
    first : Option Pair → FieldKind
    first None = a
    first (Some x) = x.0

    second : Option Pair → ℕ
    second None = m
    second (Some x) = x.1

-- a field's kind, and its number of elements where no field sizes it
as_field : (words : ℕ) (a k : FieldKind) (size : Option ℕ) (bs : List Bound) → IsPairOf (Some (a, words)) k size bs → (a ≡ k) × HasWords words size bs
as_field words a k None bs e = parts_alike a k words (elements_in bs) e
as_field words a k (Some place) bs e = ((parts_alike a k words e.0 e.1).0, tt)

the_variable : (a b : ℕ × Variable) → Some a ≡ Some b → a ≡ b
the_variable a b e = cc

-- Elements.

element_by : (u : ProgramUnit) (c : Context) (k : ℕ) (v : Variable) (kd : Kind) (bs : List (ℤ × ℤ)) (words : ℕ) (a : Arguments) → slice_get u.names.variables k ≡ Some v → v.kind ≡ kd
    → ArgIs u (subscripted c (array_or (Some (symbol_by kd bs words k)) referent.Unknown) a).expr_type (taken v 1)
element_by u c k v kind.Integer [] words a here at = tt
element_by u c k v kind.Logical [] words a here at = tt
element_by u c k v (kind.In t) [] words a here at = tt
element_by u c k v (kind.Out t) [] words a here at = tt
element_by u c k v kind.Integer (b ∷ bs) words a here at = ap (of_kind 1) at
element_by u c k v kind.Logical (b ∷ bs) words a here at = ap (of_kind 1) at
element_by u c k v (kind.In t) (b ∷ bs) words a here at = (v, here, refl)
element_by u c k v (kind.Out t) (b ∷ bs) words a here at = (v, here, refl)

constant_element : (u : ProgramUnit) (c : Context) (o : Option Pair) (x : Constant) (a : Arguments) → ArgIs u (subscripted c (array_or (Some (constant_symbol x)) referent.Unknown) a).expr_type o
constant_element u c o (constant.Integer n) a = tt
constant_element u c o (constant.Logical b) a = tt

-- an element has one word
element_taken : (u : ProgramUnit) (c : Context) (name : List ℕ) (w : ℕ × Variable) (a : Arguments) → variable_of u name ≡ Some w → ArgIs u (subscripted c (array_or (get (symbols_of u.names) name) referent.Unknown) a).expr_type (taken w.1 1)
element_taken u c name w a is = go (stands u name)
  where
    by : (o : Option Symbol) → get (symbols_of u.names) name ≡ o → ArgIs u (subscripted c (array_or o referent.Unknown) a).expr_type (taken w.1 1) → ArgIs u (subscripted c (array_or (get (symbols_of u.names) name) referent.Unknown) a).expr_type (taken w.1 1)
    by o at h = subst (λ (o : Option Symbol). ArgIs u (subscripted c (array_or o referent.Unknown) a).expr_type (taken w.1 1)) (sym at) h

    go : Stands u name (get (symbols_of u.names) name) → ArgIs u (subscripted c (array_or (get (symbols_of u.names) name) referent.Unknown) a).expr_type (taken w.1 1)
    go (stands_none at none) = by None at tt
    go (stands_constant x at none there) = by (Some (constant_symbol x)) at (constant_element u c (taken w.1 1) x a)
    go (stands_variable k v at there here) =
        by (Some (symbol_of k v)) at
        (subst (λ (x : ℕ × Variable). ArgIs u (subscripted c (array_or (Some (symbol_of k v)) referent.Unknown) a).expr_type (taken x.1 1)) (the_variable (k, v) w (sym there ∙ is)) (element_by u c k v v.kind v.bounds v.words a here refl))

-- Statements.

-- the fields that are asked for are there, and the items fit them
fields_fit : (u : ProgramUnit) (ts : List ExprType) (o : Option PortFields) (asked : PortFields) → o ≡ Some asked → breaks_fields u.names ts o ≡ false → fit_fields u.names ts asked ≡ true
fields_fit u ts None asked is e = absurd (cc)
fields_fit u ts (Some x) asked is e = ap (fit_fields u.names ts) (sym (the_fields x asked is)) ∙ not_false (fit_fields u.names ts x) e
  where
    the_fields : (a b : PortFields) → Some a ≡ Some b → a ≡ b
    the_fields a b e = cc

    not_false : (b : Bool) → not b ≡ false → b ≡ true
    not_false true e = refl
    not_false false e = absurd (cc)

module _ (p : Program) (u : ProgramUnit) (sizes : HaveSizes u) where
  abbrev sc : symbols.Scope
  sc = scope_of u.tree u.names

  abbrev array : List ℕ → Bool
  array = arrays_in u

  abbrev AreMeant : List (List ℕ) → Type 0
  AreMeant names = AllIn (judged.IsMeant u (context p)) names

  abbrev HasType : Var → Type 0
  HasType v = (variable_judged (context p) sc v).expr_type ≡ Nothing → ⊥

  -- what a variable or an element is judged to be, it is in kind and size
  target_taken : (name : List ℕ) (subscripts : List Tree) (w : ℕ × Variable) → variable_of u name ≡ Some w
      → ArgIs u (variable_judged (context p) sc (record { name = name; subscripts = subscripts })).expr_type (taken w.1 (target_words w.1 (trees_from subscripts)))
  target_taken name [] w is =
      subst (λ (o : Option (ℕ × Variable)). ArgIs u (symbol_type (symbol_in (context p) sc name)) (named_arg (names_in p u) name o)) is (name_is (names_in p u) (context p) name sizes)
  target_taken name (t ∷ ts) w is =
      element_taken u (context p) name w (arguments_judged (context p) sc (array_or (get sc.symbols name) referent.Unknown) 0 (trees_from (t ∷ ts))) is

  target_fits : (v : Var) (k : FieldKind) (bs : List Bound) (x : IsVariable u v.name) → HasType v → fits_field u.names (variable_judged (context p) sc v).expr_type k bs ≡ true
      → (w : ℕ × Variable) × (variable_of u v.name ≡ Some w) × (sort_of_variable w.1 ≡ k) × HasWords (target_words w.1 (trees_from v.subscripts)) (sizing_place bs) bs
  target_fits v k bs x some e =
      let words = target_words x.0.1 (trees_from v.subscripts) in
      let same = item_fits u (variable_judged (context p) sc v).expr_type (taken x.0.1 words) k bs (target_taken v.name v.subscripts x.0 x.1) some e in
      let parts = as_field words (sort_of_variable x.0.1) k (sizing_place bs) bs same in
      (x.0, x.1, parts.0, parts.1)

  all_fit : (t : PortFields) (vs : List Var) → AllIn (λ (v : Var). IsVariable u v.name) vs → AllIn HasType vs → fit_fields u.names (map (variable_type (context p) sc) vs) t ≡ true → TargetsFit u t vs
  unfolding variable_type
  all_fit NoFields [] there some e = tt
  all_fit NoFields (v ∷ vs) there some e = absurd (cc e)
  all_fit (FieldThen k name bs rest) [] there some e = absurd (cc e)
  all_fit (FieldThen k name bs rest) (v ∷ vs) there some e =
      let one = fits_field u.names (variable_judged (context p) sc v).expr_type k bs in
      let more = fit_fields u.names (map (variable_type (context p) sc) vs) rest in
      (target_fits v k bs there.0 some.0 (first_so one more e), all_fit rest vs there.1 some.1 (second_so one more e))

  all_typed : (vs : List Var) → AllIn (λ v. IsUnflagged (target_flags (context p) sc v)) vs → AllIn (λ v. AreMeant (occurrences.in_var array v)) vs → AllIn HasType vs
  all_typed [] h some = tt
  all_typed (v ∷ vs) h some = (item_has_type u (context p) v some.0.0 h.0, all_typed vs h.1 some.1)

  received : (q : Var) (xs : List Extra) (vs : List Var) → IsUnflagged (both (both (port_flags (context p) sc q) (in_any (extra_flags (context p) sc) xs)) (in_any (target_flags (context p) sc) vs))
      → AreMeant (occurrences.in_var array q ++ (flat_map (occurrences.in_extra array) xs ++ flat_map (occurrences.in_var array) vs)) → lacks_port direction.In u.names (variable_type (context p) sc q) ≡ false
      → breaks_fields u.names (map (variable_type (context p) sc) vs) (message_at u.names (context p) sc q) ≡ false → AllIn (λ (v : Var). IsVariable u v.name) vs
      → (t : PortFields) × (sort_of u q.name ≡ Some (In t)) × TargetsFit u t vs
  unfolding variable_type
  received q xs vs h some way fits there =
      let port = port_flags (context p) sc q in
      let extras = in_any (extra_flags (context p) sc) xs in
      let items = in_any (target_flags (context p) sc) vs in
      let names = occurrences.in_var array q in
      let more = flat_map (occurrences.in_extra array) xs in
      let rest = flat_map (occurrences.in_var array) vs in
      let first = left_unflagged port extras (left_unflagged (both port extras) items h) in
      let own = all_left (judged.IsMeant u (context p)) names (more ++ rest) some in
      let behind = all_right (judged.IsMeant u (context p)) more rest (all_right (judged.IsMeant u (context p)) names (more ++ rest) some) in
      let i = inport_is u q.name (variable_judged (context p) sc q).expr_type (port_is u (context p) q first) (variable_has_type u (context p) q own.0 first) way in
      let each = all_unflagged (target_flags (context p) sc) vs (right_unflagged (both port extras) items h) in
      let typed = all_typed vs each (all_parts (judged.IsMeant u (context p)) (occurrences.in_var array) vs behind) in
      (i.fields, i.sort, all_fit i.fields vs there typed (fields_fit u (map (variable_type (context p) sc) vs) (message_at u.names (context p) sc q) i.fields i.message fits))

-- the variables of a RECEIVE are as many as the fields of its port's messages, and of their types and sizes
pub targets_fit : (p : Program) (number : ℕ) (u : ProgramUnit) (i : ℕ) (e : Entry) → unit_at p number ≡ Some u → slice_get u.tree.body i ≡ Some e
    → (named : Bool) (q : Var) (extras : List Extra) (items : List Var) → e.stmt ≡ stmt.Simple (simple.Receive named q extras items)
    → (t : PortFields) × (sort_of u q.name ≡ Some (In t)) × TargetsFit u t items
unfolding simple_flags occurrences.in_simple lacks_direction breaks_message
targets_fit p number u i e is at named q extras items same =
    let s = simple.Receive named q extras items in
    let h = keeps p number u is i e at s same in
    received p u (λ k v there. variable_sized p number u k v is there) q extras items h.flags h.names h.direction h.message (meant p number u i e is at s same).1

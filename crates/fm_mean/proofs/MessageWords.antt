-- A message has 65,536 words at most, as its type has, and 65,536 for each field that an earlier one sizes.
use Rattle.std.proofs.Common.{◌≡◌, ℕ, suc, ℤ, pos, negsuc, ◌+◌, ◌*◌, ◌≤◌, Bool, true, false, cond, Option, Some, None, option_map, unwrap_or, List, [], ◌∷◌, ◌++◌, map, drop, take, length, replicate, slice_get, Result, Ok, refl, sym, ap, ◌∙◌, subst, arith}
use Rattle.std.specs.Prelude.{nat_le}
use Rattle.std.specs.FinMap.{get}
use Rattle.std.specs.Coded.{Unit-prop, le_prop}
use Rattle.std.proofs.lemmas.List.{length-replicate, length-take}
use Rattle.fm_base.specs.Channels.{Item, Message}
use Rattle.fm_base.specs.Verdict as verdict
use Rattle.fm_base.specs.Verdict.{when}
use Rattle.fm_base.specs.declared.fault.Fault.{Fault}
use Rattle.fm_base.specs.declared.port.PortValue.{PortValue}
use Rattle.fm_base.specs.declared.rule.Rule.TheVariants.{E34}
use Rattle.fm_values.specs.declared.value.Value.{Value}
use Rattle.fm_values.specs.Values.{word_of}
use Rattle.fm_values.specs.Places.{element_place}
use Rattle.fm_tree.specs.PortFields.{PortFields, FieldKind, NoFields, FieldThen, Integer, Logical, In, Out}
use Rattle.fm_tree.specs.PortReading as reading
use Rattle.fm_tree.specs.Tree.{Tree, Trees, NoTrees, More, Number, Truth, Named, Ref, Paren, Signed, Not, Binary}
use Rattle.fm_tree.specs.declared.port_type.Bound.{Bound}
use Rattle.fm_tree.specs.declared.port_type.Kind.{Kind}
use Rattle.fm_tree.specs.declared.port_type.Kind.TheVariants as kind
use Rattle.fm_tree.specs.declared.program_unit.Placed.{Placed}
use Rattle.fm_tree.specs.declared.program_unit.Unit as tree
use Rattle.fm_tree.specs.declared.statement.Decl.{Decl}
use Rattle.fm_tree.specs.declared.statement.Stmt.{Stmt}
use Rattle.fm_tree.specs.declared.statement.Stmt.TheVariants as stmt
use Rattle.fm_symbols.specs.ByName.{ByName}
use Rattle.fm_symbols.specs.declared.names.UnitNames.{UnitNames}
use Rattle.fm_symbols.specs.declared.names.Variable.{Variable}
use Rattle.fm_rules.specs.BrokenConstants as constants
use Rattle.fm_rules.specs.BrokenConstants.{broken_decls, broken_fields, broken_message, broken_definitions, broken_machine, broken_statement, is_long, long_message}
use Rattle.fm_rules.specs.BrokenNames as names
use Rattle.fm_rules.specs.BrokenNames.{broken_in, untyped_in}
use Rattle.fm_rules.specs.ConstantParts.{decls_of, port_type_in, definitions_in, machine_in}
use Rattle.fm_rules.specs.Declarations.{declared_twice_in}
use Rattle.fm_rules.specs.FunctionTitles.{titles_of}
use Rattle.fm_rules.specs.NameTypes.{types_of}
use Rattle.fm_rules.specs.Names.{unit_names}
use Rattle.fm_rules.specs.PortTypes.{message_words as type_message_words, field_words, normal_bounds, normal_fields, normal_type, sizing_place, words_behind}
use Rattle.fm_rules.specs.SizedFields.{Sizes, size_given, sized_by}
use Rattle.fm_rules.specs.Sheets.{kind_in, kind_entries, kinds_at, kinds_from, own_kind, sheet_of}
use Rattle.fm_rules.specs.Variables.{laid_out, variables_among, words_of}
use Rattle.fm_rules.specs.declared.constants.Known.{Known}
use Rattle.fm_rules.specs.declared.constants.Types.{Types}
use Rattle.fm_rules.specs.declared.sheet.Occurrence.{Occurrence}
use Rattle.fm_rules.specs.declared.sheet.Sheet.{Sheet}
use Rattle.fm_rules.specs.declared.program.Program.{Program}
use Rattle.fm_net.specs.Typed.{AllIn}
use Rattle.fm_mean.specs.Names.{ProgramUnit, same_name, unit_at, variable_of}
use Rattle.fm_mean.specs.declared.place.Actual.{Actual}
use Rattle.fm_mean.specs.declared.place.Actual.TheVariants.{Given, Taken}
use Rattle.fm_mean.specs.declared.place.Span.{Span}
use Rattle.fm_mean.specs.Places.{exchange, exchange_all, item_from, items_at, message_from, taken_ports, words_in}
use Rattle.fm_mean.specs.Evaluate.{Scope, Reference, Element, Call, Built, Unknown, reference_of, refs_in, value_of, numbers_of, value_alone, named_actual, ref_actual, actual_at, actual_of, actuals_of, whole, single}
use Rattle.fm_mean.specs.Actions.{message_words, cut_item, cut_items, cut_to, size_in}
use Rattle.fm_mean.specs.Fits.{sort_of_variable, elements_in}
use Rattle.fm_mean.specs.Owed.{one_sized, sized_fields}
use Rattle.fm_mean.specs.Typing.{sort_of}
use Rattle.fm_mean.specs.ValueTypes.{alone, named_arg, named_type, ref_arg, ref_type, type_of, arg_type, ItemIsOf, ItemsAreOf}
use Rattle.fm_mean.proofs.Arguments.{same_pair, the_actual, the_type, variable_there}
use Rattle.fm_mean.proofs.FirstEntries.{first_entry, first_there}
use Rattle.fm_mean.proofs.Fitting.{chosen, enough}
use Rattle.fm_mean.proofs.Sizes as sizes
use Rattle.fm_mean.proofs.Sizes.{all_append, in_all, not_more, parts_of, the_names}
use Rattle.fm_mean.proofs.Sorts.{parts}
use Rattle.fm_mean.proofs.Unbroken.{Unbroken, from_rules, left_empty, right_empty, each_empty, not_when}

-- ---- the words of a type

-- a field that an earlier one sizes counts none
own_words : (size : Option ℕ) → List Bound → ℕ
own_words None bounds = elements_in bounds
own_words (Some place) bounds = 0

type_words : PortFields → ℕ
type_words NoFields = 0
type_words (FieldThen k name bounds rest) = own_words (sizing_place bounds) bounds + type_words rest

bounds_words : (known : ByName Known) (at : ℕ) (size : Option ℕ) (bs : List Bound) → own_words (sizing_place (normal_bounds known at size bs)) (normal_bounds known at size bs) ≡ field_words known at size bs
unfolding own_words
bounds_words known at None [] = refl
bounds_words known at None (b ∷ bs) = refl
bounds_words known at (Some place) bs = refl

normal_words : (known : ByName Known) (at : ℕ) (earlier : Sizes) (t : PortFields) → type_words (normal_fields known at earlier t) ≡ words_behind known at earlier t
unfolding type_words
normal_words known at earlier NoFields = refl
normal_words known at earlier (FieldThen k name bounds rest) = omega (arith, bounds_words known at (sized_by earlier k bounds) bounds, normal_words known at (size_given k name bounds ∷ earlier) rest)

-- a port's messages have few words
IsSmallSort : FieldKind → Type 0
IsSmallSort Integer = Unit {0}
IsSmallSort Logical = Unit {0}
IsSmallSort (In t) = type_words t ≤ 65536
IsSmallSort (Out t) = type_words t ≤ 65536

small_prop : (k : FieldKind) → IsProp (IsSmallSort k)
unfolding IsSmallSort
small_prop Integer = Unit-prop
small_prop Logical = Unit-prop
small_prop (In t) = le_prop
small_prop (Out t) = le_prop

abbrev IsSmallOf : Option Kind → Type 0
IsSmallOf None = Unit {0}
IsSmallOf (Some k) = IsSmallSort (reading.kind_of k)

declared_small : (known : ByName Known) (at line : ℕ) (t : PortFields) → broken_message known at line (Some t) ≡ [] → type_words (normal_type known at t) ≤ 65536
declared_small known at line t e =
    let short = not_when (is_long known at t) (verdict.place line E34) (left_empty (long_message known at line t) (broken_fields known at line [] t) e) in
    omega (arith, normal_words known at [] t, not_more (type_message_words known at t) short)

kind_small : (known : ByName Known) (at line : ℕ) (s : Stmt) → broken_message known at line (port_type_in s) ≡ [] → IsSmallOf (kind_in known at s)
unfolding kind_in port_type_in IsSmallSort
kind_small known at line (stmt.Inport t decls) e = declared_small known at line t e
kind_small known at line (stmt.Outport t decls) e = declared_small known at line t e
kind_small known at line s e = tt

abbrev HasSmall : List ℕ × Kind → Type 0
HasSmall e = IsSmallSort (reading.kind_of e.1)

entries_small : (o : Option Kind) (ds : List Decl) → IsSmallOf o → AllIn HasSmall (kind_entries o ds)
entries_small None ds h = tt
entries_small (Some k) ds h = go ds
  where
    go : (ds : List Decl) → AllIn HasSmall (map (λ (d : Decl). (d.name, k)) ds)
    go [] = tt
    go (d ∷ ds) = (h, go ds)

kinds_small : (known : ByName Known) (types : Types) (at : ℕ) (ps : List Placed) → constants.broken_from known types at ps ≡ [] → AllIn HasSmall (kinds_from known at ps)
kinds_small known types at [] e = tt
kinds_small known types at (p ∷ ps) e =
    let here = left_empty (broken_statement known types at p) (constants.broken_from known types (at + 1) ps) e in
    let ds = broken_decls known at p.line.0 (decls_of p.stmt) in
    let message = broken_message known at p.line.0 (port_type_in p.stmt) in
    let definitions = broken_definitions known types at p.line.0 0 (definitions_in p.stmt) in
    let told = right_empty ds message (left_empty (ds ++ message) definitions (left_empty (ds ++ message ++ definitions) (broken_machine known at p.line.0 (machine_in p.stmt)) here)) in
    all_append HasSmall (kinds_at known at p) (kinds_from known (at + 1) ps) (entries_small (kind_in known at p.stmt) (decls_of p.stmt) (kind_small known at p.line.0 p.stmt told))
    (kinds_small known types (at + 1) ps (right_empty (broken_statement known types at p) (constants.broken_from known types (at + 1) ps) e))

own_small : (s : Stmt) → AllIn HasSmall (own_kind s)
unfolding own_kind IsSmallSort
own_small (stmt.IntegerFunction name formals) = (tt, tt)
own_small (stmt.LogicalFunction name formals) = (tt, tt)
own_small s = tt

entry_small : (es : List (List ℕ × Kind)) (name : List ℕ) → AllIn HasSmall es → IsSmallOf (first_entry es name)
entry_small [] name h = tt
entry_small (e ∷ es) name h = go (same_name name e.0) (entry_small es name h.1)
  where
    go : (b : Bool) → IsSmallOf (first_entry es name) → IsSmallOf (cond b (Some e.1) (first_entry es name))
    go true rest = h.0
    go false rest = rest

abbrev IsSmallVariable : Variable → Type 0
IsSmallVariable v = IsSmallSort (sort_of_variable v)

kind_or : (o : Option Kind) → IsSmallOf o → IsSmallSort (reading.kind_of (unwrap_or o kind.Integer))
unfolding IsSmallSort
kind_or None h = tt
kind_or (Some k) h = h

laid_small : (s : Sheet) (first : ℕ) (os : List Occurrence) → ((name : List ℕ) → IsSmallOf (get s.kinds name)) → AllIn IsSmallVariable (laid_out s first os)
laid_small s first [] h = tt
laid_small s first (o ∷ os) h = (kind_or (get s.kinds o.name) (h o.name), laid_small s (first + words_of s o.name) os h)

names_small : (titles : ByName Bool) (u : tree.Unit) → broken_in titles u ≡ [] → AllIn IsSmallVariable (unit_names titles u).variables
names_small titles u e =
    let s = sheet_of u in
    let twice = declared_twice_in titles u in
    let bounds = constants.broken_from s.known (types_of u.specs) 0 u.specs in
    let untyped = untyped_in titles u.heading.stmt s in
    let long = when (names.is_long titles u.heading.stmt s) (verdict.place u.heading.line.0 E34) in
    let none = right_empty twice bounds (left_empty (twice ++ bounds) untyped (left_empty (twice ++ bounds ++ untyped) long e)) in
    let es = own_kind u.heading.stmt ++ kinds_from s.known 0 u.specs in
    let all = all_append HasSmall (own_kind u.heading.stmt) (kinds_from s.known 0 u.specs) (own_small u.heading.stmt) (kinds_small s.known (types_of u.specs) 0 u.specs none) in
    laid_small s 0 (variables_among titles u.heading.stmt s s.first) (λ name. subst IsSmallOf (sym (first_there es name)) (entry_small es name all))

small_there : (us : List tree.Unit) (ns : List UnitNames) (k : ℕ) (n : UnitNames) → Unbroken us ns → slice_get ns k ≡ Some n → AllIn IsSmallVariable n.variables
small_there us ns k n h is =
    let t = titles_of us in
    let at = the_names t us k n (subst (λ (l : List UnitNames). slice_get l k ≡ Some n) h.names_are is) in
    subst (λ (n : UnitNames). AllIn IsSmallVariable n.variables) at.2 (names_small t at.0 (each_empty (broken_in t) us k at.0 h.names at.1))

variable_small : (p : Program) (n : ℕ) (u : ProgramUnit) (i : ℕ) (v : Variable) → unit_at p n ≡ Some u → slice_get u.names.variables i ≡ Some v → IsSmallSort (sort_of_variable v)
variable_small p n u i v is there =
    from_rules p (IsSmallSort (sort_of_variable v)) (small_prop (sort_of_variable v)) (λ h. in_all IsSmallVariable u.names.variables i v (small_there p.units.units p.names.units n u.names h (parts_of p n u is).1) there)

out_small : (r : FieldKind) (t : PortFields) → r ≡ Out t → IsSmallSort r → type_words t ≤ 65536
unfolding IsSmallSort
out_small r t e h = subst IsSmallSort e h

-- the type of an outport of a unit
port_small : (p : Program) (n : ℕ) (u : ProgramUnit) (name : List ℕ) (t : PortFields) → unit_at p n ≡ Some u → sort_of u name ≡ Some (Out t) → type_words t ≤ 65536
port_small p n u name t is e = go (variable_of u name) refl e
  where
    the_sort : (a b : FieldKind) → Some a ≡ Some b → a ≡ b
    the_sort a b h = cc

    go : (o : Option (ℕ × Variable)) → variable_of u name ≡ o → option_map (λ v. (sort_of_variable v.1)) o ≡ Some (Out t) → type_words t ≤ 65536
    go None at h = absurd (cc h)
    go (Some v) at h = out_small (sort_of_variable v.1) t (the_sort (sort_of_variable v.1) (Out t) h) (variable_small p n u v.0 v.1 is (variable_there u name v.0 v.1 at))

-- ---- the words of items

abbrev IsOfSize : ℕ → Actual → Type 0
IsOfSize m (Given ws back) = length ws ≤ m
IsOfSize m (Taken x) = x.count ≤ m

one_size : (o : Option FieldKind) (v : Result Value Fault) (r : FieldKind) (m : ℕ) (a : Actual) → alone o ≡ Some (r, m) → value_alone v ≡ Ok a → IsOfSize m a
one_size o v r m a e is =
    let t = the_type o r m e in
    let x = parts v _ a is in
    subst (IsOfSize m) (the_actual (Given (word_of x.0 ∷ []) None) a x.2) (omega (arith, t.1))

span_size : (s : Scope) (k : Kind) (x : Span) → IsOfSize x.count (actual_at s k x)
span_size s kind.Integer x = omega (arith, length-take x.count (drop x.first (words_in (items_at s.values x.variable))))
span_size s kind.Logical x = omega (arith, length-take x.count (drop x.first (words_in (items_at s.values x.variable))))
span_size s (kind.In t) x = omega arith
span_size s (kind.Out t) x = omega arith

arg_size : (s : Scope) (t : Tree) (n : ℕ) (a : Actual) (r : FieldKind) (m : ℕ) → arg_type s t ≡ Some (r, m) → actual_of s t n ≡ Ok a → IsOfSize m a
arg_size s (Number k) n a r m e is = one_size (Some Integer) (value_of s (Number k) n) r m a e is
arg_size s (Truth b) n a r m e is = one_size (Some Logical) (value_of s (Truth b) n) r m a e is
arg_size s (Paren t) n a r m e is = one_size (type_of s t) (value_of s (Paren t) n) r m a e is
arg_size s (Signed o t) n a r m e is = one_size (Some Integer) (value_of s (Signed o t) n) r m a e is
arg_size s (Not t) n a r m e is = one_size (Some Logical) (value_of s (Not t) n) r m a e is
arg_size s (Binary o b c) n a r m e is = one_size (type_of s (Binary o b c)) (value_of s (Binary o b c) n) r m a e is
arg_size s (Named name) n a r m e is = go (variable_of s.unit name) e is
  where
    go : (o : Option (ℕ × Variable)) → named_arg s name o ≡ Some (r, m) → ◌≡◌ {A = Result Actual Fault} (Ok (named_actual s name o)) (Ok a) → IsOfSize m a
    go None e' is' = let t = the_type (named_type s name None) r m e' in subst (IsOfSize m) (the_actual (named_actual s name None) a is') (omega (arith, t.1))
    go (Some v) e' is' =
        let both : (sort_of_variable v.1, v.1.words) ≡ (r, m) = same_pair (sort_of_variable v.1, v.1.words) (r, m) e' in
        subst (λ (q : FieldKind × ℕ). IsOfSize q.1 a) both (subst (IsOfSize v.1.words) (the_actual (actual_at s v.1.kind (whole v.0 v.1)) a is') (span_size s v.1.kind (whole v.0 v.1)))
arg_size s (Ref name args) n a r m e is = go (reference_of s name) e is
  where
    go : (g : Reference) → ref_arg g ≡ Some (r, m) → ref_actual s g (numbers_of s args n) (value_of s (Ref name args) n) ≡ Ok a → IsOfSize m a
    go (Element i v) e' is' =
        let b = parts (numbers_of s args n) _ a is' in
        let c = parts (element_place v.bounds b.0) _ a b.2 in
        let both : (sort_of_variable v, 1) ≡ (r, m) = same_pair (sort_of_variable v, 1) (r, m) e' in
        subst (λ (q : FieldKind × ℕ). IsOfSize q.1 a) both (subst (IsOfSize 1) (the_actual (actual_at s v.kind (single i c.0)) a c.2) (span_size s v.kind (single i c.0)))
    go (Call k u) e' is' = one_size (ref_type (Call k u)) (value_of s (Ref name args) n) r m a e' is'
    go (Built f) e' is' = one_size (ref_type (Built f)) (value_of s (Ref name args) n) r m a e' is'
    go Unknown e' is' = absurd (cc e')

-- a variable has few words, and so has what has a type
one_few : (o : Option FieldKind) (r : FieldKind) (m : ℕ) → alone o ≡ Some (r, m) → m ≤ 65536
one_few o r m e = let t = the_type o r m e in omega (arith, t.1)

VariablesAreFew : Scope → Type 0
VariablesAreFew s = (name : List ℕ) (j : ℕ) (v : Variable) → variable_of s.unit name ≡ Some (j, v) → v.words ≤ 65536

arg_few : (s : Scope) (t : Tree) (r : FieldKind) (m : ℕ) → VariablesAreFew s → arg_type s t ≡ Some (r, m) → m ≤ 65536
unfolding VariablesAreFew
arg_few s (Number k) r m few e = one_few (Some Integer) r m e
arg_few s (Truth b) r m few e = one_few (Some Logical) r m e
arg_few s (Paren t) r m few e = one_few (type_of s t) r m e
arg_few s (Signed o t) r m few e = one_few (Some Integer) r m e
arg_few s (Not t) r m few e = one_few (Some Logical) r m e
arg_few s (Binary o b c) r m few e = one_few (type_of s (Binary o b c)) r m e
arg_few s (Named name) r m few e = go (variable_of s.unit name) (few name) e
  where
    go : (o : Option (ℕ × Variable)) → ((j : ℕ) (v : Variable) → o ≡ Some (j, v) → v.words ≤ 65536) → named_arg s name o ≡ Some (r, m) → m ≤ 65536
    go None small e' = one_few (named_type s name None) r m e'
    go (Some v) small e' = let both : (sort_of_variable v.1, v.1.words) ≡ (r, m) = same_pair (sort_of_variable v.1, v.1.words) (r, m) e' in omega (arith, ap (λ (q : FieldKind × ℕ). q.1) both, small v.0 v.1 refl)
arg_few s (Ref name args) r m few e = go (reference_of s name) e
  where
    go : (g : Reference) → ref_arg g ≡ Some (r, m) → m ≤ 65536
    go (Element i v) e' = let both : (sort_of_variable v, 1) ≡ (r, m) = same_pair (sort_of_variable v, 1) (r, m) e' in omega (arith, ap (λ (q : FieldKind × ℕ). q.1) both)
    go (Call k u) e' = one_few (ref_type (Call k u)) r m e'
    go (Built f) e' = one_few (ref_type (Built f)) r m e'
    go Unknown e' = absurd (cc e')

larger : (m n : ℕ) (a : Actual) → m ≤ n → IsOfSize m a → IsOfSize n a
larger m n (Given ws back) few h = omega (arith, few, h)
larger m n (Taken x) few h = omega (arith, few, h)

-- the words for a field: those of its type, or those of any item
field_room : (size : Option ℕ) → List Bound → ℕ
field_room size bounds = own_words size bounds + 65536 * one_sized size

item_few : (s : Scope) (size : Option ℕ) (bs : List Bound) (t : Tree) (k : ℕ) (a : Actual) (r : FieldKind) → VariablesAreFew s → ItemIsOf s r size bs t → actual_of s t k ≡ Ok a → IsOfSize (field_room size bs) a
unfolding field_room own_words
item_few s None bs t k a r few is e = larger (elements_in bs) (elements_in bs + 65536 * 0) a (omega arith) (arg_size s t k a r (elements_in bs) is e)
item_few s (Some place) bs t k a r few is e = larger is.0 (0 + 65536 * 1) a (omega (arith, arg_few s t r is.0 few is.1)) (arg_size s t k a r is.0 is.1 e)

-- and no more when it is cut
cut_size : (m : ℕ) (z : ℤ) (a i : Actual) → IsOfSize m a → cut_to z a ≡ Ok i → IsOfSize m i
cut_size m (pos n) (Given ws back) i h e =
    let c = chosen (nat_le n (length ws)) (Given (take n ws) back) i e in
    subst (IsOfSize m) c.1 (omega (arith, length-take n ws, h))
cut_size m (pos n) (Taken x) i h e =
    let c = chosen (nat_le n x.count) (Taken (record x { count = n })) i e in
    subst (IsOfSize m) c.1 (omega (arith, enough n x.count c.0, h))
cut_size m (negsuc n) a i h e = absurd (cc e)

item_cut_size : (m : ℕ) (before : List Actual) (size : Option ℕ) (a i : Actual) → IsOfSize m a → cut_item before size a ≡ Ok i → IsOfSize m i
item_cut_size m before None a i h e = subst (IsOfSize m) (the_actual a i e) h
item_cut_size m before (Some place) a i h e = cut_size m (size_in (slice_get before place)) a i h e

-- ---- a message

exchanged_all : (vs : List Item) (i k : ℕ) (ps : List (Option PortValue)) → length (exchange_all vs i k ps).1 ≡ length ps
exchanged_all vs i k [] = refl
exchanged_all vs i k (p ∷ ps) = ap suc (exchanged_all (exchange vs i k p).0 i (suc k) ps)

taken_all : (vs : List Item) (x : Span) → length (taken_ports vs x).1 ≡ x.count
taken_all vs x = exchanged_all vs x.variable x.first (replicate x.count None) ∙ length-replicate x.count None

item_size : (vs : List Item) (a : Actual) (m : ℕ) (rest : Message) → IsOfSize m a → message_words ((item_from vs a).1 ∷ rest) ≤ m + message_words rest
item_size vs (Given ws back) m rest h = omega (arith, h)
item_size vs (Taken x) m rest h = omega (arith, h, taken_all vs x)

the_list : (a b : List Actual) → ◌≡◌ {A = Result (List Actual) Fault} (Ok a) (Ok b) → a ≡ b
the_list a b e = cc

items_words : (s : Scope) (before : List Actual) (t : PortFields) (ts : Trees) (k : ℕ) (items cut : List Actual) → VariablesAreFew s → ItemsAreOf s t ts → actuals_of s ts k ≡ Ok items → cut_items before t items ≡ Ok cut
    → (vs : List Item) → message_words (message_from vs cut).1 ≤ type_words t + 65536 * sized_fields t
unfolding type_words field_room
items_words s before NoFields NoTrees k items cut few are is e vs =
    let none : items ≡ cut = the_list items cut e in
    subst (λ (cut : List Actual). message_words (message_from vs cut).1 ≤ 0) (the_list [] items is ∙ none) (omega arith)
items_words s before NoFields (More t ts) k items cut few are is e vs = absurd are
items_words s before (FieldThen r name bounds rest) NoTrees k items cut few are is e vs = absurd are
items_words s before (FieldThen r name bounds rest) (More t ts) k items cut few are is e vs =
    let a = parts (actual_of s t k) _ items is in
    let more = parts (actuals_of s ts (k + refs_in s t)) _ items a.2 in
    let e' = subst (λ (items : List Actual). cut_items before (FieldThen r name bounds rest) items ≡ Ok cut) (sym (the_list (a.0 ∷ more.0) items more.2)) e in
    let i = parts (cut_item before (sizing_place bounds) a.0) _ cut e' in
    let js = parts (cut_items (before ++ i.0 ∷ []) rest more.0) _ cut i.2 in
    let size = item_cut_size (field_room (sizing_place bounds) bounds) before (sizing_place bounds) a.0 i.0 (item_few s (sizing_place bounds) bounds t k a.0 r few are.0 a.1) i.1 in
    let one = item_size vs i.0 (field_room (sizing_place bounds) bounds) (message_from (item_from vs i.0).0 js.0).1 size in
    let others = items_words s (before ++ i.0 ∷ []) rest ts (k + refs_in s t) more.0 js.0 few are.1 more.1 js.1 (item_from vs i.0).0 in
    subst (λ (cut : List Actual). message_words (message_from vs cut).1 ≤ (own_words (sizing_place bounds) bounds + type_words rest) + 65536 * (one_sized (sizing_place bounds) + sized_fields rest))
    (the_list (i.0 ∷ js.0) cut js.2) (omega (arith, one, others))

few_there : (p : Program) (n : ℕ) (u : ProgramUnit) (s : Scope) → unit_at p n ≡ Some u → s.unit ≡ u → VariablesAreFew s
unfolding VariablesAreFew
few_there p n u s is same name j v e = sizes.variable_small p n s.unit j v (is ∙ ap Some (sym same)) (variable_there s.unit name j v e)

-- what is sent through an outport of a unit
pub sent_small : (p : Program) (n : ℕ) (u : ProgramUnit) (name : List ℕ) (t : PortFields) → unit_at p n ≡ Some u → sort_of u name ≡ Some (Out t) → (s : Scope) → s.unit ≡ u → (ts : Trees) (k : ℕ) (items cut : List Actual) → ItemsAreOf s t ts
    → actuals_of s ts k ≡ Ok items → cut_items [] t items ≡ Ok cut → (vs : List Item) → message_words (message_from vs cut).1 ≤ 65536 + 65536 * sized_fields t
sent_small p n u name t is e s same ts k items cut are evaluated cuts vs = omega (arith, items_words s [] t ts k items cut (few_there p n u s is same) are evaluated cuts vs, port_small p n u name t is e)

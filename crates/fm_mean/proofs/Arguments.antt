-- Arguments and items come to what the types of their trees say.
use Rattle.std.proofs.Common.{◌≡◌, ℕ, zero, suc, ℤ, ◌+◌, ◌≤◌, Bool, true, false, cond, Option, Some, None, option_map, List, [], ◌∷◌, length, take, drop, slice_get, Result, Ok, refl, sym, ap, ◌∙◌, subst, arith}
use Rattle.std.specs.Option.{ok_or}
use Rattle.std.specs.FinMap.{get}
use Rattle.fm_base.specs.declared.fault.Fault.{Fault}
use Rattle.fm_base.specs.declared.fault.Fault.TheVariants.{Subscript}
use Rattle.fm_base.specs.Channels.{Item, Words, Ports}
use Rattle.fm_tree.specs.Tree.{Tree, Trees, NoTrees, More, Number, Truth, Named, Ref, Paren, Signed, Not, Binary}
use Rattle.fm_tree.specs.PortFields.{PortFields, FieldKind, NoFields, FieldThen, Integer, Logical, In, Out}
use Rattle.fm_tree.specs.PortReading as reading
use Rattle.fm_tree.specs.declared.port_type.Bound.{Bound}
use Rattle.fm_tree.specs.declared.port_type.Kind.{Kind}
use Rattle.fm_tree.specs.declared.port_type.Kind.TheVariants as kind
use Rattle.fm_values.specs.declared.value.Value.{Value}
use Rattle.fm_values.specs.declared.intrinsic.Intrinsic.{Intrinsic}
use Rattle.fm_values.specs.Values.{word_of}
use Rattle.fm_values.specs.Intrinsics.{intrinsic_named}
use Rattle.fm_values.specs.Places as array
use Rattle.fm_values.specs.Places.{element_place, size}
use Rattle.fm_values.proofs.PlaceLaws.{place_below}
use Rattle.fm_symbols.specs.Headings.{is_function}
use Rattle.fm_symbols.specs.Context.{symbols_of, symbol_place}
use Rattle.fm_symbols.specs.declared.names.Variable.{Variable}
use Rattle.fm_rules.specs.PortTypes.{sizing_place}
use Rattle.fm_net.specs.Typed.{AllIn}
use Rattle.fm_mean.specs.Names.{ProgramUnit, unit_named, kind_of, variable_at, variable_of}
use Rattle.fm_mean.specs.declared.place.Actual.{Actual}
use Rattle.fm_mean.specs.declared.place.Span.{Span}
use Rattle.fm_mean.specs.declared.place.Actual.TheVariants.{Given, Taken}
use Rattle.fm_mean.specs.Places.{items_at, words_in}
use Rattle.fm_mean.specs.Evaluate.{Scope, Reference, Element, Call, Built, Unknown, is_array, function_by, intrinsic_or, array_or, reference_of, refs_in, value_of, numbers_of, named_by, value_alone, named_actual, ref_actual, actual_at, actual_of, actuals_of, whole, single}
use Rattle.fm_mean.specs.Fits.{sort_of_variable, elements_in, elements_given, actual_length, Types, IsBit, ItemFits, ValuesFit, sort_at, ArgFits, ItemsFit}
use Rattle.fm_mean.specs.ValueTypes.{IsOf, named_type, ref_type, type_of, alone, named_arg, ref_arg, arg_type, ItemIsOf, ItemsAreOf, AreSized}
use Rattle.fm_mean.proofs.Sorts.{parts}
use Rattle.fm_mean.proofs.Sound.{sound, logical_bit, by_name}

-- ---- an element that is found lies in its array

element_inside : (v : Variable) (ks : List ℤ) (k : ℕ) → v.words ≡ size v.bounds → element_place v.bounds ks ≡ Ok k → k + 1 ≤ v.words
element_inside v ks k sized e = go (array.place_of v.bounds ks) refl e
  where
    the_number : (a b : ℕ) → ◌≡◌ {A = Result ℕ Fault} (Ok a) (Ok b) → a ≡ b
    the_number a b e = cc

    go : (o : Option ℕ) → array.place_of v.bounds ks ≡ o → ok_or {E = Fault} o Subscript ≡ Ok k → k + 1 ≤ v.words
    go None is e' = absurd (cc e')
    go (Some n) is e' = let same : n ≡ k = the_number n k e' in omega (arith, place_below v.bounds ks n is, same, sized)

-- ---- variables

pub same_pair : {A B : Type 0} (a b : A × B) → Some a ≡ Some b → a ≡ b
same_pair a b e = cc

variable_at_there : (vs : List Variable) (o : Option ℕ) (j : ℕ) (v : Variable) → variable_at vs o ≡ Some (j, v) → slice_get vs j ≡ Some v
variable_at_there vs None j v e = absurd (cc)
variable_at_there vs (Some i) j v e = go (slice_get vs i) refl e
  where
    go : (o : Option Variable) → slice_get vs i ≡ o → option_map {U = ℕ × Variable} (λ v. (i, v)) o ≡ Some (j, v) → slice_get vs j ≡ Some v
    go None is e' = absurd (cc e')
    go (Some w) is e' = subst (λ (x : ℕ × Variable). slice_get vs x.0 ≡ Some x.1) (same_pair (i, w) (j, v) e') is

pub variable_there : (u : ProgramUnit) (name : List ℕ) (j : ℕ) (v : Variable) → variable_of u name ≡ Some (j, v) → slice_get u.names.variables j ≡ Some v
variable_there u name j v e = variable_at_there u.names.variables (symbol_place (get (symbols_of u.names) name)) j v e

function_no_element : (o : Option (ℕ × ProgramUnit)) (i : ℕ) (v : Variable) → function_by o ≡ Element i v → ⊥
function_no_element None i v e = absurd (cc e)
function_no_element (Some u) i v e = go (is_function (kind_of u.1)) e
  where
    go : (b : Bool) → cond b (Call u.0 u.1) Unknown ≡ Element i v → ⊥
    go true e' = absurd (cc e')
    go false e' = absurd (cc e')

intrinsic_no_element : (f : Option Intrinsic) (o : Option (ℕ × ProgramUnit)) (i : ℕ) (v : Variable) → intrinsic_or f (function_by o) ≡ Element i v → ⊥
intrinsic_no_element None o i v e = function_no_element o i v e
intrinsic_no_element (Some f) o i v e = absurd (cc e)

array_is : (o : Option (ℕ × Variable)) (other : Reference) (i : ℕ) (v : Variable) → (other ≡ Element i v → ⊥) → array_or o other ≡ Element i v → o ≡ Some (i, v)
array_is None other i v none h = absurd (none h)
array_is (Some w) other i v none h = pick (is_array w.1.bounds) h
  where
    pick : (b : Bool) → cond b (Element w.0 w.1) other ≡ Element i v → Some w ≡ Some (i, v)
    pick true h' = let number : w.0 ≡ i = cc h' in let same : w.1 ≡ v = cc h' in λ k. Some (number k, same k)
    pick false h' = absurd (none h')

pub element_there : (s : Scope) (name : List ℕ) (i : ℕ) (v : Variable) → reference_of s name ≡ Element i v → slice_get s.unit.names.variables i ≡ Some v
element_there s name i v h =
    let f = intrinsic_or (intrinsic_named name) (function_by (unit_named s.program name)) in
    variable_there s.unit name i v (array_is (variable_of s.unit name) f i v (λ e. intrinsic_no_element (intrinsic_named name) (unit_named s.program name) i v e) h)

sized_at : (vars : List Variable) (i : ℕ) (v : Variable) → AreSized vars → slice_get vars i ≡ Some v → v.words ≡ size v.bounds
sized_at [] i v all is = absurd (cc is)
sized_at (w ∷ ws) zero v all is = let same : w ≡ v = the_one w v is in subst (λ (v : Variable). v.words ≡ size v.bounds) same all.0
  where
    the_one : (a b : Variable) → Some a ≡ Some b → a ≡ b
    the_one a b e = cc
sized_at (w ∷ ws) (suc i) v all is = sized_at ws i v all.1 is

sort_there : (vars : List Variable) (i : ℕ) (v : Variable) → slice_get vars i ≡ Some v → sort_at vars i ≡ Some (sort_of_variable v)
sort_there [] i v is = absurd (cc is)
sort_there (w ∷ ws) zero v is = ap (option_map (λ (v : Variable). (sort_of_variable v))) is
sort_there (w ∷ ws) (suc i) v is = sort_there ws i v is

item_there : (types : Types) (vars : List Variable) (vs : List Item) (i : ℕ) (v : Variable) → ValuesFit types vars vs → slice_get vars i ≡ Some v → ItemFits types (sort_of_variable v) v.words (items_at vs i)
item_there types [] vs i v fits is = absurd (cc is)
item_there types (w ∷ ws) [] i v fits is = absurd fits
item_there types (w ∷ ws) (x ∷ xs) zero v fits is = let same : w ≡ v = the_one w v is in subst (λ (v : Variable). ItemFits types (sort_of_variable v) v.words x) same fits.0
  where
    the_one : (a b : Variable) → Some a ≡ Some b → a ≡ b
    the_one a b e = cc
item_there types (w ∷ ws) (x ∷ xs) (suc i) v fits is = item_there types ws xs i v fits.1 is

-- ---- the words of a span

taken_length : (ws : List ℤ) (k n : ℕ) → k + n ≤ length ws → length (take n (drop k ws)) ≡ n
taken_length ws zero zero h = refl
taken_length [] zero (suc n) h = absurd (omega arith)
taken_length (w ∷ ws) zero (suc n) h = ap suc (taken_length ws zero n (omega arith))
taken_length [] (suc k) n h = absurd (omega arith)
taken_length (w ∷ ws) (suc k) n h = taken_length ws k n (omega arith)

taken_bits : (ws : List ℤ) (k n : ℕ) → AllIn IsBit ws → AllIn IsBit (take n (drop k ws))
taken_bits ws zero zero all = tt
taken_bits [] zero (suc n) all = tt
taken_bits (w ∷ ws) zero (suc n) all = (all.0, taken_bits ws zero n all.1)
taken_bits [] (suc k) zero all = tt
taken_bits [] (suc k) (suc n) all = tt
taken_bits (w ∷ ws) (suc k) n all = taken_bits ws k n all.1

span_fits : (types : Types) (s : Scope) (x : Span) (k : Kind) (m : ℕ) (v : Item) → items_at s.values x.variable ≡ v → ItemFits types (reading.kind_of k) m v → sort_at s.unit.names.variables x.variable ≡ Some (reading.kind_of k) → x.first + x.count ≤ m → ArgFits s.unit.names.variables (reading.kind_of k) x.count (actual_at s k x)
span_fits types s x kind.Integer m (Words ws) is h sort most = ap (λ v. length (take x.count (drop x.first (words_in v)))) is ∙ taken_length ws x.first x.count (omega (arith, h))
span_fits types s x kind.Logical m (Words ws) is h sort most =
    (ap (λ v. length (take x.count (drop x.first (words_in v)))) is ∙ taken_length ws x.first x.count (omega (arith, h.0)), subst (λ v. AllIn IsBit (take x.count (drop x.first (words_in v)))) (sym is) (taken_bits ws x.first x.count h.1))
span_fits types s x (kind.In t) m (Ports ps) is h sort most = (sort, refl)
span_fits types s x (kind.Out t) m (Ports ps) is h sort most = (sort, refl)
span_fits types s x kind.Integer m (Ports ps) is h sort most = absurd h
span_fits types s x kind.Logical m (Ports ps) is h sort most = absurd h
span_fits types s x (kind.In t) m (Words ws) is h sort most = absurd h
span_fits types s x (kind.Out t) m (Words ws) is h sort most = absurd h

-- ---- arguments

pub the_actual : (a b : Actual) → ◌≡◌ {A = Result Actual Fault} (Ok a) (Ok b) → a ≡ b
the_actual a b e = cc

word_fits : (vars : List Variable) (r : FieldKind) (x : Value) (back : Option Span) → IsOf r x → ArgFits vars r 1 (Given (word_of x ∷ []) back)
word_fits vars Integer x back h = refl
word_fits vars Logical x back h = (refl, (logical_bit x h, tt))
word_fits vars (In t) x back h = absurd h
word_fits vars (Out t) x back h = absurd h

pub the_type : (o : Option FieldKind) (r : FieldKind) (n : ℕ) → alone o ≡ Some (r, n) → (o ≡ Some r) × (1 ≡ n)
the_type None r n e = absurd (cc e)
the_type (Some q) r n e = let both : (q, 1) ≡ (r, n) = same_pair (q, 1) (r, n) e in (ap (λ x. Some x.0) both, ap (λ x. x.1) both)

alone_fits : (vars : List Variable) (o : Option FieldKind) (v : Result Value Fault) (r : FieldKind) (n : ℕ) (a : Actual) → ((x : Value) → o ≡ Some r → v ≡ Ok x → IsOf r x) → alone o ≡ Some (r, n) → value_alone v ≡ Ok a → ArgFits vars r n a
alone_fits vars o v r n a known e is =
    let t = the_type o r n e in
    let x = parts v _ a is in
    subst (λ n. ArgFits vars r n a) t.1 (subst (ArgFits vars r 1) (the_actual (Given (word_of x.0 ∷ []) None) a x.2) (word_fits vars r x.0 None (known x.0 t.0 x.1)))

pub arg_fits : (types : Types) (s : Scope) (t : Tree) (n : ℕ) (a : Actual) (r : FieldKind) (m : ℕ) → AreSized s.unit.names.variables → ValuesFit types s.unit.names.variables s.values → arg_type s t ≡ Some (r, m) → actual_of s t n ≡ Ok a → ArgFits s.unit.names.variables r m a
arg_fits types s (Number k) n a r m sized fits e is = alone_fits s.unit.names.variables (Some Integer) (value_of s (Number k) n) r m a (λ x o v. sound s (Number k) n x r o v) e is
arg_fits types s (Truth b) n a r m sized fits e is = alone_fits s.unit.names.variables (Some Logical) (value_of s (Truth b) n) r m a (λ x o v. sound s (Truth b) n x r o v) e is
arg_fits types s (Paren t) n a r m sized fits e is = alone_fits s.unit.names.variables (type_of s t) (value_of s (Paren t) n) r m a (λ x o v. sound s (Paren t) n x r o v) e is
arg_fits types s (Signed o t) n a r m sized fits e is = alone_fits s.unit.names.variables (Some Integer) (value_of s (Signed o t) n) r m a (λ x k v. sound s (Signed o t) n x r k v) e is
arg_fits types s (Not t) n a r m sized fits e is = alone_fits s.unit.names.variables (Some Logical) (value_of s (Not t) n) r m a (λ x o v. sound s (Not t) n x r o v) e is
arg_fits types s (Binary o b c) n a r m sized fits e is = alone_fits s.unit.names.variables (type_of s (Binary o b c)) (value_of s (Binary o b c) n) r m a (λ x k v. sound s (Binary o b c) n x r k v) e is
arg_fits types s (Named name) n a r m sized fits e is = go (variable_of s.unit name) (λ j v h. variable_there s.unit name j v h) e is
  where
    go : (o : Option (ℕ × Variable)) → ((j : ℕ) (v : Variable) → o ≡ Some (j, v) → slice_get s.unit.names.variables j ≡ Some v) → named_arg s name o ≡ Some (r, m) → ◌≡◌ {A = Result Actual Fault} (Ok (named_actual s name o)) (Ok a) → ArgFits s.unit.names.variables r m a
    go None there e' is' =
        let t = the_type (named_type s name None) r m e' in
        subst (λ m. ArgFits s.unit.names.variables r m a) t.1 (subst (ArgFits s.unit.names.variables r 1) (the_actual (named_actual s name None) a is') (word_fits s.unit.names.variables r (named_by s name None) None (by_name s name None r t.0)))
    go (Some v) there e' is' =
        let both : ((sort_of_variable v.1), v.1.words) ≡ (r, m) = same_pair ((sort_of_variable v.1), v.1.words) (r, m) e' in
        let at : slice_get s.unit.names.variables v.0 ≡ Some v.1 = there v.0 v.1 refl in
        subst (λ (q : FieldKind × ℕ). ArgFits s.unit.names.variables q.0 q.1 a) both
        (subst (ArgFits s.unit.names.variables (sort_of_variable v.1) v.1.words) (the_actual (actual_at s v.1.kind (whole v.0 v.1)) a is')
        (span_fits types s (whole v.0 v.1) v.1.kind v.1.words (items_at s.values v.0) refl (item_there types s.unit.names.variables s.values v.0 v.1 fits at) (sort_there s.unit.names.variables v.0 v.1 at) (omega arith)))
arg_fits types s (Ref name args) n a r m sized fits e is = go (reference_of s name) (λ i v h. element_there s name i v h) refl e is
  where
    go : (g : Reference) → ((i : ℕ) (v : Variable) → g ≡ Element i v → slice_get s.unit.names.variables i ≡ Some v) → reference_of s name ≡ g → ref_arg g ≡ Some (r, m) → ref_actual s g (numbers_of s args n) (value_of s (Ref name args) n) ≡ Ok a → ArgFits s.unit.names.variables r m a
    go (Element i v) at same e' is' =
        let here : slice_get s.unit.names.variables i ≡ Some v = at i v refl in
        let b = parts (numbers_of s args n) _ a is' in
        let c = parts (element_place v.bounds b.0) _ a b.2 in
        let both : ((sort_of_variable v), 1) ≡ (r, m) = same_pair ((sort_of_variable v), 1) (r, m) e' in
        subst (λ (q : FieldKind × ℕ). ArgFits s.unit.names.variables q.0 q.1 a) both
        (subst (ArgFits s.unit.names.variables (sort_of_variable v) 1) (the_actual (actual_at s v.kind (single i c.0)) a c.2)
        (span_fits types s (single i c.0) v.kind v.words (items_at s.values i) refl (item_there types s.unit.names.variables s.values i v fits here) (sort_there s.unit.names.variables i v here) (element_inside v b.0 c.0 (sized_at s.unit.names.variables i v sized here) c.1)))
    go (Call k u) at same e' is' = alone_fits s.unit.names.variables (ref_type (Call k u)) (value_of s (Ref name args) n) r m a (λ x o v. sound s (Ref name args) n x r (ap ref_type same ∙ o) v) e' is'
    go (Built f) at same e' is' = alone_fits s.unit.names.variables (ref_type (Built f)) (value_of s (Ref name args) n) r m a (λ x o v. sound s (Ref name args) n x r (ap ref_type same ∙ o) v) e' is'
    go Unknown at same e' is' = absurd (cc e')

-- how many elements an argument of a type has
as_many : (vars : List Variable) (r : FieldKind) (m : ℕ) (a : Actual) → ArgFits vars r m a → m ≡ actual_length a
as_many vars Integer m (Given ws back) h = sym h
as_many vars Logical m (Given ws back) h = sym h.0
as_many vars (In t) m (Taken x) h = sym h.1
as_many vars (Out t) m (Taken x) h = sym h.1
as_many vars Integer m (Taken x) h = absurd h
as_many vars Logical m (Taken x) h = absurd h
as_many vars (In t) m (Given ws back) h = absurd h
as_many vars (Out t) m (Given ws back) h = absurd h

one_fits : (types : Types) (s : Scope) (t : Tree) (n : ℕ) (a : Actual) (r : FieldKind) (size : Option ℕ) (bs : List Bound) → AreSized s.unit.names.variables → ValuesFit types s.unit.names.variables s.values → ItemIsOf s r size bs t
    → actual_of s t n ≡ Ok a → ArgFits s.unit.names.variables r (elements_given size bs a) a
one_fits types s t n a r None bs sized fits e is = arg_fits types s t n a r (elements_in bs) sized fits e is
one_fits types s t n a r (Some place) bs sized fits e is =
    let h = arg_fits types s t n a r e.0 sized fits e.1 is in
    subst (λ m. ArgFits s.unit.names.variables r m a) (as_many s.unit.names.variables r e.0 a h) h

-- so the items of a SEND fit the fields
pub items_fit : (types : Types) (s : Scope) (t : PortFields) (ts : Trees) (n : ℕ) (args : List Actual) → AreSized s.unit.names.variables → ValuesFit types s.unit.names.variables s.values → ItemsAreOf s t ts → actuals_of s ts n ≡ Ok args → ItemsFit s.unit.names.variables t args
items_fit types s NoFields NoTrees n args sized fits e is = subst (ItemsFit s.unit.names.variables NoFields) (the_list [] args is) tt
  where
    the_list : (a b : List Actual) → ◌≡◌ {A = Result (List Actual) Fault} (Ok a) (Ok b) → a ≡ b
    the_list a b e = cc
items_fit types s NoFields (More t ts) n args sized fits e is = absurd e
items_fit types s (FieldThen r b m rest) NoTrees n args sized fits e is = absurd e
items_fit types s (FieldThen r b m rest) (More t ts) n args sized fits e is =
    let a = parts (actual_of s t n) _ args is in
    let more = parts (actuals_of s ts (n + refs_in s t)) _ args a.2 in
    subst (ItemsFit s.unit.names.variables (FieldThen r b m rest)) (the_list (a.0 ∷ more.0) args more.2)
    (one_fits types s t n a.0 r (sizing_place m) m sized fits e.0 a.1, items_fit types s rest ts (n + refs_in s t) more.0 sized fits e.1 more.1)
  where
    the_list : (a b : List Actual) → ◌≡◌ {A = Result (List Actual) Fault} (Ok a) (Ok b) → a ≡ b
    the_list a b e = cc

-- The items of a message that fit its fields by the rules fit them in the meaning.
use Rattle.std.proofs.Common.{◌≡◌, ℕ, pos, Bool, true, false, ◌||◌, not, Option, Some, None, List, [], ◌∷◌, ◌++◌, map, slice_get, is_some, refl, sym, ap, ◌∙◌, subst}
use Rattle.std.specs.Cmp.{first_so, second_so}
use Rattle.std.specs.List.{flat_map, list_any}
use Rattle.std.specs.Option.{option_eq}
use Rattle.std.specs.Ordering.{int_eq}
use Rattle.std.proofs.lemmas.Bool.Decides.{Decides-int_eq}
use Rattle.fm_values.specs.Trips.{natural}
use Rattle.fm_tree.specs.Same.{same_fields, same_kind, same_fields_decides}
use Rattle.fm_tree.specs.Tree.{Tree, Number, Truth, Named, Ref, Paren, Signed, Not, Binary, trees_from}
use Rattle.fm_tree.specs.PortFields.{PortFields, FieldKind, NoFields, FieldThen, Integer, Logical, In, Out}
use Rattle.fm_tree.specs.PortReading as reading
use Rattle.fm_tree.specs.declared.port_type.Bound.{Bound}
use Rattle.fm_tree.specs.declared.port_type.Kind.{Kind}
use Rattle.fm_tree.specs.declared.port_type.Kind.TheVariants as kind
use Rattle.fm_tree.specs.declared.statement.Var.{Var}
use Rattle.fm_symbols.specs.Context.{scope_of}
use Rattle.fm_symbols.specs.declared.context.Context.{Context}
use Rattle.fm_symbols.specs.declared.names.Variable.{Variable}
use Rattle.fm_symbols.specs.declared.symbol.Direction.TheVariants as direction
use Rattle.fm_symbols.specs.declared.symbol.Scalar.{Scalar}
use Rattle.fm_symbols.specs.declared.symbol.Scalar.TheVariants as scalar
use Rattle.fm_rules.specs.declared.flags.Flags.{Flags}
use Rattle.fm_rules.specs.declared.typing.ExprType.{ExprType}
use Rattle.fm_rules.specs.declared.typing.ExprType.TheVariants.{Value, Array, Port, Ports, Function, Nothing}
use Rattle.fm_rules.specs.Expressions.{judged}
use Rattle.fm_rules.specs.VariableTypes.{target_judged, variable_judged}
use Rattle.fm_rules.specs.TypeStatements.{in_any}
use Rattle.fm_rules.specs.JudgedStatements as ports
use Rattle.fm_rules.specs.PortFitting.{goes, is_port_to, lacks_port, lacks_ports, message_in, message_of, port_variable, messages_differ, ports_differ, is_one_port, is_scalar_kind, is_scalar, number_in, has_elements, has_room, is_kind_of, is_array_in, fits_field, fit_fields}
use Rattle.fm_rules.specs.PortTypes.{sizing_place}
use Rattle.fm_net.specs.Typed.{AllIn}
use Rattle.fm_mean.specs.Names.{ProgramUnit}
use Rattle.fm_mean.specs.Evaluate.{Scope}
use Rattle.fm_mean.specs.Fits.{sort_of_variable, upper_in, elements_in}
use Rattle.fm_mean.specs.Typing.{sort_of, VarsFit}
use Rattle.fm_mean.specs.ValueTypes.{arg_type, ItemIsOf, ItemsAreOf}
use Rattle.fm_mean.proofs.NamedTypes.{field_kind}
use Rattle.fm_mean.proofs.Unflagged.{IsUnflagged, left_unflagged, right_unflagged}
use Rattle.fm_mean.proofs.JudgedArguments.{ArgIs}
use Rattle.fm_mean.proofs.JudgedPlaces.{PlaceIs, PortIs}

-- ---- lists

-- nothing is broken in one of a list
pub all_unflagged : {X : Type 0} (g : X → Flags) (xs : List X) → IsUnflagged (in_any g xs) → AllIn (λ x. IsUnflagged (g x)) xs
all_unflagged g [] h = tt
all_unflagged g (x ∷ xs) h = (left_unflagged (g x) (in_any g xs) h, all_unflagged g xs (right_unflagged (g x) (in_any g xs) h))

pub all_left : {X : Type 0} (P : X → Type 0) (xs ys : List X) → AllIn P (xs ++ ys) → AllIn P xs
all_left P [] ys h = tt
all_left P (x ∷ xs) ys h = (h.0, all_left P xs ys h.1)

pub all_right : {X : Type 0} (P : X → Type 0) (xs ys : List X) → AllIn P (xs ++ ys) → AllIn P ys
all_right P [] ys h = h
all_right P (x ∷ xs) ys h = all_right P xs ys h.1

pub all_parts : {X : Type 0} {Y : Type 0} (P : Y → Type 0) (f : X → List Y) (xs : List X) → AllIn P (flat_map f xs) → AllIn (λ x. AllIn P (f x)) xs
all_parts P f [] h = tt
all_parts P f (x ∷ xs) h = (all_left P (f x) (flat_map f xs) h, all_parts P f xs (all_right P (f x) (flat_map f xs) h))

pub none_true : {X : Type 0} (test : X → Bool) (xs : List X) → list_any test xs ≡ false → AllIn (λ x. test x ≡ false) xs
none_true test [] e = tt
none_true test (x ∷ xs) e = go (test x) refl e (λ h. none_true test xs h)
  where
    go : (b : Bool) → test x ≡ b → (b || list_any test xs) ≡ false → (list_any test xs ≡ false → AllIn (λ x. test x ≡ false) xs) → AllIn (λ x. test x ≡ false) (x ∷ xs)
    go true is h rest = absurd (cc h)
    go false is h rest = (is, rest h)

-- ---- kinds

pub same_type : (p q : PortFields) → same_fields p q ≡ true → p ≡ q
same_type p q e = (same_fields_decides p q).0 e

pub kind_alike : (k l : FieldKind) → same_kind k l ≡ true → k ≡ l
kind_alike Integer Integer e = refl
kind_alike Logical Logical e = refl
kind_alike (In p) (In q) e = ap In (same_type p q e)
kind_alike (Out p) (Out q) e = ap Out (same_type p q e)
kind_alike Integer Logical e = absurd (cc e)
kind_alike Integer (In q) e = absurd (cc e)
kind_alike Integer (Out q) e = absurd (cc e)
kind_alike Logical Integer e = absurd (cc e)
kind_alike Logical (In q) e = absurd (cc e)
kind_alike Logical (Out q) e = absurd (cc e)
kind_alike (In p) Integer e = absurd (cc e)
kind_alike (In p) Logical e = absurd (cc e)
kind_alike (In p) (Out q) e = absurd (cc e)
kind_alike (Out p) Integer e = absurd (cc e)
kind_alike (Out p) Logical e = absurd (cc e)
kind_alike (Out p) (In q) e = absurd (cc e)

scalar_kind : (q : Scalar) (k : FieldKind) → is_scalar_kind q k ≡ true → field_kind q ≡ k
scalar_kind scalar.Integer Integer e = refl
scalar_kind scalar.Integer Logical e = absurd (cc e)
scalar_kind scalar.Integer (In p) e = absurd (cc e)
scalar_kind scalar.Integer (Out p) e = absurd (cc e)
scalar_kind scalar.Logical Integer e = absurd (cc e)
scalar_kind scalar.Logical Logical e = refl
scalar_kind scalar.Logical (In p) e = absurd (cc e)
scalar_kind scalar.Logical (Out p) e = absurd (cc e)

pub one_element : (bs : List Bound) → is_scalar bs ≡ true → elements_in bs ≡ 1
one_element [] e = refl
one_element (b ∷ bs) e = absurd (cc)

upper_is : (t : Tree) (m : ℕ) → option_eq int_eq (number_in t) (Some (pos m)) ≡ true → upper_in t ≡ m
upper_is (Number n) m e = ap natural ((Decides-int_eq n (pos m)).0 e)
upper_is (Truth b) m e = absurd (cc e)
upper_is (Named name) m e = absurd (cc e)
upper_is (Ref name args) m e = absurd (cc e)
upper_is (Paren t) m e = absurd (cc e)
upper_is (Signed op t) m e = absurd (cc e)
upper_is (Not t) m e = absurd (cc e)
upper_is (Binary op a b) m e = absurd (cc e)

so_many : (m : ℕ) (bs : List Bound) → has_elements m bs ≡ true → elements_in bs ≡ m
so_many m [] e = absurd (cc)
so_many m (b ∷ bs) e = upper_is b.high m e

-- ---- one item

abbrev Pair : Type 0
Pair = FieldKind × ℕ

alike : (a b : FieldKind) (m n : ℕ) (o : Option Pair) → o ≡ Some (a, m) → a ≡ b → m ≡ n → o ≡ Some (b, n)
alike a b m n o is e h =
    let first : FieldKind → Option Pair = λ k. Some (k, m) in
    let second : ℕ → Option Pair = λ n. Some (b, n) in
    is ∙ ap first e ∙ ap second h

kind_there : (o : Option Variable) (v : Variable) (k : FieldKind) → o ≡ Some v → is_kind_of o k ≡ true → sort_of_variable v ≡ k
kind_there None v k is e = absurd (cc)
kind_there (Some w) v k is e = ap (λ (x : Variable). sort_of_variable x) (sym (the_variable w v is)) ∙ kind_alike (reading.kind_of w.kind) k e
  where
    the_variable : (a b : Variable) → Some a ≡ Some b → a ≡ b
    the_variable a b e = cc

array_there : (o : Option Variable) (v : Variable) (bs : List Bound) → o ≡ Some v → is_array_in o bs ≡ true → elements_in bs ≡ v.words
array_there None v bs is e = absurd (cc)
array_there (Some w) v bs is e = so_many w.words bs e ∙ ap (λ (x : Variable). x.words) (the_variable w v is)
  where
    the_variable : (a b : Variable) → Some a ≡ Some b → a ≡ b
    the_variable a b e = cc

-- of a field's type and number of elements, or of any number where the field is sized
abbrev pub IsPairOf : Option Pair → FieldKind → (size : Option ℕ) → List Bound → Type 0
IsPairOf o k None bs = o ≡ Some (k, elements_in bs)
IsPairOf o k (Some place) bs = (m : ℕ) × (o ≡ Some (k, m))

is_of : (o : Option Pair) (a k : FieldKind) (m : ℕ) (size : Option ℕ) (bs : List Bound) → o ≡ Some (a, m) → a ≡ k → (size ≡ None → elements_in bs ≡ m) → IsPairOf o k size bs
is_of o a k m None bs is same many = alike a k m (elements_in bs) o is same (sym (many refl))
is_of o a k m (Some place) bs is same many = (m, alike a k m m o is same refl)

array_room : (m : ℕ) (bs : List Bound) (size : Option ℕ) → sizing_place bs ≡ size → has_room m bs ≡ true → sizing_place bs ≡ None → elements_in bs ≡ m
array_room m bs None is e none = so_many m bs (subst (λ (o : Option ℕ). (is_some o || has_elements m bs) ≡ true) is e)
array_room m bs (Some place) is e none = absurd (cc (sym is ∙ none))

pub item_fits : (u : ProgramUnit) (t : ExprType) (o : Option Pair) (k : FieldKind) (bs : List Bound) → ArgIs u t o → (t ≡ Nothing → ⊥) → fits_field u.names t k bs ≡ true → IsPairOf o k (sizing_place bs) bs
item_fits u (Value q) o k bs h some e =
    is_of o (field_kind q) k 1 (sizing_place bs) bs h (scalar_kind q k (first_so (is_scalar_kind q k) (is_scalar bs) e)) (λ none. one_element bs (second_so (is_scalar_kind q k) (is_scalar bs) e))
item_fits u (Array q m) o k bs h some e =
    is_of o (field_kind q) k m (sizing_place bs) bs h (scalar_kind q k (first_so (is_scalar_kind q k) (has_room m bs) e)) (array_room m bs (sizing_place bs) refl (second_so (is_scalar_kind q k) (has_room m bs) e))
item_fits u (Port j) o k bs h some e =
    let w = slice_get u.names.variables j in
    is_of o (sort_of_variable h.0) k 1 (sizing_place bs) bs h.2 (kind_there w h.0 k h.1 (first_so (is_kind_of w k) (is_scalar bs) e)) (λ none. one_element bs (second_so (is_kind_of w k) (is_scalar bs) e))
item_fits u (Ports j) o k bs h some e =
    let w = slice_get u.names.variables j in
    is_of o (sort_of_variable h.0) k h.0.words (sizing_place bs) bs h.2 (kind_there w h.0 k h.1 (first_so (is_kind_of w k) (is_array_in w bs) e))
    (λ none. array_there w h.0 bs h.1 (second_so (is_kind_of w k) (is_array_in w bs) e))
item_fits u Function o k bs h some e = absurd (cc e)
item_fits u Nothing o k bs h some e = absurd (some refl)

pub place_fits : (u : ProgramUnit) (name : List ℕ) (t : ExprType) (k : FieldKind) (bs : List Bound) → PlaceIs u name t → (t ≡ Nothing → ⊥) → fits_field u.names t k bs ≡ true → sort_of u name ≡ Some k
place_fits u name (Value q) k bs h some e = h ∙ ap Some (scalar_kind q k (first_so (is_scalar_kind q k) (is_scalar bs) e))
place_fits u name (Array q m) k bs h some e = h ∙ ap Some (scalar_kind q k (first_so (is_scalar_kind q k) (has_room m bs) e))
place_fits u name (Port j) k bs h some e =
    let w = slice_get u.names.variables j in
    h.2 ∙ ap Some (kind_there w h.0 k h.1 (first_so (is_kind_of w k) (is_scalar bs) e))
place_fits u name (Ports j) k bs h some e =
    let w = slice_get u.names.variables j in
    h.2 ∙ ap Some (kind_there w h.0 k h.1 (first_so (is_kind_of w k) (is_array_in w bs) e))
place_fits u name Function k bs h some e = absurd (cc e)
place_fits u name Nothing k bs h some e = absurd (some refl)

-- ---- ports

goes_in : (k : Kind) → goes direction.In k ≡ true → (t : PortFields) × (k ≡ kind.In t)
goes_in (kind.In t) e = (t, refl)
goes_in (kind.Out t) e = absurd (cc e)
goes_in kind.Integer e = absurd (cc e)
goes_in kind.Logical e = absurd (cc e)

goes_out : (k : Kind) → goes direction.Out k ≡ true → (t : PortFields) × (k ≡ kind.Out t)
goes_out (kind.Out t) e = (t, refl)
goes_out (kind.In t) e = absurd (cc e)
goes_out kind.Integer e = absurd (cc e)
goes_out kind.Logical e = absurd (cc e)

not_not : (b : Bool) → not b ≡ false → b ≡ true
not_not true e = refl
not_not false e = absurd (cc e)

-- a port of a type
pub record IsPort (u : ProgramUnit) (name : List ℕ) (t : ExprType) (way : PortFields → FieldKind) : Type 0 where
  pub fields : PortFields
  pub sort : sort_of u name ≡ Some (way fields)
  pub message : message_of (port_variable u.names t) ≡ Some fields

in_port_at : (u : ProgramUnit) (name : List ℕ) (o : Option Variable) (v : Variable) → o ≡ Some v → sort_of u name ≡ Some (sort_of_variable v) → is_port_to direction.In o ≡ true → (t : PortFields) × (sort_of u name ≡ Some (In t)) × (message_of o ≡ Some t)
in_port_at u name None v is sort e = absurd (cc)
in_port_at u name (Some w) v is sort e =
    let way = goes_in w.kind e in
    (way.0, sort ∙ ap (λ (x : Variable). Some (sort_of_variable x)) (sym (the_variable w v is)) ∙ ap (λ (k : Kind). Some (reading.kind_of k)) way.1, ap message_in way.1)
  where
    the_variable : (a b : Variable) → Some a ≡ Some b → a ≡ b
    the_variable a b e = cc

out_port_at : (u : ProgramUnit) (name : List ℕ) (o : Option Variable) (v : Variable) → o ≡ Some v → sort_of u name ≡ Some (sort_of_variable v) → is_port_to direction.Out o ≡ true → (t : PortFields) × (sort_of u name ≡ Some (Out t)) × (message_of o ≡ Some t)
out_port_at u name None v is sort e = absurd (cc)
out_port_at u name (Some w) v is sort e =
    let way = goes_out w.kind e in
    (way.0, sort ∙ ap (λ (x : Variable). Some (sort_of_variable x)) (sym (the_variable w v is)) ∙ ap (λ (k : Kind). Some (reading.kind_of k)) way.1, ap message_in way.1)
  where
    the_variable : (a b : Variable) → Some a ≡ Some b → a ≡ b
    the_variable a b e = cc

pub inport_is : (u : ProgramUnit) (name : List ℕ) (t : ExprType) → PortIs u name t → (t ≡ Nothing → ⊥) → lacks_port direction.In u.names t ≡ false → IsPort u name t In
inport_is u name (Port k) h some e =
    let x = in_port_at u name (slice_get u.names.variables k) h.0 h.1 h.2 (not_not (is_port_to direction.In (slice_get u.names.variables k)) e) in
    record { fields = x.0; sort = x.1; message = x.2 }
inport_is u name (Ports k) h some e = absurd (cc e)
inport_is u name (Value q) h some e = absurd (cc e)
inport_is u name (Array q m) h some e = absurd (cc e)
inport_is u name Function h some e = absurd (cc e)
inport_is u name Nothing h some e = absurd (some refl)

pub outport_is : (u : ProgramUnit) (name : List ℕ) (t : ExprType) → PortIs u name t → (t ≡ Nothing → ⊥) → lacks_port direction.Out u.names t ≡ false → IsPort u name t Out
outport_is u name (Port k) h some e =
    let x = out_port_at u name (slice_get u.names.variables k) h.0 h.1 h.2 (not_not (is_port_to direction.Out (slice_get u.names.variables k)) e) in
    record { fields = x.0; sort = x.1; message = x.2 }
outport_is u name (Ports k) h some e = absurd (cc e)
outport_is u name (Value q) h some e = absurd (cc e)
outport_is u name (Array q m) h some e = absurd (cc e)
outport_is u name Function h some e = absurd (cc e)
outport_is u name Nothing h some e = absurd (some refl)

-- or an array of them
pub outports_are : (u : ProgramUnit) (name : List ℕ) (t : ExprType) → PortIs u name t → (t ≡ Nothing → ⊥) → lacks_ports direction.Out u.names t ≡ false → IsPort u name t Out
outports_are u name (Port k) h some e = outport_is u name (Port k) h some e
outports_are u name (Ports k) h some e =
    let x = out_port_at u name (slice_get u.names.variables k) h.0 h.1 h.2 (not_not (is_port_to direction.Out (slice_get u.names.variables k)) e) in
    record { fields = x.0; sort = x.1; message = x.2 }
outports_are u name (Value q) h some e = absurd (cc e)
outports_are u name (Array q m) h some e = absurd (cc e)
outports_are u name Function h some e = absurd (cc e)
outports_are u name Nothing h some e = absurd (some refl)

-- the messages of two ports are of one type
pub one_message : (a b : Option PortFields) (p q : PortFields) → a ≡ Some p → b ≡ Some q → messages_differ a b ≡ false → p ≡ q
one_message None b p q ea eb e = absurd (cc)
one_message (Some x) None p q ea eb e = absurd (cc)
one_message (Some x) (Some y) p q ea eb e = sym (the_type x p ea) ∙ same_type x y (not_not (same_fields x y) e) ∙ the_type y q eb
  where
    the_type : (a b : PortFields) → Some a ≡ Some b → a ≡ b
    the_type a b e = cc

-- two ports are of one sort
pub one_sort : (o w : Option Variable) (v x : Variable) → o ≡ Some v → w ≡ Some x → ports_differ o w ≡ false → sort_of_variable v ≡ sort_of_variable x
one_sort None w v x eo ew e = absurd (cc)
one_sort (Some a) None v x eo ew e = absurd (cc)
one_sort (Some a) (Some b) v x eo ew e =
    ap (λ (y : Variable). sort_of_variable y) (sym (the_variable a v eo)) ∙ kind_alike (sort_of_variable a) (sort_of_variable b) (not_not (same_kind (sort_of_variable a) (sort_of_variable b)) e)
    ∙ ap (λ (y : Variable). sort_of_variable y) (the_variable b x ew)
  where
    the_variable : (a b : Variable) → Some a ≡ Some b → a ≡ b
    the_variable a b e = cc

-- one port
pub a_port : (u : ProgramUnit) (name : List ℕ) (t : ExprType) → PortIs u name t → (t ≡ Nothing → ⊥) → is_one_port t ≡ true → (v : Variable) × (port_variable u.names t ≡ Some v) × (sort_of u name ≡ Some (sort_of_variable v))
a_port u name (Port k) h some e = h
a_port u name Nothing h some e = absurd (some refl)
a_port u name (Ports k) h some e = absurd (cc e)
a_port u name (Value q) h some e = absurd (cc e)
a_port u name (Array q m) h some e = absurd (cc e)
a_port u name Function h some e = absurd (cc e)

-- ---- all items

item_is : (s : Scope) (k : FieldKind) (size : Option ℕ) (bs : List Bound) (t : Tree) → IsPairOf (arg_type s t) k size bs → ItemIsOf s k size bs t
item_is s k None bs t h = h
item_is s k (Some place) bs t h = h

pub items_are : (s : Scope) (c : Context) (fields : PortFields) (ts : List Tree)
    → ((t : Tree) → IsUnflagged (judged c (scope_of s.unit.tree s.unit.names) t).flags → ArgIs s.unit (judged c (scope_of s.unit.tree s.unit.names) t).expr_type (arg_type s t))
    → AllIn (λ t. IsUnflagged (judged c (scope_of s.unit.tree s.unit.names) t).flags) ts → AllIn (λ t. (judged c (scope_of s.unit.tree s.unit.names) t).expr_type ≡ Nothing → ⊥) ts
    → fit_fields s.unit.names (map (ports.type_of c (scope_of s.unit.tree s.unit.names)) ts) fields ≡ true → ItemsAreOf s fields (trees_from ts)
unfolding ports.type_of
items_are s c NoFields [] typed h some e = tt
items_are s c (FieldThen k name bs rest) [] typed h some e = absurd (cc e)
items_are s c NoFields (t ∷ ts) typed h some e = absurd (cc e)
items_are s c (FieldThen k name bs rest) (t ∷ ts) typed h some e =
    let j = (judged c (scope_of s.unit.tree s.unit.names) t).expr_type in
    let one = fits_field s.unit.names j k bs in
    let more = fit_fields s.unit.names (map (ports.type_of c (scope_of s.unit.tree s.unit.names)) ts) rest in
    (item_is s k (sizing_place bs) bs t (item_fits s.unit j (arg_type s t) k bs (typed t h.0) some.0 (first_so one more e)), items_are s c rest ts typed h.1 some.1 (second_so one more e))

pub places_are : (u : ProgramUnit) (c : Context) (fields : PortFields) (vs : List Var)
    → ((v : Var) → IsUnflagged (target_judged c (scope_of u.tree u.names) v).flags → PlaceIs u v.name (variable_judged c (scope_of u.tree u.names) v).expr_type)
    → AllIn (λ v. IsUnflagged (target_judged c (scope_of u.tree u.names) v).flags) vs → AllIn (λ v. (variable_judged c (scope_of u.tree u.names) v).expr_type ≡ Nothing → ⊥) vs
    → fit_fields u.names (map (ports.variable_type c (scope_of u.tree u.names)) vs) fields ≡ true → VarsFit u fields vs
unfolding ports.variable_type
places_are u c NoFields vs typed h some e = tt
places_are u c (FieldThen k name bs rest) [] typed h some e = absurd (cc e)
places_are u c (FieldThen k name bs rest) (v ∷ vs) typed h some e =
    let j = (variable_judged c (scope_of u.tree u.names) v).expr_type in
    let one = fits_field u.names j k bs in
    let more = fit_fields u.names (map (ports.variable_type c (scope_of u.tree u.names)) vs) rest in
    (place_fits u v.name j k bs (typed v h.0) some.0 (first_so one more e), places_are u c rest vs typed h.1 some.1 (second_so one more e))

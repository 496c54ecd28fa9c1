-- Arguments of the types of the formals may enter a unit, and find room there.
use Rattle.std.proofs.Common.{◌≡◌, ℕ, zero, suc, ℤ, ◌+◌, ◌<◌, ◌≤◌, Option, Some, None, List, [], ◌∷◌, length, replicate, slice_get, Result, Ok, refl, sym, ap, ◌∙◌, subst, arith}
use Rattle.fm_base.specs.declared.fault.Fault.{Fault}
use Rattle.fm_base.specs.declared.port.PortValue.{PortValue}
use Rattle.fm_base.specs.Channels.{Item}
use Rattle.fm_tree.specs.Tree.{Tree, Trees, NoTrees, More, Number, Truth, Named, Ref, Paren, Signed, Not, Binary}
use Rattle.fm_tree.specs.PortFields.{FieldKind, Integer, Logical, In, Out}
use Rattle.fm_tree.specs.PortReading as reading
use Rattle.fm_tree.specs.declared.port_type.Kind.{Kind}
use Rattle.fm_tree.specs.declared.port_type.Kind.TheVariants as kind
use Rattle.fm_values.specs.declared.value.Value.{Value}
use Rattle.fm_values.specs.Values.{word_of}
use Rattle.fm_values.specs.Places.{element_place}
use Rattle.fm_symbols.specs.declared.names.Variable.{Variable}
use Rattle.fm_net.specs.Typed.{AllIn}
use Rattle.fm_mean.specs.Names.{ProgramUnit, variable_of, unset, all_unset, formal_place}
use Rattle.fm_mean.specs.declared.place.Actual.{Actual}
use Rattle.fm_mean.specs.declared.place.Span.{Span}
use Rattle.fm_mean.specs.declared.place.Actual.TheVariants.{Given, Taken}
use Rattle.fm_mean.specs.Places.{items_at, ports_in}
use Rattle.fm_mean.specs.Evaluate.{Scope, Reference, Element, Call, Built, Unknown, reference_of, refs_in, value_of, numbers_of, value_alone, named_actual, ref_actual, actual_at, actual_of, actuals_of, whole, single}
use Rattle.fm_mean.specs.Fits.{sort_of_variable, Types, IsBit, ValuesFit, sort_at, ArgFits, EntersAs, EnterFrom}
use Rattle.fm_mean.specs.Opening.{AreNull, HaveRoom}
use Rattle.fm_mean.specs.ValueTypes.{named_arg, ref_arg, arg_type, AreSized, IsFormal, ArgumentsAreOf}
use Rattle.fm_mean.proofs.Sorts.{parts, sort_there}
use Rattle.fm_mean.proofs.Arguments.{variable_there, same_pair, the_actual, arg_fits, element_there}

-- ---- the place that gets a value back is of the type of the argument

abbrev BackIs : List Variable → FieldKind → Actual → Type 0
BackIs vars r (Given ws None) = Unit {0}
BackIs vars r (Given ws (Some x)) = sort_at vars x.variable ≡ Some r
BackIs vars r (Taken x) = Unit {0}

alone_back : (vars : List Variable) (r : FieldKind) (v : Result Value Fault) (a : Actual) → value_alone v ≡ Ok a → BackIs vars r a
alone_back vars r v a e = let x = parts v _ a e in subst (BackIs vars r) (the_actual (Given (word_of x.0 ∷ []) None) a x.2) tt

span_back : (s : Scope) (vars : List Variable) (k : Kind) (x : Span) → sort_at vars x.variable ≡ Some (reading.kind_of k) → BackIs vars (reading.kind_of k) (actual_at s k x)
span_back s vars kind.Integer x is = is
span_back s vars kind.Logical x is = is
span_back s vars (kind.In t) x is = tt
span_back s vars (kind.Out t) x is = tt

arg_back : (s : Scope) (t : Tree) (n : ℕ) (a : Actual) (r : FieldKind) (m : ℕ) → arg_type s t ≡ Some (r, m) → actual_of s t n ≡ Ok a → BackIs s.unit.names.variables r a
arg_back s (Number k) n a r m e is = alone_back s.unit.names.variables r (value_of s (Number k) n) a is
arg_back s (Truth b) n a r m e is = alone_back s.unit.names.variables r (value_of s (Truth b) n) a is
arg_back s (Paren t) n a r m e is = alone_back s.unit.names.variables r (value_of s (Paren t) n) a is
arg_back s (Signed o t) n a r m e is = alone_back s.unit.names.variables r (value_of s (Signed o t) n) a is
arg_back s (Not t) n a r m e is = alone_back s.unit.names.variables r (value_of s (Not t) n) a is
arg_back s (Binary o b c) n a r m e is = alone_back s.unit.names.variables r (value_of s (Binary o b c) n) a is
arg_back s (Named name) n a r m e is = go (variable_of s.unit name) (λ j v h. variable_there s.unit name j v h) e is
  where
    go : (o : Option (ℕ × Variable)) → ((j : ℕ) (v : Variable) → o ≡ Some (j, v) → slice_get s.unit.names.variables j ≡ Some v) → named_arg s name o ≡ Some (r, m)
        → ◌≡◌ {A = Result Actual Fault} (Ok (named_actual s name o)) (Ok a) → BackIs s.unit.names.variables r a
    go None there e' is' = subst (BackIs s.unit.names.variables r) (the_actual (named_actual s name None) a is') tt
    go (Some v) there e' is' =
        let both : (sort_of_variable v.1, v.1.words) ≡ (r, m) = same_pair (sort_of_variable v.1, v.1.words) (r, m) e' in
        subst (λ (q : FieldKind × ℕ). BackIs s.unit.names.variables q.0 a) both
        (subst (BackIs s.unit.names.variables (sort_of_variable v.1)) (the_actual (actual_at s v.1.kind (whole v.0 v.1)) a is')
        (span_back s s.unit.names.variables v.1.kind (whole v.0 v.1) (sort_there s.unit.names.variables v.0 v.1 (there v.0 v.1 refl))))
arg_back s (Ref name args) n a r m e is = go (reference_of s name) (λ i v h. element_there s name i v h) e is
  where
    go : (g : Reference) → ((i : ℕ) (v : Variable) → g ≡ Element i v → slice_get s.unit.names.variables i ≡ Some v) → ref_arg g ≡ Some (r, m)
        → ref_actual s g (numbers_of s args n) (value_of s (Ref name args) n) ≡ Ok a → BackIs s.unit.names.variables r a
    go (Element i v) at e' is' =
        let b = parts (numbers_of s args n) _ a is' in
        let c = parts (element_place v.bounds b.0) _ a b.2 in
        let both : (sort_of_variable v, 1) ≡ (r, m) = same_pair (sort_of_variable v, 1) (r, m) e' in
        subst (λ (q : FieldKind × ℕ). BackIs s.unit.names.variables q.0 a) both
        (subst (BackIs s.unit.names.variables (sort_of_variable v)) (the_actual (actual_at s v.kind (single i c.0)) a c.2)
        (span_back s s.unit.names.variables v.kind (single i c.0) (sort_there s.unit.names.variables i v (at i v refl))))
    go (Call k u) at e' is' = alone_back s.unit.names.variables r (value_of s (Ref name args) n) a is'
    go (Built f) at e' is' = alone_back s.unit.names.variables r (value_of s (Ref name args) n) a is'
    go Unknown at e' is' = absurd (cc e')

-- ---- entering

the_sort : (a b : FieldKind) → Some a ≡ Some b → a ≡ b
the_sort a b e = cc

formal_sort : (u : ProgramUnit) (n : ℕ) (r : FieldKind) (m : ℕ) → IsFormal u n r m → sort_at u.names.variables (formal_place u n) ≡ Some r
formal_sort u n r m f = sort_there u.names.variables (formal_place u n) f.variable f.there ∙ ap Some f.sort

word_bits : (vars : List Variable) (r : FieldKind) (m : ℕ) (ws : List ℤ) (back : Option Span) → r ≡ Logical → ArgFits vars r m (Given ws back) → AllIn IsBit ws
word_bits vars Logical m ws back e h = h.1
word_bits vars Integer m ws back e h = absurd (cc e)
word_bits vars (In t) m ws back e h = absurd h
word_bits vars (Out t) m ws back e h = absurd h

port_sort : (vars : List Variable) (r : FieldKind) (m : ℕ) (x : Span) → ArgFits vars r m (Taken x) → (sort_at vars x.variable ≡ Some r) × (x.count ≡ m)
port_sort vars Integer m x h = absurd h
port_sort vars Logical m x h = absurd h
port_sort vars (In t) m x h = h
port_sort vars (Out t) m x h = h

enters : (vars : List Variable) (u : ProgramUnit) (n : ℕ) (r : FieldKind) (m : ℕ) (a : Actual) → IsFormal u n r m → ArgFits vars r m a → BackIs vars r a → EntersAs vars u n a
enters vars u n r m (Given ws None) f fits back = λ e. word_bits vars r m ws None (the_sort r Logical (sym (formal_sort u n r m f) ∙ e)) fits
enters vars u n r m (Given ws (Some x)) f fits back = (λ e. word_bits vars r m ws (Some x) (the_sort r Logical (sym (formal_sort u n r m f) ∙ e)) fits, formal_sort u n r m f ∙ sym back)
enters vars u n r m (Taken x) f fits back = formal_sort u n r m f ∙ sym (port_sort vars r m x fits).0

the_list : (a b : List Actual) → ◌≡◌ {A = Result (List Actual) Fault} (Ok a) (Ok b) → a ≡ b
the_list a b e = cc

pub arguments_enter : (types : Types) (s : Scope) (u : ProgramUnit) (n : ℕ) (ts : Trees) (k : ℕ) (args : List Actual) → AreSized s.unit.names.variables → ValuesFit types s.unit.names.variables s.values
    → ArgumentsAreOf s u n ts → actuals_of s ts k ≡ Ok args → EnterFrom s.unit.names.variables u n args
arguments_enter types s u n NoTrees k args sized fits are is = subst (EnterFrom s.unit.names.variables u n) (the_list [] args is) tt
arguments_enter types s u n (More t ts) k args sized fits are is =
    let a = parts (actual_of s t k) _ args is in
    let more = parts (actuals_of s ts (k + refs_in s t)) _ args a.2 in
    subst (EnterFrom s.unit.names.variables u n) (the_list (a.0 ∷ more.0) args more.2) (
      enters s.unit.names.variables u n are.0 are.1 a.0 are.3 (arg_fits types s t k a.0 are.0 are.1 sized fits are.2 a.1) (arg_back s t k a.0 are.0 are.1 are.2 a.1),
      arguments_enter types s u (suc n) ts (k + refs_in s t) more.0 sized fits are.4 more.1,
    )

-- ---- room

there_below : (vs : List Variable) (i : ℕ) (v : Variable) → slice_get vs i ≡ Some v → i < length vs
there_below [] i v e = absurd (cc)
there_below (w ∷ vs) zero v e = omega arith
there_below (w ∷ vs) (suc i) v e = omega (arith, there_below vs i v e)

unset_there : (vs : List Variable) (i : ℕ) (v : Variable) → slice_get vs i ≡ Some v → items_at (all_unset vs) i ≡ unset v.kind v.words
unset_there [] i v e = absurd (cc)
unset_there (w ∷ vs) zero v e = ap (λ (v : Variable). unset v.kind v.words) (the_variable w v e)
  where
    the_variable : (a b : Variable) → Some a ≡ Some b → a ≡ b
    the_variable a b e = cc
unset_there (w ∷ vs) (suc i) v e = unset_there vs i v e

null_at : (n k : ℕ) → k < n → slice_get (replicate {A = Option PortValue} n None) k ≡ Some None
null_at zero k h = absurd (omega (arith, h))
null_at (suc n) zero h = refl
null_at (suc n) (suc k) h = null_at n k (omega (arith, h))

unset_null : (vars : List Variable) (kd : Kind) (m w k : ℕ) (x : Span) → ArgFits vars (reading.kind_of kd) m (Taken x) → k < w → slice_get (ports_in (unset kd w)) k ≡ Some None
unset_null vars kind.Integer m w k x h l = absurd h
unset_null vars kind.Logical m w k x h l = absurd h
unset_null vars (kind.In t) m w k x h l = null_at w k l
unset_null vars (kind.Out t) m w k x h l = null_at w k l

unset_run : (vars vs : List Variable) (i : ℕ) (v : Variable) (m : ℕ) (x : Span) → slice_get vs i ≡ Some v → ArgFits vars (sort_of_variable v) m (Taken x) → (k n : ℕ) → k + n ≤ v.words → AreNull (all_unset vs) i k n
unset_run vars vs i v m x is h k zero l = tt
unset_run vars vs i v m x is h k (suc n) l =
    (ap (λ (y : Item). slice_get (ports_in y) k) (unset_there vs i v is) ∙ unset_null vars v.kind m v.words k x h (omega (arith, l)), unset_run vars vs i v m x is h (suc k) n (omega (arith, l)))

finds_room : (vars : List Variable) (u : ProgramUnit) (n : ℕ) (r : FieldKind) (m : ℕ) (a : Actual) (more : List Actual) → IsFormal u n r m → ArgFits vars r m a → HaveRoom u (suc n) (all_unset u.names.variables) more
    → HaveRoom u n (all_unset u.names.variables) (a ∷ more)
finds_room vars u n r m (Given ws back) more f fits room = room
finds_room vars u n r m (Taken x) more f fits room = (
  there_below u.names.variables (formal_place u n) f.variable f.there,
  unset_run vars u.names.variables (formal_place u n) f.variable m x f.there (subst (λ r. ArgFits vars r m (Taken x)) (sym f.sort) fits) 0 x.count (omega (arith, (port_sort vars r m x fits).1, f.words)),
  room,
)

pub arguments_find_room : (types : Types) (s : Scope) (u : ProgramUnit) (n : ℕ) (ts : Trees) (k : ℕ) (args : List Actual) → AreSized s.unit.names.variables → ValuesFit types s.unit.names.variables s.values
    → ArgumentsAreOf s u n ts → actuals_of s ts k ≡ Ok args → HaveRoom u n (all_unset u.names.variables) args
arguments_find_room types s u n NoTrees k args sized fits are is = subst (HaveRoom u n (all_unset u.names.variables)) (the_list [] args is) tt
arguments_find_room types s u n (More t ts) k args sized fits are is =
    let a = parts (actual_of s t k) _ args is in
    let more = parts (actuals_of s ts (k + refs_in s t)) _ args a.2 in
    subst (HaveRoom u n (all_unset u.names.variables)) (the_list (a.0 ∷ more.0) args more.2)
    (finds_room s.unit.names.variables u n are.0 are.1 a.0 more.0 are.3 (arg_fits types s t k a.0 are.0 are.1 sized fits are.2 a.1)
    (arguments_find_room types s u (suc n) ts (k + refs_in s t) more.0 sized fits are.4 more.1))

-- A call gives back no more words than the unit that it calls has, and a unit has 65,536 words at most.
use Rattle.std.proofs.Common.{◌≡◌, ℕ, zero, suc, ◌+◌, ◌≤◌, Bool, true, false, cond, Option, Some, None, List, [], ◌∷◌, ◌++◌, slice_get, Result, Ok, refl, ap, subst, arith}
use Rattle.std.specs.Prelude.{◌==◌, nat_le, nat_lt}
use Rattle.std.specs.Coded.{le_prop}
use Rattle.std.proofs.lemmas.Bool.Decides.{Decides-eqb, nat_tests}
use Rattle.fm_base.specs.Verdict.{place, when}
use Rattle.fm_base.specs.declared.fault.Fault.{Fault}
use Rattle.fm_base.specs.declared.rule.Rule.TheVariants.{E34}
use Rattle.fm_tree.specs.PortFields.{FieldKind}
use Rattle.fm_tree.specs.Tree.{Tree, Trees, NoTrees, More, Number, Truth, Named, Ref, Paren, Signed, Not, Binary}
use Rattle.fm_tree.specs.declared.port_type.Kind.{Kind}
use Rattle.fm_tree.specs.declared.port_type.Kind.TheVariants as kind
use Rattle.fm_tree.specs.declared.program_unit.Unit as tree
use Rattle.fm_values.specs.declared.value.Value.{Value}
use Rattle.fm_values.specs.Values.{word_of}
use Rattle.fm_values.specs.Places.{element_place}
use Rattle.fm_symbols.specs.ByName.{ByName}
use Rattle.fm_symbols.specs.declared.names.UnitNames.{UnitNames}
use Rattle.fm_symbols.specs.declared.names.Variable.{Variable}
use Rattle.fm_rules.specs.BrokenConstants.{broken_from}
use Rattle.fm_rules.specs.BrokenNames.{broken_in, untyped_in, is_long}
use Rattle.fm_rules.specs.Declarations.{declared_twice_in}
use Rattle.fm_rules.specs.FunctionTitles.{titles_of}
use Rattle.fm_rules.specs.Names.{unit_names}
use Rattle.fm_rules.specs.Sheets.{sheet_of}
use Rattle.fm_rules.specs.Variables.{all_words, laid_out, variables_among, words_of}
use Rattle.fm_rules.specs.declared.sheet.Occurrence.{Occurrence}
use Rattle.fm_rules.specs.declared.sheet.Sheet.{Sheet}
use Rattle.fm_rules.specs.declared.program.Program.{Program}
use Rattle.fm_mean.specs.Names.{ProgramUnit, unit_at, variable_of, formal_from, formal_place}
use Rattle.fm_mean.specs.declared.place.Actual.{Actual}
use Rattle.fm_mean.specs.declared.place.Actual.TheVariants.{Given}
use Rattle.fm_mean.specs.declared.place.Back.{Back}
use Rattle.fm_mean.specs.declared.place.Span.{Span}
use Rattle.fm_mean.specs.Evaluate.{Scope, Reference, Element, Call, Built, Unknown, reference_of, refs_in, value_of, numbers_of, value_alone, named_actual, ref_actual, actual_at, actual_of, actuals_of, whole, single}
use Rattle.fm_mean.specs.Fits.{sort_of_variable}
use Rattle.fm_mean.specs.Calls.{back_place, back_for, backs_from, back_words, is_input}
use Rattle.fm_mean.specs.ValueTypes.{named_arg, ref_arg, arg_type, ArgumentsAreOf}
use Rattle.fm_mean.proofs.Arguments.{same_pair, the_actual}
use Rattle.fm_mean.proofs.Sizes.{parts_of, the_names}
use Rattle.fm_mean.proofs.Sorts.{parts}
use Rattle.fm_mean.proofs.Unbroken.{Unbroken, from_rules, right_empty, each_empty, not_when}

-- ---- the place of an argument has as many words as the argument

abbrev BackCount : ℕ → Option Span → Type 0
BackCount m None = Unit {0}
BackCount m (Some x) = x.count ≡ m

alone_count : (v : Result Value Fault) (a : Actual) (m : ℕ) → value_alone v ≡ Ok a → BackCount m (back_place a)
alone_count v a m e = let x = parts v _ a e in subst (λ (a : Actual). BackCount m (back_place a)) (the_actual (Given (word_of x.0 ∷ []) None) a x.2) tt

span_count : (s : Scope) (k : Kind) (x : Span) → BackCount x.count (back_place (actual_at s k x))
span_count s kind.Integer x = refl
span_count s kind.Logical x = refl
span_count s (kind.In t) x = refl
span_count s (kind.Out t) x = refl

arg_count : (s : Scope) (t : Tree) (n : ℕ) (a : Actual) (r : FieldKind) (m : ℕ) → arg_type s t ≡ Some (r, m) → actual_of s t n ≡ Ok a → BackCount m (back_place a)
arg_count s (Number k) n a r m e is = alone_count (value_of s (Number k) n) a m is
arg_count s (Truth b) n a r m e is = alone_count (value_of s (Truth b) n) a m is
arg_count s (Paren t) n a r m e is = alone_count (value_of s (Paren t) n) a m is
arg_count s (Signed o t) n a r m e is = alone_count (value_of s (Signed o t) n) a m is
arg_count s (Not t) n a r m e is = alone_count (value_of s (Not t) n) a m is
arg_count s (Binary o b c) n a r m e is = alone_count (value_of s (Binary o b c) n) a m is
arg_count s (Named name) n a r m e is = go (variable_of s.unit name) e is
  where
    go : (o : Option (ℕ × Variable)) → named_arg s name o ≡ Some (r, m) → ◌≡◌ {A = Result Actual Fault} (Ok (named_actual s name o)) (Ok a) → BackCount m (back_place a)
    go None e' is' = subst (λ (a : Actual). BackCount m (back_place a)) (the_actual (named_actual s name None) a is') tt
    go (Some v) e' is' =
        let both : (sort_of_variable v.1, v.1.words) ≡ (r, m) = same_pair (sort_of_variable v.1, v.1.words) (r, m) e' in
        subst (λ (q : FieldKind × ℕ). BackCount q.1 (back_place a)) both
        (subst (λ (a : Actual). BackCount v.1.words (back_place a)) (the_actual (actual_at s v.1.kind (whole v.0 v.1)) a is') (span_count s v.1.kind (whole v.0 v.1)))
arg_count s (Ref name args) n a r m e is = go (reference_of s name) e is
  where
    go : (g : Reference) → ref_arg g ≡ Some (r, m) → ref_actual s g (numbers_of s args n) (value_of s (Ref name args) n) ≡ Ok a → BackCount m (back_place a)
    go (Element i v) e' is' =
        let b = parts (numbers_of s args n) _ a is' in
        let c = parts (element_place v.bounds b.0) _ a b.2 in
        let both : (sort_of_variable v, 1) ≡ (r, m) = same_pair (sort_of_variable v, 1) (r, m) e' in
        subst (λ (q : FieldKind × ℕ). BackCount q.1 (back_place a)) both
        (subst (λ (a : Actual). BackCount 1 (back_place a)) (the_actual (actual_at s v.kind (single i c.0)) a c.2) (span_count s v.kind (single i c.0)))
    go (Call k u) e' is' = alone_count (value_of s (Ref name args) n) a m is'
    go (Built f) e' is' = alone_count (value_of s (Ref name args) n) a m is'
    go Unknown e' is' = absurd (cc e')

-- ---- the words of the formals from a number on

later_words : ℕ → List Variable → ℕ
later_words n [] = 0
later_words n (v ∷ vs) = cond (nat_le n v.formal) v.words 0 + later_words n vs

words_among : List Variable → ℕ
words_among [] = 0
words_among (v ∷ vs) = v.words + words_among vs

one_later : (n f w : ℕ) → cond (nat_le (suc n) f) w 0 ≤ cond (nat_le n f) w 0
one_later n f w = go (nat_le (suc n) f) (nat_le n f) refl refl
  where
    not_so : (n f : ℕ) → nat_le (suc n) f ≡ true → nat_le n f ≡ false → ⊥
    not_so n f a b = grind (arith, nat_tests)

    go : (b c : Bool) → nat_le (suc n) f ≡ b → nat_le n f ≡ c → cond b w 0 ≤ cond c w 0
    go true true e h = omega arith
    go true false e h = absurd (not_so n f e h)
    go false true e h = omega arith
    go false false e h = omega arith

all_later : (n : ℕ) (vs : List Variable) → later_words (suc n) vs ≤ later_words n vs
unfolding later_words
all_later n [] = omega arith
all_later n (v ∷ vs) = omega (arith, one_later n v.formal v.words, all_later n vs)

later_among : (n : ℕ) (vs : List Variable) → later_words n vs ≤ words_among vs
unfolding later_words words_among
later_among n [] = omega arith
later_among n (v ∷ vs) = omega (arith, few (nat_le n v.formal) v.words, later_among n vs)
  where
    few : (b : Bool) (w : ℕ) → cond b w 0 ≤ w
    few true w = omega arith
    few false w = omega arith

no_sooner : (i n : ℕ) (vs : List Variable) → i ≤ formal_from i n vs
no_sooner i n [] = omega arith
no_sooner i n (v ∷ vs) = go (v.formal == n) (no_sooner (suc i) n vs)
  where
    go : (b : Bool) → suc i ≤ formal_from (suc i) n vs → i ≤ cond b i (formal_from (suc i) n vs)
    go true rest = omega arith
    go false rest = omega (arith, rest)

here_counts : (n f w : ℕ) → f ≡ n → (cond (nat_le n f) w 0 ≡ w) × (cond (nat_le (suc n) f) w 0 ≡ 0)
here_counts n f w e = (ap (λ b. cond b w 0) (yes_here n f e), ap (λ b. cond b w 0) (no_here n f e))
  where
    yes_here : (n f : ℕ) → f ≡ n → nat_le n f ≡ true
    yes_here n f e = grind (arith, nat_tests)

    no_here : (n f : ℕ) → f ≡ n → nat_le (suc n) f ≡ false
    no_here n f e = grind (arith, nat_tests)

-- the formal of this number is none of the later ones
first_later : (i n : ℕ) (vs : List Variable) (k : ℕ) (v : Variable) → formal_from i n vs ≡ i + k → slice_get vs k ≡ Some v → v.words + later_words (suc n) vs ≤ later_words n vs
unfolding later_words
first_later i n [] k v at is = absurd (cc is)
first_later i n (w ∷ vs) k v at is = go (w.formal == n) refl k at is (λ j a b. first_later (suc i) n vs j v a b)
  where
    the_variable : (a b : Variable) → Some a ≡ Some b → a ≡ b
    the_variable a b e = cc

    go : (b : Bool) → (w.formal == n) ≡ b → (k : ℕ) → cond b i (formal_from (suc i) n vs) ≡ i + k → slice_get (w ∷ vs) k ≡ Some v
        → ((j : ℕ) → formal_from (suc i) n vs ≡ suc i + j → slice_get vs j ≡ Some v → v.words + later_words (suc n) vs ≤ later_words n vs)
        → v.words + (cond (nat_le (suc n) w.formal) w.words 0 + later_words (suc n) vs) ≤ cond (nat_le n w.formal) w.words 0 + later_words n vs
    go true h zero at is rest =
        let same : w.words ≡ v.words = ap (λ (v : Variable). v.words) (the_variable w v is) in
        let counts = here_counts n w.formal w.words ((Decides-eqb w.formal n).0 h) in
        omega (arith, same, counts.0, counts.1, all_later n vs)
    go true h (suc k) at is rest = absurd (omega (arith, at))
    go false h zero at is rest = absurd (omega (arith, at, no_sooner (suc i) n vs))
    go false h (suc k) at is rest = omega (arith, rest k (omega (arith, at)) is, one_later n w.formal w.words)

words_append : (bs cs : List Back) → back_words (bs ++ cs) ≡ back_words bs + back_words cs
words_append [] cs = omega arith
words_append (b ∷ bs) cs = omega (arith, words_append bs cs)

back_few : (u : ProgramUnit) (n m : ℕ) (o : Option Span) → BackCount m o → back_words (back_for u n o) ≤ m
back_few u n m None h = omega arith
back_few u n m (Some x) h = go (is_input u n)
  where
    go : (b : Bool) → back_words (cond b [] (record { formal = formal_place u n; place = x } ∷ [])) ≤ m
    go true = omega arith
    go false = omega (arith, h)

the_list : (a b : List Actual) → ◌≡◌ {A = Result (List Actual) Fault} (Ok a) (Ok b) → a ≡ b
the_list a b e = cc

backs_later : (s : Scope) (u : ProgramUnit) (n : ℕ) (ts : Trees) (k : ℕ) (args : List Actual) → ArgumentsAreOf s u n ts → actuals_of s ts k ≡ Ok args → back_words (backs_from u n args) ≤ later_words n u.names.variables
backs_later s u n NoTrees k args are is = subst (λ (args : List Actual). back_words (backs_from u n args) ≤ later_words n u.names.variables) (the_list [] args is) (omega arith)
backs_later s u n (More t ts) k args are is =
    let a = parts (actual_of s t k) _ args is in
    let more = parts (actuals_of s ts (k + refs_in s t)) _ args a.2 in
    let formal = are.3 in
    let here = back_few u n are.1 (back_place a.0) (arg_count s t k a.0 are.0 are.1 are.2 a.1) in
    let rest = backs_later s u (suc n) ts (k + refs_in s t) more.0 are.4 more.1 in
    let room = first_later 0 n u.names.variables (formal_place u n) formal.variable (omega arith) formal.there in
    subst (λ (args : List Actual). back_words (backs_from u n args) ≤ later_words n u.names.variables) (the_list (a.0 ∷ more.0) args more.2)
    (omega (arith, words_append (back_for u n (back_place a.0)) (backs_from u (suc n) more.0), here, rest, room, formal.words))

-- ---- the words of a unit

laid_words : (s : Sheet) (first : ℕ) (os : List Occurrence) → words_among (laid_out s first os) ≡ all_words s os
unfolding words_among
laid_words s first [] = refl
laid_words s first (o ∷ os) = omega (arith, laid_words s (first + words_of s o.name) os)

record IsSmall (n : UnitNames) : Type 0 where
  all : words_among n.variables ≤ n.words
  few : n.words ≤ 65536

names_small : (titles : ByName Bool) (u : tree.Unit) → broken_in titles u ≡ [] → IsSmall (unit_names titles u)
names_small titles u e =
    let s = sheet_of u in
    let os = variables_among titles u.heading.stmt s s.first in
    let twice = declared_twice_in titles u in
    let constants = broken_from s.known s.types 0 u.specs in
    let untyped = untyped_in titles u.heading.stmt s in
    let long = when (is_long titles u.heading.stmt s) (place u.heading.line.0 E34) in
    let short = not_when (is_long titles u.heading.stmt s) (place u.heading.line.0 E34) (right_empty (twice ++ constants ++ untyped) long e) in
    record { all = omega (arith, laid_words s 0 os); few = not_more (all_words s os) short }
  where
    not_more : (n : ℕ) → nat_lt 65536 n ≡ false → n ≤ 65536
    not_more n e = grind (arith, nat_tests)

small_there : (us : List tree.Unit) (ns : List UnitNames) (k : ℕ) (n : UnitNames) → Unbroken us ns → slice_get ns k ≡ Some n → IsSmall n
small_there us ns k n h is =
    let t = titles_of us in
    let at = the_names t us k n (subst (λ (l : List UnitNames). slice_get l k ≡ Some n) h.names_are is) in
    subst IsSmall at.2 (names_small t at.0 (each_empty (broken_in t) us k at.0 h.names at.1))

-- a unit has 65,536 words at most
pub unit_small : (p : Program) (n : ℕ) (u : ProgramUnit) → unit_at p n ≡ Some u → u.names.words ≤ 65536
unit_small p n u is = from_rules p (u.names.words ≤ 65536) le_prop (λ h. (small_there p.units.units p.names.units n u.names h (parts_of p n u is).1).few)

unit_all : (p : Program) (n : ℕ) (u : ProgramUnit) → unit_at p n ≡ Some u → words_among u.names.variables ≤ u.names.words
unit_all p n u is = from_rules p (words_among u.names.variables ≤ u.names.words) le_prop (λ h. (small_there p.units.units p.names.units n u.names h (parts_of p n u is).1).all)

-- a call gives back no more words than the unit has
pub backs_small : (p : Program) (k : ℕ) (u : ProgramUnit) → unit_at p k ≡ Some u → (s : Scope) (ts : Trees) (i : ℕ) (args : List Actual) → ArgumentsAreOf s u 1 ts → actuals_of s ts i ≡ Ok args → back_words (backs_from u 1 args) ≤ u.names.words
backs_small p k u at s ts i args are is = omega (arith, backs_later s u 1 ts i args are is, later_among 1 u.names.variables, unit_all p k u at)

-- Shapes that are worked out dimension by dimension, and words that are added field by field.
use Rattle.std.proofs.Common.{◌≡◌, ℕ, zero, suc, ◌+◌, ◌*◌, ◌<◌, ◌≤◌, Bool, true, false, ◌&&◌, ◌||◌, Option, Some, None, List, [], ◌∷◌, ◌++◌, length, is_some, refl, sym, ap, ◌∙◌, subst, arith, ℤ, ⊎_elim, append_assoc, map, take, drop, get_or, add-one, drop-cons}
use Rattle.std.proofs.lemmas.List.{length-map}
use Rattle.std.specs.List.{list_any}
use Rattle.std.specs.Option.{option_map}
use Rattle.std.specs.Prelude.{nat_lt, not}
use Rattle.std.proofs.lemmas.Bool.{cases_lt}
use Rattle.std.proofs.lemmas.Bool.Decides.{nat_tests}
use Rattle.fm_base.specs.Verdict.{place, when}
use Rattle.fm_base.specs.declared.rule.Rule.TheVariants.{E32, E33}
use Rattle.fm_values.specs.Places.{Bounds, extent, size}
use Rattle.fm_tree.specs.PortReading.{fields_of}
use Rattle.fm_tree.specs.PortFields.{PortFields}
use Rattle.fm_tree.specs.declared.port_type.Field.{Field}
use Rattle.fm_symbols.specs.ByName.{ByName}
use Rattle.fm_rules.specs.declared.constants.Shape.{Shape}
use Rattle.fm_rules.specs.declared.constants.Known.{Known}
use Rattle.fm_rules.specs.Bounds.{Dimension, all_known, then_known, is_inverted, count, node_count, shape_by}
use Rattle.fm_rules.specs.PortTypes.{words_behind, message_words}
use Rattle.fm_rules.specs.SizedFields.{Sizes, field_size, sizes_of}
use Rattle.fm_rules.specs.BrokenConstants.{broken_shape}
use Rattle.fm_rules.proofs.FieldSizes.{sizes_more}
use Rattle.fm_names_constants.specs.Kept.{kept, kept_shape}
use Rattle.fm_names_constants.specs.Words.{words_of}

-- a shape with the dimensions that are still to come
abbrev pub finished : Shape → List Dimension → Shape
finished s ds = record {
  dimensions = s.dimensions;
  known = s.known && is_some (all_known ds);
  inverted = s.inverted || list_any is_inverted ds;
  elements = kept (s.elements * count (all_known ds));
}

-- the shape so far, whose elements are kept, comes to this one
pub record Comes (s : Shape) (ds : List Dimension) (whole : Shape) : Type 0 where
  pub small : s.elements ≤ 65537
  pub rest : finished s ds ≡ whole

times_one : (x y : ℕ) → 1 ≤ y → x ≤ x * y
times_one x zero h = absurd (omega (arith, h))
times_one x (suc y) h = grind arith

kept_times : (x y : ℕ) → kept (kept x * y) ≡ kept (x * y)
kept_times x zero = grind arith
kept_times x (suc y) =
    ⊎_elim
    (λ (l : x < 65537). ap (λ n. kept (n * suc y)) (omega (arith, l)))
    (λ (l : 65537 ≤ x). omega (arith, l, times_one x (suc y) (omega arith), times_one (kept x) (suc y) (omega arith)))
    (cases_lt x 65537)

one_kept : (n : ℕ) → n ≤ 65537 → kept (n * 1) ≡ n
one_kept n h = grind (arith, h)

and_true : (b : Bool) → (b && true) ≡ b
and_true true = refl
and_true false = refl

or_false : (b : Bool) → (b || false) ≡ b
or_false true = refl
or_false false = refl

-- nothing is to come
finished_alone : (s : Shape) → s.elements ≤ 65537 → finished s [] ≡ s
finished_alone s h = grind (arith, and_true s.known, or_false s.inverted, one_kept s.elements h)

pub comes_alone : (s w : Shape) → Comes s [] w → s ≡ w
comes_alone s w c = sym (finished_alone s c.small) ∙ c.rest

and_assoc : (a b c : Bool) → ((a && b) && c) ≡ (a && (b && c))
and_assoc true b c = refl
and_assoc false b c = refl

or_assoc : (a b c : Bool) → ((a || b) || c) ≡ (a || (b || c))
or_assoc true b c = refl
or_assoc false b c = refl

known_then : (d : Dimension) (bs : Option Bounds) → is_some (then_known d bs) ≡ (is_some d && is_some bs)
known_then None bs = refl
known_then (Some b) None = refl
known_then (Some b) (Some bs) = refl

swapped : (n e s : ℕ) → (n * e) * s ≡ e * (n * s)
swapped n e s = omega arith

swapped_back : (n e s : ℕ) → e * (n * s) ≡ n * (e * s)
swapped_back n e s = omega arith

kept_zero : (n : ℕ) → kept (n * 0) ≡ 0
kept_zero n = omega arith

zero_kept : (n : ℕ) → kept (0 * n) ≡ 0
zero_kept n = omega arith

zero_alike : (m n : ℕ) → kept (m * 0) ≡ kept (n * 0)
zero_alike m n = omega arith

no_nodes : (n : ℕ) → kept (n * kept 0) ≡ 0
no_nodes n = ap (λ x. kept (n * x)) none ∙ kept_zero n
  where
    none : kept 0 ≡ 0
    none = omega arith

-- the elements with one more dimension in front
count_then : (n : ℕ) (d : Dimension) (bs : Option Bounds) → kept (kept (n * kept (node_count d)) * count bs) ≡ kept (n * count (then_known d bs))
count_then n None bs = ap (λ x. kept (x * count bs)) (no_nodes n) ∙ (zero_kept (count bs) ∙ sym (kept_zero n))
count_then n (Some b) None = zero_alike (kept (n * kept (extent b))) n
count_then n (Some b) (Some bs) =
    kept_times (n * kept (extent b)) (size bs)
    ∙ ap kept (swapped n (kept (extent b)) (size bs))
    ∙ kept_times (extent b) (n * size bs)
    ∙ ap kept (swapped_back n (extent b) (size bs))

made : ℕ → Bool → Bool → ℕ → Shape
made d k i e = record { dimensions = d; known = k; inverted = i; elements = e }

alike : (d d2 : ℕ) (k k2 i i2 : Bool) (e e2 : ℕ) → d ≡ d2 → k ≡ k2 → i ≡ i2 → e ≡ e2 → made d k i e ≡ made d2 k2 i2 e2
alike d d2 k k2 i i2 e e2 o p q r = ap (λ x. made x k i e) o ∙ ap (λ x. made d2 x i e) p ∙ ap (λ x. made d2 k2 x e) q ∙ ap (λ x. made d2 k2 i2 x) r

-- a shape with one dimension more
pub record Grows (s : Shape) (d : Dimension) (t : Shape) : Type 0 where
  pub dimensions : t.dimensions ≡ s.dimensions
  pub known : t.known ≡ (s.known && is_some d)
  pub inverted : t.inverted ≡ (s.inverted || is_inverted d)
  pub elements : t.elements ≡ kept (s.elements * kept (node_count d))

finished_with : (s t : Shape) (d : Dimension) (ds : List Dimension) → Grows s d t → finished t ds ≡ finished s (d ∷ ds)
unfolding made
finished_with s t d ds g =
    alike t.dimensions s.dimensions _ _ _ _ _ _ g.dimensions
    (ap (λ b. b && is_some (all_known ds)) g.known ∙ and_assoc s.known (is_some d) (is_some (all_known ds)) ∙ ap (λ b. s.known && b) (sym (known_then d (all_known ds))))
    (ap (λ b. b || list_any is_inverted ds) g.inverted ∙ or_assoc s.inverted (is_inverted d) (list_any is_inverted ds))
    (ap (λ n. kept (n * count (all_known ds))) g.elements ∙ count_then s.elements d (all_known ds))

one_more : (s t : Shape) (d : Dimension) (ds : List Dimension) (w : Shape) → Grows s d t → Comes s (d ∷ ds) w → Comes t ds w
one_more s t d ds w g c = let few = g.elements in record { small = omega (arith, few); rest = finished_with s t d ds g ∙ c.rest }

-- the next item of a list
pub front : {X : Type 0} (xs : List X) (i : ℕ) (x : X) → i < length xs → x ≡ get_or xs i x → drop i xs ≡ x ∷ drop (i + 1) xs
front xs i x h e = rw add-one (drop-cons xs i x h ∙ ap (λ y. y ∷ drop (suc i) xs) (sym e))

pub comes_next : {X : Type 0} (f : X → Dimension) (xs : List X) (i : ℕ) (x : X) (d : Dimension) (s t w : Shape) → i < length xs → x ≡ get_or xs i x
    → d ≡ f x → Grows s d t → Comes s (map f (drop i xs)) w → Comes t (map f (drop (i + 1) xs)) w
comes_next f xs i x d s t w h e is g c =
    one_more s t (f x) (map f (drop (i + 1) xs)) w (subst (λ d. Grows s d t) is g) (rw (front xs i x h e) at c)

kept_once : (n : ℕ) → kept (1 * n) ≡ kept n
kept_once n = omega arith

-- a shape of so many dimensions, none of which was looked at
pub record Begins (n : ℕ) (s : Shape) : Type 0 where
  pub dimensions : s.dimensions ≡ n
  pub known : s.known ≡ true
  pub inverted : s.inverted ≡ false
  pub elements : s.elements ≡ 1

pub comes_first : {X : Type 0} (f : X → Dimension) (xs : List X) (s : Shape) → Begins (length xs) s → Comes s (map f xs) (kept_shape (shape_by (map f xs)))
unfolding made
comes_first f xs s b = let one = b.elements in record {
  small = omega (arith, one);
  rest =
      alike s.dimensions (length (map f xs)) _ _ _ _ _ _ (b.dimensions ∙ sym (length-map xs f))
      (ap (λ x. x && is_some (all_known (map f xs))) b.known)
      (ap (λ x. x || list_any is_inverted (map f xs)) b.inverted)
      (ap (λ n. kept (n * count (all_known (map f xs)))) one ∙ kept_once (count (all_known (map f xs))));
}

-- What a rule says of a shape it says of the one that is kept.

kept_over : (n : ℕ) → nat_lt 65536 (kept n) ≡ nat_lt 65536 n
kept_over n = grind (arith, nat_tests)

pub broken_kept : (limit line : ℕ) (s : Shape) → broken_shape limit line (kept_shape s) ≡ broken_shape limit line s
broken_kept limit line s =
    ap (λ b. when (nat_lt limit s.dimensions || (s.inverted || b)) (place line E32) ++ when (not s.known) (place line E33)) (kept_over s.elements)

-- Bounds that are known so far.

abbrev pub before_all : Bounds → Option Bounds → Option Bounds
before_all bs more = option_map (λ cs. bs ++ cs) more

pub before_next : (bs : Bounds) (b : ℤ × ℤ) (more : Option Bounds) → before_all bs (then_known (Some b) more) ≡ before_all (bs ++ b ∷ []) more
before_next bs b None = refl
before_next bs b (Some cs) = ap Some (sym (append_assoc bs (b ∷ []) cs))

-- Words.

-- the words so far, which are kept, and those of the fields that are still to come behind these add up to those of all
pub record AddsUp (known : ByName Known) (place words : ℕ) (earlier : Sizes) (rest : List Field) (all : PortFields) : Type 0 where
  pub small : words ≤ 65537
  pub total : kept (words + words_behind known place earlier (fields_of rest)) ≡ kept (message_words known place all)

adds_one : (known : ByName Known) (place words : ℕ) (earlier : Sizes) (f : Field) (rest : List Field) (all : PortFields)
    → AddsUp known place words earlier (f ∷ rest) all → AddsUp known place (kept (words + kept (words_of known place earlier f))) (field_size f ∷ earlier) rest all
adds_one known place words earlier f rest all a = record {
  small = omega arith;
  total = sums_kept words (words_of known place earlier f) (words_behind known place (field_size f ∷ earlier) (fields_of rest)) ∙ a.total;
}
  where
    sums_kept : (a b c : ℕ) → kept (kept (a + kept b) + c) ≡ kept (a + (b + c))
    sums_kept a b c = omega arith

pub adds_next : (known : ByName Known) (place words : ℕ) (fs : List Field) (i : ℕ) (f : Field) (all : PortFields) → i < length fs → f ≡ get_or fs i f
    → AddsUp known place words (sizes_of (take i fs)) (drop i fs) all
    → AddsUp known place (kept (words + kept (words_of known place (sizes_of (take i fs)) f))) (sizes_of (take (i + 1) fs)) (drop (i + 1) fs) all
adds_next known place words fs i f all h e a =
    rw (sizes_more fs i f h e) (adds_one known place words (sizes_of (take i fs)) f (drop (i + 1) fs) all (rw (front fs i f h e) at a))

pub long_alike : (w m : ℕ) → w ≤ 65537 → kept (w + 0) ≡ kept m → nat_lt 65536 w ≡ nat_lt 65536 m
long_alike w m h e = grind (arith, nat_tests)

pub long_at_end : (known : ByName Known) (place words : ℕ) (earlier : Sizes) (all : PortFields) → AddsUp known place words earlier [] all → nat_lt 65536 words ≡ nat_lt 65536 (message_words known place all)
long_at_end known place words earlier all a = long_alike words (message_words known place all) a.small a.total

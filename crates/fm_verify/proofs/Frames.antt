-- The tests of machines and of the words of frames hold exactly where they make sense.
use Rattle.std.proofs.Common.{◌≡◌, ℕ, nat_eq, zero, suc, ◌+◌, ◌*◌, ◌<◌, ◌≤◌, ◌==◌, Bool, true, false, ◌&&◌, ◌||◌, ◌⊎◌, inl, inr, not, Option, Some, List, [], ◌∷◌, ◌++◌, length, drop, get_or, map, slice_get, add-one, refl, sym, ap, subst, ◌∙◌, arith}
use Rattle.std.specs.Prelude.{nat_le}
use Rattle.std.specs.List.{AllByRecursion}
use Rattle.std.specs.Cmp.Lexicographic.{pointwise, bytes_decides}
use Rattle.std.proofs.lemmas.List.Folds.{list_any-append}
use Rattle.std.proofs.lemmas.Bool.{and_parts, and_from, or_cases, or_left, or_right, not-true, not_from_false, eqb-true, eq-eqb, leb-true, le-leb, both_ways}
use Rattle.fm_base.specs.Letters.{is_name_text}
use Rattle.fm_code_kinds.specs.Shapes.{words_of}
use Rattle.fm_object.specs.declared.image.Cell.{Cell}
use Rattle.fm_image_typed.specs.Shapes.{cell_of}
use Rattle.fm_image_typed.specs.Typed.{MachineIsTyped, nodes, CellIsTyped, CellsAreTyped, AreApart, is_formal}
use Rattle.fm_verify.specs.Tests.{has_type, are_nodes, is_machine, is_cell, are_cells, is_named, are_apart}
use Rattle.fm_verify.proofs.TypeTests.{type_so, type_from}

abbrev some : {A : Type 0} → A → Option A
some x = Some x

some_is : {A : Type 0} (x y : A) → some x ≡ some y → x ≡ y
some_is x y e = cc

-- ---- machines

times_assoc : (a b c : ℕ) → (a * b) * c ≡ a * (b * c)
times_assoc a b c = grind arith

some_nodes : (es : List ℕ) → AllByRecursion (λ e. 1 ≤ e) es → 1 ≤ nodes es
some_nodes [] all = omega arith
some_nodes (e ∷ es) all = more e (nodes es) all.0 (some_nodes es all.1)
  where
    more : (a b : ℕ) → 1 ≤ a → 1 ≤ b → 1 ≤ a * b
    more zero b l m = absurd (omega (arith, l))
    more (suc a) zero l m = absurd (omega (arith, m))
    more (suc a) (suc b) l m = grind arith

no_less : (n k : ℕ) → 1 ≤ k → n ≤ n * k
no_less n zero l = absurd (omega (arith, l))
no_less n (suc k) l = grind arith

nodes_each : (n : ℕ) (es : List ℕ) → are_nodes n es ≡ true → AllByRecursion (λ e. 1 ≤ e) es
nodes_each n [] e = tt
nodes_each n (x ∷ xs) e =
    let p = and_parts (nat_le 1 x && nat_le (n * x) 65536) (are_nodes (n * x) xs) e in
    (leb-true 1 x (and_parts (nat_le 1 x) (nat_le (n * x) 65536) p.0).0, nodes_each (n * x) xs p.1)

nodes_all : (n : ℕ) (es : List ℕ) → are_nodes n es ≡ true → n * nodes es ≤ 65536
nodes_all n [] e = omega (arith, leb-true n 65536 e)
nodes_all n (x ∷ xs) e =
    let p = and_parts (nat_le 1 x && nat_le (n * x) 65536) (are_nodes (n * x) xs) e in
    omega (arith, nodes_all (n * x) xs p.1, times_assoc n x (nodes xs))

nodes_from : (n : ℕ) (es : List ℕ) → AllByRecursion (λ e. 1 ≤ e) es → n * nodes es ≤ 65536 → are_nodes n es ≡ true
nodes_from n [] all le = le-leb n 65536 (omega (arith, le))
nodes_from n (x ∷ xs) all le =
    let here = no_less (n * x) (nodes xs) (some_nodes xs all.1) in
    and_from (nat_le 1 x && nat_le (n * x) 65536) (are_nodes (n * x) xs)
    (and_from (nat_le 1 x) (nat_le (n * x) 65536) (le-leb 1 x all.0) (le-leb (n * x) 65536 (omega (arith, le, here, times_assoc n x (nodes xs)))))
    (nodes_from (n * x) xs all.1 (omega (arith, le, times_assoc n x (nodes xs))))

pub machine_so : (es : List ℕ) → is_machine es ≡ true → MachineIsTyped es
machine_so es e =
    let p = and_parts (nat_le (length es) 3) (are_nodes 1 es) e in
    record { few = leb-true (length es) 3 p.0; each = nodes_each 1 es p.1; all = omega (arith, nodes_all 1 es p.1) }

pub machine_from : (es : List ℕ) → MachineIsTyped es → is_machine es ≡ true
machine_from es h = and_from (nat_le (length es) 3) (are_nodes 1 es) (le-leb (length es) 3 h.few) (nodes_from 1 es h.each (omega (arith, h.all)))

-- ---- cells

pub first_is : (types w : ℕ) (c : Cell) → is_cell types w c ≡ true → c.first ≡ w
first_is types w c e =
    let p = and_parts (is_name_text c.name) (has_type c.kind c.of types && ((c.first == w) && (nat_le 1 c.words && (nat_le c.back 1 && ((c.back == 0) || is_formal c))))) e in
    let q = and_parts (has_type c.kind c.of types) ((c.first == w) && (nat_le 1 c.words && (nat_le c.back 1 && ((c.back == 0) || is_formal c)))) p.1 in
    eqb-true c.first w (and_parts (c.first == w) (nat_le 1 c.words && (nat_le c.back 1 && ((c.back == 0) || is_formal c))) q.1).0

cell_so : (types w : ℕ) (c : Cell) → is_cell types w c ≡ true → CellIsTyped types w c
cell_so types w c e =
    let p = and_parts (is_name_text c.name) (has_type c.kind c.of types && ((c.first == w) && (nat_le 1 c.words && (nat_le c.back 1 && ((c.back == 0) || is_formal c))))) e in
    let q = and_parts (has_type c.kind c.of types) ((c.first == w) && (nat_le 1 c.words && (nat_le c.back 1 && ((c.back == 0) || is_formal c)))) p.1 in
    let r = and_parts (c.first == w) (nat_le 1 c.words && (nat_le c.back 1 && ((c.back == 0) || is_formal c))) q.1 in
    let s = and_parts (nat_le 1 c.words) (nat_le c.back 1 && ((c.back == 0) || is_formal c)) r.1 in
    let t = and_parts (nat_le c.back 1) ((c.back == 0) || is_formal c) s.1 in
    record {
      name = p.0;
      type = type_so c.kind c.of types q.0;
      first = eqb-true c.first w r.0;
      some = leb-true 1 c.words s.0;
      back = leb-true c.back 1 t.0;
      formal = λ z. gives (or_cases (c.back == 0) (is_formal c) t.1) z;
    }
  where
    gives : ((c.back == 0) ≡ true) ⊎ (is_formal c ≡ true) → c.formal ≡ 0 → c.back ≡ 0
    gives (inl b) z = eqb-true c.back 0 b
    gives (inr f) z = absurd (both_ways (c.formal == 0) (not-true (c.formal == 0) f) (eq-eqb c.formal 0 z))

cell_from : (types w : ℕ) (c : Cell) → CellIsTyped types w c → is_cell types w c ≡ true
cell_from types w c h =
    and_from (is_name_text c.name) (has_type c.kind c.of types && ((c.first == w) && (nat_le 1 c.words && (nat_le c.back 1 && ((c.back == 0) || is_formal c))))) h.name
    (and_from (has_type c.kind c.of types) ((c.first == w) && (nat_le 1 c.words && (nat_le c.back 1 && ((c.back == 0) || is_formal c)))) (type_from c.kind c.of types h.type)
    (and_from (c.first == w) (nat_le 1 c.words && (nat_le c.back 1 && ((c.back == 0) || is_formal c))) (eq-eqb c.first w h.first)
    (and_from (nat_le 1 c.words) (nat_le c.back 1 && ((c.back == 0) || is_formal c)) (le-leb 1 c.words h.some)
    (and_from (nat_le c.back 1) ((c.back == 0) || is_formal c) (le-leb c.back 1 h.back) (go (c.formal == 0) refl)))))
  where
    go : (b : Bool) → (c.formal == 0) ≡ b → ((c.back == 0) || is_formal c) ≡ true
    go true e = or_left (c.back == 0) (is_formal c) (eq-eqb c.back 0 (h.formal (eqb-true c.formal 0 e)))
    go false e = or_right (c.back == 0) (is_formal c) (not_from_false (c.formal == 0) e)

pub cells_so : (types w : ℕ) (cs : List Cell) → are_cells types w cs ≡ true → CellsAreTyped types w cs
cells_so types w [] e = leb-true w 65536 e
cells_so types w (c ∷ cs) e = let p = and_parts (is_cell types w c) (are_cells types (w + c.words) cs) e in (cell_so types w c p.0, cells_so types (w + c.words) cs p.1)

pub cells_from : (types w : ℕ) (cs : List Cell) → CellsAreTyped types w cs → are_cells types w cs ≡ true
cells_from types w [] h = le-leb w 65536 h
cells_from types w (c ∷ cs) h = and_from (is_cell types w c) (are_cells types (w + c.words) cs) (cell_from types w c h.0) (cells_from types (w + c.words) cs h.1)

next : {X : Type 0} (xs : List X) (i : ℕ) (x : X) → i < length xs → x ≡ get_or xs i x → drop i xs ≡ x ∷ drop (suc i) xs
next [] i x l e = absurd (omega (arith, l))
next {X = X} (y ∷ ys) zero x l e = ap (λ (z : X). z ∷ ys) (sym e)
next (y ∷ ys) (suc i) x l e = next ys i x (omega (arith, l)) e

-- one more variable: what is tested of the rest, and the words
pub cells_more : (types word end i : ℕ) (cs : List Cell) (c : Cell) → i < length cs → c ≡ get_or cs i c → is_cell types word c ≡ true → end ≡ c.first + c.words
    → are_cells types word (drop i cs) ≡ are_cells types end (drop (i + 1) cs)
cells_more types word end i cs c l here e f =
    let so : end ≡ word + c.words = omega (arith, f, first_is types word c e) in
    rw (next cs i c l here, e, so, add-one i) refl

pub words_more : (types word end i : ℕ) (cs : List Cell) (c : Cell) → i < length cs → c ≡ get_or cs i c → is_cell types word c ≡ true → end ≡ c.first + c.words
    → word + words_of (map cell_of (drop i cs)) ≡ end + words_of (map cell_of (drop (i + 1) cs))
words_more types word end i cs c l here e f =
    let so : end ≡ word + c.words = omega (arith, f, first_is types word c e) in
    let all : words_of (map cell_of (drop i cs)) ≡ c.words + words_of (map cell_of (drop (i + 1) cs)) = ap (λ (ds : List Cell). words_of (map cell_of ds)) (next cs i c l here ∙ ap (λ (n : ℕ). c ∷ drop n cs) (sym (add-one i))) in
    omega (arith, so, all)

-- ---- names

-- none of these has a name that is among those
abbrev NoneIn : List (List ℕ) → List Cell → Type 0
NoneIn names cs = (a : ℕ) (c : Cell) → slice_get cs a ≡ Some c → is_named names c.name ≡ false

named_more : (names : List (List ℕ)) (new name : List ℕ) → is_named (names ++ new ∷ []) name ≡ (is_named names name || (pointwise nat_eq name new || false))
named_more names new name = list_any-append (pointwise nat_eq name) names (new ∷ [])

neither : (a b : Bool) → (a || (b || false)) ≡ false → (a ≡ false) × (b ≡ false)
neither true b e = absurd cc
neither false true e = absurd cc
neither false false e = (refl, refl)

both_false : (a b : Bool) → a ≡ false → b ≡ false → (a || (b || false)) ≡ false
both_false a b e f = rw (e, f) refl

other_name : (x y : List ℕ) → (x ≡ y → ⊥) → pointwise nat_eq x y ≡ false
other_name x y h = go (pointwise nat_eq x y) refl
  where
    go : (b : Bool) → pointwise nat_eq x y ≡ b → pointwise nat_eq x y ≡ false
    go true e = absurd (h ((bytes_decides x y).0 e))
    go false e = e

tail_apart : (c : Cell) (cs : List Cell) → AreApart (c ∷ cs) → AreApart cs
tail_apart c cs h a b d e f g s = let n : suc a ≡ suc b = h (suc a) (suc b) d e f g s in omega (arith, n)

-- of those behind the first, none has a name that is among these, nor that of the first
behind : (names : List (List ℕ)) (c : Cell) (cs : List Cell) → NoneIn (names ++ c.name ∷ []) cs → (a : ℕ) (d : Cell) → slice_get cs a ≡ Some d
    → (is_named names d.name ≡ false) × (pointwise nat_eq d.name c.name ≡ false)
behind names c cs none a d f = neither (is_named names d.name) (pointwise nat_eq d.name c.name) (sym (named_more names c.name d.name) ∙ none a d f)

apart_none : (names : List (List ℕ)) (cs : List Cell) → are_apart names cs ≡ true → NoneIn names cs
apart_none names [] e a d f = absurd cc
apart_none names (c ∷ cs) e zero d f =
    let p = and_parts (not (is_named names c.name)) (are_apart (names ++ c.name ∷ []) cs) e in
    subst (λ (x : Cell). is_named names x.name ≡ false) (some_is c d f) (not-true (is_named names c.name) p.0)
apart_none names (c ∷ cs) e (suc a) d f =
    let p = and_parts (not (is_named names c.name)) (are_apart (names ++ c.name ∷ []) cs) e in
    (behind names c cs (apart_none (names ++ c.name ∷ []) cs p.1) a d f).0

clash : (names : List (List ℕ)) (c : Cell) (cs : List Cell) → are_apart names (c ∷ cs) ≡ true → (x y : Cell) (b : ℕ) → some c ≡ some x → slice_get cs b ≡ Some y → x.name ≡ y.name → ⊥
clash names c cs h x y b e f s =
    let p = and_parts (not (is_named names c.name)) (are_apart (names ++ c.name ∷ []) cs) h in
    let other : pointwise nat_eq y.name c.name ≡ false = (behind names c cs (apart_none (names ++ c.name ∷ []) cs p.1) b y f).1 in
    let same : y.name ≡ c.name = sym s ∙ ap (λ (z : Cell). z.name) (sym (some_is c x e)) in
    absurd (both_ways (pointwise nat_eq y.name c.name) other ((bytes_decides y.name c.name).1 same))

pub apart_so : (names : List (List ℕ)) (cs : List Cell) → are_apart names cs ≡ true → AreApart cs
apart_so names [] h a b c d e f s = absurd cc
apart_so names (c ∷ cs) h zero zero x y e f s = refl
apart_so names (c ∷ cs) h zero (suc b) x y e f s = absurd (clash names c cs h x y b e f s)
apart_so names (c ∷ cs) h (suc a) zero x y e f s = absurd (clash names c cs h y x a f e (sym s))
apart_so names (c ∷ cs) h (suc a) (suc b) x y e f s =
    ap suc (apart_so (names ++ c.name ∷ []) cs (and_parts (not (is_named names c.name)) (are_apart (names ++ c.name ∷ []) cs) h).1 a b x y e f s)

apart_in : (names : List (List ℕ)) (cs : List Cell) → NoneIn names cs → AreApart cs → are_apart names cs ≡ true
apart_in names [] none h = refl
apart_in names (c ∷ cs) none h =
    and_from (not (is_named names c.name)) (are_apart (names ++ c.name ∷ []) cs) (not_from_false (is_named names c.name) (none 0 c refl))
    (apart_in (names ++ c.name ∷ []) cs rest (tail_apart c cs h))
  where
    rest : NoneIn (names ++ c.name ∷ []) cs
    rest a d e =
        named_more names c.name d.name
        ∙ both_false (is_named names d.name) (pointwise nat_eq d.name c.name) (none (suc a) d e)
        (other_name d.name c.name (λ same. absurd (omega (arith, h 0 (suc a) c d refl e (sym same)))))

pub apart_from : (cs : List Cell) → AreApart cs → are_apart [] cs ≡ true
apart_from cs h = apart_in [] cs (λ a c e. refl) h

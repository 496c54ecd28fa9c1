-- Words of a variable are those of its cell.
use Rattle.std.proofs.Common.{◌≡◌, ℕ, zero, suc, ◌+◌, ◌<◌, ◌≤◌, true, false, cond, ◌&&◌, Some, None, List, [], ◌∷◌, refl, sym, ap, subst, ◌∙◌, arith}
use Rattle.std.specs.Prelude.{slice_get, nat_lt, nat_le}
use Rattle.std.proofs.lemmas.Bool.{lt-ltb, le-leb}
use Rattle.std.proofs.lemmas.Bool.Decides.{nat_tests}
use Rattle.fm_tree.specs.PortReading.{kind_of}
use Rattle.fm_symbols.specs.declared.names.Variable.{Variable}
use Rattle.fm_mean.specs.Layout.{AreLaidOut}
use Rattle.fm_code.specs.declared.code.Span.{Span}
use Rattle.fm_code_kinds.specs.declared.sorts.Cell.{Cell}
use Rattle.fm_code_kinds.specs.Shapes.{sort_in, sort_at, words_of}
use Rattle.fm_code_kinds.specs.Effects.{placed}
use Rattle.fm_gen_relation.specs.Sound.{words_among}
use Rattle.fm_object.specs.declared.image.FieldImage.{FieldImage}
use Rattle.fm_compile_law.specs.Types.{sort_by}
use Rattle.fm_compile_law.specs.Units.{cell_by, cells_by}

pub same_variable : (v w : Variable) → Some v ≡ Some w → v ≡ w
same_variable v w e = cc

-- some words of a variable
pub record IsPart (v : Variable) (s : Span) : Type 0 where
  pub low : v.first ≤ s.first
  pub high : s.first + s.count ≤ v.first + v.words
  pub some : 0 < s.count

pub cells_words : (ts : List (List FieldImage)) (vs : List Variable) → words_of (cells_by ts vs) ≡ words_among vs
cells_words ts [] = refl
cells_words ts (v ∷ vs) = ap (λ n. v.words + n) (cells_words ts vs)

pub laid_within : (n : ℕ) (vs : List Variable) (i : ℕ) (v : Variable) → AreLaidOut n vs → slice_get vs i ≡ Some v → (n ≤ v.first) × (v.first + v.words ≤ n + words_among vs)
laid_within n [] i v laid e = absurd (cc)
laid_within n (u ∷ vs) zero v laid e =
    let same : v ≡ u = sym (same_variable u v e) in
    subst (λ (x : Variable). (n ≤ x.first) × (x.first + x.words ≤ n + words_among (u ∷ vs))) (sym same) (omega (arith, laid.0), omega (arith, laid.0))
laid_within n (u ∷ vs) (suc i) v laid e =
    let h = laid_within (n + u.words) vs i v laid.1 e in
    (omega (arith, h.0), omega (arith, h.1))

in_own : (ts : List (List FieldImage)) (v : Variable) (s : Span) → IsPart v s → sort_in (cell_by ts v) s ≡ Some (sort_by ts (kind_of v.kind))
in_own ts v s p =
    let low : nat_le v.first s.first ≡ true = le-leb v.first s.first p.low in
    let high : nat_le (s.first + s.count) (v.first + v.words) ≡ true = le-leb (s.first + s.count) (v.first + v.words) p.high in
    (λ i. cond (low i && nat_le (s.first + s.count) (v.first + v.words)) (Some (sort_by ts (kind_of v.kind))) None)
    ∙ ap (λ b. cond b (Some (sort_by ts (kind_of v.kind))) None) high

not_less : (a b : ℕ) → b ≤ a → nat_lt a b ≡ false
not_less a b h = grind (arith, nat_tests)

pub sort_there : (ts : List (List FieldImage)) (n : ℕ) (vs : List Variable) (i : ℕ) (v : Variable) (s : Span) → AreLaidOut n vs → slice_get vs i ≡ Some v → IsPart v s
    → sort_at (cells_by ts vs) s ≡ Some (sort_by ts (kind_of v.kind))
sort_there ts n [] i v s laid e p = absurd (cc)
sort_there ts n (u ∷ vs) zero v s laid e p =
    let q : IsPart u s = subst (λ (x : Variable). IsPart x s) (sym (same_variable u v e)) p in
    let inside : nat_lt s.first (u.first + u.words) ≡ true = lt-ltb s.first (u.first + u.words) (omega (arith, q.high, q.some)) in
    ap (λ b. cond b (sort_in (cell_by ts u) s) (sort_at (cells_by ts vs) s)) inside
    ∙ in_own ts u s q
    ∙ ap (λ (x : Variable). Some (sort_by ts (kind_of x.kind))) (same_variable u v e)
sort_there ts n (u ∷ vs) (suc i) v s laid e p =
    let h = laid_within (n + u.words) vs i v laid.1 e in
    let behind : nat_lt s.first (u.first + u.words) ≡ false = not_less s.first (u.first + u.words) (omega (arith, h.0, laid.0, p.low)) in
    ap (λ b. cond b (sort_in (cell_by ts u) s) (sort_at (cells_by ts vs) s)) behind
    ∙ sort_there ts (n + u.words) vs i v s laid.1 e p

-- words are told that the frame has
pub placed_there : (cs : List Cell) (s : Span) → s.first + s.count ≤ words_of cs → placed cs s ≡ Some s
placed_there cs s h = ap (λ b. cond b (Some s) None) (le-leb (s.first + s.count) (words_of cs) h)

-- Ports that come to other slots word by word, and all at once.
use Rattle.std.proofs.Common.{◌≡◌, refl, ℕ, ℤ, pos, ◌+◌, ◌<◌, ◌≤◌, List, [], ◌∷◌, ◌++◌, length, take, drop, get_or, ap, ap₂, sym, subst, arith, append_assoc, length-append, length-drop, ◌∙◌}
use Rattle.std.proofs.Math.ListN.{set}
use Rattle.std.proofs.Math.Seq.{set-append_seam, get_or-append_seam}
use Rattle.std.proofs.lemmas.List.{append-nil, drop_all, drop_more, get_or-drop, get_or-take, length-take, length-take-le, length_push, take-append-drop}
use Rattle.fm_code.specs.declared.code.Span.{Span}
use Rattle.fm_code.specs.Acts.{span_of}
use Rattle.fm_code.specs.Passing.{spliced}
use Rattle.fm_proc_language.specs.Slots.{Slots, taken, all_taken, put_any, all_put}
use Rattle.fm_proc_language.specs.Frames.{moved_over}
use Rattle.fm_proc_slots.specs.Moves.{word_moved}

-- Words behind those that moved: what comes of these and of the rest is what comes of all.
pub record MovesOn (ws : List ℤ) (s : Span) (f t : Slots) (i : ℕ) (ws' : List ℤ) (f' t' : Slots) : Type 0 where
  pub done : List ℤ
  pub count : length done ≡ i
  pub words : ws' ≡ (take s.first ws ++ done) ++ drop (s.first + i) ws
  pub numbers : done ++ (all_put t' (all_taken f' (drop i (span_of ws s))).0).0 ≡ (all_put t (all_taken f (span_of ws s)).0).0
  pub left : (all_taken f' (drop i (span_of ws s))).1 ≡ (all_taken f (span_of ws s)).1
  pub come : (all_put t' (all_taken f' (drop i (span_of ws s))).0).1 ≡ (all_put t (all_taken f (span_of ws s)).0).1

split : (k : ℕ) (ws : List ℤ) → ws ≡ (take k ws ++ []) ++ drop (k + 0) ws
split k ws =
    let same : k ≡ k + 0 = omega arith in
    sym (take-append-drop k ws) ∙ ap₂ (λ (l : List ℤ) (n : ℕ). l ++ drop n ws) (sym (append-nil (take k ws))) same

pub none_moved : (ws : List ℤ) (s : Span) (f t : Slots) → MovesOn ws s f t 0 ws f t
none_moved ws s f t = record {
  done = [];
  count = refl;
  words = split s.first ws;
  numbers = refl;
  left = refl;
  come = refl;
}

-- one word moves where it stands
pub record MovesOne (xs ys : List ℤ) (z : ℤ) (ws' : List ℤ) (f t f' t' : Slots) : Type 0 where
  pub words : ws' ≡ xs ++ (put_any t (taken f z).0).0 ∷ ys
  pub left : f' ≡ (taken f z).1
  pub come : t' ≡ (put_any t (taken f z).0).1

moves_one : (xs ys : List ℤ) (z : ℤ) (ws' : List ℤ) (f t f' t' : Slots) → (ws', (f', t')) ≡ word_moved (length xs) (xs ++ z ∷ ys) f t → MovesOne xs ys z ws' f t f' t'
moves_one xs ys z ws' f t f' t' e =
    let there : get_or (xs ++ z ∷ ys) (length xs) (pos 0) ≡ z = get_or-append_seam xs z ys (pos 0) in
    record {
      words =
          ap (λ (p : List ℤ × (Slots × Slots)). p.0) e
          ∙ (ap (λ (w : ℤ). set (xs ++ z ∷ ys) (length xs) (put_any t (taken f w).0).0) there ∙ set-append_seam xs z ys (put_any t (taken f z).0).0);
      left = ap (λ (p : List ℤ × (Slots × Slots)). p.1.0) e ∙ ap (λ (w : ℤ). (taken f w).1) there;
      come = ap (λ (p : List ℤ × (Slots × Slots)). p.1.1) e ∙ ap (λ (w : ℤ). (put_any t (taken f w).0).1) there;
    }

pub moves_at : (xs ys ws ws' : List ℤ) (z : ℤ) (k : ℕ) (f t f' t' : Slots) → length xs ≡ k → ws ≡ xs ++ z ∷ ys → (ws', (f', t')) ≡ word_moved k ws f t → MovesOne xs ys z ws' f t f' t'
moves_at xs ys ws ws' z k f t f' t' e g h =
    moves_one xs ys z ws' f t f' t' (h ∙ ap₂ (λ (n : ℕ) (l : List ℤ). word_moved n l f t) (sym e) g)

-- a word of a span, and what is behind it
rest_of : (ws : List ℤ) (s : Span) (i : ℕ) → i < length (span_of ws s) → drop i (span_of ws s) ≡ get_or ws (s.first + i) (pos 0) ∷ drop (i + 1) (span_of ws s)
rest_of ws s i h =
    let short : i < s.count = omega (arith, length-take s.count (drop s.first ws)) in
    drop_more (span_of ws s) i (pos 0) h
    ∙ ap (λ (z : ℤ). z ∷ drop (i + 1) (span_of ws s)) (get_or-take s.count (drop s.first ws) i (pos 0) short ∙ get_or-drop s.first ws i (pos 0))

inside : (ws : List ℤ) (s : Span) (i : ℕ) → i < length (span_of ws s) → s.first + i < length ws
inside ws s i h = omega (arith, length-take s.count (drop s.first ws), length-drop s.first ws)

behind : (ws : List ℤ) (k i : ℕ) → k + i < length ws → drop (k + i) ws ≡ get_or ws (k + i) (pos 0) ∷ drop (k + (i + 1)) ws
behind ws k i h =
    let next : (k + i) + 1 ≡ k + (i + 1) = omega arith in
    drop_more ws (k + i) (pos 0) h ∙ ap (λ (n : ℕ). get_or ws (k + i) (pos 0) ∷ drop n ws) next

-- what comes of a word and the rest is what comes of the rest behind it
pub record SameEnd (done zs : List ℤ) (f t : Slots) (out : List ℤ) (f' t' : Slots) : Type 0 where
  pub numbers : done ++ (all_put t (all_taken f zs).0).0 ≡ out
  pub left : (all_taken f zs).1 ≡ f'
  pub come : (all_put t (all_taken f zs).0).1 ≡ t'

one_less : (done zs : List ℤ) (z : ℤ) (f t : Slots) (out : List ℤ) (f' t' : Slots) → SameEnd done (z ∷ zs) f t out f' t' →
    SameEnd (done ++ (put_any t (taken f z).0).0 ∷ []) zs (taken f z).1 (put_any t (taken f z).0).1 out f' t'
one_less done zs z f t out f' t' h = record {
  numbers = append_assoc done ((put_any t (taken f z).0).0 ∷ []) (all_put (put_any t (taken f z).0).1 (all_taken (taken f z).1 zs).0).0 ∙ h.numbers;
  left = h.left;
  come = h.come;
}

pub moves_more : (ws : List ℤ) (s : Span) (f t : Slots) (i : ℕ) (ws' : List ℤ) (f' t' : Slots) (ws'' : List ℤ) (f'' t'' : Slots) → i < length (span_of ws s) →
    (ws'', (f'', t'')) ≡ word_moved (s.first + i) ws' f' t' → MovesOn ws s f t i ws' f' t' → MovesOn ws s f t (i + 1) ws'' f'' t''
moves_more ws s f t i ws' f' t' ws'' f'' t'' h e m =
    let z : ℤ = get_or ws (s.first + i) (pos 0) in
    let xs : List ℤ = take s.first ws ++ m.done in
    let ys : List ℤ = drop (s.first + (i + 1)) ws in
    let zs : List ℤ = drop (i + 1) (span_of ws s) in
    let n : ℤ = (put_any t' (taken f' z).0).0 in
    let there : s.first + i < length ws = inside ws s i h in
    let within : s.first ≤ length ws = omega arith in
    let long : length xs ≡ s.first + i = omega (arith, length-append (take s.first ws) m.done, length-take-le s.first ws within, m.count) in
    let one : MovesOne xs ys z ws'' f' t' f'' t'' = moves_at xs ys ws' ws'' z (s.first + i) f' t' f'' t'' long (m.words ∙ ap (λ (l : List ℤ). xs ++ l) (behind ws s.first i there)) e in
    let now : SameEnd m.done (drop i (span_of ws s)) f' t' (all_put t (all_taken f (span_of ws s)).0).0 (all_taken f (span_of ws s)).1 (all_put t (all_taken f (span_of ws s)).0).1 =
    record { numbers = m.numbers; left = m.left; come = m.come } in
    let next : SameEnd (m.done ++ n ∷ []) zs (taken f' z).1 (put_any t' (taken f' z).0).1 (all_put t (all_taken f (span_of ws s)).0).0 (all_taken f (span_of ws s)).1 (all_put t (all_taken f (span_of ws s)).0).1 =
    one_less m.done zs z f' t' (all_put t (all_taken f (span_of ws s)).0).0 (all_taken f (span_of ws s)).1 (all_put t (all_taken f (span_of ws s)).0).1
    (subst (λ (l : List ℤ). SameEnd m.done l f' t' (all_put t (all_taken f (span_of ws s)).0).0 (all_taken f (span_of ws s)).1 (all_put t (all_taken f (span_of ws s)).0).1) (rest_of ws s i h) now) in
    record {
      done = m.done ++ n ∷ [];
      count = length_push m.done n ∙ ap (λ (k : ℕ). k + 1) m.count;
      words = one.words ∙ (sym (append_assoc xs (n ∷ []) ys) ∙ ap (λ (l : List ℤ). l ++ ys) (append_assoc (take s.first ws) m.done (n ∷ [])));
      numbers = ap₂ (λ (a b : Slots). (m.done ++ n ∷ []) ++ (all_put b (all_taken a zs).0).0) one.left one.come ∙ next.numbers;
      left = ap (λ (a : Slots). (all_taken a zs).1) one.left ∙ next.left;
      come = ap₂ (λ (a b : Slots). (all_put b (all_taken a zs).0).1) one.left one.come ∙ next.come;
    }

-- the words of a whole span moved
pub all_moved : (ws : List ℤ) (s : Span) (f t : Slots) (i : ℕ) (ws' : List ℤ) (f' t' : Slots) → i ≡ length (span_of ws s) → MovesOn ws s f t i ws' f' t' → (ws', (f', t')) ≡ moved_over (s ∷ []) ws f t
all_moved ws s f t i ws' f' t' e m =
    let short : length (span_of ws s) ≤ i = omega arith in
    let none : drop i (span_of ws s) ≡ [] = drop_all i (span_of ws s) short in
    let all : List ℤ = (all_put t (all_taken f (span_of ws s)).0).0 in
    let numbers : m.done ≡ all = sym (append-nil m.done) ∙ (ap (λ (l : List ℤ). m.done ++ (all_put t' (all_taken f' l).0).0) (sym none) ∙ m.numbers) in
    let left : f' ≡ (all_taken f (span_of ws s)).1 = ap (λ (l : List ℤ). (all_taken f' l).1) (sym none) ∙ m.left in
    let come : t' ≡ (all_put t (all_taken f (span_of ws s)).0).1 = ap (λ (l : List ℤ). (all_put t' (all_taken f' l).0).1) (sym none) ∙ m.come in
    let words : ws' ≡ spliced ws s.first m.done =
    m.words ∙ (append_assoc (take s.first ws) m.done (drop (s.first + i) ws) ∙ ap (λ (k : ℕ). take s.first ws ++ (m.done ++ drop (s.first + k) ws)) (sym m.count)) in
    ap₂ (λ (w : List ℤ) (p : Slots × Slots). (w, p)) (words ∙ ap (λ (l : List ℤ). spliced ws s.first l) numbers) (ap₂ (λ (a b : Slots). (a, b)) left come)

-- one span, and then the rest
pub spans_more : (s : Span) (all ss : List Span) (ws : List ℤ) (f t : Slots) (ws' : List ℤ) (f' t' : Slots) → all ≡ s ∷ ss → (ws', (f', t')) ≡ moved_over (s ∷ []) ws f t → moved_over ss ws' f' t' ≡ moved_over all ws f t
spans_more s all ss ws f t ws' f' t' e g =
    ap (λ (p : List ℤ × (Slots × Slots)). moved_over ss p.0 p.1.0 p.1.1) g ∙ ap (λ (l : List Span). moved_over l ws f t) (sym e)

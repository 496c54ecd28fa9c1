-- Readers of several lines that are exact for a text: what is read was written so, and what was written is read again.
use Rattle.std.proofs.Common.{◌≡◌, ℕ, zero, suc, ◌+◌, List, [], ◌∷◌, ◌++◌, length, Option, Some, None, Result, Ok, Err, refl, sym, ap, subst, ◌∙◌, append_assoc}
use Rattle.std.specs.List.{flat_map, AllByRecursion}
use Rattle.std.proofs.lemmas.List.Concat.{flat_map-cons}
use Rattle.fm_object.specs.Reading.{Place, ◌>>◌, lined, one_line, many}
use Rattle.fm_object.proofs.WordLaws.{some}

-- ---- steps that don't fail

pub bind_ok : {A B : Type 0} (r : Result A ℕ) (f : A → Result B ℕ) (y : B) → (r >> f) ≡ Ok y → (x : A) × (r ≡ Ok x) × (f x ≡ Ok y)
bind_ok (Err n) f y e = absurd cc
bind_ok (Ok x) f y e = (x, refl, e)

abbrev pub done : {A : Type 0} → A → Result A ℕ
done x = Ok x

pub ok_is : {A : Type 0} (x y : A) → done x ≡ done y → x ≡ y
ok_is x y e = cc

abbrev pub at : (line : ℕ) → (rest : List ℕ) → Place
at n r = record { line = n; rest = r }

-- ---- exact readers

module _ {X : Type 0} where
  pub record IsExact (read : Place → Result (X × Place) ℕ) (text : X → List ℕ) (Fits : X → Type 0) : Type 0 where
    pub takes : (p : Place) (x : X) (q : Place) → read p ≡ Ok (x, q) → (p.rest ≡ text x ++ q.rest) × Fits x
    pub again : (n : ℕ) (x : X) (r : List ℕ) → Fits x → (m : ℕ) × (read (at n (text x ++ r)) ≡ Ok (x, at m r))

  -- what one line gives
  lined_ok : (n : ℕ) (o : Option (X × List ℕ)) (x : X) (q : Place) → lined n o ≡ Ok (x, q) → o ≡ Some (x, q.rest)
  lined_ok n None x q e = absurd cc
  lined_ok n (Some y) x q e =
      let same : (y.0, at (n + 1) y.1) ≡ (x, q) = ok_is (y.0, at (n + 1) y.1) (x, q) e in
      subst (λ (z : X × Place). some {A = X × List ℕ} (y.0, y.1) ≡ some {A = X × List ℕ} (z.0, z.1.rest)) same refl

  pub one_line_exact : (read : List ℕ → Option (X × List ℕ)) (text : X → List ℕ) (Fits : X → Type 0)
      → ((bs : List ℕ) (x : X) (r : List ℕ) → read bs ≡ Some (x, r) → (bs ≡ text x ++ r) × Fits x)
      → ((x : X) (r : List ℕ) → Fits x → read (text x ++ r) ≡ Some (x, r))
      → IsExact (one_line read) text Fits
  one_line_exact read text Fits takes again = record {
    takes = λ p x q e. takes p.rest x q.rest (lined_ok p.line (read p.rest) x q e);
    again = λ n x r fits. (n + 1, ap (lined n) (again x r fits));
  }

  module _ (read : Place → Result (X × Place) ℕ) (text : X → List ℕ) (Fits : X → Type 0) (exact : IsExact read text Fits) where
    pub record Takes (n : ℕ) (p : Place) (xs : List X) (q : Place) : Type 0 where
      pub parts : p.rest ≡ flat_map text xs ++ q.rest
      pub count : length xs ≡ n
      pub fit : AllByRecursion Fits xs

    pub many_takes : (n : ℕ) (p : Place) (xs : List X) (q : Place) → many read n p ≡ Ok (xs, q) → Takes n p xs q
    unfolding many
    many_takes zero p xs q e =
        let same : ([], p) ≡ (xs, q) = ok_is ([], p) (xs, q) e in
        subst (λ (z : List X × Place). Takes 0 p z.0 z.1) same (record { parts = refl; count = refl; fit = tt })
    many_takes (suc n) p xs q e =
        let a = bind_ok (read p) (λ x. many read n x.1 >> λ ys. Ok (x.0 ∷ ys.0, ys.1)) (xs, q) e in
        let b = bind_ok (many read n a.0.1) (λ ys. Ok (a.0.0 ∷ ys.0, ys.1)) (xs, q) a.2 in
        let first = exact.takes p a.0.0 a.0.1 a.1 in
        let others = many_takes n a.0.1 b.0.0 b.0.1 b.1 in
        let whole : p.rest ≡ flat_map text (a.0.0 ∷ b.0.0) ++ b.0.1.rest =
        first.0 ∙ ap (λ (z : List ℕ). text a.0.0 ++ z) others.parts ∙ sym (append_assoc (text a.0.0) (flat_map text b.0.0) b.0.1.rest) ∙ ap (λ (z : List ℕ). z ++ b.0.1.rest) (sym (flat_map-cons text a.0.0 b.0.0)) in
        subst (λ (z : List X × Place). Takes (suc n) p z.0 z.1) (ok_is (a.0.0 ∷ b.0.0, b.0.1) (xs, q) b.2) (record { parts = whole; count = ap suc others.count; fit = (first.1, others.fit) })

    pub many_again : (n : ℕ) (xs : List X) (r : List ℕ) → AllByRecursion Fits xs → (m : ℕ) × (many read (length xs) (at n (flat_map text xs ++ r)) ≡ Ok (xs, at m r))
    unfolding many
    many_again n [] r fits = (n, refl)
    many_again n (x ∷ xs) r fits =
        let first = exact.again n x (flat_map text xs ++ r) fits.0 in
        let others = many_again first.0 xs r fits.1 in
        let grouped : flat_map text (x ∷ xs) ++ r ≡ text x ++ (flat_map text xs ++ r) = ap (λ (z : List ℕ). z ++ r) (flat_map-cons text x xs) ∙ append_assoc (text x) (flat_map text xs) r in
        (others.0, ap (λ (z : List ℕ). many read (suc (length xs)) (at n z)) grouped ∙ rw (first.1, others.1) refl)

-- One more item of a list, or its end.
use Rattle.std.proofs.Common.{◌≡◌, ℕ, suc, zero, ◌+◌, ◌<◌, true, false, Option, Some, None, List, [], ◌∷◌, ◌++◌, refl, sym, ◌∙◌, ap, append_assoc, arith}
use Rattle.std.proofs.lemmas.List.{append-nil}
use Rattle.fm_base.specs.declared.token.Token.{Token}
use Rattle.fm_base.specs.declared.parse_fail.ParseFail.{ParseFail}
use Rattle.fm_stmt_parts.specs.Gives.{Fails}
use Rattle.fm_stmt_parts.specs.Reading.{Read, is_comma, items_read, after_items, over_read, items_of, ◌>>=◌}

pub at_nothing : {X : Type 0} (f : List Token → Read X) (xs : List X) (n : ℕ) → after_items xs (items_read f n []) ≡ Some (xs, [])
at_nothing f xs zero = ap (λ ys. Some (ys, [])) (append-nil xs)
at_nothing f xs (suc n) = ap (λ ys. Some (ys, [])) (append-nil xs)

pub at_other : {X : Type 0} (f : List Token → Read X) (xs : List X) (n : ℕ) (t : Token) (ts : List Token) → is_comma t ≡ false → after_items xs (items_read f n (t ∷ ts)) ≡ Some (xs, t ∷ ts)
at_other f xs zero t ts e = ap (λ ys. Some (ys, t ∷ ts)) (append-nil xs)
at_other f xs (suc n) t ts e = rw e (ap (λ ys. Some (ys, t ∷ ts)) (append-nil xs))

pub at_bad : {X : Type 0} (f : List Token → Read X) (xs : List X) (n : ℕ) (t : Token) (ts : List Token) → 0 < n → is_comma t ≡ true → f ts ≡ None → after_items xs (items_read f n (t ∷ ts)) ≡ None
at_bad f xs zero t ts p e h = absurd (omega arith)
at_bad f xs (suc n) t ts p e h = rw (e, h) refl

after_items-item : {X : Type 0} (xs : List X) (x : X) (r : Read (List X)) → after_items xs (r >>= λ b. Some (x ∷ b.0, b.1)) ≡ after_items (xs ++ x ∷ []) r
after_items-item xs x None = refl
after_items-item xs x (Some b) = ap (λ ys. Some (ys, b.1)) (sym (append_assoc xs (x ∷ []) b.0))

pub at_item : {X : Type 0} (f : List Token → Read X) (xs : List X) (n k : ℕ) (t : Token) (ts rest : List Token) (x : X) → n ≡ k + 1 → is_comma t ≡ true → f ts ≡ Some (x, rest)
    → after_items xs (items_read f n (t ∷ ts)) ≡ after_items (xs ++ x ∷ []) (items_read f k rest)
at_item f xs zero k t ts rest x p e h = absurd (omega arith)
at_item f xs (suc n) k t ts rest x p e h = let q : n ≡ k = omega arith in rw (e, h) (after_items-item xs x (items_read f n rest) ∙ ap (λ m. after_items (xs ++ x ∷ []) (items_read f m rest)) q)

pub grown : {X : Type 0} (f : List Token → Read X) (xs ys : List X) (n k : ℕ) (t : Token) (ts rest : List Token) (x : X) → ys ≡ xs ++ x ∷ [] → n ≡ k + 1 → is_comma t ≡ true → f ts ≡ Some (x, rest)
    → after_items ys (items_read f k rest) ≡ after_items xs (items_read f n (t ∷ ts))
grown {X} f xs ys n k t ts rest x q p e h = ap (λ (zs : List X). after_items zs (items_read f k rest)) q ∙ sym (at_item f xs n k t ts rest x p e h)

pub carries : {A B : Type 0} (e : ParseFail) (a : Option A) (b : Option B) → (a ≡ None → b ≡ None) → Fails e a → Fails e b
carries e a b h f = λ bad. h (f bad)

-- behind nothing, and behind the first one
pub behind_nothing : {X : Type 0} (r : Read (List X)) → after_items [] r ≡ r
behind_nothing None = refl
behind_nothing (Some b) = refl

pub behind_first : {X : Type 0} (x : X) (r : Read (List X)) → after_items (x ∷ []) r ≡ over_read items_of (λ (ts : List Token). r >>= λ b. Some ((x, b.0), b.1)) []
behind_first x None = refl
behind_first x (Some b) = refl

-- Fronts of lists, and the cut of a text step by step.
use Rattle.std.proofs.Common.{◌≡◌, ℕ, suc, zero, ◌-◌, ◌≤◌, ◌<◌, Option, Some, None, List, [], ◌∷◌, ◌++◌, drop, length, arith, refl, sym, ap, ◌∙◌, append_assoc}
use Rattle.std.proofs.lemmas.List.{append-nil}
use Rattle.fm_base.specs.declared.token.Token.{Token}
use Rattle.fm_token.specs.Cutting.{longest, cut_from, cut_behind, cut_of}
use Rattle.fm_token.specs.Steps.{behind_items}

pub behind_items_append : {X : Type 0} (a b : List X) (o : Option (List X)) → behind_items a (behind_items b o) ≡ behind_items (a ++ b) o
behind_items_append a b None = refl
behind_items_append a b (Some c) = ap Some (sym (append_assoc a b c))

pub cut_nil : cut_of [] ≡ Some []
unfolding cut_of cut_behind
cut_nil = refl

cut_drop : (n : ℕ) (text : List ℕ) → cut_behind n text ≡ cut_of (drop n text)
unfolding cut_of cut_behind
cut_drop zero text = refl
cut_drop (suc n) [] = refl
cut_drop (suc n) (b ∷ bs) = cut_drop n bs

cut_first : (b : ℕ) (bs : List ℕ) → cut_of (b ∷ bs) ≡ cut_from (longest (b ∷ bs)) (λ n. cut_behind n bs)
unfolding cut_of cut_behind
cut_first b bs = refl

-- a text is cut by its longest token
pub cut_more : (text : List ℕ) (n : ℕ) (t : Token) → longest text ≡ Some (n, t) → 0 < n → n ≤ length text → cut_of text ≡ behind_items (t ∷ []) (cut_of (drop n text))
cut_more [] n t e p l = absurd (omega arith)
cut_more (b ∷ bs) zero t e p l = absurd (omega arith)
cut_more (b ∷ bs) (suc n) t e p l =
    let k : suc n - 1 ≡ n = omega arith in
    cut_first b bs ∙ ap (λ (o : Option (ℕ × Token)). cut_from o (λ m. cut_behind m bs)) e
    ∙ ap (λ (m : ℕ). behind_items (t ∷ []) (cut_behind m bs)) k ∙ ap (behind_items (t ∷ [])) (cut_drop n bs)

pub cut_none : (text : List ℕ) → longest text ≡ None → 0 < length text → cut_of text ≡ None
cut_none [] e l = absurd (omega arith)
cut_none (b ∷ bs) e l = cut_first b bs ∙ ap (λ (o : Option (ℕ × Token)). cut_from o (λ m. cut_behind m bs)) e

pub behind_none : {X : Type 0} (front : List X) (o : Option (List X)) → behind_items front o ≡ None → o ≡ None
behind_none front None e = refl
behind_none front (Some x) e = cc

-- one token more
pub cut_push : (out more : List Token) (rest behind : List ℕ) (n : ℕ) (t : Token) → more ≡ out ++ t ∷ [] → behind ≡ drop n rest → longest rest ≡ Some (n, t)
    → 0 < n → n ≤ length rest → behind_items more (cut_of behind) ≡ behind_items out (cut_of rest)
cut_push out more rest behind n t m b e p l =
    ap (λ (x : List Token). behind_items x (cut_of behind)) m ∙ ap (λ (x : List ℕ). behind_items (out ++ t ∷ []) (cut_of x)) b
    ∙ sym (ap (behind_items out) (cut_more rest n t e p l) ∙ behind_items_append out (t ∷ []) (cut_of (drop n rest)))

pub cut_end : (out : List Token) (rest : List ℕ) (whole : Option (List Token)) → length rest ≡ 0 → behind_items out (cut_of rest) ≡ whole → whole ≡ Some out
cut_end out [] whole l e = sym e ∙ ap (behind_items out) cut_nil ∙ ap Some (append-nil out)
cut_end out (b ∷ bs) whole l e = absurd (omega arith)

pub from_empty : {X : Type 0} (front items : List X) (o : Option (List X)) → front ≡ [] → behind_items front o ≡ Some items → o ≡ Some items
from_empty {X} front items o f e = same o ∙ ap (λ (x : List X). behind_items x o) (sym f) ∙ e
  where
    same : (p : Option (List X)) → p ≡ behind_items [] p
    same None = refl
    same (Some x) = refl

-- a first item, and what is behind it
pub front_split : {X : Type 0} (x : X) (o : Option (List X)) (items : List X) → behind_items (x ∷ []) o ≡ Some items → (more : List X) × (o ≡ Some more) × (items ≡ x ∷ more)
front_split x None items e = cc
front_split x (Some more) items e = (more, refl, cc)

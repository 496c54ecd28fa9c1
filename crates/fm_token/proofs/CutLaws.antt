-- The cut of a text as a relation and as a function.
use Rattle.std.proofs.Common.{◌≡◌, ℕ, suc, zero, ◌≤◌, ◌<◌, true, false, Option, Some, None, List, [], ◌∷◌, take, drop, length, arith, refl, sym, ap, subst, ◌∙◌}
use Rattle.std.proofs.Math.Dec.{eqb}
use Rattle.std.proofs.lemmas.Bool.{eqb-true, eqb-false}
use Rattle.fm_base.specs.declared.token.Token.{Token}
use Rattle.fm_token.specs.Pieces.{IsLongestToken, IsCut}
use Rattle.fm_token.specs.Cutting.{sized, or_shorter, longest_within, longest, cut_of}
use Rattle.fm_token.specs.Steps.{behind_items, token_at}
use Rattle.fm_token.proofs.TokenAt.{token_nil, token_is, is_token, no_token, not_token}
use Rattle.fm_token.proofs.Longest.{within_less}
use Rattle.fm_token.proofs.Cuts.{cut_nil, cut_more, cut_none, front_split}

-- the longest token of at most k bytes
record IsFound (k : ℕ) (text : List ℕ) (n : ℕ) (t : Token) : Type 0 where
  some : 0 < n
  within : n ≤ k
  whole : token_at (take n text) ≡ Some t
  longer : (m : ℕ) → n < m → m ≤ k → token_at (take m text) ≡ None

count_of : Option (ℕ × Token) → ℕ
count_of None = 0
count_of (Some found) = found.0

token_of : Token → Option (ℕ × Token) → Token
token_of t None = t
token_of t (Some found) = found.1

same_count : (n m : ℕ) (t u : Token) (a b : Option (ℕ × Token)) → a ≡ Some (n, t) → b ≡ Some (m, u) → a ≡ b → n ≡ m
unfolding count_of
same_count n m t u a b p q e = sym (ap count_of p) ∙ ap count_of e ∙ ap count_of q

same_token : (n m : ℕ) (t u : Token) (a b : Option (ℕ × Token)) → a ≡ Some (n, t) → b ≡ Some (m, u) → a ≡ b → t ≡ u
unfolding token_of
same_token n m t u a b p q e = sym (ap (token_of t) p) ∙ ap (token_of t) e ∙ ap (token_of t) q

found : (k : ℕ) (text : List ℕ) (n : ℕ) (t : Token) → longest_within k text ≡ Some (n, t) → IsFound k text n t
found zero text n t e = cc
found (suc k) text n t e =
    elim (token_at (take (suc k) text)) as (λ o. token_at (take (suc k) text) ≡ o → or_shorter (sized (suc k) o) (longest_within k text) ≡ Some (n, t) → IsFound (suc k) text n t) [
      | None ↦ λ h f. more h (found k text n t f)
      | Some u ↦ λ h f. here u _ h refl f
    ] refl e
  where
    more : token_at (take (suc k) text) ≡ None → IsFound k text n t → IsFound (suc k) text n t
    more h f = record {
      some = f.some;
      within = omega (arith, f.within);
      whole = f.whole;
      longer = λ m p q.
          elim (eqb m (suc k)) as (λ b. eqb m (suc k) ≡ b → token_at (take m text) ≡ None) [
            | true ↦ λ e. ap (λ (x : ℕ). token_at (take x text)) (eqb-true m (suc k) e) ∙ h
            | false ↦ λ e. f.longer m p (omega (arith, eqb-false m (suc k) e))
          ] refl;
    }

    here : (u : Token) (o : Option (ℕ × Token)) → token_at (take (suc k) text) ≡ Some u → o ≡ Some (suc k, u) → o ≡ Some (n, t) → IsFound (suc k) text n t
    here u o h is f =
        let a : suc k ≡ n = same_count _ _ _ _ _ _ is f refl in
        let b : u ≡ t = same_token _ _ _ _ _ _ is f refl in
        record {
          some = omega arith;
          within = omega arith;
          whole = ap (λ (m : ℕ). token_at (take m text)) (sym a) ∙ h ∙ ap Some b;
          longer = λ m p q. absurd (omega arith);
        }

pub is_longest : (text : List ℕ) (n : ℕ) (t : Token) → longest text ≡ Some (n, t) → (0 < n) × IsLongestToken text n t
unfolding longest
is_longest text n t e = let f = found (length text) text n t e in (
  f.some,
  record {
    within = f.within;
    whole = token_is (take n text) t f.whole;
    longest = λ m p q. no_token (take m text) (f.longer m p q);
  },
)

pub longest_is : (text : List ℕ) (n : ℕ) (t : Token) → IsLongestToken text n t → (0 < n) × (longest text ≡ Some (n, t))
unfolding longest
longest_is text zero t l = let clash : None ≡ Some t = sym token_nil ∙ is_token [] t l.whole in cc
longest_is text (suc n) t l = (
  omega arith,
  within_less (suc n) (length text) text l.within (λ m p q. not_token (take (suc m) text) (l.longest (suc m) (omega arith) (omega arith)))
      ∙ ap (λ (o : Option Token). or_shorter (sized (suc n) o) (longest_within n text)) (is_token (take (suc n) text) t l.whole),
)

pub cut_complete : (ts : List Token) (text : List ℕ) → IsCut text ts → cut_of text ≡ Some ts
cut_complete [] text c = subst (λ (x : List ℕ). cut_of x ≡ Some []) (sym c) cut_nil
cut_complete (t ∷ ts) text (n, l, c) =
    let f = longest_is text n t l in
    cut_more text n t f.1 f.0 l.within ∙ ap (behind_items (t ∷ [])) (cut_complete ts (drop n text) c)

record IsSplit (text : List ℕ) (ts : List Token) : Type 0 where
  n : ℕ
  first : Token
  others : List Token
  at : IsLongestToken text n first
  cut : cut_of (drop n text) ≡ Some others
  is : ts ≡ first ∷ others

split : (text : List ℕ) (ts : List Token) → 0 < length text → cut_of text ≡ Some ts → IsSplit text ts
split text ts p e =
    elim (longest text) as (λ o. longest text ≡ o → IsSplit text ts) [
      | None ↦ λ h. let clash : None ≡ Some ts = sym (cut_none text h p) ∙ e in cc
      | Some f ↦ λ h. go f.0 f.1 h
    ] refl
  where
    go : (n : ℕ) (t : Token) → longest text ≡ Some (n, t) → IsSplit text ts
    go n t h =
        let l = is_longest text n t h in
        let s = front_split t (cut_of (drop n text)) ts (sym (cut_more text n t h l.0 l.1.within) ∙ e) in
        record { n = n; first = t; others = s.0; at = l.1; cut = s.1; is = s.2 }

pub cut_sound : (ts : List Token) (text : List ℕ) → cut_of text ≡ Some ts → IsCut text ts
cut_sound [] [] e = refl
cut_sound [] (b ∷ bs) e = let s = split (b ∷ bs) [] (omega arith) e in let clash : [] ≡ s.first ∷ s.others = s.is in cc
cut_sound (t ∷ ts) [] e = let clash : Some [] ≡ Some (t ∷ ts) = sym cut_nil ∙ e in cc
cut_sound (t ∷ ts) (b ∷ bs) e =
    let s = split (b ∷ bs) (t ∷ ts) (omega arith) e in
    let first : s.first ≡ t = cc in
    let others : s.others ≡ ts = cc in
    (s.n, subst (IsLongestToken (b ∷ bs) s.n) first s.at, cut_sound ts (drop s.n (b ∷ bs)) (s.cut ∙ ap Some others))

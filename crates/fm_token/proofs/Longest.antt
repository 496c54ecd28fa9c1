-- The longest token at the front of a text is the beginning that the scan tries.
use Rattle.std.proofs.Common.{◌≡◌, ℕ, suc, zero, ◌+◌, ◌≤◌, ◌<◌, Bool, true, false, ◌&&◌, not, ◌⊎◌, inl, inr, Option, Some, None, List, [], ◌∷◌, length, take, cond, arith, refl, sym, ap, subst, ◌∙◌}
use Rattle.std.proofs.Math.Bool.{and-false}
use Rattle.std.proofs.Math.Dec.{eqb}
use Rattle.std.proofs.lemmas.Bool.{eqb-true, eqb-false}
use Rattle.std.specs.List.{list_all, prefix_len}
use Rattle.std.proofs.lemmas.List.Sums.{prefix_len-le-length}
use Rattle.std.specs.Option.{option_map}
use Rattle.fm_base.specs.declared.token.Token.{Token}
use Rattle.fm_base.specs.declared.token.Token.TheVariants.{Named, Constant, Sign}
use Rattle.fm_base.specs.declared.token.Op.TheVariants.{Pow}
use Rattle.fm_base.specs.Letters.{is_letter, is_digit, is_name_byte}
use Rattle.fm_token.specs.Cutting.{sized, or_shorter, longest_within, longest}
use Rattle.fm_token.specs.Steps.{constant_bytes, is_waiting, counted, behind_items, digits_number, number_token, operators, bare_tokens, fixed_tokens, fixed_token, token_at, candidate, constant_end, dot_end, sign_length}
use Rattle.fm_token.proofs.Cuts.{behind_none}
use Rattle.fm_token.proofs.Fixed.{and_left, and_right, may_follow_star, is_nil, ends_at_dot, not_fixed}
use Rattle.fm_token.proofs.TokenAt.{found_if, at_letter, at_digit, at_mark, at_sign}

within_none : (n : ℕ) (text : List ℕ) → ((m : ℕ) → m < n → token_at (take (suc m) text) ≡ None) → longest_within n text ≡ None
within_none zero text h = refl
within_none (suc n) text h =
    ap (λ (o : Option Token). or_shorter (sized (suc n) o) (longest_within n text)) (h n (omega arith)) ∙ within_none n text (λ m l. h m (omega arith))

pub within_less : (n k : ℕ) (text : List ℕ) → n ≤ k → ((m : ℕ) → n ≤ m → m < k → token_at (take (suc m) text) ≡ None) → longest_within k text ≡ longest_within n text
within_less n zero text l h = let e : 0 ≡ n = omega arith in ap (λ (k : ℕ). longest_within k text) e
within_less n (suc k) text l h =
    elim (eqb n (suc k)) as (λ b. eqb n (suc k) ≡ b → longest_within (suc k) text ≡ longest_within n text) [
      | true ↦ λ e. let q : suc k ≡ n = omega (arith, eqb-true n (suc k) e) in ap (λ (k : ℕ). longest_within k text) q
      | false ↦ λ e. let q : n ≤ k = omega (arith, eqb-false n (suc k) e) in
          ap (λ (o : Option Token). or_shorter (sized (suc k) o) (longest_within k text)) (h k q (omega arith)) ∙ within_less n k text q (λ m a b. h m a (omega arith))
    ] refl

-- nothing longer is a token, and nothing shorter where this is none
longest_at : (b : ℕ) (bs : List ℕ) (n : ℕ) → n ≤ length bs
    → ((m : ℕ) → n < m → m ≤ length bs → token_at (b ∷ take m bs) ≡ None)
    → (token_at (b ∷ take n bs) ≡ None → (m : ℕ) → m < n → token_at (b ∷ take m bs) ≡ None)
    → longest (b ∷ bs) ≡ sized (suc n) (token_at (b ∷ take n bs))
unfolding longest
longest_at b bs n l longer shorter =
    within_less (suc n) (suc (length bs)) (b ∷ bs) (omega arith) (λ m p q. longer m (omega arith) (omega arith))
    ∙ elim (token_at (b ∷ take n bs)) as (λ o. token_at (b ∷ take n bs) ≡ o → or_shorter (sized (suc n) o) (longest_within n (b ∷ bs)) ≡ sized (suc n) o) [
      | None ↦ λ e. within_none n (b ∷ bs) (λ m p. shorter e m p)
      | Some t ↦ λ e. refl
    ] refl

-- a span of bytes that pass
all_within : (p : ℕ → Bool) (bs : List ℕ) → list_all p (take (prefix_len p bs) bs) ≡ true
all_within p [] = refl
all_within p (b ∷ bs) =
    elim (p b) as (λ t. p b ≡ t → list_all p (take (cond t (1 + prefix_len p bs) 0) (b ∷ bs)) ≡ true) [
      | true ↦ λ e. let s : 1 + prefix_len p bs ≡ suc (prefix_len p bs) = omega arith in
          ap (λ (n : ℕ). list_all p (take n (b ∷ bs))) s ∙ ap (λ t. t && list_all p (take (prefix_len p bs) bs)) e ∙ all_within p bs
      | false ↦ λ e. refl
    ] refl

not_all_behind : (p : ℕ → Bool) (bs : List ℕ) (m : ℕ) → prefix_len p bs < m → m ≤ length bs → list_all p (take m bs) ≡ false
not_all_behind p [] m l k = absurd (omega arith)
not_all_behind p (b ∷ bs) zero l k = absurd (omega arith)
not_all_behind p (b ∷ bs) (suc m) l k =
    elim (p b) as (λ t. p b ≡ t → cond t (1 + prefix_len p bs) 0 < suc m → (p b && list_all p (take m bs)) ≡ false) [
      | true ↦ λ e h. ap (λ t. t && list_all p (take m bs)) e ∙ not_all_behind p bs m (omega arith) (omega arith)
      | false ↦ λ e h. ap (λ t. t && list_all p (take m bs)) e
    ] refl l

-- a token that is a span: names and numbers
at_span : (p : ℕ → Bool) (t : List ℕ → Token) (b : ℕ) (bs : List ℕ) → ((xs : List ℕ) → token_at (b ∷ xs) ≡ found_if (list_all p xs) (t xs))
    → longest (b ∷ bs) ≡ sized (suc (prefix_len p bs)) (token_at (b ∷ take (prefix_len p bs) bs))
at_span p t b bs h =
    longest_at b bs (prefix_len p bs) (prefix_len-le-length p bs)
    (λ m l k. h (take m bs) ∙ ap (λ x. found_if x (t (take m bs))) (not_all_behind p bs m l k))
    (λ e. let is : Some (t (take (prefix_len p bs) bs)) ≡ None = ap (λ x. found_if x (t (take (prefix_len p bs) bs))) (sym (all_within p bs)) ∙ sym (h (take (prefix_len p bs) bs)) ∙ e in cc)

nowhere : (b : ℕ) (bs : List ℕ) → ((m : ℕ) → m ≤ length bs → token_at (b ∷ take m bs) ≡ None) → longest (b ∷ bs) ≡ None
unfolding longest
nowhere b bs h = within_none (suc (length bs)) (b ∷ bs) (λ m l. h m (omega arith))

-- constants: what stands behind the first apostrophe
record EndsAt (waiting : Bool) (bs : List ℕ) (n : ℕ) : Type 0 where
  some : 0 < n
  within : n ≤ length bs
  longer : (m : ℕ) → n < m → m ≤ length bs → constant_bytes waiting (take m bs) ≡ None
  here : ¬ (constant_bytes waiting (take n bs) ≡ None)

EndsNowhere : Bool → List ℕ → Type 0
EndsNowhere waiting bs = (m : ℕ) → 0 < m → m ≤ length bs → constant_bytes waiting (take m bs) ≡ None

Ended : Bool → ℕ → Option ℕ → List ℕ → Option ℕ → Type 0
Ended waiting k end bs found = ((found ≡ end) × EndsNowhere waiting bs) ⊎ ((n : ℕ) × (found ≡ Some (k + n)) × EndsAt waiting bs n)

-- one byte more before a constant that may end
ended_on : (bs front : List ℕ) (waiting : Bool) (k : ℕ) (end : Option ℕ) (now : Bool) (b : ℕ) (found : Option ℕ)
    → ((xs : List ℕ) → constant_bytes waiting (b ∷ xs) ≡ behind_items front (constant_bytes now xs))
    → Ended now (k + 1) (cond now (Some (k + 1)) end) bs found → Ended waiting k end (b ∷ bs) found
unfolding Ended EndsNowhere
ended_on bs front waiting k end now b found h (inr (n, is, at)) =
    let place : k + 1 + n ≡ k + suc n = omega arith in
    inr (
      suc n,
      is ∙ ap Some place,
      record {
        some = omega arith;
        within = omega (arith, at.within);
        longer = longer;
        here = λ e. at.here (behind_none front _ (sym (h (take n bs)) ∙ e));
      },
    )
  where
    longer : (m : ℕ) → suc n < m → m ≤ suc (length bs) → constant_bytes waiting (take m (b ∷ bs)) ≡ None
    longer zero p q = absurd (omega arith)
    longer (suc m) p q = h (take m bs) ∙ ap (behind_items front) (at.longer m (omega arith) (omega arith))
ended_on bs front waiting k end true b found h (inl (is, none)) =
    let place : k + 1 ≡ k + suc zero = omega arith in
    inr (
      suc zero,
      is ∙ ap Some place,
      record {
        some = omega arith;
        within = omega arith;
        longer = longer;
        here = λ e. let clash : Some [] ≡ None = behind_none front (Some []) (sym (h []) ∙ e) in cc;
      },
    )
  where
    longer : (m : ℕ) → suc zero < m → m ≤ suc (length bs) → constant_bytes waiting (take m (b ∷ bs)) ≡ None
    longer zero p q = absurd (omega arith)
    longer (suc m) p q = h (take m bs) ∙ ap (behind_items front) (none m (omega arith) (omega arith))
ended_on bs front waiting k end false b found h (inl (is, none)) = inl (is, longer)
  where
    longer : (m : ℕ) → zero < m → m ≤ suc (length bs) → constant_bytes waiting (take m (b ∷ bs)) ≡ None
    longer zero p q = absurd (omega arith)
    longer (suc zero) p q = h []
    longer (suc (suc m)) p q = h (take (suc m) bs) ∙ ap (behind_items front) (none (suc m) (omega arith) (omega arith))

ended : (bs : List ℕ) (waiting : Bool) (k : ℕ) (end : Option ℕ) → Ended waiting k end bs (constant_end waiting k end bs)
unfolding Ended EndsNowhere
ended [] waiting k end = inl (refl, λ m p q. absurd (omega arith))
ended (b ∷ bs) waiting k end =
    elim (waiting && not (eqb b 39)) as (λ t. (waiting && not (eqb b 39)) ≡ t
    → Ended waiting k end (b ∷ bs) (cond t end (constant_end (is_waiting waiting b) (k + 1) (cond (is_waiting waiting b) (Some (k + 1)) end) bs))) [
      | true ↦ λ e. inl (refl, stopped e)
      | false ↦ λ e. ended_on bs (counted waiting b) waiting k end (is_waiting waiting b) b _
          (λ xs. ap (λ t. cond t None (behind_items (counted waiting b) (constant_bytes (is_waiting waiting b) xs))) e)
          (ended bs (is_waiting waiting b) (k + 1) (cond (is_waiting waiting b) (Some (k + 1)) end))
    ] refl
  where
    stopped : (waiting && not (eqb b 39)) ≡ true → (m : ℕ) → 0 < m → m ≤ suc (length bs) → constant_bytes waiting (take m (b ∷ bs)) ≡ None
    stopped e zero p q = absurd (omega arith)
    stopped e (suc m) p q = ap (λ t. cond t None (behind_items (counted waiting b) (constant_bytes (is_waiting waiting b) (take m bs)))) e

-- dots
record DotAt (bs : List ℕ) (n : ℕ) : Type 0 where
  within : n ≤ length bs
  only : (m : ℕ) → ¬ (m ≡ n) → m ≤ length bs → ends_at_dot (take m bs) ≡ false

Dotted : ℕ → List ℕ → Option ℕ → Type 0
Dotted k bs found = ((found ≡ None) × ((m : ℕ) → m ≤ length bs → ends_at_dot (take m bs) ≡ false)) ⊎ ((n : ℕ) × (found ≡ Some (k + n)) × DotAt bs n)

nil_not : (m : ℕ) (bs : List ℕ) → 0 < m → m ≤ length bs → is_nil (take m bs) ≡ false
nil_not zero bs p q = absurd (omega arith)
nil_not (suc m) [] p q = absurd (omega arith)
nil_not (suc m) (b ∷ bs) p q = refl

dot_here : (b : ℕ) (bs : List ℕ) → eqb b 46 ≡ true → DotAt (b ∷ bs) (suc zero)
dot_here b bs e = record { within = omega arith; only = only }
  where
    only : (m : ℕ) → ¬ (m ≡ suc zero) → m ≤ suc (length bs) → ends_at_dot (take m (b ∷ bs)) ≡ false
    only zero p q = refl
    only (suc m) p q = ap (λ t. cond t (is_nil (take m bs)) (ends_at_dot (take m bs))) e ∙ nil_not m bs (omega arith) (omega arith)

dot_later : (b : ℕ) (bs : List ℕ) (k : ℕ) (found : Option ℕ) → eqb b 46 ≡ false → Dotted (k + 1) bs found → Dotted k (b ∷ bs) found
unfolding Dotted
dot_later b bs k found e (inl (is, none)) = inl (is, later)
  where
    later : (m : ℕ) → m ≤ suc (length bs) → ends_at_dot (take m (b ∷ bs)) ≡ false
    later zero q = refl
    later (suc m) q = ap (λ t. cond t (is_nil (take m bs)) (ends_at_dot (take m bs))) e ∙ none m (omega arith)
dot_later b bs k found e (inr (n, is, at)) =
    let place : k + 1 + n ≡ k + suc n = omega arith in
    inr (suc n, is ∙ ap Some place, record { within = omega (arith, at.within); only = only })
  where
    only : (m : ℕ) → ¬ (m ≡ suc n) → m ≤ suc (length bs) → ends_at_dot (take m (b ∷ bs)) ≡ false
    only zero p q = refl
    only (suc m) p q = ap (λ t. cond t (is_nil (take m bs)) (ends_at_dot (take m bs))) e ∙ at.only m (λ r. p (ap suc r)) (omega arith)

dotted : (bs : List ℕ) (k : ℕ) → Dotted k bs (dot_end k bs)
unfolding Dotted
dotted [] k = inl (refl, none)
  where
    none : (m : ℕ) → m ≤ 0 → ends_at_dot (take m []) ≡ false
    none zero q = refl
    none (suc m) q = absurd (omega arith)
dotted (b ∷ bs) k =
    elim (eqb b 46) as (λ t. eqb b 46 ≡ t → Dotted k (b ∷ bs) (cond t (Some (k + 1)) (dot_end (k + 1) bs))) [
      | true ↦ λ e. inr (suc zero, refl, dot_here b bs e)
      | false ↦ λ e. dot_later b bs k _ e (dotted bs (k + 1))
    ] refl

-- the scan's answer
abbrev pub at_candidate : List ℕ → Option ℕ → Option (ℕ × Token)
at_candidate text None = None
at_candidate text (Some n) = sized n (token_at (take n text))

abbrev pub IsTried : List ℕ → Option ℕ → Type 0
IsTried text found = longest text ≡ at_candidate text found

tried : (b : ℕ) (bs : List ℕ) (n k : ℕ) → k ≡ suc n → longest (b ∷ bs) ≡ sized (suc n) (token_at (b ∷ take n bs)) → IsTried (b ∷ bs) (Some k)
tried b bs n k e h = h ∙ ap (λ (m : ℕ). at_candidate (b ∷ bs) (Some m)) (sym e)

tried_span : (p : ℕ → Bool) (t : List ℕ → Token) (b : ℕ) (bs : List ℕ) → ((xs : List ℕ) → token_at (b ∷ xs) ≡ found_if (list_all p xs) (t xs))
    → IsTried (b ∷ bs) (Some (prefix_len p bs + 1))
tried_span p t b bs h = tried b bs (prefix_len p bs) _ (omega arith) (at_span p t b bs h)

constant_none : (o : Option (List ℕ)) → option_map Constant o ≡ None → o ≡ None
constant_none None e = refl
constant_none (Some x) e = cc

tried_constant : (b : ℕ) (bs : List ℕ) (found : Option ℕ) → ((xs : List ℕ) → token_at (b ∷ xs) ≡ option_map Constant (constant_bytes false xs))
    → Ended false 1 None bs found → IsTried (b ∷ bs) found
unfolding Ended EndsNowhere
tried_constant b bs found h (inl (is, none)) = subst (IsTried (b ∷ bs)) (sym is) (nowhere b bs at)
  where
    at : (m : ℕ) → m ≤ length bs → token_at (b ∷ take m bs) ≡ None
    at zero l = h []
    at (suc m) l = h (take (suc m) bs) ∙ ap (option_map Constant) (none (suc m) (omega arith) l)
tried_constant b bs found h (inr (n, is, ends)) =
    subst (IsTried (b ∷ bs)) (sym is) (tried b bs n (1 + n) (omega arith) (longest_at b bs n ends.within
    (λ m l k. h (take m bs) ∙ ap (option_map Constant) (ends.longer m l k))
    (λ e. absurd (ends.here (constant_none _ (sym (h (take n bs)) ∙ e))))))

none_but_dot : (b : ℕ) (xs : List ℕ) → eqb b 46 ≡ true → ends_at_dot xs ≡ false → fixed_token (b ∷ xs) ≡ None
none_but_dot b xs e h = not_fixed (b ∷ xs) (ap (λ t. cond t (ends_at_dot xs) (cond (eqb b 42) (may_follow_star xs) (is_nil xs))) e ∙ h)

tried_dot : (b : ℕ) (bs : List ℕ) (found : Option ℕ) → eqb b 46 ≡ true → ((xs : List ℕ) → token_at (b ∷ xs) ≡ fixed_token (b ∷ xs))
    → Dotted 1 bs found → IsTried (b ∷ bs) found
unfolding Dotted
tried_dot b bs found e h (inl (is, none)) =
    subst (IsTried (b ∷ bs)) (sym is) (nowhere b bs (λ m l. h (take m bs) ∙ none_but_dot b (take m bs) e (none m l)))
tried_dot b bs found e h (inr (n, is, at)) =
    subst (IsTried (b ∷ bs)) (sym is) (tried b bs n (1 + n) (omega arith) (longest_at b bs n at.within
    (λ m l k. h (take m bs) ∙ none_but_dot b (take m bs) e (at.only m (λ r. omega arith) k))
    (λ z m l. h (take m bs) ∙ none_but_dot b (take m bs) e (at.only m (λ r. omega arith) (omega (arith, at.within))))))

-- a sign that is no dotted word: nothing longer than n + 1 bytes
tried_short : (b : ℕ) (bs : List ℕ) (n : ℕ) → eqb b 46 ≡ false → n ≤ length bs → ((xs : List ℕ) → token_at (b ∷ xs) ≡ fixed_token (b ∷ xs))
    → ((m : ℕ) → n < m → m ≤ length bs → cond (eqb b 42) (may_follow_star (take m bs)) (is_nil (take m bs)) ≡ false)
    → (token_at (b ∷ take n bs) ≡ None → (m : ℕ) → m < n → token_at (b ∷ take m bs) ≡ None)
    → longest (b ∷ bs) ≡ sized (suc n) (token_at (b ∷ take n bs))
tried_short b bs n e l h longer shorter =
    longest_at b bs n l
    (λ m p q. h (take m bs) ∙ not_fixed (b ∷ take m bs) (ap (λ t. cond t (ends_at_dot (take m bs)) (cond (eqb b 42) (may_follow_star (take m bs)) (is_nil (take m bs)))) e ∙ longer m p q))
    shorter

power_is : (b c : ℕ) → eqb b 42 ≡ true → eqb c 42 ≡ true → ¬ (token_at (b ∷ c ∷ []) ≡ None)
unfolding token_at fixed_token fixed_tokens bare_tokens operators
power_is b c p q e =
    let clash : Some (Sign Pow) ≡ None = subst (λ (x : ℕ). token_at (x ∷ 42 ∷ []) ≡ None) (eqb-true b 42 p) (subst (λ (y : ℕ). token_at (b ∷ y ∷ []) ≡ None) (eqb-true c 42 q) e) in cc

two_stars : (b c : ℕ) (cs : List ℕ) → eqb b 42 ≡ true → (m : ℕ) → suc zero < m → m ≤ suc (length cs)
    → cond (eqb b 42) (may_follow_star (take m (c ∷ cs))) (is_nil (take m (c ∷ cs))) ≡ false
two_stars b c cs e zero l k = absurd (omega arith)
two_stars b c cs e (suc m) l k = rw (e, nil_not m cs (omega arith) (omega arith)) (and-false (eqb c 42))

one_sign : (b c : ℕ) (cs : List ℕ) → (eqb b 42 && eqb c 42) ≡ false → (m : ℕ) → zero < m → m ≤ suc (length cs)
    → cond (eqb b 42) (may_follow_star (take m (c ∷ cs))) (is_nil (take m (c ∷ cs))) ≡ false
one_sign b c cs e zero l k = absurd (omega arith)
one_sign b c cs e (suc m) l k = go (eqb b 42) (eqb c 42) (is_nil (take m cs)) e
  where
    go : (x y z : Bool) → (x && y) ≡ false → cond x (y && z) false ≡ false
    go true y z h = ap (λ t. t && z) h
    go false y z h = refl

tried_sign : (b : ℕ) (bs : List ℕ) → eqb b 46 ≡ false → ((xs : List ℕ) → token_at (b ∷ xs) ≡ fixed_token (b ∷ xs)) → IsTried (b ∷ bs) (Some (sign_length b bs))
tried_sign b [] e h =
    tried b [] zero 1 refl (tried_short b [] zero e (omega arith) h (λ m p q. absurd (omega arith)) (λ z m p. absurd (omega arith)))
tried_sign b (c ∷ cs) e h =
    elim (eqb b 42 && eqb c 42) as (λ t. (eqb b 42 && eqb c 42) ≡ t → IsTried (b ∷ c ∷ cs) (Some (cond t 2 1))) [
      | true ↦ λ s. tried b (c ∷ cs) (suc zero) 2 refl (tried_short b (c ∷ cs) (suc zero) e (omega arith) h
          (two_stars b c cs (and_left _ _ s)) (λ z. absurd (power_is b c (and_left _ _ s) (and_right _ _ s) z)))
      | false ↦ λ s. tried b (c ∷ cs) zero 1 refl (tried_short b (c ∷ cs) zero e (omega arith) h (one_sign b c cs s) (λ z m p. absurd (omega arith)))
    ] refl

abbrev other : ℕ → List ℕ → Option ℕ
other b bs = cond (eqb b 39) (constant_end false 1 None bs) (cond (eqb b 46) (dot_end 1 bs) (Some (sign_length b bs)))

longest_nil : longest [] ≡ None
unfolding longest
longest_nil = refl

is_tried_other : (b : ℕ) (bs : List ℕ) → is_letter b ≡ false → is_digit b ≡ false → IsTried (b ∷ bs) (other b bs)
is_tried_other b bs u d =
    elim (eqb b 39) as (λ t. eqb b 39 ≡ t → IsTried (b ∷ bs) (cond t (constant_end false 1 None bs) (cond (eqb b 46) (dot_end 1 bs) (Some (sign_length b bs))))) [
      | true ↦ λ a. tried_constant b bs _ (λ xs. at_mark b xs u d a) (ended bs false 1 None)
      | false ↦ λ a. elim (eqb b 46) as (λ t. eqb b 46 ≡ t → IsTried (b ∷ bs) (cond t (dot_end 1 bs) (Some (sign_length b bs)))) [
        | true ↦ λ e. tried_dot b bs _ e (λ xs. at_sign b xs u d a) (dotted bs 1)
        | false ↦ λ e. tried_sign b bs e (λ xs. at_sign b xs u d a)
      ] refl
    ] refl

-- what the scan tries is the longest token, if there is one
pub is_tried : (text : List ℕ) → IsTried text (candidate text)
unfolding candidate
is_tried [] = longest_nil
is_tried (b ∷ bs) =
    elim (is_letter b) as (λ t. is_letter b ≡ t → IsTried (b ∷ bs) (cond t (Some (prefix_len is_name_byte bs + 1)) (cond (is_digit b) (Some (prefix_len is_digit bs + 1)) (other b bs)))) [
      | true ↦ λ u. tried_span is_name_byte (λ xs. Named (b ∷ xs)) b bs (λ xs. at_letter b xs u)
      | false ↦ λ u. elim (is_digit b) as (λ t. is_digit b ≡ t → IsTried (b ∷ bs) (cond t (Some (prefix_len is_digit bs + 1)) (other b bs))) [
        | true ↦ λ d. tried_span is_digit (λ xs. number_token (digits_number 0 (b ∷ xs))) b bs (λ xs. at_digit b xs u d)
        | false ↦ λ d. is_tried_other b bs u d
      ] refl
    ] refl

-- the same of the scan's answer
pub tried_as : (text : List ℕ) (found : Option ℕ) → found ≡ candidate text → longest text ≡ at_candidate text found
tried_as text found e = is_tried text ∙ ap (at_candidate text) (sym e)

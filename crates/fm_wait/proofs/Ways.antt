-- Following from one path to another: the list of the paths on the way.
use Rattle.std.proofs.Common.{◌≡◌, ◌⊎◌, inl, inr, ℕ, zero, suc, ◌<◌, ◌≤◌, Bool, true, false, cond, List, [], ◌∷◌, ◌++◌, length, drop, get_or, map, refl, sym, ap, subst, ◌∙◌, arith}
use Rattle.std.specs.Prelude.{Option, Some, None, option_map, option_and_then}
use Rattle.std.specs.List.{AllByRecursion, IsDistinct}
use Rattle.std.specs.Ordering.{eq_by_cmp}
use Rattle.fm_base.specs.PathOrder.{path_cmp}
use Rattle.fm_finmap.proofs.Keys.{decide, path_order, tie, tie_not, tie_self}
use Rattle.fm_wait.specs.Cycles.{way}
use Rattle.fm_wait.specs.Waits.{Pairs}
use Rattle.fm_wait.proofs.Members.{Has, same_some}

all_apart : (x : Pairs) (ys : List Pairs) → ((q : Pairs) → Has ys q → x ≡ q → ⊥) → AllByRecursion (λ q. eq_by_cmp path_cmp x q ≡ false) ys
all_apart x [] n = tt
all_apart x (y ∷ ys) n = (tie_not path_order x y (n y (inl refl)), all_apart x ys (λ q h. n q (inr h)))

-- a list is distinct with one more in front that it doesn't have
pub distinct_more : (x : Pairs) (ys : List Pairs) → ((q : Pairs) → Has ys q → x ≡ q → ⊥) → IsDistinct (eq_by_cmp path_cmp) ys → IsDistinct (eq_by_cmp path_cmp) (x ∷ ys)
unfolding IsDistinct
distinct_more x ys n d = (all_apart x ys n, d)

distinct_none : IsDistinct (eq_by_cmp path_cmp) []
unfolding IsDistinct
distinct_none = tt

-- so many steps, and any number of them
abbrev pub Steps : (Pairs → Option Pairs) → ℕ → Pairs → Pairs → Type 0
Steps f zero x y = x ≡ y
Steps f (suc n) x y = (z : Pairs) × (f x ≡ Some z) × Steps f n z y

abbrev pub Leads : (Pairs → Option Pairs) → Pairs → Pairs → Type 0
Leads f x y = (n : ℕ) × Steps f n x y

module _ (f : Pairs → Option Pairs) (t : Pairs) where
  -- the list begins with x, each leads to the one behind it, and the last one to t, which isn't in it. None where x is t.
  abbrev pub IsWay : Pairs → List Pairs → Type 0
  IsWay x [] = x ≡ t
  IsWay x (y ∷ ys) = (y ≡ x) × (x ≡ t → ⊥) × ((z : Pairs) × (f x ≡ Some z) × IsWay z ys)

  abbrev pub IsFound : ℕ → Pairs → List Pairs → Type 0
  IsFound n x ys = IsWay x ys × (length ys < n)

  further : (n : ℕ) (x z : Pairs) (ys : List Pairs) → (x ≡ t → ⊥) → f x ≡ Some z → (w : Option (List Pairs))
      → ((zs : List Pairs) → w ≡ Some zs → IsFound n z zs) → option_map (λ ps. x ∷ ps) w ≡ Some ys → IsFound (suc n) x ys
  further n x z ys ne is None ih e = cc
  further n x z ys ne is (Some zs) ih e =
      let r = ih zs refl in
      subst (λ (l : List Pairs). IsFound (suc n) x l) (same_some (x ∷ zs) ys e) ((refl, ne, (z, is, r.0)), omega (arith, r.1))

  found : (n : ℕ) (x : Pairs) (ys : List Pairs) → (x ≡ t → ⊥) → ((z : Pairs) (zs : List Pairs) → way f n z t ≡ Some zs → IsFound n z zs)
      → (v : Option Pairs) → f x ≡ v → option_and_then (λ q. option_map (λ ps. x ∷ ps) (way f n q t)) v ≡ Some ys → IsFound (suc n) x ys
  found n x ys ne ih None is e = cc
  found n x ys ne ih (Some z) is e = further n x z ys ne is (way f n z t) (ih z) e

  tested : (n : ℕ) (x : Pairs) (ys : List Pairs) → ((z : Pairs) (zs : List Pairs) → way f n z t ≡ Some zs → IsFound n z zs)
      → (b : Bool) → eq_by_cmp path_cmp x t ≡ b → cond b (Some []) (option_and_then (λ q. option_map (λ ps. x ∷ ps) (way f n q t)) (f x)) ≡ Some ys → IsFound (suc n) x ys
  tested n x ys ih true b e = subst (λ (l : List Pairs). IsFound (suc n) x l) (same_some [] ys e) (tie path_order x t b, omega arith)
  tested n x ys ih false b e = found n x ys (λ s. cc (sym b ∙ ap (eq_by_cmp path_cmp x) (sym s) ∙ tie_self path_order x)) ih (f x) refl e

  -- what `way` gives is one, and short
  pub way_is : (n : ℕ) (x : Pairs) (ys : List Pairs) → way f n x t ≡ Some ys → IsFound n x ys
  way_is zero x ys e = cc
  way_is (suc n) x ys e = tested n x ys (way_is n) (eq_by_cmp path_cmp x t) refl e

  -- and it gives each that is short enough
  pub way_found : (n : ℕ) (x : Pairs) (ys : List Pairs) → IsWay x ys → length ys < n → way f n x t ≡ Some ys
  way_found zero x ys h l = absurd (omega arith)
  way_found (suc n) x [] h l =
      ap (λ (b : Bool). cond b (Some []) (option_and_then (λ q. option_map (λ ps. x ∷ ps) (way f n q t)) (f x))) (ap (eq_by_cmp path_cmp x) (sym h) ∙ tie_self path_order x)
  way_found (suc n) x (y ∷ ys) h l =
      ap (λ (b : Bool). cond b (Some []) (option_and_then (λ q. option_map (λ ps. x ∷ ps) (way f n q t)) (f x))) (tie_not path_order x t h.1)
      ∙ ap (option_and_then (λ q. option_map (λ ps. x ∷ ps) (way f n q t))) h.2.1
      ∙ ap (option_map (λ ps. x ∷ ps)) (way_found n h.2.0 ys h.2.2 (omega arith))
      ∙ ap (λ w. Some (w ∷ ys)) (sym h.0)

  pub way_one : (x : Pairs) (a b : List Pairs) → IsWay x a → IsWay x b → a ≡ b
  way_one x [] [] h k = refl
  way_one x [] (y ∷ ys) h k = absurd (k.1 h)
  way_one x (y ∷ ys) [] h k = absurd (h.1 k)
  way_one x (y ∷ ys) (z ∷ zs) h k =
      let same : h.2.0 ≡ k.2.0 = same_some h.2.0 k.2.0 (sym h.2.1 ∙ k.2.1) in
      let first : y ≡ z = h.0 ∙ sym k.0 in
      let rest : ys ≡ zs = way_one h.2.0 ys zs h.2.2 (subst (λ (p : Pairs). IsWay p zs) (sym same) k.2.2) in
      λ i. first i ∷ rest i

  -- the rest of the way from one of its paths
  pub way_from : (x : Pairs) (ys : List Pairs) (q : Pairs) → IsWay x ys → Has ys q → (zs : List Pairs) × IsWay q zs × (length zs ≤ length ys)
  way_from x [] q h i = absurd i
  way_from x (y ∷ ys) q h (inl e) = (y ∷ ys, subst (λ (p : Pairs). IsWay p (y ∷ ys)) (sym h.0 ∙ e) h, omega arith)
  way_from x (y ∷ ys) q h (inr i) = let r = way_from h.2.0 ys q h.2.2 i in (r.0, r.1, omega (arith, r.2))

  pub way_avoids : (x : Pairs) (ys : List Pairs) → IsWay x ys → Has ys t → ⊥
  way_avoids x [] h i = i
  way_avoids x (y ∷ ys) h (inl e) = h.1 (sym h.0 ∙ e)
  way_avoids x (y ∷ ys) h (inr i) = way_avoids h.2.0 ys h.2.2 i

  way_once : (x y : Pairs) (ys : List Pairs) → IsWay x (y ∷ ys) → (q : Pairs) → Has ys q → y ≡ q → ⊥
  way_once x y ys h q i e =
      let r = way_from h.2.0 ys q h.2.2 i in
      let whole : IsWay q (y ∷ ys) = subst (λ (p : Pairs). IsWay p (y ∷ ys)) (sym h.0 ∙ e) h in
      let same : length r.0 ≡ suc (length ys) = ap length (way_one q r.0 (y ∷ ys) r.1 whole) in
      omega (arith, same, r.2)

  pub way_distinct : (x : Pairs) (ys : List Pairs) → IsWay x ys → IsDistinct (eq_by_cmp path_cmp) ys
  way_distinct x [] h = distinct_none
  way_distinct x (y ∷ ys) h = distinct_more y ys (way_once x y ys h) (way_distinct h.2.0 ys h.2.2)

  -- what each on it leads to
  pub way_follows : (p x : Pairs) (ys : List Pairs) → f p ≡ Some x → IsWay x ys → map f (p ∷ ys) ≡ map Some (ys ++ t ∷ [])
  way_follows p x [] e h = ap (λ v. v ∷ []) (e ∙ ap Some h)
  way_follows p x (y ∷ ys) e h =
      let first : f p ≡ Some y = e ∙ ap Some (sym h.0) in
      let rest : map f (y ∷ ys) ≡ map Some (ys ++ t ∷ []) = way_follows y h.2.0 ys (ap f h.0 ∙ h.2.1) h.2.2 in
      λ i. first i ∷ rest i

  pub follows_way : (p : Pairs) (ys : List Pairs) → (Has ys t → ⊥) → map f (p ∷ ys) ≡ map Some (ys ++ t ∷ []) → (x : Pairs) × (f p ≡ Some x) × IsWay x ys
  follows_way p [] n e = (t, ap (λ (l : List (Option Pairs)). get_or l 0 None) e, refl)
  follows_way p (y ∷ ys) n e =
      let r = follows_way y ys (λ i. n (inr i)) (ap (λ (l : List (Option Pairs)). drop 1 l) e) in
      (y, ap (λ (l : List (Option Pairs)). get_or l 0 None) e, (refl, (λ s. n (inl s)), (r.0, r.1, r.2)))

  -- ways and steps
  pub steps_way : (n : ℕ) (x : Pairs) → Steps f n x t → (ys : List Pairs) × IsWay x ys
  steps_way zero x k = ([], k)
  steps_way (suc n) x k =
      let r = steps_way n k.0 k.2 in
      elim (decide path_order x t) [
        | yes e ↦ ([], e)
        | no ne ↦ (x ∷ r.0, (refl, ne, (k.0, k.1, r.1)))
      ]

  pub way_steps : (x : Pairs) (ys : List Pairs) → IsWay x ys → Steps f (length ys) x t
  way_steps x [] h = h
  way_steps x (y ∷ ys) h = (h.2.0, h.2.1, way_steps h.2.0 ys h.2.2)

  pub way_leads : (x : Pairs) (ys : List Pairs) → IsWay x ys → Leads f x t
  way_leads x ys h = (length ys, way_steps x ys h)

  pub leads_on : (x : Pairs) (ys : List Pairs) (q : Pairs) → IsWay x ys → Has ys q → Leads f q t
  leads_on x ys q h i = let r = way_from x ys q h i in way_leads q r.0 r.1

  pub leads_to : (x : Pairs) (ys : List Pairs) (q : Pairs) → IsWay x ys → Has ys q → Leads f x q
  leads_to x [] q h i = absurd i
  leads_to x (y ∷ ys) q h (inl e) = (0, sym h.0 ∙ e)
  leads_to x (y ∷ ys) q h (inr i) = let r = leads_to h.2.0 ys q h.2.2 i in (suc r.0, (h.2.0, h.2.1, r.1))

  begins : (z : Pairs) (ys : List Pairs) → IsWay z ys → (t ≡ z) ⊎ Has ys z
  begins z [] h = inl (sym h)
  begins z (y ∷ ys) h = inr (inl h.0)

  later : (y : Pairs) (ys : List Pairs) (z : Pairs) → (t ≡ z) ⊎ Has ys z → (t ≡ z) ⊎ Has (y ∷ ys) z
  later y ys z (inl e) = inl e
  later y ys z (inr i) = inr (inr i)

  way_closed : (x : Pairs) (ys : List Pairs) (y z : Pairs) → IsWay x ys → Has ys y → f y ≡ Some z → (t ≡ z) ⊎ Has ys z
  way_closed x [] y z h i e = absurd i
  way_closed x (w ∷ ys) y z h (inl s) e =
      let same : h.2.0 ≡ z = same_some h.2.0 z (sym h.2.1 ∙ ap f (sym h.0 ∙ s) ∙ e) in
      later w ys z (subst (λ (p : Pairs). (t ≡ p) ⊎ Has ys p) same (begins h.2.0 ys h.2.2))
  way_closed x (w ∷ ys) y z h (inr i) e = later w ys z (way_closed h.2.0 ys y z h.2.2 i e)

  on_ring_next : (x : Pairs) (ys : List Pairs) (y z : Pairs) → f t ≡ Some x → IsWay x ys → (t ≡ y) ⊎ Has ys y → f y ≡ Some z → (t ≡ z) ⊎ Has ys z
  on_ring_next x ys y z ft h (inl s) e = subst (λ (p : Pairs). (t ≡ p) ⊎ Has ys p) (same_some x z (sym ft ∙ ap f s ∙ e)) (begins x ys h)
  on_ring_next x ys y z ft h (inr i) e = way_closed x ys y z h i e

  -- nothing leads off a ring
  pub ring_closed : (x : Pairs) (ys : List Pairs) → f t ≡ Some x → IsWay x ys → (n : ℕ) (y q : Pairs) → (t ≡ y) ⊎ Has ys y → Steps f n y q → (t ≡ q) ⊎ Has ys q
  ring_closed x ys ft h zero y q i k = subst (λ (p : Pairs). (t ≡ p) ⊎ Has ys p) k i
  ring_closed x ys ft h (suc n) y q i k = ring_closed x ys ft h n k.0 q (on_ring_next x ys y k.0 ft h i k.1) k.2

-- What a slot that is left, and one to which a port comes, are to the words that name slots.
use Rattle.std.proofs.Common.{◌≡◌, ℕ, zero, suc, ◌+◌, ◌≤◌, ℤ, pos, negsuc, Bool, true, false, cond, Option, Some, None, List, [], ◌∷◌, ◌++◌, length, map, set, slice_get, option_to_list, unwrap_or, refl, sym, ap, ◌∙◌, arith}
use Rattle.std.specs.Ordering.{int_eq}
use Rattle.std.proofs.lemmas.Bool.Decides.{Decides-int_eq}
use Rattle.fm_base.specs.declared.port.PortValue.{PortValue}
use Rattle.fm_code.specs.Passing.{is_port}
use Rattle.fm_net.specs.Owned.{count, one}
use Rattle.fm_net.specs.Typed.{AllIn}
use Rattle.fm_net.proofs.Counts.{count-append, count-cons, count-nil}
use Rattle.fm_code_preserves.specs.Weights.{IsParted, masked, weight}
use Rattle.fm_code_preserves.proofs.Masks.{weight-append}
use Rattle.fm_proc_language.specs.Slots as slots
use Rattle.fm_proc_language.specs.Slots.{all_drained, all_left, drained, in_slot, left, no_port, port_in, put, put_by, vacated}
use Rattle.fm_proc_language.proofs.Drained.{drained_ports, still_free}
use Rattle.fm_proc_invariant.specs.Moves.{AreOnce, IsOther, IsSlots, IsUsed, Moves, port_weight, port_words, same_word, use_in, use_of}

-- ---- lists

get_set : {X : Type 0} (xs : List X) (k : ℕ) (x y : X) → slice_get xs k ≡ Some y → slice_get (set xs k x) k ≡ Some x
get_set [] k x y e = absurd (cc)
get_set (z ∷ xs) zero x y e = refl
get_set (z ∷ xs) (suc k) x y e = get_set xs k x y e

get_set_other : {X : Type 0} (xs : List X) (k j : ℕ) (x : X) → (k ≡ j → ⊥) → slice_get (set xs k x) j ≡ slice_get xs j
get_set_other [] k j x ne = refl
get_set_other (z ∷ xs) zero zero x ne = absurd (ne refl)
get_set_other (z ∷ xs) zero (suc j) x ne = refl
get_set_other (z ∷ xs) (suc k) zero x ne = refl
get_set_other (z ∷ xs) (suc k) (suc j) x ne = get_set_other xs k j x (λ e. ne (ap suc e))

get_last : {X : Type 0} (xs : List X) (x : X) → slice_get (xs ++ x ∷ []) (length xs) ≡ Some x
get_last [] x = refl
get_last (y ∷ xs) x = get_last xs x

get_before : {X : Type 0} (xs ys : List X) (k : ℕ) (y : X) → slice_get xs k ≡ Some y → slice_get (xs ++ ys) k ≡ Some y
get_before [] ys k y e = absurd (cc)
get_before (x ∷ xs) ys zero y e = e
get_before (x ∷ xs) ys (suc k) y e = get_before xs ys k y e

below : {X : Type 0} (xs : List X) (k : ℕ) (y : X) → slice_get xs k ≡ Some y → k ≡ length xs → ⊥
below [] k y e h = cc
below (x ∷ xs) zero y e h = omega (arith, h)
below (x ∷ xs) (suc k) y e h = below xs k y e (omega (arith, h))

-- ---- words

same_self : (w : ℤ) → same_word w w ≡ 1
same_self w = ap (λ (b : Bool). cond b 1 0) ((Decides-int_eq w w).1 refl)

same_or : (w v : ℤ) → (1 ≤ same_word w v → v ≡ w)
same_or w v h = go (int_eq v w) refl h
  where
    go : (b : Bool) → int_eq v w ≡ b → 1 ≤ cond b 1 0 → v ≡ w
    go true e h = (Decides-int_eq v w).0 e
    go false e h = absurd (omega (arith, h))

same_other : (w v : ℤ) → (v ≡ w → ⊥) → same_word w v ≡ 0
same_other w v ne = go (int_eq v w) refl
  where
    go : (b : Bool) → int_eq v w ≡ b → ◌≡◌ {A = ℕ} (cond b 1 0) 0
    go true e = absurd (ne ((Decides-int_eq v w).0 e))
    go false e = refl

-- two sums that agree at each word that is there
pub weight_same : (f g : ℤ → ℕ) (ws : List ℤ) → ((w : ℤ) → 1 ≤ weight (same_word w) ws → f w ≡ g w) → weight f ws ≡ weight g ws
weight_same f g [] h = refl
weight_same f g (w ∷ ws) h =
    let here : f w ≡ g w = h w (omega (arith, same_self w)) in
    let rest : weight f ws ≡ weight g ws = weight_same f g ws (λ v at. h v (omega (arith, at))) in
    omega (arith, here, rest)

-- how often a port stands among those that words name
pub count_named : (s : slots.Slots) (z : PortValue) (ws : List ℤ) → count z (map (port_in s) ws) ≡ weight (port_weight s z) ws
count_named s z [] = count-nil z
count_named s z (w ∷ ws) = count-cons z (port_in s w) (map (port_in s) ws) ∙ ap (λ n. one (port_in s w) z + n) (count_named s z ws)

-- ---- slots in use

-- a word that names a slot in use
pub record IsHeld (s : slots.Slots) (w : ℤ) : Type 0 where
  pub before : ℕ
  pub port : PortValue
  pub number : w ≡ pos (suc before)
  pub there : slice_get s.ports before ≡ Some (Some port)

pub held_of : (s : slots.Slots) (w : ℤ) → 1 ≤ use_of s w → IsHeld s w
held_of s (pos zero) h = absurd (omega (arith, h))
held_of s (negsuc n) h = absurd (omega (arith, h))
held_of s (pos (suc k)) h = go (slice_get s.ports k) refl h
  where
    go : (o : Option (Option PortValue)) → slice_get s.ports k ≡ o → 1 ≤ use_in o → IsHeld s (pos (suc k))
    go None e h = absurd (omega (arith, h))
    go (Some None) e h = absurd (omega (arith, h))
    go (Some (Some x)) e h = record { before = k; port = x; number = refl; there = e }

used_of : (s : slots.Slots) (w : ℤ) → (h : IsHeld s w) → use_of s w ≡ 1
used_of s w h = ap (use_of s) h.number ∙ ap use_in h.there

use_small : (s : slots.Slots) (w : ℤ) → use_of s w ≤ 1
use_small s (pos zero) = omega arith
use_small s (negsuc n) = omega arith
use_small s (pos (suc k)) = go (slice_get s.ports k)
  where
    go : (o : Option (Option PortValue)) → use_in o ≤ 1
    go None = omega arith
    go (Some None) = omega arith
    go (Some (Some x)) = omega arith

pub slot_is : (s : slots.Slots) (w : ℤ) (h : IsHeld s w) → in_slot s w ≡ Some h.port
slot_is s w h = ap (in_slot s) h.number ∙ ap (λ (o : Option (Option PortValue)). unwrap_or o None) h.there

pub port_is : (s : slots.Slots) (w : ℤ) (h : IsHeld s w) → port_in s w ≡ h.port
port_is s w h = ap (λ (o : Option PortValue). unwrap_or o no_port) (slot_is s w h)

-- it names the same port in other slots where it stands there
stays : (s t : slots.Slots) (w : ℤ) (h : IsHeld s w) → slice_get t.ports h.before ≡ Some (Some h.port) → IsHeld t w × (port_in t w ≡ port_in s w)
stays s t w h e =
    let held : IsHeld t w = record { before = h.before; port = h.port; number = h.number; there = e } in
    (held, port_is t w held ∙ sym (port_is s w h))

-- a word that is there names a slot in use
pub held_in : (s : slots.Slots) (ws : List ℤ) → IsUsed s ws → (w : ℤ) → 1 ≤ weight (same_word w) ws → IsHeld s w
held_in s ws used w at = held_of s w (omega (arith, used.once w, at))

-- ---- leaving

some_some : (x : PortValue) → ◌≡◌ {A = Option (Option PortValue)} (Some (Some x)) (Some None) → ⊥
some_some x e = cc

module _ (ports : List (Option PortValue)) where
  abbrev IsFree : ℕ → Type 0
  IsFree k = slice_get ports k ≡ Some None

  -- a slot in use is none of the free ones
  taken_apart : (k : ℕ) (x : PortValue) (ks : List ℕ) → slice_get ports k ≡ Some (Some x) → AllIn IsFree ks → IsOther k ks
  taken_apart k x [] e free = tt
  taken_apart k x (j ∷ ks) e free = ((λ h. some_some x (sym e ∙ ap (slice_get ports) h ∙ free.0)), taken_apart k x ks e free.1)

  -- what comes to one slot doesn't fill others
  others_free : (k : ℕ) (o : Option PortValue) (ks : List ℕ) → IsOther k ks → AllIn IsFree ks → AllIn (λ (j : ℕ). slice_get (set ports k o) j ≡ Some None) ks
  others_free k o [] other free = tt
  others_free k o (j ∷ ks) other free = (get_set_other ports k j o other.0 ∙ free.0, others_free k o ks other.1 free.1)

slot_of : (s : slots.Slots) (w : ℤ) (h : IsHeld s w) → slots.before w ≡ h.before
slot_of s w h = ap slots.before h.number

there_by : (s : slots.Slots) (w : ℤ) (h : IsHeld s w) → slice_get s.ports (slots.before w) ≡ Some (Some h.port)
there_by s w h = ap (slice_get s.ports) (slot_of s w h) ∙ h.there

left_slots : (s : slots.Slots) (w : ℤ) → IsSlots s → IsHeld s w → IsSlots (left s w)
left_slots s w is h =
    let other = taken_apart s.ports (slots.before w) h.port s.free (there_by s w h) is.empty in
    record {
      empty = (get_set s.ports (slots.before w) None (Some h.port) (there_by s w h), others_free s.ports (slots.before w) None s.free other is.empty);
      once = (other, is.once);
    }

left_others : (s : slots.Slots) (w v : ℤ) → IsHeld s w → IsHeld s v → (w ≡ v → ⊥) → IsHeld (left s w) v × (port_in (left s w) v ≡ port_in s v)
left_others s w v h g ne =
    let other : slots.before w ≡ g.before → ⊥ = λ e. ne (h.number ∙ ap (λ k. pos (suc k)) (sym (slot_of s w h) ∙ e) ∙ sym g.number) in
    stays s (left s w) v g (get_set_other s.ports (slots.before w) g.before None other ∙ g.there)

-- one word of the process goes, and its slot is left
module _ (s : slots.Slots) (w : ℤ) (ws us : List ℤ) (parted : IsParted ws (w ∷ []) us) where
  one_there : 1 ≤ weight (same_word w) ws
  one_there = omega (arith, parted (same_word w), same_self w)

  left_off : IsUsed s ws → (v : ℤ) → 1 ≤ weight (same_word v) us → w ≡ v → ⊥
  left_off used v at e =
      let same : weight (same_word w) us ≡ weight (same_word v) us = ap (λ (x : ℤ). weight (same_word x) us) e in
      absurd (omega (arith, at, same, parted (same_word w), same_self w, used.once w, use_small s w))

  pub leaves : (x : PortValue) → in_slot s w ≡ Some x → Moves s ws (left s w) us [] (x ∷ [])
  leaves x at = record {
    used = λ used. record {
      slots = left_slots s w used.slots (held_in s ws used w one_there);
      once = λ v. once used v;
    };
    same = λ used z.
        let h = held_in s ws used w one_there in
        let stays_same : weight (port_weight (left s w) z) us ≡ weight (port_weight s z) us = weight_same (port_weight (left s w) z) (port_weight s z) us
        (λ v there. ap (λ (p : PortValue). one p z) (left_others s w v h (held_in s ws used v (omega (arith, there, parted (same_word v)))) (left_off used v there)).1) in
        let named : port_in s w ≡ x = ap (λ (o : Option PortValue). unwrap_or o no_port) at in
        omega (arith, parted (port_weight s z), stays_same, count-cons z x [], count-nil z, ap (λ (p : PortValue). one p z) named);
  }
    where
      once : IsUsed s ws → (v : ℤ) → weight (same_word v) us ≤ use_of (left s w) v
      once used v = go (weight (same_word v) us) refl
        where
          go : (n : ℕ) → weight (same_word v) us ≡ n → weight (same_word v) us ≤ use_of (left s w) v
          go zero e = omega (arith, e)
          go (suc n) e =
              let there : 1 ≤ weight (same_word v) us = omega (arith, e) in
              let h = held_in s ws used w one_there in
              let g = held_in s ws used v (omega (arith, there, parted (same_word v))) in
              let k = left_others s w v h g (left_off used v there) in
              omega (arith, used_of (left s w) v k.0, parted (same_word v), used.once v, use_small s v)

-- ---- putting

put_slots_by : (ks : List ℕ) (s : slots.Slots) (x : PortValue) → AllIn (IsFree s.ports) ks → AreOnce ks → IsSlots (put_by ks s x).1
put_slots_by [] s x free once = record { empty = tt; once = tt }
put_slots_by (k ∷ ks) s x free once = record { empty = others_free s.ports k (Some x) ks once.0 free.1; once = once.1 }

put_there : (ks : List ℕ) (s : slots.Slots) (x : PortValue) → AllIn (IsFree s.ports) ks → (h : IsHeld (put_by ks s x).1 (put_by ks s x).0) × (h.port ≡ x)
put_there [] s x free = (record { before = length s.ports; port = x; number = refl; there = get_last s.ports (Some x) }, refl)
put_there (k ∷ ks) s x free = (record { before = k; port = x; number = refl; there = get_set s.ports k (Some x) None free.0 }, refl)

same_slot : (w : ℤ) (j k : ℕ) → w ≡ pos (suc j) → w ≡ pos (suc k) → j ≡ k
same_slot w j k e h = ap slots.before (sym e ∙ h)

put_others_by : (ks : List ℕ) (s : slots.Slots) (x : PortValue) (w : ℤ) → AllIn (IsFree s.ports) ks → IsHeld s w
    → IsHeld (put_by ks s x).1 w × (port_in (put_by ks s x).1 w ≡ port_in s w) × (w ≡ (put_by ks s x).0 → ⊥)
put_others_by [] s x w free h =
    let kept = stays s (put_by [] s x).1 w h (get_before s.ports (Some x ∷ []) h.before (Some h.port) h.there) in
    (kept.0, kept.1, λ e. below s.ports h.before (Some h.port) h.there (same_slot w h.before (length s.ports) h.number e))
put_others_by (k ∷ ks) s x w free h =
    let other : k ≡ h.before → ⊥ = λ e. some_some h.port (sym h.there ∙ ap (slice_get s.ports) (sym e) ∙ free.0) in
    let kept = stays s (put_by (k ∷ ks) s x).1 w h (get_set_other s.ports k h.before (Some x) other ∙ h.there) in
    (kept.0, kept.1, λ e. other (sym (same_slot w h.before k h.number e)))

module _ (s : slots.Slots) (x : PortValue) (ws : List ℤ) where
  abbrev new : ℤ
  new = (put s x).0

  abbrev filled : slots.Slots
  filled = (put s x).1

  put_off : IsUsed s ws → (v : ℤ) → 1 ≤ weight (same_word v) ws → IsHeld filled v × (port_in filled v ≡ port_in s v) × (v ≡ new → ⊥)
  put_off used v at = put_others_by s.free s x v used.slots.empty (held_in s ws used v at)

  -- a port comes to a slot, which a word more names
  pub comes : Moves s ws filled (new ∷ ws) (x ∷ []) []
  comes = record {
    used = λ used. record { slots = put_slots_by s.free s x used.slots.empty used.slots.once; once = once used };
    same = λ used z.
        let h = put_there s.free s x used.slots.empty in
        let named : port_in filled new ≡ x = port_is filled new h.0 ∙ h.1 in
        let rest : weight (port_weight filled z) ws ≡ weight (port_weight s z) ws = weight_same (port_weight filled z) (port_weight s z) ws (λ v there. ap (λ (p : PortValue). one p z) (put_off used v there).1) in
        omega (arith, rest, count-cons z x [], count-nil z, ap (λ (p : PortValue). one p z) named);
  }
    where
      once : IsUsed s ws → (v : ℤ) → weight (same_word v) (new ∷ ws) ≤ use_of filled v
      once used v = go (weight (same_word v) ws) refl
        where
          fresh : (b : Bool) → int_eq new v ≡ b → weight (same_word v) ws ≡ 0 → cond b 1 0 + weight (same_word v) ws ≤ use_of filled v
          fresh false e none = omega (arith, none)
          fresh true e none =
              let h = put_there s.free s x used.slots.empty in
              let same : use_of filled v ≡ 1 = ap (use_of filled) (sym ((Decides-int_eq new v).0 e)) ∙ used_of filled new h.0 in
              omega (arith, none, same)

          go : (n : ℕ) → weight (same_word v) ws ≡ n → weight (same_word v) (new ∷ ws) ≤ use_of filled v
          go zero e = fresh (int_eq new v) refl e
          go (suc n) e =
              let there : 1 ≤ weight (same_word v) ws = omega (arith, e) in
              let k = put_off used v there in
              omega (arith, same_other v new (λ h. k.2 (sym h)), used_of filled v k.0, used.once v, use_small s v)

-- ---- one move after the other

pub stays_so : (s : slots.Slots) (ws us : List ℤ) → ((g : ℤ → ℕ) → weight g us ≡ weight g ws) → Moves s ws s us [] []
stays_so s ws us same = record {
  used = λ used. record { slots = used.slots; once = λ w. omega (arith, used.once w, same (same_word w)) };
  same = λ used z. omega (arith, same (port_weight s z));
}

pub then_moves : {s t r : slots.Slots} {ws us vs : List ℤ} {ins outs more lost : List PortValue} → Moves s ws t us ins outs → Moves t us r vs more lost → Moves s ws r vs (ins ++ more) (outs ++ lost)
then_moves {ins = ins} {outs = outs} {more = more} {lost = lost} a b = record {
  used = λ used. b.used (a.used used);
  same = λ used z. omega (arith, a.same used z, b.same (a.used used) z, count-append z ins more, count-append z outs lost);
}

-- with as many ports of each name in and out
pub moves_like : {s t : slots.Slots} {ws us : List ℤ} {ins outs more lost : List PortValue} → Moves s ws t us ins outs → ((z : PortValue) → count z more ≡ count z ins) → ((z : PortValue) → count z lost ≡ count z outs) → Moves s ws t us more lost
moves_like m a b = record { used = m.used; same = λ used z. omega (arith, m.same used z, a z, b z) }

-- words that are let go, one after the other
pub all_leave : (s : slots.Slots) (ds ws us : List ℤ) → IsParted ws ds us → IsUsed s ws → Moves s ws (all_left s ds) us [] (vacated s ds)
all_leave s [] ws us parted used = stays_so s ws us (λ g. omega (arith, parted g))
all_leave s (d ∷ ds) ws us parted used =
    let split : IsParted ws (d ∷ []) (ds ++ us) = λ g. omega (arith, parted g, weight-append g ds us) in
    let h = held_in s ws used d (omega (arith, split (same_word d), same_self d)) in
    let one = leaves s d ws (ds ++ us) split h.port (slot_is s d h) in
    let rest = all_leave (left s d) ds (ds ++ us) us (λ g. weight-append g ds us) (one.used used) in
    let out : option_to_list (in_slot s d) ≡ h.port ∷ [] = ap option_to_list (slot_is s d h) in
    moves_like (then_moves one rest) (λ z. refl) (λ z. ap (λ (l : List PortValue). count z (l ++ vacated (left s d) ds)) out)

-- ---- slots to which no other port comes

use_same : (s t : slots.Slots) (w : ℤ) → s.ports ≡ t.ports → use_of s w ≡ use_of t w
use_same s t (pos zero) e = refl
use_same s t (pos (suc k)) e = ap (λ (l : List (Option PortValue)). use_in (slice_get l k)) e
use_same s t (negsuc n) e = refl

named_same : (s t : slots.Slots) (w : ℤ) → s.ports ≡ t.ports → port_in s w ≡ port_in t w
named_same s t w e = ap (λ (l : List (Option PortValue)). unwrap_or (unwrap_or (slice_get l (slots.before w)) None) no_port) e

drained_slots : (s : slots.Slots) (ds : List ℤ) → IsSlots s → IsSlots (all_drained s ds)
drained_slots s [] is = is
drained_slots s (d ∷ ds) is = drained_slots (drained s d) ds (record { empty = still_free s.ports (slots.before d) s.free is.empty; once = is.once })

-- words that are let go at the end
pub all_drain : (s : slots.Slots) (ds ws us : List ℤ) → IsParted ws ds us → IsUsed s ws → Moves s ws (all_drained s ds) us [] (vacated s ds)
all_drain s ds ws us parted used =
    let m = all_leave s ds ws us parted used in
    let after = all_drained s ds in
    let like = all_left s ds in
    let same = drained_ports ds s in
    record {
      used = λ used. record { slots = drained_slots s ds used.slots; once = λ w. omega (arith, (m.used used).once w, use_same after like w same) };
      same = λ used z. omega (
        arith,
        m.same used z,
        weight_same (port_weight after z) (port_weight like z) us (λ v there. ap (λ (p : PortValue). one p z) (named_same after like v same)),
      );
    }

-- ---- words of a frame

pub port_words_weigh : (mask : ℕ → Bool) (g : ℤ → ℕ) (n : ℕ) (ws : List ℤ) → weight g (port_words mask n ws) ≡ masked mask g n ws
port_words_weigh mask g n [] = refl
port_words_weigh mask g n (w ∷ ws) = go (mask n) (is_port w) (port_words_weigh mask g (suc n) ws)
  where
    go : (a b : Bool) → weight g (port_words mask (suc n) ws) ≡ masked mask g (suc n) ws
        → weight g (cond a (cond b (w ∷ port_words mask (suc n) ws) (port_words mask (suc n) ws)) (port_words mask (suc n) ws)) ≡ cond a (cond b (g w) 0) 0 + masked mask g (suc n) ws
    go true true h = omega (arith, h)
    go true false h = omega (arith, h)
    go false b h = omega (arith, h)

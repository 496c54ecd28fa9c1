-- What putting a port into a slot, and leaving slots, are to the words that name slots in use.
use Rattle.std.proofs.Common.{◌≡◌, ℕ, zero, suc, ℤ, pos, Bool, true, false, not, Option, Some, None, unwrap_or, List, [], ◌∷◌, ◌++◌, length, map, option_to_list, set, slice_get, refl, sym, ap, ◌∙◌, arith, suc-ne-zero}
use Rattle.std.specs.Ordering.{int_eq}
use Rattle.std.proofs.lemmas.Bool.Decides.{Decides-int_eq}
use Rattle.fm_base.specs.declared.port.PortValue.{PortValue}
use Rattle.fm_net.specs.Typed.{AllIn}
use Rattle.fm_values.specs.Trips.{natural}
use Rattle.fm_code.specs.Passing.{is_port}
use Rattle.fm_proc_language.specs.Slots as slots
use Rattle.fm_proc_language.specs.Slots.{no_port, in_slot, port_in, put_by, put, left, drained, all_left, all_drained, vacated}
use Rattle.fm_proc_language.proofs.Drained.{drained_ports, still_free}
use Rattle.fm_proc_simulation.specs.SlotWords.{IsHeld, IsSlots, IsOther, AreOnce, NameTheSame}

-- Lists.

get_set : {X : Type 0} (xs : List X) (k : ℕ) (x y : X) → slice_get xs k ≡ Some y → slice_get (set xs k x) k ≡ Some x
get_set [] k x y e = absurd (cc)
get_set (z ∷ xs) zero x y e = refl
get_set (z ∷ xs) (suc k) x y e = get_set xs k x y e

get_set_other : {X : Type 0} (xs : List X) (k j : ℕ) (x : X) → (k ≡ j → ⊥) → slice_get (set xs k x) j ≡ slice_get xs j
get_set_other [] k j x ne = refl
get_set_other (z ∷ xs) zero zero x ne = absurd (ne refl)
get_set_other (z ∷ xs) zero (suc j) x ne = refl
get_set_other (z ∷ xs) (suc k) zero x ne = refl
get_set_other (z ∷ xs) (suc k) (suc j) x ne = get_set_other xs k j x (λ e. ne (ap suc e))

get_last : {X : Type 0} (xs : List X) (x : X) → slice_get (xs ++ x ∷ []) (length xs) ≡ Some x
get_last [] x = refl
get_last (y ∷ xs) x = get_last xs x

get_before : {X : Type 0} (xs ys : List X) (k : ℕ) (y : X) → slice_get xs k ≡ Some y → slice_get (xs ++ ys) k ≡ Some y
get_before [] ys k y e = absurd (cc)
get_before (x ∷ xs) ys zero y e = e
get_before (x ∷ xs) ys (suc k) y e = get_before xs ys k y e

below : {X : Type 0} (xs : List X) (k : ℕ) (y : X) → slice_get xs k ≡ Some y → k ≡ length xs → ⊥
below [] k y e h = cc
below (x ∷ xs) zero y e h = omega (arith, h)
below (x ∷ xs) (suc k) y e h = below xs k y e (omega (arith, h))

-- what holds of all, with what follows from it
pub all_so : {X : Type 0} (P Q : X → Type 0) → ((x : X) → P x → Q x) → (xs : List X) → AllIn P xs → AllIn Q xs
all_so P Q f [] all = tt
all_so P Q f (x ∷ xs) all = (f x all.0, all_so P Q f xs all.1)

-- One slot.

some_some : (x : PortValue) → ◌≡◌ {A = Option (Option PortValue)} (Some (Some x)) (Some None) → ⊥
some_some x e = cc

pub port_is : (s : slots.Slots) (z : ℤ) (h : IsHeld s z) → port_in s z ≡ h.port
port_is s z h = ap (port_in s) h.number ∙ ap (λ (o : Option (Option PortValue)). unwrap_or (unwrap_or o None) no_port) h.there

-- the word names the same port in other slots in which it stands there
stays : (s t : slots.Slots) (z : ℤ) (h : IsHeld s z) → slice_get t.ports h.before ≡ Some (Some h.port) → IsHeld t z × (port_in t z ≡ port_in s z)
stays s t z h e =
    let held : IsHeld t z = record { before = h.before; port = h.port; number = h.number; there = e } in
    (held, port_is t z held ∙ sym (port_is s z h))

false_of : (b : Bool) → (b ≡ true → ⊥) → b ≡ false
false_of true h = absurd (h refl)
false_of false h = refl

pub port_number : (k : ℕ) → is_port (pos (suc k)) ≡ true
port_number k = ap not (false_of (int_eq (pos (suc k)) (pos 0)) (λ e. suc-ne-zero k (ap natural ((Decides-int_eq (pos (suc k)) (pos 0)).0 e))))

pub held_port : (s : slots.Slots) (z : ℤ) → IsHeld s z → (is_port z ≡ true) × (in_slot s z ≡ Some (port_in s z))
held_port s z h = (
  ap is_port h.number ∙ port_number h.before,
  ap (in_slot s) h.number ∙ ap (λ (o : Option (Option PortValue)). unwrap_or o None) h.there ∙ ap Some (sym (port_is s z h)),
)

-- Putting.

module _ (ports : List (Option PortValue)) where
  abbrev IsFree : ℕ → Type 0
  IsFree k = slice_get ports k ≡ Some None

  -- a slot in use is none of the free ones
  used : (k : ℕ) (x : PortValue) (ks : List ℕ) → slice_get ports k ≡ Some (Some x) → AllIn IsFree ks → IsOther k ks
  used k x [] e free = tt
  used k x (j ∷ ks) e free = ((λ h. some_some x (sym e ∙ ap (slice_get ports) h ∙ free.0)), used k x ks e free.1)

  -- what comes to one slot doesn't fill others
  others_free : (k : ℕ) (o : Option PortValue) (ks : List ℕ) → IsOther k ks → AllIn IsFree ks → AllIn (λ (j : ℕ). slice_get (set ports k o) j ≡ Some None) ks
  others_free k o [] other free = tt
  others_free k o (j ∷ ks) other free = (get_set_other ports k j o other.0 ∙ free.0, others_free k o ks other.1 free.1)

put_slots_by : (ks : List ℕ) (s : slots.Slots) (x : PortValue) → AllIn (IsFree s.ports) ks → AreOnce ks → IsSlots (put_by ks s x).1
put_slots_by [] s x free once = record { empty = tt; once = tt }
put_slots_by (k ∷ ks) s x free once = record { empty = others_free s.ports k (Some x) ks once.0 free.1; once = once.1 }

pub put_slots : (s : slots.Slots) (x : PortValue) → IsSlots s → IsSlots (put s x).1
put_slots s x is = put_slots_by s.free s x is.empty is.once

put_there : (ks : List ℕ) (s : slots.Slots) (x : PortValue) → AllIn (IsFree s.ports) ks → (h : IsHeld (put_by ks s x).1 (put_by ks s x).0) × (h.port ≡ x)
put_there [] s x free = (record { before = length s.ports; port = x; number = refl; there = get_last s.ports (Some x) }, refl)
put_there (k ∷ ks) s x free = (record { before = k; port = x; number = refl; there = get_set s.ports k (Some x) None free.0 }, refl)

pub put_held : (s : slots.Slots) (x : PortValue) → IsSlots s → IsHeld (put s x).1 (put s x).0 × (port_in (put s x).1 (put s x).0 ≡ x)
put_held s x is =
    let h = put_there s.free s x is.empty in
    (h.0, port_is (put s x).1 (put s x).0 h.0 ∙ h.1)

-- two words of slots are one only where the slots are
same_slot : (z : ℤ) (j k : ℕ) → z ≡ pos (suc j) → z ≡ pos (suc k) → j ≡ k
same_slot z j k e h = ap slots.before (sym e ∙ h)

put_others_by : (ks : List ℕ) (s : slots.Slots) (x : PortValue) (z : ℤ) → AllIn (IsFree s.ports) ks → IsHeld s z
    → IsHeld (put_by ks s x).1 z × (port_in (put_by ks s x).1 z ≡ port_in s z) × (z ≡ (put_by ks s x).0 → ⊥)
put_others_by [] s x z free h =
    let kept = stays s (put_by [] s x).1 z h (get_before s.ports (Some x ∷ []) h.before (Some h.port) h.there) in
    (kept.0, kept.1, λ e. below s.ports h.before (Some h.port) h.there (same_slot z h.before (length s.ports) h.number e))
put_others_by (k ∷ ks) s x z free h =
    let other : k ≡ h.before → ⊥ = λ e. some_some h.port (sym h.there ∙ ap (slice_get s.ports) (sym e) ∙ free.0) in
    let kept = stays s (put_by (k ∷ ks) s x).1 z h (get_set_other s.ports k h.before (Some x) other ∙ h.there) in
    (kept.0, kept.1, λ e. other (sym (same_slot z h.before k h.number e)))

pub put_others : (s : slots.Slots) (x : PortValue) (z : ℤ) → IsSlots s → IsHeld s z → IsHeld (put s x).1 z × (port_in (put s x).1 z ≡ port_in s z) × (z ≡ (put s x).0 → ⊥)
put_others s x z is h = put_others_by s.free s x z is.empty h

-- Leaving.

slot_of : (s : slots.Slots) (z : ℤ) (h : IsHeld s z) → slots.before z ≡ h.before
slot_of s z h = ap slots.before h.number

there_by : (s : slots.Slots) (z : ℤ) (h : IsHeld s z) → slice_get s.ports (slots.before z) ≡ Some (Some h.port)
there_by s z h = ap (slice_get s.ports) (slot_of s z h) ∙ h.there

pub left_slots : (s : slots.Slots) (z : ℤ) → IsSlots s → IsHeld s z → IsSlots (left s z)
left_slots s z is h =
    let other = used s.ports (slots.before z) h.port s.free (there_by s z h) is.empty in
    record {
      empty = (get_set s.ports (slots.before z) None (Some h.port) (there_by s z h), others_free s.ports (slots.before z) None s.free other is.empty);
      once = (other, is.once);
    }

pub left_others : (s : slots.Slots) (z w : ℤ) → IsHeld s z → IsHeld s w → (z ≡ w → ⊥) → IsHeld (left s z) w × (port_in (left s z) w ≡ port_in s w)
left_others s z w h g ne =
    let other : slots.before z ≡ g.before → ⊥ = λ e. ne (h.number ∙ ap (λ k. pos (suc k)) (sym (slot_of s z h) ∙ e) ∙ sym g.number) in
    stays s (left s z) w g (get_set_other s.ports (slots.before z) g.before None other ∙ g.there)

-- All words.

pub names_on : (ws : List ℤ) (s t r : slots.Slots) → NameTheSame ws s t → NameTheSame ws t r → NameTheSame ws s r
names_on [] s t r a b = tt
names_on (w ∷ ws) s t r a b = (b.0 ∙ a.0, names_on ws s t r a.1 b.1)

pub names_right : (zs ws : List ℤ) (s t : slots.Slots) → NameTheSame (zs ++ ws) s t → NameTheSame ws s t
names_right [] ws s t all = all
names_right (z ∷ zs) ws s t all = names_right zs ws s t all.1

pub names_same : (ws : List ℤ) (s : slots.Slots) → NameTheSame ws s s
names_same [] s = tt
names_same (w ∷ ws) s = (refl, names_same ws s)

-- others stand, and name what they named, where a slot is left
pub left_all : (s : slots.Slots) (z : ℤ) (ws : List ℤ) → IsHeld s z → IsOther z ws → AllIn (IsHeld s) ws → AllIn (IsHeld (left s z)) ws × NameTheSame ws s (left s z)
left_all s z [] h other held = (tt, tt)
left_all s z (w ∷ ws) h other held =
    let one = left_others s z w h held.0 other.0 in
    let rest = left_all s z ws h other.1 held.1 in
    ((one.0, rest.0), (one.1, rest.1))

-- and where a port comes to a slot
pub put_all : (s : slots.Slots) (x : PortValue) (ws : List ℤ) → IsSlots s → AllIn (IsHeld s) ws → AllIn (IsHeld (put s x).1) ws × NameTheSame ws s (put s x).1 × IsOther (put s x).0 ws
put_all s x [] is held = (tt, tt, tt)
put_all s x (w ∷ ws) is held =
    let one = put_others s x w is held.0 in
    let rest = put_all s x ws is held.1 in
    ((one.0, rest.0), (one.1, rest.1), ((λ e. one.2 (sym e)), rest.2))

pub all_left_others : (s : slots.Slots) (zs ws : List ℤ) → IsSlots s → AllIn (IsHeld s) (zs ++ ws) → AreOnce (zs ++ ws)
    → IsSlots (all_left s zs) × AllIn (IsHeld (all_left s zs)) ws × NameTheSame ws s (all_left s zs)
all_left_others s [] ws is held once = (is, held, names_same ws s)
all_left_others s (z ∷ zs) ws is held once =
    let one = left_all s z (zs ++ ws) held.0 once.0 held.1 in
    let rest = all_left_others (left s z) zs ws (left_slots s z is held.0) one.0 once.1 in
    (rest.0, rest.1, names_on ws s (left s z) (all_left (left s z) zs) (names_right zs ws s (left s z) one.1) rest.2)

drained_slots : (s : slots.Slots) (zs : List ℤ) → IsSlots s → IsSlots (all_drained s zs)
drained_slots s [] is = is
drained_slots s (z ∷ zs) is = drained_slots (drained s z) zs (record { empty = still_free s.ports (slots.before z) s.free is.empty; once = is.once })

-- and where slots are left to which no other port comes
pub all_drained_others : (s : slots.Slots) (zs ws : List ℤ) → IsSlots s → AllIn (IsHeld s) (zs ++ ws) → AreOnce (zs ++ ws)
    → IsSlots (all_drained s zs) × AllIn (IsHeld (all_drained s zs)) ws × NameTheSame ws s (all_drained s zs)
all_drained_others s zs ws is held once =
    let like = all_left_others s zs ws is held once in
    let after = all_drained s zs in
    let same = drained_ports zs s in (
      drained_slots s zs is,
      all_so (IsHeld (all_left s zs)) (IsHeld after) (λ w h. record { before = h.before; port = h.port; number = h.number; there = ap (λ (l : List (Option PortValue)). slice_get l h.before) same ∙ h.there }) ws like.1,
      all_so (λ w. port_in (all_left s zs) w ≡ port_in s w) (λ w. port_in after w ≡ port_in s w)
          (λ w e. ap (λ (l : List (Option PortValue)). unwrap_or (unwrap_or (slice_get l (slots.before w)) None) no_port) same ∙ e) ws like.2,
    )

-- the same ports in other slots that name the same
pub maps_same : (zs : List ℤ) (s t : slots.Slots) → NameTheSame zs s t → map (port_in t) zs ≡ map (port_in s) zs
maps_same [] s t same = refl
maps_same (z ∷ zs) s t same = λ i. same.0 i ∷ maps_same zs s t same.1 i

-- the ports that are let go are those that the words name, where each names a slot in use, and none does twice
pub vacated_held : (s : slots.Slots) (zs : List ℤ) → AllIn (IsHeld s) zs → AreOnce zs → vacated s zs ≡ map (port_in s) zs
vacated_held s [] held once = refl
vacated_held s (z ∷ zs) held once =
    let later = left_all s z zs held.0 once.0 held.1 in
    (λ i. option_to_list ((held_port s z held.0).1 i) ++ vacated (left s z) zs)
    ∙ ap (λ l. port_in s z ∷ l) (vacated_held (left s z) zs later.0 once.1 ∙ maps_same zs s (left s z) later.1)

-- Ports that leave the kept ones with a message, and come with one.
use Rattle.std.proofs.Common.{append-nil, append_assoc, Option, None, refl, ◌≡◌, ◌≢◌, Some, List, [], ◌∷◌, ◌++◌, sym, ap, subst, ◌∙◌, arith}
use Rattle.fm_base.specs.declared.port.PortValue.{PortValue}
use Rattle.fm_base.specs.Channels.{Item, Message, Ports, item_ports, message_ports}
use Rattle.fm_mean.specs.Places.{live}
use Rattle.fm_plain_frame.specs.Leaving.{Yields}
use Rattle.fm_net.specs.Owned.{count, one}
use Rattle.fm_net.proofs.Counts.{count-append, count-cons, count-nil, one_apart, one_self, port_decide}
use Rattle.fm_plain_net.specs.declared.ports.Ports as held
use Rattle.fm_plain_net.specs.Held.{AreKept, AreOnce, IsKept, Stay, StayBut}
use Rattle.fm_plain_net.specs.Readings.{kept}
use native.Mathlib.Decide.{ℕ_discrete}

pub first_kept : (z : PortValue) (zs : List PortValue) (ports : held.Ports) → AreKept ports (z ∷ zs) → kept ports z ≡ Some z
first_kept z zs ports all = all z (omega (arith, count-cons z z zs, one_self z))

pub stay_refl : (ports : held.Ports) (zs : List PortValue) → StayBut zs ports ports
stay_refl ports zs z off k = k

pub stay_more : (xs ys : List PortValue) (old mid new : held.Ports) → StayBut xs old mid → StayBut ys mid new → StayBut (xs ++ ys) old new
stay_more xs ys old mid new first then z off k = then z (omega (arith, off, count-append z xs ys)) (first z (omega (arith, off, count-append z xs ys)) k)

-- one port is taken out
pub stay_without : (z : PortValue) (old new : held.Ports) → ((y : PortValue) → y ≢ z → kept new y ≡ kept old y) → StayBut (z ∷ []) old new
stay_without z old new others y off k = others y (λ e. absurd (omega (arith, off, count-cons y z [], ap (one z) e, one_self z))) ∙ k

-- one port is put in
pub stay_with : (z : PortValue) (old new : held.Ports) → kept new z ≡ Some z → ((y : PortValue) → y ≢ z → kept new y ≡ kept old y) → Stay old new
stay_with z old new here others y k = elim (port_decide y z) [
  | yes e ↦ subst (λ (v : PortValue). IsKept new v) (sym e) here
  | no n ↦ others y n ∙ k
]

pub kept_one : (z : PortValue) (new : held.Ports) → kept new z ≡ Some z → AreKept new (z ∷ [])
kept_one z new here y h = elim (port_decide y z) [
  | yes e ↦ subst (λ (v : PortValue). IsKept new v) (sym e) here
  | no n ↦ absurd (omega (arith, h, count-cons y z [], count-nil y, one_apart z y (λ e. n (sym e))))
]

pub kept_none : (ports : held.Ports) → AreKept ports []
kept_none ports z h = absurd (omega (arith, h, count-nil z))

pub kept_more : (xs ys : List PortValue) (ports : held.Ports) → AreKept ports xs → AreKept ports ys → AreKept ports (xs ++ ys)
kept_more xs ys ports first then z h = elim (ℕ_discrete (count z xs) 0) [
  | yes none ↦ then z (omega (arith, h, none, count-append z xs ys))
  | no some ↦ first z (omega (arith, some))
]

pub kept_stay : (zs : List PortValue) (old new : held.Ports) → Stay old new → AreKept old zs → AreKept new zs
kept_stay zs old new stay all z h = stay z (all z h)

pub stay_on : (old mid new : held.Ports) → Stay old mid → Stay mid new → Stay old new
stay_on old mid new first then z k = then z (first z k)

-- the others of a list in which no port is twice are kept still when some are taken out
pub rest_kept : (xs ys : List PortValue) (old new : held.Ports) → AreOnce (xs ++ ys) → AreKept old (xs ++ ys) → StayBut xs old new → AreKept new ys
rest_kept xs ys old new once all stay z h =
    stay z (omega (arith, h, once z, count-append z xs ys)) (all z (omega (arith, h, count-append z xs ys)))

pub part_kept : (xs ys : List PortValue) (ports : held.Ports) → AreKept ports (xs ++ ys) → AreKept ports xs
part_kept xs ys ports all z h = all z (omega (arith, h, count-append z xs ys))

pub part_once : (xs ys : List PortValue) → AreOnce (xs ++ ys) → AreOnce xs
part_once xs ys once z = omega (arith, once z, count-append z xs ys)

pub rest_once : (xs ys : List PortValue) → AreOnce (xs ++ ys) → AreOnce ys
rest_once xs ys once z = omega (arith, once z, count-append z xs ys)

-- where none is yielded, none is left
pub nothing_left : (o : Option PortValue) (old new : List PortValue) → ((z : PortValue) → o ≡ Some z → ⊥) → Yields old o new → old ≡ []
nothing_left None old new none yields = yields.0
nothing_left (Some z) old new none yields = absurd (none z refl)

-- ---- lists of places, and messages

pub live_cons : (o : Option PortValue) (os : List (Option PortValue)) → live (o ∷ os) ≡ live (o ∷ []) ++ live os
live_cons None os = refl
live_cons (Some z) os = refl

pub live_snoc : (os : List (Option PortValue)) (o : Option PortValue) → live (os ++ o ∷ []) ≡ live os ++ live (o ∷ [])
live_snoc [] o = refl
live_snoc (None ∷ os) o = live_snoc os o
live_snoc (Some z ∷ os) o = ap (λ zs. z ∷ zs) (live_snoc os o)

pub ports_cons : (i : Item) (m : Message) → message_ports (i ∷ m) ≡ message_ports (i ∷ []) ++ message_ports m
ports_cons i m = ap (λ zs. zs ++ message_ports m) (sym (append-nil (item_ports i)))

pub ports_snoc : (m : Message) (i : Item) → message_ports (m ++ i ∷ []) ≡ message_ports m ++ message_ports (i ∷ [])
ports_snoc [] i = refl
ports_snoc (j ∷ m) i = ap (λ zs. item_ports j ++ zs) (ports_snoc m i) ∙ sym (append_assoc (item_ports j) (message_ports m) (message_ports (i ∷ [])))

pub one_item : (ps : List (Option PortValue)) → message_ports (Ports ps ∷ []) ≡ live ps
one_item ps = append-nil (live ps)

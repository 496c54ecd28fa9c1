-- Exchanges keep account of ports: what goes in comes in or comes out, whatever the place.
use Rattle.std.proofs.Common.{◌≡◌, ℕ, zero, suc, ℤ, ◌+◌, ◌≤◌, Option, Some, None, option_to_list, List, [], ◌∷◌, ◌++◌, replicate, slice_get, unwrap_or, refl, ap, arith}
use Rattle.fm_base.specs.declared.port.PortValue.{PortValue}
use Rattle.fm_base.specs.Channels.{Item, Words, Ports, Message, item_ports, message_ports}
use Rattle.fm_net.specs.Owned.{count}
use Rattle.fm_net.proofs.Counts.{count-nil, count-cons, count-append, one_self}
use Rattle.fm_mean.specs.declared.place.Actual.{Actual}
use Rattle.fm_mean.specs.declared.place.Span.{Span}
use Rattle.fm_mean.specs.declared.place.Actual.TheVariants.{Given, Taken}
use Rattle.fm_mean.specs.Places.{items_at, ports_in, item_written, written_from, written, exchanged, item_exchanged, exchange, exchange_all, live, port_at, put_port, taken_ports, stored, stored_all, placed_all, item_from, message_from}

-- how often the port stands among these, and in what came out of a place
abbrev pub living : PortValue → List (Option PortValue) → ℕ
living z ps = count z (live ps)

abbrev pub found : PortValue → Option PortValue → ℕ
found z p = count z (option_to_list p)

abbrev pub within : PortValue → List Item → ℕ
within z vs = count z (message_ports vs)

pub found-none : (z : PortValue) → found z None ≡ 0
found-none z = count-nil z

pub living-cons : (z : PortValue) (p : Option PortValue) (ps : List (Option PortValue)) → living z (p ∷ ps) ≡ found z p + living z ps
living-cons z None ps = omega (arith, count-nil z)
living-cons z (Some x) ps = omega (arith, count-cons z x (live ps), count-cons z x [], count-nil z)

pub within-cons : (z : PortValue) (v : Item) (vs : List Item) → within z (v ∷ vs) ≡ count z (item_ports v) + within z vs
within-cons z v vs = count-append z (item_ports v) (message_ports vs)

-- ---- exchanges

exchanged_law : (z : PortValue) (ps : List (Option PortValue)) (k : ℕ) (p : Option PortValue) → living z (exchanged ps k p).0 + found z (exchanged ps k p).1 ≡ living z ps + found z p
exchanged_law z [] k p = refl
exchanged_law z (q ∷ qs) zero p = omega (arith, living-cons z p qs, living-cons z q qs)
exchanged_law z (q ∷ qs) (suc k) p = omega (arith, exchanged_law z qs k p, living-cons z q qs, living-cons z q (exchanged qs k p).0)

item_law : (z : PortValue) (v : Item) (k : ℕ) (p : Option PortValue) → count z (item_ports (item_exchanged v k p).0) + found z (item_exchanged v k p).1 ≡ count z (item_ports v) + found z p
item_law z (Words ws) k p = refl
item_law z (Ports ps) k p = exchanged_law z ps k p

pub exchange_law : (z : PortValue) (vs : List Item) (i k : ℕ) (p : Option PortValue) → within z (exchange vs i k p).0 + found z (exchange vs i k p).1 ≡ within z vs + found z p
exchange_law z [] i k p = refl
exchange_law z (v ∷ vs) zero k p = omega (arith, item_law z v k p, within-cons z v vs, within-cons z (item_exchanged v k p).0 vs)
exchange_law z (v ∷ vs) (suc i) k p = omega (arith, exchange_law z vs i k p, within-cons z v vs, within-cons z v (exchange vs i k p).0)

pub exchange_all_law : (z : PortValue) (vs : List Item) (i k : ℕ) (ps : List (Option PortValue)) → within z (exchange_all vs i k ps).0 + living z (exchange_all vs i k ps).1 ≡ within z vs + living z ps
exchange_all_law z vs i k [] = refl
exchange_all_law z vs i k (p ∷ ps) =
    let on = exchange vs i k p in
    omega (arith, exchange_law z vs i k p, exchange_all_law z on.0 i (suc k) ps, living-cons z p ps, living-cons z on.1 (exchange_all on.0 i (suc k) ps).1)

no_living : (z : PortValue) (n : ℕ) → living z (replicate n None) ≡ 0
no_living z zero = count-nil z
no_living z (suc n) = omega (arith, living-cons z None (replicate n None), no_living z n, found-none z)

pub taken_law : (z : PortValue) (vs : List Item) (s : Span) → within z (taken_ports vs s).0 + living z (taken_ports vs s).1 ≡ within z vs
taken_law z vs s = omega (arith, exchange_all_law z vs s.variable s.first (replicate s.count None), no_living z s.count)

-- ---- words

item_written_ports : (v : Item) (k : ℕ) (ns : List ℤ) → item_ports (item_written v k ns) ≡ item_ports v
item_written_ports (Words ws) k ns = refl
item_written_ports (Ports ps) k ns = refl

pub written_ports : (vs : List Item) (i k : ℕ) (ns : List ℤ) → message_ports (written_from vs i k ns) ≡ message_ports vs
written_ports [] i k ns = refl
written_ports (v ∷ vs) zero k ns = ap (λ ps. ps ++ message_ports vs) (item_written_ports v k ns)
written_ports (v ∷ vs) (suc i) k ns = ap (λ ps. item_ports v ++ ps) (written_ports vs i k ns)

pub written_law : (z : PortValue) (vs : List Item) (s : Span) (ns : List ℤ) → within z (written vs s ns) ≡ within z vs
written_law z vs s ns = ap (count z) (written_ports vs s.variable s.first ns)

-- ---- messages

pub stored_law : (z : PortValue) (vs : List Item) (s : Span) (m : Item) → within z (stored vs s m).0 + count z (stored vs s m).1 ≡ within z vs + count z (item_ports m)
stored_law z vs s (Words ns) = omega (arith, written_law z vs s ns)
stored_law z vs s (Ports ps) = exchange_all_law z vs s.variable s.first ps

pub stored_all_law : (z : PortValue) (vs : List Item) (ss : List Span) (m : Message) → within z (stored_all vs ss m).0 + count z (stored_all vs ss m).1 ≡ within z vs + within z m
stored_all_law z vs [] [] = refl
stored_all_law z vs (s ∷ ss) [] = refl
stored_all_law z vs [] (m ∷ ms) = refl
stored_all_law z vs (s ∷ ss) (m ∷ ms) =
    let on = stored vs s m in
    omega (arith, stored_law z vs s m, stored_all_law z on.0 ss ms, within-cons z m ms, count-append z on.1 (stored_all on.0 ss ms).1)

pub placed_law : (z : PortValue) (vs : List Item) (ss : List Span) (ps : List PortValue) → within z (placed_all vs ss ps).0 + count z (placed_all vs ss ps).1 ≡ within z vs + count z ps
placed_law z vs [] [] = refl
placed_law z vs (s ∷ ss) [] = refl
placed_law z vs [] (p ∷ ps) = refl
placed_law z vs (s ∷ ss) (p ∷ ps) =
    let on = put_port vs s (Some p) in
    omega (arith, exchange_law z vs s.variable s.first (Some p), placed_law z on.0 ss ps, count-cons z p ps, count-cons z p [], count-nil z, count-append z (option_to_list on.1) (placed_all on.0 ss ps).1)

item_from_law : (z : PortValue) (vs : List Item) (a : Actual) → within z (item_from vs a).0 + count z (item_ports (item_from vs a).1) ≡ within z vs
item_from_law z vs (Given ws back) = omega (arith, count-nil z)
item_from_law z vs (Taken s) = taken_law z vs s

pub message_law : (z : PortValue) (vs : List Item) (args : List Actual) → within z (message_from vs args).0 + within z (message_from vs args).1 ≡ within z vs
message_law z vs [] = omega (arith, count-nil z)
message_law z vs (a ∷ more) =
    let on = item_from vs a in
    omega (arith, item_from_law z vs a, message_law z on.0 more, within-cons z on.1 (message_from on.0 more).1)

-- ---- a port that a place shows is held

living_found : (z : PortValue) (ps : List (Option PortValue)) (k : ℕ) → unwrap_or (slice_get ps k) None ≡ Some z → 1 ≤ living z ps
living_found z [] k is = absurd (cc)
living_found z (p ∷ ps) zero is = omega (arith, living-cons z p ps, ap (found z) is, count-cons z z [], one_self z)
living_found z (p ∷ ps) (suc k) is = omega (arith, living-cons z p ps, living_found z ps k is)

item_found : (z : PortValue) (v : Item) (k : ℕ) → unwrap_or (slice_get (ports_in v) k) None ≡ Some z → 1 ≤ count z (item_ports v)
item_found z (Words ws) k is = absurd (cc)
item_found z (Ports ps) k is = living_found z ps k is

values_found : (z : PortValue) (vs : List Item) (i k : ℕ) → unwrap_or (slice_get (ports_in (items_at vs i)) k) None ≡ Some z → 1 ≤ within z vs
values_found z [] i k is = absurd (cc)
values_found z (v ∷ vs) zero k is = omega (arith, within-cons z v vs, item_found z v k is)
values_found z (v ∷ vs) (suc i) k is = omega (arith, within-cons z v vs, values_found z vs i k is)

pub port_found : (z : PortValue) (vs : List Item) (s : Span) → port_at vs s ≡ Some z → 1 ≤ within z vs
port_found z vs s is = values_found z vs s.variable s.first is

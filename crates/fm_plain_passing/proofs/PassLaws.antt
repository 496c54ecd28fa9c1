-- Loops over the elements of a span: what is done, and what the rest gives, is the whole.
use Rattle.std.proofs.Common.{◌≡◌, ℕ, zero, suc, ◌+◌, Option, Some, None, option_to_list, List, [], ◌∷◌, ◌++◌, replicate, refl, ap, sym, ◌∙◌, arith}
use Rattle.std.proofs.lemmas.List.{append_assoc, append-nil}
use Rattle.fm_base.specs.declared.port.PortValue.{PortValue}
use Rattle.fm_base.specs.Channels.{Item}
use Rattle.fm_mean.specs.declared.place.Span.{Span}
use Rattle.fm_mean.specs.Places.{exchange, exchange_all, live, taken_ports, Returned, settled, port_back, ports_back}
use Rattle.fm_plain_passing.specs.Between.{passed}
use Rattle.fm_plain_passing.proofs.ExchangeLaws.{exchange_null}

-- ---- the ports among these

pub live-append : (ps qs : List (Option PortValue)) → live (ps ++ qs) ≡ live ps ++ live qs
live-append [] qs = refl
live-append (None ∷ ps) qs = live-append ps qs
live-append (Some z ∷ ps) qs = ap (λ l. z ∷ l) (live-append ps qs)

pub live-one : (p : Option PortValue) → live (p ∷ []) ≡ option_to_list p
live-one None = refl
live-one (Some z) = refl

pub live-push : (ps : List (Option PortValue)) (p : Option PortValue) → live (ps ++ p ∷ []) ≡ live ps ++ option_to_list p
live-push ps p = live-append ps (p ∷ []) ∙ ap (λ l. live ps ++ l) (live-one p)

live-cons : (p : Option PortValue) (ps : List (Option PortValue)) → live (p ∷ ps) ≡ option_to_list p ++ live ps
live-cons None ps = refl
live-cons (Some z) ps = refl

-- ---- taking

-- the rest of a span, taken, brings what was taken so far to the whole
abbrev pub TakesRest : (vs : List Item) (i k n count : ℕ) (room : List (Option PortValue)) (all : List Item) (out : List (Option PortValue)) → Type 0
TakesRest vs i k n count room all out = (left : ℕ) → n + left ≡ count → ((exchange_all vs i (k + n) (replicate left None)).0 ≡ all) × (room ++ (exchange_all vs i (k + n) (replicate left None)).1 ≡ out)

pub takes_none : (vs : List Item) (s : Span) (room : List (Option PortValue)) → TakesRest vs s.variable s.first 0 s.count room (taken_ports vs s).0 (room ++ (taken_ports vs s).1)
takes_none vs s room left is =
    let k : s.first + 0 ≡ s.first = omega arith in
    let n : left ≡ s.count = omega arith in (
      ap (λ k. (exchange_all vs s.variable k (replicate left None)).0) k ∙ ap (λ n. (exchange_all vs s.variable s.first (replicate n None)).0) n,
      ap (λ k. room ++ (exchange_all vs s.variable k (replicate left None)).1) k ∙ ap (λ n. room ++ (exchange_all vs s.variable s.first (replicate n None)).1) n,
    )

takes_step : (vs : List Item) (i k j left : ℕ) (room : List (Option PortValue)) (all : List Item) (out : List (Option PortValue)) → j ≡ suc k
    → ((exchange_all vs i k (replicate (suc left) None)).0 ≡ all) × (room ++ (exchange_all vs i k (replicate (suc left) None)).1 ≡ out)
    → ((exchange_all (exchange vs i k None).0 i j (replicate left None)).0 ≡ all) × ((room ++ (exchange vs i k None).1 ∷ []) ++ (exchange_all (exchange vs i k None).0 i j (replicate left None)).1 ≡ out)
takes_step vs i k j left room all out e h =
    let on = (exchange vs i k None).0 in (
      ap (λ x. (exchange_all on i x (replicate left None)).0) e ∙ h.0,
      ap (λ x. (room ++ (exchange vs i k None).1 ∷ []) ++ (exchange_all on i x (replicate left None)).1) e
          ∙ append_assoc room ((exchange vs i k None).1 ∷ []) (exchange_all on i (suc k) (replicate left None)).1 ∙ h.1,
    )

takes_next : (vs : List Item) (i k n count : ℕ) (room : List (Option PortValue)) (all : List Item) (out : List (Option PortValue))
    → TakesRest vs i k n count room all out → TakesRest (exchange vs i (k + n) None).0 i k (n + 1) count (room ++ (exchange vs i (k + n) None).1 ∷ []) all out
takes_next vs i k n count room all out h left is = takes_step vs i (k + n) (k + (n + 1)) left room all out (omega arith) (h (suc left) (omega arith))

pub takes_more : (vs next : List Item) (i k n count : ℕ) (q : Option PortValue) (room new : List (Option PortValue)) (all : List Item) (out : List (Option PortValue))
    → next ≡ (exchange vs i (k + n) None).0 → q ≡ (exchange vs i (k + n) None).1 → new ≡ room ++ q ∷ []
    → TakesRest vs i k n count room all out → TakesRest next i k (n + 1) count new all out
takes_more vs next i k n count q room new all out is out_is put h left sums =
    let on = takes_next vs i k n count room all out h left sums in
    let e : new ≡ room ++ (exchange vs i (k + n) None).1 ∷ [] = put ∙ ap (λ q. room ++ q ∷ []) out_is in (
      ap (λ v. (exchange_all v i (k + (n + 1)) (replicate left None)).0) is ∙ on.0,
      ap (λ v. new ++ (exchange_all v i (k + (n + 1)) (replicate left None)).1) is
          ∙ ap (λ r. r ++ (exchange_all (exchange vs i (k + n) None).0 i (k + (n + 1)) (replicate left None)).1) e ∙ on.1,
    )

pub takes_all : (vs : List Item) (i k n count : ℕ) (room : List (Option PortValue)) (all : List Item) (out : List (Option PortValue))
    → n + 0 ≡ count → TakesRest vs i k n count room all out → (vs ≡ all) × (room ≡ out)
takes_all vs i k n count room all out is h = let end = h 0 is in (end.0, sym (append-nil room) ∙ end.1)

-- ---- putting

pub record PutsRest (vs : List Item) (i k n : ℕ) (rest : List (Option PortValue)) (room : List (Option PortValue)) (all : List Item) (out : List (Option PortValue)) : Type 0 where
  pub memory : (exchange_all vs i (k + n) rest).0 ≡ all
  pub ports : room ++ (exchange_all vs i (k + n) rest).1 ≡ out

pub puts_none : (vs : List Item) (i k : ℕ) (ps : List (Option PortValue)) (room : List (Option PortValue)) → PutsRest vs i k 0 ps room (exchange_all vs i k ps).0 (room ++ (exchange_all vs i k ps).1)
puts_none vs i k ps room =
    let e : k + 0 ≡ k = omega arith in
    record { memory = ap (λ k. (exchange_all vs i k ps).0) e; ports = ap (λ k. room ++ (exchange_all vs i k ps).1) e }

pub puts_more : (vs : List Item) (i k n : ℕ) (p : Option PortValue) (rest room : List (Option PortValue)) (all : List Item) (out : List (Option PortValue))
    → PutsRest vs i k n (p ∷ rest) room all out → PutsRest (exchange vs i (k + n) p).0 i k (n + 1) rest (room ++ (exchange vs i (k + n) p).1 ∷ []) all out
puts_more vs i k n p rest room all out h =
    let on = (exchange vs i (k + n) p).0 in
    let e : k + (n + 1) ≡ suc (k + n) = omega arith in
    record {
      memory = ap (λ x. (exchange_all on i x rest).0) e ∙ h.memory;
      ports = ap (λ x. (room ++ (exchange vs i (k + n) p).1 ∷ []) ++ (exchange_all on i x rest).1) e
          ∙ append_assoc room ((exchange vs i (k + n) p).1 ∷ []) (exchange_all on i (suc (k + n)) rest).1 ∙ h.ports;
    }

pub puts_all : (vs : List Item) (i k n : ℕ) (room : List (Option PortValue)) (all : List Item) (out : List (Option PortValue)) → PutsRest vs i k n [] room all out → (vs ≡ all) × (room ≡ out)
puts_all vs i k n room all out h = (h.memory, sym (append-nil room) ∙ h.ports)

-- ---- passing

-- one port from a place to a formal's element
abbrev pub pass_one : Returned → (i k f j : ℕ) → Returned
pass_one r i k f j = record {
  mine = (exchange r.mine i k None).0;
  theirs = (exchange r.theirs f j (exchange r.mine i k None).1).0;
  drops = r.drops ++ option_to_list (exchange r.theirs f j (exchange r.mine i k None).1).1;
}

abbrev pub pass_from : Returned → (i k f j n : ℕ) → Returned
pass_from r i k f j zero = r
pass_from r i k f j (suc n) = pass_from (pass_one r i k f j) i (suc k) f (suc j) n

-- all of a span first, and then all to the formal
abbrev both_ways : Returned → (i k f j n : ℕ) → Returned
both_ways r i k f j n = record {
  mine = (exchange_all r.mine i k (replicate n None)).0;
  theirs = (exchange_all r.theirs f j (exchange_all r.mine i k (replicate n None)).1).0;
  drops = r.drops ++ live (exchange_all r.theirs f j (exchange_all r.mine i k (replicate n None)).1).1;
}

drops_more : (ds : List PortValue) (p : Option PortValue) (ps : List (Option PortValue)) → (ds ++ option_to_list p) ++ live ps ≡ ds ++ live (p ∷ ps)
drops_more ds p ps = append_assoc ds (option_to_list p) (live ps) ∙ ap (λ l. ds ++ l) (sym (live-cons p ps))

pass_both : (r : Returned) (i k f j n : ℕ) → pass_from r i k f j n ≡ both_ways r i k f j n
pass_both r i k f j zero = ap (λ d. record r { drops = d }) (sym (append-nil r.drops))
pass_both r i k f j (suc n) =
    let p = (exchange r.mine i k None).1 in
    let on = (exchange r.theirs f j p).0 in
    let ps = (exchange_all (exchange r.mine i k None).0 i (suc k) (replicate n None)).1 in
    pass_both (pass_one r i k f j) i (suc k) f (suc j) n
    ∙ ap (λ d. record { mine = (exchange_all (exchange r.mine i k None).0 i (suc k) (replicate n None)).0; theirs = (exchange_all on f (suc j) ps).0; drops = d })
    (drops_more r.drops (exchange r.theirs f j p).1 (exchange_all on f (suc j) ps).1)

abbrev pub PassesRest : (r : Returned) (i k f n count : ℕ) (all : Returned) → Type 0
PassesRest r i k f n count all = (left : ℕ) → n + left ≡ count → pass_from r i (k + n) f n left ≡ all

pub passes_none : (r : Returned) (s : Span) (f : ℕ) → PassesRest r s.variable s.first f 0 s.count (passed s f r)
passes_none r s f left is =
    let k : s.first + 0 ≡ s.first = omega arith in
    let n : left ≡ s.count = omega arith in
    ap (λ k. pass_from r s.variable k f 0 left) k ∙ ap (λ n. pass_from r s.variable s.first f 0 n) n ∙ pass_both r s.variable s.first f 0 s.count

passes_step : (r : Returned) (i k f j left x y : ℕ) (all : Returned) → x ≡ suc k → y ≡ suc j → pass_from r i k f j (suc left) ≡ all → pass_from (pass_one r i k f j) i x f y left ≡ all
passes_step r i k f j left x y all e d h = ap (λ x. pass_from (pass_one r i k f j) i x f y left) e ∙ ap (λ y. pass_from (pass_one r i k f j) i (suc k) f y left) d ∙ h

passes_next : (r : Returned) (i k f n count : ℕ) (all : Returned) → PassesRest r i k f n count all → PassesRest (pass_one r i (k + n) f n) i k f (n + 1) count all
passes_next r i k f n count all h left is = passes_step r i (k + n) f n left (k + (n + 1)) (n + 1) all (omega arith) (omega arith) (h (suc left) (omega arith))

same_three : (a b x y : List Item) (c z : List PortValue) → a ≡ x → b ≡ y → c ≡ z → ◌≡◌ {A = Returned} (record { mine = a; theirs = b; drops = c }) (record { mine = x; theirs = y; drops = z })
same_three a b x y c z e d g =
    ap (λ (l : List Item). let r : Returned = record { mine = l; theirs = b; drops = c } in r) e
    ∙ ap (λ (l : List Item). let r : Returned = record { mine = x; theirs = l; drops = c } in r) d
    ∙ ap (λ (l : List PortValue). let r : Returned = record { mine = x; theirs = y; drops = l } in r) g

one_passed : (r : Returned) (i k f j : ℕ) (mine theirs : List Item) (p q : Option PortValue) (drops : List PortValue)
    → mine ≡ (exchange r.mine i k None).0 → p ≡ (exchange r.mine i k None).1 → theirs ≡ (exchange r.theirs f j p).0 → q ≡ (exchange r.theirs f j p).1 → drops ≡ r.drops ++ option_to_list q
    → ◌≡◌ {A = Returned} (record { mine = mine; theirs = theirs; drops = drops }) (pass_one r i k f j)
one_passed r i k f j mine theirs p q drops mine_is p_is theirs_is q_is drops_are =
    let s = (exchange r.mine i k None).1 in
    same_three mine theirs (exchange r.mine i k None).0 (exchange r.theirs f j s).0 drops (r.drops ++ option_to_list (exchange r.theirs f j s).1) mine_is
    (theirs_is ∙ ap (λ x. (exchange r.theirs f j x).0) p_is)
    (drops_are ∙ ap (λ x. r.drops ++ option_to_list x) (q_is ∙ ap (λ x. (exchange r.theirs f j x).1) p_is))

-- as the loop does it: what was in the room, and what comes into it
pub passes_more : (r : Returned) (i k f n count : ℕ) (mine theirs : List Item) (p q : Option PortValue) (room new : List (Option PortValue)) (all : Returned)
    → mine ≡ (exchange r.mine i (k + n) None).0 → p ≡ (exchange r.mine i (k + n) None).1 → theirs ≡ (exchange r.theirs f n p).0 → q ≡ (exchange r.theirs f n p).1
    → r.drops ≡ live room → new ≡ room ++ q ∷ []
    → PassesRest r i k f n count all → PassesRest (record { mine = mine; theirs = theirs; drops = live new }) i k f (n + 1) count all
passes_more r i k f n count mine theirs p q room new all mine_is p_is theirs_is q_is held put h left sums =
    let drops_are : live new ≡ r.drops ++ option_to_list q = ap live put ∙ live-push room q ∙ ap (λ l. l ++ option_to_list q) (sym held) in
    ap (λ x. pass_from x i (k + (n + 1)) f (n + 1) left) (one_passed r i (k + n) f n mine theirs p q (live new) mine_is p_is theirs_is q_is drops_are)
    ∙ passes_next r i k f n count all h left sums

pub passes_all : (r : Returned) (i k f n count : ℕ) (all : Returned) → n + 0 ≡ count → PassesRest r i k f n count all → r ≡ all
passes_all r i k f n count all is h = h 0 is

-- ---- giving back

abbrev pub GivesRest : (r : Returned) (f i k n count : ℕ) (all : Returned) → Type 0
GivesRest r f i k n count all = (left : ℕ) → n + left ≡ count → ports_back r f n i (k + n) left ≡ all

pub gives_none : (r : Returned) (f i k count : ℕ) → GivesRest r f i k 0 count (ports_back r f 0 i k count)
gives_none r f i k count left is =
    let e : k + 0 ≡ k = omega arith in
    let n : left ≡ count = omega arith in
    ap (λ k. ports_back r f 0 i k left) e ∙ ap (λ n. ports_back r f 0 i k n) n

gives_step : (r : Returned) (f j i k left x y : ℕ) (all : Returned) → x ≡ suc k → y ≡ suc j → ports_back r f j i k (suc left) ≡ all → ports_back (port_back r f j i k) f y i x left ≡ all
gives_step r f j i k left x y all e d h = ap (λ x. ports_back (port_back r f j i k) f y i x left) e ∙ ap (λ y. ports_back (port_back r f j i k) f y i (suc k) left) d ∙ h

pub gives_more : (r next : Returned) (f i k n count : ℕ) (all : Returned) → next ≡ port_back r f n i (k + n) → GivesRest r f i k n count all → GivesRest next f i k (n + 1) count all
gives_more r next f i k n count all is h left sums =
    ap (λ x. ports_back x f (n + 1) i (k + (n + 1)) left) is
    ∙ gives_step r f n i (k + n) left (k + (n + 1)) (n + 1) all (omega arith) (omega arith) (h (suc left) (omega arith))

pub gives_all : (r : Returned) (f i k n count : ℕ) (all : Returned) → n + 0 ≡ count → GivesRest r f i k n count all → r ≡ all
gives_all r f i k n count all is h = h 0 is

-- ---- one port that is given back

at_none : (r : Returned) (i k : ℕ) (theirs : List Item) (o : Option PortValue) → None ≡ o → settled r i k theirs o ≡ r
at_none r i k theirs o is = ap (settled r i k theirs) (sym is)

pub none_back : (r : Returned) (f j i k : ℕ) (theirs : List Item) → theirs ≡ (exchange r.theirs f j None).0 → None ≡ (exchange r.theirs f j None).1
    → ◌≡◌ {A = Returned} (record { mine = r.mine; theirs = theirs; drops = r.drops }) (port_back r f j i k)
none_back r f j i k theirs is none =
    same_three r.mine theirs r.mine r.theirs r.drops r.drops refl (is ∙ exchange_null r.theirs f j (sym none)) refl
    ∙ sym (at_none r i k (exchange r.theirs f j None).0 (exchange r.theirs f j None).1 none)

pub one_back : (r : Returned) (f j i k : ℕ) (mine theirs : List Item) (z : PortValue) (q : Option PortValue) (room new : List (Option PortValue))
    → theirs ≡ (exchange r.theirs f j None).0 → Some z ≡ (exchange r.theirs f j None).1 → mine ≡ (exchange r.mine i k (Some z)).0 → q ≡ (exchange r.mine i k (Some z)).1
    → r.drops ≡ live room → new ≡ room ++ q ∷ []
    → ◌≡◌ {A = Returned} (record { mine = mine; theirs = theirs; drops = live new }) (port_back r f j i k)
one_back r f j i k mine theirs z q room new theirs_is some mine_is q_is held put =
    let drops_are : live new ≡ r.drops ++ option_to_list q = ap live put ∙ live-push room q ∙ ap (λ l. l ++ option_to_list q) (sym held) in
    same_three mine theirs (exchange r.mine i k (Some z)).0 (exchange r.theirs f j None).0 (live new) (r.drops ++ option_to_list (exchange r.mine i k (Some z)).1)
    mine_is theirs_is (drops_are ∙ ap (λ x. r.drops ++ option_to_list x) q_is)
    ∙ ap (settled r i k (exchange r.theirs f j None).0) some

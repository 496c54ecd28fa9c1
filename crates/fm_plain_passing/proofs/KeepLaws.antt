-- Variables one by one, where a process ends: what isn't kept is taken whole.
use Rattle.std.proofs.Common.{◌≡◌, ℕ, zero, suc, ◌+◌, ◌≤◌, ◌<◌, Bool, true, false, cond, Option, Some, None, List, [], ◌∷◌, ◌++◌, length, map, take, drop, replicate, get_or, refl, ap, sym, ◌∙◌, arith}
use Rattle.std.proofs.lemmas.List.{append_assoc, append-nil, length-map, length-take, at_drop_more}
use Rattle.fm_base.specs.declared.port.PortValue.{PortValue}
use Rattle.fm_base.specs.Channels.{Item, Ports, item_ports}
use Rattle.fm_tree.specs.declared.port_type.Kind.{Kind}
use Rattle.fm_tree.specs.declared.port_type.Kind.TheVariants as kind
use Rattle.fm_symbols.specs.declared.names.Variable.{Variable}
use Rattle.fm_mean.specs.Places.{exchanged, exchange, exchange_all, live}
use Rattle.fm_mean.specs.Calls.{is_kept, nulls, null_item, kept}
use Rattle.fm_plain_frame.specs.declared.word.Word.{Word}
use Rattle.fm_plain_frame.specs.Memory.{item_by, item_in, values_of, port_in}
use Rattle.fm_plain_passing.specs.Rooms.{ports_at, lost_by, all_lost}
use Rattle.fm_plain_passing.proofs.PassLaws.{live-append}

-- ---- all of a list of ports

exchanged_all : List (Option PortValue) → ℕ → List (Option PortValue) → List (Option PortValue) × List (Option PortValue)
exchanged_all qs k [] = (qs, [])
exchanged_all qs k (p ∷ ps) = ((exchanged_all (exchanged qs k p).0 (suc k) ps).0, (exchanged qs k p).1 ∷ (exchanged_all (exchanged qs k p).0 (suc k) ps).1)

abbrev Pair : Type 0
Pair = List (Option PortValue) × List (Option PortValue)

exchanged_on : (q : Option PortValue) (qs : List (Option PortValue)) (k : ℕ) (ps : List (Option PortValue)) → ◌≡◌ {A = Pair} (exchanged_all (q ∷ qs) (suc k) ps) (q ∷ (exchanged_all qs k ps).0, (exchanged_all qs k ps).1)
unfolding exchanged_all
exchanged_on q qs k [] = refl
exchanged_on q qs k (p ∷ ps) = let on = exchanged_on q (exchanged qs k p).0 (suc k) ps in ap (λ (r : Pair). let s : Pair = (r.0, (exchanged qs k p).1 ∷ r.1) in s) on

none_live : (n : ℕ) → live (replicate n None) ≡ []
none_live zero = refl
none_live (suc n) = none_live n

none_out : (k n : ℕ) → live (exchanged_all [] k (replicate n None)).1 ≡ []
unfolding exchanged_all
none_out k zero = refl
none_out k (suc n) = none_out (suc k) n

none_left : (k n : ℕ) → (exchanged_all [] k (replicate n None)).0 ≡ []
unfolding exchanged_all
none_left k zero = refl
none_left k (suc n) = none_left (suc k) n

all_left : (qs : List (Option PortValue)) (n : ℕ) → length qs ≤ n → (exchanged_all qs 0 (replicate n None)).0 ≡ nulls qs
unfolding exchanged_all
all_left [] n h = none_left 0 n
all_left (q ∷ qs) zero h = absurd (omega arith)
all_left (q ∷ qs) (suc n) h = ap (λ (r : Pair). r.0) (exchanged_on None qs 0 (replicate n None)) ∙ ap (λ l. None ∷ l) (all_left qs n (omega arith))

live_same : (q : Option PortValue) (ps qs : List (Option PortValue)) → live ps ≡ live qs → live (q ∷ ps) ≡ live (q ∷ qs)
live_same None ps qs e = e
live_same (Some z) ps qs e = ap (λ l. z ∷ l) e

all_out : (qs : List (Option PortValue)) (n : ℕ) → length qs ≤ n → live (exchanged_all qs 0 (replicate n None)).1 ≡ live qs
unfolding exchanged_all
all_out [] n h = none_out 0 n
all_out (q ∷ qs) zero h = absurd (omega arith)
all_out (q ∷ qs) (suc n) h =
    live_same q (exchanged_all (None ∷ qs) 1 (replicate n None)).1 qs (ap (λ (r : Pair). live r.1) (exchanged_on None qs 0 (replicate n None)) ∙ all_out qs n (omega arith))

-- ---- of one variable

ports_here : (qs : List (Option PortValue)) (xs : List Item) (k : ℕ) (ps : List (Option PortValue)) → (exchange_all (Ports qs ∷ xs) 0 k ps).0 ≡ Ports (exchanged_all qs k ps).0 ∷ xs
unfolding exchanged_all
ports_here qs xs k [] = refl
ports_here qs xs k (p ∷ ps) = ports_here (exchanged qs k p).0 xs (suc k) ps

ports_out : (qs : List (Option PortValue)) (xs : List Item) (k : ℕ) (ps : List (Option PortValue)) → (exchange_all (Ports qs ∷ xs) 0 k ps).1 ≡ (exchanged_all qs k ps).1
unfolding exchanged_all
ports_out qs xs k [] = refl
ports_out qs xs k (p ∷ ps) = ap (λ l. (exchanged qs k p).1 ∷ l) (ports_out (exchanged qs k p).0 xs (suc k) ps)

-- ---- of a variable behind others

pub exchange_all_on : (v : Item) (vs : List Item) (i k : ℕ) (ps : List (Option PortValue)) → (exchange_all (v ∷ vs) (suc i) k ps).0 ≡ v ∷ (exchange_all vs i k ps).0
exchange_all_on v vs i k [] = refl
exchange_all_on v vs i k (p ∷ ps) = exchange_all_on v (exchange vs i k p).0 i (suc k) ps

pub exchange_all_out_on : (v : Item) (vs : List Item) (i k : ℕ) (ps : List (Option PortValue)) → (exchange_all (v ∷ vs) (suc i) k ps).1 ≡ (exchange_all vs i k ps).1
exchange_all_out_on v vs i k [] = refl
exchange_all_out_on v vs i k (p ∷ ps) = ap (λ l. (exchange vs i k p).1 ∷ l) (exchange_all_out_on v (exchange vs i k p).0 i (suc k) ps)

-- ---- what is kept, from a variable on; those before it stay

abbrev pub kept_from : ℕ → List Variable → List Item → List Item × List PortValue
kept_from zero vs xs = kept vs xs
kept_from (suc n) [] xs = (xs, [])
kept_from (suc n) (v ∷ vs) [] = ([], [])
kept_from (suc n) (v ∷ vs) (x ∷ xs) = (x ∷ (kept_from n vs xs).0, (kept_from n vs xs).1)

abbrev pub taken_at : List Item → (i count : ℕ) → List Item × List (Option PortValue)
taken_at vs i n = exchange_all vs i 0 (replicate n None)

-- one variable, by its kind and whether it is kept
one_left : (b : Bool) (d : Kind) (ws : List Word) (n : ℕ) (xs : List Item) → length ws ≤ n → (taken_at (item_by d ws ∷ xs) 0 (cond b 0 (ports_at d n))).0 ≡ cond b (item_by d ws) (null_item (item_by d ws)) ∷ xs
one_left true d ws n xs h = refl
one_left false kind.Integer ws n xs h = refl
one_left false kind.Logical ws n xs h = refl
one_left false (kind.In t) ws n xs h = ports_here (map port_in ws) xs 0 (replicate n None) ∙ ap (λ l. Ports l ∷ xs) (all_left (map port_in ws) n (omega (arith, length-map ws port_in)))
one_left false (kind.Out t) ws n xs h = ports_here (map port_in ws) xs 0 (replicate n None) ∙ ap (λ l. Ports l ∷ xs) (all_left (map port_in ws) n (omega (arith, length-map ws port_in)))

one_out : (b : Bool) (d : Kind) (ws : List Word) (n : ℕ) (xs : List Item) → length ws ≤ n → live (taken_at (item_by d ws ∷ xs) 0 (cond b 0 (ports_at d n))).1 ≡ cond b [] (item_ports (item_by d ws))
one_out true d ws n xs h = refl
one_out false kind.Integer ws n xs h = refl
one_out false kind.Logical ws n xs h = refl
one_out false (kind.In t) ws n xs h = ap live (ports_out (map port_in ws) xs 0 (replicate n None)) ∙ all_out (map port_in ws) n (omega (arith, length-map ws port_in))
one_out false (kind.Out t) ws n xs h = ap live (ports_out (map port_in ws) xs 0 (replicate n None)) ∙ all_out (map port_in ws) n (omega (arith, length-map ws port_in))

abbrev Kept : Type 0
Kept = List Item × List PortValue

cond_items : (b : Bool) (x y : Item) (k : List Item) (zs ps : List PortValue) → (cond {A = Kept} b (x ∷ k, zs) (y ∷ k, ps ++ zs)).0 ≡ cond b x y ∷ k
cond_items true x y k zs ps = refl
cond_items false x y k zs ps = refl

cond_drops : (b : Bool) (x y : Item) (k : List Item) (zs ps : List PortValue) → (cond {A = Kept} b (x ∷ k, zs) (y ∷ k, ps ++ zs)).1 ≡ cond b [] ps ++ zs
cond_drops true x y k zs ps = refl
cond_drops false x y k zs ps = refl

words_in : (v : Variable) (m : List Word) → length (take v.words (drop v.first m)) ≤ v.words
words_in v m = omega (arith, length-take v.words (drop v.first m))

pub keep_left : (vs : List Variable) (m : List Word) (n : ℕ) (d : Variable) → n < length vs
    → (kept_from n vs (values_of vs m)).0 ≡ (kept_from (suc n) vs (taken_at (values_of vs m) n (lost_by (get_or vs n d))).0).0
keep_left [] m n d h = absurd (omega arith)
keep_left (v ∷ vs) m zero d h =
    let x = item_in m v in
    let xs = values_of vs m in
    cond_items (is_kept v) x (null_item x) (kept vs xs).0 (kept vs xs).1 (item_ports x)
    ∙ ap (λ l. (kept_from 1 (v ∷ vs) l).0) (sym (one_left (is_kept v) v.kind (take v.words (drop v.first m)) v.words xs (words_in v m)))
keep_left (v ∷ vs) m (suc n) d h =
    let x = item_in m v in
    let xs = values_of vs m in
    ap (λ l. x ∷ l) (keep_left vs m n d (omega arith))
    ∙ ap (λ l. (kept_from (suc (suc n)) (v ∷ vs) l).0) (sym (exchange_all_on x xs n 0 (replicate (lost_by (get_or vs n d)) None)))

pub keep_out : (vs : List Variable) (m : List Word) (n : ℕ) (d : Variable) → n < length vs
    → (kept_from n vs (values_of vs m)).1 ≡ live (taken_at (values_of vs m) n (lost_by (get_or vs n d))).1 ++ (kept_from (suc n) vs (taken_at (values_of vs m) n (lost_by (get_or vs n d))).0).1
keep_out [] m n d h = absurd (omega arith)
keep_out (v ∷ vs) m zero d h =
    let x = item_in m v in
    let xs = values_of vs m in
    cond_drops (is_kept v) x (null_item x) (kept vs xs).0 (kept vs xs).1 (item_ports x)
    ∙ ap (λ l. l ++ (kept vs xs).1) (sym (one_out (is_kept v) v.kind (take v.words (drop v.first m)) v.words xs (words_in v m)))
    ∙ ap (λ l. live (taken_at (x ∷ xs) 0 (lost_by v)).1 ++ (kept_from 1 (v ∷ vs) l).1) (sym (one_left (is_kept v) v.kind (take v.words (drop v.first m)) v.words xs (words_in v m)))
keep_out (v ∷ vs) m (suc n) d h =
    let x = item_in m v in
    let xs = values_of vs m in
    let ps = replicate (lost_by (get_or vs n d)) None in
    keep_out vs m n d (omega arith)
    ∙ ap (λ l. live l ++ (kept_from (suc n) vs (exchange_all xs n 0 ps).0).1) (sym (exchange_all_out_on x xs n 0 ps))
    ∙ ap (λ l. live (exchange_all (x ∷ xs) (suc n) 0 ps).1 ++ (kept_from (suc (suc n)) (v ∷ vs) l).1) (sym (exchange_all_on x xs n 0 ps))

-- ---- the loop

pub record KeepsRest (n : ℕ) (vs : List Variable) (xs : List Item) (room : List (Option PortValue)) (all : List Item) (out : List PortValue) : Type 0 where
  pub memory : (kept_from n vs xs).0 ≡ all
  pub ports : live room ++ (kept_from n vs xs).1 ≡ out

pub keeps_more : (n w : ℕ) (vs : List Variable) (m : List Word) (v : Variable) (ys : List Item) (room new : List (Option PortValue)) (all : List Item) (out : List PortValue) → n < length vs
    → v ≡ get_or vs n v → w ≡ lost_by v → ys ≡ (taken_at (values_of vs m) n w).0 → new ≡ room ++ (taken_at (values_of vs m) n w).1
    → KeepsRest n vs (values_of vs m) room all out → KeepsRest (n + 1) vs ys new all out
keeps_more n w vs m v ys room new all out h here lost is ports rest =
    let t = taken_at (values_of vs m) n (lost_by (get_or vs n v)) in
    let same : w ≡ lost_by (get_or vs n v) = lost ∙ ap lost_by here in
    let e : n + 1 ≡ suc n = omega arith in
    let ys_are : ys ≡ t.0 = is ∙ ap (λ w. (taken_at (values_of vs m) n w).0) same in
    let put : new ≡ room ++ t.1 = ports ∙ ap (λ w. room ++ (taken_at (values_of vs m) n w).1) same in
    record {
      memory = ap (λ k. (kept_from k vs ys).0) e ∙ ap (λ l. (kept_from (suc n) vs l).0) ys_are ∙ sym (keep_left vs m n v h) ∙ rest.memory;
      ports = ap (λ k. live new ++ (kept_from k vs ys).1) e
          ∙ ap (λ l. live new ++ (kept_from (suc n) vs l).1) ys_are
          ∙ ap (λ l. live l ++ (kept_from (suc n) vs t.0).1) put
          ∙ ap (λ l. l ++ (kept_from (suc n) vs t.0).1) (live-append room t.1)
          ∙ append_assoc (live room) (live t.1) (kept_from (suc n) vs t.0).1
          ∙ ap (λ l. live room ++ l) (sym (keep_out vs m n v h)) ∙ rest.ports;
    }

pub lost_more : (vs : List Variable) (n w : ℕ) (v : Variable) → n < length vs → v ≡ get_or vs n v → w ≡ lost_by v → all_lost (drop n vs) ≡ w + all_lost (drop (n + 1) vs)
lost_more vs n w v h here lost = at_drop_more all_lost vs n v h ∙ ap (λ k. k + all_lost (drop (n + 1) vs)) (sym (lost ∙ ap lost_by here))

kept_end : (n : ℕ) (vs : List Variable) (m : List Word) → length vs ≤ n → (kept_from n vs (values_of vs m)).0 ≡ values_of vs m
kept_end zero [] m h = refl
kept_end zero (v ∷ vs) m h = absurd (omega arith)
kept_end (suc n) [] m h = refl
kept_end (suc n) (v ∷ vs) m h = ap (λ l. item_in m v ∷ l) (kept_end n vs m (omega arith))

out_end : (n : ℕ) (vs : List Variable) (m : List Word) → length vs ≤ n → (kept_from n vs (values_of vs m)).1 ≡ []
out_end zero [] m h = refl
out_end zero (v ∷ vs) m h = absurd (omega arith)
out_end (suc n) [] m h = refl
out_end (suc n) (v ∷ vs) m h = out_end n vs m (omega arith)

pub keeps_all : (n : ℕ) (vs : List Variable) (m : List Word) (room : List (Option PortValue)) (all : List Item) (out : List PortValue) → length vs ≤ n
    → KeepsRest n vs (values_of vs m) room all out → (values_of vs m ≡ all) × (live room ≡ out)
keeps_all n vs m room all out h rest =
    (sym (kept_end n vs m h) ∙ rest.memory, sym (append-nil (live room)) ∙ ap (λ l. live room ++ l) (sym (out_end n vs m h)) ∙ rest.ports)

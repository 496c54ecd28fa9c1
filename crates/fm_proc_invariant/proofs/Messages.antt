-- Messages take ports out of a frame, and bring ports into it.
use Rattle.std.proofs.Common.{◌≡◌, ℕ, ◌+◌, ◌≤◌, ◌<◌, ℤ, pos, Bool, true, false, cond, Option, Some, None, List, [], ◌∷◌, ◌++◌, length, take, get_or, option_to_list, refl, sym, ap, subst, ◌∙◌, arith}
use Rattle.std.specs.List.{AllByRecursion, filter_map}
use Rattle.std.specs.Prelude.{slice_set}
use Rattle.std.proofs.lemmas.Bool.{and_parts, leb-true}
use Rattle.std.proofs.lemmas.Bool.Decides.{Decides-int_eq}
use Rattle.std.proofs.lemmas.List.{length-replicate, length-set, length-take, take_all}
use Rattle.fm_base.specs.declared.port.PortValue.{PortValue}
use Rattle.fm_base.specs.Channels.{Item, Message, Ports, Words, fits_limits, is_within, item_ports, message_ports}
use Rattle.fm_code.specs.declared.ask.Operand.{Operand}
use Rattle.fm_code.specs.declared.ask.Operand.TheVariants as operand
use Rattle.fm_code.specs.Acts.{span_of}
use Rattle.fm_code.specs.Passing.{is_port, live, nulls, spliced}
use Rattle.fm_net.specs.Owned.{count}
use Rattle.fm_net.proofs.Counts.{count-append, count-cons, count-nil}
use Rattle.fm_code_preserves.specs.Weights.{IsParted, heavy, weight}
use Rattle.fm_code_preserves.proofs.Masks.{full, live_weighs, masked_set, nulls_weigh, over_length, over_plain, over_ports, under, weight-append}
use Rattle.fm_proc_language.specs.Slots.{Slots, all_taken, taken}
use Rattle.fm_proc_language.specs.Frames.{Held, all_stored, item_from, message_from, stored}
use Rattle.fm_proc_language.specs.Processes.{limit_of, limits_of, with_status}
use Rattle.fm_proc_invariant.specs.Moves.{IsUsed, Moves, same_word}
use Rattle.fm_proc_invariant.specs.Held.{HeldMoves, MaySend, MayStore, UsedBy, with_others}
use Rattle.fm_proc_invariant.proofs.Slots.{held_in, leaves, moves_like, slot_is, stays_so, then_moves}
use Rattle.fm_proc_invariant.proofs.Exchange.{taken_by, exchange_all, held_like, held_returns, held_same, held_stays, others_weigh, then_held}

-- a count of ports in an item's list
pub some_in : (z : PortValue) (o : Option PortValue) (xs : List (Option PortValue)) → count z (filter_map (λ p. p) (o ∷ xs)) ≡ count z (option_to_list o) + count z (filter_map (λ p. p) xs)
some_in z None xs = omega (arith, count-nil z)
some_in z (Some x) xs = omega (arith, count-cons z x (filter_map (λ p. p) xs), count-cons z x [], count-nil z)

behind_weighs : (zs us : List ℤ) (g : ℤ → ℕ) → weight g (live zs ++ us) ≡ full g zs + weight g us
behind_weighs zs us g = weight-append g (live zs) us ∙ ap (λ n. n + weight g us) (live_weighs g zs)

-- the first of some words
one_taken : (s : Slots) (w : ℤ) (zs ws us : List ℤ) → ((g : ℤ → ℕ) → weight g ws ≡ full g (w ∷ zs) + weight g us) → IsUsed s ws → Moves s ws (taken s w).1 (live zs ++ us) [] (option_to_list (taken s w).0)
one_taken s w zs ws us parted used = go (is_port w) refl
  where
    go : (b : Bool) → is_port w ≡ b → Moves s ws (taken_by b s w).1 (live zs ++ us) [] (option_to_list (taken_by b s w).0)
    go false e = stays_so s ws (live zs ++ us) (λ g. omega (arith, parted g, behind_weighs zs us g, ap (λ (b : Bool). cond b (g w) 0) e))
    go true e =
        let split : IsParted ws (w ∷ []) (live zs ++ us) = λ g. omega (arith, parted g, behind_weighs zs us g, ap (λ (b : Bool). cond b (g w) 0) e) in
        let self : same_word w w ≡ 1 = ap (λ (b : Bool). cond b 1 0) ((Decides-int_eq w w).1 refl) in
        let held = held_in s ws used w (omega (arith, split (same_word w), self)) in
        moves_like (leaves s w ws (live zs ++ us) split held.port (slot_is s w held)) (λ z. refl) (λ z. ap (λ (o : Option PortValue). count z (option_to_list o)) (slot_is s w held))

-- words of which the live ones leave their slots
pub all_taken_out : (s : Slots) (zs ws us : List ℤ) → ((g : ℤ → ℕ) → weight g ws ≡ full g zs + weight g us) → IsUsed s ws
    → Moves s ws (all_taken s zs).1 us [] (filter_map (λ p. p) (all_taken s zs).0)
all_taken_out s [] ws us parted used = stays_so s ws us (λ g. omega (arith, parted g))
all_taken_out s (w ∷ zs) ws us parted used =
    let first = one_taken s w zs ws us parted used in
    moves_like (then_moves first (all_taken_out (taken s w).1 zs (live zs ++ us) us (behind_weighs zs us) (first.used used))) (λ z. refl)
    (λ z. some_in z (taken s w).0 (all_taken (taken s w).1 zs).0 ∙ sym (count-append z (option_to_list (taken s w).0) (filter_map (λ p. p) (all_taken (taken s w).1 zs).0)))

module _ (mask : ℕ → Bool) (others : List ℤ) where
  -- an item takes its ports out
  item_out : (o : Operand) (h : Held) → MaySend mask (length h.words) o → UsedBy mask others h → HeldMoves mask others h (item_from h o).0 [] (item_ports (item_from h o).1)
  item_out (operand.Value v) h may used = held_stays mask others h
  item_out (operand.Words s) h may used = held_stays mask others h
  item_out (operand.Ports s) h may used =
      let null_count : length (nulls s.count) ≡ s.count = length-replicate s.count (pos 0) in
      let le : s.first + length (nulls s.count) ≤ length h.words = omega (arith, null_count, may.end) in
      let after = spliced h.words s.first (nulls s.count) in
      record {
        moves = all_taken_out h.slots (span_of h.words s) (with_others mask h.words others) (with_others mask after others)
            (λ g. omega (
              arith,
              others_weigh mask h.words others g,
              others_weigh mask after others g,
              over_ports mask g h.words s.first (nulls s.count) le (λ k low high. may.kind k low (omega (arith, high, null_count))),
              ap (λ k. full g (under h.words s.first k)) null_count,
              nulls_weigh g s.count,
            )) used;
        count = over_length mask (λ w. 0) h.words s.first (nulls s.count) le;
      }

  -- a count that doesn't change goes on
  send_still : (n k : ℕ) → n ≡ k → (os : List Operand) → AllByRecursion (MaySend mask k) os → AllByRecursion (MaySend mask n) os
  send_still n k e os all = subst (λ (j : ℕ). AllByRecursion (MaySend mask j) os) (sym e) all

  store_still : (n k : ℕ) → n ≡ k → (os : List Operand) → AllByRecursion (MayStore mask k) os → AllByRecursion (MayStore mask n) os
  store_still n k e os all = subst (λ (j : ℕ). AllByRecursion (MayStore mask j) os) (sym e) all

  pub message_out : (os : List Operand) (h : Held) → AllByRecursion (MaySend mask (length h.words)) os → UsedBy mask others h → HeldMoves mask others h (message_from h os).0 [] (message_ports (message_from h os).1)
  message_out [] h may used = held_stays mask others h
  message_out (o ∷ os) h may used =
      let one = item_out o h may.0 used in
      let rest = message_out os (item_from h o).0 (send_still (length (item_from h o).0.words) (length h.words) one.count os may.1) (one.moves.used used) in
      then_held one rest

  -- an item brings its ports in, as many as its place has
  item_in : (o : Operand) (i : Item) (h : Held) → MayStore mask (length h.words) o → is_within (limit_of o) i ≡ true → UsedBy mask others h → HeldMoves mask others h (stored h o i).0 (item_ports i) (stored h o i).1
  item_in (operand.Value v) i h may within used = held_returns mask others h (item_ports i)
  item_in (operand.Words s) (Words ns) h may within used =
      let count : length (take s.count ns) ≤ s.count = omega (arith, length-take s.count ns) in
      let le : s.first + length (take s.count ns) ≤ length h.words = omega (arith, count, may.end) in
      held_same mask others h (spliced h.words s.first (take s.count ns)) (over_length mask (λ w. 0) h.words s.first (take s.count ns) le)
      (λ g. over_plain mask g h.words s.first (take s.count ns) le (λ k low high. may.kind k low (omega (arith, high, count))))
  item_in (operand.Words s) (Ports ps) h may within used = held_returns mask others h (item_ports (Ports ps))
  item_in (operand.Ports s) (Words ns) h may within used = held_stays mask others h
  item_in (operand.Ports s) (Ports ps) h may within used =
      let few : length ps ≤ s.count = leb-true (length ps) s.count within in
      let all : take s.count ps ≡ ps = take_all s.count ps few in
      held_like (exchange_all mask others (take s.count ps) h s.first (omega (arith, may.end, few, ap (λ (l : List (Option PortValue)). length l) all)) (λ j low high. may.kind j low (omega (arith, high, few, ap (λ (l : List (Option PortValue)). length l) all))) used)
      (λ z. ap (λ (l : List (Option PortValue)). count z (filter_map (λ p. p) l)) (sym all)) (λ z. refl)

  pub message_in : (os : List Operand) (m : Message) (h : Held) → AllByRecursion (MayStore mask (length h.words)) os → fits_limits (limits_of os) m ≡ true → UsedBy mask others h
      → HeldMoves mask others h (all_stored h os m).0 (message_ports m) (all_stored h os m).1
  message_in os [] h may fits used = none os
    where
      none : (os : List Operand) → HeldMoves mask others h (all_stored h os []).0 [] (all_stored h os []).1
      none [] = held_stays mask others h
      none (o ∷ os) = held_stays mask others h
  message_in [] (i ∷ is) h may fits used = held_returns mask others h (message_ports (i ∷ is))
  message_in (o ∷ os) (i ∷ is) h may fits used =
      let a = and_parts (is_within (limit_of o) i) (fits_limits (limits_of os) is) fits in
      let one = item_in o i h may.0 a.0 used in
      let rest = message_in os is (stored h o i).0 (store_still (length (stored h o i).0.words) (length h.words) one.count os may.1) a.1 (one.moves.used used) in
      then_held one rest

  -- the word of IOSTAT is no port word
  pub status_kept : (h : Held) (o : Option ℕ) (n : ℤ) → ((k : ℕ) → o ≡ Some k → (k < length h.words) × (mask k ≡ false)) → HeldMoves mask others h (with_status h o n) [] []
  status_kept h None n plain = held_stays mask others h
  status_kept h (Some k) n plain =
      let p = plain k refl in
      let e : 0 + k ≡ k = omega arith in
      let off : mask (0 + k) ≡ false = ap mask e ∙ p.1 in
      held_same mask others h (slice_set h.words k n) (length-set h.words k n)
      (λ g. omega (arith, masked_set mask g 0 h.words k n p.0, ap (λ (b : Bool). cond b (heavy g n) 0) off, ap (λ (b : Bool). cond b (heavy g (get_or h.words k (pos 0))) 0) off))

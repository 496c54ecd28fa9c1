-- What stands at port words of a frame is exchanged: ports that come in, and ports that come out.
use Rattle.std.proofs.Common.{◌≡◌, ◌⊎◌, inl, inr, ℕ, suc, ◌+◌, ◌≤◌, ◌<◌, ℤ, pos, Bool, true, false, not, cond, Option, Some, None, List, [], ◌∷◌, ◌++◌, length, set, option_to_list, refl, sym, ap, ◌∙◌, arith}
use Rattle.std.specs.List.{filter_map}
use Rattle.std.specs.Ordering.{int_eq}
use Rattle.std.proofs.lemmas.Bool.{false_from_ne_true}
use Rattle.std.proofs.lemmas.Bool.Decides.{Decides-int_eq}
use Rattle.std.proofs.lemmas.List.{length-set}
use Rattle.fm_base.specs.declared.port.PortValue.{PortValue}
use Rattle.fm_code.specs.Passing.{is_port}
use Rattle.fm_code.specs.Statements.{word_at}
use Rattle.fm_net.specs.Owned.{count}
use Rattle.fm_net.proofs.Counts.{count-append, count-cons, count-nil}
use Rattle.fm_values.specs.Trips.{natural}
use Rattle.fm_code_preserves.specs.Weights.{IsParted, heavy, masked, weight}
use Rattle.fm_code_preserves.proofs.Masks.{masked_set, weight-append}
use Rattle.fm_proc_language.specs.Slots.{Slots, in_slot, left, put, put_any, put_by, taken}
use Rattle.fm_proc_language.specs.Frames.{Held, all_exchanged, all_placed, exchanged}
use Rattle.fm_proc_invariant.specs.Moves.{Moves, port_words, same_word}
use Rattle.fm_proc_invariant.specs.Held.{HeldMoves, UsedBy, with_others}
use Rattle.fm_proc_invariant.proofs.Slots.{comes, held_in, leaves, moves_like, port_words_weigh, slot_is, stays_so, then_moves}

pub others_weigh : (mask : ℕ → Bool) (ws others : List ℤ) (g : ℤ → ℕ) → weight g (with_others mask ws others) ≡ masked mask g 0 ws + weight g others
others_weigh mask ws others g = weight-append g (port_words mask 0 ws) others ∙ ap (λ n. n + weight g others) (port_words_weigh mask g 0 ws)

pub then_held : {mask : ℕ → Bool} {others : List ℤ} {h k l : Held} {ins outs more lost : List PortValue} → HeldMoves mask others h k ins outs → HeldMoves mask others k l more lost → HeldMoves mask others h l (ins ++ more) (outs ++ lost)
then_held a b = record { moves = then_moves a.moves b.moves; count = b.count ∙ a.count }

pub held_like : {mask : ℕ → Bool} {others : List ℤ} {h k : Held} {ins outs more lost : List PortValue} → HeldMoves mask others h k ins outs → ((z : PortValue) → count z more ≡ count z ins) → ((z : PortValue) → count z lost ≡ count z outs) → HeldMoves mask others h k more lost
held_like m a b = record { moves = moves_like m.moves a b; count = m.count }

-- other words with the same port words
pub held_same : (mask : ℕ → Bool) (others : List ℤ) (h : Held) (ws : List ℤ) → length ws ≡ length h.words → ((g : ℤ → ℕ) → masked mask g 0 ws ≡ masked mask g 0 h.words) → HeldMoves mask others h (record h { words = ws }) [] []
held_same mask others h ws count same = record {
  moves = stays_so h.slots (with_others mask h.words others) (with_others mask ws others) (λ g. omega (arith, others_weigh mask ws others g, others_weigh mask h.words others g, same g));
  count = count;
}

pub held_stays : (mask : ℕ → Bool) (others : List ℤ) (h : Held) → HeldMoves mask others h h [] []
held_stays mask others h = held_same mask others h h.words refl (λ g. refl)

-- ports that come in and go out again
pub held_returns : (mask : ℕ → Bool) (others : List ℤ) (h : Held) (xs : List PortValue) → HeldMoves mask others h h xs xs
held_returns mask others h xs = record {
  moves = record { used = λ used. used; same = λ used z. refl };
  count = refl;
}

pub port_number : (k : ℕ) → is_port (pos (suc k)) ≡ true
port_number k = ap not (false_from_ne_true (int_eq (pos (suc k)) (pos 0)) (λ e. absurd (omega (arith, ap natural ((Decides-int_eq (pos (suc k)) (pos 0)).0 e)))))

pub put_number : (ks : List ℕ) (s : Slots) (x : PortValue) → is_port (put_by ks s x).0 ≡ true
put_number [] s x = port_number (length s.ports)
put_number (k ∷ ks) s x = port_number k

-- the number is in the list
abbrev pub slice_any : List ℕ → ℕ → Type 0
slice_any [] j = ⊥
slice_any (k ∷ ks) j = (j ≡ k) ⊎ slice_any ks j

-- what stands at a word, where it is known whether that names a slot
abbrev pub taken_by : Bool → Slots → ℤ → Option PortValue × Slots
taken_by b s w = cond b (in_slot s w, left s w) (None, s)

module _ (mask : ℕ → Bool) (others : List ℤ) where
  module _ (h : Held) (k : ℕ) (x : Option PortValue) (low : k < length h.words) (port : mask k ≡ true) (used : UsedBy mask others h) where
    abbrev w : ℤ
    w = word_at h.words k

    abbrev cleared : List ℤ
    cleared = with_others mask (set h.words k (pos 0)) others

    mask_on : mask (0 + k) ≡ true
    mask_on = let e : 0 + k ≡ k = omega arith in ap mask e ∙ port

    null_weighs : (g : ℤ → ℕ) → heavy g (pos 0) ≡ 0
    null_weighs g = refl

    -- with any word there
    set_weighs : (v : ℤ) (g : ℤ → ℕ) → weight g (with_others mask (set h.words k v) others) + heavy g w ≡ weight g (with_others mask h.words others) + heavy g v
    set_weighs v g =
        omega (
          arith,
          others_weigh mask (set h.words k v) others g,
          others_weigh mask h.words others g,
          masked_set mask g 0 h.words k v low,
          ap (λ (b : Bool). cond b (heavy g v) 0) mask_on,
          ap (λ (b : Bool). cond b (heavy g w) 0) mask_on,
        )

    -- what stands there goes
    taken_out : Moves h.slots (with_others mask h.words others) (taken h.slots w).1 cleared [] (option_to_list (taken h.slots w).0)
    taken_out = go (is_port w) refl
      where
        go : (b : Bool) → is_port w ≡ b
            → Moves h.slots (with_others mask h.words others) (taken_by b h.slots w).1 cleared [] (option_to_list (taken_by b h.slots w).0)
        go false e = stays_so h.slots (with_others mask h.words others) cleared (λ g. omega (arith, set_weighs (pos 0) g, null_weighs g, ap (λ (b : Bool). cond b (g w) 0) e))
        go true e =
            let split : IsParted (with_others mask h.words others) (w ∷ []) cleared = λ g. omega (arith, set_weighs (pos 0) g, null_weighs g, ap (λ (b : Bool). cond b (g w) 0) e) in
            let self : same_word w w ≡ 1 = ap (λ (b : Bool). cond b 1 0) ((Decides-int_eq w w).1 refl) in
            let held = held_in h.slots (with_others mask h.words others) used w (omega (arith, split (same_word w), self)) in
            moves_like (leaves h.slots w (with_others mask h.words others) cleared split held.port (slot_is h.slots w held)) (λ z. refl) (λ z. ap (λ (o : Option PortValue). count z (option_to_list o)) (slot_is h.slots w held))

    abbrev s : Slots
    s = (taken h.slots w).1

    -- and another comes
    put_in : (x : Option PortValue) → Moves s cleared (put_any s x).1 (with_others mask (set h.words k (put_any s x).0) others) (option_to_list x) []
    put_in None = stays_so s cleared cleared (λ g. refl)
    put_in (Some x) =
        let new = (put s x).0 in
        let number : is_port new ≡ true = put_number s.free s x in
        let last = stays_so (put s x).1 (new ∷ cleared) (with_others mask (set h.words k new) others)
        (λ g. omega (arith, set_weighs (pos 0) g, set_weighs new g, null_weighs g, ap (λ (b : Bool). cond b (g new) 0) number)) in
        moves_like (then_moves (comes s x cleared) last) (λ z. omega (arith, count-cons z x [], count-nil z)) (λ z. refl)

    pub exchange : HeldMoves mask others h (exchanged h k x).0 (option_to_list x) (option_to_list (exchanged h k x).1)
    exchange = record {
      moves = moves_like (then_moves taken_out (put_in x)) (λ z. refl) (λ z. omega (arith, count-append z (option_to_list (taken h.slots w).0) [], count-nil z));
      count = length-set h.words k (put_any s x).0;
    }

  some_in : (z : PortValue) (o : Option PortValue) (xs : List (Option PortValue)) → count z (filter_map (λ p. p) (o ∷ xs)) ≡ count z (option_to_list o) + count z (filter_map (λ p. p) xs)
  some_in z None xs = omega (arith, count-nil z)
  some_in z (Some x) xs = omega (arith, count-cons z x (filter_map (λ p. p) xs), count-cons z x [], count-nil z)

  -- one after the other
  pub exchange_all : (xs : List (Option PortValue)) (h : Held) (k : ℕ) → k + length xs ≤ length h.words → ((j : ℕ) → k ≤ j → j < k + length xs → mask j ≡ true) → UsedBy mask others h
      → HeldMoves mask others h (all_exchanged h k xs).0 (filter_map (λ p. p) xs) (all_exchanged h k xs).1
  exchange_all [] h k le ports used = held_stays mask others h
  exchange_all (x ∷ xs) h k le ports used =
      let one = exchange h k x (omega (arith, le)) (ports k (omega arith) (omega arith)) used in
      let rest = exchange_all xs (exchanged h k x).0 (suc k) (omega (arith, le, one.count)) (λ j low high. ports j (omega (arith, low)) (omega (arith, high))) (one.moves.used used) in
      held_like (then_held one rest) (λ z. some_in z x xs ∙ sym (count-append z (option_to_list x) (filter_map (λ p. p) xs))) (λ z. refl)

  -- ports that were made, each to its word
  pub place_all : (ks : List ℕ) (xs : List PortValue) (h : Held) → ((j : ℕ) → slice_any ks j → (j < length h.words) × (mask j ≡ true)) → UsedBy mask others h
      → HeldMoves mask others h (all_placed h ks xs).0 xs (all_placed h ks xs).1
  place_all ks [] h ports used = placed_none ks
    where
      placed_none : (ks : List ℕ) → HeldMoves mask others h (all_placed h ks []).0 [] (all_placed h ks []).1
      placed_none [] = held_stays mask others h
      placed_none (k ∷ ks) = held_stays mask others h
  place_all [] (x ∷ xs) h ports used = held_returns mask others h (x ∷ xs)
  place_all (k ∷ ks) (x ∷ xs) h ports used =
      let here = ports k (inl refl) in
      let one = exchange h k (Some x) here.0 here.1 used in
      let rest = place_all ks xs (exchanged h k (Some x)).0 (λ j at. let p = ports j (inr at) in (omega (arith, p.0, one.count), p.1)) (one.moves.used used) in
      held_like (then_held one rest) (λ z. omega (arith, count-cons z x xs, count-append z (x ∷ []) xs, count-cons z x [], count-nil z)) (λ z. refl)

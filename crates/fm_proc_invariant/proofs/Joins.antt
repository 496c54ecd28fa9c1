-- What a child gives back: ports out of its slots, into those of its parent; what is left is let go.
use Rattle.std.proofs.Common.{◌≡◌, ℕ, zero, suc, ◌+◌, ◌≤◌, ◌<◌, ℤ, Bool, true, false, cond, Option, Some, None, List, [], ◌∷◌, length, option_to_list, refl, sym, ap, subst, ◌∙◌, arith}
use Rattle.std.specs.List.{AllByRecursion}
use Rattle.fm_base.specs.declared.port.PortValue.{PortValue}
use Rattle.fm_code.specs.declared.body.Back.{Back}
use Rattle.fm_code.specs.Acts.{span_of}
use Rattle.fm_code.specs.Passing.{given_span, got_span, spliced}
use Rattle.fm_net.specs.Owned.{count}
use Rattle.fm_net.proofs.Counts.{count-append, count-nil}
use Rattle.fm_code_preserves.specs.Weights.{weight}
use Rattle.fm_code_preserves.proofs.Masks.{over_length, over_plain, under_length}
use Rattle.fm_proc_language.specs.Slots.{vacated}
use Rattle.fm_proc_language.specs.Frames.{Joined, all_given, exchanged, one_given, port_given, port_settled, ports_given}
use Rattle.fm_proc_invariant.specs.Held.{AreMasked, BackIsMasked, BothUsed, Dropped, Gives, HeldMoves, with_others}
use Rattle.fm_proc_invariant.proofs.Slots.{all_leave}
use Rattle.fm_proc_invariant.proofs.Exchange.{exchange, held_same}

module _ (mine theirs : ℕ → Bool) (my_others their_others : List ℤ) where
  abbrev Both : Joined → Type 0
  Both = BothUsed mine theirs my_others their_others

  abbrev Over : Joined → Joined → Type 0
  Over = Gives mine theirs my_others their_others

  pub gives_none : (j : Joined) → Both j → Over j j
  gives_none j used = record { used = used; same = λ z. refl; mine_count = refl; theirs_count = refl }

  gives_more : (j k l : Joined) → Over j k → Over k l → Over j l
  gives_more j k l a b = record { used = b.used; same = λ z. b.same z ∙ a.same z; mine_count = b.mine_count ∙ a.mine_count; theirs_count = b.theirs_count ∙ a.theirs_count }

  -- one port
  give_port : (j : Joined) (from to : ℕ) → from < length j.theirs.words → theirs from ≡ true → to < length j.mine.words → mine to ≡ true → Both j → Over j (port_given j from to)
  give_port j from to low on here at used = go (exchanged j.theirs from None).1 refl
    where
      out : HeldMoves theirs their_others j.theirs (exchanged j.theirs from None).0 [] (option_to_list (exchanged j.theirs from None).1)
      out = exchange theirs their_others j.theirs from None low on used.theirs_used

      go : (o : Option PortValue) → (exchanged j.theirs from None).1 ≡ o → Over j (port_settled j to (exchanged j.theirs from None).0 o)
      go None e = gives_none j used
      go (Some x) e =
          let come = exchange mine my_others j.mine to (Some x) here at used.mine_used in
          record {
            used = record { mine_used = come.moves.used used.mine_used; theirs_used = out.moves.used used.theirs_used };
            same = λ z. omega (
              arith,
              come.moves.same used.mine_used z,
              out.moves.same used.theirs_used z,
              ap (λ (o : Option PortValue). count z (option_to_list o)) e,
              count-append z j.drops (option_to_list (exchanged j.mine to (Some x)).1),
              count-nil z,
            );
            mine_count = come.count;
            theirs_count = out.count;
          }

  give_ports : (n from to : ℕ) (j : Joined) → from + n ≤ length j.theirs.words → ((k : ℕ) → from ≤ k → k < from + n → theirs k ≡ true) → to + n ≤ length j.mine.words → ((k : ℕ) → to ≤ k → k < to + n → mine k ≡ true) → Both j → Over j (ports_given j from to n)
  give_ports zero from to j fits on gets at used = gives_none j used
  give_ports (suc n) from to j fits on gets at used =
      let one = give_port j from to (omega (arith, fits)) (on from (omega arith) (omega arith)) (omega (arith, gets)) (at to (omega arith) (omega arith)) used in
      let rest = give_ports n (suc from) (suc to) (port_given j from to) (omega (arith, fits, one.theirs_count)) (λ k low high. on k (omega (arith, low)) (omega (arith, high))) (omega (arith, gets, one.mine_count)) (λ k low high. at k (omega (arith, low)) (omega (arith, high))) one.used in
      gives_more j (port_given j from to) (ports_given (port_given j from to) (suc from) (suc to) n) one rest

  give_one : (b : Back) (j : Joined) → BackIsMasked mine theirs (length j.mine.words) (length j.theirs.words) b → Both j → Over j (one_given j b)
  give_one b j fits used = go b.port fits.got fits.given
    where
      go : (p : Bool) → AreMasked mine (length j.mine.words) (got_span b) p → AreMasked theirs (length j.theirs.words) (given_span b) p
          → Over j (cond p (ports_given j b.from b.to b.words) (record j { mine = record j.mine { words = spliced j.mine.words b.to (span_of j.theirs.words (given_span b)) } }))
      go true got given = give_ports b.words b.from b.to j given.end given.kind got.end got.kind used
      go false got given =
          let size : length (span_of j.theirs.words (given_span b)) ≡ b.words = under_length j.theirs.words b.from b.words given.end in
          let le : b.to + length (span_of j.theirs.words (given_span b)) ≤ length j.mine.words = omega (arith, size, got.end) in
          let after = spliced j.mine.words b.to (span_of j.theirs.words (given_span b)) in
          let moved = held_same mine my_others j.mine after (over_length mine (λ w. 0) j.mine.words b.to (span_of j.theirs.words (given_span b)) le)
          (λ g. over_plain mine g j.mine.words b.to (span_of j.theirs.words (given_span b)) le (λ k low high. got.kind k low (omega (arith, high, size)))) in
          record {
            used = record { mine_used = moved.moves.used used.mine_used; theirs_used = used.theirs_used };
            same = λ z. omega (arith, moved.moves.same used.mine_used z, count-nil z);
            mine_count = moved.count;
            theirs_count = refl;
          }

  still_fits : (n m k l : ℕ) → n ≡ m → k ≡ l → (bs : List Back) → AllByRecursion (BackIsMasked mine theirs m l) bs → AllByRecursion (BackIsMasked mine theirs n k) bs
  still_fits n m k l e f bs all = subst (λ (x : ℕ). AllByRecursion (BackIsMasked mine theirs x k) bs) (sym e) (subst (λ (x : ℕ). AllByRecursion (BackIsMasked mine theirs m x) bs) (sym f) all)

  pub give_all : (bs : List Back) (j : Joined) → AllByRecursion (BackIsMasked mine theirs (length j.mine.words) (length j.theirs.words)) bs → Both j → Over j (all_given j bs)
  give_all [] j fits used = gives_none j used
  give_all (b ∷ bs) j fits used =
      let one = give_one b j fits.0 used in
      let rest = give_all bs (one_given j b) (still_fits (length (one_given j b).mine.words) (length j.mine.words) (length (one_given j b).theirs.words) (length j.theirs.words) one.mine_count one.theirs_count bs fits.1) one.used in
      gives_more j (one_given j b) (all_given (one_given j b) bs) one rest

  -- and what the child still has is let go
  pub drop_rest : (j : Joined) (ws : List ℤ) → ((g : ℤ → ℕ) → weight g ws ≡ weight g (with_others theirs j.theirs.words their_others)) → Both j → Dropped mine theirs my_others their_others j (vacated j.theirs.slots ws)
  drop_rest j ws same used =
      let mine_words = with_others theirs j.theirs.words their_others in
      let left = all_leave j.theirs.slots ws mine_words [] (λ g. omega (arith, same g)) used.theirs_used in
      record {
        used = used.mine_used;
        same = λ z. omega (arith, left.same used.theirs_used z, count-append z j.drops (vacated j.theirs.slots ws), count-nil z);
      }

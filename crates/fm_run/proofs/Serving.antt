-- The queue after a piece, and who is noted then.
use Rattle.std.proofs.Common.{◌≡◌, ◌≢◌, ◌⊎◌, inl, inr, ℕ, ◌+◌, ◌<◌, ◌≤◌, Bool, true, false, cond, not, ◌==◌, Option, Some, None, List, [], ◌∷◌, ◌++◌, length, length-append, filter, replicate, refl, sym, ap, ◌∙◌, subst, arith}
use Rattle.std.specs.Prelude.{is_some, Contains, slice_get, slice_index_or}
use Rattle.std.proofs.lemmas.Bool.{ne_eqb}
use Rattle.std.proofs.lemmas.Option.{get_or_from_slice_get, slice_get_within}
use Rattle.std.specs.FinMap.{get}
use Rattle.std.specs.List.{range_with_len}
use Rattle.fm_base.specs.declared.path.ChanName.{ChanName}
use Rattle.fm_base.specs.declared.schedule.Turn.{Turn}
use Rattle.fm_base.specs.Channels.{Limits, Push, Pop, Look}
use Rattle.fm_chan.specs.declared.channels.Channels.{Channels}
use Rattle.fm_chan.specs.Bodies.{chans_of}
use Rattle.fm_chan.specs.Woken.{WakesAll, waiting_reader, woken_of}
use Rattle.fm_sched.specs.Schedule.{IsLegal, play}
use Rattle.fm_net.specs.Machine.{Place, State, Need, Nothing, Event, New, Children}
use Rattle.fm_net.specs.Owned.{IsOwned}
use Rattle.fm_net.specs.Starts.{starts_along}
use Rattle.fm_net.proofs.Histories.{longer_at}
use Rattle.fm_run.specs.Noted.{AreNoted, AreNotedBut, AreParents, IsNoted, OwnOrLeft}
use Rattle.fm_run.specs.Orders.{Among, AreMarked, can_at, can_in, newly, others_in, ready_after}
use Rattle.fm_run.specs.Entries.{turn_of}
use Rattle.fm_run.specs.Runs.{AreAble, IsEntry, IsPlayedBy, place_of, steps_of}
use Rattle.fm_run.proofs.Becomes.{all_candidates, all_there, noted_after, one_number, others_can}
use Rattle.fm_run.proofs.Playing.{kept_owned}
use Rattle.fm_run.proofs.Numbers.{among_filter, among_is}
use Rattle.fm_run.proofs.Queueing.{any_given, not_true, others_after, ready_is}
use native.Mathlib.Decide.{ℕ_discrete}
use Rattle.fm_run.specs.Plays.{IsLawfulPlay, Play, language, step, need_of, ended_at}

-- ---- who is noted

-- whoever is woken on the way
pub noted_on : (program : Play) (old new : Channels) → WakesAll old new → (n : ℕ) (x : program.Proc) → IsNoted program old n x → IsNoted program new n x
noted_on program old new waking n x noted c limits need = go (noted c limits need)
  where
    kept : (waiting_reader new c ≡ Some n) ⊎ (Contains (woken_of new) n × Unit {0}) → (waiting_reader new c ≡ Some n) ⊎ Contains (woken_of new) n
    kept (inl waits) = inl waits
    kept (inr k) = inr k.0

    go : (waiting_reader old c ≡ Some n) ⊎ Contains (woken_of old) n → (waiting_reader new c ≡ Some n) ⊎ Contains (woken_of new) n
    go (inl waits) = kept (waking.readers c n waits)
    go (inr was) = inr (waking.woken n was)

the_channel : (c d : ChanName) (k l : Limits) → Some (Event c (Pop k)) ≡ Some (Event d (Pop l)) → c ≡ d
the_channel c d k l e = cc e

-- the woken are taken out: who was noted waits still, or is among them
pub noted_or_taken : (program : Play) (old new : Channels) (taken : List ℕ) → ((c : ChanName) → waiting_reader new c ≡ waiting_reader old c) → ((n : ℕ) → Contains (woken_of old) n → Contains taken n)
    → (n : ℕ) (x : program.Proc) → IsNoted program old n x → Contains taken n ⊎ IsNoted program new n x
noted_or_taken program old new taken readers out n x noted = go (need_of program x) refl
  where
    none : (o : Option Need) → need_of program x ≡ o → ((c : ChanName) (limits : Limits) → o ≡ Some (Event c (Pop limits)) → ⊥) → IsNoted program new n x
    none o e not c limits need = absurd (not c limits (sym e ∙ need))

    there : (c : ChanName) (k : Limits) → need_of program x ≡ Some (Event c (Pop k)) → (waiting_reader old c ≡ Some n) ⊎ Contains (woken_of old) n → Contains taken n ⊎ IsNoted program new n x
    there c k e (inr was) = inl (out n was)
    there c k e (inl waits) = inr (λ d l need. inl (subst (λ (b : ChanName). waiting_reader new b ≡ Some n) (the_channel c d k l (sym e ∙ need)) (readers c ∙ waits)))

    go : (o : Option Need) → need_of program x ≡ o → Contains taken n ⊎ IsNoted program new n x
    go None e = inr (none None e (λ c l f. cc f))
    go (Some Nothing) e = inr (none (Some Nothing) e (λ c l f. cc f))
    go (Some (Event c (Push w m))) e = inr (none (Some (Event c (Push w m))) e (λ d l f. cc f))
    go (Some (Event c (Pop limits))) e = there c limits e (noted c limits e)
    go (Some (Event c Look)) e = inr (none (Some (Event c Look)) e (λ d l f. cc f))
    go (Some (New k w)) e = inr (none (Some (New k w)) e (λ c l f. cc f))
    go (Some (Children b k)) e = inr (none (Some (Children b k)) e (λ c l f. cc f))

module _ (program : Play) (s : State program.Proc) (places : List Place) (own : ℕ) (candidates : List ℕ) where
  -- one candidate more is settled
  pub noted_more : (i : ℕ) → i < length candidates → (old new : Channels) → WakesAll old new → AreNotedBut program s old places (OwnOrLeft own candidates i)
      → ((d : ℕ) → slice_index_or candidates i d ≢ own → (q : Place) (x : program.Proc) → slice_get places (slice_index_or candidates i d) ≡ Some q → get s.procs q ≡ Some x → is_some (step program s q) ≡ false → IsNoted program new (slice_index_or candidates i d) x)
      → AreNotedBut program s new places (OwnOrLeft own candidates (i + 1))
  noted_more i low old new waking before this n q x at is unable = go (before n q x at is unable)
    where
      same_or_later : (a b : ℕ) → a ≤ b → (a ≡ b) ⊎ (a + 1 ≤ b)
      same_or_later a b h = grind arith

      settled : slice_index_or candidates i n ≡ n → Dec (n ≡ own) → OwnOrLeft own candidates (i + 1) n ⊎ IsNoted program new n x
      settled here (yes e) = inl (inl e)
      settled here (no differs) =
          inr (subst (λ (m : ℕ). IsNoted program new m x) here (this n (λ e. differs (sym here ∙ e)) q x (ap (slice_get places) here ∙ at) is unable))

      left : (j : ℕ) → j < length candidates → slice_index_or candidates j n ≡ n → (i ≡ j) ⊎ (i + 1 ≤ j) → OwnOrLeft own candidates (i + 1) n ⊎ IsNoted program new n x
      left j l here (inl same) = settled (ap (λ (k : ℕ). slice_index_or candidates k n) same ∙ here) (ℕ_discrete n own)
      left j l here (inr later) = inl (inr (j, later, l, here))

      go : OwnOrLeft own candidates i n ⊎ IsNoted program old n x → OwnOrLeft own candidates (i + 1) n ⊎ IsNoted program new n x
      go (inr noted) = inr (noted_on program old new waking n x noted)
      go (inl (inl e)) = inl (inl e)
      go (inl (inr k)) = left k.0 k.2 k.3 (same_or_later i k.0 k.1)

  -- all candidates and the one that made the piece are settled
  pub noted_all : (old new : Channels) → WakesAll old new → AreNotedBut program s old places (OwnOrLeft own candidates (length candidates))
      → ((q : Place) (x : program.Proc) → slice_get places own ≡ Some q → get s.procs q ≡ Some x → is_some (step program s q) ≡ false → IsNoted program new own x) → AreNoted program s new places
  noted_all old new waking before this n q x at is unable = inr (go (before n q x at is unable))
    where
      here : n ≡ own → IsNoted program new n x
      here e = subst (λ (m : ℕ). IsNoted program new m x) (sym e) (this q x (ap (slice_get places) (sym e) ∙ at) is unable)

      go : OwnOrLeft own candidates (length candidates) n ⊎ IsNoted program old n x → IsNoted program new n x
      go (inr noted) = noted_on program old new waking n x noted
      go (inl (inl e)) = here e
      go (inl (inr k)) = absurd (omega (arith, k.1, k.2))

-- behind the last place nobody can step
pub beyond : (program : Play) (s : State program.Proc) (places : List Place) (n : ℕ) → length places ≤ n → can_at program s places n ≡ false
beyond program s places n high = go (slice_get places n) refl
  where
    go : (o : Option Place) → slice_get places n ≡ o → can_in program s o ≡ false
    go None e = refl
    go (Some p) e = absurd (omega (arith, high, slice_get_within places n p e))

module _ (program : Play) (s : State program.Proc) (places : List Place) (own : ℕ) (candidates : List ℕ) (i : ℕ) (low : i < length candidates) (queue : List ℕ) (marks : List Bool) (marked : AreMarked (length places) marks queue)
    (able : (n : ℕ) → n ≢ own → Among n queue → can_at program s places n ≡ true) (new : Channels) where
  -- who was asked is noted where it can't step
  pub ask_noted : ((slice_index_or candidates i 0 ≢ own) → slice_index_or marks (slice_index_or candidates i 0) false ≡ false → (q : Place) (x : program.Proc) → slice_get places (slice_index_or candidates i 0) ≡ Some q → get s.procs q ≡ Some x
      → is_some (step program s q) ≡ false → IsNoted program new (slice_index_or candidates i 0) x)
      → (d : ℕ) → slice_index_or candidates i d ≢ own → (q : Place) (x : program.Proc) → slice_get places (slice_index_or candidates i d) ≡ Some q → get s.procs q ≡ Some x → is_some (step program s q) ≡ false → IsNoted program new (slice_index_or candidates i d) x
  ask_noted asked d = subst (λ (c : ℕ). (c ≢ own) → (q : Place) (x : program.Proc) → slice_get places c ≡ Some q → get s.procs q ≡ Some x → is_some (step program s q) ≡ false → IsNoted program new c x) (any_given candidates i 0 d low) here
    where
      c : ℕ
      c = slice_index_or candidates i 0

      unmarked : (c ≢ own) → (q : Place) → slice_get places c ≡ Some q → is_some (step program s q) ≡ false → slice_index_or marks c false ≡ false
      unmarked differs q at unable = not_true (slice_index_or marks c false) (λ e.
          cc (sym unable ∙ sym (ap (can_in program s) at) ∙ able c differs (among_is queue c (sym (marked.marked c (slice_get_within places c q at)) ∙ e))))

      here : (c ≢ own) → (q : Place) (x : program.Proc) → slice_get places c ≡ Some q → get s.procs q ≡ Some x → is_some (step program s q) ≡ false → IsNoted program new c x
      here differs q x at is unable = asked differs (unmarked differs q at unable) q x at is unable

-- ---- a piece

module _ (program : Play) (law : IsLawfulPlay program) (number steps : ℕ) (s t : State program.Proc) (places later_places : List Place) (hs later_hs : List Turn) (paid : ℕ) (kept : IsPlayedBy program hs places s paid)
    (entry : IsEntry program (turn_of number steps) s places hs t later_places later_hs) (able : List ℕ) (exact : AreAble program s places able) (among : Among number able)
    (old new : Channels) (of_old : chans_of old ≡ s.chans) (of_new : chans_of new ≡ t.chans) (waking : WakesAll old new) (noted : AreNoted program s old places) where
  there_at : (o : Option Place) → slice_get places number ≡ o → can_in program s o ≡ true → (p : Place) × (slice_get places number ≡ Some p)
  there_at None e can = absurd (cc can)
  there_at (Some p) e can = (p, e)

  own_at : (p : Place) × (slice_get places number ≡ Some p)
  own_at = there_at (slice_get places number) refl (exact.within number among)

  abbrev own_place : Place
  own_place = own_at.0

  placed : place_of places (turn_of number steps) ≡ own_place
  placed = get_or_from_slice_get places number own_place [] own_at.1

  legal : IsLegal (step program) s (replicate steps own_place)
  legal = subst (λ (p : Place). IsLegal (step program) s (replicate steps p)) placed entry.can

  played_to : play (step program) s (replicate steps own_place) ≡ t
  played_to = ap (λ (p : Place). play (step program) s (replicate steps p)) (sym placed) ∙ sym entry.state_is

  owned : IsOwned (language program) s
  owned = kept_owned program law hs places s paid kept

  abbrev more : List Place
  more = starts_along (language program) s (steps_of places (turn_of number steps))

  -- it has the same number still
  pub stands_later : (q : Place) → slice_get places number ≡ Some q → slice_get later_places number ≡ Some q
  stands_later q at_q = ap (λ (ps : List Place). slice_get ps number) entry.places_are ∙ longer_at places more number q at_q

  pub longer : length places ≤ length later_places
  longer = omega (arith, ap length entry.places_are, length-append places more)

  module _ (later_paid : ℕ) (later_kept : IsPlayedBy program later_hs later_places t later_paid) (parents : List ℕ) (started : AreParents later_places parents) (candidates : List ℕ)
      (woken_in : (n : ℕ) → Contains (woken_of new) n → Contains candidates n)
      (parent_in : (q : Place) (n : ℕ) → slice_get places number ≡ Some q → (ended_at program) (get t.procs q) ≡ true → slice_get parents number ≡ Some n → can_at program t later_places n ≡ true → Contains candidates n)
      (new_in : (n : ℕ) → length places ≤ n → n < length later_places → Contains candidates n) where
    -- who became able is among the candidates
    pub candidates_whole : (n : ℕ) → newly (can_at program t later_places) number able n ≡ true → Contains candidates n
    candidates_whole =
        subst (λ (ps : List Place). (n : ℕ) → newly (can_at program t ps) number able n ≡ true → Contains candidates n) (sym entry.places_are)
        (all_candidates program law s t places number own_place own_at.1 steps owned legal played_to old new of_old of_new waking (one_number program hs places s paid kept law) (all_there program hs places s paid kept) noted
        more parents (subst (λ (ps : List Place). AreParents ps parents) entry.places_are started)
        (λ n m q e f. one_number program later_hs later_places t later_paid later_kept law n m q (ap (λ (ps : List Place). slice_get ps n) entry.places_are ∙ e) (ap (λ (ps : List Place). slice_get ps m) entry.places_are ∙ f))
        able exact candidates woken_in
        (λ ended n is can. parent_in own_place n own_at.1 ended is (ap (λ (ps : List Place). can_at program t ps n) entry.places_are ∙ can)) (λ n low high. new_in n low (subst (λ (ps : List Place). n < length ps) (sym entry.places_are) high)))

    -- the others are noted, once the woken are taken out
    pub noted_taken : (taken : Channels) → ((c : ChanName) → waiting_reader taken c ≡ waiting_reader new c) → AreNotedBut program t taken later_places (OwnOrLeft number candidates 0)
    noted_taken taken readers n q x at is unable = go (noted_after program law s t places number own_place own_at.1 steps owned legal played_to old new of_old of_new waking (one_number program hs places s paid kept law) (all_there program hs places s paid kept) noted
        more n q x (ap (λ ps. slice_get ps n) (sym entry.places_are) ∙ at) is unable)
      where
        listed : Contains candidates n → OwnOrLeft number candidates 0 n
        listed k = inr (k.0, omega arith, k.1, k.2)

        after : Contains candidates n ⊎ IsNoted program taken n x → OwnOrLeft number candidates 0 n ⊎ IsNoted program taken n x
        after (inl k) = inl (listed k)
        after (inr noted) = inr noted

        go : ((n ≡ number) ⊎ (length places ≤ n)) ⊎ IsNoted program new n x → OwnOrLeft number candidates 0 n ⊎ IsNoted program taken n x
        go (inl (inl e)) = inl (inl e)
        go (inl (inr high)) = inl (listed (new_in n high (slice_get_within later_places n q at)))
        go (inr k) = after (noted_or_taken program new taken candidates readers woken_in n x k)

  pub others_ready : (n : ℕ) → Among n (others_in number able) → can_at program t later_places n ≡ true
  others_ready =
      subst (λ (ps : List Place). (n : ℕ) → Among n (others_in number able) → can_at program t ps n ≡ true) (sym entry.places_are)
      (others_can program law s t places number own_place own_at.1 steps owned legal played_to old new of_old of_new waking (one_number program hs places s paid kept law) (all_there program hs places s paid kept) noted able exact more)

  -- so the others in the queue can step
  pub queue_ready : (n : ℕ) → n ≢ number → Among n able → can_at program t later_places n ≡ true
  queue_ready n differs h = others_ready n (among_filter (λ m. not (m == number)) able n h (ap not (ne_eqb n number differs)))

  -- the queue, once all is settled
  pub queue_is : (served all : List ℕ) → served ≡ able ++ filter (newly (can_at program t later_places) number able) (range_with_len 0 (length later_places))
      → all ≡ others_in number served ++ cond (can_at program t later_places number) (number ∷ []) [] → all ≡ ready_after program t later_places able number
  queue_is served all is last =
      last
      ∙ ap (λ (ns : List ℕ). ns ++ cond (can_at program t later_places number) (number ∷ []) []) (ap (others_in number) is ∙ others_after (can_at program t later_places) number able (length later_places))
      ∙ ready_is (can_at program t later_places) number able (length later_places) others_ready

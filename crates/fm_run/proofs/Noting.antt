-- Who couldn't step before a piece of another, and what is noted of whom then.
use Rattle.std.proofs.Common.{◌≡◌, ◌≢◌, ◌⊎◌, inl, inr, ℕ, zero, suc, Option, Some, None, List, ◌∷◌, Bool, true, false, cond, ◌&&◌, replicate, refl, sym, ap, ◌∙◌, subst}
use Rattle.std.specs.Prelude.{is_some, Contains, option_map}
use Rattle.std.specs.FinMap.{get}
use Rattle.fm_base.specs.declared.path.ChanName.{ChanName}
use Rattle.fm_base.specs.Channels.{Chans, Limits, Push, Pop, Look}
use Rattle.fm_chan.specs.declared.channels.Channels.{Channels}
use Rattle.fm_chan.specs.Bodies.{chans_of}
use Rattle.fm_chan.specs.Received.{pops_at}
use Rattle.fm_chan.specs.Woken.{WakesAll, waiting_reader, woken_of}
use Rattle.fm_chan.proofs.Waking.{waits_in_vain}
use Rattle.fm_finmap.proofs.Keys.{decide}
use Rattle.fm_sched.specs.Schedule.{IsLegal, play}
use Rattle.fm_net.specs.Machine.{Place, Procs, State, Need, Nothing, Event, New, Children, child, gathered, with_child}
use Rattle.fm_net.specs.Owned.{IsOwned}
use Rattle.fm_net.proofs.Children.{pair_snoc}
use Rattle.fm_net.proofs.Keys.{path_order}
use Rattle.fm_run.specs.Noted.{IsNoted}
use Rattle.fm_run.proofs.Able.{is_free, joins, receives, rests, steps_freely}
use Rattle.fm_run.proofs.Others.{StaysOrEnded, Stands, able_along, came_along, others_along}
use Rattle.fm_run.specs.Plays.{IsLawfulPlay, Play, need_in, language, has_ended, step, need_of, ended_at}

some_of_and : (program : Play) → (o : Option (List program.Proc)) (x : program.Proc) → is_some (with_child (has_ended program) (Some x) o) ≡ ((has_ended program) x && is_some o)
some_of_and program o x = go ((has_ended program) x) o
  where
    go : (b : Bool) (o : Option (List program.Proc)) → is_some (cond b (option_map (λ ys. x ∷ ys) o) None) ≡ (b && is_some o)
    go true None = refl
    go true (Some ys) = refl
    go false o = refl

-- the first child and the others have all ended, or not all
some_child : (program : Play) → (c : Option program.Proc) (o : Option (List program.Proc)) → is_some (with_child (has_ended program) c o) ≡ ((ended_at program) c && is_some o)
some_child program None o = refl
some_child program (Some x) o = some_of_and program o x

left_true : (a b : Bool) → (a && b) ≡ true → a ≡ true
left_true true b e = refl
left_true false b e = e

right_true : (a b : Bool) → (a && b) ≡ true → b ≡ true
right_true true b e = e
right_true false b e = absurd (cc e)

-- where not all children had ended, and all have ended, one of them has ended since
module _ (program : Play) (m n : Procs program.Proc) (p : Place) (b : ℕ) where
  abbrev pub EndedSince : Type 0
  EndedSince = (i : ℕ) × ((ended_at program) (get m (child p b i)) ≡ false) × ((ended_at program) (get n (child p b i)) ≡ true)

  ended_since : (i k : ℕ) → is_some (gathered (has_ended program) m p b i k) ≡ false → is_some (gathered (has_ended program) n p b i k) ≡ true → EndedSince
  ended_since i zero was is = absurd (cc was)
  ended_since i (suc k) was is = go ((ended_at program) (get m (child p b i))) refl (λ w n. ended_since (suc i) k w n)
    where
      now : ((ended_at program) (get n (child p b i)) && is_some (gathered (has_ended program) n p b (suc i) k)) ≡ true
      now = sym (some_child program (get n (child p b i)) (gathered (has_ended program) n p b (suc i) k)) ∙ is

      go : (c : Bool) → (ended_at program) (get m (child p b i)) ≡ c → (is_some (gathered (has_ended program) m p b (suc i) k) ≡ false → is_some (gathered (has_ended program) n p b (suc i) k) ≡ true → EndedSince) → EndedSince
      go false e rest = (i, e, left_true ((ended_at program) (get n (child p b i))) (is_some (gathered (has_ended program) n p b (suc i) k)) now)
      go true e rest =
          rest
          (ap (λ c. c && is_some (gathered (has_ended program) m p b (suc i) k)) (sym e) ∙ sym (some_child program (get m (child p b i)) (gathered (has_ended program) m p b (suc i) k)) ∙ was)
          (right_true ((ended_at program) (get n (child p b i))) (is_some (gathered (has_ended program) n p b (suc i) k)) now)

-- who has ended needs nothing
resting : (program : Play) → IsLawfulPlay program → (x : program.Proc) → (has_ended program) x ≡ true → need_of program x ≡ None
resting program law x done = ap need_in (law.lawful.stops x done)

-- a step is there
can_from : (program : Play) → (o : Option (State program.Proc × ℕ)) → is_some o ≡ true → (r : State program.Proc × ℕ) × (o ≡ Some r)
can_from program None e = absurd (cc e)
can_from program (Some r) e = (r, refl)

module _ (program : Play) (law : IsLawfulPlay program) (s t : State program.Proc) (own : Place) (steps : ℕ) (owned : IsOwned (language program) s) (legal : IsLegal (step program) s (replicate steps own)) (there : play (step program) s (replicate steps own) ≡ t)
    (q : Place) (apart : q ≢ own) where
  others : (r : Place) → (r ≢ own) → (x : program.Proc) → get s.procs r ≡ Some x → StaysOrEnded program x (get t.procs r)
  others r off x is = subst (λ (u : State program.Proc). StaysOrEnded program x (get u.procs r)) there (others_along program law own steps s owned legal r off x is)

  -- who could step can
  pub can_still : is_some (step program s q) ≡ true → is_some (step program t q) ≡ true
  can_still can =
      let k = able_along program law own steps s owned legal q apart (can_from program (step program s q) can) in
      ap (λ (u : State program.Proc). is_some (step program u q)) (sym there) ∙ ap is_some k.1

  -- who has ended can't step
  ended_unable : (ended_at program) (get t.procs q) ≡ true → is_some (step program t q) ≡ true → ⊥
  ended_unable ended can = go (get t.procs q) refl ended
    where
      go : (o : Option program.Proc) → get t.procs q ≡ o → (ended_at program) o ≡ true → ⊥
      go None e done = cc done
      go (Some y) e done = cc (sym (rests program t q y e (stops y done)) ∙ can)
        where
          stops : (y : program.Proc) → (has_ended program) y ≡ true → need_of program y ≡ None
          stops y d = resting program law y d

  -- ---- who couldn't step and can

  -- the one that made the steps has ended, and is a child of this one
  pub record IsLastChild : Type 0 where
    pub block : ℕ
    pub index : ℕ
    pub is_child : own ≡ child q block index
    pub ended : (ended_at program) (get t.procs own) ≡ true

  last_child : (b i : ℕ) → (ended_at program) (get s.procs (child q b i)) ≡ false → (ended_at program) (get t.procs (child q b i)) ≡ true → IsLastChild
  last_child b i was is = elim (decide path_order (child q b i) own) [
    | yes e ↦ record { block = b; index = i; is_child = sym e; ended = ap (λ r. (ended_at program) (get t.procs r)) (sym e) ∙ is }
    | no off ↦ absurd (other off (get s.procs (child q b i)) refl)
  ]
    where
      stayed : (x : program.Proc) → (has_ended program) x ≡ false → StaysOrEnded program x (get t.procs (child q b i)) → ⊥
      stayed x on (inl same) = cc (sym is ∙ ap (ended_at program) same ∙ on)
      stayed x on (inr k) = cc (sym on ∙ k.0)

      new : (y : program.Proc) → get t.procs (child q b i) ≡ Some y → get s.procs (child q b i) ≡ None → ⊥
      new y now none = came (came_along program own steps s legal (child q b i) y (ap (λ (u : State program.Proc). get u.procs (child q b i)) there ∙ now))
        where
          came : Stands program s.procs (child q b i) ⊎ ((d : ℕ) × (j : ℕ) × (child q b i ≡ child own d j)) → ⊥
          came (inl stood) = cc (sym none ∙ stood.1)
          came (inr k) = apart (pair_snoc q own (b, i) (k.0, k.1) k.2)

      other : (child q b i ≢ own) → (o : Option program.Proc) → get s.procs (child q b i) ≡ o → ⊥
      other off None e = let y = there_now (get t.procs (child q b i)) refl is in new y.0 y.1 e
        where
          there_now : (o : Option program.Proc) → get t.procs (child q b i) ≡ o → (ended_at program) o ≡ true → Stands program t.procs (child q b i)
          there_now None none done = absurd (cc done)
          there_now (Some y) at done = (y, at)
      other off (Some x) e = stayed x (ap (ended_at program) (sym e) ∙ was) (others (child q b i) off x e)

  module _ (x : program.Proc) (is : get s.procs q ≡ Some x) (unable : is_some (step program s q) ≡ false) where
    module _ (old new : Channels) (of_old : chans_of old ≡ s.chans) (of_new : chans_of new ≡ t.chans) (waking : WakesAll old new) (number : ℕ) (noted : IsNoted program old number x) where
      -- it was woken, or the last of its children ended
      pub who_became_able : is_some (step program t q) ≡ true → Contains (woken_of new) number ⊎ IsLastChild
      who_became_able can = stays (others q apart x is)
        where
          free : is_free (need_of program x) ≡ true → ⊥
          free e = cc (sym unable ∙ steps_freely program s q x is law owned e)

          woken : (c : ChanName) (limits : Limits) → need_of program x ≡ Some (Event c (Pop limits)) → get t.procs q ≡ Some x → (waiting_reader old c ≡ Some number) ⊎ Contains (woken_of old) number → Contains (woken_of new) number ⊎ IsLastChild
          woken c limits e same (inr was) = inl (waking.woken number was)
          woken c limits e same (inl waits) = go (waking.readers c number waits)
            where
              go : (waiting_reader new c ≡ Some number) ⊎ (Contains (woken_of new) number × Unit {0}) → Contains (woken_of new) number ⊎ IsLastChild
              go (inr k) = inl k.0
              go (inl still) = absurd (cc (sym can ∙ receives program t q x same c limits e ∙ ap (λ (cs : Chans). pops_at (get cs c)) (sym of_new) ∙ waits_in_vain new c number still))

          by_need : (o : Option Need) → need_of program x ≡ o → get t.procs q ≡ Some x → Contains (woken_of new) number ⊎ IsLastChild
          by_need None e same = absurd (cc (sym (rests program t q x same e) ∙ can))
          by_need (Some Nothing) e same = absurd (free (ap is_free e))
          by_need (Some (Event c (Push w m))) e same = absurd (free (ap is_free e))
          by_need (Some (Event c (Pop limits))) e same = woken c limits e same (noted c limits e)
          by_need (Some (Event c Look)) e same = absurd (free (ap is_free e))
          by_need (Some (New k w)) e same = absurd (free (ap is_free e))
          by_need (Some (Children b n)) e same =
              let k = ended_since program s.procs t.procs q b 1 n (sym (joins program s q x is b n e) ∙ unable) (sym (joins program t q x same b n e) ∙ can) in
              inr (last_child b k.0 k.1 k.2)

          stays : StaysOrEnded program x (get t.procs q) → Contains (woken_of new) number ⊎ IsLastChild
          stays (inl same) = by_need (need_of program x) refl same
          stays (inr k) = absurd (ended_unable k.1 can)

      -- who can't step still is noted still
      pub noted_still : (y : program.Proc) → get t.procs q ≡ Some y → IsNoted program new number y
      noted_still y at c limits e = stays (others q apart x is)
        where
          go : (waiting_reader old c ≡ Some number) ⊎ Contains (woken_of old) number → (waiting_reader new c ≡ Some number) ⊎ Contains (woken_of new) number
          go (inr was) = inr (waking.woken number was)
          go (inl waits) = elim (waking.readers c number waits) [ inl still ↦ inl still | inr k ↦ inr k.0 ]

          stays : StaysOrEnded program x (get t.procs q) → (waiting_reader new c ≡ Some number) ⊎ Contains (woken_of new) number
          stays (inl same) = let one : x ≡ y = cc (sym same ∙ at) in go (noted c limits (ap (need_of program) one ∙ e))
          stays (inr k) = absurd (cc (sym (resting program law y (sym (ap (ended_at program) at) ∙ k.1)) ∙ e))

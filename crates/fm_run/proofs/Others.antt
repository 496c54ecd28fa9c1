-- Other processes, over the steps of one.
use Rattle.std.proofs.Common.{◌≡◌, ◌≢◌, ◌⊎◌, inl, inr, ℕ, zero, suc, Option, Some, None, ◌++◌, Bool, true, false, length, replicate, refl, sym, ap, ◌∙◌, subst}
use Rattle.std.specs.Prelude.{option_map}
use Rattle.std.specs.FinMap.{get}
use Rattle.fm_finmap.specs.Changes.{alters}
use Rattle.fm_finmap.proofs.Alters.{alter_here, alter_there, alters_there, alters-append}
use Rattle.fm_finmap.proofs.Keys.{decide}
use Rattle.fm_sched.specs.Schedule.{Can, IsLegal, next, play}
use Rattle.fm_net.specs.Machine.{Place, Procs, State, Need, Nothing, Event, New, Children, Reply, Onward, child, changes, child_changes, need_changes, start_changes, served}
use Rattle.fm_net.specs.Owned.{IsOwned}
use Rattle.fm_net.specs.Starts as starting
use Rattle.fm_net.proofs.Keys.{path_order}
use Rattle.fm_net.proofs.Children.{IsNoChild, joined_child, off_changes, off_starts}
use Rattle.fm_net.proofs.Facts.{the_value}
use Rattle.fm_net.proofs.Needs.{absent}
use Rattle.fm_net.proofs.Orders.{came, child_among, new_child, starts_served, still_stands}
use Rattle.fm_net.proofs.Steps.{step_keeps, steps_stay}
use Rattle.fm_net.proofs.Taken.{Starts, ends_of, out_of, start_of, state_is}
use Rattle.fm_run.specs.Plays.{IsLawfulPlay, Play, language, has_ended, emptied, step, ended_at}

-- what was this process is so still, or had ended and has ended still
abbrev pub StaysOrEnded : (program : Play) → program.Proc → Option program.Proc → Type 0
StaysOrEnded program x o = (o ≡ Some x) ⊎ (((has_ended program) x ≡ true) × ((ended_at program) o ≡ true))

-- somebody is at the place
abbrev pub Stands : (program : Play) → Procs program.Proc → Place → Type 0
Stands program m q = (x : program.Proc) × (get m q ≡ Some x)

-- ---- one step

module _ (program : Play) (law : IsLawfulPlay program) (s : State program.Proc) (owned : IsOwned (language program) s) (p q : Place) (apart : q ≢ p) where
  module _ (t : Starts (language program) s p) where
    abbrev out : Onward program.Proc
    out = out_of (language program) s p t

    abbrev after : State program.Proc
    after = (ends_of (language program) s p t).0

    no_new_child : (x : program.Proc) → get s.procs q ≡ Some x → (i : ℕ) → q ≢ child p out.block i
    no_new_child x is i = absent (get s.procs) q (child p out.block i) x is (new_child (language program) law.lawful s p owned t i)

    not_joined : (x : program.Proc) → get s.procs q ≡ Some x → (has_ended program) x ≡ false → (need : Need) (r : Reply program.Proc) → served (has_ended program) s.procs s.chans p need ≡ Some r → IsNoChild (emptied program) q p need
    not_joined x is on Nothing r e = tt
    not_joined x is on (Event c a) r e = tt
    not_joined x is on (New n k) r e = tt
    not_joined x is on (Children b n) r e = λ i l h w.
        let k = joined_child (has_ended program) s.procs s.chans p b n r e i l h in
        let same : x ≡ k.0 = the_value x k.0 (sym is ∙ ap (get s.procs) w ∙ k.1) in
        cc (sym on ∙ ap (has_ended program) same ∙ k.2)

    same_process : (x : program.Proc) → get s.procs q ≡ Some x → (has_ended program) x ≡ false → get after.procs q ≡ Some x
    same_process x is on =
        alters_there path_order (changes (emptied program) p t.need out) s.procs q (off_changes (emptied program) q p t.need out apart (no_new_child x is) (not_joined x is on t.need t.reply t.serves)) ∙ is

    children_ended : (b i n : ℕ) → (ended_at program) (get s.procs q) ≡ true → (ended_at program) (get (alters (child_changes (emptied program) p b i n) s.procs) q) ≡ true
    children_ended b i zero done = done
    children_ended b i (suc n) done = elim (decide path_order q (child p b i)) [
      | yes e ↦
          let rest = children_ended b (suc i) n done in
          let m = alters (child_changes (emptied program) p b (suc i) n) s.procs in
          ap (λ r. (ended_at program) (get (alters (child_changes (emptied program) p b i (suc n)) s.procs) r)) e ∙ ap (ended_at program) (alter_here path_order m (child p b i) (option_map (emptied program)))
          ∙ ap (λ r. (ended_at program) (option_map (emptied program) (get m r))) (sym e) ∙ emptied_ended (get m q) rest
      | no off ↦ ap (ended_at program) (alter_there path_order (alters (child_changes (emptied program) p b (suc i) n) s.procs) (child p b i) (option_map (emptied program)) q off) ∙ children_ended b (suc i) n done
    ]
      where
        emptied_ended : (o : Option program.Proc) → (ended_at program) o ≡ true → (ended_at program) (option_map (emptied program) o) ≡ true
        emptied_ended None e = e
        emptied_ended (Some x) e = law.lawful.stays_ended x e

    need_ended : (need : Need) → (ended_at program) (get s.procs q) ≡ true → (ended_at program) (get (alters (need_changes (emptied program) p need) s.procs) q) ≡ true
    need_ended Nothing done = done
    need_ended (Event c a) done = done
    need_ended (New n k) done = done
    need_ended (Children b n) done = children_ended b 1 n done

    still_ended : (x : program.Proc) → get s.procs q ≡ Some x → (has_ended program) x ≡ true → (ended_at program) (get after.procs q) ≡ true
    still_ended x is done =
        let m = alters (need_changes (emptied program) p t.need) s.procs in
        let starts = start_changes p out.block 1 out.starts in
        ap (ended_at program) (alter_there path_order (alters (starts ++ need_changes (emptied program) p t.need) s.procs) p (λ v. Some out.self) q apart
        ∙ ap (λ n. get n q) (alters-append path_order starts (need_changes (emptied program) p t.need) s.procs)
        ∙ alters_there path_order starts m q (off_starts q p out.block 1 out.starts (λ i l. no_new_child x is i)))
        ∙ need_ended t.need (ap (ended_at program) is ∙ done)

    stays_by : (x : program.Proc) → get s.procs q ≡ Some x → StaysOrEnded program x (get after.procs q)
    stays_by x is = go ((has_ended program) x) refl
      where
        go : (b : Bool) → (has_ended program) x ≡ b → StaysOrEnded program x (get after.procs q)
        go true e = inr (e, still_ended x is e)
        go false e = inl (same_process x is e)

  one_step : Can (step program) s p → (x : program.Proc) → get s.procs q ≡ Some x → StaysOrEnded program x (get (next (step program) s p).procs q)
  one_step can x is =
      let t = start_of (language program) s p can in
      subst (λ (u : State program.Proc). StaysOrEnded program x (get u.procs q)) (sym (state_is (language program) s p t)) (stays_by t x is)

stays_then : (program : Play) → (x : program.Proc) (o : Option program.Proc) → StaysOrEnded program x o → (r : Option program.Proc) → ((y : program.Proc) → o ≡ Some y → StaysOrEnded program y r) → StaysOrEnded program x r
stays_then program x o (inl e) r then = then x e
stays_then program x None (inr ended) r then = absurd (cc ended.1)
stays_then program x (Some y) (inr ended) r then = go (then y refl)
  where
    go : StaysOrEnded program y r → StaysOrEnded program x r
    go (inl e) = inr (ended.0, ap (ended_at program) e ∙ ended.1)
    go (inr k) = inr (ended.0, k.1)

-- ---- several steps of one process

module _ (program : Play) (law : IsLawfulPlay program) (p : Place) where
  -- another is as it was, or has ended still
  pub others_along : (k : ℕ) (s : State program.Proc) → IsOwned (language program) s → IsLegal (step program) s (replicate k p) → (q : Place) → (q ≢ p) → (x : program.Proc) → get s.procs q ≡ Some x → StaysOrEnded program x (get (play (step program) s (replicate k p)).procs q)
  others_along zero s owned legal q apart x is = inl is
  others_along (suc k) s owned legal q apart x is =
      stays_then program x (get (next (step program) s p).procs q) (one_step program law s owned p q apart legal.0 x is) (get (play (step program) s (replicate (suc k) p)).procs q)
      (λ y there. others_along k (next (step program) s p) (step_keeps (language program) law.lawful s p owned legal.0) legal.1 q apart y there)

  -- who could step can step still
  pub able_along : (k : ℕ) (s : State program.Proc) → IsOwned (language program) s → IsLegal (step program) s (replicate k p) → (q : Place) → (q ≢ p) → Can (step program) s q → Can (step program) (play (step program) s (replicate k p)) q
  able_along zero s owned legal q apart can = can
  able_along (suc k) s owned legal q apart can =
      able_along k (next (step program) s p) (step_keeps (language program) law.lawful s p owned legal.0) legal.1 q apart (steps_stay (language program) law.lawful s owned q p apart can legal.0)

module _ (program : Play) (p : Place) where
  -- who came is a child of the one that made the steps
  pub came_along : (k : ℕ) (s : State program.Proc) → IsLegal (step program) s (replicate k p) → (q : Place) (y : program.Proc) → get (play (step program) s (replicate k p)).procs q ≡ Some y → Stands program s.procs q ⊎ ((b : ℕ) × (i : ℕ) × (q ≡ child p b i))
  came_along zero s legal q y is = inl (y, is)
  came_along (suc k) s legal q y is = go (came_along k (next (step program) s p) legal.1 q y is)
    where
      first : Stands program s.procs q ⊎ starting.Among q (starting.starts_at (language program) s p) → Stands program s.procs q ⊎ ((b : ℕ) × (i : ℕ) × (q ≡ child p b i))
      first (inl stood) = inl stood
      first (inr among) =
          let t = start_of (language program) s p legal.0 in
          let o = out_of (language program) s p t in
          let c = child_among p q o.block 1 (length o.starts) (subst (starting.Among q) (starts_served (language program) s p t) among) in
          inr (o.block, c.0, c.2)

      go : Stands program (next (step program) s p).procs q ⊎ ((b : ℕ) × (i : ℕ) × (q ≡ child p b i)) → Stands program s.procs q ⊎ ((b : ℕ) × (i : ℕ) × (q ≡ child p b i))
      go (inr child) = inr child
      go (inl stood) = first (came (language program) s p legal.0 q stood.0 stood.1)

  -- and who was there is there
  pub there_along : (k : ℕ) (s : State program.Proc) → IsLegal (step program) s (replicate k p) → (q : Place) → Stands program s.procs q → Stands program (play (step program) s (replicate k p)).procs q
  there_along zero s legal q stands = stands
  there_along (suc k) s legal q stands = there_along k (next (step program) s p) legal.1 q (still_stands (language program) s p legal.0 q stands)

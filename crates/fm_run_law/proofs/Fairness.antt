-- Who stands at a place of the queue is served when all before it were.
use Rattle.std.proofs.Common.{◌≡◌, ◌≢◌, inl, inr, ℕ, zero, suc, ◌+◌, ◌-◌, ◌≤◌, true, Option, Some, None, List, [], ◌∷◌, ◌++◌, length, filter, length-append, replicate, refl, sym, ap, ◌∙◌, subst, arith, append_assoc, append-nil}
use Rattle.std.specs.Prelude.{is_some, slice_get, slice_index_or}
use Rattle.std.specs.FinMap.{get}
use Rattle.std.specs.List.{range_with_len}
use Rattle.std.proofs.lemmas.List.Elements.{filter-append}
use Rattle.std.proofs.lemmas.Option.{get_or_from_slice_get}
use Rattle.fm_base.specs.declared.schedule.Turn.{Turn}
use Rattle.fm_sched.specs.Schedule.{Can, play}
use Rattle.fm_net.specs.Machine.{Place, State}
use Rattle.fm_net.specs.Owned.{IsOwned}
use Rattle.fm_net.specs.Starts.{starts_along}
use Rattle.fm_net.proofs.Histories.{longer_at}
use Rattle.fm_net.proofs.Orders.{everybody, one_number_each}
use Rattle.fm_run.specs.Orders.{Among, EachOnce, can_at, can_in, chosen, is_new, others_in}
use Rattle.fm_run.specs.Plays.{IsLawfulPlay, Play, first_proc, language, step}
use Rattle.fm_run.specs.Runs.{Follows, FollowsFrom, IsNext, Stand, after_entries, after_entry, first_stand, place_of, steps_of}
use Rattle.fm_run.proofs.Able.{some_there, steps_there}
use Rattle.fm_run.proofs.Others.{able_along}
use Rattle.fm_run.proofs.Playing.{known}
use Rattle.fm_run.proofs.Steps.{owned_reached}
use Rattle.fm_run_law.specs.Fair.{IsFair, IsFairFrom, IsServed}
use Rattle.fm_run_law.proofs.Along.{Along, along_first, along_more, at_own}
use Rattle.fm_run_law.proofs.Counts.{at_most, filter_all, others_rest, place_in}

-- later entries add processes behind those that are there
pub grown : (program : Play) (a : Stand program.Proc) (ts : List Turn) → (more : List Place) × ((after_entries program a ts).places ≡ a.places ++ more)
grown program a [] = ([], sym (append-nil a.places))
grown program a (t ∷ ts) =
    let new = starts_along (language program) a.state (steps_of a.places t) in
    let k = grown program (after_entry program a t) ts in
    (new ++ k.0, k.1 ∙ append_assoc a.places new k.0)

module _ (program : Play) (law : IsLawfulPlay program) where
  owned : (a : Stand program.Proc) → Along program a → IsOwned (language program) a.state
  owned a along = owned_reached program law a.state (along.choices, along.legal, along.there)

  one_number : (a : Stand program.Proc) → Along program a → (n m : ℕ) (q : Place) → slice_get a.places n ≡ Some q → slice_get a.places m ≡ Some q → n ≡ m
  one_number a along n m q e f =
      one_number_each (language program) law.lawful (first_proc program) law.free along.choices along.legal n m q
      (ap (λ (ps : List Place). slice_get ps n) (sym along.places_are) ∙ e) (ap (λ (ps : List Place). slice_get ps m) (sym along.places_are) ∙ f)

  -- who can step has a number, which is in the queue
  queued : (a : Stand program.Proc) → Along program a → (q : Place) → Can (step program) a.state q → (k : ℕ) × (slice_get a.places k ≡ Some q) × Among k a.able
  queued a along q can =
      let can' : is_some (step program a.state q) ≡ true = ap is_some can.1 in
      let who = steps_there program a.state q (get a.state.procs q) refl can' in
      let at = everybody (language program) (first_proc program) along.choices along.legal q who.0 (ap (λ (u : State program.Proc). get u.procs q) along.there ∙ who.1) in
      let is : slice_get a.places at.0 ≡ Some q = ap (λ (ps : List Place). slice_get ps at.0) along.places_are ∙ at.1 in
      (at.0, is, along.able.whole at.0 (ap (can_in program a.state) is ∙ can'))

  module _ (slice : ℕ) (choice : Option ℕ) (a : Stand program.Proc) (along : Along program a) (t : Turn) (next : IsNext program slice choice a t) where
    abbrev own : ℕ
    own = t.number

    abbrev p : Place
    p = place_of a.places t

    abbrev later : Stand program.Proc
    later = after_entry program a t

    abbrev more : List Place
    more = starts_along (language program) a.state (steps_of a.places t)

    -- the others can step still
    others_can : (n : ℕ) → Among n a.able → (n ≢ own) → can_at program later.state later.places n ≡ true
    others_can n h differs = found (slice_get a.places n) refl (along.able.within n h)
      where
        found : (o : Option Place) → slice_get a.places n ≡ o → can_at program a.state a.places n ≡ true → can_at program later.state later.places n ≡ true
        found None e can = absurd (cc (sym (ap (can_in program a.state) e) ∙ can))
        found (Some q) e can =
            let apart : q ≢ p = λ same. differs (one_number a along n own q e (at_own program slice choice a along t next ∙ ap Some (sym same))) in
            let here = some_there (step program a.state q) (sym (ap (can_in program a.state) e) ∙ can) in
            let still = able_along program law p t.steps a.state (owned a along) next.full.can q apart here in
            ap (can_in program later.state) (longer_at a.places more n q e) ∙ ap is_some still.1

    -- where the first one was chosen, the others move up
    moves_up : (j k : ℕ) → (able : List ℕ) → a.able ≡ able → slice_get able 0 ≡ Some own → slice_get able (suc j) ≡ Some k → slice_get later.able j ≡ Some k
    moves_up j k [] is first_is at = absurd (cc first_is)
    moves_up j k (x ∷ rest) is first_is at =
        let same : x ≡ own = cc first_is in
        let whole : a.able ≡ own ∷ rest = is ∙ ap (λ (y : ℕ). y ∷ rest) same in
        let once : EachOnce (own ∷ rest) = subst EachOnce whole along.able.once in
        let can = can_at program later.state later.places in
        let behind = filter (is_new own a.able) (range_with_len 0 (length later.places)) ++ own ∷ [] in
        let others : others_in own a.able ≡ rest = ap (others_in own) whole ∙ others_rest own rest once in
        let all : (n : ℕ) → Among n rest → can n ≡ true = λ n h.
        others_can n (subst (λ (ns : List ℕ). Among n ns) (sym whole) (inr h)) (λ e. once.0 (subst (λ (m : ℕ). Among m rest) e h)) in
        let parts : later.able ≡ rest ++ filter can behind =
        ap (λ (ns : List ℕ). filter can (ns ++ behind)) others ∙ filter-append can rest behind ∙ ap (λ (ns : List ℕ). ns ++ filter can behind) (filter_all can rest all) in
        ap (λ (ns : List ℕ). slice_get ns j) parts ∙ longer_at rest (filter can behind) j k at

  -- ---- served

  first_of : (able : List ℕ) (n : ℕ) → chosen None able ≡ Some n → slice_get able 0 ≡ Some n
  first_of able n e = e

  served : (slice extra i : ℕ) (ts : List Turn) (n : ℕ) (a : Stand program.Proc) → Along program a → FollowsFrom program slice [] n a ts → (k : ℕ) → slice_get a.able i ≡ Some k → (places : List Place) (q : Place) → slice_get places k ≡ Some q
      → IsServed places q (suc (i + extra)) ts
  served slice extra i [] n a along follows k at places q is = tt
  served slice extra zero (t ∷ ts) n a along follows k at places q is =
      let same : t.number ≡ k = cc (sym (first_of a.able t.number follows.0.who) ∙ at) in
      inl (ap (slice_get places) same ∙ is)
  served slice extra (suc i) (t ∷ ts) n a along follows k at places q is =
      let e : suc (i + extra) ≡ suc i + extra = omega arith in
      let up = moves_up slice None a along t follows.0 i k a.able refl (first_of a.able t.number follows.0.who) at in
      inr (subst (λ (m : ℕ). IsServed places q m ts) e (served slice extra i ts (suc n) (after_entry program a t) (along_more program slice None a along t follows.0) follows.1 k up places q is))

  -- ---- fair

  fair_from : (slice : ℕ) (ts : List Turn) (n : ℕ) (a : Stand program.Proc) → Along program a → FollowsFrom program slice [] n a ts → (places : List Place) → places ≡ (after_entries program a ts).places → IsFairFrom program a.state places ts
  fair_from slice [] n a along follows places is = tt
  fair_from slice (t ∷ ts) n a along follows places is = (
    (λ q can.
        let who = queued a along q can in
        let at = place_in a.able who.0 who.2 in
        let few : length a.able ≤ length a.places = at_most (length a.places) a.able along.able.once (λ m h. known program a.state a.places m (along.able.within m h)) in
        let grow = grown program a (t ∷ ts) in
        let long : length places ≡ length a.places + length grow.0 = ap length (is ∙ grow.1) ∙ length-append a.places grow.0 in
        let count : suc (at.0 + (length places - suc at.0)) ≡ length places = omega (arith, at.1, few, long) in
        let here : slice_get places who.0 ≡ Some q = ap (λ (ps : List Place). slice_get ps who.0) (is ∙ grow.1) ∙ longer_at a.places grow.0 who.0 q who.1 in
        subst (λ (m : ℕ). IsServed places q m (t ∷ ts)) count (served slice (length places - suc at.0) at.0 (t ∷ ts) n a along follows who.0 at.2 places q here)),
    (let rest = fair_from slice ts (suc n) (after_entry program a t) (along_more program slice None a along t follows.0) follows.1 places is in
        let grow = grown program a (t ∷ ts) in
        let own_at = at_own program slice None a along t follows.0 in
        let at : slice_index_or places t.number [] ≡ place_of a.places t =
        get_or_from_slice_get places t.number (place_of a.places t) [] (ap (λ (ps : List Place). slice_get ps t.number) (is ∙ grow.1) ∙ longer_at a.places grow.0 t.number (place_of a.places t) own_at) in
        subst (λ (p : Place). IsFairFrom program (play (step program) a.state (replicate t.steps p)) places ts) (sym at) rest),
  )

  pub fair : (slice : ℕ) (history : List Turn) → Follows program slice [] history → IsFair program history (after_entries program (first_stand program) history).places
  fair slice history follows = fair_from slice history 0 (first_stand program) (along_first program) follows (after_entries program (first_stand program) history).places refl

-- A step is a list of its parts, and so steps stay, keep ownership and meet as parts do.
use Rattle.std.proofs.Common.{◌≡◌, ◌≢◌, ℕ, zero, suc, ◌+◌, ◌-◌, ◌≤◌, Option, Some, None, List, [], ◌∷◌, ◌++◌, Bool, true, false, cond, nat_lt, option_map, refl, sym, ap, ◌∙◌, subst, arith, lt-ltb}
use mathlib.Core.Path.{fun_ext}
use Rattle.std.specs.FinMap.{get}
use Rattle.fm_base.specs.declared.port.PortValue.{PortValue}
use Rattle.fm_base.specs.Channels.{Chans, channel_of, freed, shut, shed, weight}
use Rattle.fm_finmap.proofs.Keys.{decide}
use Rattle.fm_sched.specs.Schedule.{price, Can, next, IsEnding, NotIn, Stays, Diamond, Leads}
use Rattle.fm_sched.proofs.Runs.{leads_nowhere, leads_first, leads_on}
use Rattle.fm_sched.proofs.Along.{good_after, can_after, stays_after}
use Rattle.fm_sched.proofs.Fronts.{settles}
use Rattle.fm_sched.proofs.Moves.{MovesMeet, next_is, stays_by_moves, diamond}
use Rattle.fm_net.specs.Machine.{Place, Procs, State, Begun, finished, begun, machine_step}
use Rattle.fm_net.specs.Language.{Language}
use Rattle.fm_net.specs.Owned.{one, count, IsOwned, HasOneWriter, GoneIsEmpty}
use Rattle.fm_net.specs.Lawful.{IsLawfulLanguage}
use Rattle.fm_net.specs.Plain.{KeepsPlain, AllPlain}
use Rattle.fm_net.proofs.Keys.{path_order}
use Rattle.fm_net.proofs.Counts.{shut-closed, one_self, count-nil, count-cons, count-append, port_decide}
use Rattle.fm_discards.proofs.Shedding.{weight-cons, no_weight}
use Rattle.fm_net.proofs.Parts.{Midway, Part, Run, Discard, one_place, one_place_self, Move, end, ran, without_port, part_step, took, takes}
use Rattle.fm_net.proofs.Meeting.{IsSound, stay, plain_meet}
use Rattle.fm_net.proofs.Keeping.{keeps, keeps_plain, keeps_single}
use Rattle.fm_net.proofs.Gone.{keeps_empty}

place_of : Part → Place → Place
place_of (Run p) d = p
place_of (Discard x) d = d

part_decide : (a b : Part) → Dec (a ≡ b)
part_decide (Run p) (Run q) = elim (decide path_order p q) [ yes e ↦ yes (ap Run e) | no n ↦ no (λ e. n (cc)) ]
part_decide (Run p) (Discard y) = no (λ e. cc)
part_decide (Discard x) (Run q) = no (λ e. cc)
part_decide (Discard x) (Discard y) = elim (port_decide x y) [ yes e ↦ yes (ap Discard e) | no n ↦ no (λ e. n (cc)) ]

-- the discards in the order of `shed`
trace : ℕ → List PortValue → Chans → List Part
trace zero ds m = []
trace (suc n) [] m = []
trace (suc n) (x ∷ ds) m = Discard x ∷ trace n (freed x (get m (channel_of x)) ++ ds) (shut x m)

module _ {Proc : Type 0} (language : Language Proc) where
  abbrev pub part : Midway Proc → Part → Option (Midway Proc × ℕ)
  part = part_step language

  abbrev pub step : State Proc → Place → Option (State Proc × ℕ)
  step = machine_step language.ask language.has_ended language.emptied

  abbrev ran_option : Midway Proc → Place → Option (Begun Proc) → Option (Midway Proc × ℕ)
  ran_option mid p = option_map (ran language mid p)

  unfoldable pub midway : Procs Proc → Chans → List PortValue → (Place → ℕ) → Midway Proc
  midway procs m ds remaining = record { procs = procs; chans = m; loose = λ z. count z ds; remaining = remaining }

  discarding : (n : ℕ) (ds : List PortValue) (m : Chans) (procs : Procs Proc) (remaining : Place → ℕ) → weight ds m ≤ n
      → Leads part (midway procs m ds remaining) (trace n ds m) (midway procs (shed n ds m) [] remaining) 0
  unfolding midway trace
  discarding zero ds m procs remaining h = record { legal = tt; there = ap (λ es. midway procs m es remaining) (no_weight ds m h); price_is = refl }
  discarding (suc n) [] m procs remaining h = leads_nowhere part (midway procs m [] remaining)
  discarding (suc n) (x ∷ ds) m procs remaining h =
      let more = freed x (get m (channel_of x)) ++ ds in
      let rest = discarding n more (shut x m) procs remaining (omega (arith, weight-cons x ds m)) in
      let same : without_port language (midway procs m (x ∷ ds) remaining) x ≡ midway procs (shut x m) more remaining =
      λ i. record {
        procs = procs;
        chans = sym (shut-closed x m) i;
        loose = fun_ext {f = λ z. (count z (x ∷ ds) - one x z) + count z (freed x (get m (channel_of x)))} {g = λ z. count z more}
            (λ z. omega (arith, count-cons z x ds, count-append z (freed x (get m (channel_of x))) ds)) i;
        remaining = remaining;
      } in
      leads_first part (midway procs m (x ∷ ds) remaining) (Discard x) (without_port language (midway procs m (x ∷ ds) remaining) x, 0) (trace n more (shut x m)) _ 0
      (takes language (midway procs m (x ∷ ds) remaining) (Discard x) (omega (arith, count-cons x x ds, one_self x)))
      (subst (λ y. Leads part y (trace n more (shut x m)) (midway procs (shed n more (shut x m)) [] remaining) 0) (sym same) rest)

  -- ---- the parts of one step

  abbrev pub at : State Proc → (Place → ℕ) → Midway Proc
  at s remaining = midway s.procs s.chans [] remaining

  abbrev pub less : Place → (Place → ℕ) → Place → ℕ
  less p remaining q = remaining q - one_place p q

  abbrev discards : Begun Proc → List Part
  discards b = trace (weight b.drops b.chans) b.drops b.chans

  abbrev parts : Place → Begun Proc → List Part
  parts p b = Run p ∷ discards b

  run_first : (s : State Proc) (p : Place) (b : Begun Proc) (remaining : Place → ℕ) → begun language.ask language.has_ended language.emptied s p ≡ Some b → 1 ≤ remaining p → part (at s remaining) (Run p) ≡ Some (midway b.procs b.chans b.drops (less p remaining), b.cost)
  unfolding midway
  run_first s p b remaining is h =
      ap (λ c. cond c (ran_option (at s remaining) p (begun language.ask language.has_ended language.emptied s p)) None) (lt-ltb 0 (remaining p) h) ∙ ap (ran_option (at s remaining) p) is
      ∙ λ i. Some (
        record {
          procs = b.procs;
          chans = b.chans;
          loose = fun_ext {f = λ z. count z [] + count z b.drops} {g = λ z. count z b.drops} (λ z. omega (arith, count-nil z)) i;
          remaining = less p remaining;
        },
        b.cost,
      )

  parts_lead : (s : State Proc) (p : Place) (b : Begun Proc) (remaining : Place → ℕ) → begun language.ask language.has_ended language.emptied s p ≡ Some b → 1 ≤ remaining p → Leads part (at s remaining) (parts p b) (at (finished b).0 (less p remaining)) (b.cost + 0)
  parts_lead s p b remaining is h =
      leads_first part (at s remaining) (Run p) (midway b.procs b.chans b.drops (less p remaining), b.cost) (discards b) (at (finished b).0 (less p remaining)) 0 (run_first s p b remaining is h)
      (discarding (weight b.drops b.chans) b.drops b.chans b.procs (less p remaining) (omega arith))

  -- and back: the first part of a process is the beginning of a step
  run_begun : (s : State Proc) (p : Place) (remaining : Place → ℕ) (r : Midway Proc × ℕ) → part (at s remaining) (Run p) ≡ Some r → (b : Begun Proc) × (begun language.ask language.has_ended language.emptied s p ≡ Some b) × (b.cost ≡ r.1)
  unfolding midway price
  run_begun s p remaining r e = go (nat_lt 0 (remaining p)) (begun language.ask language.has_ended language.emptied s p) refl e
    where
      go : (c : Bool) (o : Option (Begun Proc)) → begun language.ask language.has_ended language.emptied s p ≡ o → cond c (ran_option (at s remaining) p o) None ≡ Some r → (b : Begun Proc) × (begun language.ask language.has_ended language.emptied s p ≡ Some b) × (b.cost ≡ r.1)
      go true None is e' = absurd (cc e')
      go true (Some b) is e' = (b, is, ap price e')
      go false o is e' = absurd (cc e')

  not_traced : (p : Place) (n : ℕ) (ds : List PortValue) (m : Chans) → NotIn (Run p) (trace n ds m)
  unfolding trace
  not_traced p zero ds m = tt
  not_traced p (suc n) [] m = tt
  not_traced p (suc n) (x ∷ ds) m = ((λ e. cc), not_traced p n (freed x (get m (channel_of x)) ++ ds) (shut x m))

  not_in_parts : (p q : Place) (b : Begun Proc) → (p ≢ q) → NotIn (Run q) (parts p b)
  unfolding place_of
  not_in_parts p q b apart = ((λ w. apart (ap (λ a. place_of a p) (sym w))), not_traced q (weight b.drops b.chans) b.drops b.chans)

  nothing_left : (s : State Proc) (remaining : Place → ℕ) → ((p : Place) → remaining p ≡ 0) → (a : Part) → part (at s remaining) a ≡ None
  unfolding midway
  nothing_left s remaining none (Run p) = ap (λ n. cond (nat_lt 0 n) (ran_option (at s remaining) p (begun language.ask language.has_ended language.emptied s p)) None) (none p)
  nothing_left s remaining none (Discard x) = ap (λ n. cond (nat_lt 0 n) (Some (without_port language (at s remaining) x, 0)) None) (count-nil x)

  ends_at : (mid : Midway Proc) (s : State Proc) (remaining : Place → ℕ) (cs : List Part) (paid : ℕ) → Leads part mid cs (at s remaining) paid → ((p : Place) → remaining p ≡ 0) → IsEnding part mid cs
  ends_at mid s remaining cs paid l none = (l.legal, λ a. subst (λ x. part x a ≡ None) (sym l.there) (nothing_left s remaining none a))

  -- ---- the step taken apart

  abbrev pub Whole : State Proc → Place → Type 0
  Whole s p = (b : Begun Proc) × (begun language.ask language.has_ended language.emptied s p ≡ Some b)

  abbrev pub whole_end : (s : State Proc) (p : Place) → Whole s p → State Proc × ℕ
  whole_end s p m = finished m.0

  pub whole_took : (s : State Proc) (p : Place) (r : State Proc × ℕ) → step s p ≡ Some r → Whole s p
  whole_took s p r e = go (begun language.ask language.has_ended language.emptied s p) refl e
    where
      go : (o : Option (Begun Proc)) → begun language.ask language.has_ended language.emptied s p ≡ o → option_map finished o ≡ Some r → Whole s p
      go None is e' = absurd (cc e')
      go (Some b) is e' = (b, is)

  pub whole_takes : (s : State Proc) (p : Place) (m : Whole s p) → step s p ≡ Some (whole_end s p m)
  whole_takes s p m = ap (option_map finished) m.1

  -- both processes have one step to make
  unfoldable pub both : Place → Place → Place → ℕ
  both p q r = one_place p r + one_place q r

  pub both_first : (p q : Place) → 1 ≤ both p q p
  unfolding both
  both_first p q = omega (arith, one_place_self p)

  pub both_second : (p q : Place) → 1 ≤ both p q q
  unfolding both
  both_second p q = omega (arith, one_place_self q)

  pub second_left : (p q : Place) → 1 ≤ less p (both p q) q
  unfolding both
  second_left p q = omega (arith, one_place_self q)

  pub first_left : (p q : Place) → 1 ≤ less q (both p q) p
  unfolding both
  first_left p q = omega (arith, one_place_self p)

  none_left : (p q r : Place) → less q (less p (both p q)) r ≡ 0
  unfolding both
  none_left p q r = omega arith

  none_left_turned : (p q r : Place) → less p (less q (both p q)) r ≡ 0
  unfolding both
  none_left_turned p q r = omega arith

  abbrev pub state_of : Midway Proc → State Proc
  state_of mid = record { procs = mid.procs; chans = mid.chans }

  abbrev Owned : State Proc → Type 0
  Owned = IsOwned language

  abbrev Sound : Midway Proc → Type 0
  Sound = IsSound language

  pub sound_at : (s : State Proc) (remaining : Place → ℕ) → Owned s → Sound (at s remaining)
  unfolding midway
  sound_at s remaining o = record { stands = λ z. omega (arith, o.stands z, count-nil z); born = o.born; named = o.named }

  pub owned_at : (s : State Proc) (remaining : Place → ℕ) → Sound (at s remaining) → Owned s
  unfolding midway
  owned_at s remaining g = record { stands = λ z. omega (arith, g.stands z, count-nil z); born = g.born; named = g.named }

  part_next : (mid : Midway Proc) (a : Part) (m : Move language mid a) → next part mid a ≡ (end language mid a m).0
  part_next = next_is part (Move language) (end language) (took language) (takes language)

  whole_next : (s : State Proc) (p : Place) (m : Whole s p) → next step s p ≡ (finished m.0).0
  whole_next = next_is step Whole whole_end whole_took whole_takes

  -- ---- what each part keeps, each step keeps

  module _ (Good : Midway Proc → Type 0) (kept : (mid : Midway Proc) → Good mid → (a : Part) (m : Move language mid a) → Good (end language mid a m).0) where
    good_keeps : (mid : Midway Proc) (a : Part) → Good mid → Can part mid a → Good (next part mid a)
    good_keeps mid a good can = let m = took language mid a can.0 can.1 in subst Good (sym (part_next mid a m)) (kept mid good a m)

    pub whole_keeps : (s : State Proc) (p : Place) (remaining : Place → ℕ) → 1 ≤ remaining p → Good (at s remaining) → (m : Whole s p) → Good (at (finished m.0).0 (less p remaining))
    whole_keeps s p remaining h good m =
        let l = parts_lead s p m.0 remaining m.1 h in
        subst Good l.there (good_after part Good good_keeps (parts p m.0) (at s remaining) good l.legal)

    -- and where all parts meet, steps do
    module _ (meets : (mid : Midway Proc) → Good mid → (a b : Part) → (a ≢ b) → (m : Move language mid a) (n : Move language mid b) → MovesMeet (Move language) (end language) mid a b m n) where
      part_diamond : (mid : Midway Proc) → Good mid → Diamond part mid
      part_diamond mid good = diamond part (Move language) (end language) (took language) (takes language) mid (meets mid good)

      -- after p's step q has its own, at the same cost
      follows : (s : State Proc) (p q : Place) (remaining : Place → ℕ) → Good (at s remaining) → (p ≢ q) → 1 ≤ remaining p → 1 ≤ remaining q → (m : Whole s p) (n : Whole s q) → (b : Begun Proc) × (begun language.ask language.has_ended language.emptied (finished m.0).0 q ≡ Some b) × (b.cost ≡ n.0.cost)
      unfolding price
      follows s p q remaining good apart h g m n =
          let l = parts_lead s p m.0 remaining m.1 h in
          let e = run_first s q n.0 remaining n.1 g in
          let after_p = stays_after part Good good_keeps part_diamond (parts p m.0) (at s remaining) (Run q) good l.legal (not_in_parts p q m.0 apart) ((midway n.0.procs n.0.chans n.0.drops (less q remaining), n.0.cost), e) in
          let there : part (at (finished m.0).0 (less p remaining)) (Run q) ≡ Some after_p.0.0 = ap (λ x. part x (Run q)) (sym l.there) ∙ after_p.0.1 in
          let b = run_begun (finished m.0).0 q (less p remaining) after_p.0.0 there in
          (b.0, b.1, b.2 ∙ sym (ap price after_p.0.1) ∙ after_p.1 ∙ ap price e)

      pub whole_meet : (s : State Proc) (p q : Place) → Good (at s (both p q)) → (p ≢ q) → (m : Whole s p) (n : Whole s q) → MovesMeet Whole whole_end s p q m n
      unfolding midway
      whole_meet s p q good apart m n =
          let remaining = both p q in
          let b = follows s p q remaining good apart (both_first p q) (both_second p q) m n in
          let a = follows s q p remaining good (λ e. apart (sym e)) (both_second p q) (both_first p q) n m in
          let first = leads_on part (at s remaining) (at (finished m.0).0 (less p remaining)) (at (finished b.0).0 (less q (less p remaining))) (parts p m.0) (parts q b.0) _ _
          (parts_lead s p m.0 remaining m.1 (both_first p q)) (parts_lead (finished m.0).0 q b.0 (less p remaining) b.1 (second_left p q)) in
          let second = leads_on part (at s remaining) (at (finished n.0).0 (less q remaining)) (at (finished a.0).0 (less p (less q remaining))) (parts q n.0) (parts p a.0) _ _
          (parts_lead s q n.0 remaining n.1 (both_second p q)) (parts_lead (finished n.0).0 p a.0 (less q remaining) a.1 (first_left p q)) in
          let all = settles part part_decide Good good_keeps part_diamond (at s remaining) (parts p m.0 ++ parts q b.0) good
          (ends_at (at s remaining) (finished b.0).0 (less q (less p remaining)) (parts p m.0 ++ parts q b.0) _ first (none_left p q)) in
          let one_end = all.one_state (parts q n.0 ++ parts p a.0) (ends_at (at s remaining) (finished a.0).0 (less p (less q remaining)) (parts q n.0 ++ parts p a.0) _ second (none_left_turned p q)) in
          record {
            first = (a.0, a.1);
            second = (b.0, b.1);
            one_state = ap state_of (sym second.there ∙ one_end ∙ first.there);
            first_cost = a.2;
            second_cost = b.2;
          }

  -- where all processes are plain and no channel has a second writer
  abbrev pub IsSoleState : (Proc → Type 0) → State Proc → Type 0
  IsSoleState IsPlain s = AllPlain language IsPlain s.procs × HasOneWriter s.chans

  module _ (laws : IsLawfulLanguage language) where
    part_stays : (mid : Midway Proc) → Sound mid → Stays part mid
    part_stays mid good = stays_by_moves part (Move language) (end language) (took language) (takes language) mid (λ a b apart m n. stay language laws mid good a b apart m n)

    -- ---- steps keep ownership

    pub step_keeps : (s : State Proc) (p : Place) → Owned s → Can step s p → Owned (next step s p)
    step_keeps s p owned can =
        let m = whole_took s p can.0 can.1 in
        subst Owned (sym (whole_next s p m))
        (owned_at (finished m.0).0 (less p (one_place p)) (whole_keeps Sound (keeps language laws) s p (one_place p) (omega (arith, one_place_self p)) (sound_at s (one_place p) owned) m))

    -- what each part keeps, each step does
    module _ (Fact : State Proc → Type 0) (kept : (mid : Midway Proc) (a : Part) → Sound mid → Fact (state_of mid) → (m : Move language mid a) → Fact (state_of (end language mid a m).0)) where
      abbrev SoundFact : Midway Proc → Type 0
      SoundFact mid = Sound mid × Fact (state_of mid)

      fact_kept : (mid : Midway Proc) → SoundFact mid → (a : Part) (m : Move language mid a) → SoundFact (end language mid a m).0
      fact_kept mid good a m = (keeps language laws mid good.0 a m, kept mid a good.0 good.1 m)

      fact_at : (s : State Proc) (remaining : Place → ℕ) → Owned s → Fact s → SoundFact (at s remaining)
      unfolding midway
      fact_at s remaining owned fact = (sound_at s remaining owned, fact)

      at_fact : (s : State Proc) (remaining : Place → ℕ) → SoundFact (at s remaining) → Fact s
      unfolding midway
      at_fact s remaining good = good.1

      pub step_keeps_fact : (s : State Proc) (p : Place) → Owned s → Fact s → Can step s p → Fact (next step s p)
      step_keeps_fact s p owned fact can =
          let m = whole_took s p can.0 can.1 in
          subst Fact (sym (whole_next s p m))
          (at_fact (finished m.0).0 (less p (one_place p)) (whole_keeps SoundFact fact_kept s p (one_place p) (omega (arith, one_place_self p)) (fact_at s (one_place p) owned fact) m))

    pub step_keeps_empty : (s : State Proc) (p : Place) → Owned s → GoneIsEmpty s.chans → Can step s p → GoneIsEmpty (next step s p).chans
    step_keeps_empty = step_keeps_fact (λ s. GoneIsEmpty s.chans) (λ mid a good all m. keeps_empty language mid all a m)

    -- ---- a step of q leaves p its step

    still_begun : (s : State Proc) (p q : Place) → Owned s → (p ≢ q) → Whole s p → (n : Whole s q) → Whole (finished n.0).0 p
    still_begun s p q owned apart m n =
        let remaining = both q p in
        let l = parts_lead s q n.0 remaining n.1 (both_first q p) in
        let can = can_after part Sound (good_keeps Sound (keeps language laws)) part_stays (parts q n.0) (at s remaining) (Run p) (sound_at s remaining owned) l.legal (not_in_parts q p n.0 (λ e. apart (sym e)))
        ((midway m.0.procs m.0.chans m.0.drops (less p remaining), m.0.cost), run_first s p m.0 remaining m.1 (both_second q p)) in
        let b = run_begun (finished n.0).0 p (less q remaining) can.0 (ap (λ x. part x (Run p)) (sym l.there) ∙ can.1) in
        (b.0, b.1)

    pub steps_stay : (s : State Proc) → Owned s → Stays step s
    steps_stay s owned = stays_by_moves step Whole whole_end whole_took whole_takes s (λ p q apart m n. still_begun s p q owned apart m n)

    -- ---- with plain processes and one writer a channel, both orders meet

    module _ (IsPlain : Proc → Type 0) (plain : KeepsPlain language IsPlain) where
      sole_kept : (mid : Midway Proc) (a : Part) → Sound mid → IsSoleState IsPlain (state_of mid) → (m : Move language mid a) → IsSoleState IsPlain (state_of (end language mid a m).0)
      sole_kept mid a good sole m = (keeps_plain language laws mid good IsPlain plain sole.0 a m, keeps_single language laws mid good IsPlain plain sole.0 sole.1 a m)

      pub step_keeps_sole : (s : State Proc) (p : Place) → Owned s → IsSoleState IsPlain s → Can step s p → IsSoleState IsPlain (next step s p)
      step_keeps_sole = step_keeps_fact (IsSoleState IsPlain) sole_kept

      abbrev Sole : Midway Proc → Type 0
      Sole mid = Sound mid × IsSoleState IsPlain (state_of mid)

      sole_meet : (mid : Midway Proc) → Sole mid → (a b : Part) → (a ≢ b) → (m : Move language mid a) (n : Move language mid b) → MovesMeet (Move language) (end language) mid a b m n
      sole_meet mid good = plain_meet language laws mid good.0 IsPlain plain good.1.0 good.1.1

      pub steps_commute : (s : State Proc) → Owned s → IsSoleState IsPlain s → Diamond step s
      steps_commute s owned sole = diamond step Whole whole_end whole_took whole_takes s
          (λ p q. whole_meet Sole (fact_kept (IsSoleState IsPlain) sole_kept) sole_meet s p q (fact_at (IsSoleState IsPlain) sole_kept s (both p q) owned sole))

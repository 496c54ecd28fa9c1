-- The steps of any events at hosts are a schedule of the meaning.
use Rattle.std.proofs.Common.{◌≡◌, ℕ, ◌+◌, List, [], ◌∷◌, ◌++◌, Option, Some, None, refl, sym, subst, arith}
use Rattle.fm_sched.specs.Schedule.{IsReached, Leads}
use Rattle.fm_sched.proofs.Along.{reached_next}
use Rattle.fm_sched.proofs.Runs.{leads_nowhere, leads_first, next-Some}
use Rattle.fm_net.specs.Machine.{Place, State}
use Rattle.fm_net.specs.Language.{Language, language_step}
use Rattle.fm_link_law.specs.Hosts.{Hosts, state_of, IsSound, sent, answered, delivered, lost, restarted}
use Rattle.fm_link_law.specs.Steps.{hosts_step}
use Rattle.fm_link_law.specs.Play.{HostEvent, Step, Send, Answer, Deliver, Lose, Restart, EventEnd, still, came_of, stepped_to, happens, hosts_after, steps_of, cost_of, KeepsToWords}
use Rattle.fm_link_law.proofs.Stepping.{steps_forth, StepsAlike}
use Rattle.fm_link_law.proofs.Travelling.{IsStill, sent_still, answered_still, delivered_still, lost_still, restarted_still}

module _ {Proc : Type 0} (language : Language Proc) (start : State Proc) (keeps : KeepsToWords language start) where
  abbrev step : State Proc → Place → Option (State Proc × ℕ)
  step = language_step language

  abbrev Reached : Hosts Proc → Type 0
  Reached h = IsReached step start (state_of h)

  -- what came of events leads there, and is sound
  pub record PlaysSo (h : Hosts Proc) (es : List HostEvent) : Type 0 where
    pub leads : Leads step (state_of h) (steps_of language h es) (state_of (hosts_after language h es)) (cost_of language h es)
    pub sound : IsSound (hosts_after language h es)

  -- the same of one event and the ones behind it
  abbrev GoesOn : Hosts Proc → EventEnd Proc → List HostEvent → Type 0
  GoesOn h c es = Leads step (state_of h) (c.steps ++ steps_of language c.hosts es) (state_of (hosts_after language c.hosts es)) (c.cost + cost_of language c.hosts es)
      × IsSound (hosts_after language c.hosts es)

  unmoved : (h later : Hosts Proc) (es : List HostEvent) → IsStill h later → Reached h → ((k : Hosts Proc) → IsSound k → Reached k → PlaysSo k es) → GoesOn h (still later) es
  unmoved h later es kept reached rest =
      let plays = rest later kept.sound (subst (IsReached step start) (sym kept.same) reached) in
      let there : Leads step (state_of h) (steps_of language later es) (state_of (hosts_after language later es)) (cost_of language later es) =
      subst (λ s. Leads step s (steps_of language later es) (state_of (hosts_after language later es)) (cost_of language later es)) kept.same plays.leads in
      (subst (Leads step (state_of h) (steps_of language later es) (state_of (hosts_after language later es))) (none_more (cost_of language later es)) there, plays.sound)
    where
      none_more : (n : ℕ) → n ≡ 0 + n
      none_more n = omega arith

  moved : (h later : Hosts Proc) (sound : IsSound h) (p : Place) (cost : ℕ) (es : List HostEvent) → StepsAlike language h sound p later cost → Reached h → ((k : Hosts Proc) → IsSound k → Reached k → PlaysSo k es)
      → GoesOn h (record { hosts = later; steps = p ∷ []; cost = cost }) es
  moved h later sound p cost es alike reached rest =
      let reached_there : Reached later = subst (IsReached step start) (next-Some step (state_of h) p (state_of later, cost) alike.step) (reached_next step start (state_of h) p reached ((state_of later, cost), alike.step)) in
      let plays = rest later alike.stays reached_there in
      (leads_first step (state_of h) p (state_of later, cost) (steps_of language later es) (state_of (hosts_after language later es)) (cost_of language later es) alike.step plays.leads, plays.sound)

  maybe_unmoved : (h : Hosts Proc) (o : Option (Hosts Proc)) (es : List HostEvent) → IsSound h → ((later : Hosts Proc) → o ≡ Some later → IsStill h later) → Reached h
      → ((k : Hosts Proc) → IsSound k → Reached k → PlaysSo k es) → GoesOn h (came_of h o) es
  maybe_unmoved h None es sound kept reached rest = unmoved h h es (record { same = refl; sound = sound }) reached rest
  maybe_unmoved h (Some later) es sound kept reached rest = unmoved h later es (kept later refl) reached rest

  maybe_moved : (h : Hosts Proc) (p : Place) (o : Option (Hosts Proc × ℕ)) (es : List HostEvent) → IsSound h → hosts_step language h p ≡ o → Reached h
      → ((k : Hosts Proc) → IsSound k → Reached k → PlaysSo k es) → GoesOn h (stepped_to h p o) es
  maybe_moved h p None es sound is reached rest = unmoved h h es (record { same = refl; sound = sound }) reached rest
  maybe_moved h p (Some r) es sound is reached rest = moved h r.0 sound p r.1 es (steps_forth language h sound p (keeps h sound reached p) r.0 r.1 is) reached rest

  goes_on : (h : Hosts Proc) (e : HostEvent) (es : List HostEvent) → IsSound h → Reached h → ((k : Hosts Proc) → IsSound k → Reached k → PlaysSo k es) → GoesOn h (happens language h e) es
  goes_on h (Step p) es sound reached rest = maybe_moved h p (hosts_step language h p) es sound refl reached rest
  goes_on h (Send c k) es sound reached rest = maybe_unmoved h (sent h c k) es sound (λ later is. sent_still h sound c k later is) reached rest
  goes_on h (Answer c) es sound reached rest = maybe_unmoved h (answered h c) es sound (λ later is. answered_still h sound c later is) reached rest
  goes_on h (Deliver i) es sound reached rest = maybe_unmoved h (delivered h i) es sound (λ later is. delivered_still h sound i later is) reached rest
  goes_on h (Lose i) es sound reached rest = maybe_unmoved h (lost h i) es sound (λ later is. lost_still h sound i later is) reached rest
  goes_on h (Restart stays) es sound reached rest = unmoved h (restarted stays h) es (restarted_still h sound stays) reached rest

  pub plays_along : (es : List HostEvent) (h : Hosts Proc) → IsSound h → Reached h → PlaysSo h es
  plays_along [] h sound reached = record { leads = leads_nowhere step (state_of h); sound = sound }
  plays_along (e ∷ es) h sound reached =
      let on = goes_on h e es sound reached (λ k good there. plays_along es k good there) in
      record { leads = on.0; sound = on.1 }

-- A step on what has arrived is a step of the meaning.
use Rattle.std.proofs.Common.{◌≡◌, ◌⊎◌, inl, inr, ℕ, ◌++◌, Option, Some, None, option_map, refl, ap, subst, ◌∙◌, append-nil}
use Rattle.std.specs.FinMap as map
use Rattle.fm_base.specs.declared.path.ChanName.{ChanName}
use Rattle.fm_base.specs.Channels.{Chans, Pop, Limits, all_shed}
use Rattle.fm_finmap.specs.Changes.{alters}
use Rattle.fm_net.specs.Machine.{Place, Need, Event, Reply, Onward, Ask, Stop, Go, made, served, chans_after, spilt, changes, going, finished}
use Rattle.fm_net.specs.Language.{Language, language_step}
use Rattle.fm_net.proofs.Cases.{step_absent, step_stopped, step_waits, step_served}
use Rattle.fm_link.specs.Ends.{first_of}
use Rattle.fm_link_law.specs.Channels.{LinkedChan, chans_of, shut_ports}
use Rattle.fm_link_law.specs.Hosts.{Hosts, state_of, IsSound, AreLinked}
use Rattle.fm_link_law.specs.Steps.{served_here, linked_after, going_on, act_here, act_at, hosts_step, IsPlainNeed, AreOpen, IsPlainAsk, IsPlainAt, IsAwaiting}
use Rattle.fm_link_law.proofs.Shutting.{sheds, all_join, all_true}
use Rattle.fm_link_law.proofs.Serving.{served_forth, chans_forth, linked_stay, wire_stays, nothing_spilt, unserved}

module _ {Proc : Type 0} (language : Language Proc) (h : Hosts Proc) (sound : IsSound h) (p : Place) where
  -- the step on what has arrived is there, and leads to this at this cost
  pub record StepsAlike (later : Hosts Proc) (cost : ℕ) : Type 0 where
    pub step : language_step language (state_of h) p ≡ Some (state_of later, cost)
    pub stays : IsSound later

  abbrev chans : Chans
  chans = chans_of h.channels

  module _ (need : Need) (plain : IsPlainNeed h.channels p need) (r : Reply Proc) (serves : served_here language.has_ended h.procs h.channels p need ≡ Some r) (o : Onward Proc)
      (open_drops : AreOpen (linked_after p need h.channels) o.drops) where
    channels : AreLinked (linked_after p need h.channels)
    channels = linked_stay language.has_ended h.procs h.channels p sound.channels need plain r serves

    same_chans : all_shed (o.drops ++ spilt need chans) (chans_after p need chans) ≡ chans_of (shut_ports o.drops (linked_after p need h.channels))
    same_chans =
        ap (λ zs. all_shed (o.drops ++ zs) (chans_after p need chans)) (nothing_spilt language.has_ended h.procs h.channels p sound.channels need plain)
        ∙ ap (λ zs. all_shed zs (chans_after p need chans)) (append-nil o.drops)
        ∙ ap (all_shed o.drops) (chans_forth language.has_ended h.procs h.channels p sound.channels need plain r serves)
        ∙ sheds o.drops (linked_after p need h.channels) channels open_drops

    same_end : finished (going language.emptied h.procs chans p need o) ≡ (state_of (going_on language h p need o).0, o.cost)
    same_end = λ i. (record { procs = alters (changes language.emptied p need o) h.procs; chans = same_chans i }, o.cost)

    later_sound : IsSound (going_on language h p need o).0
    later_sound = record {
      channels = all_join o.drops (linked_after p need h.channels) channels open_drops;
      wire = all_true o.drops (linked_after p need h.channels) h.wire (wire_stays language.has_ended h.procs h.channels p sound.channels need plain h.wire sound.wire);
    }

  pub steps_forth : IsPlainAt language h p → (later : Hosts Proc) (cost : ℕ) → hosts_step language h p ≡ Some (later, cost) → StepsAlike later cost
  steps_forth plain later cost e = at_place (map.get h.procs p) refl e
    where
      the_end : (a b : Hosts Proc × ℕ) → Some a ≡ Some b → a ≡ b
      the_end a b e = cc

      replied : (x : Proc) → map.get h.procs p ≡ Some x → (need : Need) (f : ChanName → Reply Proc → Onward Proc) → language.ask x ≡ Go need f
          → IsPlainAsk language h p (Go need f) → (o : Option (Reply Proc)) → served_here language.has_ended h.procs h.channels p need ≡ o
          → option_map (λ r. going_on language h p need (f (made p need) r)) o ≡ Some (later, cost) → StepsAlike later cost
      replied x is need f asks here None serves e = absurd (cc e)
      replied x is need f asks here (Some r) serves e =
          let goes = f (made p need) r in
          let there = the_end (going_on language h p need goes) (later, cost) e in
          let drops = here.1 r serves in
          record {
            step =
                step_served language (state_of h) p x is need f asks r (served_forth language.has_ended h.procs h.channels p sound.channels need here.0 r serves)
                ∙ ap Some (same_end need here.0 r serves goes drops ∙ ap (λ (a : Hosts Proc × ℕ). (state_of a.0, a.1)) there);
            stays = subst IsSound (ap (λ (a : Hosts Proc × ℕ). a.0) there) (later_sound need here.0 r serves goes drops);
          }

      asked : (x : Proc) → map.get h.procs p ≡ Some x → (q : Ask Proc) → language.ask x ≡ q → IsPlainAsk language h p q → act_here language h p q ≡ Some (later, cost) → StepsAlike later cost
      asked x is Stop asks here e = absurd (cc e)
      asked x is (Go need f) asks here e = replied x is need f asks here (served_here language.has_ended h.procs h.channels p need) refl e

      at_place : (o : Option Proc) → map.get h.procs p ≡ o → act_at language h p o ≡ Some (later, cost) → StepsAlike later cost
      at_place None is e = absurd (cc e)
      at_place (Some x) is e = asked x is (language.ask x) refl (plain x is) e

  -- where there is none, the meaning has none either, or a message hasn't arrived
  pub no_step : IsPlainAt language h p → hosts_step language h p ≡ None → (language_step language (state_of h) p ≡ None) ⊎ IsAwaiting language h p
  no_step plain e = at_place (map.get h.procs p) refl e
    where
      replied : (x : Proc) → map.get h.procs p ≡ Some x → (need : Need) (f : ChanName → Reply Proc → Onward Proc) → language.ask x ≡ Go need f
          → IsPlainAsk language h p (Go need f) → (o : Option (Reply Proc)) → served_here language.has_ended h.procs h.channels p need ≡ o
          → option_map (λ r. going_on language h p need (f (made p need) r)) o ≡ None → (language_step language (state_of h) p ≡ None) ⊎ IsAwaiting language h p
      replied x is need f asks here (Some r) serves e = absurd (cc e)
      replied x is need f asks here None serves e = go (unserved language.has_ended h.procs h.channels p sound.channels need here.0 serves)
        where
          go : (served language.has_ended h.procs chans p need ≡ None)
              ⊎ ((c : ChanName) × (limits : Limits) × (l : LinkedChan) × (need ≡ Event c (Pop limits)) × (map.get h.channels c ≡ Some l) × (first_of l.incoming ≡ None))
              → (language_step language (state_of h) p ≡ None) ⊎ IsAwaiting language h p
          go (inl none) = inl (step_waits language (state_of h) p x is need f asks none)
          go (inr w) = inr (record {
            self = x;
            is = is;
            channel = w.0;
            limits = w.1;
            goes = f;
            asks = asks ∙ ap (λ k. Go k f) w.3;
            linked = w.2;
            there = w.4;
            nothing = w.5;
          })

      asked : (x : Proc) → map.get h.procs p ≡ Some x → (q : Ask Proc) → language.ask x ≡ q → IsPlainAsk language h p q → act_here language h p q ≡ None
          → (language_step language (state_of h) p ≡ None) ⊎ IsAwaiting language h p
      asked x is Stop asks here e = inl (step_stopped language (state_of h) p x is asks)
      asked x is (Go need f) asks here e = replied x is need f asks here (served_here language.has_ended h.procs h.channels p need) refl e

      at_place : (o : Option Proc) → map.get h.procs p ≡ o → act_at language h p o ≡ None → (language_step language (state_of h) p ≡ None) ⊎ IsAwaiting language h p
      at_place None is e = inl (step_absent language (state_of h) p is)
      at_place (Some x) is e = asked x is (language.ask x) refl (plain x is) e

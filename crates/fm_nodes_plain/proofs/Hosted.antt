-- A plain program on hosts plays its own schedules.
use Rattle.std.proofs.Common.{◌≡◌, ℕ, List, [], Option, Some, None, refl, sym, ap, subst, ◌∙◌}
use Rattle.std.specs.FinMap.{get, empty, get-empty}
use Rattle.fm_base.specs.Channels.{Push, Pop, Look}
use Rattle.fm_finmap.proofs.Inserts.{insert_here, insert_there}
use Rattle.fm_finmap.proofs.Keys.{decide, path_order}
use Rattle.fm_finmap.proofs.Maps.{map_values-empty}
use Rattle.fm_sched.specs.Schedule.{IsReached, Leads, Throughout}
use Rattle.fm_sched.proofs.Along.{good_throughout, reached_first, at_reached}
use Rattle.fm_net.specs.Machine.{State, Need, Nothing, Event, New, Children, Go}
use Rattle.fm_net.specs.Owned.{IsOwned, HasOneWriter}
use Rattle.fm_net.specs.Plain.{AllPlain}
use Rattle.fm_net.specs.Typed.{IsTyped}
use Rattle.fm_net.proofs.First.{no_channel}
use Rattle.fm_net.proofs.Steps.{step_keeps, step_keeps_sole}
use Rattle.fm_rules.specs.declared.program.Program.{Program}
use Rattle.fm_mean.specs.Fits.{IsFine, Fits}
use Rattle.fm_mean.specs.Process.{Proc}
use Rattle.fm_mean.specs.Names.{ProgramUnit, main_number, unit_at}
use Rattle.fm_mean.specs.Steps.{ask, language, step, first, first_proc, main_by, main_in, proc_of}
use Rattle.fm_mean.proofs.CallsOpen.{always_typed}
use Rattle.fm_mean.proofs.Determined.{IsWithin, stays_within}
use Rattle.fm_mean.proofs.Laws.{first_owned}
use Rattle.fm_mean.proofs.Lawful.{lawful}
use Rattle.fm_base.specs.PathOrder.{channel_cmp, path_cmp}
use Rattle.fm_link_law.specs.Channels.{LinkedChan, chan_of}
use Rattle.fm_link_law.specs.Hosts.{state_of, IsSound}
use Rattle.fm_link_law.specs.Play.{HostEvent, IsNeedOfWords, AsksForWords, hosts_after, steps_of, cost_of}
use Rattle.fm_link_law.proofs.Owning.{keeps_to_words}
use Rattle.fm_link_law.proofs.Playing.{PlaysSo, plays_along}
use Rattle.fm_nodes_plain.specs.Plain.{IsPlainProgram, first_hosts}
use Rattle.fm_nodes_plain.proofs.Needs.{nobody_looks, one_writer, sends_words}

main_within : (p : Program) (n : ℕ) → main_number p ≡ Some n → (u : Option ProgramUnit) → IsWithin p (proc_of (main_in n u))
main_within p n is None = tt
main_within p n is (Some u) = ((record { main = n; starts = is; leads = (0, refl) }, tt), tt)

proc_within : (p : Program) (o : Option ℕ) → main_number p ≡ o → IsWithin p (proc_of (main_by p o))
proc_within p None is = tt
proc_within p (Some n) is = main_within p n is (unit_at p n)

first_within : (p : Program) → AllPlain (language p) (IsWithin p) (first p).procs
first_within p q x is = elim (decide path_order q []) [
  | yes e ↦ let same : first_proc p ≡ x = cc (sym (insert_here path_order empty [] (first_proc p)) ∙ ap (get (first p).procs) (sym e) ∙ is) in
      subst (IsWithin p) same (proc_within p (main_number p) refl)
  | no n ↦ absurd (cc (sym (insert_there path_order empty [] (first_proc p) q n ∙ get-empty path_cmp q) ∙ is))
]

module _ (p : Program) (plain : IsPlainProgram p) where
  -- ports are owned, and all processes are in units that main reaches
  abbrev IsGood : State Proc → Type 0
  IsGood s = IsOwned (language p) s × (AllPlain (language p) (IsWithin p) s.procs × HasOneWriter s.chans)

  always_good : Throughout (step p) IsGood (first p)
  always_good = good_throughout (step p) IsGood
      (λ s q good can. (step_keeps (language p) (lawful p) s q good.0 can, step_keeps_sole (language p) (lawful p) (IsWithin p) (stays_within p plain.deterministic) s q good.0 good.1 can))
      (first p) (first_owned p, (first_within p, no_channel))

  pub asks_for_words : AsksForWords (language p) (first p)
  asks_for_words s reached q x is need f asks = go need asks
    where
      within : IsWithin p x
      within = (at_reached (step p) IsGood (first p) s always_good reached).1.0 q x is

      typed : IsTyped (language p) (IsFine p) Fits s
      typed = at_reached (step p) (IsTyped (language p) (IsFine p) Fits) (first p) s (always_typed p) reached

      go : (need : Need) → ask p x ≡ Go need f → IsNeedOfWords need
      go Nothing asks = tt
      go (Event c (Push w m)) asks = sends_words p x plain within typed.0 (typed.1.each q x is) c w m f asks
      go (Event c (Pop limits)) asks = tt
      go (Event c Look) asks = nobody_looks p x plain within c f asks
      go (New n k) asks = one_writer p x plain within n k f asks
      go (Children b n) asks = tt

  first_state : state_of (first_hosts p) ≡ first p
  first_state = λ i. record { procs = (first p).procs; chans = map_values-empty chan_of i }

  first_sound : IsSound (first_hosts p)
  first_sound = record { channels = λ c l is. absurd (cc (sym (get-empty {X = LinkedChan} channel_cmp c) ∙ is)); wire = tt }

  pub plays : (es : List HostEvent) → PlaysSo (language p) (first p) (keeps_to_words (language p) (lawful p) (first p) (first_owned p) asks_for_words) (first_hosts p) es
  plays es = plays_along (language p) (first p) (keeps_to_words (language p) (lawful p) (first p) (first_owned p) asks_for_words) es (first_hosts p) first_sound
      (subst (IsReached (step p) (first p)) (sym first_state) (reached_first (step p) (first p)))

pub plays_program : (p : Program) → IsPlainProgram p → (es : List HostEvent)
    → Leads (step p) (first p) (steps_of (language p) (first_hosts p) es) (state_of (hosts_after (language p) (first_hosts p) es)) (cost_of (language p) (first_hosts p) es) × IsSound (hosts_after (language p) (first_hosts p) es)
plays_program p plain es =
    let so = plays p plain es in
    (subst (λ s. Leads (step p) s (steps_of (language p) (first_hosts p) es) (state_of (hosts_after (language p) (first_hosts p) es)) (cost_of (language p) (first_hosts p) es)) (first_state p plain) so.leads, so.sound)

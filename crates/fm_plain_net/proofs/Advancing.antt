-- Local steps of a process, and one that lets ports go, in the words of the table of processes.
use Rattle.std.proofs.Common.{◌≡◌, ◌≤◌, ◌+◌, ℕ, Bool, Some, List, [], refl, sym, ap, subst, ◌∙◌, arith}
use Rattle.std.specs.Prelude.{is_some}
use Rattle.std.specs.FinMap.{get, insert}
use Rattle.fm_base.specs.Channels.{all_shed}
use Rattle.fm_finmap.proofs.Inserts.{insert_again}
use Rattle.fm_net.specs.Machine.{Place, Procs, State}
use Rattle.fm_net.specs.Owned.{IsOwned}
use Rattle.fm_net.proofs.Keys.{path_order}
use Rattle.fm_net_procs.specs.declared.piece.Stop.TheVariants.{Meets, Pauses}
use Rattle.fm_net_procs.specs.Stepping.{Advances, changed_at}
use Rattle.fm_rules.specs.declared.program.Program.{Program}
use Rattle.fm_mean.specs.Actions.{action_of}
use Rattle.fm_mean.specs.Process.{Proc}
use Rattle.fm_mean.specs.Steps.{language, step}
use Rattle.fm_plain_frame.specs.declared.let_go.LetGo.{LetGo}
use Rattle.fm_plain_frame.specs.LetGo.{let_go_ports}
use Rattle.fm_plain.specs.declared.advancing.Advanced.{Advanced}
use Rattle.fm_plain.specs.declared.advancing.Stop as declared
use Rattle.fm_plain.specs.declared.advancing.Stop.TheVariants as stop
use Rattle.fm_plain.specs.declared.event.Event.{Event}
use Rattle.fm_plain.specs.declared.looking.Next.{Next}
use Rattle.fm_plain.specs.Advance.{IsAdvanced, StopsAt}
use Rattle.fm_plain.specs.Events.{IsEvent}
use Rattle.fm_plain.specs.Looking.{IsNext}
use Rattle.fm_plain_net.specs.declared.ports.Ports.{Ports}
use Rattle.fm_plain_net.specs.Advances.{AdvancesAt}
use Rattle.fm_plain_net.specs.Goes.{MeetsIt}
use Rattle.fm_plain_net.specs.Held.{Fits, HeldAreKept, MayDrop, StayBut}
use Rattle.fm_run.specs.Awaited.{awaited_in, awaits}
use Rattle.fm_run.specs.Programs.{Makes, has_local, play_of}
use Rattle.fm_run.proofs.Steps.{makes_more, reached_makes}
use Rattle.fm_plain_net.proofs.Letting.{event_shared, own_drops, own_held, own_shared, own_starts, own_step}
use Rattle.fm_plain_net.proofs.Parts.{behind, held_behind, owned_behind, there_behind}
use Rattle.fm_plain_net.proofs.Performed.{reached_step}
use Rattle.fm_plain_net.proofs.Phases.{advanced_phase}
use Rattle.fm_plain_net.proofs.Slices.{each_local, made_there, room_for, step_full, whole_full}

module _ (program : Program) (slice : ℕ) (spare : Bool) (s : State Proc) (p : Place) (x : Proc) (is : get s.procs p ≡ Some x) (a : Advanced) (after : Proc) (told : IsAdvanced program slice spare x a after) (ports : Ports) (fits : Fits program ports s) where
  abbrev m : Procs Proc
  m = insert s.procs p after

  abbrev at : AdvancesAt program slice spare p x a s.procs m
  at = record { after = after; advanced = told; procs_are = refl }

  -- where the local ones lead
  abbrev stood : State Proc
  stood = behind program slice spare s p x is a m at

  made : Makes program s p a.steps stood a.cost []
  made = made_there program slice spare s p x is a m at

  fits_there : Fits program ports stood
  fits_there = record {
    reached = reached_makes (play_of program) s stood p a.steps a.cost [] fits.reached made;
    held = held_behind program slice spare s p x is a m at ports fits.held;
  }

  stops_so : (why : declared.Stop) → a.stop ≡ why → StopsAt program slice spare a.steps told.stopped why after
  stops_so why e = subst (λ (z : declared.Stop). StopsAt program slice spare a.steps told.stopped z after) e told.stops

  waits_so : awaits after ≡ awaits x
  waits_so = ap awaited_in (advanced_phase program slice spare x a after told)

  moved : after ≡ told.stopped → stood ≡ changed_at s p after s.chans
  moved e = ap (λ (y : Proc). changed_at s p y s.chans) (sym e)

  -- the whole slice
  pub more_advances : a.stop ≡ stop.More → 1 ≤ slice → (next : Next) → IsNext program after next
      → Advances (language program) (has_local program) awaits (IsNext program) (MeetsIt program) (Fits program ports) slice spare s p x after (record { stop = Pauses next; steps = a.steps; cost = a.cost }) s.chans
  more_advances e some next is_next =
      let k = stops_so stop.More e in
      record {
        makes = subst (λ (t : State Proc). Makes program s p a.steps t a.cost []) (moved k.2) made;
        stops = (is_next, omega (arith, k.0, some), whole_full program slice spare s p x is a m at k.0 k.1);
        waits = waits_so;
        fits = subst (Fits program ports) (moved k.2) fits_there;
      }

  -- to an event
  pub event_advances : (event : Event) → a.stop ≡ stop.Event event
      → Advances (language program) (has_local program) awaits (IsNext program) (MeetsIt program) (Fits program ports) slice spare s p x after (record { stop = Meets event; steps = a.steps; cost = a.cost }) s.chans
  event_advances event e =
      let k = stops_so (stop.Event event) e in
      let does : IsEvent after.phase (action_of program after) event = subst (λ (y : Proc). IsEvent y.phase (action_of program y) event) (sym k.2) k.1 in
      record {
        makes = subst (λ (t : State Proc). Makes program s p a.steps t a.cost []) (moved k.2) made;
        stops = (does, ap is_some (event_shared program after _ does.0), each_local program slice spare s p x is a m at, k.0.0, room_for slice spare a.steps k.0);
        waits = waits_so;
        fits = subst (Fits program ports) (moved k.2) fits_there;
      }

  module _ (l : LetGo) (paid : ℕ) (e : a.stop ≡ stop.LetsGo l paid) where
    there : get stood.procs p ≡ Some told.stopped
    there = there_behind program slice spare s p x is a m at

    owned : IsOwned (language program) stood
    owned = owned_behind program slice spare s p x is a m at fits.reached

    -- the ports that it lets go may go
    pub lets_drop : MayDrop ports [] (let_go_ports program l)
    lets_drop = own_drops program stood p told.stopped there owned ports fits_there.held after (let_go_ports program l) paid (stops_so (stop.LetsGo l paid) e).1

    -- one step more, which lets ports go
    pub lets_advances : (next : Next) → IsNext program after next → (later : Ports) → StayBut (let_go_ports program l) ports later
        → Advances (language program) (has_local program) awaits (IsNext program) (MeetsIt program) (Fits program later) slice spare s p x after (record { stop = Pauses next; steps = a.steps + 1; cost = a.cost + paid }) (all_shed (let_go_ports program l) s.chans)
    lets_advances next is_next later stay =
        let k = stops_so (stop.LetsGo l paid) e in
        let cs = all_shed (let_go_ports program l) s.chans in
        let again : insert (insert s.procs p told.stopped) p after ≡ insert s.procs p after = insert_again path_order s.procs p told.stopped after in
        let goes : step program stood p ≡ Some (changed_at s p after cs, paid) =
        own_step program stood p told.stopped there owned ports fits_there.held after (let_go_ports program l) paid k.1
        ∙ ap (λ (n : Procs Proc). Some (record { procs = n; chans = cs }, paid)) again in
        let more = makes_more (play_of program) s stood p a.steps a.cost (changed_at s p after cs, paid) made goes in
        let none = own_starts program stood p told.stopped there owned ports fits_there.held after (let_go_ports program l) paid k.1 in
        let shared = own_shared program stood p told.stopped there owned ports fits_there.held after (let_go_ports program l) paid k.1 k.2 in
        record {
          makes = subst (λ (ps : List Place). Makes program s p (a.steps + 1) (changed_at s p after cs) (a.cost + paid) ps) none more;
          stops = (is_next, omega arith, step_full program slice spare s p x is a m at k.0 shared more.leads.legal);
          waits = waits_so;
          fits = record {
            reached = reached_step program stood (changed_at s p after cs) p paid fits_there.reached goes;
            held = subst (HeldAreKept program later) again (own_held program stood p told.stopped there owned ports fits_there.held after (let_go_ports program l) paid k.1 later stay);
          };
        }

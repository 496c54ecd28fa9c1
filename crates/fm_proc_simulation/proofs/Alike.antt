-- The processes of a program's code correspond to those of the program: the main law, by the laws of what a process does alone and
-- of each event.
use Rattle.std.proofs.Common.{◌≡◌, ℕ, true, Option, Some, None, List, [], length, refl, sym, ap, subst, ◌∙◌}
use Rattle.std.specs.FinMap.{get}
use Rattle.fm_net.specs.Machine.{Place, Ask, Stop, State}
use Rattle.fm_net.specs.Correspondence.{AsksCorrespond, ComesIn, IsCorrespondence, AreAlike}
use Rattle.fm_net.proofs.Correspondences.{alike}
use Rattle.fm_rules.specs.declared.program.Program.{Program}
use Rattle.fm_mean.specs.Names.{Point, point_at}
use Rattle.fm_mean.specs.Process as mean
use Rattle.fm_mean.specs.Process.{Running, Joining, Ended, Faulted, Proc}
use Rattle.fm_mean.specs.Calls.{variables_in}
use Rattle.fm_mean.specs.Fits.{Types}
use Rattle.fm_mean.specs.Actions as mean_actions
use Rattle.fm_mean.specs.Actions.{Action, Meets, Begin, Join, running, joining, action_at, action_in, point_action, after_at}
use Rattle.fm_mean.specs.Steps.{ask_for, ask, language}
use Rattle.fm_code.specs.declared.ask.Ask as asked
use Rattle.fm_code.specs.declared.ask.Ask.TheVariants as ask_of
use Rattle.fm_code.specs.declared.body.Body.{Body}
use Rattle.fm_code.specs.Statements as code_actions
use Rattle.fm_proc_language.specs.Slots.{port_in}
use Rattle.fm_proc_language.specs.Processes as code
use Rattle.fm_proc_language.specs.Processes.{CodeProc, Kid, runs_by, running_by, joins_by, joining_by, asks_by, asks, code_language}
use Rattle.fm_gen.specs.Entries.{address_of}
use Rattle.fm_gen.specs.Programs.{code_of}
use Rattle.fm_gen.specs.Bodies.{EndsBlock, IsAlive, DoesAlike, MeetsAlike}
use Rattle.fm_gen.proofs.Beyond.{rests_alike}
use Rattle.fm_gen.proofs.BodyLaws.{keeps_at}
use Rattle.fm_proc_simulation.specs.Corresponds.{KidsStand, PhaseStands, BodyAlike, Corresponds, IsLive, first_variables}
use Rattle.fm_proc_simulation.specs.Here.{Here}
use Rattle.fm_proc_simulation.proofs.Owned.{here_running, here_joining, owned_once}
use Rattle.fm_proc_simulation.proofs.Elsewhere.{sends_from, receives_from, probes_from}
use Rattle.fm_proc_simulation.proofs.Going.{own_alike}
use Rattle.fm_proc_simulation.proofs.Sending.{sends_alike, probes_alike}
use Rattle.fm_proc_simulation.proofs.Making.{channel_alike, merger_alike}
use Rattle.fm_proc_simulation.proofs.Receiving.{receives_alike}
use Rattle.fm_proc_simulation.proofs.Beginning.{begins_alike}
use Rattle.fm_proc_simulation.proofs.Joins.{FineAndSingle, joins_asked_alike}
use Rattle.fm_proc_simulation.proofs.Ending.{ends_alike, fails_alike, emptied_alike, ended_same}
use Rattle.fm_proc_simulation.proofs.Live.{stays_live, message_fits, children_known}
use Rattle.fm_proc_simulation.proofs.Meeting.{MayDo, point_meets}

-- What the process and its statement do.

module _ (p : Program) (types : Types) (y : CodeProc) (x : Proc) (b : Body) (h : Here p types y x b) (phase : x.phase ≡ Running) (e : Point) (at : point_at h.stands.first.unit h.stands.frame.entry ≡ Some e) where
  does_now : mean_actions.action_of p x ≡ point_action p x.execution h.stands.first.unit h.stands.frame h.stands.below (Some e)
  does_now =
      (λ i. action_in p x.execution (phase i))
      ∙ (λ i. running p x.execution (h.stands.frames i))
      ∙ (λ i. action_at p x.execution h.stands.frame h.stands.below (h.stands.first.there i))
      ∙ ap (point_action p x.execution h.stands.first.unit h.stands.frame h.stands.below) at

  may_do : (a : Action) → mean_actions.action_of p x ≡ a → MayDo e.entry.stmt a
  may_do a is = subst (MayDo e.entry.stmt) (sym does_now ∙ is) (point_meets p x.execution h.stands.first.unit e h.stands.frame h.stands.below)

-- a process that joins, in the variables of its innermost frame
module _ (p : Program) (types : Types) (y : CodeProc) (x : Proc) (b : Body) (h : Here p types y x b) where
  variables_there : first_variables p x.execution.frames ≡ h.stands.first.unit.names.variables
  variables_there = ap (first_variables p) h.stands.frames ∙ ap variables_in h.stands.first.there

  module _ (block : ℕ) (kids : List mean.Kid) (phase : x.phase ≡ Joining block kids) where
    joins_now : mean_actions.action_of p x ≡ Meets (Join block kids (after_at (Some h.stands.first.unit) h.stands.frame.entry))
    joins_now =
        (λ i. action_in p x.execution (phase i))
        ∙ (λ i. joining p block kids (h.stands.frames i))
        ∙ ap (λ o. Meets (Join block kids (after_at o h.stands.frame.entry))) h.stands.first.there

    at_block : EndsBlock h.stands.first.unit h.stands.frame
    at_block = subst (λ k. IsAlive k h.stands.first.unit h.stands.frame) phase h.stands.alive

-- A process of a live state.

module _ (p : Program) (s : State Proc) (live : IsLive p s) (q : Place) (x : Proc) (is : get s.procs q ≡ Some x) (y : CodeProc) (c : Corresponds p y x) where
  abbrev types : Types
  types = live.typed.0

  abbrev Both : Ask CodeProc → Ask Proc → Type 0
  Both = AsksCorrespond (Corresponds p) (ComesIn (language p) s) q

  -- without frames it does nothing
  nothing_runs : x.execution.frames ≡ [] → (h : mean.Phase) → Both Stop (ask_for p x (action_in p x.execution h))
  nothing_runs none Running = subst (λ fs. Both Stop (ask_for p x (running p x.execution fs))) (sym none) tt
  nothing_runs none (Joining block kids) = subst (λ fs. Both Stop (ask_for p x (joining p block kids fs))) (sym none) tt
  nothing_runs none Ended = tt
  nothing_runs none (Faulted line fault) = tt

  module _ (b : Body) (body : y.body ≡ Some b) where
    -- A process that runs.

    module _ (phase : x.phase ≡ Running) (runs : y.phase ≡ code.Running) where
      here : Here p live.typed.0 y x b
      here = here_running p s live q x is y c b body phase

      module _ (h : Here p live.typed.0 y x b) where
        module _ (e : Point) (at : point_at h.stands.first.unit h.stands.frame.entry ≡ Some e) where
          no_join : (a : Action) → mean_actions.action_of p x ≡ a → (block : ℕ) (kids : List mean.Kid) (entry : ℕ) → a ≡ Meets (Join block kids entry) → ⊥
          no_join a does block kids entry joins = may_do p types y x b h phase e at (Meets (Join block kids entry)) (does ∙ joins)

          event_alike : (k : asked.Ask) → code_actions.action_of b ≡ code_actions.Meets k → (a : Action) → mean_actions.action_of p x ≡ a → MeetsAlike p (code_of p) (port_in y.slots) x b h.stands e k a → Both (runs_by y b k) (ask_for p x a)
          event_alike (ask_of.Fail line fault) told a does m = fails_alike p types y x b h phase runs body e at line fault a m (ComesIn (language p) s) q
          event_alike (ask_of.LetGo slots) told a does m = absurd m
          event_alike (ask_of.Channel inport outport next) told a does m = channel_alike p types y x b h phase runs body e at inport outport next a m (ComesIn (language p) s) q
          event_alike (ask_of.Merger inport outports next) told a does m = merger_alike p types y x b h phase runs body e at inport outports next a m (ComesIn (language p) s) q
          event_alike (ask_of.Send slot items next) told a does m = sends_alike p types y x b h phase runs body e at slot items next a m (sends_from p types y x b h phase e at slot items next told a does m) (ComesIn (language p) s) q
          event_alike (ask_of.Receive slot items status at_end next) told a does m =
              receives_alike p types y x b h phase runs body e at slot items status at_end next a m (receives_from p types y x b h phase e at slot items status at_end next told a does m) (ComesIn (language p) s) q (λ d limits r n comes. message_fits p types s live.typed.1 q d limits r comes n)
          event_alike (ask_of.Probe slot empty next) told a does m = probes_alike p types y x b h phase runs body e at slot empty next a m (probes_from p types y x b h phase e at slot empty next told a does m) (ComesIn (language p) s) q
          event_alike (ask_of.Begin next) told a does m =
              begins_alike p types y x b h phase runs body e at next a m (may_do p types y x b h phase e at (Meets Begin) (does ∙ m.does)) (ComesIn (language p) s) q
          event_alike (ask_of.Join next) told a does m = absurd (no_join a does m.block m.kids m.entry m.does)
          event_alike ask_of.End told a does m = ends_alike p types y x b h phase runs body e at a m (ComesIn (language p) s) q

          runs_alike : (k : code_actions.Action) → code_actions.action_of b ≡ k → DoesAlike p (code_of p) (port_in y.slots) x b h.stands e k (mean_actions.action_of p x) → Both (running_by y b k) (ask p x)
          runs_alike code_actions.Stuck does m = subst (λ a. Both Stop (ask_for p x a)) (sym m) tt
          runs_alike (code_actions.Own after lines drops cost) does m =
              own_alike p types y x b h phase runs body e at after lines drops cost does (owned_once p s live.owned q x is) (ComesIn (language p) s) q
          runs_alike (code_actions.Meets k) does m = event_alike k does (mean_actions.action_of p x) refl m

        -- at an entry, or behind the last one
        at_entry_alike : (o : Option Point) → point_at h.stands.first.unit h.stands.frame.entry ≡ o → Both (running_by y b (code_actions.action_of b)) (ask p x)
        at_entry_alike None none =
            subst (λ k. Both (running_by y b k) (ask p x)) (sym (rests_alike p (port_in y.slots) x b h.stands none).0)
            (subst (λ a. Both Stop (ask_for p x a)) (sym (rests_alike p (port_in y.slots) x b h.stands none).1) tt)
        at_entry_alike (Some e) at =
            runs_alike e at (code_actions.action_of b) refl (keeps_at p types (port_in y.slots) x h.fine b h.stands e at)

      both_run : Both (running_by y b (code_actions.action_of b)) (ask p x)
      both_run = at_entry_alike here (point_at here.stands.first.unit here.stands.frame.entry) refl

    -- A process that joins.

    module _ (block : ℕ) (kids : List mean.Kid) (phase : x.phase ≡ Joining block kids) (cs : List Kid) (runs : y.phase ≡ code.Joining block cs) (stand : KidsStand p (first_variables p x.execution.frames) kids cs) where
      child_known : (z : Place) (w : Proc) → get s.procs z ≡ Some w → mean.has_ended w ≡ true → FineAndSingle p live.typed.0 w
      child_known z w there ended = (live.typed.1.each z w there, owned_once p s live.owned z w there)

      module _ (h : Here p live.typed.0 y x b) where
        kids_stand : KidsStand p h.stands.first.unit.names.variables kids cs
        kids_stand = subst (λ vs. KidsStand p vs kids cs) (variables_there p types y x b h) stand

        -- the join of the block that the process joins
        join_alike : (next entry after : ℕ) (a : Action) → next ≡ address_of p h.stands.first.unit entry → a ≡ Meets (Join block kids after) → (l : ℕ) (ks : List mean.Kid) → a ≡ Meets (Join l ks entry)
            → Both (joins_by y b block cs (ask_of.Join next)) (ask_for p x a)
        join_alike next entry after a leads does l ks is_join =
            let same : entry ≡ after = joined_at l ks entry block kids after (sym is_join ∙ does) in
            subst (λ a. Both (joins_by y b block cs (ask_of.Join next)) (ask_for p x a)) (sym does)
            (joins_asked_alike p types y x b h block kids cs phase runs kids_stand next after (leads ∙ ap (address_of p h.stands.first.unit) same) (ComesIn (language p) s) q
            (λ r comes. children_known p s (FineAndSingle p live.typed.0) child_known q block (length kids) r comes))
          where
            joined_at : (l : ℕ) (ks : List mean.Kid) (m : ℕ) (l' : ℕ) (ks' : List mean.Kid) (n : ℕ) → ◌≡◌ {A = Action} (Meets (Join l ks m)) (Meets (Join l' ks' n)) → m ≡ n
            joined_at l ks m l' ks' n e = cc

        module _ (e : Point) (after : ℕ) (a : Action) (does : a ≡ Meets (Join block kids after)) where
          other_event : (k : asked.Ask) → MeetsAlike p (code_of p) (port_in y.slots) x b h.stands e k a → Both (joins_by y b block cs k) (ask_for p x a)
          other_event (ask_of.Fail line fault) m = absurd (cc (sym does ∙ m))
          other_event (ask_of.LetGo slots) m = absurd m
          other_event (ask_of.Channel inport outport next) m = absurd (cc (sym does ∙ m.does))
          other_event (ask_of.Merger inport outports next) m = absurd (cc (sym does ∙ m.does))
          other_event (ask_of.Send slot items next) m = absurd (cc (sym does ∙ m.does))
          other_event (ask_of.Receive slot items status at_end next) m = absurd (cc (sym does ∙ m.does))
          other_event (ask_of.Probe slot empty next) m = absurd (cc (sym does ∙ m.does))
          other_event (ask_of.Begin next) m = absurd (cc (sym does ∙ m.does))
          other_event (ask_of.Join next) m = join_alike next m.entry after a m.leads does m.block m.kids m.does
          other_event ask_of.End m = absurd (cc (sym does ∙ m))

          joins_alike : (k : code_actions.Action) → DoesAlike p (code_of p) (port_in y.slots) x b h.stands e k a → Both (joining_by y b block cs k) (ask_for p x a)
          joins_alike code_actions.Stuck m = absurd (cc (sym does ∙ m))
          joins_alike (code_actions.Own body lines drops cost) m = absurd (cc (sym does ∙ m.does))
          joins_alike (code_actions.Meets k) m = other_event k m

        at_block_alike : EndsBlock h.stands.first.unit h.stands.frame → Both (joining_by y b block cs (code_actions.action_of b)) (ask p x)
        at_block_alike end =
            joins_alike end.point (after_at (Some h.stands.first.unit) h.stands.frame.entry) (mean_actions.action_of p x) (joins_now p types y x b h block kids phase) (code_actions.action_of b)
            (keeps_at p types (port_in y.slots) x h.fine b h.stands end.point end.at)

      both_join : Both (joining_by y b block cs (code_actions.action_of b)) (ask p x)
      both_join = let h = here_joining p s live q x is y c b body block kids phase in at_block_alike h (at_block p types y x b h block kids phase)

    -- By the phases.

    by_phases : (h : mean.Phase) → x.phase ≡ h → (k : code.Phase) → y.phase ≡ k → PhaseStands p (first_variables p x.execution.frames) h k → Both (asks_by y k (Some b)) (ask p x)
    by_phases Running phase code.Running runs stand = both_run phase runs
    by_phases Running phase (code.Joining l cs) runs stand = absurd stand
    by_phases Running phase code.Ended runs stand = absurd stand
    by_phases Running phase (code.Faulted line fault) runs stand = absurd stand
    by_phases (Joining block kids) phase code.Running runs stand = absurd stand
    by_phases (Joining block kids) phase (code.Joining l cs) runs stand =
        subst (λ l. Both (joining_by y b l cs (code_actions.action_of b)) (ask p x)) (sym stand.0)
        (both_join block kids phase cs (runs ∙ ap (λ l. code.Joining l cs) stand.0) stand.1)
    by_phases (Joining block kids) phase code.Ended runs stand = absurd stand
    by_phases (Joining block kids) phase (code.Faulted line fault) runs stand = absurd stand
    by_phases Ended phase code.Running runs stand = absurd stand
    by_phases Ended phase (code.Joining l cs) runs stand = absurd stand
    by_phases Ended phase code.Ended runs stand = subst (λ h. Both Stop (ask_for p x (action_in p x.execution h))) (sym phase) tt
    by_phases Ended phase (code.Faulted line fault) runs stand = absurd stand
    by_phases (Faulted l f) phase code.Running runs stand = absurd stand
    by_phases (Faulted l f) phase (code.Joining n cs) runs stand = absurd stand
    by_phases (Faulted l f) phase code.Ended runs stand = absurd stand
    by_phases (Faulted l f) phase (code.Faulted line fault) runs stand = subst (λ h. Both Stop (ask_for p x (action_in p x.execution h))) (sym phase) tt

  by_body : (o : Option Body) → y.body ≡ o → BodyAlike p y.slots x o → Both (asks_by y y.phase o) (ask p x)
  by_body None body none = nothing_runs none x.phase
  by_body (Some b) body stands = by_phases b body x.phase refl y.phase refl c.phase

  asks_alike : Both (asks y) (ask p x)
  asks_alike = by_body y.body refl c.body

-- Processes of stack code correspond to those of the meaning, for the code that is generated.
pub correspondence : (p : Program) → IsCorrespondence (Corresponds p) (IsLive p) (language p) code_language
correspondence p = record {
  stays_live = stays_live p;
  asks = λ s live q x y is c. asks_alike p s live q x is y c;
  ended = λ x y c. ended_same p y x c;
  emptied = λ x y ended c. emptied_alike p y x ended c;
}

-- and so the machine of the code does what the machine of the program does
pub machines_alike : (p : Program) → AreAlike (Corresponds p) (IsLive p) (language p) code_language
machines_alike p = alike (language p) code_language (Corresponds p) (IsLive p) (correspondence p)

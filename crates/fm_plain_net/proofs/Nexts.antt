-- Whether a process can step, by what it does next.
use Rattle.std.proofs.Common.{◌≡◌, ◌≤◌, ℕ, true, false, Option, Some, List, length, refl, sym, ap, subst, ◌∙◌, arith}
use Rattle.std.specs.Prelude.{is_some, option_map}
use Rattle.std.specs.FinMap.{get}
use Rattle.fm_base.specs.declared.path.ChanName.{ChanName}
use Rattle.fm_base.specs.declared.port.PortValue.TheVariants.{Reader}
use Rattle.fm_base.specs.Channels.{Pop}
use Rattle.fm_chan.specs.Received.{pops_at}
use Rattle.fm_finmap.specs.Sums.{total, value_or_zero}
use Rattle.fm_finmap.proofs.Sums.{one_of_total}
use Rattle.fm_net.specs.Lawful.{IsLawfulAsk, IsLawfulStep, holds}
use Rattle.fm_net.specs.Machine.{Place, Procs, State, Event, Go, gathered}
use Rattle.fm_net.specs.Owned.{IsOwned}
use Rattle.fm_net.proofs.Keys.{path_order}
use Rattle.fm_rules.specs.declared.program.Program.{Program}
use Rattle.fm_mean.specs.declared.outcome.At.{At}
use Rattle.fm_mean.specs.declared.outcome.At.TheVariants as at
use Rattle.fm_mean.specs.declared.place.Span.{Span}
use Rattle.fm_mean.specs.Actions.{Join, Meets as Stops, Receive, action_of}
use Rattle.fm_mean.specs.Process.{Proc, has_ended}
use Rattle.fm_mean.specs.Outcome.{awaited, need_of, waits_by}
use Rattle.fm_mean.specs.Steps.{ask, ask_event, ask_for, language, limits_of, met, step}
use Rattle.fm_mean.proofs.Lawful.{lawful}
use Rattle.fm_plain.specs.Looking.{IsNext, is_free, waits_in}
use Rattle.fm_plain.specs.declared.looking.Next.TheVariants.{Meets}
use Rattle.fm_plain_replies.specs.Joins.{kids_in}
use Rattle.fm_plain.specs.declared.event.Event as plain
use Rattle.fm_plain.specs.declared.event.Event.TheVariants as event
use Rattle.fm_plain.specs.Events.{IsEvent, event_by}
use Rattle.fm_plain_net.specs.declared.ports.Ports.{Ports}
use Rattle.fm_plain_net.specs.Held.{HasFamily, HeldAreKept, IsKept}
use Rattle.fm_plain_net.proofs.Doing.{join_at}
use Rattle.fm_plain_net.proofs.Families.{joined_family}
use Rattle.fm_plain_net.proofs.Able.{steps_freely}
use Rattle.fm_run.specs.Programs.{play_of}
use Rattle.fm_run.proofs.Programs.{need_is}
use Rattle.fm_run.proofs.Able.{joins, receives}
use Rattle.fm_plain_net.proofs.Waiting.{begin_free, end_free, fail_free, has_frame, join_need, join_waits, make_free, probe_free, receive_need, send_free}
use Rattle.fm_net_procs.specs.Kept.{AreChildren}

module _ (program : Program) (s : State Proc) (p : Place) (x : Proc) (is : get s.procs p ≡ Some x) where
  pub receive_steps : (c : ChanName) (line : ℕ) (items : List Span) (iostat : Option Span) (to : Option ℕ) (next : ℕ) → action_of program x ≡ Stops (Receive c line items iostat to next) → is_some (step program s p) ≡ pops_at (get s.chans c)
  receive_steps c line items iostat to next does = receives (play_of program) s p x is c (limits_of items) (sym (need_is (ask program x)) ∙ receive_need program x c line items iostat to next does)

  pub join_steps : (block next : ℕ) → action_of program x ≡ Stops (Join block (kids_in x.phase) next) → is_some (step program s p) ≡ is_some (gathered has_ended s.procs p block 1 (length (kids_in x.phase)))
  join_steps block next does = joins (play_of program) s p x is block (length (kids_in x.phase)) (sym (need_is (ask program x)) ∙ join_need program x block next does)

  module _ (owned : IsOwned (language program) s) where
    pub free_steps : is_free (need_of program x) ≡ true → is_some (step program s p) ≡ true
    free_steps free = steps_freely program s p x is owned free

    may_from : is_free (need_of program x) ≡ true → is_some (step program s p) ≡ false → ⊥
    may_from free not = cc (sym (free_steps free) ∙ not)

    waits_for : (e : plain.Event) → action_of program x ≡ Stops (event_by x.phase e) → is_some (step program s p) ≡ false → waits_in e ≡ true
    waits_for (event.Fail line fault) does not = absurd (may_from (fail_free program x line.0 fault does) not)
    waits_for (event.Make places writers cost next) does not = absurd (may_from (make_free program x places writers cost next does) not)
    waits_for (event.Send channel writer items next) does not = absurd (may_from (send_free program x channel writer items next does) not)
    waits_for (event.Receive channel line items iostat at_end next) does not = refl
    waits_for (event.Probe channel empty next) does not = absurd (may_from (probe_free program x channel empty next does) not)
    waits_for event.Begin does not = absurd (may_from (begin_free program x does) not)
    waits_for (event.Join block count next) does not = refl
    waits_for event.End does not = absurd (may_from (end_free program x does) not)

  -- who can't step at an event waits there
  pub next_waits : (e : plain.Event) → IsOwned (language program) s → IsEvent x.phase (action_of program x) e → is_some (step program s p) ≡ false → IsNext program x (Meets e)
  next_waits e owned does not = (does, waits_for owned e does.0 not)

  -- the inport of a receive is kept
  pub receive_kept : (ports : Ports) → HeldAreKept program ports s.procs → (c : ChanName) (line : ℕ) (items : List Span) (iostat : Option Span) (to : Option ℕ) (next : ℕ) → action_of program x ≡ Stops (Receive c line items iostat to next) → IsKept ports (Reader c)
  receive_kept ports held c line items iostat to next does =
      let i = has_frame program x (Receive c line items iostat to next) does in
      let asks : ask program x ≡ Go (Event c (Pop (limits_of items))) (λ d r. met x line i.below i.top next items iostat to r.exceeds r.message) = ap (ask_for program x) does ∙ ap (ask_event program x (Receive c line items iostat to next)) i.is in
      let law : IsLawfulStep (language program) x (Event c (Pop (limits_of items))) (λ d r. met x line i.below i.top next items iostat to r.exceeds r.message) = subst (IsLawfulAsk (language program) x) asks ((lawful program).goes x) in
      let part : holds (language program) (Reader c) x ≤ total (holds (language program) (Reader c)) s.procs =
      subst (λ v. value_or_zero (holds (language program) (Reader c)) v ≤ total (holds (language program) (Reader c)) s.procs) is (one_of_total path_order (holds (language program) (Reader c)) s.procs p) in
      held (Reader c) (omega (arith, law.uses, part))

-- and what it waits for is the first one that hasn't
pub joined_waits : (program : Program) (x : Proc) (m : Procs Proc) (p : Place) (e : plain.Event) (block count next : ℕ) → e ≡ event.Join block count next → action_of program x ≡ Stops (event_by x.phase e)
    → (ps : List Place) (first : ℕ) → HasFamily ps p x.phase first → (n : ℕ) → n ≡ length (kids_in x.phase) → (child : Option Place) (o : Option At) → ((b : ℕ) → AreChildren ps first p b n → child ≡ awaited m p b 1 n) → o ≡ option_map at.Join child → o ≡ waits_by m p (need_of program x)
joined_waits program x m p e block count next told does ps first family n n_is child o asked is =
    let joins = join_at program x e block count next told does in
    is ∙ ap (option_map at.Join) (asked block (joined_family program x block next joins ps first p family n n_is) ∙ ap (awaited m p block 1) n_is) ∙ sym (join_waits program x m p block next joins)

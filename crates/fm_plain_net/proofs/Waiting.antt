-- What a process waits for, by what it does next.
use Rattle.std.proofs.Common.{◌≡◌, ◌∷◌, ℕ, true, Option, Some, None, List, [], length, refl, sym, ap, ◌∙◌}
use Rattle.fm_base.specs.declared.fault.Fault.{Fault}
use Rattle.fm_base.specs.declared.path.ChanName.{ChanName}
use Rattle.fm_base.specs.Channels.{Push, Pop, Look}
use Rattle.fm_net.specs.Machine.{Place, Procs, Need, Nothing, Event, New, Children}
use Rattle.fm_rules.specs.declared.program.Program.{Program}
use Rattle.std.specs.Prelude.{option_map}
use Rattle.fm_mean.specs.declared.outcome.At.TheVariants as at
use Rattle.fm_mean.specs.declared.place.Actual.{Actual}
use Rattle.fm_mean.specs.declared.place.Span.{Span}
use Rattle.fm_mean.specs.Actions as mean
use Rattle.fm_mean.specs.Actions.{Join, Meets, Receive, action_in, action_of, joining, running}
use Rattle.fm_mean.specs.Outcome.{awaited, need_in, need_of, waits_by}
use Rattle.fm_mean.specs.Process.{Frame, Phase, Running, Joining, Ended, Faulted, Proc}
use Rattle.fm_mean.specs.Steps.{ask_for, ask_event, limits_of}
use Rattle.fm_plain.specs.Looking.{is_free}
use Rattle.fm_plain_replies.specs.Joins.{kids_in}
use Rattle.fm_plain_net.proofs.Performing.{InFrame}

module _ (program : Program) (x : Proc) where
  -- who meets an event has a frame
  pub has_frame : (e : mean.Event) → action_of program x ≡ Meets e → InFrame x
  has_frame e does = go x.phase refl x.execution.frames refl
    where
      go : (phase : Phase) → x.phase ≡ phase → (fs : List Frame) → x.execution.frames ≡ fs → InFrame x
      go phase ph (f ∷ below) is = record { top = f; below = below; is = is }
      go Running ph [] is = absurd (cc (sym (ap (action_in program x.execution) ph ∙ ap (running program x.execution) is) ∙ does))
      go (Joining block kids) ph [] is = absurd (cc (sym (ap (action_in program x.execution) ph ∙ ap (joining program block kids) is) ∙ does))
      go Ended ph [] is = absurd (cc (sym (ap (action_in program x.execution) ph) ∙ does))
      go (Faulted line fault) ph [] is = absurd (cc (sym (ap (action_in program x.execution) ph) ∙ does))

  need_at : (e : mean.Event) → action_of program x ≡ Meets e → (i : InFrame x) → need_of program x ≡ need_in (ask_event program x e (i.top ∷ i.below))
  need_at e does i = ap (λ a. need_in (ask_for program x a)) does ∙ ap (λ fs. need_in (ask_event program x e fs)) i.is

  pub receive_need : (c : ChanName) (line : ℕ) (items : List Span) (iostat : Option Span) (to : Option ℕ) (next : ℕ) → action_of program x ≡ Meets (Receive c line items iostat to next) → need_of program x ≡ Some (Event c (Pop (limits_of items)))
  receive_need c line items iostat to next does = need_at (Receive c line items iostat to next) does (has_frame (Receive c line items iostat to next) does)

  pub join_need : (block next : ℕ) → action_of program x ≡ Meets (Join block (kids_in x.phase) next) → need_of program x ≡ Some (Children block (length (kids_in x.phase)))
  join_need block next does = need_at (Join block (kids_in x.phase) next) does (has_frame (Join block (kids_in x.phase) next) does)

  pub send_free : (c : ChanName) (w : ℕ) (items : List Actual) (next : ℕ) → action_of program x ≡ Meets (mean.Send c w items next) → is_free (need_of program x) ≡ true
  send_free c w items next does = ap is_free (need_at (mean.Send c w items next) does (has_frame (mean.Send c w items next) does))

  pub fail_free : (line : ℕ) (fault : Fault) → action_of program x ≡ Meets (mean.Fail line fault) → is_free (need_of program x) ≡ true
  fail_free line fault does = ap is_free (need_at (mean.Fail line fault) does (has_frame (mean.Fail line fault) does))

  pub make_free : (places : List Span) (n cost next : ℕ) → action_of program x ≡ Meets (mean.Make places n cost next) → is_free (need_of program x) ≡ true
  make_free places n cost next does = ap is_free (need_at (mean.Make places n cost next) does (has_frame (mean.Make places n cost next) does))

  pub probe_free : (c : ChanName) (place : Span) (next : ℕ) → action_of program x ≡ Meets (mean.Probe c place next) → is_free (need_of program x) ≡ true
  probe_free c place next does = ap is_free (need_at (mean.Probe c place next) does (has_frame (mean.Probe c place next) does))

  pub begin_free : action_of program x ≡ Meets mean.Begin → is_free (need_of program x) ≡ true
  begin_free does = ap is_free (need_at mean.Begin does (has_frame mean.Begin does))

  pub end_free : action_of program x ≡ Meets mean.End → is_free (need_of program x) ≡ true
  end_free does = ap is_free (need_at mean.End does (has_frame mean.End does))

-- who has a free step waits for nothing
pub free_waits : (m : Procs Proc) (p : Place) (o : Option Need) → is_free o ≡ true → waits_by m p o ≡ None
free_waits m p None free = absurd (cc free)
free_waits m p (Some Nothing) free = refl
free_waits m p (Some (Event c (Push w message))) free = refl
free_waits m p (Some (Event c (Pop limits))) free = absurd (cc free)
free_waits m p (Some (Event c Look)) free = refl
free_waits m p (Some (New n writers)) free = refl
free_waits m p (Some (Children b n)) free = absurd (cc free)

module _ (program : Program) (x : Proc) (m : Procs Proc) (p : Place) where
  pub receive_waits : (c : ChanName) (line : ℕ) (items : List Span) (iostat : Option Span) (to : Option ℕ) (next : ℕ) → action_of program x ≡ Meets (Receive c line items iostat to next) → waits_by m p (need_of program x) ≡ Some (at.Receive c)
  receive_waits c line items iostat to next does = ap (waits_by m p) (receive_need program x c line items iostat to next does)

  pub join_waits : (block next : ℕ) → action_of program x ≡ Meets (Join block (kids_in x.phase) next) → waits_by m p (need_of program x) ≡ option_map at.Join (awaited m p block 1 (length (kids_in x.phase)))
  join_waits block next does = ap (waits_by m p) (join_need program x block next does)

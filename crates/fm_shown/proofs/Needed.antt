-- What a process waits for, by what is told of it.
use Rattle.std.proofs.Common.{◌≡◌, ◌∷◌, ◌++◌, ℕ, Option, Some, None, List, [], length, map, refl, sym, ap, ◌∙◌, append-nil}
use Rattle.std.specs.Prelude.{option_map, option_to_list}
use Rattle.fm_base.specs.declared.port.PortValue.{PortValue}
use Rattle.fm_base.specs.declared.port.PortValue.TheVariants.{Writer, Reader}
use Rattle.fm_base.specs.Channels.{Message}
use Rattle.fm_net.specs.Machine.{Place, Procs}
use Rattle.fm_mean.specs.declared.outcome.At.{At}
use Rattle.fm_mean.specs.declared.outcome.At.TheVariants as at
use Rattle.fm_mean.specs.declared.outcome.Wait.{Wait}
use Rattle.fm_code.specs.declared.ask.Ask.{Ask}
use Rattle.fm_code.specs.declared.ask.Ask.TheVariants as ask
use Rattle.fm_code.specs.declared.ask.Operand.{Operand}
use Rattle.fm_code.specs.declared.body.Body.{Body}
use Rattle.fm_code.specs.Statements.{Action, Stuck, Own, Meets, action_of}
use Rattle.fm_machine_calls.specs.Looks.{look_in}
use Rattle.fm_proc_language.specs.Frames.{Held}
use Rattle.fm_proc_language.specs.Processes.{CodeProc, Kid, Phase, Running, Joining, Ended, Faulted, asks_by, joining_by, joins_by, probes_by, receives_by, running_by, runs_by, sends_by}
use Rattle.fm_proc_language.specs.Needs.{need_in, need_of}
use Rattle.fm_proc_events.specs.Told.{look_by}
use Rattle.fm_procs.specs.Kept.{IsTold}
use Rattle.fm_procs.specs.Readings.{Entry, proc_in}
use Rattle.fm_procs.specs.Waiting.{inport_in}
use Rattle.fm_shown.specs.Outcome.{line_in, wait_at, waits_by}
use Rattle.fm_shown.specs.Waits.{joined_by, received_by, told_by}

module _ (m : Procs CodeProc) (q : Place) (y : CodeProc) (b : Body) where
  sends : (o : Option PortValue) (h : Held × Message) (next : ℕ) → None ≡ waits_by m q (need_in (sends_by y b o h next))
  sends None h next = refl
  sends (Some (Reader c)) h next = refl
  sends (Some (Writer c w)) h next = refl

  receives : (o : Option PortValue) (items : List Operand) (status at_end : Option ℕ) (next : ℕ) → option_map at.Receive (inport_in o) ≡ waits_by m q (need_in (receives_by y b o items status at_end next))
  receives None items status at_end next = refl
  receives (Some (Writer c w)) items status at_end next = refl
  receives (Some (Reader c)) items status at_end next = refl

  probes : (o : Option PortValue) (empty next : ℕ) → None ≡ waits_by m q (need_in (probes_by y b o empty next))
  probes None empty next = refl
  probes (Some (Writer c w)) empty next = refl
  probes (Some (Reader c)) empty next = refl

  running : (a : Ask) → received_by y.slots a ≡ waits_by m q (need_in (runs_by y b a))
  running (ask.Fail line fault) = refl
  running (ask.LetGo slots) = refl
  running (ask.Channel inport outport next) = refl
  running (ask.Merger inport outports next) = refl
  running (ask.Send slot items next) = sends _ _ next
  running (ask.Receive slot items status at_end next) = receives _ items status at_end next
  running (ask.Probe slot empty next) = probes _ empty next
  running (ask.Begin next) = refl
  running (ask.Join next) = refl
  running ask.End = refl

  joining : (block : ℕ) (kids : List Kid) (a : Ask) → joined_by m q block (length kids) a ≡ waits_by m q (need_in (joins_by y b block kids a))
  joining block kids (ask.Fail line fault) = refl
  joining block kids (ask.LetGo slots) = refl
  joining block kids (ask.Channel inport outport next) = refl
  joining block kids (ask.Merger inport outports next) = refl
  joining block kids (ask.Send slot items next) = refl
  joining block kids (ask.Receive slot items status at_end next) = refl
  joining block kids (ask.Probe slot empty next) = refl
  joining block kids (ask.Begin next) = refl
  joining block kids (ask.Join next) = refl
  joining block kids ask.End = refl

  runs : (a : Action) → told_by m q Running y.slots (look_in a) ≡ waits_by m q (need_in (running_by y b a))
  runs Stuck = refl
  runs (Own after lines [] cost) = refl
  runs (Own after lines (z ∷ zs) cost) = refl
  runs (Meets a) = running a

  joins : (block : ℕ) (kids : List Kid) (a : Action) → told_by m q (Joining block kids) y.slots (look_in a) ≡ waits_by m q (need_in (joining_by y b block kids a))
  joins block kids Stuck = refl
  joins block kids (Own after lines [] cost) = refl
  joins block kids (Own after lines (z ∷ zs) cost) = refl
  joins block kids (Meets a) = joining block kids a

module _ (m : Procs CodeProc) (q : Place) (y : CodeProc) where
  by_phase : (phase : Phase) (body : Option Body) → told_by m q phase y.slots (look_by phase body) ≡ waits_by m q (need_in (asks_by y phase body))
  by_phase Running None = refl
  by_phase Running (Some b) = runs m q y b (action_of b)
  by_phase (Joining block kids) None = refl
  by_phase (Joining block kids) (Some b) = joins m q y b block kids (action_of b)
  by_phase Ended None = refl
  by_phase Ended (Some b) = refl
  by_phase (Faulted line fault) None = refl
  by_phase (Faulted line fault) (Some b) = refl

-- what is told of a process is what it needs
pub told_waits : (m : Procs CodeProc) (q : Place) (e : Entry) → IsTold e → told_by m q (proc_in e).phase (proc_in e).slots e.next ≡ waits_by m q (need_of (proc_in e))
told_waits m q e told = ap (told_by m q (proc_in e).phase (proc_in e).slots) told ∙ by_phase m q (proc_in e) (proc_in e).phase (proc_in e).body

abbrev pub shown_wait : Place → Option Body → At → Wait
shown_wait q b x = record { path = q; line = record { 0 = line_in b }; at = x }

module _ (m : Procs CodeProc) (q : Place) (e : Entry) (told : IsTold e) (old new : List Wait) where
  pub wait_more : (x : At) (path : Place) (line : ℕ) → path ≡ q → Some x ≡ told_by m q (proc_in e).phase (proc_in e).slots e.next → line ≡ line_in (proc_in e).body
      → new ≡ old ++ record { path = path; line = record { 0 = line }; at = x } ∷ [] → new ≡ old ++ wait_at m (q, proc_in e)
  wait_more x path line at_path is at_line more =
      more ∙ ap (λ (r : Place). old ++ record { path = r; line = record { 0 = line }; at = x } ∷ []) at_path ∙ ap (λ (n : ℕ). old ++ record { path = q; line = record { 0 = n }; at = x } ∷ []) at_line
      ∙ ap (λ (o : Option At). old ++ map (shown_wait q (proc_in e).body) (option_to_list o)) (is ∙ told_waits m q e told)

  pub wait_none : None ≡ told_by m q (proc_in e).phase (proc_in e).slots e.next → new ≡ old → new ≡ old ++ wait_at m (q, proc_in e)
  wait_none is same =
      same ∙ sym (append-nil old) ∙ ap (λ (o : Option At). old ++ map (shown_wait q (proc_in e).body) (option_to_list o)) (is ∙ told_waits m q e told)

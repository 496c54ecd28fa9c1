-- Which phase a process is in behind a step, and behind its start.
use Rattle.std.proofs.Common.{◌≡◌, ℕ, suc, Bool, true, false, Option, Some, None, List, [], ◌∷◌, length, map, refl, sym, ap, subst, ◌∙◌}
use Rattle.std.specs.Prelude.{◌&&◌, is_some}
use Rattle.std.specs.List.{AllByRecursion}
use Rattle.std.specs.FinMap.{get}
use Rattle.fm_base.specs.declared.path.ChanName.{ChanName}
use Rattle.fm_base.specs.declared.port.PortValue.{PortValue}
use Rattle.fm_base.specs.declared.port.PortValue.TheVariants.{Writer, Reader}
use Rattle.fm_base.specs.Channels.{Chans, Message}
use Rattle.fm_net.specs.Machine as net
use Rattle.fm_net.specs.Machine.{Place, State, Need, Nothing, Event, New, Children, Stop, Go, Reply, Onward, made}
use Rattle.fm_code.specs.declared.ask.Ask.{Ask}
use Rattle.fm_code.specs.declared.ask.Ask.TheVariants as ask
use Rattle.fm_code.specs.declared.ask.Operand.{Operand}
use Rattle.fm_code.specs.declared.body.Body.{Body}
use Rattle.fm_code.specs.declared.body.Start.{Start}
use Rattle.fm_code.specs.Statements as code
use Rattle.fm_code.specs.Statements.{Action, action_of}
use Rattle.fm_machine_calls.specs.declared.looking.Look.TheVariants as look
use Rattle.fm_proc_language.specs.Frames.{Held}
use Rattle.fm_proc_language.specs.Slots.{Slots, in_slot}
use Rattle.fm_proc_language.specs.Processes.{CodeProc, Kid, Phase, Running, Joining, Ended, Faulted, asks, asks_by, at_the_end, child_of, children_of, joining_by, joins_by, kid_of, met, probes_by, receives_by, running_by, runs_by, sends_by}
use Rattle.fm_proc_events.specs.Performs.{CanPerform, Performs, reply_of}
use Rattle.fm_proc_events.specs.Told.{is_joining, is_running, look_of}
use Rattle.fm_procs.specs.Readings.{code_step}
use Rattle.fm_procs.specs.Stepping.{joined_next}
use Rattle.fm_procs.specs.Waiting.{is_join, is_served}
use Rattle.fm_procs.proofs.Served.{running_served, steps_served, unserved}

-- behind a step other than a join, a process that waits for children waits for those that it started, and these run
pub record Begins (y : CodeProc) (o : Onward CodeProc) : Type 0 where
  pub waits : (b : ℕ) (kids : List Kid) → o.self.phase ≡ Joining b kids → (b ≡ y.next_block) × (length kids ≡ length o.starts)
  pub run : AllByRecursion (λ (z : CodeProc). z.phase ≡ Running) o.starts

abbrev IsAlone : Need → Type 0
IsAlone Nothing = Unit {0}
IsAlone (Event c a) = Unit {0}
IsAlone (New n writers) = Unit {0}
IsAlone (Children b n) = ⊥

abbrev BeginsAll : CodeProc → net.Ask CodeProc → Type 0
BeginsAll y Stop = Unit {0}
BeginsAll y (Go need f) = IsAlone need → (c : ChanName) (r : Reply CodeProc) → Begins y (f c r)

starts_run : (b : Body) (slots : Slots) (starts : List Start) → AllByRecursion (λ (z : CodeProc). z.phase ≡ Running) (children_of b slots starts).0
starts_run b slots [] = tt
starts_run b slots (s ∷ ss) = (refl, starts_run b (child_of b slots s).1 ss)

as_many : (b : Body) (slots : Slots) (starts : List Start) → length (map kid_of starts) ≡ length (children_of b slots starts).0
as_many b slots [] = refl
as_many b slots (s ∷ ss) = ap suc (as_many b (child_of b slots s).1 ss)

module _ (y : CodeProc) where
  -- whoever starts nobody doesn't wait
  idle : (o : Onward CodeProc) (ph : Phase) → o.self.phase ≡ ph → ((b : ℕ) (kids : List Kid) → ph ≡ Joining b kids → ⊥) → o.starts ≡ [] → Begins y o
  idle o ph is not none = record { waits = λ b kids e. absurd (not b kids (sym is ∙ e)); run = subst (AllByRecursion (λ (z : CodeProc). z.phase ≡ Running)) (sym none) tt }

  module _ (runs : y.phase ≡ Running) (b : Body) where
    stays : (o : Onward CodeProc) → o.self.phase ≡ y.phase → o.starts ≡ [] → Begins y o
    stays o same none = idle o Running (same ∙ runs) (λ b kids e. cc e) none

    ends : (next : ℕ) (status at_end : Option ℕ) → Begins y (at_the_end y b next status at_end)
    ends next None None = idle _ _ refl (λ b kids e. cc e) refl
    ends next None (Some to) = stays _ refl refl
    ends next (Some k) to = stays _ refl refl

    arrives : (next : ℕ) (items : List Operand) (status at_end : Option ℕ) (exceeds : Bool) (m : Option Message) → Begins y (met y b next items status at_end exceeds m)
    arrives next items status at_end true None = idle _ _ refl (λ b kids e. cc e) refl
    arrives next items status at_end true (Some m) = stays _ refl refl
    arrives next items status at_end false None = ends next status at_end
    arrives next items status at_end false (Some m) = stays _ refl refl

    sends : (o : Option PortValue) (m : Held × Message) (next : ℕ) → BeginsAll y (sends_by y b o m next)
    sends None m next = tt
    sends (Some (Reader c)) m next = tt
    sends (Some (Writer c w)) m next = λ alone c r. stays _ refl refl

    receives : (o : Option PortValue) (items : List Operand) (status at_end : Option ℕ) (next : ℕ) → BeginsAll y (receives_by y b o items status at_end next)
    receives None items status at_end next = tt
    receives (Some (Writer c w)) items status at_end next = tt
    receives (Some (Reader c)) items status at_end next = λ alone c r. arrives next items status at_end r.exceeds r.message

    probes : (o : Option PortValue) (empty next : ℕ) → BeginsAll y (probes_by y b o empty next)
    probes None empty next = tt
    probes (Some (Writer c w)) empty next = tt
    probes (Some (Reader c)) empty next = λ alone c r. stays _ refl refl

    begins_asked : (k : Ask) → BeginsAll y (runs_by y b k)
    begins_asked (ask.Fail line fault) = λ alone c r. idle _ _ refl (λ b kids e. cc e) refl
    begins_asked (ask.LetGo slots) = tt
    begins_asked (ask.Channel inport outport next) = λ alone c r. stays _ refl refl
    begins_asked (ask.Merger inport outports next) = λ alone c r. stays _ refl refl
    begins_asked (ask.Send slot items next) = sends (in_slot y.slots slot) _ next
    begins_asked (ask.Receive slot items status at_end next) = receives (in_slot y.slots slot) items status at_end next
    begins_asked (ask.Probe slot empty next) = probes (in_slot y.slots slot) empty next
    begins_asked (ask.Begin next) = λ alone c r. record {
      waits = λ d kids e.
          let same : (y.next_block ≡ d) × (map kid_of b.frame.starts ≡ kids) = (cc e, cc e) in
          (sym same.0, ap length (sym same.1) ∙ as_many b y.slots b.frame.starts);
      run = starts_run b y.slots b.frame.starts;
    }
    begins_asked (ask.Join next) = tt
    begins_asked ask.End = λ alone c r. idle _ _ refl (λ b kids e. cc e) refl

    begins_running : (a : Action) → BeginsAll y (running_by y b a)
    begins_running code.Stuck = tt
    begins_running (code.Own after lines drops cost) = λ alone c r. stays _ refl refl
    begins_running (code.Meets k) = begins_asked k

  joins_alone : (b : Body) (block : ℕ) (kids : List Kid) (k : Ask) → BeginsAll y (joins_by y b block kids k)
  joins_alone b block kids (ask.Fail line fault) = tt
  joins_alone b block kids (ask.LetGo slots) = tt
  joins_alone b block kids (ask.Channel inport outport next) = tt
  joins_alone b block kids (ask.Merger inport outports next) = tt
  joins_alone b block kids (ask.Send slot items next) = tt
  joins_alone b block kids (ask.Receive slot items status at_end next) = tt
  joins_alone b block kids (ask.Probe slot empty next) = tt
  joins_alone b block kids (ask.Begin next) = tt
  joins_alone b block kids (ask.Join next) = λ alone c r. absurd alone
  joins_alone b block kids ask.End = tt

  begins_joining : (b : Body) (block : ℕ) (kids : List Kid) (a : Action) → BeginsAll y (joining_by y b block kids a)
  begins_joining b block kids code.Stuck = tt
  begins_joining b block kids (code.Own after lines drops cost) = tt
  begins_joining b block kids (code.Meets k) = joins_alone b block kids k

  begins : BeginsAll y (asks y)
  begins = go y.phase y.body refl
    where
      go : (phase : Phase) (o : Option Body) → y.phase ≡ phase → BeginsAll y (asks_by y phase o)
      go Running None is = tt
      go Running (Some b) is = begins_running is b (action_of b)
      go (Joining block kids) None is = tt
      go (Joining block kids) (Some b) is = begins_joining b block kids (action_of b)
      go Ended None is = tt
      go Ended (Some b) is = tt
      go (Faulted line fault) None is = tt
      go (Faulted line fault) (Some b) is = tt

served_alone : (cs : Chans) (need : Need) (r : Reply CodeProc) → reply_of cs need ≡ Some r → IsAlone need
served_alone cs Nothing r is = tt
served_alone cs (Event c a) r is = tt
served_alone cs (New n writers) r is = tt
served_alone cs (Children b n) r is = absurd (cc is)

module _ (p : Place) (y : CodeProc) (cs : Chans) (z : CodeProc) (xs : List CodeProc) (after : Chans) (cost : ℕ) (does : Performs p y cs z xs after cost) where
  begun : Begins y (does.goes (made p does.need) does.reply)
  begun =
      let all : BeginsAll y (Go does.need does.goes) = subst (BeginsAll y) does.asks_so (begins y) in
      all (served_alone cs does.need does.reply does.comes) (made p does.need) does.reply

  -- who waits behind its event waits for the children that it started
  pub waits_for : (b : ℕ) (kids : List Kid) → z.phase ≡ Joining b kids → (b ≡ y.next_block) × (length kids ≡ length xs)
  waits_for b kids e =
      let w = begun.waits b kids (sym (ap (λ (v : CodeProc). v.phase) does.on.self) ∙ e) in
      (w.0, w.1 ∙ ap length (sym does.on.starts_are))

  -- and these run
  pub all_run : AllByRecursion (λ (v : CodeProc). v.phase ≡ Running) xs
  all_run = subst (AllByRecursion (λ (v : CodeProc). v.phase ≡ Running)) (sym does.on.starts_are) begun.run

-- ---- a process that can step, and doesn't join, is served by the channels

not_both : (a b : Bool) → b ≡ false → (a && b) ≡ false
not_both true b e = e
not_both false b e = refl

pub can_perform : (s : State CodeProc) (p : Place) (y : CodeProc) (k : Ask) → get s.procs p ≡ Some y → look_of y ≡ look.Asks k → is_join k ≡ false → is_some (code_step s p) ≡ true → CanPerform y s.chans
can_perform s p y k is told alone can = go (is_running y) refl
  where
    serves : is_served s.procs s.chans p y ≡ true
    serves = sym (steps_served s p y is) ∙ can

    go : (r : Bool) → is_running y ≡ r → CanPerform y s.chans
    go true running = sym (running_served s.procs s.chans p y running) ∙ serves
    go false running = absurd (cc (sym (unserved s.procs s.chans p y k told running (not_both (is_joining y) (is_join k) alone)) ∙ serves))

-- an event with a statement behind a join is that join
pub join_told : (k : Ask) (next : ℕ) → joined_next k ≡ Some next → look.Asks k ≡ look.Asks (ask.Join next)
join_told (ask.Fail line fault) next e = absurd (cc e)
join_told (ask.LetGo slots) next e = absurd (cc e)
join_told (ask.Channel inport outport to) next e = absurd (cc e)
join_told (ask.Merger inport outports to) next e = absurd (cc e)
join_told (ask.Send slot items to) next e = absurd (cc e)
join_told (ask.Receive slot items status at_end to) next e = absurd (cc e)
join_told (ask.Probe slot empty to) next e = absurd (cc e)
join_told (ask.Begin to) next e = absurd (cc e)
join_told (ask.Join to) next e = let same : to ≡ next = cc e in ap (λ (n : ℕ). look.Asks (ask.Join n)) same
join_told ask.End next e = absurd (cc e)

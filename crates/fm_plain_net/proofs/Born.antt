-- Which phase a process is in behind a step, and behind its start.
use Rattle.std.proofs.Common.{◌≡◌, ℕ, Bool, true, false, Option, Some, None, List, [], ◌∷◌, length, map, refl, sym, ap, subst, ◌∙◌, arith}
use Rattle.std.proofs.lemmas.List.{length-map}
use Rattle.std.specs.List.{AllByRecursion}
use Rattle.std.specs.FinMap.{get}
use Rattle.fm_base.specs.Channels.{Chans, Message}
use Rattle.fm_base.specs.declared.path.ChanName.{ChanName}
use Rattle.fm_net.specs.Machine.{Place, State, Reply, Onward, Ask, Stop, Go, child, made}
use Rattle.fm_net.specs.Owned.{IsOwned, present}
use Rattle.fm_finmap.specs.Sums.{value_or_zero}
use Rattle.fm_rules.specs.declared.program.Program.{Program}
use Rattle.fm_mean.specs.declared.place.Span.{Span}
use Rattle.fm_mean.specs.Calls.{child_of}
use Rattle.fm_mean.specs.Process.{Frame, Kid, Phase, Running, Joining, Proc, Start}
use Rattle.fm_mean.specs.Actions.{Action, Event, Rest, Own, Meets, Fail, Make, Send, Receive, Probe, Begin, Join, End, action_of, action_in, joining}
use Rattle.fm_mean.specs.Outcome.{need_in, need_of}
use Rattle.fm_mean.specs.Steps.{ask, ask_for, ask_event, ask_at, kid_of, met, received, language}
use Rattle.fm_plain_net.specs.Goes.{Performs, joined_in}
use Rattle.fm_plain_net.specs.declared.ports.Ports.{Ports}

-- a join, or nothing
joins_or_rests : Action → Bool
joins_or_rests Rest = true
joins_or_rests (Own w lines drops cost) = false
joins_or_rests (Meets (Fail line fault)) = false
joins_or_rests (Meets (Make places writers cost next)) = false
joins_or_rests (Meets (Send channel writer items next)) = false
joins_or_rests (Meets (Receive channel line items iostat at_end next)) = false
joins_or_rests (Meets (Probe channel empty next)) = false
joins_or_rests (Meets Begin) = false
joins_or_rests (Meets (Join block kids next)) = true
joins_or_rests (Meets End) = false

-- behind a step other than a join, a process that waits for children waits for those that it started, and these run
pub record Begins (x : Proc) (o : Onward Proc) : Type 0 where
  pub waits : (b : ℕ) (kids : List Kid) → o.self.phase ≡ Joining b kids → (b ≡ x.next_block) × (length kids ≡ length o.starts)
  pub run : AllByRecursion (λ (y : Proc). y.phase ≡ Running) o.starts

abbrev pub BeginsAll : Proc → Ask Proc → Type 0
BeginsAll x Stop = Unit {0}
BeginsAll x (Go need f) = joined_in (Some need) ≡ None → (c : ChanName) (r : Reply Proc) → Begins x (f c r)

starts_run : (starts : List Start) → AllByRecursion (λ (y : Proc). y.phase ≡ Running) (map child_of starts)
starts_run [] = tt
starts_run (s ∷ ss) = (refl, starts_run ss)

module _ (program : Program) (x : Proc) where
  waiting : (b : ℕ) (kids : List Kid) → x.phase ≡ Joining b kids → joins_or_rests (action_of program x) ≡ true
  unfolding joins_or_rests
  waiting b kids is = ap (λ ph. joins_or_rests (action_in program x.execution ph)) is ∙ go x.execution.frames
    where
      go : (fs : List Frame) → joins_or_rests (joining program b kids fs) ≡ true
      go [] = refl
      go (f ∷ below) = refl

  -- whose action isn't a join doesn't wait for children
  apart : joins_or_rests (action_of program x) ≡ false → (b : ℕ) (kids : List Kid) → x.phase ≡ Joining b kids → ⊥
  apart not b kids is = cc (sym (waiting b kids is) ∙ not)

  stays : joins_or_rests (action_of program x) ≡ false → (o : Onward Proc) → o.self.phase ≡ x.phase → o.starts ≡ [] → Begins x o
  stays not o same none = record { waits = λ b kids is. absurd (apart not b kids (sym same ∙ is)); run = subst (AllByRecursion (λ (y : Proc). y.phase ≡ Running)) (sym none) tt }

  other : (o : Onward Proc) (ph : Phase) → o.self.phase ≡ ph → ((b : ℕ) (kids : List Kid) → ph ≡ Joining b kids → ⊥) → o.starts ≡ [] → Begins x o
  other o ph is not none = record { waits = λ b kids e. absurd (not b kids (sym is ∙ e)); run = subst (AllByRecursion (λ (y : Proc). y.phase ≡ Running)) (sym none) tt }

  arrives : joins_or_rests (action_of program x) ≡ false → (line : ℕ) (below : List Frame) (f : Frame) (next : ℕ) (items : List Span) (iostat : Option Span) (to : Option ℕ) (m : Option Message) → Begins x (received x line below f next items iostat to m)
  arrives not line below f next items iostat to (Some m) = stays not _ refl refl
  arrives not line below f next items (Some s) to None = stays not _ refl refl
  arrives not line below f next items None (Some n) None = stays not _ refl refl
  arrives not line below f next items None None None = other _ _ refl (λ b kids e. cc e) refl

  meets : joins_or_rests (action_of program x) ≡ false → (line : ℕ) (below : List Frame) (f : Frame) (next : ℕ) (items : List Span) (iostat : Option Span) (to : Option ℕ) (over : Bool) (m : Option Message)
      → Begins x (met x line below f next items iostat to over m)
  meets not line below f next items iostat to true None = other _ _ refl (λ b kids e. cc e) refl
  meets not line below f next items iostat to true (Some m) = arrives not line below f next items iostat to (Some m)
  meets not line below f next items iostat to false m = arrives not line below f next items iostat to m

  begins_at : (below : List Frame) (f : Frame) (e : Event) → joins_or_rests (action_of program x) ≡ joins_or_rests (Meets e) → BeginsAll x (ask_at program x below f e)
  unfolding joins_or_rests
  begins_at below f (Fail line fault) does = λ alone c r. other _ _ refl (λ b kids e. cc e) refl
  begins_at below f (Make places n cost next) does = λ alone c r. stays does _ refl refl
  begins_at below f (Send d w items next) does = λ alone c r. stays does _ refl refl
  begins_at below f (Receive d line items iostat to next) does = λ alone c r. meets does line below f next items iostat to r.exceeds r.message
  begins_at below f (Probe d place next) does = λ alone c r. stays does _ refl refl
  begins_at below f Begin does = λ alone c r. record {
    waits = λ b kids e.
        let same : (x.next_block ≡ b) × (map kid_of f.starts ≡ kids) = (cc e, cc e) in
        (sym same.0, ap length (sym same.1) ∙ length-map f.starts kid_of ∙ sym (length-map f.starts child_of));
    run = starts_run f.starts;
  }
  begins_at below f (Join block kids next) does = λ alone c r. absurd (cc alone)
  begins_at below f End does = λ alone c r. other _ _ refl (λ b kids e. cc e) refl

  begins_event : (fs : List Frame) (e : Event) → joins_or_rests (action_of program x) ≡ joins_or_rests (Meets e) → BeginsAll x (ask_event program x e fs)
  begins_event [] e does = tt
  begins_event (f ∷ below) e does = begins_at below f e does

  pub begins : BeginsAll x (ask program x)
  unfolding joins_or_rests
  begins = go (action_of program x) refl
    where
      go : (a : Action) → action_of program x ≡ a → BeginsAll x (ask_for program x a)
      go Rest does = tt
      go (Own w lines drops cost) does = λ alone c r. stays (ap joins_or_rests does) _ refl refl
      go (Meets e) does = begins_event x.execution.frames e (ap joins_or_rests does)

-- so does a process that did what it asked for
pub begun : (program : Program) (p : Place) (x : Proc) (m : Chans) (ports : Ports) (y : Proc) (starts : List Proc) (n : Chans) (later : Ports) (cost : ℕ) → Performs program p x m [] ports y starts n later cost → joined_in (need_of program x) ≡ None
    → ((b : ℕ) (kids : List Kid) → y.phase ≡ Joining b kids → (b ≡ x.next_block) × (length kids ≡ length starts)) × AllByRecursion (λ (z : Proc). z.phase ≡ Running) starts
begun program p x m ports y starts n later cost does none =
    let o = does.going (made p does.need) does.reply in
    let told : joined_in (Some does.need) ≡ None = ap (λ k. joined_in (need_in k)) (sym does.asks) ∙ none in
    let all : BeginsAll x (Go does.need does.going) = subst (BeginsAll x) does.asks (begins program x) in
    let this : Begins x o = all told (made p does.need) does.reply in (
      (λ b kids e. let w = this.waits b kids (sym (ap (λ (z : Proc). z.phase) does.goes.self_is) ∙ e) in (w.0, w.1 ∙ ap length (sym does.goes.starts_are))),
      subst (AllByRecursion (λ (z : Proc). z.phase ≡ Running)) (sym does.goes.starts_are) this.run,
    )

-- no child of its next block is there yet
pub unborn : (program : Program) (s : State Proc) (p : Place) (x : Proc) → get s.procs p ≡ Some x → IsOwned (language program) s → (i : ℕ) → get s.procs (child p x.next_block i) ≡ None
unborn program s p x is owned i = go (get s.procs (child p x.next_block i)) refl
  where
    go : (o : Option Proc) → get s.procs (child p x.next_block i) ≡ o → o ≡ None
    go None e = refl
    go (Some y) e = absurd (omega (arith, owned.born p x.next_block i (omega (arith, ap present e)), ap (value_or_zero (λ (y : Proc). y.next_block)) is))

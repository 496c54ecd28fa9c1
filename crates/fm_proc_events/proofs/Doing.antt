-- A process whose next statement asks others for something, where it is served.
use Rattle.std.proofs.Common.{◌≡◌, ℕ, ℤ, Bool, true, false, Option, Some, None, List, [], ◌∷◌, refl, sym, ap, ap₂, ◌∙◌}
use Rattle.std.specs.Prelude.{is_some}
use Rattle.fm_base.specs.Channels.{Chans}
use Rattle.fm_net.specs.Machine.{Stop}
use Rattle.fm_code.specs.declared.ask.Ask.{Ask}
use Rattle.fm_code.specs.declared.ask.Ask.TheVariants as ask
use Rattle.fm_code.specs.declared.body.Body.{Body}
use Rattle.fm_code.specs.Statements as code
use Rattle.fm_code.specs.Statements.{Action, action_of}
use Rattle.fm_machine_calls.specs.declared.looking.Look.TheVariants as look
use Rattle.fm_machine_calls.specs.Looks.{look_in, look_by as drops_told}
use Rattle.fm_proc_language.specs.Slots.{Slots}
use Rattle.fm_proc_language.specs.Processes.{CodeProc, Phase, Running, Joining, Ended, Faulted, Kid, asks, asks_by, running_by, runs_by, joining_by, joins_by}
use Rattle.fm_proc_language.specs.Needs.{need_in}
use Rattle.fm_proc_events.specs.Performs.{CanPerform, reply_to}
use Rattle.fm_proc_events.specs.Told.{look_by, look_of}

-- what a running process asks others for
abbrev pub is_event : Ask → Bool
is_event (ask.Fail line fault) = true
is_event (ask.LetGo slots) = false
is_event (ask.Channel inport outport next) = true
is_event (ask.Merger inport outports next) = true
is_event (ask.Send slot items next) = true
is_event (ask.Receive slot items status at_end next) = true
is_event (ask.Probe slot empty next) = true
is_event (ask.Begin next) = true
is_event (ask.Join next) = false
is_event ask.End = true

-- a running process whose body asks for this
pub record Does (y : CodeProc) (b : Body) (k : Ask) : Type 0 where
  pub running : y.phase ≡ Running
  pub is : y.body ≡ Some b
  pub meets : action_of b ≡ code.Meets k

same_ask : (j k : Ask) → look.Asks j ≡ look.Asks k → j ≡ k
same_ask j k e = cc e

dropping : (zs : List ℤ) (k : Ask) → is_event k ≡ true → drops_told zs ≡ look.Asks k → ⊥
dropping [] k event e = cc e
dropping (z ∷ zs) k event e = cc (ap is_event (same_ask (ask.LetGo (z ∷ zs)) k e) ∙ event)

meets_by : (a : Action) (k : Ask) → is_event k ≡ true → look_in a ≡ look.Asks k → a ≡ code.Meets k
meets_by code.Stuck k event e = absurd (cc e)
meets_by (code.Own b lines drops cost) k event e = absurd (dropping drops k event e)
meets_by (code.Meets j) k event e = ap code.Meets (same_ask j k e)

-- one that joins does nothing but a join
joins_stop : (y : CodeProc) (b : Body) (block : ℕ) (kids : List Kid) (k : Ask) → is_event k ≡ true → joins_by y b block kids k ≡ Stop
joins_stop y b block kids (ask.Fail line fault) event = refl
joins_stop y b block kids (ask.LetGo slots) event = refl
joins_stop y b block kids (ask.Channel inport outport next) event = refl
joins_stop y b block kids (ask.Merger inport outports next) event = refl
joins_stop y b block kids (ask.Send slot items next) event = refl
joins_stop y b block kids (ask.Receive slot items status at_end next) event = refl
joins_stop y b block kids (ask.Probe slot empty next) event = refl
joins_stop y b block kids (ask.Begin next) event = refl
joins_stop y b block kids (ask.Join next) event = absurd (cc event)
joins_stop y b block kids ask.End event = refl

-- who asks for something has a body
pub bodied : (y : CodeProc) (k : Ask) → look_of y ≡ look.Asks k → y.body ≡ None → ⊥
bodied y k e none = go y.phase (sym (ap (look_by y.phase) none) ∙ e)
  where
    go : (phase : Phase) → look_by phase None ≡ look.Asks k → ⊥
    go Running told = cc told
    go (Joining block kids) told = cc told
    go Ended told = cc told
    go (Faulted line fault) told = cc told

module _ (y : CodeProc) (cs : Chans) (k : Ask) (event : is_event k ≡ true) (told : look_of y ≡ look.Asks k) (can : CanPerform y cs) (b : Body) (is : y.body ≡ Some b) where
  pub does : Does y b k
  does = go y.phase refl
    where
      told_at : (phase : Phase) → y.phase ≡ phase → look_by phase (Some b) ≡ look.Asks k
      told_at phase e = sym (ap₂ look_by e is) ∙ told

      go : (phase : Phase) → y.phase ≡ phase → Does y b k
      go Running e = record { running = e; is = is; meets = meets_by (action_of b) k event (told_at Running e) }
      go (Joining block kids) e =
          let stops : asks y ≡ Stop = ap₂ (asks_by y) e is ∙ ap (joining_by y b block kids) (meets_by (action_of b) k event (told_at (Joining block kids) e)) ∙ joins_stop y b block kids k event in
          absurd (cc (sym (ap (λ a. is_some (reply_to cs (need_in a))) stops) ∙ can))
      go Ended e = absurd (cc (told_at Ended e))
      go (Faulted line fault) e = absurd (cc (told_at (Faulted line fault) e))

  pub asks_so : asks y ≡ runs_by y b k
  asks_so = ap₂ (asks_by y) does.running is ∙ ap (running_by y b) does.meets

  pub can_so : is_some (reply_to cs (need_in (runs_by y b k))) ≡ true
  can_so = sym (ap (λ a. is_some (reply_to cs (need_in a))) asks_so) ∙ can

pub joining_looks : (block : ℕ) (kids : List Kid) (b : Option Body) → look_by (Joining block kids) b ≡ look_by Running b
joining_looks block kids None = refl
joining_looks block kids (Some b) = refl

-- a process whose body and slots are as they were
pub as_before : (y : CodeProc) (b : Body) (slots : Slots) → y.body ≡ Some b → slots ≡ y.slots → record y { body = Some b; slots = slots } ≡ y
as_before y b slots is same = λ i. record y { body = sym is i; slots = same i }

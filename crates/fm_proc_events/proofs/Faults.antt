-- A process that meets a fault does what it asked for.
use Rattle.std.proofs.Common.{◌≡◌, ◌∷◌, true, Option, Some, None, [], refl, sym, ap, ap₂, ◌∙◌}
use Rattle.fm_base.specs.declared.fault.Fault.{Fault}
use Rattle.fm_base.specs.declared.name.Line.{Line}
use Rattle.fm_base.specs.Channels.{Chans}
use Rattle.fm_discards.proofs.Shedding.{all_shed-nil}
use Rattle.fm_net.specs.Machine.{Place, Nothing, reply_with}
use Rattle.fm_code.specs.declared.ask.Ask.{Ask}
use Rattle.fm_code.specs.declared.ask.Ask.TheVariants as ask
use Rattle.fm_code.specs.declared.body.Body.{Body}
use Rattle.fm_code.specs.Statements as code
use Rattle.fm_code.specs.Statements.{Action, action_of}
use Rattle.fm_machine_calls.specs.declared.looking.Look.TheVariants as look
use Rattle.fm_machine_calls.specs.Looks.{look_in}
use Rattle.fm_proc_language.specs.Processes.{CodeProc, Phase, Running, Joining, Ended, Faulted, asks_by, running_by, faulted}
use Rattle.fm_proc_events.specs.Performs.{Performs}
use Rattle.fm_proc_events.specs.Told as told_of
use Rattle.fm_proc_events.specs.Told.{is_running, look_by, look_of}
use Rattle.fm_proc_events.proofs.Doing.{bodied}

same_ask : (j k : Ask) → look.Asks j ≡ look.Asks k → j ≡ k
same_ask j k e = cc e

pub fails : (p : Place) (y : CodeProc) (cs : Chans) (line : Line) (fault : Fault) → look_of y ≡ look.Asks (ask.Fail line fault) → is_running y ≡ true
    → Performs p y cs (record y { phase = Faulted line.0 fault }) [] cs 1
fails p y cs line fault told running = go y.phase refl y.body refl
  where
    made_at : (b : Body) → y.phase ≡ Running → y.body ≡ Some b → Performs p y cs (record y { phase = Faulted line.0 fault }) [] cs 1
    made_at b e is = record {
      need = Nothing;
      goes = λ c r. faulted y line.0 fault;
      asks_so = ap₂ (asks_by y) e is ∙ ap (running_by y b) (fails_by (action_of b) (sym (ap₂ look_by e is) ∙ told));
      reply = reply_with [];
      comes = refl;
      on = record { self = refl; block = refl; starts_are = refl; chans = sym (all_shed-nil cs); cost_is = refl };
    }
      where
        fails_by : (a : Action) → look_in a ≡ look.Asks (ask.Fail line fault) → a ≡ code.Meets (ask.Fail line fault)
        fails_by code.Stuck e = absurd (cc e)
        fails_by (code.Own b lines [] cost) e = absurd (cc e)
        fails_by (code.Own b lines (z ∷ zs) cost) e = absurd (cc (same_ask (ask.LetGo (z ∷ zs)) (ask.Fail line fault) e))
        fails_by (code.Meets j) e = ap code.Meets (same_ask j (ask.Fail line fault) e)

    go : (phase : Phase) → y.phase ≡ phase → (o : Option Body) → y.body ≡ o → Performs p y cs (record y { phase = Faulted line.0 fault }) [] cs 1
    go Running e (Some b) is = made_at b e is
    go phase e None is = absurd (bodied y (ask.Fail line fault) told is)
    go (Joining block kids) e (Some b) is = absurd (cc (sym (ap₂ told_of.runs_by e is) ∙ running))
    go Ended e (Some b) is = absurd (cc (sym (ap₂ told_of.runs_by e is) ∙ running))
    go (Faulted line fault) e (Some b) is = absurd (cc (sym (ap₂ told_of.runs_by e is) ∙ running))

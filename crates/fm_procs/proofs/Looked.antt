-- What a process does by what is told of it, as far as pieces rest on it.
use Rattle.std.proofs.Common.{◌≡◌, true, false, Option, Some, None, List, [], ◌∷◌, refl, sym, ◌∙◌}
use Rattle.std.specs.Prelude.{ℤ, is_some}
use Rattle.std.specs.FinMap.{get}
use Rattle.fm_net.specs.Machine.{Place, State}
use Rattle.fm_code.specs.declared.ask.Ask.{Ask}
use Rattle.fm_code.specs.declared.body.Body.{Body}
use Rattle.fm_code.specs.Statements as code
use Rattle.fm_code.specs.Statements.{Action, action_of}
use Rattle.fm_machine_calls.specs.declared.looking.Look.TheVariants as look
use Rattle.fm_machine_calls.specs.Looks as looks
use Rattle.fm_machine_calls.specs.Looks.{look_in}
use Rattle.fm_proc_language.specs.Needs.{is_empty, is_local, is_local_action, is_local_by}
use Rattle.fm_proc_language.specs.Processes.{CodeProc, Phase, Running, Joining, Ended, Faulted}
use Rattle.fm_proc_events.specs.Told.{is_running, look_by, look_of, runs_by}
use Rattle.fm_procs.specs.Pieces.{is_local_at, is_local_in}
use Rattle.fm_procs.specs.Readings.{code_step}
use Rattle.fm_procs.proofs.Served.{goes_served, steps_not, steps_served, stuck_served}

none_from : {A : Type 0} (o : Option A) → is_some o ≡ false → o ≡ None
none_from None e = refl
none_from (Some x) e = absurd (cc e)

-- ---- local steps

goes_empty : (drops : List ℤ) → looks.look_by drops ≡ look.Goes → is_empty drops ≡ true
goes_empty [] e = refl
goes_empty (z ∷ zs) e = absurd (cc e)

goes_action : (a : Action) → look_in a ≡ look.Goes → is_local_action a ≡ true
goes_action code.Stuck e = absurd (cc e)
goes_action (code.Own after lines drops cost) e = goes_empty drops e
goes_action (code.Meets k) e = absurd (cc e)

goes_by : (phase : Phase) (b : Option Body) → runs_by phase b ≡ true → look_by phase b ≡ look.Goes → is_local_by phase b ≡ true
goes_by Running None running e = absurd (cc running)
goes_by Running (Some b) running e = goes_action (action_of b) e
goes_by (Joining block kids) b running e = absurd (cc running)
goes_by Ended b running e = absurd (cc running)
goes_by (Faulted line fault) b running e = absurd (cc running)

-- a running process whose statement asks for nothing makes a step of its own
pub goes_local : (y : CodeProc) → is_running y ≡ true → look_of y ≡ look.Goes → is_local y ≡ true
goes_local y = goes_by y.phase y.body

asks_empty : (drops : List ℤ) (k : Ask) → looks.look_by drops ≡ look.Asks k → is_empty drops ≡ false
asks_empty [] k e = absurd (cc e)
asks_empty (z ∷ zs) k e = refl

asks_action : (a : Action) (k : Ask) → look_in a ≡ look.Asks k → is_local_action a ≡ false
asks_action code.Stuck k e = refl
asks_action (code.Own after lines drops cost) k e = asks_empty drops k e
asks_action (code.Meets j) k e = refl

asks_by : (phase : Phase) (b : Option Body) (k : Ask) → look_by phase b ≡ look.Asks k → is_local_by phase b ≡ false
asks_by Running None k e = refl
asks_by Running (Some b) k e = asks_action (action_of b) k e
asks_by (Joining block kids) b k e = refl
asks_by Ended b k e = refl
asks_by (Faulted line fault) b k e = refl

-- what asks for something concerns others
pub asks_shared : (y : CodeProc) (k : Ask) → look_of y ≡ look.Asks k → is_local y ≡ false
asks_shared y = asks_by y.phase y.body

-- ---- steps

module _ (s : State CodeProc) (p : Place) where
  -- who can step is there
  pub steps_there : is_some (code_step s p) ≡ true → (y : CodeProc) × (get s.procs p ≡ Some y)
  steps_there can = go (get s.procs p) refl
    where
      go : (o : Option CodeProc) → get s.procs p ≡ o → (y : CodeProc) × (get s.procs p ≡ Some y)
      go None e = absurd (cc (sym (steps_not s p e) ∙ can))
      go (Some y) e = (y, e)

  -- who is stuck can't step
  pub stuck_stays : ((y : CodeProc) → get s.procs p ≡ Some y → look_of y ≡ look.Stuck) → code_step s p ≡ None
  stuck_stays told = none_from (code_step s p) (go (get s.procs p) refl)
    where
      go : (o : Option CodeProc) → get s.procs p ≡ o → is_some (code_step s p) ≡ false
      go None e = steps_not s p e
      go (Some y) e = steps_served s p y e ∙ stuck_served s.procs s.chans p y (told y e)

  -- who asks for something, if he's there, makes no step of his own
  pub asks_at : (k : Ask) → ((y : CodeProc) → get s.procs p ≡ Some y → look_of y ≡ look.Asks k) → is_local_at s p ≡ false
  asks_at k told = go (get s.procs p) refl
    where
      go : (o : Option CodeProc) → get s.procs p ≡ o → is_local_in o ≡ false
      go None e = refl
      go (Some y) e = asks_shared y k (told y e)

  -- who can step by a statement that asks for nothing runs
  pub goes_running : (y : CodeProc) → get s.procs p ≡ Some y → look_of y ≡ look.Goes → is_some (code_step s p) ≡ true → is_running y ≡ true
  goes_running y is goes can = sym (goes_served s.procs s.chans p y goes) ∙ sym (steps_served s p y is) ∙ can

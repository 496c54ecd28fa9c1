-- The state to which pieces lead.
use Rattle.std.proofs.Common.{◌≡◌, ℕ, Some, List, [], ◌∷◌, ◌++◌, replicate, refl, sym, ap, ◌∙◌}
use Rattle.std.specs.Prelude.{slice_get, unwrap_or, Result, Ok, Err, OnOk}
use Rattle.fm_base.specs.declared.schedule.Turn.{Turn}
use Rattle.fm_sched.specs.Schedule.{play}
use Rattle.fm_sched.proofs.Runs.{play-append}
use Rattle.fm_net.specs.Machine.{Place, State}
use Rattle.fm_net.specs.Starts.{choices_of}
use Rattle.fm_net.proofs.Histories.{choices_more}
use Rattle.fm_run.specs.Pieces.{after_steps}
use Rattle.fm_run.specs.Plays.{Play, first, step}
use Rattle.fm_run_code.specs.Played.{played}

module _ (p : Play) where
  pub played_none : (places : List Place) → played p [] places ≡ first p
  unfolding played
  played_none places = refl

  pub played_are : (hs : List Turn) (places choices : List Place) → choices_of hs places ≡ Some choices → played p hs places ≡ play (step p) (first p) choices
  unfolding played
  played_are hs places choices e = ap (λ o. play (step p) (first p) (unwrap_or o [])) e

  -- one piece more, and processes that started in it
  module _ (hs : List Turn) (places choices : List Place) (named : choices_of hs places ≡ Some choices) (number steps : ℕ) (q : Place) (who : slice_get places number ≡ Some q) (js : List Turn) (js_is : js ≡ hs ++ record { number = number; steps = steps } ∷ []) (more qs : List Place) (qs_is : qs ≡ places ++ more) where
    abbrev turn : Turn
    turn = record { number = number; steps = steps }

    pub named_more : choices_of js qs ≡ Some (choices ++ replicate steps q)
    named_more = ap (λ (ts : List Turn). choices_of ts qs) js_is ∙ ap (choices_of (hs ++ turn ∷ [])) qs_is ∙ choices_more hs places more choices turn q named who

    pub played_more : played p js qs ≡ after_steps p (played p hs places) q steps
    played_more =
        played_are js qs (choices ++ replicate steps q) named_more ∙ play-append (step p) (first p) choices (replicate steps q)
        ∙ ap (λ (u : State p.Proc). play (step p) u (replicate steps q)) (sym (played_are hs places choices named))

pub on_ok : {T E : Type 0} {A B : Type 0} (r : Result T E) → OnOk r A → (A → B) → OnOk r B
on_ok (Ok x) a f = f a
on_ok (Err e) a f = tt

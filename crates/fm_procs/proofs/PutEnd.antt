-- What came of a slice leads its process on.
use Rattle.std.proofs.Common.{◌≡◌, ◌==◌, ℕ, true, Option, Some, List, [], ◌∷◌, ◌++◌, length, refl, ap, ap₂, ◌∙◌, arith}
use Rattle.std.proofs.lemmas.Bool.{eqb-true}
use Rattle.fm_code.specs.declared.body.Body.{Body}
use Rattle.fm_code.specs.declared.body.Start.{Start}
use Rattle.fm_code.specs.Statements.{run}
use Rattle.fm_machine.specs.declared.done.Done.{Done}
use Rattle.fm_proc_language.specs.Processes.{CodeProc, Phase, Running, Joining, Ended, Faulted}
use Rattle.fm_proc_events.specs.Told.{is_running, runs_by}
use Rattle.fm_procs.specs.Runs.{Runs}

pub is_none : (l : List Start) → (length l == 0) ≡ true → l ≡ []
is_none [] e = refl
is_none (x ∷ xs) e = absurd (omega (arith, eqb-true (length (x ∷ xs)) 0 e))

runs_on : (phase : Phase) (o : Option Body) → runs_by phase o ≡ true → phase ≡ Running
runs_on Running o e = refl
runs_on (Joining block kids) o e = absurd (cc e)
runs_on Ended o e = absurd (cc e)
runs_on (Faulted line fault) o e = absurd (cc e)

pub given_runs : (y : CodeProc) (d : Done) → is_running y ≡ true → y.body ≡ Some d.start.value → (o : Option Body) → o ≡ Some d.end.value → (lines : List (List ℕ)) → lines ≡ y.lines ++ d.lines → (steps cost : ℕ) → steps ≡ d.steps → cost ≡ d.cost
    → Runs y steps cost (record y { body = o; lines = lines })
given_runs y d runs own o o_is lines lines_are steps cost steps_are cost_is = record {
  running = runs_on y.phase y.body runs;
  before = d.start.value;
  is_before = own;
  after = record { body = d.end.value; lines = d.lines; cost = d.cost };
  ran = ap (λ (n : ℕ). run n d.start.value) steps_are ∙ d.ran;
  is_after = ap₂ (λ (v : Option Body) (ls : List (List ℕ)). record y { body = v; lines = ls }) o_is lines_are;
  cost_is = cost_is;
}

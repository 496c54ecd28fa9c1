-- The report has a line for each fault and each wait of the outcome.
use Rattle.std.proofs.Common.{◌≡◌, ◌⊎◌, inl, inr, ℕ, Bool, cond, List, [], ◌∷◌, ◌++◌, Contains, sym, ap, ◌∙◌, append_assoc}
use Rattle.std.specs.List.{flat_map}
use Rattle.fm_net.specs.Machine.{Place, State}
use Rattle.fm_rules.specs.declared.program.Program.{Program}
use Rattle.fm_rules.proofs.Lists.{head_or_behind, not_in_none}
use Rattle.fm_mean.specs.declared.outcome.FaultAt.{FaultAt}
use Rattle.fm_mean.specs.declared.outcome.Outcome.{Outcome}
use Rattle.fm_mean.specs.declared.outcome.Wait.{Wait}
use Rattle.fm_mean.specs.Process.{Ended, Proc}
use Rattle.fm_mean.specs.Telling.{TellsEach, TellsFault, TellsWait}
use Rattle.fm_report.specs.Lines.{HasFaultLine, HasLine, HasWaitLine, NamesEach, fault_of, wait_of}
use Rattle.fm_report.specs.Report.{cycle_line, ended_line, fault_line, report_text, turns_line, variable_line, wait_line}
use Rattle.fm_wait.specs.Cycles.{cycles_of}
use Rattle.fm_wait.specs.Waits.{waits_for}

in_front : (a b line : List ℕ) → HasLine a line → HasLine (a ++ b) line
in_front a b line h = (
  h.0,
  h.1 ++ b,
  ap (λ (xs : List ℕ). xs ++ b) h.2 ∙ append_assoc h.0 (line ++ h.1) b ∙ ap (λ (xs : List ℕ). h.0 ++ xs) (append_assoc line h.1 b),
)

behind : (a b line : List ℕ) → HasLine b line → HasLine (a ++ b) line
behind a b line h = (a ++ h.0, h.1, ap (λ (xs : List ℕ). a ++ xs) h.2 ∙ sym (append_assoc a h.0 (line ++ h.1)))

-- each line of several
one_of : {X : Type 0} (f : X → List ℕ) (xs : List X) (x : X) → Contains xs x → HasLine (flat_map f xs) (f x)
one_of f [] x c = absurd (not_in_none x c)
one_of {X} f (y ∷ xs) x c = go (head_or_behind y x xs c) (λ k. one_of f xs x k)
  where
    go : (y ≡ x) ⊎ Contains xs x → (Contains xs x → HasLine (flat_map f xs) (f x)) → HasLine (f y ++ flat_map f xs) (f x)
    go (inl e) rest = ([], flat_map f xs, ap (λ (z : X). f z ++ flat_map f xs) e)
    go (inr k) rest = behind (f y) (flat_map f xs) (f x) (rest k)

module _ (vars : Bool) (o : Outcome) where
  abbrev output : List ℕ
  output = flat_map (λ l. ended_line l.bytes) o.lines

  abbrev variables : List ℕ
  variables = cond vars (flat_map variable_line o.variables) []

  abbrev faults : List ℕ
  faults = flat_map fault_line o.faults

  abbrev wait_text : Wait → List ℕ
  wait_text w = wait_line w (waits_for o w)

  abbrev waits : List ℕ
  waits = flat_map wait_text o.waits

  abbrev last : List ℕ
  last = flat_map cycle_line (cycles_of o) ++ cond vars (turns_line o.used) []

  fault_there : (f : FaultAt) → Contains o.faults f → HasLine (report_text vars o) (fault_line f)
  fault_there f c =
      behind output (variables ++ (faults ++ (waits ++ last))) (fault_line f)
      (behind variables (faults ++ (waits ++ last)) (fault_line f) (in_front faults (waits ++ last) (fault_line f) (one_of fault_line o.faults f c)))

  wait_there : (w : Wait) → Contains o.waits w → HasLine (report_text vars o) (wait_text w)
  wait_there w c =
      behind output (variables ++ (faults ++ (waits ++ last))) (wait_text w)
      (behind variables (faults ++ (waits ++ last)) (wait_text w) (behind faults (waits ++ last) (wait_text w) (in_front waits last (wait_text w) (one_of wait_text o.waits w c))))

  module _ (p : Program) (s : State Proc) (q : Place) (x : Proc) where
    names_fault : TellsFault o q x → HasFaultLine (report_text vars o) q x
    names_fault t = record { line = t.line; fault = t.fault; has_faulted = t.has_faulted; written = fault_there (fault_of q t.line t.fault) t.told }

    names_wait : TellsWait p s o q x → HasWaitLine p s o (report_text vars o) q x
    names_wait t = record { waited = t.waited; waits = t.waits; written = wait_there (wait_of p q x t.waited) t.told }

    names : (x.phase ≡ Ended) ⊎ (TellsFault o q x ⊎ TellsWait p s o q x) → (x.phase ≡ Ended) ⊎ (HasFaultLine (report_text vars o) q x ⊎ HasWaitLine p s o (report_text vars o) q x)
    names (inl ended) = inl ended
    names (inr (inl t)) = inr (inl (names_fault t))
    names (inr (inr t)) = inr (inr (names_wait t))

-- what an outcome tells of each process, its report does
pub names_each : (p : Program) (s : State Proc) (o : Outcome) (vars : Bool) → TellsEach p s o → NamesEach p s o (report_text vars o)
names_each p s o vars tells q x is = names vars o p s q x (tells q x is)

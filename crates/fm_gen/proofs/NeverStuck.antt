-- No body is stuck that stands for a process: the process has something to do.
use Rattle.std.proofs.Common.{◌≡◌, ◌⊎◌, inl, inr, Option, Some, None, subst}
use Rattle.fm_rules.specs.declared.program.Program.{Program}
use Rattle.fm_mean.specs.Names.{Point, point_at}
use Rattle.fm_mean.specs.Process.{Phase, Ended, Proc}
use Rattle.fm_mean.specs.NoStep.{HasFaulted}
use Rattle.fm_mean.specs.Actions as mean_actions
use Rattle.fm_mean.specs.Actions.{Rest}
use Rattle.fm_mean.proofs.CallsOpen.{always_typed}
use Rattle.fm_mean.proofs.Rests.{does_nothing_so}
use Rattle.fm_code.specs.declared.body.Body.{Body}
use Rattle.fm_code.specs.declared.code.Code.{Code}
use Rattle.fm_code.specs.Statements as code_actions
use Rattle.fm_gen_relation.specs.Standing.{Slots}
use Rattle.fm_gen.specs.Bodies.{DoesNext, IsAlive, NeverStuck, StandsFor}
use Rattle.fm_gen.specs.Programs.{code_of}
use Rattle.fm_gen.proofs.BodyLaws.{keeps_program}

module _ (p : Program) (code : Code) (slots : Slots) (x : Proc) (b : Body) (s : StandsFor p code slots x b) where
  rests_too : (o : Option Point) → DoesNext p code slots x b s o code_actions.Stuck (mean_actions.action_of p x) → mean_actions.action_of p x ≡ Rest
  rests_too None h = h.1
  rests_too (Some e) h = h

  not_over : (x.phase ≡ Ended) ⊎ HasFaulted x → ⊥
  not_over (inl ended) = subst (λ (phase : Phase). IsAlive phase s.first.unit s.frame) ended s.alive
  not_over (inr faulted) = subst (λ (phase : Phase). IsAlive phase s.first.unit s.frame) faulted.2 s.alive

pub never_stuck : (p : Program) → NeverStuck p (code_of p)
never_stuck p cs legal q x is slots b s stuck =
    let typed = always_typed p cs legal in
    let does = subst (λ (k : code_actions.Action). DoesNext p (code_of p) slots x b s (point_at s.first.unit s.frame.entry) k (mean_actions.action_of p x)) stuck (keeps_program p typed.0 slots x (typed.1.each q x is) b s) in
    not_over p (code_of p) slots x b s (does_nothing_so p cs legal q x is (rests_too p (code_of p) slots x b s (point_at s.first.unit s.frame.entry) does))

use Rattle.fm_base.specs.Verdict.{IsVerdict, SomeSeen}
use Rattle.fm_base.proofs.judging.verdict.Given as goal

-- the best so far is the verdict on what was looked at
abbrev pub invariant-loop-rule : goal.invariant-loop-rule
invariant-loop-rule g l = IsVerdict (SomeSeen (g.J.Judge.line l.judge) l.rules (g.J.Judge.breaks l.judge) l.place l.rule-index) l.best

abbrev pub invariant-loop-place : goal.invariant-loop-place
invariant-loop-place g l = IsVerdict (SomeSeen (g.J.Judge.line l.judge) l.rules (g.J.Judge.breaks l.judge) l.place 0) l.best

use Rattle.std.proofs.Common.{IfOk, subst}
use Rattle.fm_code_kinds.specs.Effects.{Effect}
use Rattle.fm_code_kinds.specs.Leading.{end_leads, meet_leads}
use Rattle.fm_verify_unit.specs.Along.{Stepped}
use Rattle.fm_verify_unit.proofs.unit.step.Goals as goal

pub returns-in_ok-left-in-End : goal.returns-in_ok-left-in-End
returns-in_ok-left-in-End c =
    rw c.in-End.is (subst (λ (e : Effect). IfOk c.step_over.result (Stepped (end_leads c.in-End.instr) c.step_over.new.held e)) c.in_ok-left-in-End.ensures (c.step_over.ensures (end_leads c.in-End.instr)))

pub returns-in_ok-left-in-Meet : goal.returns-in_ok-left-in-Meet
returns-in_ok-left-in-Meet c =
    rw c.in-Meet.is (subst (λ (e : Effect). IfOk c.step_over-in-Meet.result (Stepped (meet_leads c.in-Meet.instr) c.step_over-in-Meet.new.held e)) c.in_ok-left-in-Meet.ensures (c.step_over-in-Meet.ensures (meet_leads c.in-Meet.instr)))

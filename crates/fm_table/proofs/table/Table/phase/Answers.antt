use Rattle.std.proofs.Common.{Bool, sym, ap, subst, ◌∙◌}
use Rattle.std.specs.Prelude.{nat_lt}
use Rattle.fm_table.specs.Inside.{outs_of, told_in}
use Rattle.fm_table.specs.Told.{IsKept, cost_of, phase_by, phase_of}
use Rattle.fm_table.proofs.Tables.{phase_final, table_kept}
use Rattle.fm_table.proofs.table.Table.phase.Goals as goal

pub returns-clause-phase : goal.returns-clause-phase
returns-clause-phase c =
    let t = c.self.inside in
    let a = told_in t.program.value t.setup t.standing (outs_of t.out.items) in
    c.phase_by.ensures ∙ ap (λ (b : Bool). phase_by b t.standing.is_ready) (c.is_over.ensures ∙ ap (nat_lt t.setup.turns) c.self.invariant.standing.paid_is)
    ∙ ap (phase_by (nat_lt t.setup.turns (cost_of a))) c.self.invariant.standing.ready_is ∙ ap phase_of c.self.view_is

pub returns-clause-ended : goal.returns-clause-ended
returns-clause-ended c = λ e.
    let t = c.self.inside in
    phase_final c.args.self.now (subst IsKept c.self.view_is (table_kept t.program.value t.setup t.standing (outs_of t.out.items) t.shares c.self.invariant)) (sym (returns-clause-phase c) ∙ e)

use Rattle.std.proofs.Common.{inr, sym, subst, ◌∙◌}
use Rattle.fm_run.specs.Orders.{Among}
use Rattle.fm_table.specs.Told.{Told, ready_of}
use Rattle.fm_table.proofs.Sharing.{nobody_for, ready_for}
use Rattle.fm_table.proofs.table.Table.take.Goals as goal

pub hand_out-requires : goal.hand_out-requires
hand_out-requires c = subst (λ (a : Told). Among c.in-Some.number (ready_of a)) (sym c.choose_for.ensures.same) (ready_for c.args.worker c.args.self.now c.in-Some.number (sym c.in_ok-choose_for.ensures.chosen ∙ c.in-Some.is))

pub returns-in-None-clause-idle : goal.returns-in-None-clause-idle
returns-in-None-clause-idle c = λ e. (inr (nobody_for c.args.worker c.args.self.now (sym c.in_ok-choose_for.ensures.chosen ∙ c.in-None.is)), c.choose_for.ensures.same)

use Rattle.std.proofs.Common.{inl, inr, refl, sym, ap, ◌∙◌, rules}
use Rattle.fm_report.specs.Report.{report_text, spent_text}
use Rattle.fmc.specs.Outcomes.{exit_of}
use Rattle.fm_table.proofs.Tables.{going_on, phase_over, phase_within}
use Rattle.fmc.proofs.replaying.end_of.Goals as goal

pub returns-in_ok-text-in-Spent : goal.returns-in_ok-text-in-Spent
returns-in_ok-text-in-Spent c =
    inl (refl, phase_over c.args.table.now c.phase.result c.phase.ensures.phase (search rules), c.in_ok-text-in-Spent.ensures ∙ ap spent_text (sym c.requires))

pub returns-in-Going : goal.returns-in-Going
returns-in-Going c =
    let a = c.args.table.now in
    inr (inl (refl, phase_within a c.phase.result c.phase.ensures.phase (inl (search rules)), going_on a c.promise.ensures c.phase.result c.phase.ensures.phase (search rules), refl))

pub returns-in_ok-text-in-Ended : goal.returns-in_ok-text-in-Ended
returns-in_ok-text-in-Ended c =
    let a = c.args.table.now in
    let shown = c.in_ok-outcome-in-Ended.ensures in
    inr (inr (
      c.exit_of.ensures ∙ ap exit_of shown,
      phase_within a c.phase.result c.phase.ensures.phase (inr (search rules)),
      c.phase.ensures.ended (search rules),
      c.in_ok-text-in-Ended.ensures ∙ ap (report_text c.args.vars) shown,
    ))

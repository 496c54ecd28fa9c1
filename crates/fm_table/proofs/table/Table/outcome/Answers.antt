use Rattle.std.proofs.Common.{◌≡◌, ap, sym, subst, ◌∙◌}
use Rattle.std.proofs.lemmas.Result.{IfOk-weaker}
use Rattle.fm_rules.specs.declared.program.Program.{Program}
use Rattle.fm_mean.specs.Outcome.{outcome_of}
use Rattle.fm_table.specs.Inside.{IsStanding, stand_kept}
use Rattle.fm_table.specs.Told.{Told, cost_by, cost_of, stand_of}
use Rattle.fm_table.proofs.table.Table.outcome.Goals as goal

pub outcome-requires : goal.outcome-requires
outcome-requires c = subst (λ (p : Program). IsStanding p c.self.inside.standing) (sym c.deref.ensures) c.self.invariant.standing

pub returns : goal.returns
returns c =
    let s = c.self.inside.standing in
    IfOk-weaker c.outcome.result _ _ (λ o is.
    subst (λ (p : Program). o ≡ outcome_of p (cost_by p s.player.net.history) (stand_kept p s).state) c.deref.ensures is ∙ ap (λ (a : Told). outcome_of a.program (cost_of a) (stand_of a).state) c.self.view_is) c.outcome.ensures

use Rattle.std.proofs.Common.{sym, ◌∙◌}
use Rattle.fmc.proofs.ReplayLaws.{lacks_by, makes_by}
use Rattle.fmc.proofs.replaying.lacks_step.Goals as goal

pub returns-clause-none : goal.returns-clause-none
returns-clause-none c = λ e. makes_by c.args.table.now c.play.new.self c.args.entry c.in_ok-missing.missing (sym c.is_some.ensures ∙ e) c.in_ok-missing.ensures.played

pub returns-clause-some : goal.returns-clause-some
returns-clause-some c = λ e. lacks_by c.args.table.now c.play.new.self c.args.entry c.in_ok-missing.missing (sym c.is_some.ensures ∙ e) c.in_ok-missing.ensures.played c.promise.ensures c.requires

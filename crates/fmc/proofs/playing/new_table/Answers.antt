use Rattle.std.proofs.Common.{subst}
use Rattle.std.proofs.lemmas.Result.{IfOk-weaker}
use Rattle.fm_rules.specs.declared.program.Program.{Program}
use Rattle.fmc.specs.Reply.{IsTableOf}
use Rattle.fmc.proofs.AnswerLaws.{first_of}
use Rattle.fmc.proofs.playing.new_table.Goals as goal

pub returns : goal.returns
returns c =
    IfOk-weaker c.new.result _ _ (λ t is. subst (λ (p : Program). IsTableOf p c.args.setup t) c.in_ok-shared.ensures (first_of c.in_ok-shared.shared.value c.args.setup t is)) c.new.ensures

use Rattle.std.proofs.lemmas.Result.{IfOk-weaker}
use Rattle.fm_procs.specs.Readings.{order_of}
use Rattle.fm_run_code.specs.Played.{played}
use Rattle.fm_run_code.proofs.net.CodeNetNet.outcome.Goals as goal

pub returns : goal.returns
returns g c =
    let net = c.args.self.now in
    let P = g.S.Coded.play c.args.program.now in
    IfOk-weaker c.outcome.result _ _ (λ o shows. shows (played P net.history (order_of net.stacks.entries)) c.requires.sound.stands) c.outcome.ensures

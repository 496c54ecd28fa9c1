use Rattle.std.proofs.Common.{◌∙◌}
use Rattle.fm_procs.specs.Readings.{order_of, state_of}
use Rattle.fm_run_code.specs.Played.{played}
use Rattle.fm_run_code.proofs.Standing.{ended_alike}
use Rattle.fm_run_code.proofs.net.CodeNetNet.has_ended.Goals as goal

pub returns : goal.returns
returns g c = λ p q sound at.
    let net = c.args.self.now in
    let P = g.S.Coded.play p in
    c.has_ended.ensures tt q at ∙ ended_alike P (g.S.Coded.Corresponds p) (g.S.Coded.IsLive p) (g.met.S.Coded.is_coded p) (played P net.history (order_of net.stacks.entries)) (state_of net.stacks) sound.stands q

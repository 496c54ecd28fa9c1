use Rattle.std.proofs.Common.{◌≡◌, Bool, subst}
use Rattle.std.specs.Prelude.{IfOk}
use Rattle.fm_procs.specs.Readings.{order_of, state_of}
use Rattle.fm_run_code.specs.Played.{played}
use Rattle.fm_run_code.proofs.Standing.{can_alike}
use Rattle.fm_run_code.proofs.net.CodeNetNet.can_step.Goals as goal

pub returns : goal.returns
returns g c =
    let net = c.args.self.now in
    let p = c.args.program.now in
    let P = g.S.Coded.play p in
    let C = g.S.Coded.Corresponds p in
    let L = g.S.Coded.IsLive p in
    let coded = g.met.S.Coded.is_coded p in
    let ps = order_of net.stacks.entries in
    subst (λ (b : Bool). IfOk c.can_step.result (λ r. r ≡ b)) (can_alike P C L coded (played P net.history ps) (state_of net.stacks) c.requires.sound.stands ps c.args.number) c.can_step.ensures

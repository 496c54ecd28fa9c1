use Rattle.std.proofs.lemmas.Result.{IfOk-weaker}
use Rattle.fm_procs.specs.Readings.{order_of, state_of}
use Rattle.fm_run_code.specs.Played.{played}
use Rattle.fm_run_code.proofs.Awaiting.{able_alone, known_there, left_back, told_back}
use Rattle.fm_run_code.proofs.Standing.{there_alike}
use Rattle.fm_run_code.proofs.net.CodeNetNet.awaits.Goals as goal

pub returns : goal.returns
returns g c =
    let net = c.args.self.now in
    let ps = order_of net.stacks.entries in
    let t = state_of net.stacks in
    record {
      children = IfOk-weaker c.awaited.result _ _ (λ r told p q x sound at is known.
          let P = g.S.Coded.play p in
          let C = g.S.Coded.Corresponds p in
          let L = g.S.Coded.IsLive p in
          let coded = g.met.S.Coded.is_coded p in
          let s = played P net.history ps in
          let y = there_alike P C L coded s t sound.stands q x is in
          told_back P C L coded s t sound.stands q x y.0 y.2 r (told tt q y.0 sound.kept.families at y.1 (known_there P C L coded s t sound.stands q x y.0 y.2 c.args.before known))) c.awaited.ensures.told;
      able = IfOk-weaker c.awaited.result _ _ (λ r left p sound can.
          let P = g.S.Coded.play p in
          let C = g.S.Coded.Corresponds p in
          let L = g.S.Coded.IsLive p in
          let coded = g.met.S.Coded.is_coded p in
          let s = played P net.history ps in
          able_alone P C L coded s t sound.stands ps c.args.number r.waits can (λ q x at is waits.
          let y = there_alike P C L coded s t sound.stands q x is in
          left_back P C L coded s t sound.stands q x y.0 y.2 (left tt q y.0 sound.kept.families at y.1 waits))) c.awaited.ensures.left;
    }

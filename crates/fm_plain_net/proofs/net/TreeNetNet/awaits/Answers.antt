use Rattle.std.proofs.lemmas.Result.{IfOk-weaker}
use Rattle.fm_run.proofs.Awaiting.{able_alone}
use Rattle.fm_plain_net.specs.Readings.{order_of, state_of}
use Rattle.fm_plain_net.proofs.net.TreeNetNet.awaits.Goals as goal

pub returns : goal.returns
returns c =
    let trees = c.args.self.now.trees in
    record {
      children = IfOk-weaker c.awaited.result _ _ (λ r told p q x sound at is known. told p q x sound.families at is known) c.awaited.ensures.told;
      able = IfOk-weaker c.awaited.result _ _ (λ r left p sound can.
          able_alone p (state_of p trees) (order_of trees.entries) c.args.number r.waits can (λ q x at is waits. left p q x sound.families at is waits)) c.awaited.ensures.left;
    }

use Rattle.std.proofs.Common.{◌<◌, length, Ok, ap, subst, arith}
use Rattle.fm_nodes.specs.Nodes.{Setting}
use Rattle.fm_nodes.specs.Played.{Played}
use Rattle.fm_nodes.proofs.Keeping.{pays_when, within_tried}
use Rattle.fm_nodes.proofs.playing.Playing.step.Goals as goal

pub returns-then-used-self-clause-few : goal.returns-then-used-self-clause-few
returns-then-used-self-clause-few c =
    subst (λ (a : Played). length a.hosted.run.order < 4294967296) c.self.view_is (omega (arith, c.count.ensures.count, c.count.ensures.few))

pub invariant_of-self-2 : goal.invariant_of-self-2
invariant_of-self-2 c =
    within_tried c.self.inside.nodes c.act.new.self (ap (λ (s : Setting). s.program) c.in_ok-done.ensures.same) c.is_played.ensures c.args.path (Ok c.in_ok-done.done) c.in_ok-done.ensures.done
    c.self.inside.turns c.self.invariant (omega (arith, c.if-used-self.false, c.used.ensures))

pub returns-clause-pays : goal.returns-clause-pays
returns-clause-pays c = λ does.
    subst (λ (a : Played). a.hosted.run.used < c.act.new.self.run.used) c.self.view_is
    (pays_when c.self.inside.nodes c.act.new.self (ap (λ (s : Setting). s.program) c.in_ok-done.ensures.same) c.is_played.ensures c.args.path c.in_ok-done.done c.in_ok-done.ensures.done does)

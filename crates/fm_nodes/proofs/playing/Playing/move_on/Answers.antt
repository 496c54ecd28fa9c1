use Rattle.std.proofs.Common.{ap}
use Rattle.fm_nodes.specs.Nodes.{Setting}
use Rattle.fm_nodes.proofs.Keeping.{within_moved}
use Rattle.fm_nodes.proofs.playing.Playing.move_on.Goals as goal

pub invariant_of-self : goal.invariant_of-self
invariant_of-self c =
    within_moved c.self.inside.nodes c.act-done.new.self c.self.inside.turns (ap (λ (s : Setting). s.program) c.act-done.ensures.same) c.args.event c.requires c.act-done.result
    c.act-done.ensures.done c.self.invariant

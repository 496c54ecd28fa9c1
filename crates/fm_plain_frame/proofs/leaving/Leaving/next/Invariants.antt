use Rattle.std.proofs.Common.{◌≡◌, []}
use Rattle.fm_mean.specs.Places.{live}
use Rattle.fm_plain_frame.specs.Leaving.{left_ports, later_count}
use Rattle.fm_plain_frame.proofs.leaving.Leaving.next.Given as goal

-- none is left of those that were put out of their places
abbrev pub invariant-memories : goal.invariant-memories
invariant-memories l = (left_ports l.program l.fn.self ≡ left_ports l.program l.self) × (live l.self.replaced.items ≡ [])

abbrev pub decreases-memories : goal.decreases-memories
decreases-memories l = later_count l.self

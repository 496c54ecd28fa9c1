use Rattle.std.proofs.Common.{◌≡◌, drop}
use Rattle.fm_mean.specs.Names.{constant_in}
use Rattle.fm_plain_frame.proofs.lookup.constant_in.Given as goal

abbrev pub invariant-constants : goal.invariant-constants
invariant-constants l = constant_in l.name (drop l.index l.constants) ≡ constant_in l.name l.constants

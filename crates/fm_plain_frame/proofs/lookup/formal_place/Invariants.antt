use Rattle.std.proofs.Common.{◌≡◌, drop}
use Rattle.fm_mean.specs.Names.{formal_from}
use Rattle.fm_plain_frame.proofs.lookup.formal_place.Given as goal

abbrev pub invariant-variables : goal.invariant-variables
invariant-variables l = formal_from l.place l.number (drop l.place l.variables) ≡ formal_from 0 l.number l.variables

use Rattle.std.proofs.Common.{◌≡◌, ◌++◌, drop}
use Rattle.fm_mean.specs.Steps.{limits_of}
use Rattle.fm_plain_replies.proofs.channels.limits_of.Given as goal

abbrev pub invariant-places : goal.invariant-places
invariant-places l = l.limits.items ++ limits_of (drop l.place-index l.places) ≡ limits_of l.places

use Rattle.std.proofs.Common.{◌≡◌, take}
use Rattle.fmc.specs.Listing.{listed_text}
use Rattle.fmc.proofs.listing.list_text.Given as goal

abbrev pub invariant-loop-placed : goal.invariant-loop-placed
invariant-loop-placed l = l.out.items ≡ listed_text (take l.placed-index l.statements)

use Rattle.std.proofs.Common.{◌≡◌, ◌++◌, map}
use Rattle.fm_names_used.specs.Seen.{occurrence_of}
use Rattle.fm_names_used.proofs.occurrences.in_order.Given as goal

-- what was listed, and what the rest gives, is what the whole gives
abbrev pub invariant-names : goal.invariant-names
invariant-names l = l.first ++ map occurrence_of l.name-iterator ≡ map occurrence_of l.fn.seen

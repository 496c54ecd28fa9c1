use Rattle.std.proofs.Common.{◌≡◌, ◌+◌, drop}
use Rattle.fm_token.specs.Steps.{dot_end}
use Rattle.fm_token.proofs.scan.dot_end.Given as goal

-- what is left decides as the whole does
abbrev pub invariant-bytes : goal.invariant-bytes
invariant-bytes l = (dot_end l.n (drop l.byte-index l.behind) ≡ dot_end l.initial.n l.behind) × (l.n ≡ l.byte-index + 1)

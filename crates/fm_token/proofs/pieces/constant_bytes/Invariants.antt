use Rattle.std.proofs.Common.{◌≡◌, drop}
use Rattle.fm_token.specs.Steps.{constant_bytes, behind_items}
use Rattle.fm_token.proofs.pieces.constant_bytes.Given as goal

-- what is left gives the rest of the bytes
abbrev pub invariant-bytes : goal.invariant-bytes
invariant-bytes l = behind_items l.bytes (constant_bytes l.waiting (drop l.byte-index l.behind)) ≡ constant_bytes l.initial.waiting l.behind

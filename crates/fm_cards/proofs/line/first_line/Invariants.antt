use Rattle.std.proofs.Common.{◌≡◌, ℕ, ◌<◌, get_or}
use Rattle.fm_cards.proofs.line.first_line.Given as goal

-- no line feed so far
abbrev pub invariant-bytes : goal.invariant-bytes
invariant-bytes l = (k : ℕ) → k < l.i → get_or l.source k 0 ≡ 10 → ⊥

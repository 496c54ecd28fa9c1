use Rattle.std.proofs.Common.{◌≡◌, map, take}
use Rattle.std.specs.Prelude.{string_bytes}
use Rattle.fmc.proofs.call.views.Given as goal

-- the words so far
abbrev pub invariant-words : goal.invariant-words
invariant-words l = map (λ w. w.now) l.views.items ≡ map string_bytes (take l.word-index l.words)

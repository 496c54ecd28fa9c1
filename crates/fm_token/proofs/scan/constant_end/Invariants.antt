use Rattle.std.proofs.Common.{◌≡◌, ◌+◌, ◌<◌, ◌≤◌, drop, IfSome}
use Rattle.fm_token.specs.Steps.{constant_end}
use Rattle.fm_token.proofs.scan.constant_end.Given as goal

-- what is left decides as the whole does
abbrev pub invariant-bytes : goal.invariant-bytes
invariant-bytes l = record {
  same : constant_end l.waiting l.n l.end (drop l.byte-index l.behind) ≡ constant_end l.initial.waiting l.initial.n l.initial.end l.behind;
  place : l.n ≡ l.byte-index + 1;
  within : IfSome l.end (λ n. (0 < n) × (n ≤ l.n));
}

use Rattle.std.proofs.Common.{◌≤◌, ◌<◌, ℕ}
use Rattle.std.specs.Prelude.{Contains}
use Rattle.fm_run.proofs.becoming.push_new.Given as goal

abbrev pub invariant-new : goal.invariant-new
invariant-new l = record {
  kept : (n : ℕ) → Contains l.fn.numbers.items n → Contains l.numbers.items n;
  new : (n : ℕ) → l.from ≤ n → n < l.number → Contains l.numbers.items n;
}

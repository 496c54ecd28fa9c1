use Rattle.std.proofs.Common.{◌≡◌, ◌≤◌, drop}
use Rattle.fm_token.specs.TopLevel.{close_of}
use Rattle.fm_token.specs.Steps.{close_behind}
use Rattle.fm_token.proofs.top_level.close_of.Given as goal

-- what is left decides as the whole does
abbrev pub invariant-bytes : goal.invariant-bytes
invariant-bytes l = record {
  same : close_behind l.i l.before (drop l.i l.text) ≡ close_of l.text;
  opening : l.before.opening ≤ l.i;
  closing : l.before.closing ≤ l.i;
}

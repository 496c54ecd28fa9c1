use Rattle.std.proofs.Common.{◌≡◌, ◌≤◌, drop}
use Rattle.fm_token.specs.TopLevel.{has_top}
use Rattle.fm_token.specs.Steps.{has_top_behind}
use Rattle.fm_token.proofs.top_level.has_top.Given as goal

-- what is left decides as the whole does
abbrev pub invariant-bytes : goal.invariant-bytes
invariant-bytes l = record {
  same : has_top_behind l.sign l.before (drop l.byte-index l.text) ≡ has_top l.sign l.text;
  opening : l.before.opening ≤ l.byte-index;
  closing : l.before.closing ≤ l.byte-index;
}

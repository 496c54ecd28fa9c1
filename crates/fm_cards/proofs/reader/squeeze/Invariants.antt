use Rattle.std.proofs.Common.{◌≡◌, ◌++◌, drop}
use Rattle.fm_cards.specs.Scan.{squeezed_if, inside_after}
use Rattle.fm_cards.proofs.reader.squeeze.Given as goal

-- what is left gives what the whole gives
abbrev pub invariant-bytes : goal.invariant-bytes
invariant-bytes l = record {
  text : l.text ++ squeezed_if l.inside (drop l.byte-index l.columns) ≡ l.initial.text ++ squeezed_if l.initial.inside l.columns;
  inside : inside_after l.inside (drop l.byte-index l.columns) ≡ inside_after l.initial.inside l.columns;
}

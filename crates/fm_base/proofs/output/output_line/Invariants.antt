use Rattle.std.proofs.Common.{◌≡◌, take}
use Rattle.std.specs.List.{flat_map}
use Rattle.fm_base.specs.Output.{spaced_text}
use Rattle.fm_base.proofs.output.output_line.Given as goal

abbrev pub invariant-loop-item : goal.invariant-loop-item
invariant-loop-item l = l.out.items ≡ flat_map spaced_text (take l.item-index l.items)

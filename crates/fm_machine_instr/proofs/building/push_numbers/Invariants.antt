use Rattle.std.proofs.Common.{◌≡◌, ◌++◌, map, take}
use Rattle.fm_code.specs.Acts.{number_item}
use Rattle.fm_machine_instr.proofs.building.push_numbers.Given as goal

abbrev pub invariant-words : goal.invariant-words
invariant-words l = l.line ≡ l.fn.line ++ map number_item (take l.word-index l.words)

use Rattle.std.proofs.Common.{◌≡◌, ◌++◌, drop}
use Rattle.fm_proc_language.specs.Frames.{port_words}
use Rattle.fm_proc_slots.proofs.placing.port_words.Given as goal

abbrev pub invariant-operands : goal.invariant-operands
invariant-operands l = l.numbers.items ++ port_words (drop l.operand-index l.operands) ≡ port_words l.operands

use Rattle.std.proofs.Common.{rules}
use Rattle.fm_machine.proofs.Slices.{moves_so}
use Rattle.fm_machine.proofs.advancing.advance.Goals as goal

pub new-requires-2-clause-moves : goal.new-requires-2-clause-moves
new-requires-2-clause-moves c = λ none free. moves_so c.in_ok-made.made.steps c.args.slice c.args.start.value c.in_ok-end.end.value c.in_ok-made.made.lines c.in_ok-made.made.cost (search rules) (search rules) c.requires.some none free

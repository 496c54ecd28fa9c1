use Rattle.std.proofs.Common.{◌+◌, [], ◌∷◌, sym, arith}
use Rattle.fm_plain_passing.proofs.ExchangeLaws.{written_past}
use Rattle.fm_plain_passing.proofs.giving.put_behind.Goals.{else-span-words-via-then-span-words+else-behind-words, else-span-words-via-else-span-words}
use Rattle.fm_plain_passing.proofs.giving.put_behind.Goals as goal

pub returns-else-span-words : goal.returns-else-span-words
returns-else-span-words c =
    elim c.else-span-words.branch [
      | else-span-words-via-then-span-words+else-behind-words w ↦ sym (written_past c.args.variables.now c.args.memory.now c.args.span.variable (c.args.span.first + c.args.behind) (c.args.number ∷ []) (omega arith))
      | else-span-words-via-else-span-words w ↦ sym (written_past c.args.variables.now c.args.memory.now c.args.span.variable (c.args.span.first + c.args.behind) (c.args.number ∷ []) (omega arith))
    ]

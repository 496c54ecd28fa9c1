use Rattle.std.proofs.Common.{◌+◌, sym, arith}
use Rattle.fm_plain_passing.proofs.ExchangeLaws.{exchange_past, exchange_out_past}
use Rattle.fm_plain_passing.proofs.moving.exchange_behind.Goals.{else-first-words-via-then-first-words+else-behind-words, else-first-words-via-else-first-words}
use Rattle.fm_plain_passing.proofs.moving.exchange_behind.Goals as goal

pub returns-else-first-words-clause-memory : goal.returns-else-first-words-clause-memory
returns-else-first-words-clause-memory c =
    elim c.else-first-words.branch [
      | else-first-words-via-then-first-words+else-behind-words w ↦ sym (exchange_past c.args.variables.now c.args.memory.now c.args.variable (c.args.first + c.args.behind) c.args.port (omega arith))
      | else-first-words-via-else-first-words w ↦ sym (exchange_past c.args.variables.now c.args.memory.now c.args.variable (c.args.first + c.args.behind) c.args.port (omega arith))
    ]

pub returns-else-first-words-clause-port : goal.returns-else-first-words-clause-port
returns-else-first-words-clause-port c =
    elim c.else-first-words.branch [
      | else-first-words-via-then-first-words+else-behind-words w ↦ sym (exchange_out_past c.args.variables.now c.args.memory.now c.args.variable (c.args.first + c.args.behind) c.args.port (omega arith))
      | else-first-words-via-else-first-words w ↦ sym (exchange_out_past c.args.variables.now c.args.memory.now c.args.variable (c.args.first + c.args.behind) c.args.port (omega arith))
    ]

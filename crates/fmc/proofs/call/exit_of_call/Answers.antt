use Rattle.std.proofs.Common.{ap, map, string_bytes, ◌∙◌}
use Rattle.fm_words.specs.Words.{command_of}
use Rattle.fmc.specs.Answer.{are_reading}
use Rattle.fmc.proofs.call.exit_of_call.Goals as goal

pub returns-in-Ok-clause-unread : goal.returns-in-Ok-clause-unread
returns-in-Ok-clause-unread g c =
    rw c.in-Ok.is (λ unread. c.answered.ensures.unread (ap (λ ws. are_reading (command_of (map string_bytes ws))) c.deref.ensures.value ∙ unread))

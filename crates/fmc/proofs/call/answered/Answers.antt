use Rattle.std.proofs.Common.{Bor, inr, ℕ, List, map, ap, ◌∙◌}
use Rattle.fm_words.specs.Words.{command_of}
use Rattle.fmc.specs.Answer.{are_reading}
use Rattle.fmc.specs.Reply.{places_in}
use Rattle.fmc.proofs.WordLaws.{call_answered}
use Rattle.fmc.proofs.call.answered.Goals as goal

pub returns-in-Ok-clause-answers : goal.returns-in-Ok-clause-answers
returns-in-Ok-clause-answers g c =
    let same = ap (map (λ (w : Bor (List ℕ)). w.now)) c.deref.ensures.value ∙ c.in-Ok.ensures in
    call_answered _ _ (ap command_of same) _ c.fmc.result.history.items (places_in c.fmc.result) _ _ _ _ _ _ c.fmc.ensures.answers

pub returns-in-Ok-clause-unread : goal.returns-in-Ok-clause-unread
returns-in-Ok-clause-unread g c = λ unread.
    let same = ap (map (λ (w : Bor (List ℕ)). w.now)) c.deref.ensures.value ∙ c.in-Ok.ensures in
    c.fmc.ensures.unread (ap (λ (ws : List (List ℕ)). are_reading (command_of ws)) same ∙ unread)

pub returns-in-Err-clause-answers : goal.returns-in-Err-clause-answers
returns-in-Err-clause-answers g c = inr c.without_memory.ensures.answers

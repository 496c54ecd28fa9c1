-- What is answered for words, by the words as they were given.
use Rattle.std.proofs.Common.{◌≡◌, inl, ℕ, List, Option, subst}
use Rattle.fm_base.specs.declared.schedule.Turn.{Turn}
use Rattle.fm_net.specs.Machine.{Place}
use Rattle.fm_words.specs.Words.{command_of}
use Rattle.fm_words.specs.declared.command.Command.{Command}
use Rattle.fmc.specs.declared.answer.Exit.{Exit}
use Rattle.fmc.specs.Answer.{Answers, ForBytes, are_reading}
use Rattle.fmc.specs.Calling.{AnswersCall}
use Rattle.fmc.proofs.SourceLaws.{for_each}

pub call_answered : (o : Option Command) (words : List (List ℕ)) → o ≡ command_of words → (exit : Exit) (history : List Turn) (places : List Place) (before after : ℕ) (source left old new : Option (List ℕ))
    → ForBytes (are_reading o) source (λ b. Answers o b exit history places before after left old new) → AnswersCall words exit before after source left old new
call_answered o words same exit history places before after source left old new answers =
    inl (record {
      answers =
          for_each (are_reading (command_of words)) source (λ b. Answers (command_of words) b exit history places before after left old new)
          (λ b. (h : List Turn) × (ps : List Place) × Answers (command_of words) b exit h ps before after left old new) (λ b k. (history, places, k))
          (subst (λ (x : Option Command). ForBytes (are_reading x) source (λ b. Answers x b exit history places before after left old new)) same answers);
    })

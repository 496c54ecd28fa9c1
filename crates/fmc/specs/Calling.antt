-- What a program answers that was started with words.
-- Source: this profile.
use Rattle.std.specs.Prelude.{◌≡◌, ◌≢◌, ◌⊎◌, ℕ, List, Option, codes}
use Rattle.std.specs.Io.KnownBytes.{Appends}
use Rattle.fm_base.specs.declared.schedule.Turn.{Turn}
use Rattle.fm_io.specs.Streams.{WritesFront}
use Rattle.fm_net.specs.Machine.{Place}
use Rattle.fm_words.specs.Words.{command_of}
use Rattle.fmc.specs.declared.answer.Exit.{Exit}
use Rattle.fmc.specs.declared.answer.Exit.TheVariants.{NoMemory, WriteFault}
use Rattle.fmc.specs.Answer.{Answers, ForBytes, are_reading}

-- it is what a call answers for these words and for the bytes, under some schedule
pub record AnswersWords (words : List (List ℕ)) (exit : Exit) (before after : ℕ) (source left old new : Option (List ℕ)) : Type 0 where
  pub answers : ForBytes (are_reading (command_of words)) source (λ b. (history : List Turn) × (places : List Place)
      × Answers (command_of words) b exit history places before after left old new)

-- memory was wanting for the words: this was written, or a front of it
pub record LacksMemory (exit : Exit) (old new : Option (List ℕ)) : Type 0 where
  pub whole_text : exit ≢ WriteFault → (exit ≡ NoMemory) × Appends old new (codes "no memory\n")
  pub cut_short : exit ≡ WriteFault → WritesFront old new (codes "no memory\n")

-- one or the other. Of the source: its counts of faults before and after, what it had left and has left; and what was written before and after
abbrev pub AnswersCall : (words : List (List ℕ)) → Exit → (before after : ℕ) → (source left old new : Option (List ℕ)) → Type 0
AnswersCall words exit before after source left old new = AnswersWords words exit before after source left old new ⊎ LacksMemory exit old new

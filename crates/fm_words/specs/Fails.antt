-- Why words give no command.
-- Source: this profile.
use Rattle.std.specs.Prelude.{◌≡◌, ℕ, Bool, true, false, is_none, List}
use Rattle.fm_words.specs.declared.command.WordsFail.{WordsFail}
use Rattle.fm_words.specs.declared.command.WordsFail.TheVariants.{Usage, NoMemory}
use Rattle.fm_words.specs.Words.{command_of}

abbrev pub is_usage : WordsFail → Bool
is_usage Usage = true
is_usage NoMemory = false

-- the words are no command exactly where this is the cause
abbrev pub IsCause : List (List ℕ) → WordsFail → Type 0
IsCause words fail = is_usage fail ≡ is_none (command_of words)

-- Words and slots, as functions hold them.
-- Source: this profile.
use Rattle.std.specs.Prelude.{ℤ, List}
use Rattle.fm_proc_language.specs.Slots.{Slots}
use Rattle.fm_proc_language.specs.Frames.{Held}

abbrev pub held : List ℤ → Slots → Held
held words slots = record { words = words; slots = slots }

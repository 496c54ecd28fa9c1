-- What the items of a message are built from.
-- Source: this profile.
use Rattle.fm_code.specs.declared.ask.Operand.{Operand}
use Rattle.fm_proc_slots.specs.declared.blanks.Blank.{Blank}

abbrev pub operand_in : Blank → Operand
operand_in b = b.operand

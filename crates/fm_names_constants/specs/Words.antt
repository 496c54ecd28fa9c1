-- The words of one field of a message.
-- Source: the Fortran M report (types of ports); this profile.
use Rattle.std.specs.Prelude.{ℕ}
use Rattle.fm_tree.specs.PortReading.{kind_of}
use Rattle.fm_tree.specs.declared.port_type.Field.{Field}
use Rattle.fm_symbols.specs.ByName.{ByName}
use Rattle.fm_rules.specs.declared.constants.Known.{Known}
use Rattle.fm_rules.specs.PortTypes.{field_words}
use Rattle.fm_rules.specs.SizedFields.{Sizes, sized_by}

-- of a field in memory, behind these
abbrev pub words_of : ByName Known → (place : ℕ) → Sizes → Field → ℕ
words_of known place earlier f = field_words known place (sized_by earlier (kind_of f.kind) f.bounds) f.bounds

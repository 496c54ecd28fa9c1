-- The bytes of an output line.
-- Source: ANSI X3.9-1978, section 13.6.2 (list-directed output), in one fixed form of this profile.
use Rattle.std.specs.Prelude.{ℕ, Bool, true, false, List, [], ◌∷◌}
use Rattle.std.specs.List.{flat_map}
use Rattle.std.specs.Fmt.{signed_decimal}
use Rattle.fm_base.specs.declared.output.Printed.{Printed}
use Rattle.fm_base.specs.declared.output.Printed.TheVariants.{Number, Truth, Text}

-- T or F
abbrev pub truth_text : Bool → List ℕ
truth_text true = 84 ∷ []
truth_text false = 70 ∷ []

abbrev pub printed_text : Printed → List ℕ
printed_text (Number n) = signed_decimal n
printed_text (Truth b) = truth_text b
printed_text (Text bytes) = bytes

-- a blank, and the item
abbrev pub spaced_text : Printed → List ℕ
spaced_text item = 32 ∷ printed_text item

-- a blank before each item, and one blank where there is none
abbrev pub line_text : List Printed → List ℕ
line_text [] = 32 ∷ []
line_text (item ∷ items) = flat_map spaced_text (item ∷ items)

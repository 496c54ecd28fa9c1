-- The items of a message as they are cut, one behind the other.
-- Source: this profile.
use Rattle.std.specs.Prelude.{ℕ, ℤ, pos, negsuc, nat_le, cond, Option, None, List, ◌++◌, Result, Ok, Err}
use Rattle.fm_base.specs.declared.fault.Fault.{Fault}
use Rattle.fm_base.specs.declared.fault.Fault.TheVariants.{Subscript}
use Rattle.fm_tree.specs.PortFields.{PortFields, NoFields, FieldThen}
use Rattle.fm_rules.specs.PortTypes.{sizing_place}
use Rattle.fm_mean.specs.Operands.{◌>>=◌}
use Rattle.fm_mean.specs.declared.place.Actual.{Actual}

-- how many elements are sent where the size is this number, of so many
abbrev pub elements_sent : ℤ → (count : ℕ) → Result ℕ Fault
elements_sent (pos n) count = cond (nat_le n count) (Ok n) (Err Subscript)
elements_sent (negsuc n) count = Err Subscript

-- the place of the field that sizes the first of these fields
abbrev pub first_size : PortFields → Option ℕ
first_size NoFields = None
first_size (FieldThen kind name bounds rest) = sizing_place bounds

abbrev pub later_fields : PortFields → PortFields
later_fields NoFields = NoFields
later_fields (FieldThen kind name bounds rest) = rest

-- behind items that were cut before
abbrev pub behind_cut : List Actual → Result (List Actual) Fault → Result (List Actual) Fault
behind_cut done m = m >>= λ more. Ok (done ++ more)

-- Where an array stands that a name with a list behind it means.
-- Source: this profile.
use Rattle.std.specs.Prelude.{◌≡◌, Some, slice_get}
use Rattle.fm_mean.specs.Names.{ProgramUnit}
use Rattle.fm_plain_frame.specs.declared.reference.Reference.{Reference}
use Rattle.fm_plain_frame.specs.declared.reference.Reference.TheVariants as reference

-- an array stands at its place among the variables of the unit
abbrev pub IsPlaced : ProgramUnit → Reference → Type 0
IsPlaced u (reference.Element place v) = slice_get u.names.variables place ≡ Some v.now
IsPlaced u (reference.Call number c) = Unit {0}
IsPlaced u (reference.Built f) = Unit {0}
IsPlaced u reference.Unknown = Unit {0}

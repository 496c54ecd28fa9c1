-- What a name with a list behind it means, as the meaning's reference.
-- Source: this profile.
use Rattle.fm_mean.specs.Evaluate as mean
use Rattle.fm_plain_frame.specs.Units.{unit_of}
use Rattle.fm_plain_frame.specs.declared.reference.Reference.{Reference}
use Rattle.fm_plain_frame.specs.declared.reference.Reference.TheVariants as reference

abbrev pub reference_by : Reference → mean.Reference
reference_by (reference.Element place v) = mean.Element place v.now
reference_by (reference.Call number u) = mean.Call number (unit_of u)
reference_by (reference.Built f) = mean.Built f
reference_by reference.Unknown = mean.Unknown

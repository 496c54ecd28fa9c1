-- A small image that makes sense: a PROGRAM that stores 7 in its one variable, prints it, and stops.
-- Source: this profile.
use Rattle.std.specs.Prelude.{[], ◌∷◌, codes}
use Rattle.fm_code.specs.declared.body.Body.{Body}
use Rattle.fm_code_kinds.specs.Sample.{begins, sample_code, sample_frame}
use Rattle.fm_object.specs.declared.image.Cell.{Cell}
use Rattle.fm_object.specs.declared.image.Image.{Image}
use Rattle.fm_object.specs.declared.image.UnitImage.{UnitImage}
use Rattle.fm_image_typed.specs.Codes.{code_of}

abbrev pub sample_cell : Cell
sample_cell = record { name = codes "I"; kind = 0; of = 0; first = 0; words = 1; formal = 0; back = 0 }

abbrev pub sample_unit : UnitImage
sample_unit = record { heading = 0; extents = []; cells = sample_cell ∷ []; entries = begins 2 0 ∷ begins 3 2 ∷ begins 4 5 ∷ []; code = sample_code }

abbrev pub sample_image : Image
sample_image = record { types = []; units = sample_unit ∷ [] }

-- at its first statement
abbrev pub sample_body : Body
sample_body = record { code = code_of sample_image; machine = record { first = 0; count = 1 }; node = 0; frame = sample_frame; below = [] }

use Rattle.fm_image_typed.proofs.Codes.{typed_code}
use Rattle.fm_image_typed.proofs.typed_code.Goals as goal

pub returns : goal.returns
returns c = λ i t. typed_code i t

use Rattle.fm_compile_law.proofs.Images.{image_kinded}
use Rattle.fm_compile_law.proofs.image_has_its_kinds.Goals as goal

pub returns : goal.returns
returns c = image_kinded

use Rattle.fm_image_typed.proofs.Codes.{never_stuck}
use Rattle.fm_image_typed.proofs.none_is_stuck.Goals as goal

pub returns : goal.returns
returns c = λ i b t r. never_stuck i b t r

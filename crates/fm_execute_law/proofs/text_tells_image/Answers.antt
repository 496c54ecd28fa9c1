use Rattle.fm_execute_law.proofs.SameTexts.{same_object}
use Rattle.fm_execute_law.proofs.text_tells_image.Goals as goal

pub returns : goal.returns
returns c = same_object

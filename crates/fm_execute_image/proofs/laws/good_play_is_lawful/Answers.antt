use Rattle.fm_execute_image.proofs.Played.{lawful_play}
use Rattle.fm_execute_image.proofs.laws.good_play_is_lawful.Goals as goal

pub returns : goal.returns
returns c = lawful_play

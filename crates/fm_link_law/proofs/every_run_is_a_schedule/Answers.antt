use Rattle.fm_link_law.proofs.Owning.{keeps_to_words}
use Rattle.fm_link_law.proofs.Playing.{plays_along}
use Rattle.fm_link_law.proofs.every_run_is_a_schedule.Goals as goal

pub returns : goal.returns
returns g c = λ language start laws owned wordy h sound reached events. let plays = plays_along language start (keeps_to_words language laws start owned wordy) events h sound reached in (plays.leads, plays.sound)

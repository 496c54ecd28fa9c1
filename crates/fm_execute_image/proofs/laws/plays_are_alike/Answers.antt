use Rattle.fm_execute_image.proofs.Played.{fair_of_image, follows_of_image, live_alike, plays_alike, run_of_image}
use Rattle.fm_execute_image.proofs.laws.plays_are_alike.Goals as goal

pub returns-clause-alike : goal.returns-clause-alike
returns-clause-alike c = plays_alike

pub returns-clause-live : goal.returns-clause-live
returns-clause-live c = live_alike

pub returns-clause-runs : goal.returns-clause-runs
returns-clause-runs c = run_of_image

pub returns-clause-follows : goal.returns-clause-follows
returns-clause-follows c = follows_of_image

pub returns-clause-fair : goal.returns-clause-fair
returns-clause-fair c = fair_of_image

use Rattle.fm_wait.proofs.Listed.{exact, ordered}
use Rattle.fm_wait.proofs.cycles_are_listed_once.Goals as goal

pub returns : goal.returns
returns c = record { exact = exact; ordered = ordered }

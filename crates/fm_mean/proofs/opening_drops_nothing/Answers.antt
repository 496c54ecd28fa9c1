use Rattle.fm_mean.proofs.Laws.{opening_along}
use Rattle.fm_mean.proofs.CallsOpen.{call_opens, process_call_opens, reference_opens}
use Rattle.fm_mean.proofs.opening_drops_nothing.Goals as goal

pub returns : goal.returns
returns c = record { alike = opening_along; calls = call_opens; process_calls = process_call_opens; references = reference_opens }

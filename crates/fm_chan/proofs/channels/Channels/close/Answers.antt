use Rattle.fm_chan.proofs.Waking.{at_end_wakes}
use Rattle.fm_chan.proofs.channels.Channels.close.Goals as goal

pub returns-clause-waking : goal.returns-clause-waking
returns-clause-waking c = at_end_wakes _ _ c.shut.ensures.waking

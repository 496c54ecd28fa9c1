use Rattle.fm_net.proofs.Exceeding.{ready, nothing_comes, unchanged, after_send}
use Rattle.fm_net.proofs.exceeding_message_stays.Goals as goal

pub returns : goal.returns
returns c = record {
  ready = ready;
  nothing_comes = nothing_comes;
  unchanged = unchanged;
  after_send = after_send;
}

use Rattle.std.proofs.Common.{refl}
use Rattle.fm_link_law.proofs.Travelling.{sent_still, answered_still, delivered_still, lost_still, restarted_still}
use Rattle.fm_link_law.proofs.the_network_is_still.Goals as goal

pub returns : goal.returns
returns g c = record {
  sent = λ h sound c k later e. let s = sent_still h sound c k later e in (s.same, s.sound);
  answered = λ h sound c later e. let s = answered_still h sound c later e in (s.same, s.sound);
  delivered = λ h sound i later e. let s = delivered_still h sound i later e in (s.same, s.sound);
  lost = λ h sound i later e. let s = lost_still h sound i later e in (s.same, s.sound);
  restarted = λ h sound stays. let s = restarted_still h sound stays in (refl, s.same, s.sound);
}

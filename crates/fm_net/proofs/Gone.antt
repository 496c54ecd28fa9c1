-- No step leaves a message at a channel whose inport is gone.
use Rattle.std.proofs.Common.{◌≡◌, Some, List, [], ◌∷◌, ◌++◌, Bool, true, false, cond, refl, sym, ap, ◌∙◌, subst}
use Rattle.std.specs.FinMap.{get, get-insert}
use Rattle.std.specs.Ordering.{eq_by_cmp}
use Rattle.fm_base.specs.declared.path.ChanName.{ChanName}
use Rattle.fm_base.specs.declared.port.PortValue.{PortValue}
use Rattle.fm_base.specs.declared.port.PortValue.TheVariants.{Writer, Reader}
use Rattle.fm_base.specs.PathOrder.{channel_cmp}
use Rattle.fm_base.specs.Channels.{Message, Chan, Chans, ChannelOp, Limits, Push, Pop, Look, changed, fresh, channel_of, discarded, behind_first}
use Rattle.fm_finmap.specs.Changes.{adjust}
use Rattle.fm_net.specs.Machine.{Place, Need, Nothing, Event, New, Children, chans_after}
use Rattle.fm_net.specs.Language.{Language}
use Rattle.fm_net.specs.Owned.{name_of, GoneIsEmpty}
use Rattle.fm_net.proofs.Keys.{channel_order}
use Rattle.fm_net.proofs.Parts.{Midway, Part, Run, Discard, Move, end}
use Rattle.fm_net.proofs.Facts.{At-adjust, the_value}

-- the fact of one channel
abbrev IsEmptyIfGone : Chan → Type 0
IsEmptyIfGone ch = ch.lives ≡ false → ch.queue ≡ []

adjusted : (m : Chans) (k : ChanName) (f : Chan → Chan) → GoneIsEmpty m → ((ch : Chan) → IsEmptyIfGone ch → IsEmptyIfGone (f ch)) → GoneIsEmpty (adjust m k f)
adjusted m k f all keep c = At-adjust channel_order IsEmptyIfGone m k f c (all c) keep

popped : (l : Limits) (ms : List Message) → ms ≡ [] → behind_first l ms ≡ []
popped l [] e = refl
popped l (m ∷ ms) e = absurd (cc)

after_event : (a : ChannelOp) (ch : Chan) → IsEmptyIfGone ch → IsEmptyIfGone (changed a ch)
after_event (Push w m) ch h gone = ap (λ b. cond b (ch.queue ++ m ∷ []) ch.queue) gone ∙ h gone
after_event (Pop l) ch h gone = popped l ch.queue (h gone)
after_event Look ch h gone = h gone

after_discard : (x : PortValue) (ch : Chan) → IsEmptyIfGone ch → IsEmptyIfGone (discarded x ch)
after_discard (Writer c w) ch h gone = h gone
after_discard (Reader c) ch h gone = refl

after_need : (p : Place) (need : Need) (m : Chans) → GoneIsEmpty m → GoneIsEmpty (chans_after p need m)
after_need p Nothing m all = all
after_need p (Event c a) m all = adjusted m c (changed a) all (after_event a)
after_need p (Children b n) m all = all
after_need p (New n w) m all = λ c ch is. go c ch (eq_by_cmp channel_cmp c (name_of p n)) (sym (get-insert channel_order.total m (name_of p n) (fresh w) c) ∙ is)
  where
    go : (c : ChanName) (ch : Chan) (b : Bool) → cond b (Some (fresh w)) (get m c) ≡ Some ch → IsEmptyIfGone ch
    go c ch true e = subst IsEmptyIfGone (the_value (fresh w) ch e) (λ gone. refl)
    go c ch false e = all c ch e

pub keeps_empty : {Proc : Type 0} (language : Language Proc) (mid : Midway Proc) → GoneIsEmpty mid.chans → (a : Part) (m : Move language mid a) → GoneIsEmpty (end language mid a m).0.chans
keeps_empty language mid all (Discard x) l = adjusted mid.chans (channel_of x) (discarded x) all (after_discard x)
keeps_empty language mid all (Run p) (h, t) = after_need p t.need mid.chans all

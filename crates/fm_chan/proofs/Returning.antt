-- A message that was received goes back to where it was.
use Rattle.std.proofs.Common.{◌≡◌, ℕ, Bool, true, false, not, cond, List, [], ◌∷◌, Option, Some, None, refl, sym, ap, ◌∙◌}
use Rattle.std.specs.Prelude.{is_some}
use Rattle.std.specs.Option.{option_map}
use Rattle.std.specs.FinMap as map
use Rattle.fm_base.specs.declared.path.ChanName.{ChanName}
use Rattle.fm_base.specs.declared.port.PortValue.{PortValue}
use Rattle.fm_base.specs.Channels.{Message, Chan, Limits, Pop, behind_first, can_pop, changed, channel_of, first_exceeds, first_message, fits_limits}
use Rattle.fm_finmap.specs.Changes.{adjust}
use Rattle.fm_finmap.proofs.Keys.{channel_order}
use Rattle.fm_finmap.proofs.Adjusts.{adjust-insert, adjust_again}
use Rattle.fm_finmap.proofs.Inserts.{insert_same}
use Rattle.fm_chan.specs.declared.body.Body.{Body}
use Rattle.fm_chan.specs.declared.body.Inport.{Inport}
use Rattle.fm_chan.specs.declared.channels.Channels.{Channels}
use Rattle.fm_chan.specs.declared.message.Got.TheVariants as got
use Rattle.fm_chan.specs.Bodies.{chans_of}
use Rattle.fm_chan.specs.Events.{after_op, chan_at, put_first}
use Rattle.fm_chan.specs.Kept.{chan_of, waiting}
use Rattle.fm_chan.specs.Received.{got_at, got_of}
use Rattle.fm_chan.proofs.Maps.{by_name, get-chans_in}

-- the message that came was the first one
first_again : (limits : Limits) (q : List Message) (ws : List ℕ) (m : Message) → got.Message m ≡ cond (can_pop q ws) (cond (first_exceeds limits q) got.Exceeds (got_of (first_message limits q))) got.Wait → m ∷ behind_first limits q ≡ q
first_again limits [] [] m e = absurd (cc e)
first_again limits [] (w ∷ ws) m e = absurd (cc e)
first_again limits (n ∷ ms) ws m e = go (fits_limits limits n) e
  where
    go : (b : Bool) → got.Message m ≡ cond (not b) got.Exceeds (got_of (cond b (Some n) None)) → m ∷ cond b ms (n ∷ ms) ≡ n ∷ ms
    go true e =
        let same : m ≡ n = cc e in
        ap (λ v. v ∷ ms) same
    go false e = absurd (cc e)

-- where a message waits, the inport lives
inport_lives : (i : Option Inport) (m : Message) (ms : List Message) → m ∷ ms ≡ waiting i → is_some i ≡ true
inport_lives None m ms e = absurd (cc e)
inport_lives (Some i) m ms e = refl

body_lives : (o : Option Body) (ch : Chan) (m : Message) (ms : List Message) → option_map chan_of o ≡ Some ch → m ∷ ms ≡ ch.queue → ch.lives ≡ true
body_lives None ch m ms is e = absurd (cc is)
body_lives (Some b) ch m ms is e =
    let same : chan_of b ≡ ch = cc is in
    sym (ap (λ (x : Chan). x.lives) same) ∙ inport_lives b.inport m ms (e ∙ sym (ap (λ (x : Chan). x.queue) same))

chan_lives : (s : Channels) (c : ChanName) (ch : Chan) (m : Message) (ms : List Message) → map.get (chans_of s) c ≡ Some ch → m ∷ ms ≡ ch.queue → ch.lives ≡ true
unfolding chans_of
chan_lives s c ch m ms is e = body_lives (map.get (by_name s.bodies) c) ch m ms (sym (get-chans_in s.bodies c) ∙ is) e

put_again : (limits : Limits) (ch : Chan) (m : Message) → ch.lives ≡ true → m ∷ behind_first limits ch.queue ≡ ch.queue → put_first m (changed (Pop limits) ch) ≡ ch
put_again limits ch m lives same = ap (λ b. record ch { queue = cond b (m ∷ behind_first limits ch.queue) (behind_first limits ch.queue) }) lives ∙ ap (λ q. record ch { queue = q }) same

pub taken_back : (s : Channels) (x : PortValue) (limits : Limits) (m : Message) → got.Message m ≡ got_at limits (chan_at x (chans_of s)) → adjust (after_op x (Pop limits) (chans_of s)) (channel_of x) (put_first m) ≡ chans_of s
taken_back s x limits m came = go (chan_at x (chans_of s)) refl came
  where
    go : (o : Option Chan) → chan_at x (chans_of s) ≡ o → got.Message m ≡ got_at limits o → adjust (after_op x (Pop limits) (chans_of s)) (channel_of x) (put_first m) ≡ chans_of s
    go None is e = absurd (cc e)
    go (Some ch) is e =
        let cs = chans_of s in
        let c = channel_of x in
        let first = first_again limits ch.queue ch.writers m e in
        let same = put_again limits ch m (chan_lives s c ch m (behind_first limits ch.queue) is first) first in
        adjust_again channel_order cs c (put_first m) (changed (Pop limits)) ∙ adjust-insert channel_order cs c (λ v. put_first m (changed (Pop limits) v)) ch is ∙ ap (map.insert cs c) same ∙ insert_same channel_order cs c ch is

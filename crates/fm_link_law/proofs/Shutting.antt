-- Ports that are let go, at the channels as links.
use Rattle.std.proofs.Common.{◌≡◌, Bool, true, false, cond, List, [], ◌∷◌, ◌++◌, Option, Some, None, option_map, refl, sym, ap, subst, ◌∙◌}
use Rattle.std.specs.FinMap as map
use Rattle.fm_base.specs.declared.port.PortValue.{PortValue}
use Rattle.fm_base.specs.declared.port.PortValue.TheVariants.{Writer, Reader}
use Rattle.fm_base.specs.Channels.{channel_of, queue_ports, discarded, freed, shut, shut_at, all_shed}
use Rattle.fm_finmap.specs.Changes.{adjust}
use Rattle.fm_finmap.proofs.Keys.{channel_order}
use Rattle.fm_finmap.proofs.Adjusts.{adjust-insert, adjust_absent}
use Rattle.fm_finmap.proofs.Maps.{get-map_values, map_values-insert}
use Rattle.fm_discards.proofs.Shedding.{all_shed-nil, all_shed-cons}
use Rattle.fm_link_law.specs.Loads.{messages_in}
use Rattle.fm_link_law.specs.Channels.{LinkedChan, LinkedChans, loads_left, chan_of, chans_of, closed, gone, shut_port, shut_ports}
use Rattle.fm_link_law.specs.Hosts.{Carried, AreTrue, AreLinked}
use Rattle.fm_link_law.specs.Steps.{IsOpenPort, AreOpen}
use Rattle.fm_link_law.proofs.Carrying.{no_ports, close_chan, closed_is_linked, gone_is_linked, closed_keeps, gone_keeps}
use Rattle.fm_link_law.proofs.Adjusting.{AreLinked-adjust, AreTrue-adjust}

-- ---- one port

no_queued : (l : LinkedChan) → queue_ports (chan_of l).queue ≡ []
no_queued l = go l.lives
  where
    go : (b : Bool) → queue_ports (cond b (messages_in (loads_left l)) []) ≡ []
    go true = no_ports (loads_left l)
    go false = refl

nothing_freed : (z : PortValue) (o : Option LinkedChan) → freed z (option_map chan_of o) ≡ []
nothing_freed z None = refl
nothing_freed (Writer c w) (Some l) = refl
nothing_freed (Reader c) (Some l) = no_queued l

module _ (ls : LinkedChans) where
  shut_one : (z : PortValue) (g : LinkedChan → LinkedChan) → ((l : LinkedChan) → map.get ls (channel_of z) ≡ Some l → chan_of (g l) ≡ discarded z (chan_of l))
      → shut z (chans_of ls) ≡ chans_of (adjust ls (channel_of z) g)
  shut_one z g same = ap (shut_at z (chans_of ls)) (get-map_values chan_of ls (channel_of z)) ∙ go (map.get ls (channel_of z)) refl
    where
      go : (o : Option LinkedChan) → map.get ls (channel_of z) ≡ o → shut_at z (chans_of ls) (option_map chan_of o) ≡ chans_of (adjust ls (channel_of z) g)
      go None is = ap chans_of (sym (adjust_absent channel_order ls (channel_of z) g is))
      go (Some l) is =
          ap (map.insert (chans_of ls) (channel_of z)) (sym (same l is)) ∙ sym (map_values-insert chan_of channel_order ls (channel_of z) (g l))
          ∙ ap chans_of (sym (adjust-insert channel_order ls (channel_of z) g l is))

  pub shut_same : (z : PortValue) → AreLinked ls → IsOpenPort ls z → shut z (chans_of ls) ≡ chans_of (shut_port z ls)
  shut_same (Writer c w) all here = shut_one (Writer c w) closed (λ l is. subst (λ n. chan_of (closed l) ≡ discarded (Writer c n) (chan_of l)) (sym here.0) (close_chan l (all c l is) c))
  shut_same (Reader c) all here = shut_one (Reader c) gone (λ l is. refl)

  pub shut_linked : (z : PortValue) → AreLinked ls → IsOpenPort ls z → AreLinked (shut_port z ls)
  shut_linked (Writer c w) all here = AreLinked-adjust ls c closed all (λ l is good. closed_is_linked l good (here.1 l is))
  shut_linked (Reader c) all here = AreLinked-adjust ls c gone all (λ l is good. gone_is_linked l good)

  pub shut_true : (z : PortValue) (es : List Carried) → AreTrue ls es → AreTrue (shut_port z ls) es
  shut_true (Writer c w) es = AreTrue-adjust ls c closed (λ l t is. closed_keeps l t) es
  shut_true (Reader c) es = AreTrue-adjust ls c gone (λ l t is. gone_keeps l t) es

-- ---- all of them

pub sheds : (zs : List PortValue) (ls : LinkedChans) → AreLinked ls → AreOpen ls zs → all_shed zs (chans_of ls) ≡ chans_of (shut_ports zs ls)
sheds [] ls all here = all_shed-nil (chans_of ls)
sheds (z ∷ zs) ls all here =
    all_shed-cons z zs (chans_of ls)
    ∙ ap (λ ps. all_shed (ps ++ zs) (shut z (chans_of ls))) (ap (freed z) (get-map_values chan_of ls (channel_of z)) ∙ nothing_freed z (map.get ls (channel_of z)))
    ∙ ap (all_shed zs) (shut_same ls z all here.0)
    ∙ sheds zs (shut_port z ls) (shut_linked ls z all here.0) here.1

pub all_join : (zs : List PortValue) (ls : LinkedChans) → AreLinked ls → AreOpen ls zs → AreLinked (shut_ports zs ls)
all_join [] ls all here = all
all_join (z ∷ zs) ls all here = all_join zs (shut_port z ls) (shut_linked ls z all here.0) here.1

pub all_true : (zs : List PortValue) (ls : LinkedChans) (es : List Carried) → AreTrue ls es → AreTrue (shut_ports zs ls) es
all_true [] ls es all = all
all_true (z ∷ zs) ls es all = all_true zs (shut_port z ls) es (shut_true ls z es all)

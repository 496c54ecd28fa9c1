-- The step of a process leaves the link of each channel as it leaves the channel.
use Rattle.std.proofs.Common.{◌≡◌, ◌++◌, Option, Some, None, option_map, refl, sym, subst}
use Rattle.std.specs.FinMap as finite
use Rattle.fm_base.specs.declared.path.ChanName.{ChanName}
use Rattle.fm_net.specs.Machine.{Place, Need, Reply, Onward, Ask, Stop, Go, made}
use Rattle.fm_net.specs.Language.{Language}
use Rattle.fm_link.specs.Link.{Link, after_all}
use Rattle.fm_link_law.specs.Channels.{shut_ports}
use Rattle.fm_link_law.specs.Hosts.{Hosts}
use Rattle.fm_link_law.specs.Steps.{served_here, linked_after, going_on, act_here, act_at, hosts_step, IsPlainNeed, IsPlainAsk, IsPlainAt}
use Rattle.fm_link_law.specs.Play.{stepped_to}
use Rattle.fm_link_channels.specs.Events.{need_events, all_shut_events, going_events, reply_events, ask_events, place_events, step_events}
use Rattle.fm_link_channels.specs.Links.{IsLinkAt}
use Rattle.fm_link_channels.proofs.Sent.{among_after}
use Rattle.fm_link_channels.proofs.Ends.{AreEndsOf, after-append, need_ends, all_shut_ends}

module _ {Proc : Type 0} (language : Language Proc) (h : Hosts Proc) (p : Place) (c : ChanName) (l : Link) (at : IsLinkAt c h l) where
  going_link : (need : Need) (o : Onward Proc) → IsPlainNeed h.channels p need → IsLinkAt c (going_on language h p need o).0 (after_all l (going_events language h p c need o))
  going_link need o plain =
      let later = linked_after p need h.channels in
      let needed = need_events c p need h.channels in
      let shut = all_shut_events c o.drops later in
      let ends : AreEndsOf (finite.get (shut_ports o.drops later) c) (after_all l (needed ++ shut)) =
      subst (AreEndsOf (finite.get (shut_ports o.drops later) c)) (sym (after-append l needed shut))
      (all_shut_ends c o.drops later (after_all l needed) (need_ends c h.channels l p need plain (record { outgoing = at.outgoing; incoming = at.incoming }))) in
      record { outgoing = ends.outgoing; incoming = ends.incoming; wire = among_after c (needed ++ shut) l h.wire at.wire }

  reply_link : (need : Need) (f : ChanName → Reply Proc → Onward Proc) → IsPlainNeed h.channels p need → (o : Option (Reply Proc))
      → IsLinkAt c (stepped_to h p (option_map (λ r. going_on language h p need (f (made p need) r)) o)).hosts (after_all l (reply_events language h p c need f o))
  reply_link need f plain None = at
  reply_link need f plain (Some r) = going_link need (f (made p need) r) plain

  ask_link : (q : Ask Proc) → IsPlainAsk language h p q → IsLinkAt c (stepped_to h p (act_here language h p q)).hosts (after_all l (ask_events language h p c q))
  ask_link Stop plain = at
  ask_link (Go need f) plain = reply_link need f plain.0 (served_here language.has_ended h.procs h.channels p need)

  pub step_link : IsPlainAt language h p → IsLinkAt c (stepped_to h p (hosts_step language h p)).hosts (after_all l (step_events language h p c))
  step_link plain = go (finite.get h.procs p) refl
    where
      go : (o : Option Proc) → finite.get h.procs p ≡ o → IsLinkAt c (stepped_to h p (act_at language h p o)).hosts (after_all l (place_events language h p c o))
      go None is = at
      go (Some x) is = ask_link (language.ask x) (plain x is)

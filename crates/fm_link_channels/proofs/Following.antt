-- A link follows each channel of hosts through whatever happens.
use Rattle.std.proofs.Common.{◌≡◌, ℕ, List, [], ◌∷◌, ◌++◌, refl, sym, ap, subst, ◌∙◌, append_assoc}
use Rattle.std.specs.FinMap.{get, empty, get-empty}
use Rattle.fm_base.specs.PathOrder.{channel_cmp}
use Rattle.fm_base.specs.declared.path.ChanName.{ChanName}
use Rattle.fm_sched.specs.Schedule.{IsReached, IsLegal, Leads, play}
use Rattle.fm_sched.proofs.Runs.{IsLegal-append, play-append}
use Rattle.fm_net.specs.Machine.{Place, State}
use Rattle.fm_net.specs.Language.{Language, language_step}
use Rattle.fm_net.specs.Lawful.{IsLawfulLanguage}
use Rattle.fm_net.specs.Owned.{IsOwned}
use Rattle.fm_link.specs.Link as link
use Rattle.fm_link.specs.Link.{Link, LinkEvent, fresh_link, after_all, link_after, IsPrefixOf}
use Rattle.fm_link.proofs.Orders.{arrived_first, taken_first}
use Rattle.fm_link_law.specs.Channels.{LinkedChan, LinkedChans}
use Rattle.fm_link_law.specs.Hosts.{Hosts, state_of, IsSound}
use Rattle.fm_link_law.specs.Steps.{IsPlainAt}
use Rattle.fm_link_law.specs.Play.{HostEvent, Step, Send, Answer, Deliver, Lose, Restart, happens, hosts_after, KeepsToWords, AsksForWords}
use Rattle.fm_link_law.proofs.Owning.{keeps_to_words}
use Rattle.fm_link_law.proofs.Playing.{plays_along}
use Rattle.fm_link_channels.specs.Events.{where_same, step_events, answer_events, AreOf, AreAllOf}
use Rattle.fm_link_channels.specs.Links.{outgoing_at, incoming_at, AreAmong, IsLinkAt, GoesByLink}
use Rattle.fm_link_channels.proofs.Ends.{after-append}
use Rattle.fm_link_channels.proofs.Steps.{step_link}
use Rattle.fm_link_channels.proofs.Network.{sent_link, answered_link, brings, lost_link, restarted_link}

-- ---- one event

module _ {Proc : Type 0} (language : Language Proc) (c : ChanName) where
  record OneMore (h : Hosts Proc) (l : Link) (e : HostEvent) : Type 0 where
    events : List LinkEvent
    are : AreOf language c h l e events
    link_is : IsLinkAt c (happens language h e).hosts (after_all l events)

  one_more : (h : Hosts Proc) (l : Link) → IsLinkAt c h l → ((p : Place) → IsPlainAt language h p) → (e : HostEvent) → OneMore h l e
  one_more h l at plain (Step p) = record { events = step_events language h p c; are = refl; link_is = step_link language h p c l at (plain p) }
  one_more h l at plain (Send d k) = record { events = where_same c d (link.SendPacket k ∷ []); are = refl; link_is = sent_link h c l at d k }
  one_more h l at plain (Answer d) = record { events = where_same c d (answer_events (get h.channels c)); are = refl; link_is = answered_link h c l at d }
  one_more h l at plain (Deliver i) = let b = brings h c l at i in record { events = b.events; are = b.are; link_is = b.link_is }
  one_more h l at plain (Lose i) = record { events = []; are = refl; link_is = lost_link h c l at i }
  one_more h l at plain (Restart stays) = record { events = []; are = refl; link_is = restarted_link h c l at stays }

  -- ---- one after the other

  record Follows (h : Hosts Proc) (l : Link) (es : List HostEvent) : Type 0 where
    events : List LinkEvent
    are_all : AreAllOf language c h l es events
    link_is : IsLinkAt c (hosts_after language h es) (after_all l events)

  module _ (start : State Proc) (keeps : KeepsToWords language start) where
    reached_on : (s t : State Proc) (cs : List Place) (paid : ℕ) → IsReached (language_step language) start s → Leads (language_step language) s cs t paid → IsReached (language_step language) start t
    reached_on s t cs paid reached leads =
        let step = language_step language in (
          reached.0 ++ cs,
          IsLegal-append step start reached.0 cs reached.1 (subst (λ x. IsLegal step x cs) (sym reached.2) leads.legal),
          play-append step start reached.0 cs ∙ ap (λ x. play step x cs) reached.2 ∙ leads.there,
        )

    follows : (es : List HostEvent) (h : Hosts Proc) (l : Link) → IsSound h → IsReached (language_step language) start (state_of h) → IsLinkAt c h l → Follows h l es
    follows [] h l sound reached at = record { events = []; are_all = refl; link_is = at }
    follows (e ∷ es) h l sound reached at =
        let one = one_more h l at (keeps h sound reached) e in
        let plays = plays_along language start keeps (e ∷ []) h sound reached in
        let rest = follows es (happens language h e).hosts (after_all l one.events) plays.sound (reached_on _ _ _ _ reached plays.leads) one.link_is in
        record {
          events = one.events ++ rest.events;
          are_all = (one.events, rest.events, one.are, rest.are_all, refl);
          link_is = subst (IsLinkAt c (hosts_after language (happens language h e).hosts es)) (sym (after-append l one.events rest.events)) rest.link_is;
        }

-- ---- from the beginning

link_first : {Proc : Type 0} (c : ChanName) (h : Hosts Proc) → h.channels ≡ empty → h.wire ≡ [] → IsLinkAt c h fresh_link
link_first c h none still =
    let absent = ap (λ (ls : LinkedChans). get ls c) none ∙ get-empty {X = LinkedChan} channel_cmp c in
    record {
      outgoing = sym (ap outgoing_at absent);
      incoming = sym (ap incoming_at absent);
      wire = subst (AreAmong c [] []) (sym still) tt;
    }

front_taken : (es : List LinkEvent) → IsPrefixOf (link_after es).taken (link_after es).pushed
front_taken es =
    let taken = taken_first es in
    let arrived = arrived_first es in
    (taken.0 ++ arrived.0, sym (append_assoc (link_after es).taken taken.0 arrived.0) ∙ ap (λ xs. xs ++ arrived.0) taken.1 ∙ arrived.1)

pub goes_by_link : {Proc : Type 0} (language : Language Proc) (start : State Proc) → IsLawfulLanguage language → IsOwned language start → AsksForWords language start
    → (h : Hosts Proc) → IsSound h → IsReached (language_step language) start (state_of h) → h.channels ≡ empty → h.wire ≡ []
    → (es : List HostEvent) (c : ChanName) → GoesByLink language h es c
goes_by_link language start laws owned words h sound reached none still es c =
    let all = follows language c start (keeps_to_words language laws start owned words) es h fresh_link sound reached (link_first c h none still) in
    record { events = all.events; are_all = all.are_all; ends = all.link_is; in_order = front_taken all.events }

-- What a process does with its event is what it asked for.
use Rattle.std.proofs.Common.{◌≡◌, inl, inr, ◌+◌, ℕ, Bool, true, false, cond, Option, Some, None, List, [], ◌∷◌, ◌++◌, length, map, refl, sym, ap, subst, ◌∙◌, append-nil, arith}
use Rattle.std.proofs.lemmas.List.{length-map}
use Rattle.std.specs.Prelude.{is_some}
use Rattle.std.specs.FinMap.{get, insert}
use Rattle.fm_base.specs.declared.fault.Fault.{Fault}
use Rattle.fm_base.specs.declared.fault.Fault.TheVariants.{Subscript}
use Rattle.fm_base.specs.declared.path.ChanName.{ChanName}
use Rattle.fm_base.specs.declared.port.PortValue.{PortValue}
use Rattle.fm_base.specs.declared.port.PortValue.TheVariants.{Writer, Reader}
use Rattle.fm_base.specs.Channels.{Message, Chan, Chans, Limits, Push, Pop, Look, fresh, changed, exceeds, gives, tells, is_ready, spills_at, message_ports, all_shed}
use Rattle.fm_finmap.specs.Changes.{adjust}
use Rattle.fm_finmap.proofs.Adjusts.{adjust-insert}
use Rattle.fm_finmap.proofs.Inserts.{insert_same}
use Rattle.fm_chan.specs.Events.{after_send as sent_by}
use Rattle.fm_chan.specs.Received.{got_at, waits_at}
use Rattle.fm_chan.specs.declared.message.Got.{Got}
use Rattle.fm_chan.specs.declared.message.Got.TheVariants as got
use Rattle.fm_net.specs.Machine.{Place, Nothing, New, Onward, reply_with, reply_at, served_at}
use Rattle.fm_net.specs.Machine as net
use Rattle.fm_net.specs.Lawful as law
use Rattle.fm_net.specs.Lawful.{ports_from}
use Rattle.fm_net.specs.Owned.{name_of}
use Rattle.fm_net.proofs.Counts.{count-nil}
use Rattle.fm_net.proofs.Keys.{channel_order}
use Rattle.fm_discards.proofs.Shedding.{all_shed-nil}
use Rattle.fm_rules.specs.declared.program.Program.{Program}
use Rattle.fm_mean.specs.declared.place.Actual.{Actual}
use Rattle.fm_mean.specs.declared.place.Span.{Span}
use Rattle.fm_mean.specs.Places.{message_from}
use Rattle.fm_mean.specs.Calls.{child_of}
use Rattle.fm_mean.specs.Process.{Frame, Proc}
use Rattle.fm_mean.specs.Actions.{Event, Fail, Make, Send, Receive, Probe, Begin, End, Meets, action_of, message_words}
use Rattle.fm_mean.specs.Outcome.{need_of, need_in}
use Rattle.fm_mean.specs.Steps.{ask, ask_for, ask_event, ask_at, faulted, made, left_with, limits_of, came, at_the_end, met, probed, began, ended}
use Rattle.fm_plain_frame.specs.Frames.{proc_of}
use Rattle.fm_plain_frame.specs.declared.process.PlainProc.{PlainProc}
use Rattle.fm_plain_replies.specs.Goes.{in_frames, after_make, after_send, after_message, after_end_of_channel, after_probe, after_begin, message_sent, message_in as in_message}
use Rattle.fm_plain_net.specs.declared.ports.Ports.{Ports}
use Rattle.fm_plain_net.specs.Goes.{CanPerform, Performs, is_served}
use Rattle.fm_plain_net.specs.Held.{AreKept, AreOnce, Carries, IsKept, MayDrop, MayGoOn, StayBut, Stay}
use Rattle.fm_run.proofs.Able.{pops_served}
use Rattle.fm_plain_net.proofs.Getting.{IsGot, got_message, got_tells, message_in}

push_chan : (w : ℕ) (message : Message) (o : Option Chan) → is_some (served_at {Proc = Proc} (Push w message) o) ≡ true → (ch : Chan) × (o ≡ Some ch)
push_chan w message None e = absurd (cc e)
push_chan w message (Some ch) e = (ch, refl)

look_chan : (o : Option Chan) → is_some (served_at {Proc = Proc} Look o) ≡ true → (ch : Chan) × (o ≡ Some ch)
look_chan None e = absurd (cc e)
look_chan (Some ch) e = (ch, refl)

pop_chan : (limits : Limits) (o : Option Chan) → is_some (served_at {Proc = Proc} (Pop limits) o) ≡ true → (ch : Chan) × (o ≡ Some ch) × (is_ready (Pop limits) ch ≡ true)
pop_chan limits None e = absurd (cc e)
pop_chan limits (Some ch) e = (ch, refl, sym (pops_served Proc limits (Some ch)) ∙ e)

no_spills : (limits : Limits) (o : Option Chan) → spills_at (Pop limits) o ≡ []
no_spills limits None = refl
no_spills limits (Some ch) = refl

no_looks : (o : Option Chan) → spills_at Look o ≡ []
no_looks None = refl
no_looks (Some ch) = refl

-- which writer sends changes nothing
pub any_writer : (c : ChanName) (v w : ℕ) (message : Message) (m : Chans) → sent_by (Writer c v) message m ≡ sent_by (Writer c w) message m
any_writer c v w message m = ap (λ zs. all_shed zs (adjust m c (changed (Push w message)))) (go (get m c))
  where
    go : (o : Option Chan) → spills_at (Push v message) o ≡ spills_at (Push w message) o
    go None = refl
    go (Some ch) = refl

-- where nothing comes and nothing changes
pub keeps_all : (left : List PortValue) (ports : Ports) → Carries [] left ports ports
keeps_all left ports z off (inl k) = k
keeps_all left ports z off (inr c) = absurd (omega (arith, count-nil z))

-- where nothing comes
pub drops_these : (left : List PortValue) (ports later : Ports) → StayBut left ports later → Carries [] left ports later
drops_these left ports later stay z off (inl k) = stay z off k
drops_these left ports later stay z off (inr c) = absurd (omega (arith, count-nil z))

-- what came is kept, and then some are let go
pub comes_and_goes : (came left : List PortValue) (ports mid later : Ports) → AreKept mid came → Stay ports mid → StayBut left mid later → Carries came left ports later
comes_and_goes came left ports mid later kept stay but z off (inl k) = but z off (stay z k)
comes_and_goes came left ports mid later kept stay but z off (inr c) = but z off (kept z c)

-- what may be let go is kept once what came is
pub dropped_kept : (came drops : List PortValue) (ports mid : Ports) → MayDrop ports came drops → AreKept mid came → Stay ports mid → AreKept mid drops
dropped_kept came drops ports mid may kept stay z h = elim (may.kept z h) [
  | inl k ↦ stay z k
  | inr c ↦ kept z c
]

pub dropped_there : (drops : List PortValue) (ports : Ports) → MayDrop ports [] drops → AreKept ports drops
dropped_there drops ports may z h = elim (may.kept z h) [
  | inl k ↦ k
  | inr c ↦ absurd (omega (arith, count-nil z))
]

-- a process and its innermost frame
pub record InFrame (x : Proc) : Type 0 where
  pub top : Frame
  pub below : List Frame
  pub is : x.execution.frames ≡ top ∷ below

module _ (program : Program) (p : Place) (x : Proc) (m : Chans) (kids : List Proc) (ports : Ports) where
  module _ (e : Event) (does : action_of program x ≡ Meets e) (served : is_served m (need_of program x) ≡ true) where
    pub in_some : InFrame x
    in_some = go x.execution.frames refl
      where
        go : (fs : List Frame) → x.execution.frames ≡ fs → InFrame x
        go [] is = absurd (cc (sym (ap (λ a. is_served m (need_in (ask_for program x a))) does ∙ ap (λ fs. is_served m (need_in (ask_event program x e fs))) is) ∙ served))
        go (f ∷ below) is = record { top = f; below = below; is = is }

    pub asks_at : (i : InFrame x) → ask program x ≡ ask_at program x i.below i.top e
    asks_at i = ap (ask_for program x) does ∙ ap (ask_event program x e) i.is

    pub served_at_frame : (i : InFrame x) → is_served m (need_in (ask_at program x i.below i.top e)) ≡ true
    served_at_frame i = sym (ap (λ a. is_served m (need_in a)) (asks_at i)) ∙ served

  module _ (later : Ports) where
    pub fails : (line : ℕ) (why : Fault) → action_of program x ≡ Meets (Fail line why) → CanPerform program p x m [] ports → (y : Proc) → y ≡ (faulted x line why).self → Performs program p x m kids ports y [] m ports 1
    fails line why does can y is =
        let i = in_some (Fail line why) does can.ready in
        record {
          need = Nothing;
          going = λ c r. faulted x line why;
          reply = reply_with [];
          asks = asks_at (Fail line why) does can.ready i;
          replies = refl;
          block_is = refl;
          goes = record { self_is = is; starts_are = refl; chans_are = sym (all_shed-nil m); cost_is = refl };
          carries = keeps_all [] ports;
        }

    pub makes : (places : List Span) (n cost next : ℕ) → action_of program x ≡ Meets (Make places n cost next) → CanPerform program p x m [] ports
        → (y : Proc) → y ≡ (after_make x next places n cost (name_of p x.next_channel)).self
        → (cs : Chans) → cs ≡ all_shed (after_make x next places n cost (name_of p x.next_channel)).drops (insert m (name_of p x.next_channel) (fresh n))
        → Carries (ports_from (name_of p x.next_channel) n) (after_make x next places n cost (name_of p x.next_channel)).drops ports later
        → Performs program p x m kids ports y [] cs later cost
    makes places n cost next does can y is cs chans carries =
        let e = Make places n cost next in
        let i = in_some e does can.ready in
        let c = name_of p x.next_channel in
        let same : after_make x next places n cost c ≡ made x i.below i.top next places n cost c = ap (in_frames x (λ below f. made x below f next places n cost c)) i.is in
        record {
          need = New x.next_channel n;
          going = λ c r. made x i.below i.top next places n cost c;
          reply = reply_with [];
          asks = asks_at e does can.ready i;
          replies = refl;
          block_is = refl;
          goes = record {
            self_is = is ∙ ap (λ o. o.self) same;
            starts_are = refl;
            cost_is = refl;
            chans_are = chans ∙ ap (λ o. all_shed o.drops (insert m c (fresh n))) same ∙ ap (λ zs. all_shed zs (insert m c (fresh n))) (sym (append-nil (made x i.below i.top next places n cost c).drops));
          };
          carries = subst (λ zs. Carries (ports_from c n) zs ports later) (ap (λ o. o.drops) same ∙ sym (append-nil (made x i.below i.top next places n cost c).drops)) carries;
        }

    pub make_drops : (places : List Span) (n cost next : ℕ) → action_of program x ≡ Meets (Make places n cost next) → CanPerform program p x m [] ports
        → MayDrop ports (ports_from (name_of p x.next_channel) n) (after_make x next places n cost (name_of p x.next_channel)).drops
    make_drops places n cost next does can =
        let e = Make places n cost next in
        let i = in_some e does can.ready in
        let c = name_of p x.next_channel in
        let same : after_make x next places n cost c ≡ made x i.below i.top next places n cost c = ap (in_frames x (λ below f. made x below f next places n cost c)) i.is in
        let may = can.may (New x.next_channel n) (λ c r. made x i.below i.top next places n cost c) (reply_with []) (asks_at e does can.ready i) refl in
        subst (λ (o : Onward Proc). MayDrop ports (ports_from c n) o.drops) (sym same) may.drops

    module _ (c : ChanName) (w : ℕ) (items : List Actual) (next : ℕ) (does : action_of program x ≡ Meets (Send c w items next)) (can : CanPerform program p x m [] ports) where
      pub send_frame : InFrame x
      send_frame = in_some (Send c w items next) does can.ready

      sent_is : message_sent x items ≡ (message_from send_frame.top.values items).1
      sent_is = ap (λ fs. in_message fs items) send_frame.is

      pub send_there : (ch : Chan) × (get m c ≡ Some ch)
      send_there = push_chan w (message_from send_frame.top.values items).1 (get m c) (served_at_frame (Send c w items next) does can.ready send_frame)

      pub sends : (y : Proc) → y ≡ (after_send x next items).self → (cs : Chans) → cs ≡ sent_by (Writer c w) (message_sent x items) m → (cost : ℕ) → cost ≡ (after_send x next items).cost
          → StayBut (message_ports (message_sent x items)) ports later → Performs program p x m kids ports y [] cs later cost
      sends y is cs chans cost paid stay =
          let i = send_frame in
          let message = (message_from i.top.values items).1 in
          let same : after_send x next items ≡ left_with x i.below i.top next (message_from i.top.values items) = ap (in_frames x (λ below f. left_with x below f next (message_from f.values items))) i.is in
          record {
            need = net.Event c (Push w message);
            going = λ d r. left_with x i.below i.top next (message_from i.top.values items);
            reply = reply_at (Push w message) send_there.0;
            asks = asks_at (Send c w items next) does can.ready i;
            replies = ap (served_at (Push w message)) send_there.1;
            block_is = refl;
            goes = record {
              self_is = is ∙ ap (λ o. o.self) same;
              starts_are = refl;
              cost_is = paid ∙ ap (λ o. o.cost) same;
              chans_are = chans ∙ ap (λ v. sent_by (Writer c w) v m) sent_is;
            };
            carries = drops_these (message_ports message) ports later (subst (λ v. StayBut (message_ports v) ports later) sent_is stay);
          }

      pub send_cost : (after_send x next items).cost ≡ 1 + message_words (message_sent x items)
      send_cost =
          ap (λ o. o.cost) (ap (in_frames x (λ below f. left_with x below f next (message_from f.values items))) send_frame.is) ∙ ap (λ v. 1 + message_words v) (sym sent_is)

      pub send_may : MayGoOn ports p (net.Event c (Push w (message_from send_frame.top.values items).1)) (reply_at (Push w (message_from send_frame.top.values items).1) send_there.0) (left_with x send_frame.below send_frame.top next (message_from send_frame.top.values items))
      send_may = can.may (net.Event c (Push w (message_from send_frame.top.values items).1)) (λ d r. left_with x send_frame.below send_frame.top next (message_from send_frame.top.values items)) (reply_at (Push w (message_from send_frame.top.values items).1) send_there.0)
          (asks_at (Send c w items next) does can.ready send_frame) (ap (served_at (Push w (message_from send_frame.top.values items).1)) send_there.1)

      pub send_uses : IsKept ports (Writer c w)
      send_uses = send_may.uses c (Push w (message_from send_frame.top.values items).1) refl

      pub send_kept : AreKept ports (message_ports (message_sent x items))
      send_kept = subst (λ v. AreKept ports (message_ports v)) (sym sent_is) send_may.given

      pub send_once : AreOnce (message_ports (message_sent x items))
      send_once = subst (λ v. AreOnce (message_ports v)) (sym sent_is) send_may.given_once

    module _ (c : ChanName) (line : ℕ) (items : List Span) (iostat : Option Span) (to : Option ℕ) (next : ℕ) (does : action_of program x ≡ Meets (Receive c line items iostat to next)) (can : CanPerform program p x m [] ports) where
      receive_frame : InFrame x
      receive_frame = in_some (Receive c line items iostat to next) does can.ready

      abbrev limits : Limits
      limits = limits_of items

      receive_there : (ch : Chan) × (get m c ≡ Some ch) × (is_ready (Pop limits) ch ≡ true)
      receive_there = pop_chan limits (get m c) (served_at_frame (Receive c line items iostat to next) does can.ready receive_frame)

      -- what the process does with what it got
      abbrev after_got : Got → Onward Proc
      after_got (got.Message message) = after_message x next items iostat message
      after_got got.Exceeds = faulted x line Subscript
      after_got got.Wait = faulted x line Subscript
      after_got got.End = after_end_of_channel x line next iostat to

      abbrev met_here : Bool → Option Message → Onward Proc
      met_here over o = met x line receive_frame.below receive_frame.top next items iostat to over o

      message_is : (over : Bool) (message : Message) → after_message x next items iostat message ≡ met_here over (Some message)
      message_is true message = ap (in_frames x (λ below f. came x below f next items iostat message)) receive_frame.is
      message_is false message = ap (in_frames x (λ below f. came x below f next items iostat message)) receive_frame.is

      end_is : after_end_of_channel x line next iostat to ≡ met_here false None
      end_is = ap (in_frames x (λ below f. at_the_end x line below f next iostat to)) receive_frame.is

      got_is : (g : Got) (over : Bool) (o : Option Message) → IsGot g over o → after_got g ≡ met_here over o
      got_is (got.Message message) over o is = message_is over message ∙ ap (met_here over) (sym is)
      got_is got.Exceeds over o is = sym (ap (λ b. met_here b o) is.0 ∙ ap (met_here true) is.1)
      got_is got.Wait over o is = absurd is
      got_is got.End over o is = end_is ∙ sym (ap (λ b. met_here b o) is.0 ∙ ap (met_here false) is.1)

      end_starts : (vs : List Frame) (f : Frame) (s : Option Span) (n : Option ℕ) → (at_the_end x line vs f next s n).starts ≡ []
      end_starts vs f None None = refl
      end_starts vs f None (Some n) = refl
      end_starts vs f (Some s) n = refl

      end_block : (vs : List Frame) (f : Frame) (s : Option Span) (n : Option ℕ) → (at_the_end x line vs f next s n).block ≡ x.next_block
      end_block vs f None None = refl
      end_block vs f None (Some n) = refl
      end_block vs f (Some s) n = refl

      pub receive_cost : (message : Message) → (after_message x next items iostat message).cost ≡ 1 + message_words message
      receive_cost message = ap (λ o. o.cost) (message_is false message)

      receive_starts : (over : Bool) (o : Option Message) → (met_here over o).starts ≡ []
      receive_starts true None = refl
      receive_starts true (Some message) = refl
      receive_starts false None = end_starts receive_frame.below receive_frame.top iostat to
      receive_starts false (Some message) = refl

      receive_block : (over : Bool) (o : Option Message) → (met_here over o).block ≡ x.next_block
      receive_block true None = refl
      receive_block true (Some message) = refl
      receive_block false None = end_block receive_frame.below receive_frame.top iostat to
      receive_block false (Some message) = refl

      receive_replies : served_at {Proc = Proc} (Pop limits) (get m c) ≡ Some (reply_at (Pop limits) receive_there.0)
      receive_replies = ap (served_at (Pop limits)) receive_there.1 ∙ ap (λ b. cond b (Some (reply_at (Pop limits) receive_there.0)) None) receive_there.2

      abbrev there_over : Bool
      there_over = exceeds (Pop limits) receive_there.0

      abbrev there_message : Option Message
      there_message = gives (Pop limits) receive_there.0

      receive_may : MayGoOn ports p (net.Event c (Pop limits)) (reply_at (Pop limits) receive_there.0) (met_here there_over there_message)
      receive_may = can.may (net.Event c (Pop limits)) (λ d r. met_here r.exceeds r.message) (reply_at (Pop limits) receive_there.0)
          (asks_at (Receive c line items iostat to next) does can.ready receive_frame) receive_replies

      pub receive_uses : IsKept ports (Reader c)
      receive_uses = receive_may.uses c (Pop limits) refl

      told : (g : Got) → g ≡ got_at limits (get m c) → IsGot g there_over there_message
      told g brought = got_tells limits receive_there.0 receive_there.2 g (brought ∙ ap (got_at limits) receive_there.1)

      pub receive_waits_not : got.Wait ≡ got_at limits (get m c) → ⊥
      receive_waits_not brought = told got.Wait brought

      pub receive_drops : (message : Message) → got.Message message ≡ got_at limits (get m c) → MayDrop ports (message_ports message) (after_message x next items iostat message).drops
      receive_drops message brought =
          let same : there_message ≡ Some message = told (got.Message message) brought in
          let at_message : MayDrop ports (law.got (Some message) ++ []) (met_here there_over (Some message)).drops =
          subst (λ (o : Option Message). MayDrop ports (law.got o ++ []) (met_here there_over o).drops) same receive_may.drops in
          subst (λ (o : Onward Proc). MayDrop ports (message_ports message) o.drops) (sym (message_is there_over message))
          (subst (λ zs. MayDrop ports zs (met_here there_over (Some message)).drops) (append-nil (message_ports message)) at_message)

      pub receives : (g : Got) → g ≡ got_at limits (get m c) → (y : Proc) → y ≡ (after_got g).self
          → (cs : Chans) → cs ≡ all_shed (after_got g).drops (adjust m c (changed (Pop limits))) → (cost : ℕ) → cost ≡ (after_got g).cost
          → Carries (law.got (message_in g)) (after_got g).drops ports later → Performs program p x m kids ports y [] cs later cost
      receives g brought y is cs chans cost paid carries =
          let here = told g brought in
          let goes : after_got g ≡ met_here there_over there_message = got_is g there_over there_message here in
          let same : message_in g ≡ there_message = got_message g there_over there_message here in
          let out : Onward Proc = met_here there_over there_message in
          record {
            need = net.Event c (Pop limits);
            going = λ d v. met_here v.exceeds v.message;
            reply = reply_at (Pop limits) receive_there.0;
            asks = asks_at (Receive c line items iostat to next) does can.ready receive_frame;
            replies = receive_replies;
            block_is = receive_block there_over there_message;
            goes = record {
              self_is = is ∙ ap (λ v. v.self) goes;
              starts_are = sym (receive_starts there_over there_message);
              cost_is = paid ∙ ap (λ v. v.cost) goes;
              chans_are = chans ∙ ap (λ v. all_shed v.drops (adjust m c (changed (Pop limits)))) goes ∙ ap (λ zs. all_shed zs (adjust m c (changed (Pop limits)))) (sym (ap (λ zs. out.drops ++ zs) (no_spills limits (get m c)) ∙ append-nil out.drops));
            };
            carries =
                subst (λ zs. Carries zs (out.drops ++ []) ports later) (ap law.got same ∙ sym (append-nil (law.got there_message)))
                (subst (λ zs. Carries (law.got (message_in g)) zs ports later) (ap (λ v. v.drops) goes ∙ sym (append-nil out.drops)) carries);
          }

      end_drops_none : (vs : List Frame) (f : Frame) (s : Option Span) (n : Option ℕ) → (at_the_end x line vs f next s n).drops ≡ []
      end_drops_none vs f None None = refl
      end_drops_none vs f None (Some n) = refl
      end_drops_none vs f (Some s) n = refl

      end_cost : (vs : List Frame) (f : Frame) (s : Option Span) (n : Option ℕ) → (at_the_end x line vs f next s n).cost ≡ 1
      end_cost vs f None None = refl
      end_cost vs f None (Some n) = refl
      end_cost vs f (Some s) n = refl

      -- a message that exceeds stays, and that is a fault
      pub exceeds_receives : ((left : List PortValue) → Carries [] left ports later) → got.Exceeds ≡ got_at limits (get m c) → (y : Proc) → y ≡ (faulted x line Subscript).self → (cs : Chans) → cs ≡ adjust m c (changed (Pop limits))
          → Performs program p x m kids ports y [] cs later 1
      exceeds_receives carries brought y is cs chans = receives got.Exceeds brought y is cs (chans ∙ sym (all_shed-nil (adjust m c (changed (Pop limits))))) 1 refl (carries [])

      -- at the end of the channel
      pub end_receives : ((left : List PortValue) → Carries [] left ports later) → got.End ≡ got_at limits (get m c) → (y : Proc) → y ≡ (after_end_of_channel x line next iostat to).self → (cs : Chans) → cs ≡ adjust m c (changed (Pop limits))
          → Performs program p x m kids ports y [] cs later 1
      end_receives carries brought y is cs chans =
          let i = receive_frame in
          let none : (after_end_of_channel x line next iostat to).drops ≡ [] = ap (λ o. o.drops) end_is ∙ end_drops_none i.below i.top iostat to in
          let one : (after_end_of_channel x line next iostat to).cost ≡ 1 = ap (λ o. o.cost) end_is ∙ end_cost i.below i.top iostat to in
          receives got.End brought y is cs (chans ∙ sym (ap (λ zs. all_shed zs (adjust m c (changed (Pop limits)))) none ∙ all_shed-nil (adjust m c (changed (Pop limits))))) 1 (sym one) (carries (after_end_of_channel x line next iostat to).drops)

    module _ (c : ChanName) (place : Span) (next : ℕ) (does : action_of program x ≡ Meets (Probe c place next)) (can : CanPerform program p x m [] ports) where
      probe_frame : InFrame x
      probe_frame = in_some (Probe c place next) does can.ready

      probe_there : (ch : Chan) × (get m c ≡ Some ch)
      probe_there = look_chan (get m c) (served_at_frame (Probe c place next) does can.ready probe_frame)

      pub probe_uses : IsKept ports (Reader c)
      probe_uses =
          (can.may (net.Event c Look) (λ d r. probed x probe_frame.below probe_frame.top next place r.waits) (reply_at Look probe_there.0) (asks_at (Probe c place next) does can.ready probe_frame) (ap (served_at Look) probe_there.1)).uses c Look refl

      pub probes : (waits : Bool) → waits ≡ waits_at (get m c) → (y : Proc) → y ≡ (after_probe x next place waits).self → Performs program p x m kids ports y [] m ports 1
      probes waits told y is =
          let i = probe_frame in
          let looks : waits ≡ tells Look probe_there.0 = told ∙ ap waits_at probe_there.1 in
          let same : after_probe x next place waits ≡ probed x i.below i.top next place waits = ap (in_frames x (λ below f. probed x below f next place waits)) i.is in
          record {
            need = net.Event c Look;
            going = λ d r. probed x i.below i.top next place r.waits;
            reply = reply_at Look probe_there.0;
            asks = asks_at (Probe c place next) does can.ready i;
            replies = ap (served_at Look) probe_there.1;
            block_is = refl;
            goes = record {
              self_is = is ∙ ap (λ o. o.self) same ∙ ap (λ b. (probed x i.below i.top next place b).self) looks;
              starts_are = refl;
              cost_is = refl;
              chans_are = sym (ap (λ zs. all_shed zs (adjust m c (changed Look))) (no_looks (get m c)) ∙ all_shed-nil (adjust m c (changed Look)) ∙ adjust-insert channel_order m c (changed Look) probe_there.0 probe_there.1 ∙ insert_same channel_order m c probe_there.0 probe_there.1);
            };
            carries = keeps_all [] ports;
          }

    pub begins : action_of program x ≡ Meets Begin → CanPerform program p x m [] ports → (y : Proc) → y ≡ (after_begin x).self → (xs : List Proc) → xs ≡ (after_begin x).starts
        → (cost : ℕ) → cost ≡ 1 + length xs → Performs program p x m kids ports y xs m ports cost
    begins does can y is xs are cost paid =
        let i = in_some Begin does can.ready in
        let same : after_begin x ≡ began x i.below i.top = ap (in_frames x (λ below f. began x below f)) i.is in
        record {
          need = Nothing;
          going = λ c r. began x i.below i.top;
          reply = reply_with [];
          asks = asks_at Begin does can.ready i;
          replies = refl;
          block_is = refl;
          goes = record {
            self_is = is ∙ ap (λ o. o.self) same;
            starts_are = are ∙ ap (λ o. o.starts) same;
            cost_is = omega (arith, paid, ap length (are ∙ ap (λ o. o.starts) same), length-map i.top.starts child_of);
            chans_are = sym (all_shed-nil m);
          };
          carries = keeps_all [] ports;
        }

    pub ends : action_of program x ≡ Meets End → CanPerform program p x m [] ports → (y : Proc) → y ≡ (ended program x).self → (cs : Chans) → cs ≡ all_shed (ended program x).drops m
        → StayBut (ended program x).drops ports later → Performs program p x m kids ports y [] cs later 1
    ends does can y is cs chans stay =
        let i = in_some End does can.ready in
        record {
          need = Nothing;
          going = λ c r. ended program x;
          reply = reply_with [];
          asks = asks_at End does can.ready i;
          replies = refl;
          block_is = refl;
          goes = record { self_is = is; starts_are = refl; cost_is = refl; chans_are = chans ∙ ap (λ zs. all_shed zs m) (sym (append-nil (ended program x).drops)) };
          carries = drops_these ((ended program x).drops ++ []) ports later (subst (λ zs. StayBut zs ports later) (sym (append-nil (ended program x).drops)) stay);
        }

    pub end_drops : action_of program x ≡ Meets End → CanPerform program p x m [] ports → MayDrop ports [] (ended program x).drops
    end_drops does can =
        let i = in_some End does can.ready in
        (can.may Nothing (λ c r. ended program x) (reply_with []) (asks_at End does can.ready i) refl).drops

-- no child starts
pub nobody : (program : Program) (p : Place) (x : Proc) (m : Chans) (kids : List Proc) (ports : Ports) (y : Proc) (n : Chans) (later : Ports) (cost : ℕ) → Performs program p x m kids ports y [] n later cost
    → (xs : List PlainProc) → xs ≡ [] → (k : ℕ) → k ≡ cost → Performs program p x m kids ports y (map (proc_of program) xs) n later k
nobody program p x m kids ports y n later cost done xs none k paid =
    subst (λ (j : ℕ). Performs program p x m kids ports y (map (proc_of program) xs) n later j) (sym paid)
    (subst (λ (zs : List Proc). Performs program p x m kids ports y zs n later cost) (sym (ap (map (proc_of program)) none)) done)

-- What a process does with a message, or with the end of a channel, is what it asked for.
use Rattle.std.proofs.Common.{◌≡◌, ℕ, ℤ, pos, ◌+◌, Bool, true, false, cond, not, Option, Some, None, List, [], ◌∷◌, ◌++◌, refl, sym, ap, ap₂, ◌∙◌, append-nil}
use Rattle.std.specs.Prelude.{is_some, slice_set, Result, Ok, Err, IfOk, OnErr, OnOk}
use Rattle.fm_base.specs.declared.memory.NoMemory.{NoMemory}
use Rattle.std.specs.FinMap.{get}
use Rattle.fm_base.specs.declared.fault.Fault.TheVariants.{Subscript}
use Rattle.fm_base.specs.declared.path.ChanName.{ChanName}
use Rattle.fm_base.specs.declared.port.PortValue.{PortValue}
use Rattle.fm_base.specs.declared.port.PortValue.TheVariants.{Writer, Reader}
use Rattle.fm_base.specs.Channels.{Message, Chan, Chans, Limits, Push, Pop, Look, changed, exceeds, first_exceeds, first_message, fits_limits, gives, tells, is_ready, spills_at, all_shed}
use Rattle.fm_values.specs.Values.{truth_word}
use Rattle.fm_finmap.specs.Changes.{adjust}
use Rattle.fm_finmap.proofs.Adjusts.{adjust-insert}
use Rattle.fm_finmap.proofs.Inserts.{insert_same}
use Rattle.fm_net.proofs.Keys.{channel_order}
use Rattle.fm_discards.proofs.Shedding.{all_shed-nil}
use Rattle.fm_chan.specs.Events.{after_send_to, after_op, chan_at, is_outport}
use Rattle.fm_chan.specs.declared.message.Got.{Got}
use Rattle.fm_chan.specs.declared.message.Got.TheVariants as got
use Rattle.fm_chan.specs.Received.{got_at, got_from, waits_at}
use Rattle.fm_chan.proofs.Receiving.{end_tells, excess_tells, message_tells, wait_tells}
use Rattle.fm_net.specs.Machine.{Place, Event, Onward, Reply, reply_at, served_at}
use Rattle.fm_code.specs.declared.ask.Ask.TheVariants as ask
use Rattle.fm_code.specs.declared.ask.Operand.{Operand}
use Rattle.fm_code.specs.declared.body.Body.{Body}
use Rattle.fm_code.specs.Statements.{line_of, with_words}
use Rattle.fm_machine_calls.specs.declared.looking.Look.TheVariants as look
use Rattle.fm_proc_language.specs.Slots.{Slots, in_slot}
use Rattle.fm_proc_language.specs.Frames.{all_stored, message_from}
use Rattle.fm_proc_language.specs.Processes.{CodeProc, asks, sends_by, receives_by, probes_by, sent, limits_of, met, came, at_the_end, faulted, probed, holding, message_words, with_status}
use Rattle.fm_proc_language.specs.Needs.{need_in}
use Rattle.fm_proc_slots.specs.Helds.{held}
use Rattle.fm_proc_events.specs.Events.{channel_in, with_body}
use Rattle.fm_proc_events.specs.Performs.{CanPerform, Performs, reply_to}
use Rattle.fm_proc_events.specs.Told.{look_of}
use Rattle.fm_proc_events.proofs.Doing.{bodied, asks_so, can_so}

-- a writer, and its channel
record Outport (x : Option PortValue) : Type 0 where
  pub channel : ChanName
  pub writer : ℕ
  pub is : x ≡ Some (Writer channel writer)

-- an inport
record Inport (x : Option PortValue) : Type 0 where
  pub channel : ChanName
  pub is : x ≡ Some (Reader channel)

some_body : (y : CodeProc) (P : Type 0) → (y.body ≡ None → ⊥) → ((b : Body) → y.body ≡ Some b → P) → P
some_body y P none some = go y.body refl
  where
    go : (o : Option Body) → y.body ≡ o → P
    go None e = absurd (none e)
    go (Some b) e = some b e

-- the body is put back
as_it_was : (y : CodeProc) (b : Body) → y.body ≡ Some b → with_body y b ≡ y
as_it_was y b is = λ i. record y { body = sym is i }

-- no message could be sent, and the body and the slots are as they were
pub unsent : (y : CodeProc) (b : Body) → y.body ≡ Some b → (after : Body) (slots : Slots) (r : Result ℕ NoMemory) → OnErr r (after ≡ b) → OnErr r (slots ≡ y.slots)
    → OnErr r (record y { body = Some after; slots = slots } ≡ y)
unsent y b is after slots (Ok cost) after_is slots_are = tt
unsent y b is after slots (Err e) after_is slots_are = (λ i. record y { body = Some (after_is i); slots = slots_are i }) ∙ as_it_was y b is

-- which writer sends changes nothing
any_writer : (c : ChanName) (v w : ℕ) (message : Message) (o : Option Chan) → spills_at (Push v message) o ≡ spills_at (Push w message) o
any_writer c v w message None = refl
any_writer c v w message (Some ch) = refl

no_spills : (limits : Limits) (o : Option Chan) → spills_at (Pop limits) o ≡ []
no_spills limits None = refl
no_spills limits (Some ch) = refl

no_looks : (o : Option Chan) → spills_at Look o ≡ []
no_looks None = refl
no_looks (Some ch) = refl

-- ---- sending

module _ (y : CodeProc) (cs : Chans) (slot : ℤ) (items : List Operand) (next : ℕ) (told : look_of y ≡ look.Asks (ask.Send slot items next)) (can : CanPerform y cs) where
  -- it has a body
  send_body : y.body ≡ None → ⊥
  send_body = bodied y (ask.Send slot items next) told

  outport_of : (b : Body) → y.body ≡ Some b → Outport (in_slot y.slots slot)
  outport_of b is = go (in_slot y.slots slot) (can_so y cs (ask.Send slot items next) refl told can b is)
    where
      go : (x : Option PortValue) → is_some (reply_to cs (need_in (sends_by y b x (message_from (holding y b) items) next))) ≡ true → Outport x
      go None e = absurd (cc e)
      go (Some (Reader c)) e = absurd (cc e)
      go (Some (Writer c w)) e = record { channel = c; writer = w; is = refl }

  -- and an outport
  outport : Outport (in_slot y.slots slot)
  outport = some_body y (Outport (in_slot y.slots slot)) send_body outport_of

  -- which is one
  pub is_writer : (x : PortValue) → in_slot y.slots slot ≡ Some x → is_outport x ≡ true
  is_writer x there =
      let same : x ≡ Writer outport.channel outport.writer = cc (sym there ∙ outport.is) in
      ap is_outport same

  module _ (b : Body) (is : y.body ≡ Some b) where
    asks_send : asks y ≡ sends_by y b (Some (Writer outport.channel outport.writer)) (message_from (holding y b) items) next
    asks_send = asks_so y cs (ask.Send slot items next) refl told can b is ∙ ap (λ x. sends_by y b x (message_from (holding y b) items) next) outport.is

    send_reply : (x : Option Chan) → is_some (served_at {Proc = CodeProc} (Push outport.writer (message_from (holding y b) items).1) x) ≡ true
        → (r : Reply CodeProc) × (served_at (Push outport.writer (message_from (holding y b) items).1) x ≡ Some r)
    send_reply None e = absurd (cc e)
    send_reply (Some ch) e = (reply_at (Push outport.writer (message_from (holding y b) items).1) ch, refl)

    send_served : (r : Reply CodeProc) × (served_at (Push outport.writer (message_from (holding y b) items).1) (get cs outport.channel) ≡ Some r)
    send_served = send_reply (get cs outport.channel) (sym (ap (λ a. is_some (reply_to cs (need_in a))) asks_send) ∙ can)

    pub sends : (p : Place) (c : ChanName) → Some c ≡ channel_in (in_slot y.slots slot)
        → (after : Body) → after ≡ with_words b next (message_from (held b.frame.words y.slots) items).0.words
        → (slots : Slots) → slots ≡ (message_from (held b.frame.words y.slots) items).0.slots
        → (message : Message) → message ≡ (message_from (held b.frame.words y.slots) items).1
        → (n : Chans) → n ≡ after_send_to c message cs
        → (cost : ℕ) → cost ≡ 1 + message_words message
        → Performs p y cs (record y { body = Some after; slots = slots }) [] n cost
    sends p c c_is after after_is slots slots_are message message_is n n_is cost cost_is =
        let m = message_from (holding y b) items in
        let same : c ≡ outport.channel = cc (c_is ∙ ap channel_in outport.is) in
        record {
          need = Event outport.channel (Push outport.writer m.1);
          goes = λ d r. sent y b next m;
          asks_so = asks_send;
          reply = send_served.0;
          comes = send_served.1;
          on = record {
            self = λ i. record y { body = Some (after_is i); slots = slots_are i };
            block = refl;
            starts_are = refl;
            chans = n_is ∙ ap (λ d. after_send_to d message cs) same ∙ ap (λ v. after_send_to outport.channel v cs) message_is
                ∙ ap (λ zs. all_shed zs (adjust cs outport.channel (changed (Push outport.writer m.1)))) (any_writer outport.channel 0 outport.writer m.1 (get cs outport.channel));
            cost_is = cost_is ∙ ap (λ v. 1 + message_words v) message_is;
          };
        }

    -- as told of the operands by their slice
    pub sends_if : (p : Place) (c : ChanName) → Some c ≡ channel_in (in_slot y.slots slot) → (its : List Operand) → its ≡ items
        → (after : Body) (slots : Slots) (n : Chans) (r : Result ℕ NoMemory)
        → OnOk r (after ≡ with_words b next (message_from (held b.frame.words y.slots) its).0.words)
        → OnOk r (slots ≡ (message_from (held b.frame.words y.slots) its).0.slots)
        → OnOk r (n ≡ after_send_to c (message_from (held b.frame.words y.slots) its).1 cs)
        → IfOk r (λ cost. cost ≡ 1 + message_words (message_from (held b.frame.words y.slots) its).1)
        → IfOk r (λ cost. Performs p y cs (record y { body = Some after; slots = slots }) [] n cost)
    sends_if p c c_is its same after slots n (Ok cost) after_is slots_are n_is cost_is =
        let h = held b.frame.words y.slots in
        sends p c c_is after (after_is ∙ ap (λ v. with_words b next (message_from h v).0.words) same) slots (slots_are ∙ ap (λ v. (message_from h v).0.slots) same)
        (message_from h its).1 (ap (λ v. (message_from h v).1) same) n n_is cost cost_is
    sends_if p c c_is its same after slots n (Err e) after_is slots_are n_is cost_is = tt

-- ---- receiving

-- no message comes where the first one exceeds its limits
over_gives : (limits : Limits) (q : List Message) → first_exceeds limits q ≡ true → first_message limits q ≡ None
over_gives limits [] over = refl
over_gives limits (m ∷ ms) over = go (fits_limits limits m) over
  where
    go : (b : Bool) → not b ≡ true → cond b (Some m) None ≡ None
    go true e = absurd (cc e)
    go false e = refl

-- a receive has its step at the channel
record Popped (limits : Limits) (o : Option Chan) : Type 0 where
  pub ch : Chan
  pub there : o ≡ Some ch
  pub ready : is_ready (Pop limits) ch ≡ true

popped : (limits : Limits) (o : Option Chan) → is_some (served_at {Proc = CodeProc} (Pop limits) o) ≡ true → Popped limits o
popped limits None e = absurd (cc e)
popped limits (Some ch) e = go (is_ready (Pop limits) ch) refl
  where
    go : (b : Bool) → is_ready (Pop limits) ch ≡ b → Popped limits (Some ch)
    go true ready = record { ch = ch; there = refl; ready = ready }
    go false waits = absurd (cc (sym (ap (λ b. is_some (cond b (Some (reply_at {Proc = CodeProc} (Pop limits) ch)) None)) waits) ∙ e))

pop_comes : (limits : Limits) (o : Option Chan) (ch : Chan) → o ≡ Some ch → is_ready (Pop limits) ch ≡ true → served_at {Proc = CodeProc} (Pop limits) o ≡ Some (reply_at (Pop limits) ch)
pop_comes limits o ch there ready = ap (served_at (Pop limits)) there ∙ ap (λ b. cond b (Some (reply_at (Pop limits) ch)) None) ready

module _ (y : CodeProc) (cs : Chans) (slot : ℤ) (items : List Operand) (status at_end : Option ℕ) (next : ℕ) (told : look_of y ≡ look.Asks (ask.Receive slot items status at_end next)) (can : CanPerform y cs) where
  receive_body : y.body ≡ None → ⊥
  receive_body = bodied y (ask.Receive slot items status at_end next) told

  inport_of : (b : Body) → y.body ≡ Some b → Inport (in_slot y.slots slot)
  inport_of b is = go (in_slot y.slots slot) (can_so y cs (ask.Receive slot items status at_end next) refl told can b is)
    where
      go : (x : Option PortValue) → is_some (reply_to cs (need_in (receives_by y b x items status at_end next))) ≡ true → Inport x
      go None e = absurd (cc e)
      go (Some (Writer c w)) e = absurd (cc e)
      go (Some (Reader c)) e = record { channel = c; is = refl }

  inport : Inport (in_slot y.slots slot)
  inport = some_body y (Inport (in_slot y.slots slot)) receive_body inport_of

  module _ (b : Body) (is : y.body ≡ Some b) where
    asks_receive : asks y ≡ receives_by y b (Some (Reader inport.channel)) items status at_end next
    asks_receive = asks_so y cs (ask.Receive slot items status at_end next) refl told can b is ∙ ap (λ x. receives_by y b x items status at_end next) inport.is

    receive_served : Popped (limits_of items) (get cs inport.channel)
    receive_served = popped (limits_of items) (get cs inport.channel) (sym (ap (λ a. is_some (reply_to cs (need_in a))) asks_receive) ∙ can)

    end_starts : (s e : Option ℕ) → (at_the_end y b next s e).starts ≡ []
    end_starts None None = refl
    end_starts None (Some to) = refl
    end_starts (Some k) to = refl

    end_block : (s e : Option ℕ) → (at_the_end y b next s e).block ≡ y.next_block
    end_block None None = refl
    end_block None (Some to) = refl
    end_block (Some k) to = refl

    end_drops : (s e : Option ℕ) → (at_the_end y b next s e).drops ≡ []
    end_drops None None = refl
    end_drops None (Some to) = refl
    end_drops (Some k) to = refl

    end_cost : (s e : Option ℕ) → (at_the_end y b next s e).cost ≡ 1
    end_cost None None = refl
    end_cost None (Some to) = refl
    end_cost (Some k) to = refl

    starts_none : (exceeds : Bool) (o : Option Message) → (met y b next items status at_end exceeds o).starts ≡ []
    starts_none true None = refl
    starts_none true (Some message) = refl
    starts_none false None = end_starts status at_end
    starts_none false (Some message) = refl

    same_block : (exceeds : Bool) (o : Option Message) → (met y b next items status at_end exceeds o).block ≡ y.next_block
    same_block true None = refl
    same_block true (Some message) = refl
    same_block false None = end_block status at_end
    same_block false (Some message) = refl

    -- what came of it
    receives : (p : Place) (over : Bool) → over ≡ exceeds (Pop (limits_of items)) receive_served.ch → (o : Option Message) → o ≡ gives (Pop (limits_of items)) receive_served.ch
        → (z : CodeProc) → z ≡ (met y b next items status at_end over o).self
        → (n : Chans) → n ≡ all_shed (met y b next items status at_end over o).drops (adjust cs inport.channel (changed (Pop (limits_of items))))
        → (cost : ℕ) → cost ≡ (met y b next items status at_end over o).cost
        → Performs p y cs z [] n cost
    receives p over over_is o o_is z z_is n n_is cost cost_is =
        let c = inport.channel in
        let pop = Pop (limits_of items) in
        let r = met y b next items status at_end in
        let reply : Reply CodeProc = reply_at pop receive_served.ch in
        let same : r over o ≡ r reply.exceeds reply.message = ap₂ r over_is o_is in
        let out = r reply.exceeds reply.message in
        record {
          need = Event c pop;
          goes = λ d v. r v.exceeds v.message;
          asks_so = asks_receive;
          reply = reply;
          comes = pop_comes (limits_of items) (get cs c) receive_served.ch receive_served.there receive_served.ready;
          on = record {
            self = z_is ∙ ap (λ (v : Onward CodeProc). v.self) same;
            block = same_block reply.exceeds reply.message;
            starts_are = sym (starts_none reply.exceeds reply.message);
            chans = n_is ∙ ap (λ (v : Onward CodeProc). all_shed v.drops (adjust cs c (changed pop))) same
                ∙ ap (λ zs. all_shed zs (adjust cs c (changed pop))) (sym (ap (λ zs. out.drops ++ zs) (no_spills (limits_of items) (get cs c)) ∙ append-nil out.drops));
            cost_is = cost_is ∙ ap (λ (v : Onward CodeProc). v.cost) same;
          };
        }

    module _ (p : Place) (x : PortValue) (x_is : Some x ≡ in_slot y.slots slot) where
      reader_is : x ≡ Reader inport.channel
      reader_is = cc (x_is ∙ inport.is)

      found : chan_at x cs ≡ Some receive_served.ch
      found = ap (λ v. chan_at v cs) reader_is ∙ receive_served.there

      got_here : (g : Got) → g ≡ got_at (limits_of items) (chan_at x cs) → g ≡ got_from (limits_of items) receive_served.ch
      got_here g g_is = g_is ∙ ap (got_at (limits_of items)) found

      -- it doesn't wait
      waits_not : got.Wait ≡ got_at (limits_of items) (chan_at x cs) → ⊥
      waits_not waits =
          let pop = Pop (limits_of items) in
          let ch = receive_served.ch in
          cc (sym receive_served.ready ∙ wait_tells (is_ready pop ch) (exceeds pop ch) (gives pop ch) (got_here got.Wait waits))

      module _ (mid : Chans) (mid_is : mid ≡ after_op x (Pop (limits_of items)) cs) (z : CodeProc) (n : Chans) where
        mid_so : mid ≡ adjust cs inport.channel (changed (Pop (limits_of items)))
        mid_so = mid_is ∙ ap (λ v. after_op v (Pop (limits_of items)) cs) reader_is

        -- the first message exceeds its operands, and stays
        excess_met : got.Exceeds ≡ got_at (limits_of items) (chan_at x cs) → z ≡ (faulted y (line_of b) Subscript).self → n ≡ mid → Performs p y cs z [] n 1
        excess_met exceeding z_is n_is =
            let pop = Pop (limits_of items) in
            let ch = receive_served.ch in
            let m = adjust cs inport.channel (changed pop) in
            let over : exceeds pop ch ≡ true = excess_tells (is_ready pop ch) (exceeds pop ch) (gives pop ch) (got_here got.Exceeds exceeding) in
            receives p true (sym over) None (sym (over_gives (limits_of items) ch.queue over)) z z_is n (n_is ∙ mid_so ∙ sym (all_shed-nil m)) 1 refl

        pub gets_message : (message : Message) → got.Message message ≡ got_at (limits_of items) (chan_at x cs) → (its : List Operand) → its ≡ items
            → (after : Body) → after ≡ with_words b next (with_status (all_stored (held b.frame.words y.slots) its message).0 status (pos 0)).words
            → (slots : Slots) → slots ≡ (with_status (all_stored (held b.frame.words y.slots) its message).0 status (pos 0)).slots
            → (drops : List PortValue) → drops ≡ (all_stored (held b.frame.words y.slots) its message).1
            → z ≡ record y { body = Some after; slots = slots } → n ≡ all_shed drops mid
            → (cost : ℕ) → cost ≡ 1 + message_words message → Performs p y cs z [] n cost
        gets_message message came_so its same after after_is slots slots_are drops drops_are z_is n_is cost cost_is =
            let pop = Pop (limits_of items) in
            let ch = receive_served.ch in
            let told_so = message_tells (is_ready pop ch) (exceeds pop ch) (gives pop ch) message (got_here (got.Message message) came_so) in
            receives p false (sym told_so.0) (Some message) told_so.1 z
            (z_is ∙ (λ i. record y { body = Some (after_is i); slots = slots_are i }) ∙ ap (λ v. (came y b next v status message).self) same) n
            (n_is ∙ ap (λ v. all_shed v mid) (drops_are ∙ ap (λ v. (all_stored (held b.frame.words y.slots) v message).1) same) ∙ ap (all_shed (came y b next items status message).drops) mid_so) cost cost_is

        pub meets_end : got.End ≡ got_at (limits_of items) (chan_at x cs) → z ≡ (at_the_end (with_body y b) b next status at_end).self → n ≡ mid → Performs p y cs z [] n 1
        meets_end ended z_is n_is =
            let pop = Pop (limits_of items) in
            let ch = receive_served.ch in
            let m = adjust cs inport.channel (changed pop) in
            let told_so = end_tells (is_ready pop ch) (exceeds pop ch) (gives pop ch) (got_here got.End ended) in
            receives p false (sym told_so.0) None told_so.1 z (z_is ∙ ap (λ v. (at_the_end v b next status at_end).self) (as_it_was y b is)) n
            (n_is ∙ mid_so ∙ sym (ap (λ zs. all_shed zs m) (end_drops status at_end) ∙ all_shed-nil m)) 1 (sym (end_cost status at_end))

  module _ (p : Place) (x : PortValue) (x_is : Some x ≡ in_slot y.slots slot) where
    pub never_waits : got.Wait ≡ got_at (limits_of items) (chan_at x cs) → ⊥
    never_waits waits = some_body y ⊥ receive_body (λ b is. waits_not b is p x x_is waits)

    pub meets_excess : (n : Chans) → n ≡ after_op x (Pop (limits_of items)) cs → got.Exceeds ≡ got_at (limits_of items) (chan_at x cs)
        → (z : CodeProc) → ((b : Body) → y.body ≡ Some b → z ≡ (faulted y (line_of b) Subscript).self) → Performs p y cs z [] n 1
    meets_excess n n_is exceeding z z_is = some_body y (Performs p y cs z [] n 1) receive_body (λ b is. excess_met b is p x x_is n n_is z n exceeding (z_is b is) refl)

-- ---- looking

look_served : (o : Option Chan) → is_some (served_at {Proc = CodeProc} Look o) ≡ true → (ch : Chan) × (o ≡ Some ch)
look_served None e = absurd (cc e)
look_served (Some ch) e = (ch, refl)

module _ (y : CodeProc) (cs : Chans) (slot : ℤ) (empty next : ℕ) (told : look_of y ≡ look.Asks (ask.Probe slot empty next)) (can : CanPerform y cs) where
  probe_body : y.body ≡ None → ⊥
  probe_body = bodied y (ask.Probe slot empty next) told

  looked_at : (b : Body) → y.body ≡ Some b → Inport (in_slot y.slots slot)
  looked_at b is = go (in_slot y.slots slot) (can_so y cs (ask.Probe slot empty next) refl told can b is)
    where
      go : (x : Option PortValue) → is_some (reply_to cs (need_in (probes_by y b x empty next))) ≡ true → Inport x
      go None e = absurd (cc e)
      go (Some (Writer c w)) e = absurd (cc e)
      go (Some (Reader c)) e = record { channel = c; is = refl }

  looked : Inport (in_slot y.slots slot)
  looked = some_body y (Inport (in_slot y.slots slot)) probe_body looked_at

  module _ (b : Body) (is : y.body ≡ Some b) where
    asks_probe : asks y ≡ probes_by y b (Some (Reader looked.channel)) empty next
    asks_probe = asks_so y cs (ask.Probe slot empty next) refl told can b is ∙ ap (λ x. probes_by y b x empty next) looked.is

    there : (ch : Chan) × (get cs looked.channel ≡ Some ch)
    there = look_served (get cs looked.channel) (sym (ap (λ a. is_some (reply_to cs (need_in a))) asks_probe) ∙ can)

    pub probes : (p : Place) (x : PortValue) → Some x ≡ in_slot y.slots slot → (waits : Bool) → waits ≡ waits_at (chan_at x cs)
        → (after : Body) → after ≡ with_words b next (slice_set b.frame.words empty (truth_word waits)) → Performs p y cs (record y { body = Some after }) [] cs 1
    probes p x x_is waits waits_so after after_is =
        let c = looked.channel in
        let reader : x ≡ Reader c = cc (x_is ∙ looked.is) in
        let same : waits ≡ tells Look there.0 = waits_so ∙ ap (λ v. waits_at (chan_at v cs)) reader ∙ ap waits_at there.1 in
        record {
          need = Event c Look;
          goes = λ d r. probed y b next empty r.waits;
          asks_so = asks_probe;
          reply = reply_at Look there.0;
          comes = ap (served_at Look) there.1;
          on = record {
            self = (λ i. record y { body = Some (after_is i) }) ∙ ap (λ v. (probed y b next empty v).self) same;
            block = refl;
            starts_are = refl;
            chans = sym (ap (λ zs. all_shed zs (adjust cs c (changed Look))) (no_looks (get cs c)) ∙ all_shed-nil (adjust cs c (changed Look)) ∙ adjust-insert channel_order cs c (changed Look) there.0 there.1 ∙ insert_same channel_order cs c there.0 there.1);
            cost_is = refl;
          };
        }

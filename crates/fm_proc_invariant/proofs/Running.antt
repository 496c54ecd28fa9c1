-- What a good process that runs owes: each step that it makes of its own, or by what it asks.
use Rattle.std.proofs.Common.{◌≡◌, ◌⊎◌, inl, inr, ℕ, zero, suc, ◌+◌, ◌≤◌, ◌<◌, ℤ, pos, negsuc, Bool, true, false, not, cond, Option, Some, None, List, [], ◌∷◌, ◌++◌, length, slice_get, unwrap_or, refl, sym, ap, ◌∙◌, arith}
use Rattle.std.specs.List.{AllByRecursion}
use Rattle.std.specs.Ordering.{int_eq}
use Rattle.fm_base.specs.declared.fault.Fault.{Fault}
use Rattle.fm_base.specs.declared.fault.Fault.TheVariants.{EndOfChannel, Subscript}
use Rattle.fm_base.specs.declared.path.ChanName.{ChanName}
use Rattle.fm_base.specs.declared.port.PortValue.{PortValue}
use Rattle.fm_base.specs.declared.port.PortValue.TheVariants.{Writer, Reader}
use Rattle.fm_base.specs.Channels.{Message, Push, Pop, Look, fits_limits, message_ports}
use Rattle.fm_values.specs.Values.{truth_word}
use Rattle.fm_code.specs.declared.ask.Operand.{Operand}
use Rattle.fm_code.specs.declared.ask.Operand.TheVariants as operand
use Rattle.fm_code.specs.declared.body.Body.{Body}
use Rattle.fm_code.specs.Passing.{is_port}
use Rattle.fm_code.specs.Statements as code
use Rattle.fm_code.specs.Statements.{action_of, line_of}
use Rattle.fm_code_kinds.specs.declared.sorts.Shapes.{Shapes}
use Rattle.fm_code_kinds.specs.Bodies.{coded}
use Rattle.fm_net.specs.Machine.{Nothing, Event, New}
use Rattle.fm_net.specs.Lawful.{got, holds, ports_from, sum_of}
use Rattle.fm_net.specs.Owned.{count, one}
use Rattle.fm_net.proofs.Counts.{count-append, count-nil, one_self}
use Rattle.fm_net_invariant.specs.Good.{IsGoodAsk, IsGoodStep, is_served}
use Rattle.fm_code_preserves.specs.Rooms.{IsPorts, IsSendable, IsTarget}
use Rattle.fm_code_preserves.specs.Standing.{BodyStands}
use Rattle.fm_code_preserves.specs.Endings.{Begins, EndBegins, IsPlainWord, IsPortWord, IsSlotWord, StatusFits}
use Rattle.fm_code_preserves.specs.Weights.{body_ports, heavy, masked}
use Rattle.fm_code_preserves.proofs.Keeps.{keeps}
use Rattle.fm_proc_language.specs.Slots.{all_left, in_slot, no_port, vacated}
use Rattle.fm_proc_language.specs.Frames.{Held, all_placed, all_stored, message_from, port_words, words_from}
use Rattle.fm_proc_language.specs.Processes.{CodeProc, Running, Faulted, at_the_end, came, code_language, faulted, going_on, gone_on, held, holding, limits_of, made, message_words, met, onward, probed, probes_by, receives_by, sends_by, sent, with_status}
use Rattle.fm_proc_invariant.specs.Moves.{Moves, port_weight}
use Rattle.fm_proc_invariant.specs.Held.{HeldMoves, UsedBy}
use Rattle.fm_proc_invariant.proofs.Slots.{all_leave}
use Rattle.fm_proc_invariant.proofs.Exchange.{held_like, held_stays, others_weigh, place_all, slice_any, then_held}
use Rattle.fm_proc_invariant.proofs.Messages.{message_in, message_out, status_kept}
use Rattle.fm_proc_invariant.specs.Good.{BodyIsGood, IsGood}
use Rattle.fm_proc_invariant.proofs.Steps.{IsQuiet, good_body, holds_weighs, emptied_holds, quiet_step}
use Rattle.fm_proc_invariant.proofs.Own.{own_costs}
use Rattle.fm_proc_invariant.proofs.Going.{after_with, body_weighs, goes_on_good, goes_on_moves, mask, may_send, may_store, others, plain_off, port_on, room_masked, used_frame}

-- a word of the frame weighs among all
masked_has : (mask : ℕ → Bool) (g : ℤ → ℕ) (n : ℕ) (ws : List ℤ) (k : ℕ) (w : ℤ) → slice_get ws k ≡ Some w → mask (n + k) ≡ true → heavy g w ≤ masked mask g n ws
masked_has mask g n [] k w e on = absurd cc
masked_has mask g n (v ∷ ws) zero w e on =
    let same : v ≡ w = cc in
    let here : n + 0 ≡ n = omega arith in
    omega (arith, ap (heavy g) same, ap (λ (b : Bool). cond b (heavy g v) 0) (ap mask (sym here) ∙ on))
masked_has mask g n (v ∷ ws) (suc k) w e on =
    let there : n + suc k ≡ suc n + k = omega arith in
    omega (arith, masked_has mask g (suc n) ws k w e (ap mask (sym there) ∙ on))

pub none_in : (f : CodeProc → ℕ) (ys : List CodeProc) → ys ≡ [] → sum_of f ys ≡ 0
none_in f ys e = ap (sum_of f) e

pub none_got : (z : PortValue) (o : Option Message) → o ≡ None → count z (got o) ≡ 0
none_got z o e = ap (λ (o : Option Message). count z (got o)) e ∙ count-nil z

module _ (ss : Shapes) (y : CodeProc) (b : Body) (phase_is : y.phase ≡ Running) (body_is : y.body ≡ Some b) (good : BodyIsGood ss Running y.slots b) where
  abbrev stands : BodyStands ss b
  stands = good.fits

  abbrev at : ℕ → Type 0
  at to = Begins (coded stands.frame.own) stands.frame.lists to

  used : UsedBy (mask ss b stands) (others ss b stands) (holding y b)
  used = used_frame ss b stands y.slots good.used

  abbrev Moved : Held → List PortValue → List PortValue → Type 0
  Moved h ins outs = HeldMoves (mask ss b stands) (others ss b stands) (holding y b) h ins outs

  -- what a process is that went on: good, with the ports that came and without those that went
  pub record Went (z : CodeProc) (ins outs : List PortValue) : Type 0 where
    pub well : IsGood ss z
    pub same : (x : PortValue) → holds code_language x z + count x outs ≡ holds code_language x y + count x ins

  moved_same : (z : CodeProc) (c : Body) (ins outs : List PortValue) → z.body ≡ Some c → Moves y.slots (body_ports b) z.slots (body_ports c) ins outs → (x : PortValue) → holds code_language x z + count x outs ≡ holds code_language x y + count x ins
  moved_same z c ins outs e moves x = omega (arith, moves.same good.used x, holds_weighs z c e x, holds_weighs y b body_is x)

  went : (next : ℕ) (h : Held) (ins outs : List PortValue) → at next → Moved h ins outs → Went (going_on y b next h) ins outs
  went next h ins outs begins moves = record {
    well = good_body ss (going_on y b next h) Running h.slots (after_with ss b stands next h) phase_is refl refl (goes_on_good ss b stands y.slots good.used next begins h ins outs moves);
    same = moved_same (going_on y b next h) (after_with ss b stands next h) ins outs refl (goes_on_moves ss b stands y.slots good.used next begins h ins outs moves);
  }

  -- a fault changes the phase alone
  fails : (line : ℕ) (fault : Fault) → Went (record y { phase = Faulted line fault }) [] []
  fails line fault = record {
    well = good_body ss (record y { phase = Faulted line fault }) (Faulted line fault) y.slots b refl refl body_is (record { laid = good.laid; words = good.words; fits = stands; used = good.used });
    same = λ x. refl;
  }

  -- ---- a statement of its own

  pub own : (after : Body) (lines : List (List ℕ)) (drops : List ℤ) (cost : ℕ) → action_of b ≡ code.Own after lines drops cost
      → IsGoodStep code_language (IsGood ss) y Nothing (λ c r. onward y (gone_on y after lines drops) [] (vacated y.slots drops) cost)
  own after lines drops cost e =
      let k = keeps ss b stands after lines drops cost e in
      let moves = all_leave y.slots drops (body_ports b) (body_ports after) (λ g. omega (arith, k.1 g)) good.used in
      let z = gone_on y after lines drops in
      quiet_step ss y Nothing (λ c r. onward y z [] (vacated y.slots drops) cost) tt tt
      (λ c r. record { block = refl; next_block = refl; next_channel = refl; starts = refl; cost = own_costs b after lines drops cost e })
      (λ c r all served. good_body ss z Running (all_left y.slots drops) after phase_is refl refl (record { laid = k.0.code; words = k.0.words; fits = k.0; used = moves.used good.used }))
      (λ c r all served may x. omega (arith, moved_same z after [] (vacated y.slots drops) refl moves x, none_got x r.message may.0, none_in (holds code_language x) r.children may.1, count-nil x))

  pub fault_step : (line : ℕ) (fault : Fault) → IsGoodStep code_language (IsGood ss) y Nothing (λ c r. faulted y line fault)
  fault_step line fault =
      quiet_step ss y Nothing (λ c r. faulted y line fault) tt tt
      (λ c r. record { block = refl; next_block = refl; next_channel = refl; starts = refl; cost = omega arith })
      (λ c r all served. (fails line fault).well)
      (λ c r all served may x. omega (arith, (fails line fault).same x, none_got x r.message may.0, none_in (holds code_language x) r.children may.1, count-nil x))

  -- ---- channels

  made_step : (next : ℕ) (words : List ℕ) (n cost : ℕ) → at next → 1 ≤ cost → ((k : ℕ) → slice_any words k → (k < length b.frame.words) × (mask ss b stands k ≡ true))
      → IsGoodStep code_language (IsGood ss) y (New y.next_channel n) (λ c r. made y b next words n cost c)
  made_step next words n cost begins some ports =
      let placed = λ (c : ChanName). place_all (mask ss b stands) (others ss b stands) words (ports_from c n) (holding y b) ports used in
      let gone = λ (c : ChanName). went next (all_placed (holding y b) words (ports_from c n)).0 (ports_from c n) (all_placed (holding y b) words (ports_from c n)).1 begins (placed c) in
      record {
        uses = tt;
        numbered = refl;
        block_is = λ c r. refl;
        later_block = λ c r. omega arith;
        passed_block = λ c r h. absurd (omega (arith, h));
        later_channel = λ c r. omega arith;
        passed_channel = λ c r m k e. omega arith;
        costs = λ c r. some;
        stays_good = λ c r all served. (record { body = (gone c).well.body }, tt);
        account = λ c r all served may x. omega (arith, (gone c).same x, none_got x r.message may.0, none_in (holds code_language x) r.children may.1, emptied_holds x r.children, count-nil x);
      }

  from_on : (first n k : ℕ) → slice_any (words_from first n) k → (first ≤ k) × (k < first + n)
  from_on first zero k h = absurd h
  from_on first (suc n) k (inl e) = (omega (arith, e), omega (arith, e))
  from_on first (suc n) k (inr h) = let r = from_on (suc first) n k h in (omega (arith, r.0), omega (arith, r.1))

  any_of : (xs ys : List ℕ) (k : ℕ) → slice_any (xs ++ ys) k → slice_any xs k ⊎ slice_any ys k
  any_of [] ys k h = inr h
  any_of (x ∷ xs) ys k (inl e) = inl (inl e)
  any_of (x ∷ xs) ys k (inr h) = go (any_of xs ys k h)
    where
      go : slice_any xs k ⊎ slice_any ys k → slice_any (x ∷ xs) k ⊎ slice_any ys k
      go (inl a) = inl (inr a)
      go (inr a) = inr a

  outport_on : (os : List Operand) → AllByRecursion (IsPorts stands.frame.unit.cells) os → (k : ℕ) → slice_any (port_words os) k → (k < length b.frame.words) × (mask ss b stands k ≡ true)
  outport_on [] all k h = absurd h
  outport_on (operand.Value v ∷ os) all k h = outport_on os all.1 k h
  outport_on (operand.Words s ∷ os) all k h = absurd all.0
  outport_on (operand.Ports s ∷ os) all k h = go (any_of (words_from s.first s.count) (port_words os) k h) (outport_on os all.1 k)
    where
      go : slice_any (words_from s.first s.count) k ⊎ slice_any (port_words os) k → (slice_any (port_words os) k → (k < length b.frame.words) × (mask ss b stands k ≡ true)) → (k < length b.frame.words) × (mask ss b stands k ≡ true)
      go (inl a) more =
          let r = from_on s.first s.count k a in
          let room = room_masked ss b stands s true all.0 in
          (omega (arith, r.1, room.end), room.kind k r.0 r.1)
      go (inr a) more = more a

  one_on : (i k : ℕ) → IsPortWord stands.frame.unit.cells b.frame i → k ≡ i → (k < length b.frame.words) × (mask ss b stands k ≡ true)
  one_on i k p e = (omega (arith, p.inside, e), ap (mask ss b stands) e ∙ port_on ss b stands i p)

  pub channel_step : (i o next : ℕ) → IsPortWord stands.frame.unit.cells b.frame i → IsPortWord stands.frame.unit.cells b.frame o → at next → IsGoodStep code_language (IsGood ss) y (New y.next_channel 1) (λ c r. made y b next (i ∷ o ∷ []) 1 1 c)
  channel_step i o next p q begins = made_step next (i ∷ o ∷ []) 1 1 begins (omega arith) both
    where
      both : (k : ℕ) → slice_any (i ∷ o ∷ []) k → (k < length b.frame.words) × (mask ss b stands k ≡ true)
      both k (inl e) = one_on i k p e
      both k (inr (inl e)) = one_on o k q e
      both k (inr (inr h)) = absurd h

  pub merger_step : (i : ℕ) (os : List Operand) (next : ℕ) → IsPortWord stands.frame.unit.cells b.frame i → AllByRecursion (IsPorts stands.frame.unit.cells) os → at next
      → IsGoodStep code_language (IsGood ss) y (New y.next_channel (length (port_words os))) (λ c r. made y b next (i ∷ port_words os) (length (port_words os)) (1 + length (port_words os)) c)
  merger_step i os next p all begins = made_step next (i ∷ port_words os) (length (port_words os)) (1 + length (port_words os)) begins (omega arith) both
    where
      both : (k : ℕ) → slice_any (i ∷ port_words os) k → (k < length b.frame.words) × (mask ss b stands k ≡ true)
      both k (inl e) = one_on i k p e
      both k (inr h) = outport_on os all k h

  -- ---- messages

  live_port : (slot : ℤ) → int_eq slot (pos 0) ≡ false → is_port slot ≡ true
  live_port slot e = ap not e

  -- the port by which a process sends or receives is its own
  pub uses_port : (slot : ℤ) (x : PortValue) → IsSlotWord stands.frame.unit.cells b.frame slot → in_slot y.slots slot ≡ Some x → 1 ≤ count x (held y)
  uses_port slot x w e =
      let g = port_weight y.slots x in
      let on : mask ss b stands (0 + w.number) ≡ true = let z : 0 + w.number ≡ w.number = omega arith in ap (mask ss b stands) z ∙ port_on ss b stands w.number w.word in
      let named : g slot ≡ 1 = ap (λ (o : Option PortValue). one (unwrap_or o no_port) x) e ∙ one_self x in
      omega (
        arith,
        masked_has (mask ss b stands) g 0 b.frame.words w.number slot w.is on,
        ap (λ (t : Bool). cond t (g slot) 0) (live_port slot w.live),
        named,
        others_weigh (mask ss b stands) b.frame.words (others ss b stands) g,
        body_weighs ss b stands g,
        holds_weighs y b body_is x,
      )

  pub send_step : (slot : ℤ) (items : List Operand) (next : ℕ) → IsSlotWord stands.frame.unit.cells b.frame slot → AllByRecursion (IsSendable stands.frame.unit.cells) items → at next
      → IsGoodAsk code_language (IsGood ss) y (sends_by y b (in_slot y.slots slot) (message_from (holding y b) items) next)
  send_step slot items next w all begins = go (in_slot y.slots slot) refl
    where
      go : (o : Option PortValue) → in_slot y.slots slot ≡ o → IsGoodAsk code_language (IsGood ss) y (sends_by y b o (message_from (holding y b) items) next)
      go None e = tt
      go (Some (Reader c)) e = tt
      go (Some (Writer c v)) e =
          let m = message_from (holding y b) items in
          let gone = went next m.0 [] (message_ports m.1) begins (message_out (mask ss b stands) (others ss b stands) items (holding y b) (may_send ss b stands items all) used) in
          quiet_step ss y (Event c (Push v m.1)) (λ n r. sent y b next m) (uses_port slot (Writer c v) w e) tt
          (λ n r. record { block = refl; next_block = refl; next_channel = refl; starts = refl; cost = omega arith })
          (λ n r all served. gone.well)
          (λ n r all served may x. omega (arith, gone.same x, none_got x r.message may.0, none_in (holds code_language x) r.children may.1, count-nil x))

  quiet_on : (z : CodeProc) (drops : List PortValue) (cost : ℕ) → z.next_block ≡ y.next_block → z.next_channel ≡ y.next_channel → 1 ≤ cost → IsQuiet y (onward y z [] drops cost)
  quiet_on z drops cost e f h = record { block = refl; next_block = e; next_channel = f; starts = refl; cost = h }

  plain_status : (status : Option ℕ) (h : Held) → length h.words ≡ length b.frame.words → StatusFits stands.frame.unit.cells b.frame status → (k : ℕ) → status ≡ Some k → (k < length h.words) × (mask ss b stands k ≡ false)
  plain_status None h count s k e = absurd cc
  plain_status (Some j) h count s k e =
      let same : j ≡ k = cc in
      (omega (arith, same, s.inside, count), ap (mask ss b stands) (sym same) ∙ plain_off ss b stands j s)

  module _ (next : ℕ) (items : List Operand) (status at_end : Option ℕ) (all : AllByRecursion (IsTarget stands.frame.unit.cells) items) (fits : StatusFits stands.frame.unit.cells b.frame status) (ends : EndBegins (coded stands.frame.own) stands.frame.lists at_end) (begins : at next) where
    came_quiet : (m : Message) → IsQuiet y (came y b next items status m)
    came_quiet m = quiet_on (going_on y b next (with_status (all_stored (holding y b) items m).0 status (pos 0))) (all_stored (holding y b) items m).1 (1 + message_words m) refl refl (omega arith)

    came_well : (m : Message) → fits_limits (limits_of items) m ≡ true → Went (came y b next items status m).self (message_ports m) (came y b next items status m).drops
    came_well m within =
        let stored = message_in (mask ss b stands) (others ss b stands) items m (holding y b) (may_store ss b stands items all) within used in
        let h = (all_stored (holding y b) items m).0 in
        let noted = status_kept (mask ss b stands) (others ss b stands) h status (pos 0) (plain_status status h stored.count fits) in
        went next (with_status h status (pos 0)) (message_ports m) (all_stored (holding y b) items m).1 begins
        (held_like (then_held stored noted) (λ x. omega (arith, count-append x (message_ports m) [], count-nil x)) (λ x. omega (arith, count-append x (all_stored (holding y b) items m).1 [], count-nil x)))

    ended_quiet : (status at_end : Option ℕ) → IsQuiet y (at_the_end y b next status at_end)
    ended_quiet None None = quiet_on (record y { phase = Faulted (line_of b) EndOfChannel }) [] 1 refl refl (omega arith)
    ended_quiet None (Some to) = quiet_on (going_on y b to (holding y b)) [] 1 refl refl (omega arith)
    ended_quiet (Some k) to = quiet_on (going_on y b (unwrap_or to next) (with_status (holding y b) (Some k) (negsuc 0))) [] 1 refl refl (omega arith)

    end_begins : (o : Option ℕ) → EndBegins (coded stands.frame.own) stands.frame.lists o → at (unwrap_or o next)
    end_begins None e = begins
    end_begins (Some to) e = e

    ended_well : (status at_end : Option ℕ) → StatusFits stands.frame.unit.cells b.frame status → EndBegins (coded stands.frame.own) stands.frame.lists at_end → Went (at_the_end y b next status at_end).self [] (at_the_end y b next status at_end).drops
    ended_well None None s e = fails (line_of b) EndOfChannel
    ended_well None (Some to) s e = went to (holding y b) [] [] e (held_stays (mask ss b stands) (others ss b stands) (holding y b))
    ended_well (Some k) to s e =
        went (unwrap_or to next) (with_status (holding y b) (Some k) (negsuc 0)) [] [] (end_begins to e)
        (status_kept (mask ss b stands) (others ss b stands) (holding y b) (Some k) (negsuc 0) (plain_status (Some k) (holding y b) refl s))

    met_quiet : (t : Bool) (m : Option Message) → IsQuiet y (met y b next items status at_end t m)
    met_quiet true None = quiet_on (record y { phase = Faulted (line_of b) Subscript }) [] 1 refl refl (omega arith)
    met_quiet true (Some m) = came_quiet m
    met_quiet false None = ended_quiet status at_end
    met_quiet false (Some m) = came_quiet m

    met_well : (c : ChanName) (t : Bool) (m : Option Message) → is_served (Event c (Pop (limits_of items))) m ≡ true → Went (met y b next items status at_end t m).self (got m) (met y b next items status at_end t m).drops
    met_well c true None s = fails (line_of b) Subscript
    met_well c true (Some m) s = came_well m s
    met_well c false None s = ended_well status at_end fits ends
    met_well c false (Some m) s = came_well m s

    pub receive_step : (slot : ℤ) → IsSlotWord stands.frame.unit.cells b.frame slot → IsGoodAsk code_language (IsGood ss) y (receives_by y b (in_slot y.slots slot) items status at_end next)
    receive_step slot w = go (in_slot y.slots slot) refl
      where
        go : (o : Option PortValue) → in_slot y.slots slot ≡ o → IsGoodAsk code_language (IsGood ss) y (receives_by y b o items status at_end next)
        go None e = tt
        go (Some (Writer c v)) e = tt
        go (Some (Reader c)) e =
            quiet_step ss y (Event c (Pop (limits_of items))) (λ n r. met y b next items status at_end r.exceeds r.message) (uses_port slot (Reader c) w e) tt
            (λ n r. met_quiet r.exceeds r.message)
            (λ n r all served. (met_well c r.exceeds r.message served).well)
            (λ n r all served may x. omega (arith, (met_well c r.exceeds r.message served).same x, none_in (holds code_language x) r.children may.1, count-nil x))

  pub probe_step : (slot : ℤ) (empty next : ℕ) → IsSlotWord stands.frame.unit.cells b.frame slot → IsPlainWord stands.frame.unit.cells b.frame empty → at next → IsGoodAsk code_language (IsGood ss) y (probes_by y b (in_slot y.slots slot) empty next)
  probe_step slot empty next w p begins = go (in_slot y.slots slot) refl
    where
      go : (o : Option PortValue) → in_slot y.slots slot ≡ o → IsGoodAsk code_language (IsGood ss) y (probes_by y b o empty next)
      go None e = tt
      go (Some (Writer c v)) e = tt
      go (Some (Reader c)) e =
          let gone = λ (t : Bool). went next (with_status (holding y b) (Some empty) (truth_word t)) [] [] begins
          (status_kept (mask ss b stands) (others ss b stands) (holding y b) (Some empty) (truth_word t) (plain_status (Some empty) (holding y b) refl p)) in
          quiet_step ss y (Event c Look) (λ n r. probed y b next empty r.waits) (uses_port slot (Reader c) w e) tt
          (λ n r. record { block = refl; next_block = refl; next_channel = refl; starts = refl; cost = omega arith })
          (λ n r all served. (gone r.waits).well)
          (λ n r all served may x. omega (arith, (gone r.waits).same x, none_got x r.message may.0, none_in (holds code_language x) r.children may.1, count-nil x))

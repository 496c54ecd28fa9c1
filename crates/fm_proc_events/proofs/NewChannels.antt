-- A channel that is made is what the process asked for.
use Rattle.std.proofs.Common.{◌≡◌, ◌+◌, ◌*◌, ◌≤◌, ℕ, zero, suc, Some, None, List, [], length, refl, sym, ap, subst, ◌∙◌, append-nil, arith}
use Rattle.std.proofs.lemmas.List.{length-map}
use Rattle.std.specs.FinMap.{get, insert}
use Rattle.fm_base.specs.declared.path.ChanName.{ChanName}
use Rattle.fm_base.specs.declared.port.PortValue.{PortValue}
use Rattle.fm_base.specs.declared.port.PortValue.TheVariants.{Writer}
use Rattle.fm_base.specs.Channels.{Chans, discarded, fresh, numbers_from, shut, all_shed}
use Rattle.fm_chan.specs.Events.{outports}
use Rattle.fm_finmap.proofs.Adjusts.{adjust-insert}
use Rattle.fm_finmap.proofs.Inserts.{insert_again, insert_here}
use Rattle.fm_net.proofs.Counts.{shut-closed}
use Rattle.fm_net.proofs.Keys.{channel_order}
use Rattle.fm_net.specs.Lawful.{ports_from}
use Rattle.fm_net.specs.Machine.{Place, New, reply_with}
use Rattle.fm_code.specs.declared.body.Body.{Body}
use Rattle.fm_code.specs.Statements.{with_words}
use Rattle.fm_proc_language.specs.Slots.{Slots}
use Rattle.fm_proc_language.specs.Frames.{all_placed}
use Rattle.fm_proc_language.specs.Processes.{CodeProc, made}
use Rattle.fm_proc_language.specs.Needs.{need_in}
use Rattle.fm_proc_slots.specs.Helds.{held}
use Rattle.fm_proc_slots.specs.Rooms.{HasRoom}
use Rattle.fm_proc_slots.specs.declared.open.OpenSlots.{OpenSlots}
use Rattle.fm_proc_events.specs.Makes.{Makes}
use Rattle.fm_proc_events.specs.Performs.{MakesNew, Performs}

-- a channel whose one writer is closed at once
pub no_writer : (m : Chans) (c : ChanName) → shut (Writer c 0) (insert m c (fresh 1)) ≡ insert m c (fresh 0)
no_writer m c =
    shut-closed (Writer c 0) (insert m c (fresh 1))
    ∙ adjust-insert channel_order (insert m c (fresh 1)) c (discarded (Writer c 0)) (fresh 1) (insert_here channel_order m c (fresh 1))
    ∙ insert_again channel_order m c (fresh 1) (fresh 0)

the_body : (a b : Body) → Some a ≡ Some b → a ≡ b
the_body a b e = cc e

abbrev pub name_of : Place → CodeProc → ChanName
name_of p y = record { maker = p; number = y.next_channel }

module _ (p : Place) (y : CodeProc) (cs : Chans) (next : ℕ) (words : List ℕ) (n cost : ℕ) (m : Makes y next words n cost) where
  pub is_absent : MakesNew p y cs → get cs (name_of p y) ≡ None
  is_absent new = new y.next_channel n (ap need_in m.asks_so)

  pub make_body : y.body ≡ None → ⊥
  make_body none = cc (sym none ∙ m.is)

  pub makes : (b : Body) → y.body ≡ Some b
      → (ports : List PortValue) → ports ≡ ports_from (name_of p y) n
      → (after : Body) → after ≡ with_words b next (all_placed (held b.frame.words y.slots) words ports).0.words
      → (slots : Slots) → slots ≡ (all_placed (held b.frame.words y.slots) words ports).0.slots
      → (drops : List PortValue) → drops ≡ (all_placed (held b.frame.words y.slots) words ports).1
      → (mid : Chans) → mid ≡ insert cs (name_of p y) (fresh n)
      → (later : Chans) → later ≡ all_shed drops mid
      → (number : ℕ) → number ≡ suc y.next_channel
      → Performs p y cs (record y { body = Some after; slots = slots; next_channel = number }) [] later cost
  makes b is ports ports_are after after_is slots slots_are drops drops_are mid mid_is later later_is number number_is =
      let c = name_of p y in
      let same : b ≡ m.body = the_body b m.body (sym is ∙ m.is) in
      let made_with = λ (v : Body) (xs : List PortValue). all_placed (held v.frame.words y.slots) words xs in
      let these = ap (λ xs. (made_with b xs).1) ports_are ∙ ap (λ v. (made_with v (ports_from c n)).1) same in
      record {
        need = New y.next_channel n;
        goes = λ d r. made y m.body next words n cost d;
        asks_so = m.asks_so;
        reply = reply_with [];
        comes = refl;
        on = record {
          self = (λ i. record y { body = Some (after_is i); slots = slots_are i; next_channel = number_is i })
              ∙ ap (λ xs. record y { body = Some (with_words b next (made_with b xs).0.words); slots = (made_with b xs).0.slots; next_channel = suc y.next_channel }) ports_are
              ∙ ap (λ v. (made y v next words n cost c).self) same;
          block = refl;
          starts_are = refl;
          chans = later_is ∙ ap (all_shed drops) mid_is ∙ ap (λ zs. all_shed zs (insert cs c (fresh n))) (drops_are ∙ these ∙ sym (append-nil (made_with m.body (ports_from c n)).1));
          cost_is = refl;
        };
      }

-- a channel with so many writers has a port for each, and one to receive by
numbers_length : (i n : ℕ) → length (numbers_from i n) ≡ n
numbers_length i zero = refl
numbers_length i (suc n) = ap suc (numbers_length (suc i) n)

pub outports_length : (c : ChanName) (n : ℕ) → length (outports c n) ≡ n
outports_length c n = length-map (numbers_from 0 n) (λ w. Writer c w) ∙ numbers_length 0 n

pub ports_length : (c : ChanName) (n : ℕ) → length (ports_from c n) ≡ suc n
ports_length c n = ap suc (outports_length c n)

-- room for twice as many as the ports of a new channel is room for these
pub room_for_ports : (o : OpenSlots) (c : ChanName) (n : ℕ) (ports : List PortValue) → ports ≡ ports_from c n → HasRoom o (2 * (n + 1)) → HasRoom o (2 * length ports)
room_for_ports o c n ports is = subst (HasRoom o) (omega (arith, ap length is, ports_length c n))

pub empty_for_ports : (len capacity : ℕ) (c : ChanName) (n : ℕ) (ports : List PortValue) → ports ≡ ports_from c n → len ≡ 0 → n + 1 ≤ capacity → len + length ports ≤ capacity
empty_for_ports len capacity c n ports is none room = omega (arith, ap length is, ports_length c n, none, room)

-- one port is there, and the outports come to it
pub empty_for_outports : (len capacity : ℕ) (c : ChanName) (n : ℕ) (ports : List PortValue) → ports ≡ outports c n → len ≡ 1 → n + 1 ≤ capacity → len + length ports ≤ capacity
empty_for_outports len capacity c n ports is one room = omega (arith, ap length is, outports_length c n, one, room)

-- What ownership says of one port: one that stands somewhere is open, and stands there once and nowhere else.
use Rattle.std.proofs.Common.{◌≡◌, ◌≢◌, ◌≤◌, Option, Some, None, refl, sym, ap, ◌∙◌, subst, arith, ◌⊎◌, inl, inr}
use Rattle.std.specs.FinMap.{get}
use Rattle.fm_base.specs.declared.path.ChanName.{ChanName}
use Rattle.fm_base.specs.declared.port.PortValue.{PortValue}
use Rattle.fm_base.specs.Channels.{Chan, ChannelOp, Push, Pop, Look, channel_of}
use Rattle.fm_finmap.specs.Sums.{total, value_or_zero}
use Rattle.fm_finmap.proofs.Sums.{one_of_total, two_of_total, holder}
use Rattle.fm_net.specs.Machine.{Place, State, Event, Reply, Onward, Go}
use Rattle.fm_net.specs.Language.{Language}
use Rattle.fm_net.specs.Owned.{queued, open_at, opened, IsOwned}
use Rattle.fm_net.specs.Lawful.{port_of, holds, IsLawfulAsk, IsLawfulLanguage, IsLawfulStep}
use Rattle.fm_net.proofs.Keys.{path_order, channel_order}
use Rattle.fm_net.proofs.Counts.{opened_small}
use native.Mathlib.Decide.{ℕ_discrete}

pub channel_there : (z : PortValue) (o : Option Chan) → 1 ≤ open_at z o → (ch : Chan) × (o ≡ Some ch)
unfolding open_at
channel_there z None h = absurd (omega arith)
channel_there z (Some ch) h = (ch, refl)

port_channel : (c : ChanName) (a : ChannelOp) → channel_of (port_of c a) ≡ c
port_channel c (Push w m) = refl
port_channel c (Pop l) = refl
port_channel c Look = refl

module _ {Proc : Type 0} (language : Language Proc) (s : State Proc) (owned : IsOwned language s) where
  part_held : (p : Place) (x : Proc) (z : PortValue) → get s.procs p ≡ Some x → holds language z x ≤ total (holds language z) s.procs
  part_held p x z is = subst (λ o. value_or_zero (holds language z) o ≤ total (holds language z) s.procs) is (one_of_total path_order (holds language z) s.procs p)

  part_queued : (c : ChanName) (ch : Chan) (z : PortValue) → get s.chans c ≡ Some ch → queued z ch ≤ total (queued z) s.chans
  part_queued c ch z is = subst (λ o. value_or_zero (queued z) o ≤ total (queued z) s.chans) is (one_of_total channel_order (queued z) s.chans c)

  most : (z : PortValue) → opened s.chans z ≤ 1
  most z = opened_small z (get s.chans (channel_of z))

  pub held_open : (p : Place) (x : Proc) (z : PortValue) → get s.procs p ≡ Some x → 1 ≤ holds language z x → opened s.chans z ≡ 1
  held_open p x z is h = omega (arith, owned.stands z, part_held p x z is, most z)

  pub queued_open : (c : ChanName) (ch : Chan) (z : PortValue) → get s.chans c ≡ Some ch → 1 ≤ queued z ch → opened s.chans z ≡ 1
  queued_open c ch z is h = omega (arith, owned.stands z, part_queued c ch z is, most z)

  pub held_once : (p : Place) (x : Proc) (z : PortValue) → get s.procs p ≡ Some x → holds language z x ≤ 1
  held_once p x z is = omega (arith, owned.stands z, part_held p x z is, most z)

  pub one_holder : (p q : Place) (x y : Proc) (z : PortValue) → (p ≢ q) → get s.procs p ≡ Some x → get s.procs q ≡ Some y → 1 ≤ holds language z x → holds language z y ≡ 0
  one_holder p q x y z n is_x is_y h =
      omega (arith, owned.stands z, two_of_total path_order (holds language z) s.procs p q n, ap (value_or_zero (holds language z)) is_x, ap (value_or_zero (holds language z)) is_y, most z)

  pub held_or_queued : (p : Place) (x : Proc) (c : ChanName) (ch : Chan) (z : PortValue) → get s.procs p ≡ Some x → get s.chans c ≡ Some ch → 1 ≤ holds language z x → queued z ch ≡ 0
  held_or_queued p x c ch z is_x is_ch h = omega (arith, owned.stands z, part_held p x z is_x, part_queued c ch z is_ch, most z)

  -- an open port stands in a process, or in a message
  pub open_stands : (z : PortValue) → opened s.chans z ≡ 1 → ((p : Place) × (x : Proc) × (get s.procs p ≡ Some x) × (1 ≤ holds language z x)) ⊎ ((c : ChanName) × (ch : Chan) × (get s.chans c ≡ Some ch) × (1 ≤ queued z ch))
  open_stands z is = elim (ℕ_discrete (total (holds language z) s.procs) 0) [
    | yes none ↦
        let h = holder channel_order (queued z) s.chans (omega (arith, owned.stands z)) in
        inr (h.key, h.value, h.is, omega (arith, h.more))
    | no some ↦
        let h = holder path_order (holds language z) s.procs (omega arith) in
        inl (h.key, h.value, h.is, omega (arith, h.more))
  ]

  -- who asks for an event finds its channel, so that it waits for no other thing than a message
  pub event_channel : IsLawfulLanguage language → (p : Place) (x : Proc) (c : ChanName) (a : ChannelOp) (f : ChanName → Reply Proc → Onward Proc) → get s.procs p ≡ Some x → language.ask x ≡ Go (Event c a) f → (ch : Chan) × (get s.chans c ≡ Some ch)
  event_channel laws p x c a f is asks =
      let step : IsLawfulStep language x (Event c a) f = subst (IsLawfulAsk language x) asks (laws.goes x) in
      let h = channel_there (port_of c a) (get s.chans (channel_of (port_of c a))) (omega (arith, held_open p x (port_of c a) is step.uses)) in
      (h.0, ap (get s.chans) (sym (port_channel c a)) ∙ h.1)

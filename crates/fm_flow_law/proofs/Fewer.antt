-- A child comes to no port but those that it began with, where no message has ports: by the account of each step alone.
use Rattle.std.proofs.Common.{◌≡◌, ◌+◌, ◌≤◌, [], refl, ap, arith}
use Rattle.fm_base.specs.declared.path.ChanName.{ChanName}
use Rattle.fm_base.specs.declared.port.PortValue.{PortValue}
use Rattle.fm_net.specs.Machine.{Need, Nothing, Event, New, Children, Reply, Onward}
use Rattle.fm_net.specs.Language.{Language}
use Rattle.fm_net.specs.Owned.{count}
use Rattle.fm_net.specs.Lawful.{IsLawfulStep, MayBring, made_by, given_by, got, holds, sum_of}
use Rattle.fm_flow_law.specs.Pipes.{IsChildNeed}

makes_none : (need : Need) (c : ChanName) (z : PortValue) → IsChildNeed need → count z (made_by need c) ≡ 0
unfolding count
makes_none Nothing c z h = refl
makes_none (Event d a) c z h = refl
makes_none (New n k) c z h = absurd h
makes_none (Children b n) c z h = refl

module _ {Proc : Type 0} (language : Language Proc) (x : Proc) (need : Need) (f : ChanName → Reply Proc → Onward Proc) (step : IsLawfulStep language x need f) where
  pub holds_no_more : IsChildNeed need → (c : ChanName) (r : Reply Proc) → MayBring need r → ((z : PortValue) → count z (got r.message) ≡ 0) → r.children ≡ [] → (z : PortValue) → holds language z (f c r).self ≤ holds language z x
  holds_no_more child c r brings bare none z =
      let a = step.account c r brings z in
      let m = makes_none need c z child in
      let g = bare z in
      let s : sum_of (holds language z) r.children ≡ 0 = ap (sum_of (holds language z)) none in
      omega (arith, a, m, g, s)

  -- and what it lets go or sends was its own
  pub leaves_its_own : IsChildNeed need → (c : ChanName) (r : Reply Proc) → MayBring need r → ((z : PortValue) → count z (got r.message) ≡ 0) → r.children ≡ [] → (z : PortValue)
      → holds language z (f c r).self + count z (f c r).drops + count z (given_by need) ≤ holds language z x
  leaves_its_own child c r brings bare none z =
      let a = step.account c r brings z in
      let m = makes_none need c z child in
      let g = bare z in
      let s : sum_of (holds language z) r.children ≡ 0 = ap (sum_of (holds language z)) none in
      omega (arith, a, m, g, s)

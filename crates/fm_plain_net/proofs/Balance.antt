-- What a step takes out of the kept ports is there, and what is held then is kept.
use Rattle.std.proofs.Common.{◌≡◌, ◌⊎◌, inl, inr, ℕ, ◌+◌, ◌≤◌, None, List, refl, sym, ap, ◌∙◌, subst, arith}
use Rattle.std.specs.FinMap.{get}
use Rattle.fm_base.specs.declared.path.ChanName.{ChanName}
use Rattle.fm_base.specs.declared.port.PortValue.{PortValue}
use Rattle.fm_base.specs.Channels.{ChannelOp, Push, Pop, Look, channel_of}
use Rattle.fm_finmap.specs.Changes.{alters}
use Rattle.fm_finmap.specs.Sums.{total, value_or_zero}
use Rattle.fm_finmap.proofs.Sums.{one_of_total}
use Rattle.fm_net.specs.Machine.{Place, Procs, State, Need, Nothing, Event, New, Children, Reply, Onward, made, chans_after, changes}
use Rattle.fm_net.specs.Owned.{IsOwned, count, name_of}
use Rattle.fm_net.specs.Lawful.{IsLawfulStep, IsLawfulAsk, Uses, MayBring, Numbered, holds, port_of, got, given_by, made_by}
use Rattle.fm_net.proofs.Keys.{path_order}
use Rattle.fm_net.proofs.Counts.{count-nil, count-append, opened_small}
use Rattle.fm_net.proofs.Channels.{opened_after, queued_after}
use Rattle.fm_net.proofs.Processes.{total_changes}
use Rattle.fm_net.proofs.Taken.{Starts, out_of}
use Rattle.fm_net.proofs.Orders.{new_child}
use Rattle.fm_net.proofs.Needs.{no_value}
use Rattle.fm_rules.specs.declared.program.Program.{Program}
use Rattle.fm_mean.specs.Process.{Proc, has_ended, emptied}
use Rattle.fm_mean.specs.Steps.{language}
use Rattle.fm_mean.proofs.Lawful.{lawful}
use Rattle.fm_plain_net.specs.declared.ports.Ports.{Ports}
use Rattle.fm_plain_net.specs.Held.{Carries, HeldAreKept, MayGoOn, came_by, left_by}
use native.Mathlib.Decide.{ℕ_discrete}

-- no need both gives away and gets
one_way : (z : PortValue) (need : Need) (r : Reply Proc) → MayBring need r → (count z (given_by need) ≡ 0) ⊎ (count z (got r.message) ≡ 0)
one_way z Nothing r may = inl (count-nil z)
one_way z (Event c (Push w m)) r may = inr (ap (λ o. count z (got o)) may.0 ∙ count-nil z)
one_way z (Event c (Pop limits)) r may = inl (count-nil z)
one_way z (Event c Look) r may = inl (count-nil z)
one_way z (New n k) r may = inl (count-nil z)
one_way z (Children b n) r may = inl (count-nil z)

-- what gives away makes nothing
no_new : (z : PortValue) (need : Need) (c : ChanName) → (count z (given_by need) ≡ 0) ⊎ (count z (made_by need c) ≡ 0)
no_new z Nothing c = inl (count-nil z)
no_new z (Event d a) c = inr (count-nil z)
no_new z (New n k) c = inl (count-nil z)
no_new z (Children b n) c = inl (count-nil z)

used_port : (ports : List PortValue) (need : Need) → Uses ports need → (c : ChanName) (a : ChannelOp) → need ≡ Event c a → 1 ≤ count (port_of c a) ports
used_port ports need uses c a is = subst (Uses ports) is uses

module _ (program : Program) (s : State Proc) (owned : IsOwned (language program) s) (p : Place) (t : Starts (language program) s p) where
  abbrev o : Onward Proc
  o = out_of (language program) s p t

  abbrev pub procs_after : Procs Proc
  procs_after = alters (changes emptied p t.need o) s.procs

  law : IsLawfulStep (language program) t.self t.need t.goes
  law = subst (IsLawfulAsk (language program) t.self) t.asks ((lawful program).goes t.self)

  fresh_name : (need : Need) → t.need ≡ need → (n w : ℕ) → need ≡ New n w → get s.chans (name_of p n) ≡ None
  fresh_name need is n w e =
      let number_is : n ≡ t.self.next_channel = subst (Numbered t.self.next_channel) (is ∙ e) law.numbered in
      no_value _ (λ h. let g = owned.named p n h in let v : value_or_zero (λ (y : Proc). y.next_channel) (get s.procs p) ≡ t.self.next_channel = ap (value_or_zero (λ (y : Proc). y.next_channel)) t.is in omega arith)

  -- how often a port is held, discarded, given away, got and made
  pub record Balance (z : PortValue) : Type 0 where
    pub even : total (holds (language program) z) procs_after + count z o.drops + count z (given_by t.need) ≡ total (holds (language program) z) s.procs + count z (came_by p t.need t.reply)
    pub small : total (holds (language program) z) procs_after + count z o.drops + count z (given_by t.need) ≤ 1

  pub balance : (z : PortValue) → Balance z
  balance z =
      let new = fresh_name t.need refl in
      let q = queued_after has_ended s.procs s.chans p t.need t.reply z t.serves new in
      let sum = total_changes has_ended emptied s.procs s.chans p t.need t.reply o t.self t.is t.serves (new_child (language program) (lawful program) s p owned t) (holds (language program) z) in
      let account = law.account (made p t.need) t.reply q.1 z in
      let opens = opened_after s.chans p t.need z new in
      let stands = owned.stands z in
      let few = opened_small z (get (chans_after p t.need s.chans) (channel_of z)) in
      let came = count-append z (got t.reply.message) (made_by t.need (made p t.need)) in
      record {
        even = omega (arith, sum, account, came);
        small = elim (one_way z t.need t.reply q.1) [
          | inl none ↦ omega (arith, sum, account, came, q.0, opens, stands, few, none)
          | inr none ↦ omega (arith, sum, account, came, q.0, opens, stands, few, none)
        ];
      }

  held_here : (z : PortValue) → 1 ≤ count z ((language program).held t.self) → 1 ≤ total (holds (language program) z) s.procs
  held_here z h =
      let part : holds (language program) z t.self ≤ total (holds (language program) z) s.procs =
      subst (λ v. value_or_zero (holds (language program) z) v ≤ total (holds (language program) z) s.procs) t.is (one_of_total path_order (holds (language program) z) s.procs p) in
      omega arith

  module _ (ports : Ports) (held : HeldAreKept program ports s.procs) where
    pub may_go_on : MayGoOn ports p t.need t.reply o
    may_go_on = record {
      uses = λ c a is. held (port_of c a) (held_here (port_of c a) (used_port ((language program).held t.self) t.need law.uses c a is));
      given_once = λ z. omega (arith, (balance z).small);
      given = λ z h. held z (given_held z h);
      drops = record {
        once = λ z. omega (arith, (balance z).small);
        kept = λ z h. elim (ℕ_discrete (total (holds (language program) z) s.procs) 0) [
          | yes none ↦ inr (omega (arith, (balance z).even))
          | no some ↦ inl (held z (omega arith))
        ];
      };
    }
      where
        given_held : (z : PortValue) → 1 ≤ count z (given_by t.need) → 1 ≤ total (holds (language program) z) s.procs
        given_held z h =
            let q = queued_after has_ended s.procs s.chans p t.need t.reply z t.serves (fresh_name t.need refl) in
            let came = count-append z (got t.reply.message) (made_by t.need (made p t.need)) in
            elim (one_way z t.need t.reply q.1) [
              | inl none ↦ absurd (omega arith)
              | inr none ↦ elim (no_new z t.need (made p t.need)) [
                | inl off ↦ absurd (omega arith)
                | inr off ↦ omega (arith, (balance z).even, came)
              ]
            ]

    -- what is held after the step is kept
    pub held_after : (later : Ports) → Carries (came_by p t.need t.reply) (left_by t.need o) ports later → (m : Procs Proc) → procs_after ≡ m → HeldAreKept program later m
    held_after later carries m is z h =
        let b = balance z in
        let h' : 1 ≤ total (holds (language program) z) procs_after = subst (λ (n : Procs Proc). 1 ≤ total (holds (language program) z) n) (sym is) h in
        carries z (omega (arith, b.small, count-append z o.drops (given_by t.need))) (elim (ℕ_discrete (total (holds (language program) z) s.procs) 0) [
          | yes none ↦ inr (omega (arith, b.even, b.small))
          | no some ↦ inl (held z (omega arith))
        ])

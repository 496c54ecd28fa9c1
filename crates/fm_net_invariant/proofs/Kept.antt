-- The language of processes that are good where something holds is lawful there, and its machine does the same as that of all processes
-- in any case.
use Rattle.std.proofs.Common.{◌≡◌, ℕ, suc, ◌+◌, ◌≤◌, ◌<◌, Bool, true, false, cond, Option, Some, None, List, [], ◌∷◌, length, map, refl, sym, ap, ◌∙◌, subst, arith}
use Rattle.std.proofs.lemmas.List.{append-nil}
use Rattle.fm_base.specs.declared.path.ChanName.{ChanName}
use Rattle.fm_base.specs.declared.port.PortValue.{PortValue}
use Rattle.fm_base.specs.Channels.{Message, Chan, ChannelOp, Push, Pop, Look, Limits, fits_limits, is_ready, gives, first_message}
use Rattle.fm_net.specs.Machine.{Place, Need, Nothing, Event, New, Children, Reply, Onward, Ask, Stop, Go, State, made, reply_at, served_at}
use Rattle.fm_net.specs.Language.{Language}
use Rattle.fm_net.specs.Lawful.{got, made_by, given_by, MayBring, sum_of, holds, IsLawfulStep, IsLawfulAsk, IsLawfulLanguage}
use Rattle.fm_net.specs.Owned.{count}
use Rattle.fm_net.specs.Typed.{AllIn}
use Rattle.fm_net.specs.Correspondence.{Pairwise, RepliesCorrespond, OnwardsCorrespond, AsksCorrespond, ComesIn, IsCorrespondence, AreAlike}
use Rattle.fm_net.proofs.Counts.{count-append, count-nil}
use Rattle.fm_net.proofs.Correspondences.{alike}
use Rattle.fm_net_invariant.specs.Good.{is_within, is_served, IsGoodStep, IsGoodAsk, IsLawfulWhere, none_served}
use Rattle.fm_net_invariant.specs.Kept.{Kept, bare, all_good, with_facts, bare_reply, without_message, kept_going, kept_ask, kept_language, IsBare}

-- ---- lists

module _ {Proc : Type 0} (T : Type 0) (IsGood : Proc → Type 0) where
  pub bare_facts : (xs : List Proc) (all : T → AllIn IsGood xs) → map (bare T IsGood) (with_facts T IsGood xs all) ≡ xs
  bare_facts [] all = refl
  bare_facts (x ∷ xs) all = ap (λ (ys : List Proc). x ∷ ys) (bare_facts xs (λ t. (all t).1))

  sum_bare : (f : Proc → ℕ) (gs : List (Kept T IsGood)) → sum_of (λ (g : Kept T IsGood). f g.0) gs ≡ sum_of f (map (bare T IsGood) gs)
  sum_bare f [] = refl
  sum_bare f (g ∷ gs) = ap (λ n. f g.0 + n) (sum_bare f gs)

  sum_facts : (f : Proc → ℕ) (xs : List Proc) (all : T → AllIn IsGood xs) → sum_of (λ (g : Kept T IsGood). f g.0) (with_facts T IsGood xs all) ≡ sum_of f xs
  sum_facts f xs all = sum_bare f (with_facts T IsGood xs all) ∙ ap (sum_of f) (bare_facts xs all)

  length_facts : (xs : List Proc) (all : T → AllIn IsGood xs) → length (with_facts T IsGood xs all) ≡ length xs
  length_facts [] all = refl
  length_facts (x ∷ xs) all = ap suc (length_facts xs (λ t. (all t).1))

  none_bare : (gs : List (Kept T IsGood)) → gs ≡ [] → map (bare T IsGood) gs ≡ []
  none_bare gs e = ap (map (bare T IsGood)) e

  -- ---- replies

  may_bare : (need : Need) (u : Reply (Kept T IsGood)) → MayBring need u → MayBring need (bare_reply T IsGood u)
  may_bare Nothing u may = (may.0, none_bare u.children may.1)
  may_bare (Event c a) u may = (may.0, none_bare u.children may.1)
  may_bare (New n k) u may = (may.0, none_bare u.children may.1)
  may_bare (Children b n) u may = may

  may_without : (need : Need) (u : Reply (Kept T IsGood)) → MayBring need u → MayBring need (without_message T IsGood (bare_reply T IsGood u))
  may_without Nothing u may = (refl, none_bare u.children may.1)
  may_without (Event c (Push w m)) u may = (refl, none_bare u.children may.1)
  may_without (Event c (Pop limits)) u may = (tt, none_bare u.children may.1)
  may_without (Event c Look) u may = (refl, none_bare u.children may.1)
  may_without (New n k) u may = (refl, none_bare u.children may.1)
  may_without (Children b n) u may = refl

-- ---- the language is lawful

module _ {Proc : Type 0} (language : Language Proc) (T : Type 0) (IsGood : Proc → Type 0) (law : T → IsLawfulWhere language IsGood) where
  abbrev kepts : Language (Kept T IsGood)
  kepts = kept_language language T IsGood law

  module _ (x : Proc) (good : T → IsGood x) (need : Need) (f : ChanName → Reply Proc → Onward Proc) (step : T → IsGoodStep language IsGood x need f) (holds_now : T) where
    abbrev going : ChanName → (u : Reply (Kept T IsGood)) (b : Bool) → is_served need u.message ≡ b → Onward (Kept T IsGood)
    going = kept_going language T IsGood x need f step

    block_of : (c : ChanName) (u : Reply (Kept T IsGood)) (b : Bool) (e : is_served need u.message ≡ b) → (going c u b e).block ≡ language.next_block x
    block_of c u true e = (step holds_now).block_is c (bare_reply T IsGood u)
    block_of c u false e = (step holds_now).block_is c (without_message T IsGood (bare_reply T IsGood u))

    later_of : (c : ChanName) (u : Reply (Kept T IsGood)) (b : Bool) (e : is_served need u.message ≡ b) → language.next_block x ≤ language.next_block (going c u b e).self.0
    later_of c u true e = (step holds_now).later_block c (bare_reply T IsGood u)
    later_of c u false e = (step holds_now).later_block c (without_message T IsGood (bare_reply T IsGood u))

    passed_of : (c : ChanName) (u : Reply (Kept T IsGood)) (b : Bool) (e : is_served need u.message ≡ b) → 1 ≤ length (going c u b e).starts → language.next_block x < language.next_block (going c u b e).self.0
    passed_of c u true e h =
        let o = f c (bare_reply T IsGood u) in
        (step holds_now).passed_block c (bare_reply T IsGood u) (omega (arith, h, length_facts T IsGood o.starts (λ t. ((step t).stays_good c (bare_reply T IsGood u) (all_good T IsGood u.children t) e).1)))
    passed_of c u false e h =
        let r = without_message T IsGood (bare_reply T IsGood u) in
        let o = f c r in
        (step holds_now).passed_block c r (omega (arith, h, length_facts T IsGood o.starts (λ t. ((step t).stays_good c r (all_good T IsGood u.children t) (none_served need)).1)))

    later_channel_of : (c : ChanName) (u : Reply (Kept T IsGood)) (b : Bool) (e : is_served need u.message ≡ b) → language.next_channel x ≤ language.next_channel (going c u b e).self.0
    later_channel_of c u true e = (step holds_now).later_channel c (bare_reply T IsGood u)
    later_channel_of c u false e = (step holds_now).later_channel c (without_message T IsGood (bare_reply T IsGood u))

    passed_channel_of : (c : ChanName) (u : Reply (Kept T IsGood)) (b : Bool) (e : is_served need u.message ≡ b) (n k : ℕ) → need ≡ New n k → language.next_channel x < language.next_channel (going c u b e).self.0
    passed_channel_of c u true e n k is = (step holds_now).passed_channel c (bare_reply T IsGood u) n k is
    passed_channel_of c u false e n k is = (step holds_now).passed_channel c (without_message T IsGood (bare_reply T IsGood u)) n k is

    cost_of : (c : ChanName) (u : Reply (Kept T IsGood)) (b : Bool) (e : is_served need u.message ≡ b) → 1 ≤ (going c u b e).cost
    cost_of c u true e = (step holds_now).costs c (bare_reply T IsGood u)
    cost_of c u false e = (step holds_now).costs c (without_message T IsGood (bare_reply T IsGood u))

    account_of : (c : ChanName) (u : Reply (Kept T IsGood)) (b : Bool) (e : is_served need u.message ≡ b) → MayBring need u → (z : PortValue)
        → holds kepts z (going c u b e).self + sum_of (holds kepts z) (going c u b e).starts + count z (going c u b e).drops + count z (given_by need) + sum_of (λ (k : Kept T IsGood). holds kepts z (kepts.emptied k)) u.children
        ≡ holds language z x + count z (got u.message) + count z (made_by need c) + sum_of (holds kepts z) u.children
    account_of c u true e may z =
        let r = bare_reply T IsGood u in
        let o = f c r in
        omega (
          arith,
          (step holds_now).account c r (all_good T IsGood u.children holds_now) e (may_bare T IsGood need u may) z,
          sum_facts T IsGood (holds language z) o.starts (λ t. ((step t).stays_good c r (all_good T IsGood u.children t) e).1),
          sum_bare T IsGood (holds language z) u.children,
          sum_bare T IsGood (λ (k : Proc). holds language z (language.emptied k)) u.children,
          count-append z o.drops [],
          count-nil z,
        )
    account_of c u false e may z =
        let r = without_message T IsGood (bare_reply T IsGood u) in
        let o = f c r in
        omega (
          arith,
          (step holds_now).account c r (all_good T IsGood u.children holds_now) (none_served need) (may_without T IsGood need u may) z,
          sum_facts T IsGood (holds language z) o.starts (λ t. ((step t).stays_good c r (all_good T IsGood u.children t) (none_served need)).1),
          sum_bare T IsGood (holds language z) u.children,
          sum_bare T IsGood (λ (k : Proc). holds language z (language.emptied k)) u.children,
          count-append z o.drops (got u.message),
          count-nil z,
        )

    lawful_step : IsLawfulStep kepts (x, good) need (λ c u. going c u (is_served need u.message) refl)
    lawful_step = record {
      uses = (step holds_now).uses;
      numbered = (step holds_now).numbered;
      block_is = λ c u. block_of c u (is_served need u.message) refl;
      later_block = λ c u. later_of c u (is_served need u.message) refl;
      passed_block = λ c u. passed_of c u (is_served need u.message) refl;
      later_channel = λ c u. later_channel_of c u (is_served need u.message) refl;
      passed_channel = λ c u. passed_channel_of c u (is_served need u.message) refl;
      costs = λ c u. cost_of c u (is_served need u.message) refl;
      account = λ c u. account_of c u (is_served need u.message) refl;
    }

  lawful_ask : T → (x : Proc) (good : T → IsGood x) (a : Ask Proc) (step : T → IsGoodAsk language IsGood x a) → IsLawfulAsk kepts (x, good) (kept_ask language T IsGood x a step)
  lawful_ask now x good Stop step = tt
  lawful_ask now x good (Go need f) step = lawful_step x good need f step now

  stopped : (x : Proc) (a : Ask Proc) (step : T → IsGoodAsk language IsGood x a) → a ≡ Stop → kept_ask language T IsGood x a step ≡ Stop
  stopped x Stop step e = refl
  stopped x (Go need f) step e = absurd (cc)

  pub kept_lawful : T → IsLawfulLanguage kepts
  kept_lawful now = record {
    stops = λ g done. stopped g.0 (language.ask g.0) (λ t. (law t).goes g.0 (g.1 t)) ((law now).stops g.0 (g.1 now) done);
    stays_ended = λ g done. (law now).stays_ended g.0 (g.1 now) done;
    same_block = λ g. (law now).same_block g.0 (g.1 now);
    same_channel = λ g. (law now).same_channel g.0 (g.1 now);
    goes = λ g. lawful_ask now g.0 g.1 (language.ask g.0) (λ t. (law t).goes g.0 (g.1 t));
  }

  -- ---- and does the same

  abbrev Bare : Proc → Kept T IsGood → Type 0
  Bare = IsBare language T IsGood

  abbrev pub Anyway : State (Kept T IsGood) → Type 0
  Anyway s = Unit {0}

  children_bare : (xs : List Proc) (gs : List (Kept T IsGood)) → Pairwise Bare xs gs → xs ≡ map (bare T IsGood) gs
  children_bare [] [] h = refl
  children_bare [] (g ∷ gs) h = absurd h
  children_bare (x ∷ xs) [] h = absurd h
  children_bare (x ∷ xs) (g ∷ gs) h = λ i. h.0 i ∷ children_bare xs gs h.1 i

  starts_bare : (xs : List Proc) (all : T → AllIn IsGood xs) → Pairwise Bare xs (with_facts T IsGood xs all)
  starts_bare [] all = tt
  starts_bare (x ∷ xs) all = (refl, starts_bare xs (λ t. (all t).1))

  replies_bare : (r : Reply Proc) (u : Reply (Kept T IsGood)) → RepliesCorrespond Bare r u → r ≡ bare_reply T IsGood u
  replies_bare r u h = λ i. record { message = h.message i; exceeds = h.exceeds i; waits = h.waits i; children = children_bare r.children u.children h.children i }

  -- no machine brings a message that exceeds the limits
  first_within : (limits : Limits) (ms : List Message) → is_within (Pop limits) (first_message limits ms) ≡ true
  first_within limits [] = refl
  first_within limits (m ∷ ms) = go (fits_limits limits m) refl
    where
      go : (b : Bool) → fits_limits limits m ≡ b → is_within (Pop limits) (cond b (Some m) None) ≡ true
      go true e = e
      go false e = refl

  gives_within : (a : ChannelOp) (ch : Chan) → is_within a (gives a ch) ≡ true
  gives_within (Push w m) ch = refl
  gives_within (Pop limits) ch = first_within limits ch.queue
  gives_within Look ch = refl

  some_reply : (r u : Reply (Kept T IsGood)) → Some r ≡ Some u → r ≡ u
  some_reply r u e = cc

  event_within : (a : ChannelOp) (o : Option Chan) (u : Reply (Kept T IsGood)) → served_at a o ≡ Some u → is_within a u.message ≡ true
  event_within a None u e = absurd (cc)
  event_within a (Some ch) u e = go (is_ready a ch) e
    where
      go : (b : Bool) → cond b (Some (reply_at a ch)) None ≡ Some u → is_within a u.message ≡ true
      go true h = subst (λ (r : Reply (Kept T IsGood)). is_within a r.message ≡ true) (some_reply (reply_at a ch) u h) (gives_within a ch)
      go false h = absurd (cc)

  comes_within : (s : State (Kept T IsGood)) (p : Place) (need : Need) (u : Reply (Kept T IsGood)) → ComesIn kepts s p need u → is_served need u.message ≡ true
  comes_within s p Nothing u comes = refl
  comes_within s p (Event c a) u comes = event_within a _ u comes
  comes_within s p (New n k) u comes = refl
  comes_within s p (Children b n) u comes = refl

  onward_bare : (x : Proc) (need : Need) (f : ChanName → Reply Proc → Onward Proc) (step : T → IsGoodStep language IsGood x need f) (c : ChanName) (u : Reply (Kept T IsGood)) (b : Bool) (e : is_served need u.message ≡ b)
      → b ≡ true → OnwardsCorrespond Bare (f c (bare_reply T IsGood u)) (kept_going language T IsGood x need f step c u b e)
  onward_bare x need f step c u false e h = absurd (cc)
  onward_bare x need f step c u true e h = record {
    self = refl;
    block = refl;
    starts = starts_bare (f c (bare_reply T IsGood u)).starts (λ t. ((step t).stays_good c (bare_reply T IsGood u) (all_good T IsGood u.children t) e).1);
    drops = sym (append-nil (f c (bare_reply T IsGood u)).drops);
    cost = refl;
  }

  asks_bare : (s : State (Kept T IsGood)) (p : Place) (x : Proc) (a : Ask Proc) (step : T → IsGoodAsk language IsGood x a) → AsksCorrespond Bare (ComesIn kepts s) p a (kept_ask language T IsGood x a step)
  asks_bare s p x Stop step = tt
  asks_bare s p x (Go need f) step = (
    refl,
    λ r u comes same.
        subst (λ (r : Reply Proc). OnwardsCorrespond Bare (f (made p need) r) (kept_going language T IsGood x need f step (made p need) u (is_served need u.message) refl)) (sym (replies_bare r u same))
        (onward_bare x need f step (made p need) u (is_served need u.message) refl (comes_within s p need u comes)),
  )

  pub kept_correspond : IsCorrespondence Bare Anyway kepts language
  kept_correspond = record {
    stays_live = λ s p live can. tt;
    asks = λ s live p g x at is. subst (λ (y : Proc). AsksCorrespond Bare (ComesIn kepts s) p (language.ask y) (kepts.ask g)) (sym is) (asks_bare s p g.0 (language.ask g.0) (λ t. (law t).goes g.0 (g.1 t)));
    ended = λ g x is. ap language.has_ended is;
    emptied = λ g x done is. ap language.emptied is;
  }

  pub kept_alike : AreAlike Bare Anyway kepts language
  kept_alike = alike kepts language Bare Anyway kept_correspond

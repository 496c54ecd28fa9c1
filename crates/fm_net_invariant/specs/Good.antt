-- Languages that account for their ports where their processes are good: a fact of processes that steps keep. A good process owes what
-- one of a lawful language owes, for the replies that a machine gives: the children that come are good, and a message is within the
-- limits of its receive. The good processes are then a lawful language by themselves.
-- Source: this profile.
use Rattle.std.specs.Prelude.{◌≡◌, ℕ, ◌+◌, ◌<◌, ◌≤◌, Bool, true, false, Option, Some, None, List, [], ◌∷◌, ◌++◌, length, map, refl}
use Rattle.fm_base.specs.declared.path.ChanName.{ChanName}
use Rattle.fm_base.specs.declared.port.PortValue.{PortValue}
use Rattle.fm_base.specs.Channels.{Message, ChannelOp, Push, Pop, Look, fits_limits}
use Rattle.fm_net.specs.Machine.{Need, Nothing, Event, New, Children, Reply, Onward, Ask, Stop, Go}
use Rattle.fm_net.specs.Language.{Language}
use Rattle.fm_net.specs.Lawful.{Uses, Numbered, given_by, got, made_by, MayBring, sum_of, holds}
use Rattle.fm_net.specs.Owned.{count}
use Rattle.fm_net.specs.Typed.{AllIn}

-- what an event may bring: a receive no message that exceeds its limits
abbrev pub is_within : ChannelOp → Option Message → Bool
is_within (Push w m) r = true
is_within (Pop limits) None = true
is_within (Pop limits) (Some m) = fits_limits limits m
is_within Look r = true

abbrev pub is_served : Need → Option Message → Bool
is_served Nothing r = true
is_served (Event c a) r = is_within a r
is_served (New n k) r = true
is_served (Children b n) r = true

module _ {Proc : Type 0} (language : Language Proc) (IsGood : Proc → Type 0) where
  -- what a good process owes that goes on
  pub record IsGoodStep (x : Proc) (need : Need) (f : ChanName → Reply Proc → Onward Proc) : Type 0 where
    pub uses : Uses (language.held x) need
    pub numbered : Numbered (language.next_channel x) need
    pub block_is : (c : ChanName) (r : Reply Proc) → (f c r).block ≡ language.next_block x
    pub later_block : (c : ChanName) (r : Reply Proc) → language.next_block x ≤ language.next_block (f c r).self
    pub passed_block : (c : ChanName) (r : Reply Proc) → 1 ≤ length (f c r).starts → language.next_block x < language.next_block (f c r).self
    pub later_channel : (c : ChanName) (r : Reply Proc) → language.next_channel x ≤ language.next_channel (f c r).self
    pub passed_channel : (c : ChanName) (r : Reply Proc) (n k : ℕ) → need ≡ New n k → language.next_channel x < language.next_channel (f c r).self
    pub costs : (c : ChanName) (r : Reply Proc) → 1 ≤ (f c r).cost
    -- it stays good, and so are the children that it starts
    pub stays_good : (c : ChanName) (r : Reply Proc) → AllIn IsGood r.children → is_served need r.message ≡ true → IsGood (f c r).self × AllIn IsGood (f c r).starts
    -- each port comes out as often as it went in
    pub account : (c : ChanName) (r : Reply Proc) → AllIn IsGood r.children → is_served need r.message ≡ true → MayBring need r → (z : PortValue)
        → holds language z (f c r).self + sum_of (holds language z) (f c r).starts + count z (f c r).drops + count z (given_by need) + sum_of (λ k. holds language z (language.emptied k)) r.children
        ≡ holds language z x + count z (got r.message) + count z (made_by need c) + sum_of (holds language z) r.children

  abbrev pub IsGoodAsk : Proc → Ask Proc → Type 0
  IsGoodAsk x Stop = Unit {0}
  IsGoodAsk x (Go need f) = IsGoodStep x need f

  -- what a language owes where its processes are good
  pub record IsLawfulWhere : Type 0 where
    pub stops : (x : Proc) → IsGood x → language.has_ended x ≡ true → language.ask x ≡ Stop
    pub stays_ended : (x : Proc) → IsGood x → language.has_ended x ≡ true → language.has_ended (language.emptied x) ≡ true
    pub same_block : (x : Proc) → IsGood x → language.next_block (language.emptied x) ≡ language.next_block x
    pub same_channel : (x : Proc) → IsGood x → language.next_channel (language.emptied x) ≡ language.next_channel x
    pub empties : (x : Proc) → IsGood x → IsGood (language.emptied x)
    pub goes : (x : Proc) → IsGood x → IsGoodAsk x (language.ask x)

-- Good processes.

abbrev pub Good : {Proc : Type 0} → (Proc → Type 0) → Type 0
Good {Proc} IsGood = (x : Proc) × IsGood x

module _ {Proc : Type 0} (IsGood : Proc → Type 0) where
  -- the process itself
  abbrev pub bare : Good IsGood → Proc
  bare g = g.0

  abbrev pub all_good : (gs : List (Good IsGood)) → AllIn IsGood (map bare gs)
  all_good [] = tt
  all_good (g ∷ gs) = (g.1, all_good gs)

  -- each with what makes it good
  abbrev pub with_facts : (xs : List Proc) → AllIn IsGood xs → List (Good IsGood)
  with_facts [] all = []
  with_facts (x ∷ xs) all = (x, all.0) ∷ with_facts xs all.1

  abbrev pub bare_reply : Reply (Good IsGood) → Reply Proc
  bare_reply u = record { message = u.message; exceeds = u.exceeds; waits = u.waits; children = map bare u.children }

  abbrev pub without_message : Reply Proc → Reply Proc
  without_message r = record r { message = None }

  abbrev pub good_onward : (o : Onward Proc) → IsGood o.self × AllIn IsGood o.starts → (more : List PortValue) → Onward (Good IsGood)
  good_onward o good more = record { self = (o.self, good.0); block = o.block; starts = with_facts o.starts good.1; drops = o.drops ++ more; cost = o.cost }

-- a reply that brings no message is within each limit
abbrev pub none_served : (need : Need) → is_served need None ≡ true
none_served Nothing = refl
none_served (Event c (Push w m)) = refl
none_served (Event c (Pop limits)) = refl
none_served (Event c Look) = refl
none_served (New n k) = refl
none_served (Children b n) = refl

module _ {Proc : Type 0} (language : Language Proc) (IsGood : Proc → Type 0) where
  -- with a message that no machine brings a process goes on as without it, and lets its ports go
  abbrev pub good_going : (x : Proc) (need : Need) (f : ChanName → Reply Proc → Onward Proc) → IsGoodStep language IsGood x need f → ChanName → (u : Reply (Good IsGood))
      → (b : Bool) → is_served need u.message ≡ b → Onward (Good IsGood)
  good_going x need f step c u true e = good_onward IsGood (f c (bare_reply IsGood u)) (step.stays_good c (bare_reply IsGood u) (all_good IsGood u.children) e) []
  good_going x need f step c u false e =
      good_onward IsGood (f c (without_message IsGood (bare_reply IsGood u)))
      (step.stays_good c (without_message IsGood (bare_reply IsGood u)) (all_good IsGood u.children) (none_served need)) (got u.message)

  abbrev pub good_ask : (x : Proc) (a : Ask Proc) → IsGoodAsk language IsGood x a → Ask (Good IsGood)
  good_ask x Stop step = Stop
  good_ask x (Go need f) step = Go need (λ c u. good_going x need f step c u (is_served need u.message) refl)

  -- the language of the good processes
  abbrev pub good_language : IsLawfulWhere language IsGood → Language (Good IsGood)
  good_language law = record {
    ask = λ g. good_ask g.0 (language.ask g.0) (law.goes g.0 g.1);
    has_ended = λ g. language.has_ended g.0;
    emptied = λ g. (language.emptied g.0, law.empties g.0 g.1);
    held = λ g. language.held g.0;
    next_block = λ g. language.next_block g.0;
    next_channel = λ g. language.next_channel g.0;
  }

  -- a process of the language corresponds to the good one that it is
  abbrev pub IsBare : Proc → Good IsGood → Type 0
  IsBare x g = x ≡ g.0

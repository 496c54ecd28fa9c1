-- Processes that are good where something holds, such as that an image makes sense: the language of these is there in any case, and it is
-- lawful where that holds. So what runs can be told before it is known that it holds.
-- Source: this profile.
use Rattle.std.specs.Prelude.{◌≡◌, Bool, true, false, None, List, [], ◌∷◌, ◌++◌, map, refl}
use Rattle.fm_base.specs.declared.path.ChanName.{ChanName}
use Rattle.fm_base.specs.declared.port.PortValue.{PortValue}
use Rattle.fm_net.specs.Machine.{Need, Reply, Onward, Ask, Stop, Go}
use Rattle.fm_net.specs.Language.{Language}
use Rattle.fm_net.specs.Lawful.{got}
use Rattle.fm_net.specs.Typed.{AllIn}
use Rattle.fm_net_invariant.specs.Good.{is_served, none_served, IsGoodStep, IsGoodAsk, IsLawfulWhere}

-- a process, and that it is good where T holds
abbrev pub Kept : {Proc : Type 0} → (T : Type 0) → (Proc → Type 0) → Type 0
Kept {Proc} T IsGood = (x : Proc) × (T → IsGood x)

module _ {Proc : Type 0} (T : Type 0) (IsGood : Proc → Type 0) where
  -- the process itself
  abbrev pub bare : Kept T IsGood → Proc
  bare g = g.0

  abbrev pub all_good : (gs : List (Kept T IsGood)) → T → AllIn IsGood (map bare gs)
  all_good [] t = tt
  all_good (g ∷ gs) t = (g.1 t, all_good gs t)

  -- each with what makes it good
  abbrev pub with_facts : (xs : List Proc) → (T → AllIn IsGood xs) → List (Kept T IsGood)
  with_facts [] all = []
  with_facts (x ∷ xs) all = (x, λ t. (all t).0) ∷ with_facts xs (λ t. (all t).1)

  abbrev pub bare_reply : Reply (Kept T IsGood) → Reply Proc
  bare_reply u = record { message = u.message; exceeds = u.exceeds; waits = u.waits; children = map bare u.children }

  abbrev pub without_message : Reply Proc → Reply Proc
  without_message r = record r { message = None }

  abbrev pub kept_onward : (o : Onward Proc) → (T → IsGood o.self × AllIn IsGood o.starts) → (more : List PortValue) → Onward (Kept T IsGood)
  kept_onward o good more = record { self = (o.self, λ t. (good t).0); block = o.block; starts = with_facts o.starts (λ t. (good t).1); drops = o.drops ++ more; cost = o.cost }

module _ {Proc : Type 0} (language : Language Proc) (T : Type 0) (IsGood : Proc → Type 0) where
  -- with a message that no machine brings a process goes on as without it, and lets its ports go
  abbrev pub kept_going : (x : Proc) (need : Need) (f : ChanName → Reply Proc → Onward Proc) → (T → IsGoodStep language IsGood x need f) → ChanName → (u : Reply (Kept T IsGood))
      → (b : Bool) → is_served need u.message ≡ b → Onward (Kept T IsGood)
  kept_going x need f step c u true e = kept_onward T IsGood (f c (bare_reply T IsGood u)) (λ t. (step t).stays_good c (bare_reply T IsGood u) (all_good T IsGood u.children t) e) []
  kept_going x need f step c u false e =
      kept_onward T IsGood (f c (without_message T IsGood (bare_reply T IsGood u)))
      (λ t. (step t).stays_good c (without_message T IsGood (bare_reply T IsGood u)) (all_good T IsGood u.children t) (none_served need)) (got u.message)

  abbrev pub kept_ask : (x : Proc) (a : Ask Proc) → (T → IsGoodAsk language IsGood x a) → Ask (Kept T IsGood)
  kept_ask x Stop step = Stop
  kept_ask x (Go need f) step = Go need (λ c u. kept_going x need f step c u (is_served need u.message) refl)

  -- the language of the processes that are good where T holds
  abbrev pub kept_language : (T → IsLawfulWhere language IsGood) → Language (Kept T IsGood)
  kept_language law = record {
    ask = λ g. kept_ask g.0 (language.ask g.0) (λ t. (law t).goes g.0 (g.1 t));
    has_ended = λ g. language.has_ended g.0;
    emptied = λ g. (language.emptied g.0, λ t. (law t).empties g.0 (g.1 t));
    held = λ g. language.held g.0;
    next_block = λ g. language.next_block g.0;
    next_channel = λ g. language.next_channel g.0;
  }

  -- a process of the language corresponds to the kept one that it is
  abbrev pub IsBare : Proc → Kept T IsGood → Type 0
  IsBare x g = x ≡ g.0

-- What processes on hosts ask for and how they go on, as it is told in memory.
-- Source: this profile, after the machine of processes over channels.
use Rattle.std.specs.Prelude.{◌≡◌, ℕ, ℤ, Bool, false, cond, Option, Some, None, option_map, List, [], ◌∷◌, length, map}
use Rattle.fm_base.specs.declared.port.PortValue.{PortValue}
use Rattle.fm_base.specs.Channels.{Words, Push, Pop}
use Rattle.std.specs.FinMap.{get, insert}
use Rattle.fm_base.specs.declared.path.ChanName.{ChanName}
use Rattle.fm_net.specs.Language.{Language}
use Rattle.fm_net.specs.Machine.{Place, Procs, Need, Nothing, Event, New, Children, Reply, Onward, Ask, Stop, Go, reply_with}
use Rattle.fm_nodes_procs.specs.declared.runner.Asked.{Asked}
use Rattle.fm_nodes_procs.specs.declared.runner.Asked.TheVariants as asked

-- what is asked for, where something is
abbrev pub need_asked : {Proc : Type 0} → Ask Proc → Option Need
need_asked Stop = None
need_asked (Go need f) = Some need

-- and as it is told
abbrev pub need_told : Asked → Option Need
need_told asked.Rests = None
need_told asked.Goes = Some Nothing
need_told (asked.Makes number has_writer) = Some (New number (cond has_writer 1 0))
need_told (asked.Sends channel writer words) = Some (Event channel (Push writer (map Words words)))
need_told (asked.Receives channel limits) = Some (Event channel (Pop limits.items))
need_told (asked.Joins block count) = Some (Children block count)

-- the reply with the message of these words, or with none
abbrev pub came_with : {Proc : Type 0} → Option (List (List ℤ)) → (exceeds : Bool) → Reply Proc
came_with message exceeds = record { message = option_map (map Words) message; exceeds = exceeds; waits = false; children = [] }

-- so many children start with the next step, in this block
abbrev pub StartsSo : {Proc : Type 0} → Ask Proc → (block count : ℕ) → Type 0
StartsSo Stop b n = Unit {0}
StartsSo {Proc} (Go need f) b n = (c : ChanName) (r : Reply Proc) → ((f c r).block ≡ b) × (length (f c r).starts ≡ n)

-- a process went on as it owes: itself, its children, the ports that it lets go, and the cost
pub record GoesSo {Proc : Type 0} (after : Proc) (starts : List Proc) (drops : List PortValue) (cost : ℕ) (o : Onward Proc) : Type 0 where
  pub self_is : after ≡ o.self
  pub starts_are : starts ≡ o.starts
  pub drops_are : drops ≡ o.drops
  pub cost_is : cost ≡ o.cost

-- this is what these children left, one after the other
abbrev pub AllLeft : {Proc Left : Type 0} → (Proc → Left → Type 0) → List Proc → List Left → Type 0
AllLeft Is [] [] = Unit {0}
AllLeft Is [] (l ∷ ls) = ⊥
AllLeft Is (x ∷ xs) [] = ⊥
AllLeft Is (x ∷ xs) (l ∷ ls) = Is x l × AllLeft Is xs ls

-- the process at a place made a step that needs nothing and starts nobody: it lets these ports go at this cost, and is another one then
pub record StepsAlone {Proc : Type 0} (language : Language Proc) (before : Procs Proc) (p : Place) (drops : List PortValue) (cost : ℕ) (after : Procs Proc) : Type 0 where
  pub self : Proc
  pub is : get before p ≡ Some self
  pub goes : ChanName → Reply Proc → Onward Proc
  pub asks : language.ask self ≡ Go Nothing goes
  pub later : Proc
  pub so : (c : ChanName) → GoesSo later [] drops cost (goes c (reply_with []))
  pub after_is : after ≡ insert before p later

-- the process at a place went on as it owes
pub record GoesAt {Proc : Type 0} (before : Procs Proc) (p : Place) (starts : List Proc) (drops : List PortValue) (cost : ℕ) (after : Procs Proc) (o : Onward Proc) : Type 0 where
  pub after_is : after ≡ insert before p o.self
  pub starts_are : starts ≡ o.starts
  pub drops_are : drops ≡ o.drops
  pub cost_is : cost ≡ o.cost

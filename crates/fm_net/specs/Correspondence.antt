-- Two languages whose processes correspond: they need the same, and go on alike with replies that
-- correspond. `Corresponds y x` is the relation of a process of the second with one of the first, and
-- `IsLive` a fact of the first machine's states in which it is asked for.
-- Source: bisimulation in the usual sense of process calculi, for the languages of this profile.
use Rattle.std.specs.Prelude.{◌≡◌, true, Option, Some, None, List, [], ◌∷◌}
use Rattle.std.specs.FinMap.{get}
use Rattle.fm_sched.specs.Schedule.{Can, next, IsLegal}
use Rattle.fm_sched.specs.Simulation.{IsBisimulation, DoTheSame}
use Rattle.fm_net.specs.Machine.{Place, Need, Reply, Onward, Ask, Stop, Go, State, made, served}
use Rattle.fm_net.specs.Language.{Language, language_step}
use Rattle.fm_net.specs.Owned.{main_alone}
use Rattle.fm_net.specs.Starts.{starts_of}

module _ {P Q : Type 0} (Relates : Q → P → Type 0) where
  -- both are there and related, or neither is
  abbrev pub BothOrNeither : Option Q → Option P → Type 0
  BothOrNeither None None = Unit {0}
  BothOrNeither None (Some x) = ⊥
  BothOrNeither (Some y) None = ⊥
  BothOrNeither (Some y) (Some x) = Relates y x

  -- as many in the one as in the other, each related to its like
  abbrev pub Pairwise : List Q → List P → Type 0
  Pairwise [] [] = Unit {0}
  Pairwise [] (x ∷ xs) = ⊥
  Pairwise (y ∷ ys) [] = ⊥
  Pairwise (y ∷ ys) (x ∷ xs) = Relates y x × Pairwise ys xs

module _ {P Q : Type 0} (Corresponds : Q → P → Type 0) where
  pub record RepliesCorrespond (u : Reply Q) (r : Reply P) : Type 0 where
    pub message : u.message ≡ r.message
    pub exceeds : u.exceeds ≡ r.exceeds
    pub waits : u.waits ≡ r.waits
    pub children : Pairwise Corresponds u.children r.children

  pub record OnwardsCorrespond (n : Onward Q) (o : Onward P) : Type 0 where
    pub self : Corresponds n.self o.self
    pub block : n.block ≡ o.block
    pub starts : Pairwise Corresponds n.starts o.starts
    pub drops : n.drops ≡ o.drops
    pub cost : n.cost ≡ o.cost

  -- both stop, or both have one need and go on alike. `Comes` says which reply may come to it
  abbrev pub AsksCorrespond : (Place → Need → Reply P → Type 0) → Place → Ask Q → Ask P → Type 0
  AsksCorrespond Comes p Stop Stop = Unit {0}
  AsksCorrespond Comes p Stop (Go need f) = ⊥
  AsksCorrespond Comes p (Go other g) Stop = ⊥
  AsksCorrespond Comes p (Go other g) (Go need f) =
      (other ≡ need) × ((u : Reply Q) (r : Reply P) → Comes p need r → RepliesCorrespond u r → OnwardsCorrespond (g (made p need) u) (f (made p need) r))

-- the reply that comes in this state
abbrev pub ComesIn : {P : Type 0} → Language P → State P → Place → Need → Reply P → Type 0
ComesIn language s p need r = served language.has_ended s.procs s.chans p need ≡ Some r

module _ {P Q : Type 0} (Corresponds : Q → P → Type 0) (IsLive : State P → Type 0) where
  pub record IsCorrespondence (first : Language P) (second : Language Q) : Type 0 where
    pub stays_live : (s : State P) (p : Place) → IsLive s → Can (language_step first) s p → IsLive (next (language_step first) s p)
    -- a process that stands somewhere asks as the one that corresponds to it
    pub asks : (s : State P) → IsLive s → (p : Place) (x : P) (y : Q) → get s.procs p ≡ Some x → Corresponds y x → AsksCorrespond Corresponds (ComesIn first s) p (second.ask y) (first.ask x)
    pub ended : (x : P) (y : Q) → Corresponds y x → second.has_ended y ≡ first.has_ended x
    pub emptied : (x : P) (y : Q) → first.has_ended x ≡ true → Corresponds y x → Corresponds (second.emptied y) (first.emptied x)

  -- the same channels, and processes that correspond at the same places
  pub record StandsFor (t : State Q) (s : State P) : Type 0 where
    pub live : IsLive s
    pub chans : t.chans ≡ s.chans
    pub procs : (q : Place) → BothOrNeither Corresponds (get t.procs q) (get s.procs q)

  -- the two machines do the same from states that stand for one another
  pub record AreAlike (first : Language P) (second : Language Q) : Type 0 where
    pub begin : (x : P) (y : Q) → Corresponds y x → IsLive (main_alone x) → StandsFor (main_alone y) (main_alone x)
    pub step : IsBisimulation (language_step first) (language_step second) StandsFor
    pub runs : DoTheSame (language_step first) (language_step second) StandsFor
    -- the same children start in the same order
    pub starts : (s : State P) (t : State Q) → StandsFor t s → (cs : List Place) → IsLegal (language_step first) s cs → starts_of second t cs ≡ starts_of first s cs

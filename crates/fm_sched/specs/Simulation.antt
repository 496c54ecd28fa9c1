-- Two machines with the same actors, of which the second does what the first does: simulation in the
-- usual sense of transition systems, with equal costs.
-- Source: this profile.
use Rattle.std.specs.Prelude.{◌≡◌, ◌↔◌, Bool, true, List}
use Rattle.fm_sched.specs.Schedule.{Step, Can, next, cost, play, used, IsLegal, IsFinal, IsEnding}

-- where `t` stands for `s`, each step of the first machine is there in the second, leads to a state that
-- stands for the first one's, and costs the same
pub record Simulates {S T A : Type 0} (step : Step S A) (other : Step T A) (StandsFor : T → S → Type 0) : Type 0 where
  pub can : (s : S) (t : T) (p : A) → StandsFor t s → Can step s p → Can other t p
  pub stands : (s : S) (t : T) (p : A) → StandsFor t s → Can step s p → StandsFor (next other t p) (next step s p)
  pub costs : (s : S) (t : T) (p : A) → StandsFor t s → Can step s p → cost other t p ≡ cost step s p

-- and the second machine has no step that the first one lacks
pub record IsBisimulation {S T A : Type 0} (step : Step S A) (other : Step T A) (StandsFor : T → S → Type 0) : Type 0 where
  pub forth : Simulates step other StandsFor
  pub back : (s : S) (t : T) (p : A) → StandsFor t s → Can other t p → Can step s p

-- states that stand for one another have the same legal lists, which lead to such states at the same
-- cost, and the same ends
pub record DoTheSame {S T A : Type 0} (step : Step S A) (other : Step T A) (StandsFor : T → S → Type 0) : Type 0 where
  pub legal : (s : S) (t : T) → StandsFor t s → (cs : List A) → IsLegal step s cs ↔ IsLegal other t cs
  pub state : (s : S) (t : T) → StandsFor t s → (cs : List A) → IsLegal step s cs → StandsFor (play other t cs) (play step s cs)
  pub price : (s : S) (t : T) → StandsFor t s → (cs : List A) → IsLegal step s cs → used other t cs ≡ used step s cs
  pub final : (s : S) (t : T) → StandsFor t s → IsFinal step s ↔ IsFinal other t
  pub ends : (s : S) (t : T) → StandsFor t s → (cs : List A) → IsEnding step s cs ↔ IsEnding other t cs

-- the value passes the test
abbrev pub Passes : {X : Type 0} → (X → Bool) → X → Type 0
Passes test x = test x ≡ true

-- what passes a test in the second is read as something in the first by a function
abbrev pub ReadsAs : {X Y : Type 0} → (read : Y → X) → (is_good : Y → Bool) → Y → X → Type 0
ReadsAs read is_good y x = (read y ≡ x) × Passes is_good y

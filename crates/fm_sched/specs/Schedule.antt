-- Schedules of a machine with several actors: which lists of choices are runs of it, where they lead
-- and what they cost. A machine is given by its states, its actors and the step of each actor. A choice
-- is the actor that steps next.
-- Source: this profile.
use Rattle.std.specs.Prelude.{◌≡◌, ◌≢◌, ℕ, ◌+◌, ◌≤◌, Option, Some, None, List, [], ◌∷◌, ◌++◌, length}

-- what one actor's step makes of a state: the next state and the cost, or none
abbrev pub Step : Type 0 → Type 0 → Type 0
Step S A = S → A → Option (S × ℕ)

-- the state after a step, and the state itself where there is no step
unfoldable pub state_after : {S : Type 0} → S → Option (S × ℕ) → S
state_after s None = s
state_after s (Some r) = r.0

-- the cost of a step, and 0 where there is no step
unfoldable pub price : {S : Type 0} → Option (S × ℕ) → ℕ
price None = 0
price (Some r) = r.1

-- the actor isn't in the list
abbrev pub NotIn : {A : Type 0} → A → List A → Type 0
NotIn p [] = Unit {0}
NotIn p (c ∷ cs) = (p ≢ c) × NotIn p cs

module _ {S A : Type 0} (step : Step S A) where
  -- p can step in s
  abbrev pub Can : S → A → Type 0
  Can s p = (r : S × ℕ) × (step s p ≡ Some r)

  -- the state after p's step
  abbrev pub next : S → A → S
  next s p = state_after s (step s p)

  -- the cost of p's step
  abbrev pub cost : S → A → ℕ
  cost s p = price (step s p)

  -- the state after the choices
  abbrev pub play : S → List A → S
  play s [] = s
  play s (c ∷ cs) = play (next s c) cs

  -- every choice can be made when its turn comes
  abbrev pub IsLegal : S → List A → Type 0
  IsLegal s [] = Unit {0}
  IsLegal s (c ∷ cs) = Can s c × IsLegal (next s c) cs

  -- what the choices cost together
  abbrev pub used : S → List A → ℕ
  used s [] = 0
  used s (c ∷ cs) = cost s c + used (next s c) cs

  -- no actor can step
  abbrev pub IsFinal : S → Type 0
  IsFinal s = (p : A) → step s p ≡ None

  -- a legal list that leads to where no actor can step
  abbrev pub IsEnding : S → List A → Type 0
  IsEnding s cs = IsLegal s cs × IsFinal (play s cs)

  -- a step of q leaves p its step
  abbrev pub Stays : S → Type 0
  Stays s = (p q : A) → (p ≢ q) → Can s p → Can s q → Can (next s q) p

  -- the steps of p and q in the two orders give one state, each at the same cost in both
  pub record Meets (s : S) : Type 0 where
    pub one_state : (p q : A) → (p ≢ q) → Can s p → Can s q → next (next s p) q ≡ next (next s q) p
    pub one_cost : (p q : A) → (p ≢ q) → Can s p → Can s q → cost (next s q) p ≡ cost s p

  -- the steps of two actors commute
  pub record Diamond (s : S) : Type 0 where
    pub stays : Stays s
    pub meets : Meets s

  -- a legal list leads to s from the start
  abbrev pub IsReached : S → S → Type 0
  IsReached start s = (cs : List A) × IsLegal start cs × (play start cs ≡ s)

  -- the choices are legal, and lead from s to t at this cost
  pub record Leads (s : S) (cs : List A) (t : S) (paid : ℕ) : Type 0 where
    pub legal : IsLegal s cs
    pub there : play s cs ≡ t
    pub price_is : used s cs ≡ paid

  -- the fact holds wherever a legal list leads from the start
  abbrev pub Throughout : (S → Type 0) → S → Type 0
  Throughout Fact start = (cs : List A) → IsLegal start cs → Fact (play start cs)

  -- what one ending list says of every other: none is longer or dearer, each legal one goes on to an end,
  -- and each ending one has the same state and cost
  pub record Settles (s : S) (cs : List A) : Type 0 where
    pub longest : (ds : List A) → IsLegal s ds → length ds ≤ length cs
    pub dearest : (ds : List A) → IsLegal s ds → used s ds ≤ used s cs
    pub extends : (ds : List A) → IsLegal s ds → (es : List A) × IsEnding s (ds ++ es)
    pub one_state : (ds : List A) → IsEnding s ds → play s ds ≡ play s cs
    pub one_cost : (ds : List A) → IsEnding s ds → used s ds ≡ used s cs

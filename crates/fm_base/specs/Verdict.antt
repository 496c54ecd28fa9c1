-- The verdict over a set of broken rules: the least one, by phase, then line, then number, or none.
-- Source: this profile.
use Rattle.std.specs.Prelude.{◌≡◌, ℕ, ◌<◌, ◌≤◌, ◌⊎◌, Bool, true, false, List, [], ◌∷◌, length, slice_index_or, Option, Some, None, MatchOption, Contains, if◌then◌else◌, nat_lt}
use Rattle.fm_base.specs.declared.rule.Refusal.{Refusal}
use Rattle.fm_base.specs.declared.rule.CheckFail.{CheckFail}
use Rattle.fm_base.specs.declared.rule.CheckFail.TheVariants.{Refused, NoMemory}
use Rattle.fm_base.specs.declared.rule.Rule.{Rule}
use Rattle.fm_base.specs.Rules.{number_of, phase_of}

-- a rule at a line
abbrev pub place : ℕ → Rule → Refusal
place line rule = record { line = record { 0 = line }; rule = rule }

-- by line, and then by number
abbrev pub IsUpToInPhase : Refusal → Refusal → Type 0
IsUpToInPhase p q = (p.line.0 ≤ q.line.0) × (p.line.0 ≡ q.line.0 → number_of p.rule ≤ number_of q.rule)

-- p is reported rather than q, or is q: by phase, then by line, then by number
abbrev pub IsUpTo : Refusal → Refusal → Type 0
IsUpTo p q = (phase_of p.rule ≤ phase_of q.rule) × (phase_of p.rule ≡ phase_of q.rule → IsUpToInPhase p q)

-- p is broken, and nothing that is broken comes before it
pub record IsLeast (Broken : Refusal → Type 0) (p : Refusal) : Type 0 where
  pub broken : Broken p
  pub least : (q : Refusal) → Broken q → IsUpTo p q

-- nothing is broken
abbrev pub IsClean : (Refusal → Type 0) → Type 0
IsClean Broken = (q : Refusal) → ¬ Broken q

-- the verdict: the least that is broken, or none where nothing is
abbrev pub IsVerdict : (Refusal → Type 0) → Option Refusal → Type 0
IsVerdict Broken verdict = MatchOption verdict (IsClean Broken) (IsLeast Broken)

-- a check that refuses tells the least that is broken
abbrev pub IsRefusal : (Refusal → Type 0) → CheckFail → Type 0
IsRefusal Broken (Refused p) = IsLeast Broken p
IsRefusal Broken NoMemory = Unit {0}

-- broken by one or by the other
abbrev pub Either : (Refusal → Type 0) → (Refusal → Type 0) → Refusal → Type 0
Either P Q q = P q ⊎ Q q

-- Judges: rules that are tested at places.

-- broken at one of the places, which has this line, by one of the rules that are asked
abbrev pub SomePlace : (places : ℕ) → (line : ℕ → ℕ) → (rules : List Rule) → (breaks : Rule → ℕ → Bool) → Refusal → Type 0
SomePlace places line rules breaks q =
    (at i : ℕ) × (at < places) × (i < length rules) × (slice_index_or rules i q.rule ≡ q.rule) × (line at ≡ q.line.0) × (breaks q.rule at ≡ true)

-- the same for what was looked at: all places before one, and there the rules before one
abbrev pub SomeSeen : (line : ℕ → ℕ) → (rules : List Rule) → (breaks : Rule → ℕ → Bool) → (before upto : ℕ) → Refusal → Type 0
SomeSeen line rules breaks before upto q =
    (at i : ℕ) × (at ≤ before) × (at ≡ before → i < upto) × (i < length rules) × (slice_index_or rules i q.rule ≡ q.rule) × (line at ≡ q.line.0) × (breaks q.rule at ≡ true)

-- Lists of places, as a pass over a text meets them.

abbrev pub is_before : Refusal → Refusal → Bool
is_before p q =
    if nat_lt (phase_of p.rule) (phase_of q.rule) then true
    else if nat_lt (phase_of q.rule) (phase_of p.rule) then false
    else if nat_lt p.line.0 q.line.0 then true
    else if nat_lt q.line.0 p.line.0 then false
    else nat_lt (number_of p.rule) (number_of q.rule)

-- the earlier of two, and the first one where they are alike
abbrev pub earlier : Refusal → Refusal → Refusal
earlier p q = if is_before q p then q else p

abbrev pub earliest : Option Refusal → Refusal → Option Refusal
earliest None q = Some q
earliest (Some p) q = Some (earlier p q)

-- the earliest of a first one and of the places of a list
abbrev pub least_from : Option Refusal → List Refusal → Option Refusal
least_from best [] = best
least_from best (q ∷ qs) = least_from (earliest best q) qs

abbrev pub least : List Refusal → Option Refusal
least qs = least_from None qs

-- the place, where the test is true
abbrev pub when : Bool → Refusal → List Refusal
when test q = if test then q ∷ [] else []

-- the first of two verdicts
abbrev pub first_of : Option Refusal → Option Refusal → Option Refusal
first_of a None = a
first_of a (Some q) = earliest a q

-- Phases: a later one is asked only where no earlier one is broken.

abbrev pub or_next : Option Refusal → Option Refusal → Option Refusal
or_next None next = next
or_next (Some p) next = Some p

-- what may be broken is of this phase
abbrev pub IsOfPhase : ℕ → (Refusal → Type 0) → Type 0
IsOfPhase phase Broken = (q : Refusal) → Broken q → phase_of q.rule ≡ phase

-- what may be broken is of earlier phases
abbrev pub IsBeforePhase : ℕ → (Refusal → Type 0) → Type 0
IsBeforePhase phase Broken = (q : Refusal) → Broken q → phase_of q.rule < phase

-- a list's least place is the verdict on it
abbrev pub LeastLaw : Type 0
LeastLaw = (qs : List Refusal) → IsVerdict (Contains qs) (least qs)

-- A clause can't range over sets of refusals, so these two laws say them of lists of places.

-- two sets of places of one or of several phases
abbrev pub VerdictsJoin : Type 0
VerdictsJoin = (ps qs : List Refusal) (a b : Option Refusal) → IsVerdict (Contains ps) a → IsVerdict (Contains qs) b → IsVerdict (Either (Contains ps) (Contains qs)) (first_of a b)

-- a phase and a later one
abbrev pub PhasesJoin : Type 0
PhasesJoin =
    (ps qs : List Refusal) (phase : ℕ) (a b : Option Refusal) → IsBeforePhase phase (Contains ps) → IsOfPhase phase (Contains qs)
    → IsVerdict (Contains ps) a → (a ≡ None → IsVerdict (Contains qs) b) → IsVerdict (Either (Contains ps) (Contains qs)) (or_next a b)

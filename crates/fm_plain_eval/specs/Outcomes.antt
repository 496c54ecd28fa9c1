-- What an evaluation answers: what the meaning says, or want of memory.
-- Source: this profile.
use Rattle.std.specs.Prelude.{◌≡◌, ℕ, List, ◌++◌, Result, Ok, Err}
use Rattle.fm_base.specs.declared.fault.Fault.{Fault}
use Rattle.fm_base.specs.declared.output.Printed.{Printed}
use Rattle.fm_base.specs.Output.{line_text}
use Rattle.fm_plain_eval.specs.declared.failure.Failure.{Failure}
use Rattle.fm_plain_eval.specs.declared.failure.Failure.TheVariants as failure

-- a fault is the meaning's; want of memory says nothing
abbrev pub IsFailure : {A : Type 0} → Result A Fault → Failure → Type 0
IsFailure m (failure.Fault f) = m ≡ Err f
IsFailure m failure.NoMemory = Unit {0}

-- what the meaning says
abbrev pub IsDone : {A : Type 0} → Result A Fault → Result A Failure → Type 0
IsDone m (Ok x) = m ≡ Ok x
IsDone m (Err e) = IsFailure m e

-- the same, with the number of references that stand before what comes behind it
abbrev pub IsFrom : {A : Type 0} → Result A Fault → (next : ℕ) → Result (A × ℕ) Failure → Type 0
IsFrom m next (Ok x) = (m ≡ Ok x.0) × (x.1 ≡ next)
IsFrom m next (Err e) = IsFailure m e

-- what the meaning says stands behind what was there
pub record IsBehind {A : Type 0} (m : Result (List A) Fault) (old new : List A) : Type 0 where
  pub more : List A
  pub means : m ≡ Ok more
  pub behind : new ≡ old ++ more

abbrev pub IsAdded : {A : Type 0} → Result (List A) Fault → (next : ℕ) → (old new : List A) → Result ℕ Failure → Type 0
IsAdded m next old new (Ok k) = IsBehind m old new × (k ≡ next)
IsAdded m next old new (Err e) = IsFailure m e

-- the text of the line of items
pub record IsText (m : Result (List Printed) Fault) (text : List ℕ) : Type 0 where
  pub items : List Printed
  pub means : m ≡ Ok items
  pub text_is : text ≡ line_text items

abbrev pub IsLine : Result (List Printed) Fault → Result (List ℕ) Failure → Type 0
IsLine m (Ok text) = IsText m text
IsLine m (Err e) = IsFailure m e

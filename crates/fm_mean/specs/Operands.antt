-- One operand after another: the first fault counts.
-- Source: ANSI X3.9-1978, section 6.6 (evaluation of expressions); this profile for the order, from left to right, and for faults.
use Rattle.std.specs.Prelude.{Result, Ok, Err}
use Rattle.fm_base.specs.declared.fault.Fault.{Fault}

infixl 10 ◌>>=◌
abbrev pub ◌>>=◌ : {A B : Type 0} → Result A Fault → (A → Result B Fault) → Result B Fault
(Ok x) >>= f = f x
(Err fault) >>= f = Err fault

-- Failures of one operand after another.
use Rattle.std.proofs.Common.{◌≡◌, Result, ap, ◌∙◌}
use Rattle.fm_base.specs.declared.fault.Fault.{Fault}
use Rattle.fm_mean.specs.Operands.{◌>>=◌}
use Rattle.fm_plain_eval.specs.declared.failure.Failure.{Failure}
use Rattle.fm_plain_eval.specs.declared.failure.Failure.TheVariants as failure
use Rattle.fm_plain_eval.specs.Outcomes.{IsFailure}

-- a failure stops what stands on it
pub stops : {A B : Type 0} (m : Result A Fault) (f : A → Result B Fault) (e : Failure) → IsFailure m e → IsFailure (m >>= f) e
stops m f (failure.Fault fault) h = ap (λ r. r >>= f) h
stops m f failure.NoMemory h = h

-- the same outcome fails alike
pub fails_alike : {A : Type 0} (m k : Result A Fault) (e : Failure) → m ≡ k → IsFailure k e → IsFailure m e
fails_alike m k (failure.Fault fault) h g = h ∙ g
fails_alike m k failure.NoMemory h g = g

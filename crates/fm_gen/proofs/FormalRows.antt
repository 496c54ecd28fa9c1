-- One formal after the other.
use Rattle.std.proofs.Common.{◌≡◌, ℕ, suc, ◌+◌, List, ◌++◌, sym, ap, ◌∙◌, arith, append_assoc}
use Rattle.std.specs.Prelude.{slice_get}
use Rattle.fm_symbols.specs.declared.names.Variable.{Variable}
use Rattle.fm_mean.specs.Names.{formal_from}
use Rattle.fm_code.specs.declared.code.Formal.{Formal}
use Rattle.fm_gen_relation.specs.Formals.{formal_if, formals_from}

-- where some are left, the next one is added
pub next_formal : (vs : List Variable) (n i k m : ℕ) (old new : List Formal) → k ≡ suc m → i ≡ n + 1 → new ≡ old ++ formal_if (slice_get vs (formal_from 0 n vs))
    → new ++ formals_from vs i m ≡ old ++ formals_from vs n k
next_formal vs n i k m old new left next added =
    let following : i ≡ suc n = omega (arith, next) in
    (λ t. added t ++ formals_from vs (following t) m)
    ∙ append_assoc old (formal_if (slice_get vs (formal_from 0 n vs))) (formals_from vs (suc n) m)
    ∙ ap (λ c. old ++ formals_from vs n c) (sym left)

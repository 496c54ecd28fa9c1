use Rattle.std.proofs.Common.{◌∷◌, ◌++◌, [], List, ℕ, ap, sym, ◌∙◌, arith}
use Rattle.std.specs.List.{range_with_len}
use Rattle.fm_pool.proofs.Numbers.{range_more}
use Rattle.fm_pool.proofs.pool.numbers.Goals as goal

pub workers-preserved : goal.workers-preserved
workers-preserved c =
    let n = c.workers.number in
    c.in_ok-push.ensures.items ∙ (ap (λ (xs : List ℕ). xs ++ n ∷ []) c.workers.invariant ∙ sym (range_more 0 n n (omega arith)))

pub returns : goal.returns
returns c = c.workers.invariant ∙ ap (range_with_len 0) (omega (arith, c.workers-test.false))

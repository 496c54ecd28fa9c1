use Rattle.std.proofs.Common.{[], List, ℕ, ap, ap₂, ◌++◌, ◌∷◌, ◌∙◌, sym}
use Rattle.fm_table.specs.Inside.{shares_of}
use Rattle.fm_table.proofs.Sharing.{shares_push, times_more}
use Rattle.fm_table.proofs.shares.no_shares.Goals as goal

pub workers-preserved : goal.workers-preserved
workers-preserved c =
    ap shares_of c.in_ok-push.ensures.items ∙ shares_push c.workers.lists.items c.new.result
    ∙ ap₂ (λ (ls : List (List ℕ)) (ns : List ℕ). ls ++ ns ∷ []) c.workers.invariant c.new.ensures.numbers ∙ sym (times_more [] c.workers.worker)

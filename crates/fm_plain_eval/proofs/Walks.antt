-- Evaluating the items of a list from left to right.
use Rattle.std.proofs.Common.{◌≡◌, ℕ, ℤ, ◌+◌, List, [], ◌∷◌, ◌++◌, drop, Result, Ok}
use Rattle.fm_base.specs.declared.fault.Fault.{Fault}
use Rattle.fm_tree.specs.Tree.{Tree, trees_from}
use Rattle.fm_tree.specs.declared.statement.Item.{Item}
use Rattle.fm_mean.specs.Operands.{◌>>=◌}
use Rattle.fm_mean.specs.declared.place.Actual.{Actual}
use Rattle.fm_mean.specs.Evaluate.{Scope, numbers_of, actuals_of, refs_in_all}
use Rattle.fm_plain_eval.specs.Printing.{refs_in_item}

-- results behind others
abbrev pub with_behind : {A : Type 0} → List A → Result (List A) Fault → Result (List A) Fault
with_behind ys m = m >>= λ xs. Ok (ys ++ xs)

-- what is known of a list of items before which `n` references stand, where those before `i` are done and gave `done`: `k` stand
-- before the others
pub record IsOn {T A : Type 0} (all : List T → ℕ → Result (List A) Fault) (counts : List T → ℕ) (ts : List T) (n i : ℕ) (done : List A) (k : ℕ) : Type 0 where
  pub whole : all ts n ≡ with_behind done (all (drop i ts) k)
  pub counted : k + counts (drop i ts) ≡ n + counts ts

abbrev pub all_numbers : Scope → List Tree → ℕ → Result (List ℤ) Fault
all_numbers s ts n = numbers_of s (trees_from ts) n

abbrev pub all_actuals : Scope → List Tree → ℕ → Result (List Actual) Fault
all_actuals s ts n = actuals_of s (trees_from ts) n

abbrev pub all_refs : Scope → List Tree → ℕ
all_refs s ts = refs_in_all s (trees_from ts)

abbrev pub refs_in_items : Scope → List Item → ℕ
refs_in_items s [] = 0
refs_in_items s (i ∷ is) = refs_in_item s i + refs_in_items s is

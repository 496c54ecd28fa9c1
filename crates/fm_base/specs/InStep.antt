-- Where two lists stand that are gone back in step.
-- Source: this profile.
use Rattle.std.specs.Prelude.{ℕ, List, ◌++◌, ◌≡◌, length}
use Rattle.std.specs.declared.cmp.Ordering.{Ordering}
use Rattle.fm_base.specs.PathOrder.{path_cmp}

-- of two lists what is left of each, after as many of the last pairs of both were passed, and how these stand
pub record IsInStep (left right left_rest right_rest : List (ℕ × ℕ)) (order : Ordering) : Type 0 where
  pub left_passed : List (ℕ × ℕ)
  pub right_passed : List (ℕ × ℕ)
  pub left_is : left ≡ left_rest ++ left_passed
  pub right_is : right ≡ right_rest ++ right_passed
  pub as_many : length left_passed ≡ length right_passed
  pub order_is : order ≡ path_cmp left_passed right_passed

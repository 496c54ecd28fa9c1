-- How many of a list pass a test.
use Rattle.std.proofs.Common.{◌≡◌, ◌+◌, Bool, true, false, cond, List, ◌∷◌, length, arith}
use Rattle.std.specs.Prelude.{filter}
use Rattle.fm_image_typed.specs.Typed.{how_many}
use Rattle.fm_verify.specs.Telling.{one_where}

pub one_more : {X : Type 0} (test : X → Bool) (x : X) (xs : List X) → how_many test (x ∷ xs) ≡ one_where (test x) + how_many test xs
one_more {X = X} test x xs = go (test x)
  where
    go : (b : Bool) → length (cond b (x ∷ filter test xs) (filter test xs)) ≡ one_where b + how_many test xs
    go true = omega arith
    go false = omega arith

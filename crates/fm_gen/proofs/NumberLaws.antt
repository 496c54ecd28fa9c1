-- Numbers of loops by a table.
use Rattle.std.proofs.Common.{◌≡◌, ℕ, zero, suc, ◌+◌, ◌<◌, Bool, true, false, cond, Some, None, List, [], ◌∷◌, length, refl, ap, ◌∙◌, arith}
use Rattle.std.specs.Prelude.{slice_get}
use Rattle.fm_tree.specs.declared.program_unit.Entry.{Entry}
use Rattle.fm_gen.specs.Statements.{loop_numbers}
use Rattle.fm_gen_relation.specs.Frames.{opens_counted, loop_number}

pub number_there : (n : ℕ) (body : List Entry) (k : ℕ) → k < length body → slice_get (loop_numbers n body) k ≡ Some (n + loop_number body k)
number_there n [] k less = absurd (omega (arith, less))
number_there n (e ∷ body) zero less = ap Some (let same : n ≡ n + 0 = omega arith in same)
number_there n (e ∷ body) (suc k) less =
    number_there (cond (opens_counted e) (suc n) n) body k (omega (arith, less)) ∙ ap Some (counted (opens_counted e))
  where
    counted : (b : Bool) → cond b (suc n) n + loop_number body k ≡ n + cond b (suc (loop_number body k)) (loop_number body k)
    counted true = omega arith
    counted false = refl

same_number : (a b : ℕ) → Some a ≡ Some b → a ≡ b
same_number a b e = cc

pub found_number : (body : List Entry) (k n : ℕ) → k < length body → Some n ≡ slice_get (loop_numbers 0 body) k → n ≡ loop_number body k
found_number body k n less e = let plus : 0 + loop_number body k ≡ loop_number body k = omega arith in same_number n (0 + loop_number body k) (e ∙ number_there 0 body k less) ∙ plus

pub no_number : (body : List Entry) (k : ℕ) → k < length body → None ≡ slice_get (loop_numbers 0 body) k → ⊥
no_number body k less e = let f = e ∙ number_there 0 body k less in absurd (cc)

-- Numbers from one on.
use Rattle.std.proofs.Common.{◌≡◌, ℕ, zero, suc, ◌+◌, List, [], ◌∷◌, ◌++◌, map, refl, ap, ◌∙◌, arith}
use Rattle.fm_base.specs.declared.path.ChanName.{ChanName}
use Rattle.fm_base.specs.declared.port.PortValue.TheVariants.{Writer}
use Rattle.fm_base.specs.Channels.{numbers_from}

numbers-push : (i n : ℕ) → numbers_from i (suc n) ≡ numbers_from i n ++ (i + n) ∷ []
numbers-push i zero = ap (λ j. j ∷ []) (omega arith)
numbers-push i (suc n) = ap (λ ns. i ∷ ns) (numbers-push (suc i) n ∙ ap (λ j. numbers_from (suc i) n ++ j ∷ []) (omega arith))

pub numbers-more : (n : ℕ) → numbers_from 0 (n + 1) ≡ numbers_from 0 n ++ n ∷ []
numbers-more n =
    let next : n + 1 ≡ suc n = omega arith in
    ap (numbers_from 0) next ∙ numbers-push 0 n ∙ ap (λ j. numbers_from 0 n ++ j ∷ []) (omega arith)

map-push : {A B : Type 0} (f : A → B) (xs : List A) (x : A) → map f (xs ++ x ∷ []) ≡ map f xs ++ f x ∷ []
map-push f [] x = refl
map-push f (y ∷ ys) x = ap (λ zs. f y ∷ zs) (map-push f ys x)

pub outports-more : (c : ChanName) (n : ℕ) → map (λ w. Writer c w) (numbers_from 0 (n + 1)) ≡ map (λ w. Writer c w) (numbers_from 0 n) ++ Writer c n ∷ []
outports-more c n = ap (map (λ w. Writer c w)) (numbers-more n) ∙ map-push (λ w. Writer c w) (numbers_from 0 n) n

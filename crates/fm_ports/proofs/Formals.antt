-- Actuals and formals, side by side.
use Rattle.std.proofs.Common.{◌≡◌, ◌⊎◌, inl, inr, Bool, false, List, [], ◌∷◌, map, length, refl, sym, ◌∙◌}
use Rattle.std.proofs.Math.Nat.{suc-ne-zero}
use Rattle.fm_symbols.specs.declared.names.UnitNames.{UnitNames}
use Rattle.fm_symbols.specs.declared.symbol.Formal.{Formal}
use Rattle.fm_rules.specs.declared.typing.ExprType.{ExprType}
use Rattle.fm_rules.specs.PortFitting.{break_formals}

none_broken : {X : Type 0} (callee n : UnitNames) (f : X → ExprType) (xs : List X) (fs : List Formal) → (length xs ≡ 0) ⊎ (length fs ≡ 0) → break_formals callee n (map f xs) fs ≡ false
none_broken callee n f [] fs e = refl
none_broken callee n f (x ∷ xs) [] e = refl
none_broken callee n f (x ∷ xs) (g ∷ gs) (inl e) = absurd (suc-ne-zero (length xs) e)
none_broken callee n f (x ∷ xs) (g ∷ gs) (inr e) = absurd (suc-ne-zero (length gs) e)

-- with what is left of both sides, one of which has ended
pub formals_done :
    {A B X : Type 0} {P : A → Type 0} {Q : B → Type 0} (callee n : UnitNames) (f : X → ExprType) (xs : List X) (fs : List Formal) (all : Bool) → break_formals callee n (map f xs) fs ≡ all
    → ((x : A) × ((length xs ≡ 0) × P x)) ⊎ ((y : B) × ((length fs ≡ 0) × Q y)) → false ≡ all
formals_done callee n f xs fs all e (inl (x, (none, p))) = sym (none_broken callee n f xs fs (inl none)) ∙ e
formals_done callee n f xs fs all e (inr (y, (none, q))) = sym (none_broken callee n f xs fs (inr none)) ∙ e

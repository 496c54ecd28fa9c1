-- Units and their names, side by side.
use Rattle.std.proofs.Common.{◌≡◌, ◌⊎◌, inl, inr, List, [], ◌∷◌, ◌++◌, length, refl, ap, sym, ◌∙◌}
use Rattle.std.proofs.Math.Nat.{suc-ne-zero}
use Rattle.std.proofs.lemmas.List.{append-nil}
use Rattle.fm_tree.specs.declared.program_unit.Unit.{Unit}
use Rattle.fm_symbols.specs.declared.names.UnitNames.{UnitNames}
use Rattle.fm_symbols.specs.declared.context.Scope.{Scope}
use Rattle.fm_symbols.specs.Context.{scopes_of}

-- where one side has ended, the other is not asked
pub no_scopes : (us : List Unit) (ns : List UnitNames) → (length us ≡ 0) ⊎ (length ns ≡ 0) → scopes_of us ns ≡ []
no_scopes [] ns e = refl
no_scopes (u ∷ us) [] e = refl
no_scopes (u ∷ us) (n ∷ ns) (inl e) = absurd (suc-ne-zero (length us) e)
no_scopes (u ∷ us) (n ∷ ns) (inr e) = absurd (suc-ne-zero (length ns) e)

-- with what is left of both sides, one of which has ended
pub scopes_done :
    {A B : Type 0} {P : A → Type 0} {Q : B → Type 0} (us : List Unit) (ns : List UnitNames) (made all : List Scope) → made ++ scopes_of us ns ≡ all
    → ((x : A) × ((length us ≡ 0) × P x)) ⊎ ((y : B) × ((length ns ≡ 0) × Q y)) → made ≡ all
scopes_done us ns made all e (inl (x, (none, p))) = sym (append-nil made) ∙ (ap (λ s. made ++ s) (sym (no_scopes us ns (inl none))) ∙ e)
scopes_done us ns made all e (inr (y, (none, q))) = sym (append-nil made) ∙ (ap (λ s. made ++ s) (sym (no_scopes us ns (inr none))) ∙ e)

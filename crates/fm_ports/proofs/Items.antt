-- Items and fields, side by side.
use Rattle.std.proofs.Common.{◌≡◌, ℕ, suc, ◌+◌, ◌<◌, Bool, true, false, ◌&&◌, List, [], ◌∷◌, map, length, drop, get_or, refl, ap, ap₂, sym, ◌∙◌, arith}
use Rattle.std.proofs.Math.Seq.{drop-cons}
use Rattle.fm_tree.specs.PortReading.{fields_of, kind_of}
use Rattle.fm_tree.specs.declared.port_type.Field.{Field}
use Rattle.fm_symbols.specs.declared.names.UnitNames.{UnitNames}
use Rattle.fm_rules.specs.declared.typing.ExprType.{ExprType}
use Rattle.fm_rules.specs.PortFitting.{fit_fields, fits_field}

and_false : (b : Bool) → false ≡ (b && false)
and_false true = refl
and_false false = refl

-- another number of items than of fields
pub unlike_number : {X : Type 0} (n : UnitNames) (f : X → ExprType) (xs : List X) (fs : List Field) → (length xs ≡ length fs → ⊥) → false ≡ fit_fields n (map f xs) (fields_of fs)
unlike_number n f [] [] e = absurd (e refl)
unlike_number n f [] (b ∷ bs) e = refl
unlike_number n f (x ∷ xs) [] e = refl
unlike_number n f (x ∷ xs) (b ∷ bs) e =
    and_false (fits_field n (f x) (kind_of b.kind) b.bounds)
    ∙ ap (λ r. fits_field n (f x) (kind_of b.kind) b.bounds && r) (unlike_number n f xs bs (λ d. e (ap suc d)))

-- the item and the field at an index, and what is behind them
pub fit_at :
    {X : Type 0} (n : UnitNames) (f : X → ExprType) (xs : List X) (fs : List Field) (k : ℕ) (x : X) (b : Field) → k < length xs → k < length fs → x ≡ get_or xs k x → b ≡ get_or fs k b
    → fit_fields n (map f (drop k xs)) (fields_of (drop k fs)) ≡ (fits_field n (f x) (kind_of b.kind) b.bounds && fit_fields n (map f (drop (k + 1) xs)) (fields_of (drop (k + 1) fs)))
fit_at n f xs fs k x b i j d e =
    let whole : drop k xs ≡ x ∷ drop (suc k) xs = drop-cons xs k x i ∙ ap (λ y. y ∷ drop (suc k) xs) (sym d) in
    let fields : drop k fs ≡ b ∷ drop (suc k) fs = drop-cons fs k b j ∙ ap (λ y. y ∷ drop (suc k) fs) (sym e) in
    let one : k + 1 ≡ suc k = omega arith in
    ap₂ (λ ys gs. fit_fields n (map f ys) (fields_of gs)) whole fields
    ∙ ap (λ m. fits_field n (f x) (kind_of b.kind) b.bounds && fit_fields n (map f (drop m xs)) (fields_of (drop m fs))) (sym one)

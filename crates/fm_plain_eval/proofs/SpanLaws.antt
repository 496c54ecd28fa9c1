-- The place of a variable with subscripts.
use Rattle.std.proofs.Common.{◌≡◌, ◌==◌, false, ℕ, ℤ, arith, List, [], ◌∷◌, length, Some, Result, Ok, Err, refl, sym, ap, ◌∙◌}
use Rattle.fm_base.specs.declared.fault.Fault.{Fault}
use Rattle.fm_values.specs.Places.{element_place}
use Rattle.fm_tree.specs.Tree.{Tree, trees_from}
use Rattle.fm_tree.specs.declared.statement.Var.{Var}
use Rattle.fm_symbols.specs.declared.names.Variable.{Variable}
use Rattle.fm_mean.specs.Operands.{◌>>=◌}
use Rattle.fm_mean.specs.Names.{variable_of}
use Rattle.fm_mean.specs.declared.place.Span.{Span}
use Rattle.fm_mean.specs.Evaluate.{Scope, numbers_of, place_of, single, spans_by}
use Rattle.fm_plain_eval.specs.Operands.{element_of}
use Rattle.fm_plain_eval.specs.Outcomes.{IsFailure}
use Rattle.fm_plain_eval.specs.declared.failure.Failure.{Failure}
use Rattle.fm_plain_eval.proofs.Steps.{fails_alike, stops}

in_turn : {A B C : Type 0} (m : Result A Fault) (f : A → Result B Fault) (g : B → Result C Fault) → (m >>= λ x. f x >>= g) ≡ ((m >>= f) >>= g)
in_turn (Ok x) f g = refl
in_turn (Err fault) f g = refl

with_subscripts : (i : ℕ) (v : Variable) (ts : List Tree) (ks : Result (List ℤ) Fault) → (length ts ≡ 0 → ⊥)
    → spans_by (Some (i, v)) (trees_from ts) ks ≡ (ks >>= λ xs. element_place v.bounds xs >>= λ k. Ok (single i k))
with_subscripts i v [] ks h = absurd (h refl)
with_subscripts i v (t ∷ ts) ks h = refl

-- an element stands where its subscripts say
pub place_with : (s : Scope) (x : Var) (n i : ℕ) (v : Variable) → variable_of s.unit x.name ≡ Some (i, v) → (length x.subscripts ≡ 0 → ⊥)
    → place_of s x n ≡ (element_of s v (trees_from x.subscripts) n >>= λ k. Ok (single i k))
place_with s x n i v is some =
    let ks = numbers_of s (trees_from x.subscripts) n in
    ap (λ o. spans_by o (trees_from x.subscripts) ks) is ∙ with_subscripts i v x.subscripts ks some ∙ in_turn ks (element_place v.bounds) (λ k. Ok (single i k))

filled : (ts : List Tree) → (length ts == 0) ≡ false → length ts ≡ 0 → ⊥
filled [] h e = cc
filled (t ∷ ts) h e = absurd (omega (arith, e))

pub place_goes : (s : Scope) (x : Var) (n i : ℕ) (v : Variable) (k : ℕ) (p : Span) → Some (i, v) ≡ variable_of s.unit x.name → (length x.subscripts == 0) ≡ false
    → element_of s v (trees_from x.subscripts) n ≡ Ok k → p ≡ single i k → place_of s x n ≡ Ok p
place_goes s x n i v k p is some gives there =
    place_with s x n i v (sym is) (filled x.subscripts some) ∙ ap (λ m. m >>= λ j. Ok (single i j)) gives ∙ ap Ok (sym there)

pub place_fails : (s : Scope) (x : Var) (n i : ℕ) (v : Variable) (e : Failure) → Some (i, v) ≡ variable_of s.unit x.name → (length x.subscripts == 0) ≡ false
    → IsFailure (element_of s v (trees_from x.subscripts) n) e → IsFailure (place_of s x n) e
place_fails s x n i v e is some fails =
    fails_alike (place_of s x n) (element_of s v (trees_from x.subscripts) n >>= λ j. Ok (single i j)) e (place_with s x n i v (sym is) (filled x.subscripts some))
    (stops (element_of s v (trees_from x.subscripts) n) (λ j. Ok (single i j)) e fails)

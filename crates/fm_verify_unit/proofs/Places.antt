-- Lists on which no place stands, and what stands below operands.
use Rattle.std.proofs.Common.{◌≡◌, ℕ, suc, ◌&&◌, ◌==◌, cond, Bool, false, true, Option, Some, None, List, [], ◌∷◌, ◌++◌, reverse, refl, ap, ◌∙◌}
use Rattle.std.proofs.lemmas.Bool.{and_from, eq-eqb}
use Rattle.std.proofs.lemmas.List.{reverse-append}
use Rattle.fm_code.specs.declared.code.Span.{Span}
use Rattle.fm_code_kinds.specs.declared.sorts.Cell.{Cell}
use Rattle.fm_code_kinds.specs.declared.sorts.Sort.{Sort}
use Rattle.fm_code_kinds.specs.declared.kinds.Kind.{Kind}
use Rattle.fm_code_kinds.specs.declared.kinds.Kind.TheVariants as kinds
use Rattle.fm_code_kinds.specs.declared.kinds.Passed.{Passed}
use Rattle.fm_code_kinds.specs.Effects.{Effect, Over, Ill, at_port, at_two, operands_on, operands_over, over_port, results_in, with_place}

abbrev pub NoPlace : List Kind → Type 0
NoPlace ks = (f : Span → List Kind → Option (List Kind)) → with_place ks f ≡ None

abbrev taken : Span → List Kind → Option (List Kind)
taken s ks = Some ks

pub over_no_port : (cs : List Cell) (ks : List Kind) → NoPlace ks → over_port cs ks ≡ false
over_no_port cs [] h = refl
over_no_port cs (kinds.Returned ∷ ks) h = refl
over_no_port cs (kinds.Word None ∷ ks) h = refl
over_no_port cs (kinds.Word (Some s) ∷ ks) h = let e = h taken in absurd cc
over_no_port cs (kinds.Operand o ∷ ks) h = refl
over_no_port cs (kinds.LoopOf l ∷ ks) h = refl

pub at_no_port : (cs : List Cell) (ks : List Kind) (f : Sort → Effect) → NoPlace ks → at_port cs ks f ≡ Ill
at_no_port cs [] f h = refl
at_no_port cs (kinds.Returned ∷ ks) f h = refl
at_no_port cs (kinds.Word None ∷ ks) f h = refl
at_no_port cs (kinds.Word (Some s) ∷ ks) f h = let e = h taken in absurd cc
at_no_port cs (kinds.Operand o ∷ ks) f h = refl
at_no_port cs (kinds.LoopOf l ∷ ks) f h = refl

pub at_no_two : (cs : List Cell) (ks : List Kind) (f : Sort → Sort → Effect) → NoPlace ks → at_two cs ks f ≡ Ill
at_no_two cs [] f h = refl
at_no_two cs (kinds.Returned ∷ ks) f h = refl
at_no_two cs (kinds.Word None ∷ ks) f h = refl
at_no_two cs (kinds.Word (Some s) ∷ ks) f h = let e = h taken in absurd cc
at_no_two cs (kinds.Operand o ∷ ks) f h = refl
at_no_two cs (kinds.LoopOf l ∷ ks) f h = refl

-- operands are no results
pub results_below : (ks : List Kind) → results_in (operands_on ks).rest ≡ results_in ks
results_below [] = refl
results_below (kinds.Returned ∷ ks) = refl
results_below (kinds.Word s ∷ ks) = refl
results_below (kinds.Operand o ∷ ks) = results_below ks
results_below (kinds.LoopOf l ∷ ks) = refl

over_both : (os ps : List Passed) (ks : List Kind) → operands_over (os ++ ps) ks ≡ operands_over os (operands_over ps ks)
over_both [] ps ks = refl
over_both (o ∷ os) ps ks = ap (λ (l : List Kind). kinds.Operand o ∷ l) (over_both os ps ks)

-- the first of them lies below the others
pub over_first : (o : Passed) (os : List Passed) (ks : List Kind) → operands_over (reverse (o ∷ os)) ks ≡ operands_over (reverse os) (kinds.Operand o ∷ ks)
over_first o os ks = ap (λ (l : List Passed). operands_over l ks) (reverse-append (o ∷ []) os) ∙ over_both (reverse os) (o ∷ []) ks

-- a reference that fits, and goes to the next address
pub refers : (b : Bool) (to at n m : ℕ) → b ≡ true → to ≡ suc at → m ≡ suc n → Over (to ∷ []) m ≡ cond (b && (to == suc at)) (Over (to ∷ []) (suc n)) Ill
refers b to at n m e f g =
    let both : (b && (to == suc at)) ≡ true = and_from b (to == suc at) e (eq-eqb to (suc at) f) in
    rw both (ap (λ (k : ℕ). Over (to ∷ []) k) g)

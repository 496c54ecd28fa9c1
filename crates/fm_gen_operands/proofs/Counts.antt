-- What the loop over arguments, and what is added behind them, come to.
use Rattle.std.proofs.Common.{◌≡◌, ℕ, suc, List, [], ◌∷◌, ◌++◌, length, refl, sym, ap, ◌∙◌, append_assoc}
use Rattle.fm_tree.specs.Tree.{Tree, trees_from}
use Rattle.fm_symbols.specs.declared.names.Variable.{Variable}
use Rattle.fm_values.specs.declared.intrinsic.Intrinsic.{Intrinsic}
use Rattle.fm_mean.specs.Evaluate.{Reference, Element, Built}
use Rattle.fm_code.specs.declared.instr.Instr.{Instr}
use Rattle.fm_code.specs.declared.instr.Instr.TheVariants as instr
use Rattle.fm_code.specs.declared.instr.Eval.TheVariants as eval
use Rattle.fm_code.specs.declared.instr.Build.TheVariants as build
use Rattle.fm_gen_operands.specs.Places.{locate}
use Rattle.fm_gen_operands.specs.Code.{trees_count, reference_code, place_code, element_code}

pub trees_count-from : (ts : List Tree) → trees_count (trees_from ts) ≡ length ts
trees_count-from [] = refl
trees_count-from (t ∷ ts) = λ i. suc (trees_count-from ts i)

pub added_twice : (old code middle more new : List Instr) → middle ≡ old ++ code → new ≡ middle ++ more → new ≡ old ++ (code ++ more)
added_twice old code middle more new e f = f ∙ ap (λ l. l ++ more) e ∙ append_assoc old code more

module _ (old code middle new : List Instr) (ts : List Tree) (r : Reference) (k : ℕ) (e : middle ≡ old ++ code) where
  pub element_added : (i : ℕ) (v : Variable) → Element i v ≡ r → new ≡ middle ++ place_code v (length ts) (element_code v.kind v.first)
      → new ≡ old ++ reference_code r code (trees_count (trees_from ts)) k
  element_added i v is f =
      added_twice old code middle (place_code v (length ts) (element_code v.kind v.first)) new e f
      ∙ ap (λ n. old ++ reference_code (Element i v) code n k) (sym (trees_count-from ts))
      ∙ ap (λ s. old ++ reference_code s code (trees_count (trees_from ts)) k) is

  pub intrinsic_added : (f : Intrinsic) (n : ℕ) → n ≡ length ts → Built f ≡ r → new ≡ middle ++ instr.Eval (eval.Intrinsic f n) ∷ []
      → new ≡ old ++ reference_code r code (trees_count (trees_from ts)) k
  intrinsic_added f n count is g =
      added_twice old code middle (instr.Eval (eval.Intrinsic f n) ∷ []) new e g
      ∙ ap (λ n. old ++ reference_code (Built f) code n k) (count ∙ sym (trees_count-from ts))
      ∙ ap (λ s. old ++ reference_code s code (trees_count (trees_from ts)) k) is

pub located_added : (old code middle new : List Instr) (ts : List Tree) → middle ≡ old ++ code → (v : Variable) (behind : List Instr)
    → new ≡ middle ++ place_code v (length ts) (locate v.first ∷ behind) → new ≡ old ++ (code ++ place_code v (trees_count (trees_from ts)) (locate v.first ∷ behind))
located_added old code middle new ts e v behind f =
    added_twice old code middle (place_code v (length ts) (locate v.first ∷ behind)) new e f
    ∙ ap (λ n. old ++ (code ++ place_code v n (locate v.first ∷ behind))) (sym (trees_count-from ts))

pub location_added : (old code middle new : List Instr) (ts : List Tree) (n : ℕ) → middle ≡ old ++ code → n ≡ length ts → new ≡ middle ++ instr.Build (build.Location n) ∷ []
    → new ≡ old ++ (code ++ instr.Build (build.Location (trees_count (trees_from ts))) ∷ [])
location_added old code middle new ts n e count f =
    added_twice old code middle (instr.Build (build.Location n) ∷ []) new e f
    ∙ ap (λ k. old ++ (code ++ instr.Build (build.Location k) ∷ [])) (count ∙ sym (trees_count-from ts))

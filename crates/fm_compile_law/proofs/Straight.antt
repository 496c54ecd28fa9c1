-- Code behind code, and words on top of a list.
use Rattle.std.proofs.Common.{◌≡◌, ℕ, zero, suc, Option, Some, None, List, [], ◌∷◌, ◌++◌, reverse, refl, sym, ap, ◌∙◌}
use Rattle.std.proofs.lemmas.List.{reverse-append}
use Rattle.fm_code.specs.declared.code.Span.{Span}
use Rattle.fm_code.specs.declared.instr.Instr.{Instr}
use Rattle.fm_code_kinds.specs.declared.kinds.Kind.{Kind}
use Rattle.fm_code_kinds.specs.declared.kinds.Kind.TheVariants.{Returned, Word, Operand, LoopOf}
use Rattle.fm_code_kinds.specs.declared.kinds.Passed.{Passed}
use Rattle.fm_code_kinds.specs.declared.sorts.Cell.{Cell}
use Rattle.fm_code_kinds.specs.Effects.{results_in, with_word, without_words, operands_over}
use Rattle.fm_compile_law.specs.Along.{then_on, straight, along, AreWordsOver}

abbrev pub some_list : List Kind → Option (List Kind)
some_list ks = Some ks

pub same_list : (ks ms : List Kind) → some_list ks ≡ some_list ms → ks ≡ ms
same_list ks ms e = cc

module _ (cs : List Cell) (n : ℕ) where
  pub appended : (is js : List Instr) (ks ms : List Kind) → along cs n is ks ≡ Some ms → along cs n (is ++ js) ks ≡ along cs n js ms
  appended [] js ks ms e = ap (λ (ls : List Kind). along cs n js ls) (same_list ks ms e)
  appended (i ∷ is) js ks ms e = go (straight cs n i ks) (λ ls f. appended is js ls ms f) e
    where
      go : (o : Option (List Kind)) → ((ls : List Kind) → along cs n is ls ≡ Some ms → along cs n (is ++ js) ls ≡ along cs n js ms)
          → then_on o (λ ls. along cs n is ls) ≡ Some ms → then_on o (λ ls. along cs n (is ++ js) ls) ≡ along cs n js ms
      go None rest e = absurd cc
      go (Some ls) rest e = rest ls e

  -- one instruction behind
  pub then_one : (is : List Instr) (i : Instr) (ks ms ls : List Kind) → along cs n is ks ≡ Some ms → straight cs n i ms ≡ Some ls → along cs n (is ++ i ∷ []) ks ≡ Some ls
  then_one is i ks ms ls e f = appended is (i ∷ []) ks ms e ∙ ap (λ o. then_on o (λ ls. some_list ls)) f

  pub then_more : (is js : List Instr) (ks ms ls : List Kind) → along cs n is ks ≡ Some ms → along cs n js ms ≡ Some ls → along cs n (is ++ js) ks ≡ Some ls
  then_more is js ks ms ls e f = appended is js ks ms e ∙ f

-- as many results lie below words
pub words_results : (k : ℕ) (ks ms : List Kind) → AreWordsOver k ks ms → results_in ms ≡ results_in ks
words_results zero ks ms h = ap results_in h
words_results (suc k) ks ms h = words_results k (Word h.0 ∷ ks) ms h.1

-- so many words are taken
one_less : (k : ℕ) (told : Option Span) (ks ms : List Kind) → without_words k ms ≡ some_list (Word told ∷ ks) → without_words (suc k) ms ≡ some_list ks
one_less zero told ks ms e = ap (λ (ls : List Kind). with_word ls (λ s ls. some_list ls)) (same_list ms (Word told ∷ ks) e)
one_less (suc k) told ks [] e = absurd cc
one_less (suc k) told ks (Returned ∷ ms) e = absurd cc
one_less (suc k) told ks (Word s ∷ ms) e = one_less k told ks ms e
one_less (suc k) told ks (Operand o ∷ ms) e = absurd cc
one_less (suc k) told ks (LoopOf l ∷ ms) e = absurd cc

pub words_taken : (k : ℕ) (ks ms : List Kind) → AreWordsOver k ks ms → without_words k ms ≡ some_list ks
words_taken zero ks ms h = ap some_list h
words_taken (suc k) ks ms h = one_less k h.0 ks ms (words_taken k (Word h.0 ∷ ks) ms h.1)

-- operands above operands
pub operands_above : (os ps : List Passed) (ks : List Kind) → operands_over (os ++ ps) ks ≡ operands_over os (operands_over ps ks)
operands_above [] ps ks = refl
operands_above (o ∷ os) ps ks = ap (λ (ls : List Kind). Operand o ∷ ls) (operands_above os ps ks)

pub operand_first : (o : Passed) (os : List Passed) (ks : List Kind) → operands_over (reverse os) (Operand o ∷ ks) ≡ operands_over (reverse (o ∷ os)) ks
operand_first o os ks = sym (ap (λ l. operands_over l ks) (reverse-append (o ∷ []) os) ∙ operands_above (reverse os) (o ∷ []) ks)

pub operands_results : (os : List Passed) (ks : List Kind) → results_in (operands_over os ks) ≡ results_in ks
operands_results [] ks = refl
operands_results (o ∷ os) ks = operands_results os ks

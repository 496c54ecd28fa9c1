-- What is read of a frame of code that stands for one of the meaning.
use Rattle.std.proofs.Common.{◌≡◌, ℕ, zero, suc, ◌+◌, ◌<◌, ℤ, pos, negsuc, true, false, Some, List, [], ◌∷◌, length, take, drop, get_or, refl, sym, ap, subst, ◌∙◌, arith, length-drop, Ok}
use Rattle.std.specs.Prelude.{slice_get, not, ◌&&◌, ◌||◌}
use Rattle.std.specs.Bool.{beq}
use Rattle.std.proofs.lemmas.Bool.Decides.{nat_tests}
use Rattle.std.proofs.lemmas.List.{length-take, get_or-take, get_or-drop}
use Rattle.std.proofs.lemmas.Option.{slice_get-get_or}
use Rattle.fm_base.specs.declared.token.Op.{Op}
use Rattle.fm_base.specs.declared.token.Op.TheVariants as op
use Rattle.fm_net.specs.Typed.{AllIn}
use Rattle.fm_values.specs.declared.value.Value.{Value}
use Rattle.fm_values.specs.declared.value.Value.TheVariants as value
use Rattle.fm_values.specs.Values.{in_range, truth_word, is_truth, is_true, word_of}
use Rattle.fm_values.specs.Operations.{applied, applied_words, word}
use Rattle.fm_tree.specs.declared.port_type.Kind.{Kind}
use Rattle.fm_tree.specs.declared.port_type.Kind.TheVariants as kind
use Rattle.fm_symbols.specs.declared.names.Variable.{Variable}
use Rattle.fm_mean.specs.Places.{items_at, first_word}
use Rattle.fm_mean.specs.Evaluate.{value_by}
use Rattle.fm_mean.specs.Fits.{IsBit, Types, ItemFits, ValuesFit, sort_of_variable}
use Rattle.fm_gen_relation.specs.Standing.{Slots, item_in, values_in, IsWordOf}

-- Words of values.

pub bit_kept : (w : ℤ) → IsBit w → truth_word (is_truth w) ≡ w
bit_kept (pos zero) h = refl
bit_kept (pos (suc zero)) h = refl
bit_kept (pos (suc (suc n))) h = absurd h
bit_kept (negsuc n) h = absurd h

pub word_kept : (k : Kind) (w : ℤ) → IsWordOf k w → word_of (value_by k w) ≡ w
word_kept kind.Integer w h = refl
word_kept kind.Logical w h = bit_kept w h
word_kept (kind.In t) w h = refl
word_kept (kind.Out t) w h = refl

pub truth_kept : (v : Value) → is_truth (word_of v) ≡ is_true v
truth_kept (value.Number n) = refl
truth_kept (value.Truth true) = refl
truth_kept (value.Truth false) = refl

-- an operator counts words alone
pub applied_kept : (o : Op) (x y : Value) → applied_words o (word_of x) (word_of y) ≡ word (applied o x y)
applied_kept op.Add x y = refl
applied_kept op.Sub x y = refl
applied_kept op.Mul x y = refl
applied_kept op.Div x y = refl
applied_kept op.Pow x y = refl
applied_kept op.Eq x y = refl
applied_kept op.Ne x y = refl
applied_kept op.Lt x y = refl
applied_kept op.Le x y = refl
applied_kept op.Gt x y = refl
applied_kept op.Ge x y = refl
applied_kept op.Eqv x y = λ i. Ok (truth_word (beq (truth_kept x i) (truth_kept y i)))
applied_kept op.Neqv x y = λ i. Ok (truth_word (not (beq (truth_kept x i) (truth_kept y i))))
applied_kept op.Or x y = λ i. Ok (truth_word (truth_kept x i || truth_kept y i))
applied_kept op.And x y = λ i. Ok (truth_word (truth_kept x i && truth_kept y i))
applied_kept op.Not x y = λ i. Ok (truth_word (not (truth_kept y i)))

-- Variables.

same_variable : (v w : Variable) → Some v ≡ Some w → v ≡ w
same_variable v w e = cc

pub item_read : (slots : Slots) (ws : List ℤ) (vs : List Variable) (i : ℕ) (v : Variable) → slice_get vs i ≡ Some v → items_at (values_in slots vs ws) i ≡ item_in slots ws v
item_read slots ws [] i v e = absurd (cc)
item_read slots ws (w ∷ vs) zero v e = ap (item_in slots ws) (same_variable w v e)
item_read slots ws (w ∷ vs) (suc i) v e = item_read slots ws vs i v e

pub item_fits : (types : Types) (slots : Slots) (ws : List ℤ) (vs : List Variable) (i : ℕ) (v : Variable) → ValuesFit types vs (values_in slots vs ws) → slice_get vs i ≡ Some v
    → ItemFits types (sort_of_variable v) v.words (item_in slots ws v)
item_fits types slots ws [] i v h e = absurd (cc)
item_fits types slots ws (w ∷ vs) zero v h e = subst (λ (x : Variable). ItemFits types (sort_of_variable x) x.words (item_in slots ws x)) (same_variable w v e) h.0
item_fits types slots ws (w ∷ vs) (suc i) v h e = item_fits types slots ws vs i v h.1 e

-- Elements.

pub first_of : (xs : List ℤ) (k : ℕ) → first_word (take 1 (drop k xs)) ≡ get_or xs k (pos 0)
first_of [] zero = refl
first_of [] (suc k) = refl
first_of (x ∷ xs) zero = refl
first_of (x ∷ xs) (suc k) = first_of xs k

-- an element stands among the words of its frame
pub element_there : (ws : List ℤ) (f n k : ℕ) → length (take n (drop f ws)) ≡ n → k < n → f + k < length ws
element_there ws f n k full less = omega (arith, full, less, length-take n (drop f ws), length-drop f ws)

pub element_read : (ws : List ℤ) (f n k : ℕ) → length (take n (drop f ws)) ≡ n → k < n → slice_get ws (f + k) ≡ Some (first_word (take 1 (drop k (take n (drop f ws)))))
element_read ws f n k full less =
    slice_get-get_or ws (f + k) (pos 0) (element_there ws f n k full less)
    ∙ ap Some (sym (first_of (take n (drop f ws)) k ∙ get_or-take n (drop f ws) k (pos 0) less ∙ get_or-drop f ws k (pos 0)))

-- and has a number that is an integer
pub number_in_range : (n : ℕ) → n < 4294967296 → in_range (pos n) ≡ Ok (pos n)
number_in_range n h = grind (arith, nat_tests)

-- what isn't there is a bit, too
pub bit_at : (xs : List ℤ) (k : ℕ) → AllIn IsBit xs → IsBit (first_word (take 1 (drop k xs)))
bit_at [] zero h = tt
bit_at [] (suc k) h = tt
bit_at (x ∷ xs) zero h = h.0
bit_at (x ∷ xs) (suc k) h = bit_at xs k h.1

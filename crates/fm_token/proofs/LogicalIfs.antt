-- A text is a logical IF by its class exactly where the code finds the end of its test.
use Rattle.std.proofs.Common.{◌≡◌, ◌≢◌, ℕ, Bool, true, false, cond, Option, Some, None, List, [], ◌∷◌, drop, refl, sym, ap, ◌∙◌}
use Rattle.std.specs.Prelude.{find, unwrap_or, codes}
use Rattle.std.specs.List.{list_all}
use Rattle.std.specs.Option.{option_map}
use Rattle.fm_base.specs.declared.token.Class.{Class}
use Rattle.fm_base.specs.declared.token.Class.TheVariants.{BlockIf, LogicalIf, Assignment, ProcessDo, Do, Nothing}
use Rattle.fm_token.specs.TopLevel.{has_top}
use Rattle.fm_token.specs.Classes.{begins, begins_so, is_same_text, is_whole, whole_words, first_words, first_word_class, word_class, loop_class, plain_class, class_from, class_of, condition_end}
use Rattle.fm_token.specs.Cutting.{end_unless_then, logical_end}
use Rattle.fm_token.proofs.Fixed.{and_left, and_right}

is_other : Class → Bool
is_other LogicalIf = false
is_other class = true

not_logical : (c : Class) → is_other c ≡ true → c ≢ LogicalIf
unfolding is_other
not_logical c o e = let clash : false ≡ true = sym (ap is_other e) ∙ o in cc

found_other : {X : Type 0} (f : X → Class) (p : X → Bool) (xs : List X) (other : Class) → list_all (λ (x : X). is_other (f x)) xs ≡ true → is_other other ≡ true
    → is_other (unwrap_or (option_map f (find p xs)) other) ≡ true
found_other f p [] other a o = o
found_other f p (x ∷ xs) other a o =
    elim (p x) as (λ t. is_other (unwrap_or (option_map f (cond t (Some x) (find p xs))) other) ≡ true) [
      | true ↦ and_left _ _ a
      | false ↦ found_other f p xs other (and_right (is_other (f x)) _ a) o
    ]

first_other : (text : List ℕ) → is_other (first_word_class text) ≡ true
unfolding first_word_class first_words is_other
first_other text = found_other (λ (entry : Class × Option ℕ). entry.0) (begins_so text) first_words Nothing refl refl

found_whole : (p : Class → Bool) (cs : List Class) (other : Class) → list_all is_other cs ≡ true → is_other other ≡ true → is_other (unwrap_or (find p cs) other) ≡ true
found_whole p [] other a o = o
found_whole p (c ∷ cs) other a o =
    elim (p c) as (λ t. is_other (unwrap_or (cond t (Some c) (find p cs)) other) ≡ true) [
      | true ↦ and_left _ _ a
      | false ↦ found_whole p cs other (and_right (is_other c) _ a) o
    ]

word_other : (text : List ℕ) → is_other (word_class text) ≡ true
unfolding word_class whole_words is_other
word_other text = found_whole (is_whole text) whole_words (first_word_class text) refl (first_other text)

loop_other : (text : List ℕ) → is_other (loop_class text) ≡ true
unfolding loop_class is_other
loop_other text =
    elim (begins text (codes "PROCESSDO")) as (λ t. is_other (cond t ProcessDo (cond (begins text (codes "DO")) Do Nothing)) ≡ true) [
      | true ↦ refl
      | false ↦ elim (begins text (codes "DO")) as (λ t. is_other (cond t Do Nothing) ≡ true) [ true ↦ refl | false ↦ refl ]
    ]

plain_other : (text : List ℕ) → is_other (plain_class text) ≡ true
unfolding plain_class is_other
plain_other text =
    elim (has_top 61 text) as (λ t. is_other (cond t (cond (has_top 44 text) (loop_class text) Assignment) (word_class text)) ≡ true) [
      | true ↦ elim (has_top 44 text) as (λ t. is_other (cond t (loop_class text) Assignment) ≡ true) [ true ↦ loop_other text | false ↦ refl ]
      | false ↦ word_other text
    ]

-- the class and the end, by the end of the condition
record IsTest (class : Class) (end : Option ℕ) (condition : Option ℕ) : Type 0 where
  logical : (n : ℕ) → end ≡ Some n → (class ≡ LogicalIf) × (condition ≡ Some n)
  other : end ≡ None → class ≢ LogicalIf
  ends : (n : ℕ) → class ≡ LogicalIf → condition ≡ Some n → end ≡ Some n

test_from : (text : List ℕ) (condition : Option ℕ) → IsTest (class_from text condition) (end_unless_then text condition) condition
test_from text None = record {
  logical = λ n e. cc;
  other = λ e. not_logical (plain_class text) (plain_other text);
  ends = λ n e h. cc;
}
test_from text (Some m) =
    elim (is_same_text (drop m text) (codes "THEN")) as (λ t. IsTest (cond t BlockIf LogicalIf) (cond t None (Some m)) (Some m)) [
      | true ↦ record { logical = λ n e. cc; other = λ e. λ h. cc; ends = λ n h e. cc }
      | false ↦ record { logical = λ n e. (refl, e); other = λ e. cc; ends = λ n h e. e }
    ]

is_test : (text : List ℕ) → IsTest (class_of text) (logical_end text) (condition_end text)
unfolding class_of logical_end
is_test text = test_from text (condition_end text)

pub logical_class : (text : List ℕ) (n : ℕ) → logical_end text ≡ Some n → (class_of text ≡ LogicalIf) × (condition_end text ≡ Some n)
logical_class text n e = (is_test text).logical n e

pub other_class : (text : List ℕ) → logical_end text ≡ None → class_of text ≢ LogicalIf
other_class text e = (is_test text).other e

pub logical_ends : (text : List ℕ) (n : ℕ) → class_of text ≡ LogicalIf → condition_end text ≡ Some n → logical_end text ≡ Some n
logical_ends text n c e = (is_test text).ends n c e

pub other_ends : (text : List ℕ) → class_of text ≢ LogicalIf → logical_end text ≡ None
other_ends text c = elim (logical_end text) as (λ o. logical_end text ≡ o → o ≡ None) [ None ↦ λ e. refl | Some n ↦ λ e. absurd (c (logical_class text n e).0) ] refl

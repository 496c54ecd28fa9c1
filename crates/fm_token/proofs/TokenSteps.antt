-- The tokens of a text step by step.
use Rattle.std.proofs.Common.{◌≡◌, ℕ, suc, zero, ◌-◌, ◌≤◌, ◌<◌, true, false, cond, Result, Ok, Err, MatchResult, Option, Some, None, List, [], ◌∷◌, ◌++◌, take, drop, length, arith, refl, sym, ap, ◌∙◌, append_assoc}
use Rattle.fm_base.specs.declared.token.Class.{Class}
use Rattle.fm_base.specs.declared.token.Class.TheVariants.{LogicalIf}
use Rattle.fm_base.specs.declared.token.Token.{Token}
use Rattle.fm_base.specs.declared.token.Token.TheVariants.{Key}
use Rattle.fm_token.specs.Classes.{class_of, condition_end, plain_class, word_class, first_word_class, whole_words, first_words}
use Rattle.fm_base.specs.declared.parse_fail.ParseFail.{ParseFail}
use Rattle.fm_base.specs.declared.parse_fail.ParseFail.TheVariants.{Bad}
use Rattle.fm_token.specs.Cutting.{cut_of, is_nothing, logical_end, keyed_tokens, logical_tokens, tokens_from, tokens_behind, tokens_of}
use Rattle.fm_token.specs.Statements.{test_of, behind_key, key_of}
use Rattle.fm_token.specs.Steps.{behind_items}
use Rattle.fm_token.proofs.Cuts.{behind_items_append}

keyed_nothing : keyed_tokens [] ≡ None
unfolding keyed_tokens class_of condition_end plain_class word_class first_word_class whole_words first_words
keyed_nothing = refl

pub tokens_nil : tokens_of [] ≡ None
unfolding tokens_of tokens_behind
tokens_nil = refl

pub tokens_drop : (n : ℕ) (text : List ℕ) → tokens_behind n text ≡ tokens_of (drop n text)
unfolding tokens_of tokens_behind
tokens_drop zero text = refl
tokens_drop (suc n) [] = refl
tokens_drop (suc n) (b ∷ bs) = tokens_drop n bs

pub tokens_first : (b : ℕ) (bs : List ℕ) → tokens_of (b ∷ bs) ≡ tokens_from (b ∷ bs) (logical_end (b ∷ bs)) (λ n. tokens_behind n bs)
unfolding tokens_of tokens_behind
tokens_first b bs = refl

-- a text that is no logical IF
pub tokens_plain : (text : List ℕ) → logical_end text ≡ None → tokens_of text ≡ keyed_tokens text
tokens_plain [] e = tokens_nil ∙ sym keyed_nothing
tokens_plain (b ∷ bs) e = tokens_first b bs ∙ ap (λ (o : Option ℕ). tokens_from (b ∷ bs) o (λ n. tokens_behind n bs)) e

-- a logical IF
pub tokens_logical : (text : List ℕ) (n : ℕ) → logical_end text ≡ Some n → 0 < n → n ≤ length text
    → tokens_of text ≡ logical_tokens (cut_of (test_of n text)) (tokens_of (drop n text))
tokens_logical [] n e p l = absurd (omega arith)
tokens_logical (b ∷ bs) zero e p l = absurd (omega arith)
tokens_logical (b ∷ bs) (suc n) e p l =
    let k : suc n - 1 ≡ n = omega arith in
    tokens_first b bs ∙ ap (λ (o : Option ℕ). tokens_from (b ∷ bs) o (λ m. tokens_behind m bs)) e
    ∙ ap (logical_tokens (cut_of (test_of (suc n) (b ∷ bs)))) (ap (λ (m : ℕ). tokens_behind m bs) k ∙ tokens_drop n bs)

pub logical_push : (out more : List Token) (test behind : Option (List Token)) → behind_items (out ++ Key LogicalIf ∷ []) test ≡ Some more
    → behind_items more behind ≡ behind_items out (logical_tokens test behind)
logical_push out more None behind e = cc
logical_push out more (Some c) behind e =
    let is : (out ++ Key LogicalIf ∷ []) ++ c ≡ more = cc in
    ap (λ (x : List Token). behind_items x behind) (sym is ∙ append_assoc out (Key LogicalIf ∷ []) c) ∙ sym (behind_items_append out (Key LogicalIf ∷ c) behind)

keyed_as : (text : List ℕ) (class : Class) → class ≡ class_of text → is_nothing class ≡ false → keyed_tokens text ≡ behind_items (key_of class) (cut_of (behind_key text))
unfolding keyed_tokens
keyed_as text class c n =
    ap (λ t. cond t None (behind_items (key_of (class_of text)) (cut_of (behind_key text)))) (ap is_nothing (sym c) ∙ n)
    ∙ ap (λ (k : Class). behind_items (key_of k) (cut_of (behind_key text))) (sym c)

pub keyed_push : (out more : List Token) (text cut : List ℕ) (class : Class) → class ≡ class_of text → is_nothing class ≡ false → more ≡ out ++ key_of class
    → cut ≡ behind_key text → behind_items more (cut_of cut) ≡ behind_items out (keyed_tokens text)
keyed_push out more text cut class c n m b =
    ap (λ (x : List Token). behind_items x (cut_of cut)) m ∙ ap (λ (x : List ℕ). behind_items (out ++ key_of class) (cut_of x)) b
    ∙ sym (ap (behind_items out) (keyed_as text class c n) ∙ behind_items_append out (key_of class) (cut_of (behind_key text)))

pub keyed_bad : (text cut : List ℕ) (class : Class) → class ≡ class_of text → is_nothing class ≡ false → cut ≡ behind_key text → cut_of cut ≡ None
    → keyed_tokens text ≡ None
keyed_bad text cut class c n b e = keyed_as text class c n ∙ ap (behind_items (key_of class)) (ap cut_of (sym b) ∙ e)

pub keyed_none : (text : List ℕ) (class : Class) → class ≡ class_of text → is_nothing class ≡ true → keyed_tokens text ≡ None
unfolding keyed_tokens
keyed_none text class c n = ap (λ t. cond t None (behind_items (key_of (class_of text)) (cut_of (behind_key text)))) (ap is_nothing (sym c) ∙ n)

-- what one call pushes is what the next one is asked for
pub pushed : (r : Result (Unit {0}) ParseFail) (a b o q : Option (List Token)) (new : List Token) → a ≡ b → (o ≡ None → q ≡ None)
    → MatchResult r (λ _. a ≡ Some new) (λ e. e ≡ Bad → o ≡ None) → MatchResult r (λ _. b ≡ Some new) (λ e. e ≡ Bad → q ≡ None)
pushed (Ok x) a b o q new s f m = sym s ∙ m
pushed (Err e) a b o q new s f m = λ p. f (m p)

pub logical_more : (out more : List Token) (text condition behind : List ℕ) (n : ℕ) → logical_end text ≡ Some n → 0 < n → n ≤ length text
    → condition ≡ take n text → behind ≡ drop n text → behind_items (out ++ Key LogicalIf ∷ []) (cut_of (drop 2 condition)) ≡ Some more
    → behind_items more (tokens_of behind) ≡ behind_items out (tokens_of text)
logical_more out more text condition behind n e p l c b w =
    ap (λ (x : List ℕ). behind_items more (tokens_of x)) b
    ∙ logical_push out more (cut_of (test_of n text)) (tokens_of (drop n text)) (ap (λ (x : List ℕ). behind_items (out ++ Key LogicalIf ∷ []) (cut_of (drop 2 x))) (sym c) ∙ w)
    ∙ ap (behind_items out) (sym (tokens_logical text n e p l))

pub logical_bad : (text condition : List ℕ) (n : ℕ) → logical_end text ≡ Some n → 0 < n → n ≤ length text → condition ≡ take n text
    → cut_of (drop 2 condition) ≡ None → tokens_of text ≡ None
logical_bad text condition n e p l c w =
    tokens_logical text n e p l ∙ ap (λ (o : Option (List Token)). logical_tokens o (tokens_of (drop n text))) (ap (λ (x : List ℕ). cut_of (drop 2 x)) (sym c) ∙ w)

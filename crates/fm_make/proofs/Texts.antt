-- Texts put one behind the other.
use Rattle.std.proofs.Common.{◌≡◌, ℕ, zero, suc, ◌+◌, ◌-◌, ◌≤◌, List, [], ◌++◌, ap, sym, ◌∙◌, append_assoc, append-nil, arith}
use Rattle.std.specs.List.{flat_map, range_with_len}
use Rattle.fm_make.specs.Made.{stages_of, messages_of, step_of, for_stages, program_text, feed_text, stage_text, take_text, made_text}

-- the texts of so many numbers, and of the next one
flat_map-range_more : (f : ℕ → List ℕ) (a n j : ℕ) → a + n ≡ j → flat_map f (range_with_len a (suc n)) ≡ flat_map f (range_with_len a n) ++ f j
flat_map-range_more f a zero j e = append-nil (f a) ∙ ap f (let same : a ≡ j = omega arith in same)
flat_map-range_more f a (suc n) j e =
    ap (λ t. f a ++ t) (flat_map-range_more f (a + 1) n j (omega arith)) ∙ sym (append_assoc (f a) (flat_map f (range_with_len (a + 1) n)) (f j))

-- the stages before this one, and this one
pub for_stages_more : (f : ℕ → List ℕ) (stage count : ℕ) (old before after : List ℕ) → 1 ≤ stage → stage ≡ count → before ≡ old ++ for_stages f (stage - 1) → after ≡ before ++ f stage → after ≡ old ++ for_stages f count
for_stages_more f stage count old before after low end is more =
    let here : suc (stage - 1) ≡ count = omega arith in
    more ∙ ap (λ t. t ++ f stage) is ∙ append_assoc old (for_stages f (stage - 1)) (f stage)
    ∙ ap (λ t. old ++ t) (sym (flat_map-range_more f 1 (stage - 1) stage (omega arith)) ∙ ap (for_stages f) here)

-- all stages, where the loop leaves
pub for_stages_all : (f : ℕ → List ℕ) (stage count : ℕ) (old after : List ℕ) → stage - 1 ≡ count → after ≡ old ++ for_stages f (stage - 1) → after ≡ old ++ for_stages f count
for_stages_all f stage count old after end is = is ∙ ap (λ n. old ++ for_stages f n) end

pub three_behind : (old a b c x y z : List ℕ) → x ≡ old ++ a → y ≡ x ++ b → z ≡ y ++ c → z ≡ old ++ (a ++ (b ++ c))
three_behind old a b c x y z first second third =
    third ∙ ap (λ t. t ++ c) (second ∙ ap (λ t. t ++ b) first ∙ append_assoc old a b) ∙ append_assoc old (a ++ b) c ∙ ap (λ t. old ++ t) (append_assoc a b c)

four_behind : (old a b c d x y z whole : List ℕ) → x ≡ old ++ a → y ≡ x ++ b → z ≡ y ++ c → whole ≡ z ++ d → whole ≡ old ++ (a ++ (b ++ (c ++ d)))
four_behind old a b c d x y z whole first second third fourth =
    three_behind x b c d y z whole second third fourth ∙ ap (λ t. t ++ (b ++ (c ++ d))) first ∙ append_assoc old a (b ++ (c ++ d))

-- the units behind an empty text
pub made_by_units : (number stages messages : ℕ) (empty x y z whole : List ℕ) → stages ≡ stages_of number → messages ≡ messages_of number → empty ≡ [] → x ≡ empty ++ program_text stages → y ≡ x ++ feed_text messages → z ≡ y ++ for_stages (λ stage. stage_text stage (step_of number stage)) stages → whole ≡ z ++ take_text → whole ≡ made_text number
made_by_units number stages messages empty x y z whole s m none first second third fourth =
    let texts : ℕ → List ℕ = for_stages (λ stage. stage_text stage (step_of number stage)) in
    four_behind empty (program_text stages) (feed_text messages) (texts stages) take_text x y z whole first second third fourth
    ∙ ap (λ t. t ++ (program_text stages ++ (feed_text messages ++ (texts stages ++ take_text)))) none
    ∙ ap (λ n. program_text n ++ (feed_text messages ++ (texts n ++ take_text))) s
    ∙ ap (λ n. program_text (stages_of number) ++ (feed_text n ++ (texts (stages_of number) ++ take_text))) m

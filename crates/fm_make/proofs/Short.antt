-- The text of any number is short.
use Rattle.std.proofs.Common.{◌≡◌, ℕ, zero, suc, ◌+◌, ◌*◌, ◌<◌, ◌≤◌, ◌%◌, List, [], ◌∷◌, ◌++◌, length, ap, ◌∙◌, refl, arith}
use Rattle.std.specs.Fmt.{decimal}
use Rattle.std.specs.List.{concat, flat_map, range_with_len}
use Rattle.std.proofs.lemmas.Fmt.{length-decimal-le}
use Rattle.std.proofs.lemmas.List.{length-append}
use Rattle.fm_make.specs.Made.{stages_of, messages_of, step_of, for_stages, call_pieces, call_text, opening_pieces, opening_text, closing_pieces, closing_text, program_text, feed_pieces, feed_text, stage_pieces, stage_text, take_pieces, take_text, made_text}

abbrev sizes : List (List ℕ) → ℕ
sizes [] = 0
sizes (t ∷ ts) = length t + sizes ts

concat_size : (ts : List (List ℕ)) → length (concat ts) ≡ sizes ts
concat_size [] = refl
concat_size (t ∷ ts) = length-append t (concat ts) ∙ ap (λ n. length t + n) (concat_size ts)

decimal_short : (n : ℕ) → n < 10000 → length (decimal n) ≤ 4
decimal_short n l = length-decimal-le 4 n (omega arith) (omega (arith, l)) (omega (arith, l))

within : (ts : List (List ℕ)) (b : ℕ) → sizes ts ≤ b → length (concat ts) ≤ b
within ts b l = omega (arith, concat_size ts, l)

call_short : (s : ℕ) → s < 200 → length (call_text s) ≤ 100
call_short s l = within (call_pieces s) 100 (let d = decimal_short s (omega (arith, l)) in let e = decimal_short (s + 1) (omega (arith, l)) in omega (arith, d, e))

opening_short : (s : ℕ) → s < 200 → length (opening_text s) ≤ 500
opening_short s l = within (opening_pieces s) 500 (let e = decimal_short (s + 1) (omega (arith, l)) in omega (arith, e))

closing_short : (s : ℕ) → s < 200 → length (closing_text s) ≤ 100
closing_short s l = within (closing_pieces s) 100 (let e = decimal_short (s + 1) (omega (arith, l)) in omega (arith, e))

feed_short : (m : ℕ) → m < 1000 → length (feed_text m) ≤ 300
feed_short m l = within (feed_pieces m) 300 (let e = decimal_short m (omega (arith, l)) in omega (arith, e))

stage_short : (s c : ℕ) → s < 200 → c < 100 → length (stage_text s c) ≤ 300
stage_short s c l m = within (stage_pieces s c) 300 (let d = decimal_short s (omega (arith, l)) in let e = decimal_short c (omega (arith, m)) in omega (arith, d, e))

take_short : length take_text ≤ 300
take_short = within take_pieces 300 (omega arith)

-- so many texts, each of at most so many bytes
all_short : (f : ℕ → List ℕ) (b a n : ℕ) → ((s : ℕ) → s < a + n → length (f s) ≤ b) → length (flat_map f (range_with_len a n)) ≤ n * b
all_short f b a zero h = omega arith
all_short f b a (suc n) h =
    let here = h a (omega arith) in
    let rest = all_short f b (a + 1) n (λ s l. h s (omega (arith, l))) in
    omega (arith, length-append (f a) (flat_map f (range_with_len (a + 1) n)), here, rest)

pub made_text_short : (number : ℕ) → length (made_text number) ≤ 1000000
made_text_short number =
    let k = stages_of number in
    let few : number % 180 < 180 = omega arith in
    let m : number % 900 < 900 = omega arith in
    let l : k < 200 = omega (arith, few) in
    let calls = all_short call_text 100 1 k (λ s h. call_short s (omega (arith, h, l))) in
    let units = all_short (λ s. stage_text s (step_of number s)) 300 1 k (λ s h. stage_short s (step_of number s) (omega (arith, h, l)) (omega arith)) in
    let head = length-append (opening_text k) (for_stages call_text k ++ closing_text k) in
    let inner = length-append (for_stages call_text k) (closing_text k) in
    let whole = length-append (program_text k) (feed_text (messages_of number) ++ (for_stages (λ s. stage_text s (step_of number s)) k ++ take_text)) in
    let behind = length-append (feed_text (messages_of number)) (for_stages (λ s. stage_text s (step_of number s)) k ++ take_text) in
    let last = length-append (for_stages (λ s. stage_text s (step_of number s)) k) take_text in
    omega (arith, l, calls, units, head, inner, whole, behind, last, opening_short k l, closing_short k l, feed_short (messages_of number) (omega (arith, m)), take_short)

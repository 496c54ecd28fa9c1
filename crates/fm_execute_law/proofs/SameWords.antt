-- Words in front of bytes: where two are the same bytes, they are one word, and so are the bytes behind them.
use Rattle.std.proofs.Common.{◌≡◌, ℕ, ℤ, List, ◌++◌, sym, ap, ◌∙◌, arith}
use Rattle.std.specs.Fmt.{decimal, signed_decimal}
use Rattle.std.specs.Int.{w64}
use Rattle.std.specs.Int.RustNames.{FitsSigned}
use Rattle.fm_object.specs.Texts.{IsName, IsShort, number, signed, word}
use Rattle.fm_object.specs.Words.{after, word_at}
use Rattle.fm_object.proofs.WordLaws.{Avoids, IsEnd, after_again, name_avoids, some, some_is, word_again}
use Rattle.fm_execute_law.proofs.Digits.{decimal_avoids, same_decimal, same_signed, signed_avoids}

pub same_keyword : (k r s : List ℕ) → k ++ r ≡ k ++ s → r ≡ s
same_keyword k r s e = some_is r s (sym (after_again k r) ∙ ap (after k) e ∙ after_again k s)

same_word : (e : ℕ) (v w r s : List ℕ) → Avoids e v → Avoids e w → word v e ++ r ≡ word w e ++ s → (v ≡ w) × (r ≡ s)
same_word e v w r s mine theirs is =
    let both : some {A = List ℕ × List ℕ} (v, r) ≡ some (w, s) = sym (word_again e v r mine) ∙ ap (word_at e) is ∙ word_again e w s theirs in
    let same : (v, r) ≡ (w, s) = some_is {A = List ℕ × List ℕ} (v, r) (w, s) both in
    (ap (λ (x : List ℕ × List ℕ). x.0) same, ap (λ (x : List ℕ × List ℕ). x.1) same)

module _ (e : ℕ) (end : IsEnd e) (r s : List ℕ) where
  pub same_number : (a b : ℕ) → IsShort b → number a e ++ r ≡ number b e ++ s → (a ≡ b) × (r ≡ s)
  same_number a b short is =
      let low = end.low in
      let k = same_word e (decimal a) (decimal b) r s (decimal_avoids e a (omega (arith, low))) (decimal_avoids e b (omega (arith, low))) is in
      (same_decimal a b (omega (arith, short)) k.0, k.1)

  pub same_signed_number : (y z : ℤ) → FitsSigned w64 z → signed y e ++ r ≡ signed z e ++ s → (y ≡ z) × (r ≡ s)
  same_signed_number y z fits is =
      let k = same_word e (signed_decimal y) (signed_decimal z) r s (signed_avoids e end.low y) (signed_avoids e end.low z) is in
      (same_signed y z fits k.0, k.1)

  pub same_name : (v w : List ℕ) → IsName v → IsName w → word v e ++ r ≡ word w e ++ s → (v ≡ w) × (r ≡ s)
  same_name v w mine theirs is = same_word e v w r s (name_avoids e end v mine) (name_avoids e end w theirs) is

-- What a frame gives back: port words that leave the callee come to the caller, or are let go.
use Rattle.std.proofs.Common.{◌≡◌, ℕ, suc, ◌+◌, ◌≤◌, ℤ, pos, Bool, true, false, cond, ◌&&◌, List, [], ◌∷◌, length, refl, sym, ap, ◌∙◌, arith}
use Rattle.std.specs.Prelude.{nat_le}
use Rattle.std.proofs.lemmas.List.{length-replicate}
use Rattle.std.proofs.lemmas.Bool.{and_from, le-leb}
use Rattle.fm_code.specs.declared.body.Back.{Back}
use Rattle.fm_code.specs.Acts.{span_of}
use Rattle.fm_code.specs.Passing.{Given, backs_fit, displaced, give, give_all, give_ports, give_words, given_span, got_span, is_port, merged, nulls}
use Rattle.fm_code_kinds.specs.declared.sorts.Cell.{Cell}
use Rattle.fm_code_kinds.specs.Shapes.{words_of}
use Rattle.fm_code_kinds.proofs.Places.{AreInside, sorted_inside}
use Rattle.fm_code_preserves.specs.Rooms.{BackFits, BacksFit, IsRoom, is_port_word}
use Rattle.fm_code_preserves.specs.Weights.{heavy, masked, weight}
use Rattle.fm_code_preserves.proofs.Masks.{full, nulls_weigh, over_length, over_plain, over_ports, under, under_length, weight-append}
use Rattle.fm_code_preserves.proofs.Sorted.{room_words}

pub merged_length : (ms ts : List ℤ) → length (merged ms ts) ≡ length ms
merged_length [] ts = refl
merged_length (m ∷ ms) [] = refl
merged_length (m ∷ ms) (t ∷ ts) = ap suc (merged_length ms ts)

-- ports that come, and those in whose places they come
pub merged_weigh : (g : ℤ → ℕ) (ms ts : List ℤ) → length ms ≡ length ts → full g (merged ms ts) + weight g (displaced ms ts) ≡ full g ms + full g ts
merged_weigh g [] [] e = refl
merged_weigh g [] (t ∷ ts) e = absurd (omega (arith, e))
merged_weigh g (m ∷ ms) [] e = absurd (omega (arith, e))
merged_weigh g (m ∷ ms) (t ∷ ts) e = go (is_port t) (is_port m) refl refl (merged_weigh g ms ts (omega (arith, e)))
  where
    go : (a b : Bool) → is_port t ≡ a → is_port m ≡ b → full g (merged ms ts) + weight g (displaced ms ts) ≡ full g ms + full g ts
        → heavy g (cond a t m) + full g (merged ms ts) + weight g (cond (a && b) (m ∷ displaced ms ts) (displaced ms ts)) ≡ heavy g m + full g ms + (heavy g t + full g ts)
    go true true p q h = omega (arith, h, ap (λ (b : Bool). cond b (g m) 0) q)
    go true false p q h = omega (arith, h, ap (λ (b : Bool). cond b (g m) 0) q)
    go false b p q h = omega (arith, h, ap (λ (b : Bool). cond b (g t) 0) p)

-- how words are while they are given back
pub record GivenSo (mine theirs : List Cell) (g : Given) : Type 0 where
  pub mine_count : length g.mine ≡ words_of mine
  pub theirs_count : length g.theirs ≡ words_of theirs

abbrev pub all_weigh : (mine theirs : List Cell) → (ℤ → ℕ) → Given → ℕ
all_weigh mine theirs f g = masked (is_port_word mine) f 0 g.mine + masked (is_port_word theirs) f 0 g.theirs + weight f g.drops

pub record GivesOver (mine theirs : List Cell) (g after : Given) : Type 0 where
  pub so : GivenSo mine theirs after
  pub weighs : (f : ℤ → ℕ) → all_weigh mine theirs f after ≡ all_weigh mine theirs f g

module _ (mine theirs : List Cell) (inside : AreInside (words_of mine) mine) (within : AreInside (words_of theirs) theirs) where
  give_one : (b : Back) → BackFits mine theirs b → (g : Given) → GivenSo mine theirs g → GivesOver mine theirs g (give b g)
  give_one b fits g so = go b.port fits.got fits.given
    where
      got_end : b.to + b.words ≤ length g.mine
      got_end = omega (arith, so.mine_count, sorted_inside (words_of mine) mine inside (got_span b) fits.got.sort fits.got.at)

      given_end : b.from + b.words ≤ length g.theirs
      given_end = omega (arith, so.theirs_count, sorted_inside (words_of theirs) theirs within (given_span b) fits.given.sort fits.given.at)

      my_span : length (span_of g.mine (got_span b)) ≡ b.words
      my_span = under_length g.mine b.to b.words got_end

      their_span : length (span_of g.theirs (given_span b)) ≡ b.words
      their_span = under_length g.theirs b.from b.words given_end

      go : (p : Bool) → IsRoom mine (got_span b) p → IsRoom theirs (given_span b) p → GivesOver mine theirs g (cond p (give_ports b g) (give_words b g))
      go false r s =
          let le : b.to + length (span_of g.theirs (given_span b)) ≤ length g.mine = omega (arith, their_span, got_end) in
          record {
            so = record { mine_count = over_length (is_port_word mine) (λ w. 0) g.mine b.to (span_of g.theirs (given_span b)) le ∙ so.mine_count; theirs_count = so.theirs_count };
            weighs = λ f. ap (λ w. w + masked (is_port_word theirs) f 0 g.theirs + weight f g.drops)
                (over_plain (is_port_word mine) f g.mine b.to (span_of g.theirs (given_span b)) le (λ k low high. room_words mine (got_span b) false r k low (omega (arith, high, their_span))));
          }
      go true r s =
          let ms = span_of g.mine (got_span b) in
          let ts = span_of g.theirs (given_span b) in
          let size : length (merged ms ts) ≡ b.words = merged_length ms ts ∙ my_span in
          let null_count : length (nulls b.words) ≡ b.words = length-replicate b.words (pos 0) in
          let le : b.to + length (merged ms ts) ≤ length g.mine = omega (arith, size, got_end) in
          let fit : b.from + length (nulls b.words) ≤ length g.theirs = omega (arith, null_count, given_end) in
          record {
            so = record {
              mine_count = over_length (is_port_word mine) (λ w. 0) g.mine b.to (merged ms ts) le ∙ so.mine_count;
              theirs_count = over_length (is_port_word theirs) (λ w. 0) g.theirs b.from (nulls b.words) fit ∙ so.theirs_count;
            };
            weighs = λ f.
                omega (
                  arith,
                  over_ports (is_port_word mine) f g.mine b.to (merged ms ts) le (λ k low high. room_words mine (got_span b) true r k low (omega (arith, high, size))),
                  ap (λ k. full f (under g.mine b.to k)) size,
                  over_ports (is_port_word theirs) f g.theirs b.from (nulls b.words) fit (λ k low high. room_words theirs (given_span b) true s k low (omega (arith, high, null_count))),
                  ap (λ k. full f (under g.theirs b.from k)) null_count,
                  nulls_weigh f b.words,
                  merged_weigh f ms ts (my_span ∙ sym their_span),
                  weight-append f g.drops (displaced ms ts),
                );
          }

  pub given_over : (bs : List Back) → BacksFit mine theirs bs → (g : Given) → GivenSo mine theirs g → GivesOver mine theirs g (give_all bs g)
  given_over [] fits g so = record { so = so; weighs = λ f. refl }
  given_over (b ∷ bs) fits g so =
      let one = give_one b fits.0 g so in
      let rest = given_over bs fits.1 (give b g) one.so in
      record { so = rest.so; weighs = λ f. rest.weighs f ∙ one.weighs f }

  -- what is given back finds its words
  pub backs_found : (bs : List Back) → BacksFit mine theirs bs → (n k : ℕ) → n ≡ words_of mine → k ≡ words_of theirs → backs_fit n k bs ≡ true
  backs_found [] fits n k e f = refl
  backs_found (b ∷ bs) fits n k e f =
      let a = sorted_inside (words_of mine) mine inside (got_span b) fits.0.got.sort fits.0.got.at in
      let d = sorted_inside (words_of theirs) theirs within (given_span b) fits.0.given.sort fits.0.given.at in
      and_from (nat_le (b.to + b.words) n && nat_le (b.from + b.words) k) (backs_fit n k bs)
      (and_from (nat_le (b.to + b.words) n) (nat_le (b.from + b.words) k) (le-leb (b.to + b.words) n (omega (arith, a, e))) (le-leb (b.from + b.words) k (omega (arith, d, f))))
      (backs_found bs fits.1 n k e f)

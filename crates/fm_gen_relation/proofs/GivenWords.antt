-- What is given back by whole spans, one word after the other.
use Rattle.std.proofs.Common.{◌≡◌, ℕ, suc, ◌<◌, ℤ, pos, Bool, true, false, cond, List, [], ◌∷◌, ◌++◌, length, take, drop, set, get_or, refl, sym, ap, ◌∙◌, arith, append_assoc}
use Rattle.std.specs.Prelude.{◌&&◌}
use Rattle.std.proofs.lemmas.List.{append-nil, drop-set-lt}
use Rattle.std.proofs.Math.Seq.{drop-cons}
use Rattle.fm_code.specs.Passing.{is_port, spliced, nulls, merged, displaced, Given}
use Rattle.fm_gen_relation.proofs.Spans.{spliced_none, spliced_more}

pub same_given : (g h : Given) → g.mine ≡ h.mine → g.theirs ≡ h.theirs → g.drops ≡ h.drops → g ≡ h
same_given g h a b c = λ i. record { mine = a i; theirs = b i; drops = c i }

-- Ports to their places.

pub length-merged : (ms ts : List ℤ) → length (merged ms ts) ≡ length ms
length-merged [] ts = refl
length-merged (m ∷ ms) [] = refl
length-merged (m ∷ ms) (t ∷ ts) = ap suc (length-merged ms ts)

-- so many words from these places on are given back
abbrev pub span_given : Given → (from to count : ℕ) → Given
span_given g b a n = record {
  mine = spliced g.mine a (merged (take n (drop a g.mine)) (take n (drop b g.theirs)));
  theirs = spliced g.theirs b (nulls n);
  drops = g.drops ++ displaced (take n (drop a g.mine)) (take n (drop b g.theirs));
}

abbrev pub word_at : List ℤ → ℕ → ℤ
word_at ws k = get_or ws k (pos 0)

-- one word is
abbrev pub word_given : Given → (from to : ℕ) → Given
word_given g b a = record {
  mine = set g.mine a (cond (is_port (word_at g.theirs b)) (word_at g.theirs b) (word_at g.mine a));
  theirs = set g.theirs b (pos 0);
  drops = g.drops ++ cond (is_port (word_at g.theirs b) && is_port (word_at g.mine a)) (word_at g.mine a ∷ []) [];
}

pub none_given : (g : Given) (b a : ℕ) → span_given g b a 0 ≡ g
none_given g b a = same_given (span_given g b a 0) g (spliced_none g.mine a) (spliced_none g.theirs b) (append-nil g.drops)

-- the words of a span are its first one and those behind, whatever the first one becomes
span_more : (ws : List ℤ) (a n : ℕ) (x : ℤ) → a < length ws → take (suc n) (drop a ws) ≡ word_at ws a ∷ take n (drop (suc a) (set ws a x))
span_more ws a n x less = ap (take (suc n)) (drop-cons ws a (pos 0) less) ∙ ap (λ l. word_at ws a ∷ take n l) (sym (drop-set-lt (suc a) ws a x (omega arith)))

drops_more : (ds : List ℤ) (c : Bool) (m : ℤ) (rest : List ℤ) → ds ++ cond c (m ∷ rest) rest ≡ (ds ++ cond c (m ∷ []) []) ++ rest
drops_more ds true m rest = sym (append_assoc ds (m ∷ []) rest)
drops_more ds false m rest = ap (λ l. l ++ rest) (sym (append-nil ds))

module _ (g : Given) (b a n : ℕ) (there : b < length g.theirs) (here : a < length g.mine) where
  abbrev one : Given
  one = word_given g b a

  abbrev mine_behind : List ℤ
  mine_behind = take n (drop (suc a) one.mine)

  abbrev theirs_behind : List ℤ
  theirs_behind = take n (drop (suc b) one.theirs)

  mine_more : take (suc n) (drop a g.mine) ≡ word_at g.mine a ∷ mine_behind
  mine_more = span_more g.mine a n (cond (is_port (word_at g.theirs b)) (word_at g.theirs b) (word_at g.mine a)) here

  theirs_more : take (suc n) (drop b g.theirs) ≡ word_at g.theirs b ∷ theirs_behind
  theirs_more = span_more g.theirs b n (pos 0) there

  -- what is made of two spans, by the first words and those behind
  of_spans : {X : Type 0} (f : List ℤ → List ℤ → X) → f (take (suc n) (drop a g.mine)) (take (suc n) (drop b g.theirs)) ≡ f (word_at g.mine a ∷ mine_behind) (word_at g.theirs b ∷ theirs_behind)
  of_spans f = λ i. f (mine_more i) (theirs_more i)

  -- a span is given back by its first word, and those behind it
  pub more_given : span_given g b a (suc n) ≡ span_given one (suc b) (suc a) n
  more_given = same_given (span_given g b a (suc n)) (span_given one (suc b) (suc a) n)
      (of_spans (λ ms ts. spliced g.mine a (merged ms ts)) ∙ spliced_more g.mine a (cond (is_port (word_at g.theirs b)) (word_at g.theirs b) (word_at g.mine a)) (merged mine_behind theirs_behind) here)
      (spliced_more g.theirs b (pos 0) (nulls n) there)
      (of_spans (λ ms ts. g.drops ++ displaced ms ts) ∙ drops_more g.drops (is_port (word_at g.theirs b) && is_port (word_at g.mine a)) (word_at g.mine a) (displaced mine_behind theirs_behind))

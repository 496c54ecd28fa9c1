-- What stays along a statement of code with its kinds: its loops have plain variables, and so has IOSTAT.
use Rattle.std.proofs.Common.{◌≡◌, ℕ, zero, suc, ℤ, pos, Bool, true, false, cond, ◌&&◌, Option, Some, None, List, [], ◌∷◌, length, map, slice_get, take, reverse, Result, Ok, Err, refl, subst, arith}
use Rattle.std.specs.Prelude.{nat_le, nat_lt, option_map, slice_set, not}
use Rattle.std.specs.Ordering.{int_eq}
use Rattle.std.proofs.lemmas.Bool.{and_parts}
use Rattle.fm_base.specs.declared.fault.Fault.{Fault}
use Rattle.fm_base.specs.declared.fault.Fault.TheVariants.{NullPort}
use Rattle.fm_values.specs.Values.{sum, product, opposite, truth_word, is_truth}
use Rattle.fm_values.specs.Operations.{applied_words}
use Rattle.fm_values.specs.Intrinsics.{intrinsic_value, takes}
use Rattle.fm_code.specs.declared.ask.Operand.{Operand}
use Rattle.fm_code.specs.declared.ask.Operand.TheVariants as operand
use Rattle.fm_code.specs.declared.body.Frame.{Frame}
use Rattle.fm_code.specs.declared.code.Span.{Span}
use Rattle.fm_code.specs.declared.instr.Build.{Build}
use Rattle.fm_code.specs.declared.instr.Build.TheVariants as build
use Rattle.fm_code.specs.declared.instr.Eval.{Eval}
use Rattle.fm_code.specs.declared.instr.Eval.TheVariants as eval
use Rattle.fm_code.specs.declared.scratch.Place.TheVariants as place
use Rattle.fm_code.specs.declared.scratch.Scratch.{Scratch}
use Rattle.fm_code.specs.Acts as acts
use Rattle.fm_code.specs.Acts.{Act, On, Over, Fails, with_one, with_two, with_words, gives, found, at_word, by_port, at_port, spanned, span_of, has_span, numbered, number_in, word_of, distance, dimension, evaluates, shown, passed, number_item, truth_item, size_in, cuts_at, cuts, cut_to, builds, single as single_word}
use Rattle.fm_code_kinds.specs.declared.sorts.Cell.{Cell}
use Rattle.fm_code_kinds.specs.Shapes.{are_words, single, words_of}
use Rattle.fm_code_kinds.specs.declared.kinds.Passed.{Passed}
use Rattle.fm_code_kinds.specs.declared.kinds.Passed.TheVariants as pass
use Rattle.fm_code_kinds.specs.declared.kinds.Kind.{Kind}
use Rattle.fm_code_kinds.specs.declared.kinds.Kind.TheVariants as kinds
use Rattle.fm_code_kinds.specs.Effects.{results_in, placed, first_words, pushed, shifted, scaled, word, with_word, known, with_place, given_where, without_words, evaluated, built, are_any_ports, operands_on, operands_over, over_port, may_cut}
use Rattle.fm_code_kinds.specs.Fitting.{Stands}
use Rattle.fm_code_kinds.proofs.Building.{there}
use Rattle.fm_code_kinds.proofs.Places.{AreInside, words_inside}
use Rattle.fm_code_preserves.specs.Endings.{StatusFits}
use Rattle.fm_code_preserves.proofs.Sorted.{plain_room, room_words}

abbrev some : {A : Type 0} → A → Option A
some x = Some x

some_is : {A : Type 0} (x y : A) → some x ≡ some y → x ≡ y
some_is x y e = cc

given : {A : Type 0} (b : Bool) (x y : A) → cond b (some x) None ≡ some y → (b ≡ true) × (x ≡ y)
given true x y e = (refl, some_is x y e)
given false x y e = absurd cc

-- ---- loops

module _ (cells : List Cell) where
  -- each loop on the list has a variable that is no port
  abbrev pub ArePlain : List Kind → Type 0
  ArePlain [] = Unit {0}
  ArePlain (kinds.Returned ∷ ks) = ArePlain ks
  ArePlain (kinds.Word s ∷ ks) = ArePlain ks
  ArePlain (kinds.Operand o ∷ ks) = ArePlain ks
  ArePlain (kinds.LoopOf l ∷ ks) = (are_words cells (single l.word) ≡ true) × ArePlain ks

  abbrev PlainOr : Option (List Kind) → Type 0
  PlainOr o = (out : List Kind) → o ≡ Some out → ArePlain out

  none_plain : PlainOr None
  none_plain out e = absurd cc

  some_plain : (ks : List Kind) → ArePlain ks → PlainOr (Some ks)
  some_plain ks h out e = subst ArePlain (some_is ks out e) h

  word_plain : (ks : List Kind) (f : Option Span → List Kind → Option (List Kind)) → ArePlain ks → ((s : Option Span) (rest : List Kind) → ArePlain rest → PlainOr (f s rest)) → PlainOr (with_word ks f)
  word_plain [] f h go = none_plain
  word_plain (kinds.Returned ∷ ks) f h go = none_plain
  word_plain (kinds.Word s ∷ ks) f h go = go s ks h
  word_plain (kinds.Operand o ∷ ks) f h go = none_plain
  word_plain (kinds.LoopOf l ∷ ks) f h go = none_plain

  known_plain : (s : Option Span) (f : Span → Option (List Kind)) → ((s : Span) → PlainOr (f s)) → PlainOr (known s f)
  known_plain None f go = none_plain
  known_plain (Some s) f go = go s

  place_plain : (ks : List Kind) (f : Span → List Kind → Option (List Kind)) → ArePlain ks → ((s : Span) (rest : List Kind) → ArePlain rest → PlainOr (f s rest)) → PlainOr (with_place ks f)
  place_plain ks f h go = word_plain ks (λ s ks. known s (λ s. f s ks)) h (λ s rest more. known_plain s (λ s. f s rest) (λ s. go s rest more))

  where_plain : (b : Bool) (ks : List Kind) → ArePlain ks → PlainOr (given_where b ks)
  where_plain true ks h = some_plain ks h
  where_plain false ks h = none_plain

  many_plain : (n : ℕ) (ks : List Kind) → ArePlain ks → PlainOr (without_words n ks)
  many_plain zero ks h = some_plain ks h
  many_plain (suc n) ks h = word_plain ks (λ s ks. without_words n ks) h (λ s rest more. many_plain n rest more)

  pub evaluated_plain : (i : Eval) (ks : List Kind) → ArePlain ks → PlainOr (evaluated cells i ks)
  evaluated_plain (eval.Push n) ks h = some_plain (kinds.Word (pushed cells n) ∷ ks) h
  evaluated_plain (eval.Load k) ks h = where_plain (are_words cells (single k)) (word ∷ ks) h
  evaluated_plain (eval.Result n) ks h = where_plain (nat_lt n (results_in ks)) (word ∷ ks) h
  evaluated_plain (eval.Subscript low extent) ks h = word_plain ks (λ s ks. Some (kinds.Word (placed cells (first_words extent)) ∷ ks)) h (λ s rest more. some_plain (kinds.Word (placed cells (first_words extent)) ∷ rest) more)
  evaluated_plain (eval.Dimension low extent) ks h =
      place_plain ks (λ s ks. with_word ks (λ t ks. Some (kinds.Word (placed cells (scaled extent s)) ∷ ks))) h
      (λ s rest more. word_plain rest (λ t ks. Some (kinds.Word (placed cells (scaled extent s)) ∷ ks)) more (λ t last still. some_plain (kinds.Word (placed cells (scaled extent s)) ∷ last) still))
  evaluated_plain (eval.Element first) ks h = place_plain ks (λ s ks. given_where (are_words cells (shifted first s)) (word ∷ ks)) h (λ s rest more. where_plain (are_words cells (shifted first s)) (word ∷ rest) more)
  evaluated_plain (eval.Locate first) ks h = place_plain ks (λ s ks. Some (kinds.Word (placed cells (shifted first s)) ∷ ks)) h (λ s rest more. some_plain (kinds.Word (placed cells (shifted first s)) ∷ rest) more)
  evaluated_plain (eval.Apply o) ks h = word_plain ks (λ s ks. with_word ks (λ t ks. Some (word ∷ ks))) h (λ s rest more. word_plain rest (λ t ks. Some (word ∷ ks)) more (λ t last still. some_plain (word ∷ last) still))
  evaluated_plain eval.Negate ks h = word_plain ks (λ s ks. Some (word ∷ ks)) h (λ s rest more. some_plain (word ∷ rest) more)
  evaluated_plain eval.Not ks h = word_plain ks (λ s ks. Some (word ∷ ks)) h (λ s rest more. some_plain (word ∷ rest) more)
  evaluated_plain (eval.Intrinsic f n) ks h = go (takes f n) (without_words n ks) (many_plain n ks h)
    where
      go : (b : Bool) (o : Option (List Kind)) → PlainOr o → PlainOr (cond b (option_map (λ (ks : List Kind). word ∷ ks) o) None)
      go false o h = none_plain
      go true None h = none_plain
      go true (Some ks) h = some_plain (word ∷ ks) (h ks refl)

  rest_plain : (ks : List Kind) → ArePlain ks → ArePlain (operands_on ks).rest
  rest_plain [] h = tt
  rest_plain (kinds.Returned ∷ ks) h = h
  rest_plain (kinds.Word s ∷ ks) h = h
  rest_plain (kinds.LoopOf l ∷ ks) h = h
  rest_plain (kinds.Operand o ∷ ks) h = rest_plain ks h

  over_plain : (os : List Passed) (ks : List Kind) → ArePlain ks → ArePlain (operands_over os ks)
  over_plain [] ks h = h
  over_plain (o ∷ os) ks h = over_plain os ks h

  pub built_plain : (n : ℕ) (i : Build) (ks : List Kind) → ArePlain ks → PlainOr (built cells n i ks)
  built_plain n (build.Letter byte) ks h = some_plain ks h
  built_plain n build.ShowText ks h = some_plain ks h
  built_plain n build.Show ks h = word_plain ks (λ s ks. Some ks) h (λ s rest more. some_plain rest more)
  built_plain n build.ShowTruth ks h = word_plain ks (λ s ks. Some ks) h (λ s rest more. some_plain rest more)
  built_plain n (build.ShowWords s) ks h = where_plain (are_words cells s) ks h
  built_plain n (build.ShowTruths s) ks h = where_plain (are_words cells s) ks h
  built_plain n build.PassValue ks h = word_plain ks (λ s ks. Some (kinds.Operand pass.Value ∷ ks)) h (λ s rest more. some_plain (kinds.Operand pass.Value ∷ rest) more)
  built_plain n (build.PassWords s) ks h = where_plain (are_words cells s) (kinds.Operand (pass.Words s) ∷ ks) h
  built_plain n (build.PassPorts s) ks h = where_plain (are_any_ports cells s) (kinds.Operand (pass.Ports s) ∷ ks) h
  built_plain n build.PassWordAt ks h = place_plain ks (λ s ks. given_where (are_words cells s) (kinds.Operand (pass.WordIn s) ∷ ks)) h (λ s rest more. where_plain (are_words cells s) (kinds.Operand (pass.WordIn s) ∷ rest) more)
  built_plain n build.PassPortAt ks h = place_plain ks (λ s ks. given_where (are_any_ports cells s) (kinds.Operand (pass.PortIn s) ∷ ks)) h (λ s rest more. where_plain (are_any_ports cells s) (kinds.Operand (pass.PortIn s) ∷ rest) more)
  built_plain n build.Status ks h = place_plain ks (λ s ks. given_where (are_words cells s) ks) h (λ s rest more. where_plain (are_words cells s) rest more)
  built_plain n (build.Loop l) ks h = λ out e.
      let t = given (nat_lt l.number n && are_words cells (single l.word)) (kinds.LoopOf l ∷ ks) out e in
      subst ArePlain t.1 ((and_parts (nat_lt l.number n) (are_words cells (single l.word)) t.0).1, h)
  built_plain n (build.Location k) ks h = many_plain k ks h
  built_plain n build.Submachine ks h = many_plain 2 ks h
  built_plain n (build.Cut item size) ks h = λ out e.
      let t = operands_on ks in
      let os = reverse t.operands in
      let g = given (over_port cells t.rest && may_cut item size os) (operands_over (reverse (slice_set os item (pass.Sized size))) t.rest) out e in
      subst ArePlain g.1 (over_plain (reverse (slice_set os item (pass.Sized size))) t.rest (rest_plain ks h))

-- ---- the word of IOSTAT

module _ (cells : List Cell) (m : Frame) where
  abbrev pub StatusAct : Act → Type 0
  StatusAct (On s b) = StatusFits cells m b.status
  StatusAct (Over t) = Unit {0}

  one_status : (s : List ℤ) (f : ℤ → List ℤ → Act) → ((x : ℤ) (rest : List ℤ) → StatusAct (f x rest)) → StatusAct (with_one s f)
  one_status [] f h = tt
  one_status (x ∷ s) f h = h x s

  two_status : (s : List ℤ) (f : ℤ → ℤ → List ℤ → Act) → ((x y : ℤ) (rest : List ℤ) → StatusAct (f x y rest)) → StatusAct (with_two s f)
  two_status [] f h = tt
  two_status (y ∷ []) f h = tt
  two_status (y ∷ x ∷ s) f h = h x y s

  words_status : (n : ℕ) (s : List ℤ) (f : List ℤ → List ℤ → Act) → ((xs rest : List ℤ) → StatusAct (f xs rest)) → StatusAct (with_words n s f)
  words_status n s f h = go (nat_le n (length s)) (f _ _) (h _ _)
    where
      go : (b : Bool) (a : Act) → StatusAct a → StatusAct (cond b a (Over acts.Stuck))
      go true a h = h
      go false a h = tt

  found_status : {X : Type 0} (o : Option X) (f : X → Act) → ((v : X) → StatusAct (f v)) → StatusAct (found o f)
  found_status None f h = tt
  found_status (Some v) f h = h v

  gives_status : {X : Type 0} (r : Result X Fault) (f : X → Act) → ((v : X) → StatusAct (f v)) → StatusAct (gives r f)
  gives_status (Ok v) f h = h v
  gives_status (Err fault) f h = tt

  spanned_status : (s : Span) (f : List ℤ → Act) → ((ws : List ℤ) → StatusAct (f ws)) → StatusAct (spanned m s f)
  spanned_status s f h = go (has_span (length m.words) s) (f (span_of m.words s)) (h (span_of m.words s))
    where
      go : (b : Bool) (a : Act) → StatusAct a → StatusAct (cond b a (Over acts.Stuck))
      go true a h = h
      go false a h = tt

  at_status : (x : ℤ) (f : ℕ → Act) → ((k : ℕ) → StatusAct (f k)) → StatusAct (at_word m x f)
  at_status x f h = found_status (numbered m (number_in x)) f h

  port_status : (k : ℕ) (f : ℤ → Act) → ((v : ℤ) → StatusAct (f v)) → StatusAct (by_port m k f)
  port_status k f h = found_status (slice_get m.words k) (λ v. cond (int_eq v (pos 0)) (Over (Fails NullPort)) (f v)) (λ v. go (int_eq v (pos 0)) (f v) (h v))
    where
      go : (b : Bool) (a : Act) → StatusAct a → StatusAct (cond b (Over (Fails NullPort)) a)
      go true a h = tt
      go false a h = h

  pub evaluates_status : (i : Eval) (s : List ℤ) (b : Scratch) → StatusFits cells m b.status → StatusAct (evaluates i s b m)
  evaluates_status (eval.Push n) s b h = h
  evaluates_status (eval.Load k) s b h = found_status (slice_get m.words k) (λ v. On (v ∷ s) b) (λ v. h)
  evaluates_status (eval.Result n) s b h = found_status (slice_get m.results n) (λ v. On (v ∷ s) b) (λ v. h)
  evaluates_status (eval.Subscript low extent) s b h = one_status s (λ x s. gives (distance low extent x) (λ d. On (d ∷ s) b)) (λ x rest. gives_status (distance low extent x) (λ d. On (d ∷ rest) b) (λ d. h))
  evaluates_status (eval.Dimension low extent) s b h =
      two_status s (λ x place s. dimension low extent x place b s)
      (λ x place rest. gives_status (distance low extent x) (λ d. gives (product (pos extent) place) (λ p. gives (sum d p) (λ n. On (n ∷ rest) b)))
      (λ d. gives_status (product (pos extent) place) (λ p. gives (sum d p) (λ n. On (n ∷ rest) b)) (λ p. gives_status (sum d p) (λ n. On (n ∷ rest) b) (λ n. h))))
  evaluates_status (eval.Element first) s b h =
      one_status s (λ n s. gives (sum (pos first) n) (λ k. found (word_of m k) (λ v. On (v ∷ s) b)))
      (λ n rest. gives_status (sum (pos first) n) (λ k. found (word_of m k) (λ v. On (v ∷ rest) b)) (λ k. found_status (word_of m k) (λ v. On (v ∷ rest) b) (λ v. h)))
  evaluates_status (eval.Locate first) s b h = one_status s (λ n s. gives (sum (pos first) n) (λ k. On (k ∷ s) b)) (λ n rest. gives_status (sum (pos first) n) (λ k. On (k ∷ rest) b) (λ k. h))
  evaluates_status (eval.Apply o) s b h = two_status s (λ x y s. gives (applied_words o x y) (λ v. On (v ∷ s) b)) (λ x y rest. gives_status (applied_words o x y) (λ v. On (v ∷ rest) b) (λ v. h))
  evaluates_status eval.Negate s b h = one_status s (λ x s. gives (opposite x) (λ v. On (v ∷ s) b)) (λ x rest. gives_status (opposite x) (λ v. On (v ∷ rest) b) (λ v. h))
  evaluates_status eval.Not s b h = one_status s (λ x s. On (truth_word (not (is_truth x)) ∷ s) b) (λ x rest. h)
  evaluates_status (eval.Intrinsic f n) s b h = words_status n s (λ xs s. gives (intrinsic_value f xs) (λ v. On (v ∷ s) b)) (λ xs rest. gives_status (intrinsic_value f xs) (λ v. On (v ∷ rest) b) (λ v. h))

  -- IOSTAT is one word of a variable that is no port
  status_status : (inside : AreInside (words_of cells) cells) (count : length m.words ≡ words_of cells) (ks out : List Kind) (s : List ℤ) (os : List Operand) (b : Scratch) → Stands ks s os
      → with_place ks (λ t ks. given_where (are_words cells t) ks) ≡ Some out → StatusAct (builds build.Status s b m)
  status_status inside count [] out s os b is e = absurd cc
  status_status inside count (kinds.Returned ∷ ks) out s os b is e = absurd cc
  status_status inside count (kinds.Operand o ∷ ks) out s os b is e = absurd cc
  status_status inside count (kinds.LoopOf l ∷ ks) out s os b is e = absurd cc
  status_status inside count (kinds.Word None ∷ ks) out s os b is e = absurd cc
  status_status inside count (kinds.Word (Some t) ∷ ks) out [] os b is e = tt
  status_status inside count (kinds.Word (Some t) ∷ ks) out (x ∷ s) os b is e =
      let g = given (are_words cells t) ks out e in
      let end = words_inside (words_of cells) cells inside t g.0 in
      let w = there m t x (omega (arith, end, count)) is.0 in
      rw w.1 (record { inside = w.4; plain = room_words cells t false (plain_room cells t g.0) w.0 w.2 w.3 })

  pub builds_status : (inside : AreInside (words_of cells) cells) (count : length m.words ≡ words_of cells) (loops : ℕ) (i : Build) (ks out : List Kind) (s : List ℤ) (os : List Operand) (b : Scratch) → Stands ks s os
      → built cells loops i ks ≡ Some out → StatusFits cells m b.status → StatusAct (builds i s b m)
  builds_status inside count n (build.Letter byte) ks out s os b is e h = h
  builds_status inside count n build.ShowText ks out s os b is e h = h
  builds_status inside count n build.Show ks out s os b is e h = one_status s (λ x s. On s (shown b (number_item x ∷ []))) (λ x rest. h)
  builds_status inside count n build.ShowTruth ks out s os b is e h = one_status s (λ x s. On s (shown b (truth_item x ∷ []))) (λ x rest. h)
  builds_status inside count n (build.ShowWords span) ks out s os b is e h = spanned_status span (λ ws. On s (shown b (map number_item ws))) (λ ws. h)
  builds_status inside count n (build.ShowTruths span) ks out s os b is e h = spanned_status span (λ ws. On s (shown b (map truth_item ws))) (λ ws. h)
  builds_status inside count n build.PassValue ks out s os b is e h = one_status s (λ x s. On s (passed b (operand.Value x))) (λ x rest. h)
  builds_status inside count n (build.PassWords span) ks out s os b is e h = spanned_status span (λ ws. On s (passed b (operand.Words span))) (λ ws. h)
  builds_status inside count n (build.PassPorts span) ks out s os b is e h = spanned_status span (λ ws. On s (passed b (operand.Ports span))) (λ ws. h)
  builds_status inside count n build.PassWordAt ks out s os b is e h =
      one_status s (λ x s. at_word m x (λ k. On s (passed b (operand.Words (single_word k))))) (λ x rest. at_status x (λ k. On rest (passed b (operand.Words (single_word k)))) (λ k. h))
  builds_status inside count n build.PassPortAt ks out s os b is e h =
      one_status s (λ x s. at_word m x (λ k. On s (passed b (operand.Ports (single_word k))))) (λ x rest. at_status x (λ k. On rest (passed b (operand.Ports (single_word k)))) (λ k. h))
  builds_status inside count n build.Status ks out s os b is e h = status_status inside count ks out s os b is e
  builds_status inside count n (build.Loop l) ks out s os b is e h = h
  builds_status inside count n (build.Location k) ks out s os b is e h = words_status k s (λ xs s. On s (record b { place = place.Location xs })) (λ xs rest. h)
  builds_status inside count n build.Submachine ks out s os b is e h = two_status s (λ low high s. On s (record b { place = place.Submachine low high })) (λ low high rest. h)
  builds_status inside count n (build.Cut item size) ks out s os b is e h =
      one_status s (λ x rest. at_port m x (λ slot. cuts item size s b m))
      (λ x rest. at_status x (λ k. by_port m k (λ slot. cuts item size s b m)) (λ k. port_status k (λ slot. cuts item size s b m) (λ v. go (slice_get b.operands item))))
    where
      go : (o : Option Operand) → StatusAct (cuts_at item (size_in m (slice_get (take item b.operands) size)) o s b)
      go None = h
      go (Some o) = gives_status (cut_to (size_in m (slice_get (take item b.operands) size)) o) (λ o. On s (record b { operands = slice_set b.operands item o })) (λ o. h)

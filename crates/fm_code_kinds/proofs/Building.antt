-- An instruction that builds, where what it takes is on the list, goes on with what it gives on the list.
use Rattle.std.proofs.Common.{◌≡◌, ℕ, ◌+◌, ◌≤◌, ◌<◌, ℤ, pos, Bool, true, false, cond, ◌&&◌, Option, Some, None, Result, Ok, Err, List, [], ◌∷◌, ◌++◌, length, map, slice_get, take, drop, reverse, refl, sym, ap, subst, ◌∙◌, arith}
use Rattle.std.specs.Prelude.{nat_lt, slice_set}
use Rattle.std.specs.Ordering.{int_eq}
use Rattle.fm_base.specs.declared.fault.Fault.{Fault}
use Rattle.fm_base.specs.declared.fault.Fault.TheVariants.{NullPort}
use Rattle.std.proofs.lemmas.List.{append-nil, reverse-append, reverse-reverse}
use Rattle.std.proofs.lemmas.Bool.{and_parts, ltb-true, lt-ltb, le-leb}
use Rattle.fm_base.specs.declared.output.Printed.TheVariants as printed
use Rattle.fm_code.specs.declared.ask.Operand.{Operand}
use Rattle.fm_code.specs.declared.ask.Operand.TheVariants as operand
use Rattle.fm_code.specs.declared.body.Frame.{Frame}
use Rattle.fm_code.specs.declared.code.Span.{Span}
use Rattle.fm_code.specs.declared.instr.Build.{Build}
use Rattle.fm_code.specs.declared.instr.Build.TheVariants as build
use Rattle.fm_code.specs.declared.instr.Loop.{Loop}
use Rattle.fm_code.specs.declared.scratch.Scratch.{Scratch}
use Rattle.fm_code.specs.declared.scratch.Place.TheVariants as place
use Rattle.fm_code.specs.Acts.{Act, On, Over, Fails, gives, found, with_one, by_port, at_port, size_in, cut_to, cuts_at, cuts, number_in, numbered, at_word, spanned, span_of, has_span, shown, passed, number_item, truth_item, builds}
use Rattle.fm_code_kinds.specs.declared.sorts.Sort.{Sort}
use Rattle.fm_code_kinds.specs.declared.sorts.Cell.{Cell}
use Rattle.fm_code_kinds.specs.Shapes.{single, sort_at, are_words, words_of}
use Rattle.fm_code_kinds.specs.declared.kinds.Passed.{Passed}
use Rattle.fm_code_kinds.specs.declared.kinds.Passed.TheVariants as pass
use Rattle.fm_code_kinds.specs.declared.kinds.Kind.{Kind}
use Rattle.fm_code_kinds.specs.declared.kinds.Kind.TheVariants as kinds
use Rattle.fm_code_kinds.specs.Effects.{is_port_sort, are_any_ports, built, only_results, operands_on, operands_over, over_port, is_cut, is_size, may_cut}
use Rattle.fm_code_kinds.specs.Fitting.{IsAmong, OperandFits, Stands, last_loop, LoopStands, FrameFits, Fits, AllFit, GoesOn}
use Rattle.fm_code_kinds.proofs.Places.{AreInside, words_inside, sorted_inside, word_there}
use Rattle.fm_code_kinds.proofs.Operands.{results_end, reversed_fit, split_at, over_stands, over_loop, over_results, on_loop, on_results, HasCut, cut_there, put_fits, SizedOr, cut_sized}
use Rattle.fm_code_kinds.proofs.Evaluating.{below, words_under, Under}

abbrev some : {A : Type 0} → A → Option A
some x = Some x

some_is : {A : Type 0} (x y : A) → some x ≡ some y → x ≡ y
some_is x y e = cc

given : {A : Type 0} (b : Bool) (x y : A) → cond b (some x) None ≡ some y → (b ≡ true) × (x ≡ y)
given true x y e = (refl, some_is x y e)
given false x y e = absurd cc

pub ports_inside : (n : ℕ) (cs : List Cell) → AreInside n cs → (s : Span) → are_any_ports cs s ≡ true → s.first + s.count ≤ n
ports_inside n cs inside s e = go (sort_at cs s) refl e
  where
    go : (o : Option Sort) → sort_at cs s ≡ o → is_port_sort o ≡ true → s.first + s.count ≤ n
    go None is e = absurd cc
    go (Some t) is e = sorted_inside n cs inside s t is

pub there : (m : Frame) (s : Span) (x : ℤ) → s.first + s.count ≤ length m.words → IsAmong s x → (k : ℕ) × (numbered m (number_in x) ≡ Some k) × (s.first ≤ k) × (k < s.first + s.count) × (k < length m.words)
there m s x end a =
    let low : a.number < length m.words = omega (arith, end, a.high) in
    let at : numbered m (number_in x) ≡ Some a.number = ap (λ (z : ℤ). numbered m (number_in z)) a.is ∙ ap (λ (b : Bool). cond b (some a.number) None) (lt-ltb a.number (length m.words) low) in
    (a.number, at, a.low, a.high, low)

module _ (cells : List Cell) (loops : ℕ) (inside : AreInside (words_of cells) cells) (m : Frame) where
  -- what changes neither operands nor the loop
  alike : (ks : List Kind) (s : List ℤ) (b c : Scratch) → Fits cells loops ks s b m → c.operands ≡ b.operands → c.counts ≡ b.counts → Fits cells loops ks s c m
  alike ks s b c fits o k = record {
    stands = subst (λ (os : List Operand). Stands ks s (reverse os)) (sym o) fits.stands;
    counts = subst (LoopStands cells loops (last_loop ks)) (sym k) fits.counts;
    frame = fits.frame;
  }

  -- one operand more
  passes : (ks : List Kind) (s : List ℤ) (b : Scratch) → Fits cells loops ks s b m → (p : Passed) (o : Operand) → OperandFits p o → Fits cells loops (kinds.Operand p ∷ ks) s (passed b o) m
  passes ks s b fits p o is = record {
    stands = subst (λ (os : List Operand). Stands (kinds.Operand p ∷ ks) s os) (sym (reverse-append b.operands (o ∷ []))) (is, fits.stands);
    counts = fits.counts;
    frame = fits.frame;
  }

  spanned_goes : (ks : List Kind) (s : Span) (f : List ℤ → Act) → FrameFits cells loops 0 m → s.first + s.count ≤ words_of cells → ((ws : List ℤ) → GoesOn cells loops ks m (f ws)) → GoesOn cells loops ks m (spanned m s f)
  spanned_goes ks s f frame end h =
      let t : has_span (length m.words) s ≡ true = le-leb (s.first + s.count) (length m.words) (omega (arith, end, frame.words)) in
      rw t (h (span_of m.words s))

  at_word_goes : (ks : List Kind) (s : Span) (x : ℤ) (f : ℕ → Act) → FrameFits cells loops 0 m → s.first + s.count ≤ words_of cells → IsAmong s x → ((k : ℕ) → s.first ≤ k → k < s.first + s.count → GoesOn cells loops ks m (f k)) → GoesOn cells loops ks m (at_word m x f)
  at_word_goes ks s x f frame end a h =
      let t = there m s x (omega (arith, end, frame.words)) a in
      rw t.1 (h t.0 t.2 t.3)

  base : (ks : List Kind) (s : List ℤ) (b : Scratch) → Fits cells loops ks s b m → FrameFits cells loops 0 m
  base ks s b fits = record { words = fits.frame.words; counts = fits.frame.counts; done = omega arith }

  abbrev Goes : Build → List Kind → List Kind → List ℤ → Scratch → Type 0
  Goes i ks out s b = Fits cells loops ks s b m → built cells loops i ks ≡ Some out → GoesOn cells loops out m (builds i s b m)

  -- a word is taken and what is built changes neither operands nor the loop
  shows_word : (ks out : List Kind) (s : List ℤ) (b : Scratch) → Goes build.Show ks out s b
  shows_word [] out s b fits e = absurd cc
  shows_word (kinds.Returned ∷ ks) out s b fits e = absurd cc
  shows_word (kinds.Operand o ∷ ks) out s b fits e = absurd cc
  shows_word (kinds.LoopOf l ∷ ks) out s b fits e = absurd cc
  shows_word (kinds.Word r ∷ ks) out [] b fits e = absurd fits.stands
  shows_word (kinds.Word r ∷ ks) out (x ∷ s) b fits e =
      subst (λ o. GoesOn cells loops o m (builds build.Show (x ∷ s) b m)) (some_is ks out e)
      (alike ks s b (shown b (number_item x ∷ [])) (below cells loops inside m r ks x s b fits) refl refl)

  shows_truth : (ks out : List Kind) (s : List ℤ) (b : Scratch) → Goes build.ShowTruth ks out s b
  shows_truth [] out s b fits e = absurd cc
  shows_truth (kinds.Returned ∷ ks) out s b fits e = absurd cc
  shows_truth (kinds.Operand o ∷ ks) out s b fits e = absurd cc
  shows_truth (kinds.LoopOf l ∷ ks) out s b fits e = absurd cc
  shows_truth (kinds.Word r ∷ ks) out [] b fits e = absurd fits.stands
  shows_truth (kinds.Word r ∷ ks) out (x ∷ s) b fits e =
      subst (λ o. GoesOn cells loops o m (builds build.ShowTruth (x ∷ s) b m)) (some_is ks out e)
      (alike ks s b (shown b (truth_item x ∷ [])) (below cells loops inside m r ks x s b fits) refl refl)

  passes_value : (ks out : List Kind) (s : List ℤ) (b : Scratch) → Goes build.PassValue ks out s b
  passes_value [] out s b fits e = absurd cc
  passes_value (kinds.Returned ∷ ks) out s b fits e = absurd cc
  passes_value (kinds.Operand o ∷ ks) out s b fits e = absurd cc
  passes_value (kinds.LoopOf l ∷ ks) out s b fits e = absurd cc
  passes_value (kinds.Word r ∷ ks) out [] b fits e = absurd fits.stands
  passes_value (kinds.Word r ∷ ks) out (x ∷ s) b fits e =
      subst (λ o. GoesOn cells loops o m (builds build.PassValue (x ∷ s) b m)) (some_is (kinds.Operand pass.Value ∷ ks) out e)
      (passes ks s b (below cells loops inside m r ks x s b fits) pass.Value (operand.Value x) tt)

  passes_word_at : (ks out : List Kind) (s : List ℤ) (b : Scratch) → Goes build.PassWordAt ks out s b
  passes_word_at [] out s b fits e = absurd cc
  passes_word_at (kinds.Returned ∷ ks) out s b fits e = absurd cc
  passes_word_at (kinds.Operand o ∷ ks) out s b fits e = absurd cc
  passes_word_at (kinds.LoopOf l ∷ ks) out s b fits e = absurd cc
  passes_word_at (kinds.Word None ∷ ks) out s b fits e = absurd cc
  passes_word_at (kinds.Word (Some t) ∷ ks) out [] b fits e = absurd fits.stands
  passes_word_at (kinds.Word (Some t) ∷ ks) out (x ∷ s) b fits e =
      let g = given (are_words cells t) (kinds.Operand (pass.WordIn t) ∷ ks) out e in
      let under = below cells loops inside m (Some t) ks x s b fits in
      subst (λ o. GoesOn cells loops o m (builds build.PassWordAt (x ∷ s) b m)) g.1
      (at_word_goes (kinds.Operand (pass.WordIn t) ∷ ks) t x (λ k. On s (passed b (operand.Words (single k)))) (base ks s b under) (words_inside (words_of cells) cells inside t g.0) fits.stands.0
      (λ k low high. passes ks s b under (pass.WordIn t) (operand.Words (single k)) (record { single = refl; low = low; high = high })))

  passes_port_at : (ks out : List Kind) (s : List ℤ) (b : Scratch) → Goes build.PassPortAt ks out s b
  passes_port_at [] out s b fits e = absurd cc
  passes_port_at (kinds.Returned ∷ ks) out s b fits e = absurd cc
  passes_port_at (kinds.Operand o ∷ ks) out s b fits e = absurd cc
  passes_port_at (kinds.LoopOf l ∷ ks) out s b fits e = absurd cc
  passes_port_at (kinds.Word None ∷ ks) out s b fits e = absurd cc
  passes_port_at (kinds.Word (Some t) ∷ ks) out [] b fits e = absurd fits.stands
  passes_port_at (kinds.Word (Some t) ∷ ks) out (x ∷ s) b fits e =
      let g = given (are_any_ports cells t) (kinds.Operand (pass.PortIn t) ∷ ks) out e in
      let under = below cells loops inside m (Some t) ks x s b fits in
      subst (λ o. GoesOn cells loops o m (builds build.PassPortAt (x ∷ s) b m)) g.1
      (at_word_goes (kinds.Operand (pass.PortIn t) ∷ ks) t x (λ k. On s (passed b (operand.Ports (single k)))) (base ks s b under) (ports_inside (words_of cells) cells inside t g.0) fits.stands.0
      (λ k low high. passes ks s b under (pass.PortIn t) (operand.Ports (single k)) (record { single = refl; low = low; high = high })))

  status_goes : (ks out : List Kind) (s : List ℤ) (b : Scratch) → Goes build.Status ks out s b
  status_goes [] out s b fits e = absurd cc
  status_goes (kinds.Returned ∷ ks) out s b fits e = absurd cc
  status_goes (kinds.Operand o ∷ ks) out s b fits e = absurd cc
  status_goes (kinds.LoopOf l ∷ ks) out s b fits e = absurd cc
  status_goes (kinds.Word None ∷ ks) out s b fits e = absurd cc
  status_goes (kinds.Word (Some t) ∷ ks) out [] b fits e = absurd fits.stands
  status_goes (kinds.Word (Some t) ∷ ks) out (x ∷ s) b fits e =
      let g = given (are_words cells t) ks out e in
      let under = below cells loops inside m (Some t) ks x s b fits in
      subst (λ o. GoesOn cells loops o m (builds build.Status (x ∷ s) b m)) g.1
      (at_word_goes ks t x (λ k. On s (record b { status = Some k })) (base ks s b under) (words_inside (words_of cells) cells inside t g.0) fits.stands.0
      (λ k low high. alike ks s b (record b { status = Some k }) under refl refl))

  show_words_goes : (span : Span) (ks out : List Kind) (s : List ℤ) (b : Scratch) → Goes (build.ShowWords span) ks out s b
  show_words_goes span ks out s b fits e =
      let g = given (are_words cells span) ks out e in
      subst (λ o. GoesOn cells loops o m (builds (build.ShowWords span) s b m)) g.1
      (spanned_goes ks span (λ ws. On s (shown b (map number_item ws))) (base ks s b fits) (words_inside (words_of cells) cells inside span g.0) (λ ws. alike ks s b (shown b (map number_item ws)) fits refl refl))

  show_truths_goes : (span : Span) (ks out : List Kind) (s : List ℤ) (b : Scratch) → Goes (build.ShowTruths span) ks out s b
  show_truths_goes span ks out s b fits e =
      let g = given (are_words cells span) ks out e in
      subst (λ o. GoesOn cells loops o m (builds (build.ShowTruths span) s b m)) g.1
      (spanned_goes ks span (λ ws. On s (shown b (map truth_item ws))) (base ks s b fits) (words_inside (words_of cells) cells inside span g.0) (λ ws. alike ks s b (shown b (map truth_item ws)) fits refl refl))

  pass_words_goes : (span : Span) (ks out : List Kind) (s : List ℤ) (b : Scratch) → Goes (build.PassWords span) ks out s b
  pass_words_goes span ks out s b fits e =
      let g = given (are_words cells span) (kinds.Operand (pass.Words span) ∷ ks) out e in
      subst (λ o. GoesOn cells loops o m (builds (build.PassWords span) s b m)) g.1
      (spanned_goes (kinds.Operand (pass.Words span) ∷ ks) span (λ ws. On s (passed b (operand.Words span))) (base ks s b fits) (words_inside (words_of cells) cells inside span g.0) (λ ws. passes ks s b fits (pass.Words span) (operand.Words span) refl))

  pass_ports_goes : (span : Span) (ks out : List Kind) (s : List ℤ) (b : Scratch) → Goes (build.PassPorts span) ks out s b
  pass_ports_goes span ks out s b fits e =
      let g = given (are_any_ports cells span) (kinds.Operand (pass.Ports span) ∷ ks) out e in
      subst (λ o. GoesOn cells loops o m (builds (build.PassPorts span) s b m)) g.1
      (spanned_goes (kinds.Operand (pass.Ports span) ∷ ks) span (λ ws. On s (passed b (operand.Ports span))) (base ks s b fits) (ports_inside (words_of cells) cells inside span g.0) (λ ws. passes ks s b fits (pass.Ports span) (operand.Ports span) refl))

  loop_goes : (l : Loop) (ks out : List Kind) (s : List ℤ) (b : Scratch) → Goes (build.Loop l) ks out s b
  loop_goes l ks out s b fits e =
      let g = given (nat_lt l.number loops && are_words cells (single l.word)) (kinds.LoopOf l ∷ ks) out e in
      let p = and_parts (nat_lt l.number loops) (are_words cells (single l.word)) g.0 in
      let word : l.word < words_of cells = omega (arith, words_inside (words_of cells) cells inside (single l.word) p.1) in
      subst (λ o. GoesOn cells loops o m (builds (build.Loop l) s b m)) g.1
      (record { stands = fits.stands; counts = record { is = refl; number = ltb-true l.number loops p.0; word = word }; frame = fits.frame })

  location_goes : (n : ℕ) (ks out : List Kind) (s : List ℤ) (b : Scratch) → Goes (build.Location n) ks out s b
  location_goes n ks out s b fits e =
      let u = words_under cells loops inside m n ks out s b fits e in
      rw (le-leb n (length s) u.enough) (alike out (drop n s) b (record b { place = place.Location (reverse (take n s)) }) u.fits refl refl)

  submachine_goes : (ks out : List Kind) (s : List ℤ) (b : Scratch) → Goes build.Submachine ks out s b
  submachine_goes ks out s b fits e = two s (words_under cells loops inside m 2 ks out s b fits e)
    where
      two : (s : List ℤ) → Under cells loops inside m 2 out s b → GoesOn cells loops out m (builds build.Submachine s b m)
      two [] u = absurd (omega (arith, u.enough))
      two (y ∷ []) u = absurd (omega (arith, u.enough))
      two (y ∷ x ∷ s) u = alike out s b (record b { place = place.Submachine x y }) u.fits refl refl

  letter_goes : (byte : ℕ) (ks out : List Kind) (s : List ℤ) (b : Scratch) → Goes (build.Letter byte) ks out s b
  letter_goes byte ks out s b fits e = subst (λ o. GoesOn cells loops o m (builds (build.Letter byte) s b m)) (some_is ks out e) (alike ks s b (record b { text = b.text ++ byte ∷ [] }) fits refl refl)

  show_text_goes : (ks out : List Kind) (s : List ℤ) (b : Scratch) → Goes build.ShowText ks out s b
  show_text_goes ks out s b fits e =
      subst (λ o. GoesOn cells loops o m (builds build.ShowText s b m)) (some_is ks out e) (alike ks s b (record (shown b (printed.Text b.text ∷ [])) { text = [] }) fits refl refl)

  -- a port's place, with nothing but results below it
  record PortBelow (ks : List Kind) (s : List ℤ) (os : List Operand) : Type 0 where
    pub span : Span
    pub word : ℤ
    pub stack : List ℤ
    pub is : s ≡ word ∷ stack
    pub among : IsAmong span word
    pub end : span.first + span.count ≤ words_of cells
    pub alone : os ≡ []

  port_below : (ks : List Kind) (s : List ℤ) (os : List Operand) → Stands ks s os → over_port cells ks ≡ true → PortBelow ks s os
  port_below [] s os is e = absurd cc
  port_below (kinds.Returned ∷ ks) s os is e = absurd cc
  port_below (kinds.Word None ∷ ks) s os is e = absurd cc
  port_below (kinds.Operand o ∷ ks) s os is e = absurd cc
  port_below (kinds.LoopOf l ∷ ks) s os is e = absurd cc
  port_below (kinds.Word (Some t) ∷ ks) [] os is e = absurd is
  port_below (kinds.Word (Some t) ∷ ks) (x ∷ s) os is e =
      let p = and_parts (are_any_ports cells t) (only_results ks) e in
      record { span = t; word = x; stack = s; is = refl; among = is.0; end = ports_inside (words_of cells) cells inside t p.0; alone = results_end ks s os p.1 is.1 }

  found_goes : (out : List Kind) (o : Option ℤ) (v : ℤ) (f : ℤ → Act) → o ≡ Some v → GoesOn cells loops out m (f v) → GoesOn cells loops out m (found o f)
  found_goes out o v f e h = rw e h

  by_port_goes : (out : List Kind) (k : ℕ) (f : ℤ → Act) → k < length m.words → ((v : ℤ) → GoesOn cells loops out m (f v)) → GoesOn cells loops out m (by_port m k f)
  by_port_goes out k f low h =
      let w = word_there m.words k low in
      found_goes out (slice_get m.words k) w.0 (λ v. cond (int_eq v (pos 0)) (Over (Fails NullPort)) (f v)) w.1 (go (int_eq w.0 (pos 0)) (f w.0) (h w.0))
    where
      go : (b : Bool) (a : Act) → GoesOn cells loops out m a → GoesOn cells loops out m (cond b (Over (Fails NullPort)) a)
      go true a h = tt
      go false a h = h

  module _ (item size : ℕ) (ks : List Kind) (s : List ℤ) (b : Scratch) (fits : Fits cells loops ks s b m) where
    abbrev before : List Passed
    before = reverse (operands_on ks).operands

    abbrev after : List Kind
    after = operands_over (reverse (slice_set before item (pass.Sized size))) (operands_on ks).rest

    -- the operands, where a port stands below them
    record Beneath : Type 0 where
      pub port : PortBelow (operands_on ks).rest s []
      pub below : Stands (operands_on ks).rest s []
      pub all : AllFit before b.operands

    under : over_port cells (operands_on ks).rest ≡ true → Beneath
    under e =
        let t = split_at ks s (reverse b.operands) fits.stands in
        let p = port_below (operands_on ks).rest s t.back t.below e in
        let whole : reverse b.operands ≡ t.front = t.is ∙ ap (λ (os : List Operand). t.front ++ os) p.alone ∙ append-nil t.front in
        let front : AllFit (operands_on ks).operands (reverse b.operands) = subst (AllFit (operands_on ks).operands) (sym whole) t.all in
        record {
          port = subst (PortBelow (operands_on ks).rest s) p.alone p;
          below = subst (Stands (operands_on ks).rest s) p.alone t.below;
          all = subst (λ (os : List Operand). AllFit before os) (reverse-reverse b.operands) (reversed_fit (operands_on ks).operands (reverse b.operands) front);
        }

    put_goes : (u : Beneath) (o : Operand) → OperandFits (pass.Sized size) o → Fits cells loops after s (record b { operands = slice_set b.operands item o }) m
    put_goes u o is =
        let all = put_fits before b.operands item (pass.Sized size) o u.all is in
        record {
          stands = over_stands (reverse (slice_set before item (pass.Sized size))) (reverse (slice_set b.operands item o)) (operands_on ks).rest s (reversed_fit (slice_set before item (pass.Sized size)) (slice_set b.operands item o) all) u.below;
          counts = subst (λ (l : Option Loop). LoopStands cells loops l b.counts) (sym (over_loop (reverse (slice_set before item (pass.Sized size))) (operands_on ks).rest ∙ on_loop ks)) fits.counts;
          frame = subst (λ (n : ℕ). FrameFits cells loops n m) (sym (over_results (reverse (slice_set before item (pass.Sized size))) (operands_on ks).rest ∙ on_results ks)) fits.frame;
        }

    cuts_goes : (u : Beneath) (n : ℤ) → is_cut (slice_get before item) ≡ true → GoesOn cells loops after m (cuts_at item n (slice_get b.operands item) s b)
    cuts_goes u n e = go (slice_get b.operands item) (cut_there before b.operands item u.all e)
      where
        put : (r : Result Operand Fault) → SizedOr size r → GoesOn cells loops after m (gives r (λ o. On s (record b { operands = slice_set b.operands item o })))
        put (Ok o) is = put_goes u o is
        put (Err fault) is = tt

        go : (o : Option Operand) → HasCut o → GoesOn cells loops after m (cuts_at item n o s b)
        go None h = absurd h
        go (Some o) h = put (cut_to n o) (cut_sized size n o h)

    cut_goes : (out : List Kind) → Goes (build.Cut item size) ks out s b
    cut_goes out same e =
        let g = given (over_port cells (operands_on ks).rest && may_cut item size before) after out e in
        let p = and_parts (over_port cells (operands_on ks).rest) (may_cut item size before) g.0 in
        let q = and_parts (nat_lt size item) (is_size (slice_get before size) && is_cut (slice_get before item)) p.1 in
        let c = and_parts (is_size (slice_get before size)) (is_cut (slice_get before item)) q.1 in
        let u = under p.0 in
        let n = size_in m (slice_get (take item b.operands) size) in
        let at : GoesOn cells loops after m (at_port m u.port.word (λ slot. cuts item size s b m)) =
        at_word_goes after u.port.span u.port.word (λ k. by_port m k (λ slot. cuts item size s b m)) (base ks s b fits) u.port.end u.port.among
        (λ k low high. by_port_goes after k (λ slot. cuts item size s b m) (omega (arith, high, u.port.end, fits.frame.words)) (λ v. cuts_goes u n c.1)) in
        subst (λ o. GoesOn cells loops o m (builds (build.Cut item size) s b m)) g.1
        (subst (λ (t : List ℤ). GoesOn cells loops after m (with_one t (λ x rest. at_port m x (λ slot. cuts item size s b m)))) (sym u.port.is) at)

  pub builds_goes : (i : Build) (ks out : List Kind) (s : List ℤ) (b : Scratch) → Goes i ks out s b
  builds_goes (build.Letter byte) = letter_goes byte
  builds_goes build.ShowText = show_text_goes
  builds_goes build.Show = shows_word
  builds_goes build.ShowTruth = shows_truth
  builds_goes (build.ShowWords span) = show_words_goes span
  builds_goes (build.ShowTruths span) = show_truths_goes span
  builds_goes build.PassValue = passes_value
  builds_goes (build.PassWords span) = pass_words_goes span
  builds_goes (build.PassPorts span) = pass_ports_goes span
  builds_goes build.PassWordAt = passes_word_at
  builds_goes build.PassPortAt = passes_port_at
  builds_goes build.Status = status_goes
  builds_goes (build.Loop l) = loop_goes l
  builds_goes (build.Location n) = location_goes n
  builds_goes build.Submachine = submachine_goes
  builds_goes (build.Cut item size) = λ ks out s b fits. cut_goes item size ks s b fits out fits

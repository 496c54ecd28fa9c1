-- A body of code that has its kinds, at a statement, isn't stuck.
use Rattle.std.proofs.Common.{◌≡◌, ℕ, suc, ◌+◌, ◌≤◌, ℤ, Bool, true, false, not, cond, ◌&&◌, ◌==◌, Option, Some, None, Result, Ok, Err, List, [], ◌∷◌, slice_get, refl, sym, ap, subst, ◌∙◌, arith}
use Rattle.std.specs.List.{AllByRecursion}
use Rattle.std.proofs.lemmas.Bool.{and_parts, and_from, eqb-true, eq-eqb, le-leb}
use Rattle.fm_base.specs.declared.fault.Fault.{Fault}
use Rattle.fm_map.specs.Placement.{Seat}
use Rattle.fm_code.specs.declared.ask.Operand.{Operand}
use Rattle.fm_code.specs.declared.ask.Operand.TheVariants as operand
use Rattle.fm_code.specs.declared.body.Body.{Body}
use Rattle.fm_code.specs.declared.body.Frame.{Frame}
use Rattle.fm_code.specs.declared.code.Formal.{Formal}
use Rattle.fm_code.specs.declared.code.Span.{Span}
use Rattle.fm_code.specs.declared.code.Unit as code_unit
use Rattle.fm_code.specs.declared.scratch.Place.{Place}
use Rattle.fm_code.specs.Acts.{StatementEnd, statement, has_span}
use Rattle.fm_code.specs.Acts as acts
use Rattle.fm_code.specs.declared.instr.Instr.{Instr}
use Rattle.fm_code.specs.Passing.{fits, all_fit}
use Rattle.fm_code.specs.Statements.{unit_at, code_in, is_passed, calls, refers, gives_back, results_in, starts, starts_at, seat_of, fitted_in, action_by, statement_end_of, is_stuck, is_stuck_in}
use Rattle.fm_code_kinds.specs.declared.sorts.Sort.{Sort}
use Rattle.fm_code_kinds.specs.declared.sorts.Cell.{Cell}
use Rattle.fm_code_kinds.specs.declared.sorts.Shape.{Shape}
use Rattle.fm_code_kinds.specs.declared.sorts.Shapes.{Shapes}
use Rattle.fm_code_kinds.specs.Shapes.{cell_span, formal_at, is_word, is_port, same_sort, sort_at, are_words, words_of}
use Rattle.fm_code_kinds.specs.declared.kinds.Passed.{Passed}
use Rattle.fm_code_kinds.specs.declared.kinds.Passed.TheVariants as pass
use Rattle.fm_code_kinds.specs.Effects.{sized, fits_room, is_no_cell, fits_cell, fit_formals}
use Rattle.fm_code_kinds.specs.Fitting.{OperandFits, AllFit, Fitted, Fine}
use Rattle.fm_code_kinds.specs.Bodies.{formal_of, AreFormals, IsUnit, coded, GivesBack, BodyFits}
use Rattle.fm_code_kinds.proofs.Places.{AreInside, words_inside, sorted_inside}
use Rattle.fm_code_kinds.proofs.Statements.{statement_moves}

-- ---- one operand

module _ (mine theirs : List Cell) (inside : AreInside (words_of mine) mine) (c : Cell) (within : c.first + c.words ≤ words_of theirs) where
  room : has_span (words_of theirs) (cell_span c) ≡ true
  room = le-leb (c.first + c.words) (words_of theirs) within

  word_formal : is_word c.sort ≡ true → not (is_port c.sort) ≡ true
  word_formal e = rw e refl

  spanned : (s : Span) → s.first + s.count ≤ words_of mine → has_span (words_of mine) s ≡ true
  spanned s e = le-leb (s.first + s.count) (words_of mine) e

  sized_parts : (n : ℕ) (o : Option Sort) → sized n c.words o c.sort ≡ true → (n ≡ c.words) × ((t : Sort) × (o ≡ Some t))
  sized_parts n None e = absurd cc
  sized_parts n (Some t) e = let p = and_parts (n == c.words) (same_sort t c.sort) e in (eqb-true n c.words p.0, (t, refl))

  all_three : (a b d : Bool) → a ≡ true → b ≡ true → d ≡ true → (a && b && d) ≡ true
  all_three a b d x y z = rw (x, y, z) refl

  all_four : (a b d e : Bool) → a ≡ true → b ≡ true → d ≡ true → e ≡ true → ((a && b) && d && e) ≡ true
  all_four a b d e x y z w = rw (x, y, z, w) refl

  one_fits : (p : Passed) (o : Operand) → OperandFits p o → fits_room mine c.sort c.words p ≡ true → fits (words_of mine) (words_of theirs) (formal_of c) o ≡ true
  one_fits pass.Value (operand.Value v) is e =
      let p = and_parts (is_word c.sort) (c.words == 1) e in
      all_three (not (is_port c.sort)) (c.words == 1) (has_span (words_of theirs) (cell_span c)) (word_formal p.0) p.1 room
  one_fits pass.Value (operand.Words s) is e = absurd is
  one_fits pass.Value (operand.Ports s) is e = absurd is
  one_fits (pass.Words t) (operand.Value v) is e = absurd is
  one_fits (pass.Words t) (operand.Words s) is e =
      let p = and_parts (is_word c.sort) ((t.count == c.words) && are_words mine t) e in
      let q = and_parts (t.count == c.words) (are_words mine t) p.1 in
      let h = words_inside (words_of mine) mine inside t q.1 in
      subst (λ (s : Span). fits (words_of mine) (words_of theirs) (formal_of c) (operand.Words s) ≡ true) is
      (all_four (not (is_port c.sort)) (t.count == c.words) (has_span (words_of mine) t) (has_span (words_of theirs) (cell_span c)) (word_formal p.0) q.0 (spanned t h) room)
  one_fits (pass.Words t) (operand.Ports s) is e = absurd is
  one_fits (pass.Ports t) (operand.Value v) is e = absurd is
  one_fits (pass.Ports t) (operand.Words s) is e = absurd is
  one_fits (pass.Ports t) (operand.Ports s) is e =
      let p = and_parts (is_port c.sort) (sized t.count c.words (sort_at mine t) c.sort) e in
      let q = sized_parts t.count (sort_at mine t) p.1 in
      let h = sorted_inside (words_of mine) mine inside t q.1.0 q.1.1 in
      subst (λ (s : Span). fits (words_of mine) (words_of theirs) (formal_of c) (operand.Ports s) ≡ true) is
      (all_four (is_port c.sort) (t.count == c.words) (has_span (words_of mine) t) (has_span (words_of theirs) (cell_span c)) p.0 (eq-eqb t.count c.words q.0) (spanned t h) room)
  one_fits (pass.WordIn t) (operand.Value v) is e = absurd is
  one_fits (pass.WordIn t) (operand.Words s) is e =
      let p = and_parts (is_word c.sort) ((c.words == 1) && are_words mine t) e in
      let q = and_parts (c.words == 1) (are_words mine t) p.1 in
      let h = words_inside (words_of mine) mine inside t q.1 in
      let one : s.count ≡ c.words = is.single ∙ sym (eqb-true c.words 1 q.0) in
      all_four (not (is_port c.sort)) (s.count == c.words) (has_span (words_of mine) s) (has_span (words_of theirs) (cell_span c)) (word_formal p.0) (eq-eqb s.count c.words one) (spanned s (omega (arith, h, is.single, is.high))) room
  one_fits (pass.WordIn t) (operand.Ports s) is e = absurd is
  one_fits (pass.PortIn t) (operand.Value v) is e = absurd is
  one_fits (pass.PortIn t) (operand.Words s) is e = absurd is
  one_fits (pass.PortIn t) (operand.Ports s) is e =
      let p = and_parts (is_port c.sort) (sized 1 c.words (sort_at mine t) c.sort) e in
      let q = sized_parts 1 (sort_at mine t) p.1 in
      let h = sorted_inside (words_of mine) mine inside t q.1.0 q.1.1 in
      all_four (is_port c.sort) (s.count == c.words) (has_span (words_of mine) s) (has_span (words_of theirs) (cell_span c)) p.0 (eq-eqb s.count c.words (is.single ∙ q.0)) (spanned s (omega (arith, h, is.single, is.high))) room
  one_fits (pass.Sized n) o is e = absurd cc

-- ---- all operands

formal_within : (cs : List Cell) (k n : ℕ) (c : Cell) → AllByRecursion (λ (c : Cell). c.first + c.words ≤ k) cs → formal_at cs n ≡ Some c → c.first + c.words ≤ k
formal_within [] k n c all e = absurd cc
formal_within (d ∷ cs) k n c all e = go (formal_within cs k n c all.1) (d.formal == n) e
  where
    go : (formal_at cs n ≡ Some c → c.first + c.words ≤ k) → (b : Bool) → cond b (Some d) (formal_at cs n) ≡ Some c → c.first + c.words ≤ k
    go more true e = let same : d ≡ c = cc in subst (λ (x : Cell). x.first + x.words ≤ k) same all.0
    go more false e = more e

module _ (mine theirs : List Cell) (inside : AreInside (words_of mine) mine) (within : AreInside (words_of theirs) theirs) where
  passed_fit : (n : ℕ) (fs : List Formal) (ps : List Passed) (os : List Operand) → AreFormals theirs n fs → fit_formals mine theirs n ps ≡ true → AllFit ps os → all_fit (words_of mine) (words_of theirs) fs os ≡ true
  passed_fit n [] [] [] formals e all = refl
  passed_fit n [] [] (o ∷ os) formals e all = absurd all
  passed_fit n [] (p ∷ ps) os formals e all = absurd (no_more (formal_at theirs n) formals (and_parts (fits_cell mine p (formal_at theirs n)) (fit_formals mine theirs (suc n) ps) e).0)
    where
      no_more : (o : Option Cell) → o ≡ None → fits_cell mine p o ≡ true → ⊥
      no_more None is e = absurd cc
      no_more (Some c) is e = absurd cc
  passed_fit n (f ∷ fs) [] os formals e all = absurd (one_more (formal_at theirs n) formals.0.0 formals.0.1 e)
    where
      one_more : (o : Option Cell) (c : Cell) → o ≡ Some c → is_no_cell o ≡ true → ⊥
      one_more None c is e = absurd cc
      one_more (Some d) c is e = absurd cc
  passed_fit n (f ∷ fs) (p ∷ ps) [] formals e all = absurd all
  passed_fit n (f ∷ fs) (p ∷ ps) (o ∷ os) formals e all =
      let c = formals.0.0 in
      let q = and_parts (fits_cell mine p (formal_at theirs n)) (fit_formals mine theirs (suc n) ps) e in
      let here : fits_room mine c.sort c.words p ≡ true = ap (fits_cell mine p) (sym formals.0.1) ∙ q.0 in
      let one : fits (words_of mine) (words_of theirs) f o ≡ true =
      subst (λ (g : Formal). fits (words_of mine) (words_of theirs) g o ≡ true) (sym formals.0.2) (one_fits mine theirs inside c (formal_within theirs (words_of theirs) n c within formals.0.1) p o all.0 here) in
      and_from (fits (words_of mine) (words_of theirs) f o) (all_fit (words_of mine) (words_of theirs) fs os) one (passed_fit (suc n) fs ps os formals.1 q.1 all.1)

-- ---- bodies

module _ (ss : Shapes) (b : Body) (fit : BodyFits ss b) where
  abbrev u : Shape
  u = fit.frame.unit

  mine_inside : AreInside (words_of u.cells) u.cells
  mine_inside = fit.code.within b.frame.unit u fit.frame.there

  module _ (n : ℕ) (os : List Operand) (f : Fitted ss u n os) where
    callee : (c : code_unit.Unit) × (slice_get b.code.units n ≡ Some c) × IsUnit f.callee c
    callee = fit.code.unit n f.callee f.there

    is_passed_on : is_passed callee.0 b os ≡ true
    is_passed_on =
        let fits = passed_fit u.cells f.callee.cells mine_inside (fit.code.within n f.callee f.there) 1 callee.0.formals f.passed os callee.2.formals f.fit f.all in
        subst (λ (k : ℕ). all_fit k callee.0.words callee.0.formals os ≡ true) (sym fit.frame.frame.words)
        (subst (λ (k : ℕ). all_fit (words_of u.cells) k callee.0.formals os ≡ true) (sym callee.2.words) fits)

    calls_on : (to : ℕ) → is_stuck_in (calls n (unit_at b n) b to os) ≡ false
    calls_on to = rw (callee.1, is_passed_on) refl

    refers_on : (to : ℕ) → is_stuck_in (refers n (unit_at b n) b to os) ≡ false
    refers_on to = rw (callee.1, is_passed_on) refl

    starts_on : (to : ℕ) (place : Place) → is_stuck_in (starts n (unit_at b n) b to os place) ≡ false
    starts_on to place = rw callee.1 (go (fitted_in callee.0 (seat_of b place)))
      where
        go : (r : Result Seat Fault) → is_stuck_in (starts_at n callee.0 b to os r) ≡ false
        go (Ok seat) = rw is_passed_on refl
        go (Err fault) = refl

  returns_on : (below : List Frame) → GivesBack b.frame below → is_stuck_in (gives_back b below) ≡ false
  returns_on [] g = refl
  returns_on (c ∷ below) g = rw g refl

  results_on : (v : ℤ) (below : List Frame) → is_stuck_in (results_in b v below) ≡ false
  results_on v [] = refl
  results_on v (c ∷ below) = refl

  acts_on : (t : StatementEnd) → Fine ss u t → is_stuck_in (action_by b t) ≡ false
  acts_on (acts.Goes to m) f = refl
  acts_on (acts.Prints to line) f = refl
  acts_on (acts.Calls n to os) f = calls_on n os f to
  acts_on (acts.Refers n to os) f = refers_on n os f to
  acts_on acts.Returns f = returns_on b.below fit.backs
  acts_on (acts.ReturnsValue v) f = results_on v b.below
  acts_on (acts.Starts n to os place) f = starts_on n os f to place
  acts_on (acts.Closes port to) f = refl
  acts_on (acts.Moves from into to) f = refl
  acts_on (acts.Fails fault) f = refl
  acts_on (acts.Asks a) f = refl
  acts_on acts.Stuck f = absurd f

  own_code : code_in (unit_at b b.frame.unit) ≡ fit.frame.own.code
  own_code = rw fit.frame.own_there refl

  pub not_stuck : is_stuck b ≡ false
  not_stuck =
      acts_on (statement_end_of b)
      (subst (λ (code : List Instr). Fine ss u (statement code b.frame.address b.frame)) (sym own_code)
      (statement_moves ss u mine_inside (coded fit.frame.own) fit.frame.lists fit.frame.kinds b.frame b.frame.address fit.frame.done fit.frame.inside fit.frame.list fit.frame.frame))

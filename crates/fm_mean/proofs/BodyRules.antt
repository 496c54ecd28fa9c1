-- What the rules of structure say of the marks of a body: each leads on within it, and the end of a loop has its loop.
use Rattle.std.proofs.Common.{◌≡◌, ℕ, zero, suc, ◌+◌, ◌<◌, ◌≤◌, Bool, true, false, cond, not, ◌&&◌, Option, Some, None, List, [], ◌∷◌, ◌++◌, length, take, drop, get_or, slice_get, refl, sym, ap, ◌∙◌, subst, arith}
use Rattle.std.specs.Prelude.{if◌then◌else◌, is_none, nat_eq, nat_lt}
use Rattle.std.proofs.lemmas.Bool.Decides.{nat_tests}
use Rattle.fm_base.specs.declared.name.Label.{Label}
use Rattle.fm_base.specs.declared.rule.Rule.TheVariants.{E20, E21, E22, E23, E24, E25, E29}
use Rattle.fm_base.specs.Verdict.{when}
use Rattle.fm_tree.specs.declared.form.Form.{Form}
use Rattle.fm_tree.specs.declared.form.Form.TheVariants as form
use Rattle.fm_tree.specs.declared.form.Bracket.{Bracket}
use Rattle.fm_tree.specs.declared.form.Bracket.TheVariants.{Opens, Closes, Parts, Stays}
use Rattle.fm_tree.specs.declared.form.Terminal.TheVariants as terminal
use Rattle.fm_tree.specs.declared.entry_mark.EntryMark.{EntryMark}
use Rattle.fm_tree.specs.declared.entry_mark.Open.{Open}
use Rattle.fm_tree.specs.declared.program_unit.Placed.{Placed}
use Rattle.fm_tree.specs.Structure.{bracket_of, is_executable, is_separator, terminal_label}
use Rattle.fm_tree.specs.Blocks.{counted_on, ends, head_of, innermost, mate_of, open_blocks}
use Rattle.fm_tree.specs.Labels.{first_executable, first_where, jump_label, target}
use Rattle.fm_tree.specs.Layout.{is_this_label, laid_out}
use Rattle.fm_tree.specs.Units.{after_of, blank_mark, body_of, form_at, lacks_end, or_next, statement_at}
use Rattle.fm_tree_blocks.proofs.Below.{end_within}
use Rattle.fm_tree_blocks.proofs.Paths.{closer_is_mate}
use Rattle.fm_tree_blocks.proofs.LaidMarks.{AreOfSource, EndsLabelled, IsLaid, Suits, all_laid, finished, laid_at, onto, onto_none}
use Rattle.fm_tree_blocks.proofs.BodyMarks.{ArePlain, EndsFit, IsEnded, IsSplit, body_begins, body_ended, body_innermost, ended, goes_on, head_onto, opener_there, split}
use Rattle.fm_rules.specs.BrokenUnit.{broken_at, broken_in_unit, place_at}
use Rattle.fm_rules.specs.StructureForms.{badly_ended, ends_do, ends_process_do, is_do, is_process_do, misplaced, opener_of, unmatched}
use Rattle.fm_rules.specs.StructureLookups.{form_or_end, has_end, is_before, some_passes}
use Rattle.fm_rules.specs.StructureRules.{is_badly_ended, is_foreign, is_misplaced, is_unmatched, jumps_into_block, lacks_target, repeats_label}
use Rattle.fm_mean.proofs.Unbroken.{left_empty, right_empty, not_when}
use Rattle.fm_mean.proofs.MainUnit.{entry_clean}

never : true ≡ false → ⊥
never e = absurd (cc)

the_mark : (a b : EntryMark) → Some a ≡ Some b → a ≡ b
the_mark a b e = cc

not_false : (b : Bool) → not b ≡ false → b ≡ true
not_false true e = refl
not_false false e = absurd (cc e)

-- ---- lists

pub got_within : {X : Type 0} (xs : List X) (k : ℕ) (x : X) → slice_get xs k ≡ Some x → k < length xs
got_within [] k x e = absurd (cc e)
got_within (y ∷ ys) zero x e = omega arith
got_within (y ∷ ys) (suc k) x e = let l = got_within ys k x e in omega (arith, l)

pub got_some : {X : Type 0} (xs : List X) (k : ℕ) → k < length xs → (x : X) × (slice_get xs k ≡ Some x)
got_some [] k h = absurd (omega (arith, h))
got_some (y ∷ ys) zero h = (y, refl)
got_some (y ∷ ys) (suc k) h = got_some ys k (omega (arith, h))

got_or : {X : Type 0} (xs : List X) (k : ℕ) (x d : X) → slice_get xs k ≡ Some x → get_or xs k d ≡ x
got_or [] k x d e = absurd (cc e)
got_or {X} (y ∷ ys) zero x d e = same y x e
  where
    same : (a b : X) → Some a ≡ Some b → a ≡ b
    same a b h = cc
got_or (y ∷ ys) (suc k) x d e = got_or ys k x d e

got_after : {X : Type 0} (xs ys : List X) (k n : ℕ) → n ≡ length xs + k → slice_get (xs ++ ys) n ≡ slice_get ys k
got_after [] ys k n e = let q : n ≡ k = omega (arith, e) in ap (slice_get ys) q
got_after (x ∷ xs) ys k zero e = absurd (omega (arith, e))
got_after (x ∷ xs) ys k (suc n) e = got_after xs ys k n (omega (arith, e))

got_drop : {X : Type 0} (k : ℕ) (xs : List X) (i n : ℕ) → n ≡ k + i → slice_get (drop k xs) i ≡ slice_get xs n
got_drop zero xs i n e = let q : i ≡ n = omega (arith, e) in ap (slice_get xs) q
got_drop (suc k) [] i zero e = absurd (omega (arith, e))
got_drop (suc k) [] i (suc n) e = refl
got_drop (suc k) (x ∷ xs) i zero e = absurd (omega (arith, e))
got_drop (suc k) (x ∷ xs) i (suc n) e = got_drop k xs i n (omega (arith, e))

dropped : {X : Type 0} (k : ℕ) (xs : List X) → k ≤ length xs → k + length (drop k xs) ≡ length xs
dropped zero xs h = omega arith
dropped (suc k) [] h = absurd (omega (arith, h))
dropped (suc k) (x ∷ xs) h = let l = dropped k xs (omega (arith, h)) in omega (arith, l)

first_got : {X : Type 0} (xs : List X) (k : ℕ) (x : X) → slice_get xs k ≡ Some x → (y : X) × (slice_get xs 0 ≡ Some y)
first_got [] k x e = absurd (cc e)
first_got (y ∷ ys) k x e = (y, refl)

pub form_here : (ms : List EntryMark) (k : ℕ) (m : EntryMark) → slice_get ms k ≡ Some m → form_at ms k ≡ m.form
form_here ms k m e = ap (λ (x : EntryMark). x.form) (got_or ms k m blank_mark e)

-- ---- the first mark that passes a test

first_before : (test : EntryMark → Bool) (ms : List EntryMark) (at i n : ℕ) (m : EntryMark) → slice_get ms i ≡ Some m → test m ≡ true → at + i < n → is_before (first_where test ms at) n ≡ true
first_before test [] at i n m e t l = absurd (cc e)
first_before test (x ∷ ms) at i n m e t l = go (test x) refl i e l (λ j d h. first_before test ms (at + 1) j n m d t h)
  where
    below : (a b : ℕ) → a < b → nat_lt a b ≡ true
    below a b h = grind (arith, nat_tests, h)

    go : (b : Bool) → test x ≡ b → (i : ℕ) → slice_get (x ∷ ms) i ≡ Some m → at + i < n → ((j : ℕ) → slice_get ms j ≡ Some m → at + 1 + j < n → is_before (first_where test ms (at + 1)) n ≡ true)
        → is_before (cond b (Some at) (first_where test ms (at + 1))) n ≡ true
    go true is i e l rest = below at n (omega (arith, l))
    go false is zero e l rest = absurd (never (sym t ∙ ap test (sym (the_mark x m e)) ∙ is))
    go false is (suc i) e l rest = rest i e (omega (arith, l))

-- what is found passes
pub first_passes : (test : EntryMark → Bool) (ms : List EntryMark) (at t : ℕ) → first_where test ms at ≡ Some t → (i : ℕ) × (m : EntryMark) × (slice_get ms i ≡ Some m) × (test m ≡ true) × (t ≡ at + i)
first_passes test [] at t e = absurd (cc e)
first_passes test (x ∷ ms) at t e = go (test x) refl e (λ h. first_passes test ms (at + 1) t h)
  where
    the_place : (a b : ℕ) → Some a ≡ Some b → a ≡ b
    the_place a b h = cc

    go : (b : Bool) → test x ≡ b → cond b (Some at) (first_where test ms (at + 1)) ≡ Some t → (first_where test ms (at + 1) ≡ Some t → (i : ℕ) × (m : EntryMark) × (slice_get ms i ≡ Some m) × (test m ≡ true) × (t ≡ at + 1 + i))
        → (i : ℕ) × (m : EntryMark) × (slice_get (x ∷ ms) i ≡ Some m) × (test m ≡ true) × (t ≡ at + i)
    go true is e rest = let q = the_place at t e in (zero, x, refl, is, omega (arith, q))
    go false is e rest = let r = rest e in (suc r.0, r.1, r.2, r.3, omega (arith, r.4))

-- what passes is found
pub some_first : (test : EntryMark → Bool) (ms : List EntryMark) (at i : ℕ) (m : EntryMark) → slice_get ms i ≡ Some m → test m ≡ true → first_where test ms at ≡ None → ⊥
some_first test [] at i m e t none = absurd (cc e)
some_first test (x ∷ ms) at i m e t none = go (test x) refl i e none (λ j d h. some_first test ms (at + 1) j m d t h)
  where
    go : (b : Bool) → test x ≡ b → (i : ℕ) → slice_get (x ∷ ms) i ≡ Some m → cond b (Some at) (first_where test ms (at + 1)) ≡ None → ((j : ℕ) → slice_get ms j ≡ Some m → first_where test ms (at + 1) ≡ None → ⊥) → ⊥
    go true is i e none rest = absurd (cc none)
    go false is zero e none rest = never (sym t ∙ ap test (sym (the_mark x m e)) ∙ is)
    go false is (suc i) e none rest = rest i e none

-- ---- ends of blocks

-- a mark that closes, at this place of a run
abbrev ClosesAt : List EntryMark → ℕ → ℕ → Type 0
ClosesAt es at j = (i : ℕ) × (x : EntryMark) × (j ≡ at + i) × (slice_get es i ≡ Some x) × (bracket_of x.form ≡ Closes)

end_closes : (es : List EntryMark) (at c j : ℕ) → head_of (ends false es at c) ≡ Some j → ClosesAt es at j
end_closes [] at c j e = absurd (cc e)
end_closes (x ∷ es) at c j e = go (bracket_of x.form) refl c e (λ d h. end_closes es (at + 1) d j h)
  where
    up : ClosesAt es (at + 1) j → ClosesAt (x ∷ es) at j
    up h = (suc h.0, h.1, omega (arith, h.2), h.3, h.4)

    the_place : (a b : ℕ) → Some a ≡ Some b → a ≡ b
    the_place a b h = cc

    go : (t : Bracket) → bracket_of x.form ≡ t → (c : ℕ) → head_of (counted_on false t at (ends false es (at + 1)) c) ≡ Some j → ((d : ℕ) → head_of (ends false es (at + 1) d) ≡ Some j → ClosesAt es (at + 1) j) → ClosesAt (x ∷ es) at j
    go Opens is c e rest = up (rest (suc c) e)
    go Closes is zero e rest = let q = the_place at j e in (zero, x, omega (arith, q), refl, is)
    go Closes is (suc c) e rest = up (rest c e)
    go Parts is c e rest = up (rest c e)
    go Stays is c e rest = up (rest c e)

-- the end of a block closes it
pub mate_closes : (ms : List EntryMark) (k j : ℕ) → mate_of ms k ≡ Some j → (x : EntryMark) × (slice_get ms j ≡ Some x) × (bracket_of x.form ≡ Closes)
mate_closes ms k j e = let r = end_closes (drop (k + 1) ms) (k + 1) 0 j e in (r.1, sym (got_drop (k + 1) ms r.0 j r.2) ∙ r.3, r.4)

-- an end, of a block or of a branch, stands within the marks
pub end_inside : (branches : Bool) (ms : List EntryMark) (k j : ℕ) → k + 1 ≤ length ms → head_of (ends branches (drop (k + 1) ms) (k + 1) 0) ≡ Some j → j < length ms
end_inside branches ms k j h e = let l = end_within branches (drop (k + 1) ms) (k + 1) 0 j e in let d = dropped (k + 1) ms h in omega (arith, l, d)

-- ---- loops

-- of a loop
abbrev pub IsLoopForm : Form → Type 0
IsLoopForm (form.Do label) = Unit {0}
IsLoopForm form.DoWhile = Unit {0}
IsLoopForm (form.ProcessDo label) = Unit {0}
IsLoopForm f = ⊥

do_form : (f : Form) → is_do f ≡ true → IsLoopForm f
unfolding is_do
do_form (form.Do None) e = tt
do_form form.DoWhile e = tt
do_form f e = absurd (cc e)

process_do_form : (f : Form) → is_process_do f ≡ true → IsLoopForm f
unfolding is_process_do
process_do_form (form.ProcessDo None) e = tt
process_do_form f e = absurd (cc e)

labelled_form : (f : Form) (label : Label) → terminal_label f ≡ Some label → IsLoopForm f
labelled_form (form.Do l) label e = tt
labelled_form (form.ProcessDo l) label e = tt
labelled_form f label e = absurd (cc e)

unfit_ended : (f : Form) (label : Label) → terminal_label f ≡ Some label → badly_ended f (form.LoopEnd terminal.Unfit) ≡ true
unfolding badly_ended ends_do ends_process_do
unfit_ended (form.Do (Some l)) label e = refl
unfit_ended (form.ProcessDo (Some l)) label e = refl
unfit_ended (form.Do None) label e = absurd (cc e)
unfit_ended (form.ProcessDo None) label e = absurd (cc e)
unfit_ended f label e = absurd (cc e)

-- an end of a loop, without label or with one
abbrev pub EndsLoop : Form → Type 0
EndsLoop form.EndDo = Unit {0}
EndsLoop form.EndProcessDo = Unit {0}
EndsLoop (form.LoopEnd t) = Unit {0}
EndsLoop f = ⊥

end_do_matched : (opener : Form) (open_at_end : Bool) → unmatched form.EndDo opener open_at_end ≡ false → is_do opener ≡ true
unfolding unmatched
end_do_matched opener open_at_end e = not_false (is_do opener) e

end_process_do_matched : (opener : Form) (open_at_end : Bool) → unmatched form.EndProcessDo opener open_at_end ≡ false → is_process_do opener ≡ true
unfolding unmatched
end_process_do_matched opener open_at_end e = not_false (is_process_do opener) e

loop_opened : (o : Option Open) → IsLoopForm (opener_of o) → (x : Open) × (o ≡ Some x) × IsLoopForm x.form
loop_opened None h = absurd h
loop_opened (Some x) h = (x, refl, h)

plain_misplaced : (f : Form) (late : Bool) (heading opener : Form) → is_executable f ≡ false → late ≡ true → misplaced f false late heading opener ≡ true
unfolding misplaced
plain_misplaced (form.Heading unit) late heading opener e h = refl
plain_misplaced form.Declaration late heading opener e h = h
plain_misplaced form.Processors true heading opener e h = refl
plain_misplaced form.Processors false heading opener e h = absurd (never (sym h))
plain_misplaced f late heading opener e h = absurd (cc e)

loop_end_closes : (f : Form) → f ≡ form.LoopEnd terminal.Unfit → bracket_of f ≡ Closes
unfolding bracket_of
loop_end_closes f e = ap bracket_of e

-- ---- a unit that breaks no rule of structure

pub record EntryRules (ms : List EntryMark) (k : ℕ) : Type 0 where
  pub placed : is_misplaced ms k ≡ false
  pub matched : is_unmatched ms k ≡ false
  pub found : lacks_target ms k ≡ false
  pub ended : is_badly_ended ms k ≡ false

rules_of : (ms : List EntryMark) (k : ℕ) → broken_at ms k ≡ [] → EntryRules ms k
rules_of ms k e =
    let w0 = when (is_misplaced ms k) (place_at ms k E20) in
    let w1 = when (is_unmatched ms k) (place_at ms k E21) in
    let w2 = when (repeats_label ms k) (place_at ms k E22) in
    let w3 = when (lacks_target ms k) (place_at ms k E23) in
    let w4 = when (jumps_into_block ms k) (place_at ms k E24) in
    let w5 = when (is_badly_ended ms k) (place_at ms k E25) in
    let w6 = when (is_foreign ms k) (place_at ms k E29) in
    let r5 = left_empty (w0 ++ w1 ++ w2 ++ w3 ++ w4 ++ w5) w6 e in
    let r4 = left_empty (w0 ++ w1 ++ w2 ++ w3 ++ w4) w5 r5 in
    let r3 = left_empty (w0 ++ w1 ++ w2 ++ w3) w4 r4 in
    let r2 = left_empty (w0 ++ w1 ++ w2) w3 r3 in
    let r1 = left_empty (w0 ++ w1) w2 r2 in
    record {
      placed = not_when (is_misplaced ms k) (place_at ms k E20) (left_empty w0 w1 r1);
      matched = not_when (is_unmatched ms k) (place_at ms k E21) (right_empty w0 w1 r1);
      found = not_when (lacks_target ms k) (place_at ms k E23) (right_empty (w0 ++ w1 ++ w2) w3 r3);
      ended = not_when (is_badly_ended ms k) (place_at ms k E25) (right_empty (w0 ++ w1 ++ w2 ++ w3 ++ w4) w5 r5);
    }

pub rules_at : (ms : List EntryMark) → broken_in_unit ms ≡ [] → (k : ℕ) → k < length ms → EntryRules ms k
rules_at ms clean k h = rules_of ms k (ap (broken_at ms) (omega arith) ∙ entry_clean ms 0 ms k clean h)

module _ (c : List Placed) (source : AreOfSource c) (clean : broken_in_unit (laid_out c) ≡ []) (last : lacks_end c ≡ false) where
  abbrev all : List EntryMark
  all = laid_out c

  abbrev pub marks : List EntryMark
  marks = body_of (laid_out c)

  laid_here : (k : ℕ) (m : EntryMark) → slice_get all k ≡ Some m → IsLaid c (onto (take k all) []) m
  laid_here k m at = laid_at c all [] k m (all_laid c source) at

  labelled_there : (k : ℕ) → EndsLabelled (open_blocks (onto (take k all) []) zero) → (o : Open) × (label : Label) × (innermost all k ≡ Some o) × (terminal_label o.form ≡ Some label)
  labelled_there k h = (h.0, h.1, ap (λ (r : List EntryMark). head_of (open_blocks r zero)) (sym (onto_none (take k all))) ∙ h.2, h.3)

  ends_fit : EndsFit all
  ends_fit k m at e =
      let x = labelled_there k ((laid_here k m at).closes terminal.Unfit e) in
      let within = got_within all k m at in
      let opener = opener_there all k x.0 (omega (arith, within)) x.2 in
      let below = opener.0 in
      let here : form_at all k ≡ form.LoopEnd terminal.Unfit = form_here all k m at ∙ e in
      let mate = closer_is_mate all k x.0 within (loop_end_closes (form_at all k) here) x.2 in
      let rule = (rules_at all clean x.0.at (omega (arith, below, within))).ended in
      never (sym (unfit_ended x.0.form x.1 x.3)
      ∙ sym (ap (λ (f : Form). badly_ended f (form.LoopEnd terminal.Unfit)) (form_here all x.0.at opener.1.0 opener.1.1 ∙ opener.1.2))
      ∙ sym (ap (badly_ended (form_at all x.0.at)) here)
      ∙ sym (ap (λ (o : Option ℕ). badly_ended (form_at all x.0.at) (form_or_end all o)) mate) ∙ rule)

  pub marks_ended : IsEnded marks
  marks_ended = body_ended all (ended all (finished c source last) ends_fit)

  abbrev parts : IsSplit all
  parts = split all

  -- a place of the body among those of the unit
  there_too : (k : ℕ) (m : EntryMark) → slice_get marks k ≡ Some m → slice_get all (length parts.front + k) ≡ Some m
  there_too k m at = ap (λ (xs : List EntryMark). slice_get xs (length parts.front + k)) parts.is ∙ got_after parts.front marks k (length parts.front + k) refl ∙ at

  rules_here : (k : ℕ) (m : EntryMark) → slice_get marks k ≡ Some m → EntryRules all (length parts.front + k)
  rules_here k m at = rules_at all clean (length parts.front + k) (got_within all (length parts.front + k) m (there_too k m at))

  pub suits_here : (k : ℕ) (m : EntryMark) → slice_get marks k ≡ Some m → Suits m.form (statement_at c m)
  suits_here k m at = (laid_here (length parts.front + k) m (there_too k m at)).suits

  pub executable_here : (k : ℕ) (m : EntryMark) → slice_get marks k ≡ Some m → is_executable m.form ≡ true
  executable_here zero m at = body_begins all m at
  executable_here (suc j) m at = go (is_executable m.form) refl
    where
      behind_first : (n j : ℕ) → nat_eq (n + suc j) 0 ≡ false
      behind_first n j = grind (arith, nat_tests)

      go : (b : Bool) → is_executable m.form ≡ b → is_executable m.form ≡ true
      go true is = is
      go false is =
          let n = length parts.front + suc j in
          let x = first_got marks (suc j) m at in
          let late = first_before (λ e. is_executable e.form) all 0 (length parts.front + 0) n x.0 (there_too 0 x.0 x.1) (body_begins all x.0 x.1) (omega arith) in
          let rule = (rules_here (suc j) m at).placed in
          absurd (never (sym (plain_misplaced m.form (is_before (first_executable all) n) (form_at all 0) (opener_of (innermost all n)) is late)
          ∙ sym (ap (λ (f : Form). misplaced f false (is_before (first_executable all) n) (form_at all 0) (opener_of (innermost all n))) (form_here all n m (there_too (suc j) m at)))
          ∙ sym (ap (λ (b : Bool). misplaced (form_at all n) b (is_before (first_executable all) n) (form_at all 0) (opener_of (innermost all n))) (behind_first (length parts.front) j)) ∙ rule))

  -- END isn't behind a test
  pub behind_test : (k : ℕ) (t m : EntryMark) → slice_get marks k ≡ Some t → t.form ≡ form.Test → slice_get marks (suc k) ≡ Some m → m.form ≡ form.End → ⊥
  behind_test k t m at test next e =
      let n = length parts.front + k in
      let same : length parts.front + suc k ≡ suc n = omega arith in
      let here : slice_get all (suc n) ≡ Some m = ap (slice_get all) (sym same) ∙ there_too (suc k) m next in
      (laid_here (suc n) m here).turned t (head_onto all [] n t (there_too k t at)) test e

  matched_here : (k : ℕ) (m : EntryMark) → slice_get marks k ≡ Some m → unmatched m.form (opener_of (innermost all (length parts.front + k))) (has_end all && is_none (mate_of all (length parts.front + k))) ≡ false
  matched_here k m at =
      let n = length parts.front + k in
      sym (ap (λ (f : Form). unmatched f (opener_of (innermost all n)) (has_end all && is_none (mate_of all n))) (form_here all n m (there_too k m at))) ∙ (rules_here k m at).matched

  -- the end of a loop stands in its loop
  loop_round : (k : ℕ) (m : EntryMark) → slice_get marks k ≡ Some m → (f : Form) → m.form ≡ f → EndsLoop f → (o : Open) × (innermost all (length parts.front + k) ≡ Some o) × IsLoopForm o.form
  loop_round k m at form.EndDo e h =
      let n = length parts.front + k in
      let opener = opener_of (innermost all n) in
      let at_end = has_end all && is_none (mate_of all n) in
      loop_opened (innermost all n) (do_form opener (end_do_matched opener at_end (sym (ap (λ (f : Form). unmatched f opener at_end) e) ∙ matched_here k m at)))
  loop_round k m at form.EndProcessDo e h =
      let n = length parts.front + k in
      let opener = opener_of (innermost all n) in
      let at_end = has_end all && is_none (mate_of all n) in
      loop_opened (innermost all n) (process_do_form opener (end_process_do_matched opener at_end (sym (ap (λ (f : Form). unmatched f opener at_end) e) ∙ matched_here k m at)))
  loop_round k m at (form.LoopEnd t) e h =
      let n = length parts.front + k in
      let x = labelled_there n ((laid_here n m (there_too k m at)).closes t e) in
      (x.0, x.2, labelled_form x.0.form x.1 x.3)
  loop_round k m at f e h = absurd h

  -- the opener of a loop that is ended
  pub loop_opener : (k : ℕ) (m : EntryMark) → slice_get marks k ≡ Some m → EndsLoop m.form → (o : Open) × (x : EntryMark) × (innermost marks k ≡ Some o) × (slice_get marks o.at ≡ Some x) × IsLoopForm x.form
  loop_opener k m at h =
      let n = length parts.front + k in
      let r = loop_round k m at m.form refl h in
      let inner = body_innermost parts.front marks k n parts.plain refl r.0 (ap (λ (xs : List EntryMark). innermost xs n) (sym parts.is) ∙ r.1) in
      let within = got_within marks k m at in
      let there = opener_there marks k inner.0 (omega (arith, within)) inner.1 in
      (inner.0, there.1.0, inner.1, there.1.1, subst IsLoopForm (sym (there.1.2 ∙ inner.2)) r.2)

  in_body : (front ms : List EntryMark) (i : ℕ) (x : EntryMark) → ArePlain front → is_executable x.form ≡ true → slice_get (front ++ ms) i ≡ Some x → (j : ℕ) × (slice_get ms j ≡ Some x)
  in_body [] ms i x plain executable e = (i, e)
  in_body (y ∷ front) ms zero x plain executable e = absurd (never (sym executable ∙ ap (λ (z : EntryMark). is_executable z.form) (sym (the_mark y x e)) ∙ plain.0))
  in_body (y ∷ front) ms (suc i) x plain executable e = in_body front ms i x plain.1 executable e

  both_true : (a b : Bool) → (a && b) ≡ true → (a ≡ true) × (b ≡ true)
  both_true true b e = (refl, e)
  both_true false b e = absurd (cc e)

  -- a mark of the body has the label of a jump
  pub label_there : (k : ℕ) (m : EntryMark) (label : Label) → slice_get marks k ≡ Some m → m.form ≡ form.Goto label → (j : ℕ) × (x : EntryMark) × (slice_get marks j ≡ Some x) × (is_this_label label x.label ≡ true)
  label_there k m label at e = go (target all label) refl
    where
      rule : is_none (target all label) ≡ false
      rule =
          let n = length parts.front + k in
          sym (ap (λ (f : Form). some_passes (λ (l : Label). is_none (target all l)) (jump_label f)) (form_here all n m (there_too k m at) ∙ e)) ∙ (rules_here k m at).found

      go : (o : Option ℕ) → target all label ≡ o → (j : ℕ) × (x : EntryMark) × (slice_get marks j ≡ Some x) × (is_this_label label x.label ≡ true)
      go None is = absurd (never (sym (ap is_none is) ∙ rule))
      go (Some t) is =
          let r = first_passes (λ e. is_executable e.form && is_this_label label e.label) all 0 t is in
          let b = both_true (is_executable r.1.form) (is_this_label label r.1.label) r.3 in
          let j = in_body parts.front marks r.0 r.1 parts.plain b.0 (ap (λ (xs : List EntryMark). slice_get xs r.0) (sym parts.is) ∙ r.2) in
          (j.0, r.1, j.1, b.1)

  -- ---- what comes after a mark

  pub after_inside : (k : ℕ) (m : EntryMark) → slice_get marks k ≡ Some m → (m.form ≡ form.End → ⊥) → after_of marks k < length marks
  after_inside k m at other = go (is_separator (form_at marks (k + 1))) (mate_of marks k) refl
    where
      next : k + 1 < length marks
      next = let l = goes_on marks marks_ended k m at other in omega (arith, l)

      go : (b : Bool) (o : Option ℕ) → mate_of marks k ≡ o → (if b then or_next o k else k + 1) < length marks
      go false o is = next
      go true None is = next
      go true (Some j) is = end_inside false marks k j (omega (arith, next)) is

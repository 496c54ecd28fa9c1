-- Which line is the first malformed one.
use Rattle.std.proofs.Common.{◌≡◌, ℕ, zero, suc, ◌+◌, ◌≤◌, ◌<◌, cond, List, [], ◌∷◌, ◌++◌, length, map, take, drop, Result, Ok, Err, Option, Some, None, ◌⊎◌, inl, inr, refl, ap, subst, sym, ◌∙◌, append_assoc, arith}
use Rattle.std.specs.Prelude.{codes, IfErr}
use Rattle.std.specs.List.{flat_map}
use Rattle.std.specs.Fmt.{decimal}
use Rattle.std.specs.Str.{bytes_eq}
use Rattle.std.proofs.lemmas.List.{length-map, length_push, take-append-drop, take-take, take_all}
use Rattle.std.proofs.lemmas.List.Concat.{flat_map-append, flat_map-cons}
use Rattle.std.proofs.lemmas.List.Elements.{All-nil}
use Rattle.fm_trace.specs.declared.fail.TraceFail.{TraceFail}
use Rattle.fm_trace.specs.declared.fail.TraceFail.TheVariants as fails
use Rattle.fm_trace.specs.declared.lines.Before.{Before}
use Rattle.fm_trace.specs.declared.trace.Form.{Form}
use Rattle.fm_trace.specs.declared.trace.Form.TheVariants as forms
use Rattle.fm_trace.specs.declared.trace.Run.{Run}
use Rattle.fm_trace.specs.declared.trace.Trace.{Trace}
use Rattle.fm_trace.specs.Texts.{count_word, ended, entry_text, first_line, lines_telling, text_in, AreOf, BeginsTrace, IsCause, IsEntry, IsFirstMalformed, HoldsAtMostOnce, IsRead, IsTrace, IsTraceText}
use Rattle.fm_trace.specs.Reading.{◌>>=◌, Gives, entries_at, entry_behind, fixed_at, form_of, formed, line_by, line_in, cut_at, none_before, number_at, number_behind, trace_of, with_entry}
use Rattle.fm_trace.specs.Writing.{entry_line}
use Rattle.fm_trace.proofs.EntryLaws.{AreBehind, few_lines, ranges_of, trace_by, trace_entries}
use Rattle.fm_trace.proofs.LineLaws.{entry_line_again, entry_line_found, form_line_found, number_at_found}
use Rattle.fm_trace.proofs.TraceLaws.{behind_count, behind_entries, behind_head, behind_source, behind_turns, entries_found, entry_lines, ok_is, one_line, past_head, past_last, past_three, past_turns, text_again, three_lines, trace_found}

-- ---- no line before this one is told

-- it fails at this line or later, if at all
abbrev pub IsFrom : {A : Type 0} → (line : ℕ) → Result A ℕ → Type 0
IsFrom line (Ok x) = Unit {0}
IsFrom line (Err at) = line ≤ at

up_to : (n : ℕ) → n ≤ n
up_to n = omega arith

through : (a b c : ℕ) → a ≤ b → b ≤ c → a ≤ c
through a b c le h = omega arith

later : {A : Type 0} (line at : ℕ) (r : Result A ℕ) → at ≤ line → IsFrom line r → IsFrom at r
later line at (Ok x) le h = tt
later line at (Err d) le h = through at line d le h

bind_from : {A B : Type 0} (line : ℕ) (r : Result A ℕ) (f : A → Result B ℕ) → IsFrom line r → ((x : A) → IsFrom line (f x)) → IsFrom line (r >>= f)
bind_from line (Ok x) f h goes = goes x
bind_from line (Err d) f h goes = h

line_from : {X : Type 0} (form : List ℕ → Option X) (line : ℕ) (bytes : List ℕ) → IsFrom line (line_by form line bytes)
line_from {X = X} form line bytes = go (cut_at 10 bytes)
  where
    told : (rest : List ℕ) (o : Option X) → IsFrom line (formed line rest o)
    told rest None = up_to line
    told rest (Some x) = tt

    go : (o : Option (List ℕ × List ℕ)) → IsFrom line (line_in form line o)
    go None = up_to line
    go (Some p) = told p.1 (form p.0)

fixed_from : (text : List ℕ) (line : ℕ) (bytes : List ℕ) → IsFrom line (fixed_at text line bytes)
fixed_from text line bytes = line_from (λ t. cond (bytes_eq t text) (Some t) None) line bytes

entries_from : (before : Before) (count line : ℕ) (bytes : List ℕ) → IsFrom line (entries_at before count line bytes)
unfolding entries_at
entries_from before zero line bytes = tt
entries_from before (suc n) line bytes =
    bind_from line (line_by (entry_behind before) line bytes) (λ first. entries_at (with_entry before first.0) n (line + 1) first.1 >>= λ others. Ok (first.0 ∷ others.0, others.1)) (line_from (entry_behind before) line bytes)
    (λ first.
    let rest = entries_at (with_entry before first.0) n (line + 1) first.1 in
    bind_from line rest (λ others. Ok (first.0 ∷ others.0, others.1)) (later (line + 1) line rest (omega arith) (entries_from (with_entry before first.0) n (line + 1) first.1)) (λ others. tt))

source_from : (turns count : ℕ) (x : List Run × List ℕ) → IsFrom (count + 4) (behind_entries turns count x)
source_from turns count x =
    bind_from (count + 4) (fixed_at (codes "source") (count + 4) x.1) (behind_source turns x.0) (fixed_from (codes "source") (count + 4) x.1) (λ source. tt)

count_from : (form : Form) (turns : ℕ) (x : ℕ × List ℕ) → IsFrom 4 (behind_count form turns x)
count_from form turns x =
    bind_from 4 (entries_at (none_before form) x.0 4 x.1) (behind_entries turns x.0) (entries_from (none_before form) x.0 4 x.1)
    (λ entries. later (x.0 + 4) 4 (behind_entries turns x.0 entries) (omega arith) (source_from turns x.0 entries))

turns_from : (form : Form) (x : ℕ × List ℕ) → IsFrom 3 (behind_turns form x)
turns_from form x =
    bind_from 3 (number_at (count_word form) 0 1000000001 3 x.1) (behind_count form x.0) (line_from (number_behind (count_word form) 0 1000000001) 3 x.1)
    (λ count. later 4 3 (behind_count form x.0 count) (omega arith) (count_from form x.0 count))

head_from : (x : Form × List ℕ) → IsFrom 2 (behind_head x)
head_from x =
    bind_from 2 (number_at (codes "turns ") 1 1000000000 2 x.1) (behind_turns x.0) (line_from (number_behind (codes "turns ") 1 1000000000) 2 x.1)
    (λ turns. later 3 2 (behind_turns x.0 turns) (omega arith) (turns_from x.0 turns))

trace_from : (bytes : List ℕ) → IsFrom 1 (trace_of bytes)
unfolding trace_of
trace_from bytes =
    bind_from 1 (line_by form_of 1 bytes) behind_head (line_from form_of 1 bytes)
    (λ head. later 2 1 (behind_head head) (omega arith) (head_from head))

-- ---- nor a line that is there

-- so many of these entries, where no more are asked for than are there
entries_partly : (before : Before) (rs : List Run) (count line lines : ℕ) (word rest : List ℕ) → AreBehind before rs → lines ≤ length rs → length rs ≤ count
    → IsFrom (line + lines) (entries_at before count line (flat_map ended (take lines (map entry_text rs ++ word ∷ [])) ++ rest))
unfolding entries_at
entries_partly before rs count line zero word rest fits few told = later line (line + 0) (entries_at before count line rest) (omega arith) (entries_from before count line rest)
entries_partly before [] count line (suc n) word rest fits few told = absurd (omega (arith, few))
entries_partly before (r ∷ rs) zero line (suc n) word rest fits few told = absurd (omega (arith, told))
entries_partly before (r ∷ rs) (suc count) line (suc n) word rest fits few told =
    let after : List ℕ = flat_map ended (take n (map entry_text rs ++ word ∷ [])) ++ rest in
    let others : Result (List Run × List ℕ) ℕ = entries_at (with_entry before r) count (line + 1) after in
    let one : entries_at before (suc count) line (flat_map ended (entry_text r ∷ take n (map entry_text rs ++ word ∷ [])) ++ rest) ≡ (others >>= λ x. Ok (r ∷ x.0, x.1)) =
    ap (entries_at before (suc count) line) (one_line (entry_text r) (take n (map entry_text rs ++ word ∷ [])) rest)
    ∙ ap (λ (x : Result (Run × List ℕ) ℕ). x >>= λ first. entries_at (with_entry before first.0) count (line + 1) first.1 >>= λ others. Ok (first.0 ∷ others.0, others.1)) (entry_line_again before line r after fits.0) in
    let h : IsFrom (line + suc n) others =
    later (line + 1 + n) (line + suc n) others (omega arith) (entries_partly (with_entry before r) rs count (line + 1) n word rest fits.1 (omega (arith, few)) (omega (arith, told))) in
    subst (IsFrom (line + suc n)) (sym one) (bind_from (line + suc n) others (λ x. Ok (r ∷ x.0, x.1)) h (λ x. tt))

-- all of a list, or not
few_or_all : (n count : ℕ) → (n ≤ count) ⊎ (count + 1 ≤ n)
few_or_all zero count = inl (omega arith)
few_or_all (suc n) zero = inr (omega arith)
few_or_all (suc n) (suc count) = go (few_or_all n count)
  where
    go : (n ≤ count) ⊎ (count + 1 ≤ n) → (suc n ≤ suc count) ⊎ (suc count + 1 ≤ suc n)
    go (inl le) = inl (omega arith)
    go (inr le) = inr (omega arith)

-- what follows the count, where some lines of it are there, or all
abbrev tail_of : (rs : List Run) → (lines : ℕ) → List ℕ → List ℕ
tail_of rs lines rest = flat_map ended (take lines (map entry_text rs ++ codes "source" ∷ [])) ++ rest

tail_few : (form : Form) (turns count : ℕ) (rs : List Run) (lines : ℕ) (rest : List ℕ) → AreBehind (none_before form) rs → length rs ≤ count → lines ≤ length rs
    → IsFrom (lines + 4) (behind_count form turns (count, tail_of rs lines rest))
tail_few form turns count rs lines rest fits told few =
    let text = tail_of rs lines rest in
    bind_from (lines + 4) (entries_at (none_before form) count 4 text) (behind_entries turns count)
    (later (4 + lines) (lines + 4) (entries_at (none_before form) count 4 text) (omega arith) (entries_partly (none_before form) rs count 4 lines (codes "source") rest fits few told))
    (λ entries. later (count + 4) (lines + 4) (behind_entries turns count entries) (omega (arith, few, told)) (source_from turns count entries))

tail_all : (form : Form) (turns : ℕ) (rs : List Run) (lines : ℕ) (rest : List ℕ) → AreBehind (none_before form) rs → length rs + 1 ≤ lines
    → IsFrom (lines + 4) (behind_count form turns (length rs, tail_of rs lines rest))
tail_all form turns rs lines rest fits all =
    let many : length (map entry_text rs ++ codes "source" ∷ []) ≤ lines = omega (arith, all, length_push (map entry_text rs) (codes "source"), length-map rs entry_text) in
    subst (IsFrom (lines + 4))
    (sym (ap (λ (ls : List (List ℕ)). behind_count form turns (length rs, flat_map ended ls ++ rest)) (take_all lines (map entry_text rs ++ codes "source" ∷ []) many) ∙ past_last form turns rs rest fits))
    tt

tail_past : (form : Form) (turns count : ℕ) (rs : List Run) (lines : ℕ) (rest : List ℕ) → AreBehind (none_before form) rs → length rs ≤ count → (lines + 3 ≤ length rs + 3) ⊎ (length rs ≡ count)
    → IsFrom (lines + 4) (behind_count form turns (count, tail_of rs lines rest))
tail_past form turns count rs lines rest fits told whole = go (few_or_all lines (length rs)) whole
  where
    go : (lines ≤ length rs) ⊎ (length rs + 1 ≤ lines) → (lines + 3 ≤ length rs + 3) ⊎ (length rs ≡ count) → IsFrom (lines + 4) (behind_count form turns (count, tail_of rs lines rest))
    go (inl few) all = tail_few form turns count rs lines rest fits told few
    go (inr more) (inl few) = absurd (omega (arith, more, few))
    go (inr more) (inr same) = subst (λ (n : ℕ). IsFrom (lines + 4) (behind_count form turns (n, tail_of rs lines rest))) same (tail_all form turns rs lines rest fits more)

past : (form : Form) (t : Trace) (count lines : ℕ) (rest : List ℕ) → IsTrace t → AreOf form None t.entries → count ≤ 1000000001 → length t.entries ≤ count → (lines ≤ length t.entries + 3) ⊎ (length t.entries ≡ count)
    → IsFrom (lines + 1) (trace_of (flat_map ended (take lines (lines_telling count form t)) ++ rest))
past form t count zero rest h of_form few told whole = later 1 (zero + 1) (trace_of rest) (omega arith) (trace_from rest)
past form t count (suc zero) rest h of_form few told whole =
    subst (IsFrom (suc zero + 1)) (sym (ap trace_of (one_line (first_line form) [] rest) ∙ past_head form rest))
    (later 2 (suc zero + 1) (behind_head (form, rest)) (omega arith) (head_from (form, rest)))
past form t count (suc (suc zero)) rest h of_form few told whole =
    let after : List ℕ = ended (codes "turns " ++ decimal t.turns) ++ rest in
    subst (IsFrom (suc (suc zero) + 1))
    (sym (ap trace_of (one_line (first_line form) ((codes "turns " ++ decimal t.turns) ∷ []) rest ∙ ap (λ (r : List ℕ). ended (first_line form) ++ r) (one_line (codes "turns " ++ decimal t.turns) [] rest))
    ∙ past_head form after ∙ past_turns form t.turns rest h.some_turns h.few_turns))
    (later 3 (suc (suc zero) + 1) (behind_turns form (t.turns, rest)) (omega arith) (turns_from form (t.turns, rest)))
past form t count (suc (suc (suc n))) rest h of_form few told whole =
    let lines : List (List ℕ) = take n (map entry_text t.entries ++ codes "source" ∷ []) in
    subst (IsFrom (suc (suc (suc n)) + 1)) (sym (past_three form t.turns count lines rest h.some_turns h.few_turns few))
    (later (n + 4) (suc (suc (suc n)) + 1) (behind_count form t.turns (count, flat_map ended lines ++ rest)) (omega arith)
    (tail_past form t.turns count t.entries n rest (trace_entries form t h of_form) told (within whole)))
  where
    within : (suc (suc (suc n)) ≤ length t.entries + 3) ⊎ (length t.entries ≡ count) → (n + 3 ≤ length t.entries + 3) ⊎ (length t.entries ≡ count)
    within (inl le) = inl (omega (arith, le))
    within (inr same) = inr same

-- with a malformed line more they begin none
begun_past : (bytes : List ℕ) (lines : ℕ) → BeginsTrace bytes lines → IsFrom (lines + 1) (trace_of bytes)
begun_past bytes lines b = subst (λ (bs : List ℕ). IsFrom (lines + 1) (trace_of bs)) (sym b.parts) (past b.form b.trace b.count lines b.rest b.is_trace b.of_form b.few b.told b.whole)

-- ---- the lines before it are there

pub record BeginsBefore (bytes : List ℕ) (line : ℕ) : Type 0 where
  pub before : ℕ
  pub next : before + 1 ≡ line
  pub begun : BeginsTrace bytes before

-- a trace without entries and program
abbrev bare : (turns : ℕ) → Trace
bare turns = record { turns = turns; entries = []; source = [] }

bare_is_trace : (turns : ℕ) → 1 ≤ turns → turns ≤ 1000000000 → IsTrace (bare turns)
bare_is_trace turns low high = record { some_turns = low; few_turns = high; few_entries = omega arith; entries = All-nil IsEntry }

-- lines before the third, of a trace without entries
begun_few : (bytes : List ℕ) (form : Form) (turns lines : ℕ) (rest : List ℕ) → 1 ≤ turns → turns ≤ 1000000000 → bytes ≡ flat_map ended (take lines (lines_telling 0 form (bare turns))) ++ rest → BeginsTrace bytes lines
begun_few bytes form turns lines rest low high parts = record {
  form = form;
  trace = bare turns;
  count = 0;
  rest = rest;
  is_trace = bare_is_trace turns low high;
  of_form = tt;
  few = omega arith;
  told = omega arith;
  whole = inr refl;
  parts = parts;
}

front_lines : (rs : List Run) (lines : List (List ℕ)) → take (length rs) (map entry_text rs ++ lines) ≡ map entry_text rs
front_lines [] lines = refl
front_lines (r ∷ rs) lines = ap (λ (ls : List (List ℕ)). entry_text r ∷ ls) (front_lines rs lines)

-- the first bytes are these lines
abbrev all_three : Form → (turns count : ℕ) → List ℕ → List ℕ
all_three form turns count rest = ended (first_line form) ++ (ended (codes "turns " ++ decimal turns) ++ (ended (count_word form ++ decimal count) ++ rest))

-- the first three lines, and some entries
begun_entries : (bytes : List ℕ) (form : Form) (turns count : ℕ) (rs : List Run) (rest : List ℕ) → 1 ≤ turns → turns ≤ 1000000000 → count ≤ 1000000001 → length rs ≤ count → AreBehind (none_before form) rs
    → bytes ≡ all_three form turns count (flat_map entry_line rs ++ rest) → BeginsTrace bytes (suc (suc (suc (length rs))))
begun_entries bytes form turns count rs rest low high most few fits found =
    let they = ranges_of (none_before form) rs fits in
    record {
      form = form;
      trace = record { turns = turns; entries = rs; source = [] };
      count = count;
      rest = rest;
      is_trace = trace_by form (record { turns = turns; entries = rs; source = [] }) low high they;
      of_form = they.of_form;
      few = most;
      told = few;
      whole = inl (omega arith);
      parts =
          found
          ∙ ap (λ (r : List ℕ). all_three form turns count (r ++ rest)) (sym (entry_lines rs))
          ∙ sym (three_lines (first_line form) (codes "turns " ++ decimal turns) (count_word form ++ decimal count) (map entry_text rs) rest)
          ∙ ap (λ (ls : List (List ℕ)). flat_map ended (first_line form ∷ (codes "turns " ++ decimal turns) ∷ (count_word form ++ decimal count) ∷ ls) ++ rest) (sym (front_lines rs (codes "source" ∷ [])));
    }

-- a step fails by its own, or behind it
err_by : {A B : Type 0} {C : Type 0} (r : Result A ℕ) (f : A → Result B ℕ) (at : ℕ) → (r >>= f) ≡ Err at → (r ≡ Err at → C) → ((x : A) → r ≡ Ok x → f x ≡ Err at → C) → C
err_by (Ok x) f at e stops goes = goes x refl e
err_by (Err d) f at e stops goes = stops (cc e)

line_err : {X : Type 0} (form : List ℕ → Option X) (line : ℕ) (bytes : List ℕ) (at : ℕ) → line_by form line bytes ≡ Err at → line ≡ at
line_err {X = X} form line bytes at e = go (cut_at 10 bytes) e
  where
    told : (rest : List ℕ) (o : Option X) → formed line rest o ≡ Err at → line ≡ at
    told rest None e = cc e
    told rest (Some x) e = absurd (cc e)

    go : (o : Option (List ℕ × List ℕ)) → line_in form line o ≡ Err at → line ≡ at
    go None e = cc e
    go (Some p) e = told p.1 (form p.0) e

fixed_err : (text : List ℕ) (line : ℕ) (bytes : List ℕ) (at : ℕ) → fixed_at text line bytes ≡ Err at → line ≡ at
fixed_err text line bytes at e = line_err (λ t. cond (bytes_eq t text) (Some t) None) line bytes at e

-- the entries before the one that failed
pub record IsStopped (before : Before) (count line : ℕ) (bytes : List ℕ) (at : ℕ) : Type 0 where
  pub entries : List Run
  pub rest : List ℕ
  pub parts : bytes ≡ flat_map entry_line entries ++ rest
  pub few : length entries < count
  pub fits : AreBehind before entries
  pub line_is : line + length entries ≡ at

entries_err : (before : Before) (count line : ℕ) (bytes : List ℕ) (at : ℕ) → entries_at before count line bytes ≡ Err at → IsStopped before count line bytes at
unfolding entries_at
entries_err before zero line bytes at e = absurd (cc e)
entries_err before (suc n) line bytes at e =
    err_by {C = IsStopped before (suc n) line bytes at} (line_by (entry_behind before) line bytes) (λ first. entries_at (with_entry before first.0) n (line + 1) first.1 >>= λ others. Ok (first.0 ∷ others.0, others.1)) at e
    (λ stops. record { entries = []; rest = bytes; parts = refl; few = omega arith; fits = tt; line_is = omega (arith, line_err (entry_behind before) line bytes at stops) })
    (λ x is e. err_by {C = IsStopped before (suc n) line bytes at} (entries_at (with_entry before x.0) n (line + 1) x.1) (λ others. Ok (x.0 ∷ others.0, others.1)) at e
    (λ stops.
    let first = entry_line_found before line bytes x is in
    let s = entries_err (with_entry before x.0) n (line + 1) x.1 at stops in
    record {
      entries = x.0 ∷ s.entries;
      rest = s.rest;
      parts =
          first.0 ∙ ap (λ (r : List ℕ). entry_line x.0 ++ r) s.parts ∙ sym (append_assoc (entry_line x.0) (flat_map entry_line s.entries) s.rest)
          ∙ ap (λ (r : List ℕ). r ++ s.rest) (sym (flat_map-cons entry_line x.0 s.entries));
      few = omega (arith, s.few);
      fits = (first.1, s.fits);
      line_is = omega (arith, s.line_is);
    })
    (λ y is e. absurd (cc e)))

stopped_at_source : (bytes : List ℕ) (form : Form) (turns count : ℕ) (rest : List ℕ) (x : List Run × List ℕ) (at : ℕ) → 1 ≤ turns → turns ≤ 1000000000 → count ≤ 1000000001
    → bytes ≡ all_three form turns count rest → entries_at (none_before form) count 4 rest ≡ Ok x → behind_entries turns count x ≡ Err at → BeginsBefore bytes at
stopped_at_source bytes form turns count rest x at low high most found read e =
    let taken = entries_found (none_before form) count 4 rest x read in
    err_by {C = BeginsBefore bytes at} (fixed_at (codes "source") (count + 4) x.1) (behind_source turns x.0) at e
    (λ stops. record {
      before = suc (suc (suc (length x.0)));
      next = omega (arith, taken.counted, fixed_err (codes "source") (count + 4) x.1 at stops);
      begun = begun_entries bytes form turns count x.0 x.1 low high most (omega (arith, taken.counted)) taken.entries (found ∙ ap (all_three form turns count) taken.parts);
    })
    (λ y is e. absurd (cc e))

stopped_behind_count : (bytes : List ℕ) (form : Form) (turns count : ℕ) (rest : List ℕ) (at : ℕ) → 1 ≤ turns → turns ≤ 1000000000 → count ≤ 1000000001
    → bytes ≡ all_three form turns count rest → behind_count form turns (count, rest) ≡ Err at → BeginsBefore bytes at
stopped_behind_count bytes form turns count rest at low high most found e =
    err_by {C = BeginsBefore bytes at} (entries_at (none_before form) count 4 rest) (behind_entries turns count) at e
    (λ stops.
    let s = entries_err (none_before form) count 4 rest at stops in
    record {
      before = suc (suc (suc (length s.entries)));
      next = omega (arith, s.line_is);
      begun = begun_entries bytes form turns count s.entries s.rest low high most (omega (arith, s.few)) s.fits (found ∙ ap (all_three form turns count) s.parts);
    })
    (λ x is e. stopped_at_source bytes form turns count rest x at low high most found is e)

stopped_behind_turns : (bytes : List ℕ) (form : Form) (turns : ℕ) (rest : List ℕ) (at : ℕ) → 1 ≤ turns → turns ≤ 1000000000 → bytes ≡ ended (first_line form) ++ (ended (codes "turns " ++ decimal turns) ++ rest)
    → behind_turns form (turns, rest) ≡ Err at → BeginsBefore bytes at
stopped_behind_turns bytes form turns rest at low high found e =
    err_by {C = BeginsBefore bytes at} (number_at (count_word form) 0 1000000001 3 rest) (behind_count form turns) at e
    (λ stops. record {
      before = suc (suc zero);
      next = omega (arith, line_err (number_behind (count_word form) 0 1000000001) 3 rest at stops);
      begun = begun_few bytes form turns (suc (suc zero)) rest low high
          (found ∙ sym (one_line (first_line form) ((codes "turns " ++ decimal turns) ∷ []) rest ∙ ap (λ (r : List ℕ). ended (first_line form) ++ r) (one_line (codes "turns " ++ decimal turns) [] rest)));
    })
    (λ x is e.
    let count = number_at_found (count_word form) 0 1000000001 3 rest x is in
    stopped_behind_count bytes form turns x.0 x.1 at low high count.1.most (found ∙ ap (λ (r : List ℕ). ended (first_line form) ++ (ended (codes "turns " ++ decimal turns) ++ r)) count.0) e)

stopped_behind_head : (bytes : List ℕ) (form : Form) (rest : List ℕ) (at : ℕ) → bytes ≡ ended (first_line form) ++ rest → behind_head (form, rest) ≡ Err at → BeginsBefore bytes at
stopped_behind_head bytes form rest at found e =
    err_by {C = BeginsBefore bytes at} (number_at (codes "turns ") 1 1000000000 2 rest) (behind_turns form) at e
    (λ stops. record {
      before = suc zero;
      next = omega (arith, line_err (number_behind (codes "turns ") 1 1000000000) 2 rest at stops);
      begun = begun_few bytes form 1 (suc zero) rest (omega arith) (omega arith) (found ∙ sym (one_line (first_line form) [] rest));
    })
    (λ x is e.
    let turns = number_at_found (codes "turns ") 1 1000000000 2 rest x is in
    stopped_behind_turns bytes form x.0 x.1 at turns.1.least turns.1.most (found ∙ ap (λ (r : List ℕ). ended (first_line form) ++ r) turns.0) e)

begun_before : (bytes : List ℕ) (at : ℕ) → trace_of bytes ≡ Err at → BeginsBefore bytes at
unfolding trace_of
begun_before bytes at e =
    err_by {C = BeginsBefore bytes at} (line_by form_of 1 bytes) behind_head at e
    (λ stops. record {
      before = zero;
      next = omega (arith, line_err form_of 1 bytes at stops);
      begun = begun_few bytes forms.Two 1 zero bytes (omega arith) (omega arith) refl;
    })
    (λ a is e. stopped_behind_head bytes a.0 a.1 at (form_line_found 1 bytes a is) e)

not_from : (at : ℕ) (r : Result Trace ℕ) → r ≡ Err at → IsFrom (at + 1) r → ⊥
not_from at r e h = go (subst (IsFrom (at + 1)) e h)
  where
    go : at + 1 ≤ at → ⊥
    go le = omega arith

pub first_malformed : (bytes : List ℕ) (at : ℕ) → trace_of bytes ≡ Err at → IsFirstMalformed bytes at
first_malformed bytes at e =
    let b = begun_before bytes at e in
    record {
      before = b.before;
      next = b.next;
      begun = b.begun;
      malformed = λ begun. not_from at (trace_of bytes) e (begun_past bytes at begun);
    }

pub cause_is : (bytes : List ℕ) (r : Result Trace TraceFail) → Gives (λ (t : Trace). t) r (trace_of bytes) → IfErr r (IsCause bytes)
cause_is bytes (Ok t) given = tt
cause_is bytes (Err (fails.Malformed line)) given = first_malformed bytes line.0 given
cause_is bytes (Err fails.NoMemory) given = tt

pub whole_is : (bytes : List ℕ) (t : Trace) (r : Result Trace TraceFail) → IsTraceText bytes t → Gives (λ (t : Trace). t) r (trace_of bytes) → IsRead t r
whole_is bytes t (Ok u) h given = sym (ok_is t u (sym (text_again bytes t h) ∙ given))
whole_is bytes t (Err (fails.Malformed line)) h given =
    let e : Ok t ≡ Err line.0 = sym (text_again bytes t h) ∙ given in
    absurd (cc e)
whole_is bytes t (Err fails.NoMemory) h given = refl

-- ---- one answer

-- fewer lines are there too
fewer : (lines more : ℕ) (bytes : List ℕ) → lines ≤ more → BeginsTrace bytes more → BeginsTrace bytes lines
fewer lines more bytes le b =
    let all : List (List ℕ) = lines_telling b.count b.form b.trace in
    let first : List (List ℕ) = take more all in
    record {
      form = b.form;
      trace = b.trace;
      count = b.count;
      rest = flat_map ended (drop lines first) ++ b.rest;
      is_trace = b.is_trace;
      of_form = b.of_form;
      few = b.few;
      told = b.told;
      whole = within b.whole;
      parts =
          b.parts
          ∙ ap (λ (ls : List (List ℕ)). flat_map ended ls ++ b.rest) (sym (take-append-drop lines first))
          ∙ ap (λ (x : List ℕ). x ++ b.rest) (flat_map-append ended (take lines first) (drop lines first))
          ∙ append_assoc (flat_map ended (take lines first)) (flat_map ended (drop lines first)) b.rest
          ∙ ap (λ (ls : List (List ℕ)). flat_map ended ls ++ (flat_map ended (drop lines first) ++ b.rest)) (take-take lines more all le);
    }
  where
    within : (more ≤ length b.trace.entries + 3) ⊎ (length b.trace.entries ≡ b.count) → (lines ≤ length b.trace.entries + 3) ⊎ (length b.trace.entries ≡ b.count)
    within (inl few) = inl (omega (arith, few, le))
    within (inr same) = inr same

no_later : (bytes : List ℕ) (line other : ℕ) → IsFirstMalformed bytes line → IsFirstMalformed bytes other → line < other → ⊥
no_later bytes line other a b less = a.malformed (fewer line b.before bytes (omega (arith, b.next)) b.begun)

same_or_apart : (bytes : List ℕ) (line other : ℕ) → IsFirstMalformed bytes line → IsFirstMalformed bytes other → (line ≤ other) ⊎ (other + 1 ≤ line) → (other ≤ line) ⊎ (line + 1 ≤ other) → line ≡ other
same_or_apart bytes line other a b (inl le) (inl ge) = omega arith
same_or_apart bytes line other a b (inl le) (inr less) = absurd (no_later bytes line other a b (omega arith))
same_or_apart bytes line other a b (inr more) back = absurd (no_later bytes other line b a (omega arith))

pub one_first_line : (bytes : List ℕ) → HoldsAtMostOnce (IsFirstMalformed bytes)
one_first_line bytes = λ line other a b. same_or_apart bytes line other a b (few_or_all line other) (few_or_all other line)

text_begun : (form : Form) (t : Trace) (line : ℕ) → IsTrace t → AreOf form None t.entries → BeginsTrace (text_in form t) line
text_begun form t line h of_form =
    let all : List (List ℕ) = lines_telling (length t.entries) form t in
    record {
      form = form;
      trace = t;
      count = length t.entries;
      rest = flat_map ended (drop line all) ++ t.source;
      is_trace = h;
      of_form = of_form;
      few = few_lines form t.entries (trace_entries form t h of_form);
      told = up_to (length t.entries);
      whole = inr refl;
      parts =
          ap (λ (ls : List (List ℕ)). flat_map ended ls ++ t.source) (sym (take-append-drop line all))
          ∙ ap (λ (x : List ℕ). x ++ t.source) (flat_map-append ended (take line all) (drop line all))
          ∙ append_assoc (flat_map ended (take line all)) (flat_map ended (drop line all)) t.source;
    }

pub no_line_of_a_trace : (bytes : List ℕ) (t : Trace) → IsTraceText bytes t → (line : ℕ) → ¬ IsFirstMalformed bytes line
no_line_of_a_trace bytes t h line f = f.malformed (subst (λ (bs : List ℕ). BeginsTrace bs line) (sym h.3) (text_begun h.1 t line h.0 h.2))

pub one_trace_text : (bytes : List ℕ) → HoldsAtMostOnce (IsTraceText bytes)
one_trace_text bytes = λ t u a b. ok_is t u (sym (text_again bytes t a) ∙ text_again bytes u b)

pub either_way : (bytes : List ℕ) → ((t : Trace) × IsTraceText bytes t) ⊎ ((line : ℕ) × IsFirstMalformed bytes line)
either_way bytes = go (trace_of bytes) refl
  where
    go : (r : Result Trace ℕ) → trace_of bytes ≡ r → ((t : Trace) × IsTraceText bytes t) ⊎ ((line : ℕ) × IsFirstMalformed bytes line)
    go (Ok t) e = inl (t, trace_found bytes t e)
    go (Err line) e = inr (line, first_malformed bytes line e)

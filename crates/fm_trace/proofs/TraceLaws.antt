-- Whole traces: what is read of a text, and the text of what is read.
use Rattle.std.proofs.Common.{◌≡◌, ℕ, zero, suc, ◌+◌, ◌≤◌, List, [], ◌∷◌, ◌++◌, length, map, Result, Ok, Err, refl, ap, ap₂, subst, sym, ◌∙◌, append_assoc, arith}
use Rattle.std.specs.Prelude.{codes, None, IfOk}
use Rattle.std.specs.List.{flat_map}
use Rattle.std.specs.Fmt.{decimal}
use Rattle.std.proofs.lemmas.List.{append-nil}
use Rattle.std.proofs.lemmas.List.Concat.{flat_map-append, flat_map-cons}
use Rattle.std.proofs.lemmas.List.Folds.{flat_map-map}
use Rattle.fm_base.specs.declared.schedule.Turn.{Turn}
use Rattle.fm_trace.specs.declared.fail.TraceFail.{TraceFail}
use Rattle.fm_trace.specs.declared.lines.Before.{Before}
use Rattle.fm_trace.specs.declared.trace.Form.{Form}
use Rattle.fm_trace.specs.declared.trace.Form.TheVariants as forms
use Rattle.fm_trace.specs.declared.trace.Run.{Run}
use Rattle.fm_trace.specs.declared.trace.Trace.{Trace}
use Rattle.fm_trace.specs.Texts.{count_word, ended, entry_text, first_line, runs_of, text_in, trace_of_history, trace_text, AreOf, IsTrace, IsTraceText}
use Rattle.fm_trace.specs.Reading.{◌>>=◌, Gives, entries_at, entry_behind, fixed_at, form_of, line_by, none_before, number_at, trace_of, with_entry}
use Rattle.fm_trace.specs.Writing.{entry_line, head_text}
use Rattle.fm_trace.proofs.EntryLaws.{AreBehind, few_lines, ranges_of, trace_by, trace_entries}
use Rattle.fm_trace.proofs.LineLaws.{count_lacks, entry_line_again, entry_line_found, fixed_again, fixed_found, form_line_again, form_line_found, number_at_again, number_at_found}

-- the value of a step that did not fail
pub bind_ok : {A B : Type 0} (r : Result A ℕ) (f : A → Result B ℕ) (y : B) → (r >>= f) ≡ Ok y → (x : A) × (r ≡ Ok x) × (f x ≡ Ok y)
bind_ok (Ok x) f y e = (x, refl, e)
bind_ok (Err d) f y e = absurd (cc e)

pub ok_is : {A : Type 0} (x y : A) → ◌≡◌ {A = Result A ℕ} (Ok x) (Ok y) → x ≡ y
ok_is x y e = cc e

pub record AreTaken (before : Before) (count : ℕ) (bytes : List ℕ) (x : List Run × List ℕ) : Type 0 where
  pub parts : bytes ≡ flat_map entry_line x.0 ++ x.1
  pub counted : length x.0 ≡ count
  pub entries : AreBehind before x.0

pub entries_found : (before : Before) (count line : ℕ) (bytes : List ℕ) (x : List Run × List ℕ) → entries_at before count line bytes ≡ Ok x → AreTaken before count bytes x
unfolding entries_at
entries_found before zero line bytes x e = subst (AreTaken before 0 bytes) (ok_is ([], bytes) x e) (record { parts = refl; counted = refl; entries = tt })
entries_found before (suc n) line bytes x e =
    let a = bind_ok (line_by (entry_behind before) line bytes) (λ first. entries_at (with_entry before first.0) n (line + 1) first.1 >>= λ others. Ok (first.0 ∷ others.0, others.1)) x e in
    let b = bind_ok (entries_at (with_entry before a.0.0) n (line + 1) a.0.1) (λ others. Ok (a.0.0 ∷ others.0, others.1)) x a.2 in
    let first = entry_line_found before line bytes a.0 a.1 in
    let rest = entries_found (with_entry before a.0.0) n (line + 1) a.0.1 b.0 b.1 in
    subst (AreTaken before (suc n) bytes) (ok_is (a.0.0 ∷ b.0.0, b.0.1) x b.2)
    (record {
      parts =
          first.0 ∙ ap (λ (r : List ℕ). entry_line a.0.0 ++ r) rest.parts ∙ sym (append_assoc (entry_line a.0.0) (flat_map entry_line b.0.0) b.0.1)
          ∙ ap (λ (r : List ℕ). r ++ b.0.1) (sym (flat_map-cons entry_line a.0.0 b.0.0));
      counted = ap suc rest.counted;
      entries = (first.1, rest.entries);
    })

entries_again : (before : Before) (rs : List Run) (line : ℕ) (rest : List ℕ) → AreBehind before rs → entries_at before (length rs) line (flat_map entry_line rs ++ rest) ≡ Ok (rs, rest)
unfolding entries_at
entries_again before [] line rest fits = refl
entries_again before (r ∷ rs) line rest fits =
    let regrouped : flat_map entry_line (r ∷ rs) ++ rest ≡ entry_line r ++ (flat_map entry_line rs ++ rest) = ap (λ (x : List ℕ). x ++ rest) (flat_map-cons entry_line r rs) ∙ append_assoc (entry_line r) (flat_map entry_line rs) rest in
    ap (entries_at before (suc (length rs)) line) regrouped ∙ rw (entry_line_again before line r (flat_map entry_line rs ++ rest) fits.0, entries_again (with_entry before r) rs (line + 1) rest fits.1) refl

-- ---- what follows each part

abbrev pub behind_source : (turns : ℕ) → List Run → List ℕ × List ℕ → Result Trace ℕ
behind_source turns entries source = Ok (record { turns = turns; entries = entries; source = source.1 })

abbrev pub behind_entries : (turns count : ℕ) → List Run × List ℕ → Result Trace ℕ
behind_entries turns count entries = fixed_at (codes "source") (count + 4) entries.1 >>= behind_source turns entries.0

abbrev pub behind_count : Form → (turns : ℕ) → ℕ × List ℕ → Result Trace ℕ
behind_count form turns count = entries_at (none_before form) count.0 4 count.1 >>= behind_entries turns count.0

abbrev pub behind_turns : Form → ℕ × List ℕ → Result Trace ℕ
behind_turns form turns = number_at (count_word form) 0 1000000001 3 turns.1 >>= behind_count form turns.0

abbrev pub behind_head : Form × List ℕ → Result Trace ℕ
behind_head head = number_at (codes "turns ") 1 1000000000 2 head.1 >>= behind_turns head.0

pub past_head : (form : Form) (rest : List ℕ) → trace_of (ended (first_line form) ++ rest) ≡ behind_head (form, rest)
unfolding trace_of
past_head form rest = ap (λ (r : Result (Form × List ℕ) ℕ). r >>= behind_head) (form_line_again form 1 rest)

pub past_turns : (form : Form) (turns : ℕ) (rest : List ℕ) → 1 ≤ turns → turns ≤ 1000000000 → behind_head (form, ended (codes "turns " ++ decimal turns) ++ rest) ≡ behind_turns form (turns, rest)
past_turns form turns rest low high =
    ap (λ (r : Result (ℕ × List ℕ) ℕ). r >>= behind_turns form) (number_at_again (codes "turns ") 1 1000000000 2 turns rest refl (record { least = low; most = high }) (omega arith))

pub past_count : (form : Form) (turns count : ℕ) (rest : List ℕ) → count ≤ 1000000001 → behind_turns form (turns, ended (count_word form ++ decimal count) ++ rest) ≡ behind_count form turns (count, rest)
past_count form turns count rest high =
    ap (λ (r : Result (ℕ × List ℕ) ℕ). r >>= behind_count form turns) (number_at_again (count_word form) 0 1000000001 3 count rest (count_lacks form) (record { least = omega arith; most = high }) (omega arith))

-- ---- the text by its parts

-- a line, and what is behind it
pub one_line : (line : List ℕ) (lines : List (List ℕ)) (rest : List ℕ) → flat_map ended (line ∷ lines) ++ rest ≡ ended line ++ (flat_map ended lines ++ rest)
one_line line lines rest = append_assoc (ended line) (flat_map ended lines) rest

pub three_lines : (a b c : List ℕ) (lines : List (List ℕ)) (rest : List ℕ) → flat_map ended (a ∷ b ∷ c ∷ lines) ++ rest ≡ ended a ++ (ended b ++ (ended c ++ (flat_map ended lines ++ rest)))
three_lines a b c lines rest =
    one_line a (b ∷ c ∷ lines) rest
    ∙ ap (λ (r : List ℕ). ended a ++ r) (one_line b (c ∷ lines) rest ∙ ap (λ (r : List ℕ). ended b ++ r) (one_line c lines rest))

pub entry_lines : (rs : List Run) → flat_map ended (map entry_text rs) ≡ flat_map entry_line rs
entry_lines rs = flat_map-map ended entry_text rs

pub last_lines : (rs : List Run) (word rest : List ℕ) → flat_map ended (map entry_text rs ++ word ∷ []) ++ rest ≡ flat_map entry_line rs ++ (ended word ++ rest)
last_lines rs word rest =
    ap (λ (x : List ℕ). x ++ rest) (flat_map-append ended (map entry_text rs) (word ∷ []) ∙ ap₂ (λ (x y : List ℕ). x ++ y) (entry_lines rs) (append-nil (ended word)))
    ∙ append_assoc (flat_map entry_line rs) (ended word) rest

abbrev parts_text : Form → (turns count : ℕ) → (entries source : List ℕ) → List ℕ
parts_text form turns count entries source =
    ended (first_line form) ++ (ended (codes "turns " ++ decimal turns) ++ (ended (count_word form ++ decimal count) ++ (entries ++ (ended (codes "source") ++ source))))

text_parts : (form : Form) (t : Trace) → text_in form t ≡ parts_text form t.turns (length t.entries) (flat_map entry_line t.entries) t.source
text_parts form t =
    three_lines (first_line form) (codes "turns " ++ decimal t.turns) (count_word form ++ decimal (length t.entries)) (map entry_text t.entries ++ codes "source" ∷ []) t.source
    ∙ ap (λ (r : List ℕ). ended (first_line form) ++ (ended (codes "turns " ++ decimal t.turns) ++ (ended (count_word form ++ decimal (length t.entries)) ++ r)))
    (last_lines t.entries (codes "source") t.source)

-- five parts, one behind the other
parts_found : (form : Form) (t : Trace) (count : ℕ) (bytes a b c d : List ℕ) → bytes ≡ ended (first_line form) ++ a → a ≡ ended (codes "turns " ++ decimal t.turns) ++ b
    → b ≡ ended (count_word form ++ decimal count) ++ c → c ≡ flat_map entry_line t.entries ++ d → d ≡ ended (codes "source") ++ t.source → length t.entries ≡ count
    → bytes ≡ text_in form t
parts_found form t count bytes a b c d first second third fourth fifth counted =
    first ∙ ap (λ (r : List ℕ). ended (first_line form) ++ r)
    (second ∙ ap (λ (r : List ℕ). ended (codes "turns " ++ decimal t.turns) ++ r)
    (third ∙ ap₂ (λ (k : ℕ) (r : List ℕ). ended (count_word form ++ decimal k) ++ r) (sym counted) (fourth ∙ ap (λ (r : List ℕ). flat_map entry_line t.entries ++ r) fifth)))
    ∙ sym (text_parts form t)

-- ---- both ways

is_text : (bytes : List ℕ) (t u : Trace) → ◌≡◌ {A = Result Trace ℕ} (Ok t) (Ok u) → IsTraceText bytes t → IsTraceText bytes u
is_text bytes t u same h = subst (IsTraceText bytes) (ok_is t u same) h

pub trace_found : (bytes : List ℕ) (t : Trace) → trace_of bytes ≡ Ok t → IsTraceText bytes t
unfolding trace_of
trace_found bytes t e =
    let a = bind_ok (line_by form_of 1 bytes) behind_head t e in
    let b = bind_ok (number_at (codes "turns ") 1 1000000000 2 a.0.1) (behind_turns a.0.0) t a.2 in
    let c = bind_ok (number_at (count_word a.0.0) 0 1000000001 3 b.0.1) (behind_count a.0.0 b.0.0) t b.2 in
    let d = bind_ok (entries_at (none_before a.0.0) c.0.0 4 c.0.1) (behind_entries b.0.0 c.0.0) t c.2 in
    let s = bind_ok (fixed_at (codes "source") (c.0.0 + 4) d.0.1) (behind_source b.0.0 d.0.0) t d.2 in
    let head = form_line_found 1 bytes a.0 a.1 in
    let turns = number_at_found (codes "turns ") 1 1000000000 2 a.0.1 b.0 b.1 in
    let count = number_at_found (count_word a.0.0) 0 1000000001 3 b.0.1 c.0 c.1 in
    let entries = entries_found (none_before a.0.0) c.0.0 4 c.0.1 d.0 d.1 in
    let source = fixed_found (codes "source") (c.0.0 + 4) d.0.1 s.0 s.1 in
    let they = ranges_of (none_before a.0.0) d.0.0 entries.entries in
    is_text bytes (record { turns = b.0.0; entries = d.0.0; source = s.0.1 }) t s.2 (
      trace_by a.0.0 (record { turns = b.0.0; entries = d.0.0; source = s.0.1 }) turns.1.least turns.1.most they,
      a.0.0,
      they.of_form,
      parts_found a.0.0 (record { turns = b.0.0; entries = d.0.0; source = s.0.1 }) c.0.0 bytes a.0.1 b.0.1 c.0.1 d.0.1 head turns.0 count.0 entries.parts source entries.counted,
    )

-- behind its first three lines
pub past_three : (form : Form) (turns count : ℕ) (lines : List (List ℕ)) (rest : List ℕ) → 1 ≤ turns → turns ≤ 1000000000 → count ≤ 1000000001
    → trace_of (flat_map ended (first_line form ∷ (codes "turns " ++ decimal turns) ∷ (count_word form ++ decimal count) ∷ lines) ++ rest)
    ≡ behind_count form turns (count, flat_map ended lines ++ rest)
past_three form turns count lines rest low high few =
    let after : List ℕ = flat_map ended lines ++ rest in
    let counted : List ℕ = ended (count_word form ++ decimal count) ++ after in
    ap trace_of (three_lines (first_line form) (codes "turns " ++ decimal turns) (count_word form ++ decimal count) lines rest)
    ∙ past_head form (ended (codes "turns " ++ decimal turns) ++ counted)
    ∙ past_turns form turns counted low high
    ∙ past_count form turns count after few

-- behind its count, where all that follows is there
pub past_last : (form : Form) (turns : ℕ) (rs : List Run) (rest : List ℕ) → AreBehind (none_before form) rs
    → behind_count form turns (length rs, flat_map ended (map entry_text rs ++ codes "source" ∷ []) ++ rest) ≡ Ok (record { turns = turns; entries = rs; source = rest })
past_last form turns rs rest fits =
    ap (λ (r : List ℕ). behind_count form turns (length rs, r)) (last_lines rs (codes "source") rest)
    ∙ ap (λ (r : Result (List Run × List ℕ) ℕ). r >>= behind_entries turns (length rs)) (entries_again (none_before form) rs 4 (ended (codes "source") ++ rest) fits)
    ∙ ap (λ (r : Result (List ℕ × List ℕ) ℕ). r >>= behind_source turns rs) (fixed_again (codes "source") (length rs + 4) rest refl)

pub trace_again : (form : Form) (t : Trace) → IsTrace t → AreOf form None t.entries → trace_of (text_in form t) ≡ Ok t
trace_again form t h of_form =
    let fits = trace_entries form t h of_form in
    past_three form t.turns (length t.entries) (map entry_text t.entries ++ codes "source" ∷ []) t.source h.some_turns h.few_turns (few_lines form t.entries fits)
    ∙ past_last form t.turns t.entries t.source fits

-- of the text of a trace, that one
pub text_again : (bytes : List ℕ) (t : Trace) → IsTraceText bytes t → trace_of bytes ≡ Ok t
text_again bytes t h = ap trace_of h.3 ∙ trace_again h.1 t h.0 h.2

pub is_found : (bytes : List ℕ) (r : Result Trace TraceFail) → Gives (λ (t : Trace). t) r (trace_of bytes) → IfOk r (IsTraceText bytes)
is_found bytes (Ok t) given = trace_found bytes t given
is_found bytes (Err e) given = tt

-- ---- writing

head_then : (turns count : ℕ) (rest : List ℕ) → head_text turns count ++ rest ≡ ended (first_line forms.Two) ++ (ended (codes "turns " ++ decimal turns) ++ (ended (count_word forms.Two ++ decimal count) ++ rest))
head_then turns count rest =
    ap (λ (r : List ℕ). codes "fmc trace 2\nturns " ++ r)
    (append_assoc (decimal turns) (codes "\nlines " ++ (decimal count ++ codes "\n")) rest ∙ sym (append_assoc (decimal turns) (10 ∷ []) (ended (count_word forms.Two ++ decimal count) ++ rest)))

pub written : (turns count : ℕ) (ts : List Turn) (source empty a b c d : List ℕ) → count ≡ length (runs_of ts) → empty ≡ [] → a ≡ empty ++ head_text turns count → b ≡ a ++ flat_map entry_line (runs_of ts) → c ≡ b ++ ended (codes "source")
    → d ≡ c ++ source → d ≡ trace_text (trace_of_history turns ts source)
written turns count ts source empty a b c d counted none first second third fourth =
    let h = head_text turns count in
    let e = flat_map entry_line (runs_of ts) in
    let tail : List ℕ = ended (codes "source") ++ source in
    let start : a ≡ h = first ∙ ap (λ (v : List ℕ). v ++ h) none in
    let one : d ≡ h ++ (e ++ tail) =
    fourth ∙ ap (λ (v : List ℕ). v ++ source) (third ∙ ap (λ (v : List ℕ). v ++ ended (codes "source")) (second ∙ ap (λ (v : List ℕ). v ++ e) start))
    ∙ append_assoc (h ++ e) (ended (codes "source")) source ∙ append_assoc h e tail in
    one ∙ head_then turns count (e ++ tail)
    ∙ ap (λ (k : ℕ). parts_text forms.Two turns k e source) counted
    ∙ sym (text_parts forms.Two (trace_of_history turns ts source))

-- What the reader's own functions give: a line, by its form, and what is behind it; or the line's number.
-- What `read` promises of them stands in Texts.
-- Source: this profile.
use Rattle.std.specs.Prelude.{◌≡◌, ℕ, zero, suc, ◌+◌, ◌-◌, Bool, ◌&&◌, ◌||◌, ◌==◌, not, cond, nat_le, nat_lt, List, [], ◌∷◌, length, take, drop, slice_index, Option, Some, None, option_map, option_and_then, Result, Ok, Err, codes}
use Rattle.std.specs.Char.{is_ascii_digit}
use Rattle.std.specs.List.{list_all}
use Rattle.std.specs.Str.{bytes_eq}
use Rattle.std.specs.Str.Parse.{digits_value}
use Rattle.fm_trace.specs.declared.fail.TraceFail.{TraceFail}
use Rattle.fm_trace.specs.declared.fail.TraceFail.TheVariants as fails
use Rattle.fm_trace.specs.declared.trace.Form.{Form}
use Rattle.fm_trace.specs.declared.trace.Form.TheVariants as forms
use Rattle.fm_trace.specs.declared.lines.Before.{Before}
use Rattle.fm_trace.specs.declared.trace.Run.{Run}
use Rattle.fm_trace.specs.declared.trace.Trace.{Trace}
use Rattle.fm_trace.specs.Texts.{count_word, first_line, may_follow}

-- ---- numbers

abbrev pub are_digits : List ℕ → Bool
are_digits text = list_all is_ascii_digit text

-- 1 to 10 digits without a leading zero
abbrev pub is_numeral : List ℕ → Bool
is_numeral text = nat_lt 0 (length text) && nat_le (length text) 10 && are_digits text && (not (slice_index text 0 == 48) || length text == 1)

abbrev pub is_within : (low high n : ℕ) → Bool
is_within low high n = nat_le low n && nat_le n high

-- the number that a text writes, where it's in a range
abbrev pub number_in : (low high : ℕ) → List ℕ → Option ℕ
number_in low high text = cond (is_numeral text && is_within low high (digits_value 10 text)) (Some (digits_value 10 text)) None

-- ---- forms of lines

-- what stands behind a front
abbrev pub behind : (front : List ℕ) → List ℕ → Option (List ℕ)
behind front text = cond (bytes_eq (take (length front) text) front) (Some (drop (length front) text)) None

-- a word and a number
abbrev pub number_behind : (word : List ℕ) → (low high : ℕ) → List ℕ → Option ℕ
number_behind word low high text = option_and_then (number_in low high) (behind word text)

-- the front up to the first of these bytes, and what is behind it
abbrev pub cut_at : ℕ → List ℕ → Option (List ℕ × List ℕ)
cut_at byte [] = None
cut_at byte (b ∷ bs) = cond (b == byte) (Some ([], bs)) (option_map (λ (p : List ℕ × List ℕ). (b ∷ p.0, p.1)) (cut_at byte bs))

-- steps, and times of two or more where they stand behind them
abbrev pub steps_of : List ℕ → Option (List ℕ × List ℕ) → Option (ℕ × ℕ)
steps_of text None = option_map (λ (k : ℕ). (k, 1)) (number_in 1 4294967295 text)
steps_of text (Some p) = option_and_then (λ (k : ℕ). option_map (λ (n : ℕ). (k, n)) (number_in 2 1000000001 p.1)) (number_in 1 4294967295 p.0)

abbrev pub run_of : Option ℕ → Option (ℕ × ℕ) → Option Run
run_of None steps = None
run_of (Some n) steps = option_map (λ (k : ℕ × ℕ). record { turn = record { number = n; steps = k.0 }; times = k.1 }) steps

-- two numbers with a blank between, and the times behind a blank
abbrev pub entry_of : List ℕ → Option Run
entry_of text = option_and_then (λ (p : List ℕ × List ℕ). run_of (number_in 0 4294967295 p.0) (steps_of p.1 (cut_at 32 p.1))) (cut_at 32 text)

-- whether an entry may stand behind those that were read: it isn't over what may come, and the form has a line for it
abbrev pub may_stand : Before → Run → Bool
may_stand before r = nat_le r.times before.room && may_follow before.form before.turn r

-- an entry that may stand there
abbrev pub entry_behind : Before → List ℕ → Option Run
entry_behind before text = option_and_then (λ (r : Run). cond (may_stand before r) (Some r) None) (entry_of text)

-- what stands before the next line
abbrev pub with_entry : Before → Run → Before
with_entry before r = record { form = before.form; turn = Some r.turn; room = before.room - r.times }

-- the form that a first line names
abbrev pub form_of : List ℕ → Option Form
form_of text = cond (bytes_eq text (first_line forms.One)) (Some forms.One) (cond (bytes_eq text (first_line forms.Two)) (Some forms.Two) None)

-- ---- lines

infixl 10 ◌>>=◌
abbrev pub ◌>>=◌ : {A B : Type 0} → Result A ℕ → (A → Result B ℕ) → Result B ℕ
(Ok x) >>= f = f x
(Err e) >>= f = Err e

-- a line of a form, or its number where it has another form
abbrev pub formed : {X : Type 0} → (line : ℕ) → (rest : List ℕ) → Option X → Result (X × List ℕ) ℕ
formed line rest None = Err line
formed line rest (Some x) = Ok (x, rest)

abbrev pub line_in : {X : Type 0} → (List ℕ → Option X) → (line : ℕ) → Option (List ℕ × List ℕ) → Result (X × List ℕ) ℕ
line_in form line None = Err line
line_in form line (Some p) = formed line p.1 (form p.0)

-- the first line by its form, and what is behind it
abbrev pub line_by : {X : Type 0} → (List ℕ → Option X) → (line : ℕ) → List ℕ → Result (X × List ℕ) ℕ
line_by form line bytes = line_in form line (cut_at 10 bytes)

-- a line of this text
abbrev pub fixed_at : (text : List ℕ) → (line : ℕ) → List ℕ → Result (List ℕ × List ℕ) ℕ
fixed_at text line bytes = line_by (λ t. cond (bytes_eq t text) (Some t) None) line bytes

-- a line of a word and a number
abbrev pub number_at : (word : List ℕ) → (low high line : ℕ) → List ℕ → Result (ℕ × List ℕ) ℕ
number_at word low high line bytes = line_by (number_behind word low high) line bytes

-- so many entries from a line on, behind others
unfoldable pub entries_at : (before : Before) → (count line : ℕ) → List ℕ → Result (List Run × List ℕ) ℕ
entries_at before zero line bytes = Ok ([], bytes)
entries_at before (suc n) line bytes = do
  first ← line_by (entry_behind before) line bytes
  others ← entries_at (with_entry before first.0) n (line + 1) first.1
  Ok (first.0 ∷ others.0, others.1)

-- before the first entry
abbrev pub none_before : Form → Before
none_before form = record { form = form; turn = None; room = 1000000001 }

-- all of the bytes
unfoldable pub trace_of : List ℕ → Result Trace ℕ
trace_of bytes = do
  head ← line_by form_of 1 bytes
  turns ← number_at (codes "turns ") 1 1000000000 2 head.1
  count ← number_at (count_word head.0) 0 1000000001 3 turns.1
  entries ← entries_at (none_before head.0) count.0 4 count.1
  source ← fixed_at (codes "source") (count.0 + 4) entries.1
  Ok (record { turns = turns.0; entries = entries.0; source = source.1 })

-- ---- what is answered

-- want of memory, or the line
abbrev pub Fails : {Y : Type 0} → TraceFail → Result Y ℕ → Type 0
Fails fails.NoMemory read = Unit {0}
Fails (fails.Malformed line) read = read ≡ Err line.0

-- what was answered, seen by a view, is what is read, unless memory ran out
abbrev pub Gives : {X Y : Type 0} → (X → Y) → Result X TraceFail → Result Y ℕ → Type 0
Gives view (Ok x) read = read ≡ Ok (view x)
Gives view (Err e) read = Fails e read

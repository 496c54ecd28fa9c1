-- What a trace is, the history that it stands for, its text in either form, and which line of other bytes is the first
-- that is malformed.
-- Source: this profile.
use Rattle.std.specs.Prelude.{◌≡◌, ℕ, suc, ◌+◌, ◌<◌, ◌≤◌, ◌^◌, ◌⊎◌, Bool, true, ◌==◌, ◌&&◌, not, cond, List, [], ◌∷◌, ◌++◌, length, map, take, replicate, Option, Some, None, Result, Ok, Err, codes}
use Rattle.std.specs.List.{flat_map, All}
use Rattle.std.specs.Fmt.{decimal}
use Rattle.fm_base.specs.declared.schedule.Turn.{Turn}
use Rattle.fm_trace.specs.declared.fail.TraceFail.{TraceFail}
use Rattle.fm_trace.specs.declared.fail.TraceFail.TheVariants as fails
use Rattle.fm_trace.specs.declared.trace.Form.{Form}
use Rattle.fm_trace.specs.declared.trace.Form.TheVariants as forms
use Rattle.fm_trace.specs.declared.trace.Run.{Run}
use Rattle.fm_trace.specs.declared.trace.Trace.{Trace}

-- ---- traces

-- a step or more, once or more, and all numbers in their ranges
pub record IsEntry (r : Run) : Type 0 where
  pub number : r.turn.number < 2 ^ 32
  pub some_steps : 1 ≤ r.turn.steps
  pub steps : r.turn.steps < 2 ^ 32
  pub some_times : 1 ≤ r.times
  pub times : r.times ≤ 1000000001

-- an entry as often as it comes
abbrev pub each_time : Run → List Turn
each_time r = replicate r.times r.turn

-- each entry as often as it comes
abbrev pub entries_of : List Run → List Turn
entries_of rs = flat_map each_time rs

-- the history that a trace stands for
abbrev pub history_of : Trace → List Turn
history_of t = entries_of t.entries

-- the ranges of a trace
pub record IsTrace (t : Trace) : Type 0 where
  pub some_turns : 1 ≤ t.turns
  pub few_turns : t.turns ≤ 1000000000
  pub few_entries : length (history_of t) ≤ 1000000001
  pub entries : All IsEntry t.entries

-- ---- what a form has a line for

-- the same process, and as many steps
abbrev pub same_turn : Turn → Turn → Bool
same_turn a b = a.number == b.number && a.steps == b.steps

-- whether a line may stand behind that of the entry before it: form 1 has a line for each time that an entry comes, and form 2 has one for
-- all that are the same in succession
abbrev pub may_follow : Form → Option Turn → Run → Bool
may_follow forms.One before r = r.times == 1
may_follow forms.Two None r = true
may_follow forms.Two (Some t) r = not (same_turn t r.turn)

-- each line may stand behind the one before it
abbrev pub AreOf : Form → Option Turn → List Run → Type 0
AreOf form before [] = Unit {0}
AreOf form before (r ∷ rs) = (may_follow form before r ≡ true) × AreOf form (Some r.turn) rs

-- ---- the trace of a history

-- an entry that comes once
abbrev pub once : Turn → Run
once t = record { turn = t; times = 1 }

-- an entry in front of others: it comes once more where the first of them is the same
abbrev pub in_front_of : List Run → Turn → List Run
in_front_of [] t = once t ∷ []
in_front_of (r ∷ rs) t = cond (same_turn t r.turn) (record { turn = t; times = suc r.times } ∷ rs) (once t ∷ r ∷ rs)

-- the entries of a history, those that are the same in succession together
abbrev pub runs_of : List Turn → List Run
runs_of [] = []
runs_of (t ∷ ts) = in_front_of (runs_of ts) t

-- the trace of a history, with the turns that bounded it and its program
abbrev pub trace_of_history : (turns : ℕ) → List Turn → (source : List ℕ) → Trace
trace_of_history turns history source = record { turns = turns; entries = runs_of history; source = source }

-- a history within the ranges of a trace
pub record IsTraceable (turns : ℕ) (history : List Turn) : Type 0 where
  pub some_turns : 1 ≤ turns
  pub few_turns : turns ≤ 1000000000
  pub few_entries : length history ≤ 1000000001
  pub some_steps : All (λ (t : Turn). 1 ≤ t.steps) history

-- ---- the text of a trace

-- a text with its line feed
abbrev pub ended : List ℕ → List ℕ
ended text = text ++ 10 ∷ []

-- how often an entry comes, unless it comes once
abbrev pub times_text : ℕ → List ℕ
times_text times = cond (times == 1) [] (32 ∷ decimal times)

-- the number of a process and its steps, with a blank between, and a blank and the times
abbrev pub entry_text : Run → List ℕ
entry_text r = decimal r.turn.number ++ 32 ∷ (decimal r.turn.steps ++ times_text r.times)

-- the line that names the form
abbrev pub first_line : Form → List ℕ
first_line forms.One = codes "fmc trace 1"
first_line forms.Two = codes "fmc trace 2"

-- the word before the count of the lines of entries
abbrev pub count_word : Form → List ℕ
count_word forms.One = codes "entries "
count_word forms.Two = codes "lines "

-- the lines before the program, where the third tells this count: the form, the turns, the count, each entry, and a word
abbrev pub lines_telling : (count : ℕ) → Form → Trace → List (List ℕ)
lines_telling count form t =
    first_line form
    ∷ (codes "turns " ++ decimal t.turns)
    ∷ (count_word form ++ decimal count)
    ∷ (map entry_text t.entries ++ codes "source" ∷ [])

-- the text in a form: its lines, with the count of those of entries, and then the program
abbrev pub text_in : Form → Trace → List ℕ
text_in form t = flat_map ended (lines_telling (length t.entries) form t) ++ t.source

-- the text that is written of a trace, in form 2
abbrev pub trace_text : Trace → List ℕ
trace_text t = text_in forms.Two t

-- the bytes are the text of this trace, in some form
abbrev pub IsTraceText : List ℕ → Trace → Type 0
IsTraceText bytes t = IsTrace t × (form : Form) × AreOf form None t.entries × (bytes ≡ text_in form t)

-- ---- malformed lines

-- the bytes begin with so many lines of some trace's text, or with all of them where there are fewer; of the entries that the third line
-- tells, those may lack that would stand behind these lines
pub record BeginsTrace (bytes : List ℕ) (lines : ℕ) : Type 0 where
  pub form : Form
  pub trace : Trace
  pub count : ℕ
  pub rest : List ℕ
  pub is_trace : IsTrace trace
  pub of_form : AreOf form None trace.entries
  pub few : count ≤ 1000000001
  pub told : length trace.entries ≤ count
  pub whole : (lines ≤ length trace.entries + 3) ⊎ (length trace.entries ≡ count)
  pub parts : bytes ≡ flat_map ended (take lines (lines_telling count form trace)) ++ rest

-- the lines before this one begin a trace's text, and with this one they begin none
pub record IsFirstMalformed (bytes : List ℕ) (line : ℕ) : Type 0 where
  pub before : ℕ
  pub next : before + 1 ≡ line
  pub begun : BeginsTrace bytes before
  pub malformed : ¬ BeginsTrace bytes line

-- ---- answers

-- why bytes were not read: their first malformed line, or want of memory
abbrev pub IsCause : List ℕ → TraceFail → Type 0
IsCause bytes (fails.Malformed line) = IsFirstMalformed bytes line.0
IsCause bytes fails.NoMemory = Unit {0}

-- this trace was read, unless memory ran out
abbrev pub IsRead : Trace → Result Trace TraceFail → Type 0
IsRead t (Ok u) = u ≡ t
IsRead t (Err e) = e ≡ fails.NoMemory

-- what it holds of is the same wherever it holds
abbrev pub HoldsAtMostOnce : {X : Type 0} → (X → Type 0) → Type 0
HoldsAtMostOnce {X} P = (x y : X) → P x → P y → x ≡ y

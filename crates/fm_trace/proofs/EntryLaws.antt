-- Entries one behind the other: what a reader asks of each, and what a trace asks of all.
use Rattle.std.proofs.Common.{◌≡◌, ℕ, ◌+◌, ◌≤◌, None, List, [], ◌∷◌, length, ap, ◌∙◌, arith}
use Rattle.std.specs.List.{flat_map, AllByRecursion}
use Rattle.std.proofs.lemmas.List.{length-append, length-replicate}
use Rattle.std.proofs.lemmas.List.Concat.{flat_map-cons}
use Rattle.std.proofs.lemmas.List.Elements.{All-from_recursion, recursion_from_All}
use Rattle.fm_trace.specs.declared.lines.Before.{Before}
use Rattle.fm_trace.specs.declared.trace.Form.{Form}
use Rattle.fm_trace.specs.declared.trace.Run.{Run}
use Rattle.fm_trace.specs.declared.trace.Trace.{Trace}
use Rattle.fm_trace.specs.Texts.{each_time, AreOf, IsEntry, IsTrace}
use Rattle.fm_trace.specs.Reading.{none_before, with_entry}
use Rattle.fm_trace.proofs.LineLaws.{MayStand}

-- each may stand behind those before it
abbrev pub AreBehind : Before → List Run → Type 0
AreBehind before [] = Unit {0}
AreBehind before (r ∷ rs) = MayStand before r × AreBehind (with_entry before r) rs

-- how many entries all lines stand for
abbrev pub total : List Run → ℕ
total rs = length (flat_map each_time rs)

pub total_cons : (r : Run) (rs : List Run) → total (r ∷ rs) ≡ r.times + total rs
total_cons r rs = ap length (flat_map-cons each_time r rs) ∙ length-append (each_time r) (flat_map each_time rs) ∙ ap (λ (n : ℕ). n + total rs) (length-replicate r.times r.turn)

pub record HaveRanges (before : Before) (rs : List Run) : Type 0 where
  pub entries : AllByRecursion IsEntry rs
  pub within : total rs ≤ before.room
  pub of_form : AreOf before.form before.turn rs

pub ranges_of : (before : Before) (rs : List Run) → AreBehind before rs → HaveRanges before rs
ranges_of before [] h = record { entries = tt; within = omega arith; of_form = tt }
ranges_of before (r ∷ rs) h =
    let k = ranges_of (with_entry before r) rs h.1 in
    let first = h.0.within in
    let others = k.within in
    record { entries = (h.0.entry, k.entries); within = omega (arith, total_cons r rs, first, others); of_form = (h.0.follows, k.of_form) }

pub by_ranges : (before : Before) (rs : List Run) → HaveRanges before rs → AreBehind before rs
by_ranges before [] h = tt
by_ranges before (r ∷ rs) h =
    let all = h.within in (
      record { entry = h.entries.0; within = omega (arith, total_cons r rs, all); follows = h.of_form.0 },
      by_ranges (with_entry before r) rs (record { entries = h.entries.1; within = omega (arith, total_cons r rs, all); of_form = h.of_form.1 }),
    )

-- the entries of a trace
pub trace_entries : (form : Form) (t : Trace) → IsTrace t → AreOf form None t.entries → AreBehind (none_before form) t.entries
trace_entries form t h of_form = by_ranges (none_before form) t.entries (record { entries = recursion_from_All IsEntry t.entries h.entries; within = h.few_entries; of_form = of_form })

-- with these turns they are a trace
pub trace_by : (form : Form) (t : Trace) → 1 ≤ t.turns → t.turns ≤ 1000000000 → HaveRanges (none_before form) t.entries → IsTrace t
trace_by form t low high k = record { some_turns = low; few_turns = high; few_entries = k.within; entries = All-from_recursion IsEntry t.entries k.entries }

-- a line stands for an entry at least
length_total : (rs : List Run) → AllByRecursion IsEntry rs → length rs ≤ total rs
length_total [] all = omega arith
length_total (r ∷ rs) all = let some = all.0.some_times in omega (arith, total_cons r rs, some, length_total rs all.1)

pub few_lines : (form : Form) (rs : List Run) → AreBehind (none_before form) rs → length rs ≤ 1000000001
few_lines form rs h = let k = ranges_of (none_before form) rs h in let within = k.within in omega (arith, length_total rs k.entries, within)

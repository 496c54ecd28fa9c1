-- Traces and the histories that they stand for.
use Rattle.std.proofs.Common.{◌≡◌, ℕ, suc, ◌≤◌, Bool, true, false, cond, List, [], ◌∷◌, length, refl, ap, sym, subst, arith}
use Rattle.std.specs.Prelude.{None}
use Rattle.std.specs.List.{flat_map, All, AllByRecursion}
use Rattle.std.proofs.lemmas.List.Concat.{flat_map-cons}
use Rattle.std.proofs.lemmas.List.Elements.{All-append, All-from_recursion, All-nil, All-replicate, recursion_from_All}
use Rattle.fm_base.specs.declared.schedule.Turn.{Turn}
use Rattle.fm_trace.specs.declared.trace.Form.TheVariants as forms
use Rattle.fm_trace.specs.declared.trace.Run.{Run}
use Rattle.fm_trace.specs.declared.trace.Trace.{Trace}
use Rattle.fm_trace.specs.Texts.{each_time, history_of, in_front_of, once, runs_of, same_turn, trace_of_history, trace_text, AreOf, IsEntry, IsTrace, IsTraceText, IsTraceable}
use Rattle.fm_trace.specs.Writing.{AreSmall, IsSmall}
use Rattle.fm_trace.proofs.EntryLaws.{total, total_cons}
use Rattle.fm_trace.proofs.RunLaws.{runs_again, runs_apart, runs_back}

pub history_again : (turns : ℕ) (history : List Turn) (source : List ℕ) → history_of (trace_of_history turns history source) ≡ history
history_again turns history source = runs_again history

pub trace_of_its_history : (t : Trace) → IsTrace t → AreOf forms.Two None t.entries → trace_of_history t.turns (history_of t) t.source ≡ t
trace_of_its_history t h of_form =
    ap (λ (rs : List Run). record { turns = t.turns; entries = rs; source = t.source }) (runs_back None t.entries (recursion_from_All IsEntry t.entries h.entries) of_form)

-- what holds of each entry holds of each turn of the history
pub of_each : (P : Turn → Type 0) → ((r : Run) → IsEntry r → P r.turn) → (rs : List Run) → AllByRecursion IsEntry rs → All P (flat_map each_time rs)
of_each P holds [] all = All-nil P
of_each P holds (r ∷ rs) all =
    subst (All P) (sym (flat_map-cons each_time r rs)) (All-append P (each_time r) (flat_map each_time rs) (All-replicate P r.times r.turn (holds r all.0)) (of_each P holds rs all.1))

-- ---- the trace of a history

abbrev HaveSteps : Turn → Type 0
HaveSteps t = 1 ≤ t.steps

-- what holds of each turn holds of each run of them
pub runs_each : (P : Turn → Type 0) (ts : List Turn) → AllByRecursion P ts → AllByRecursion (λ (r : Run). P r.turn) (runs_of ts)
runs_each P [] all = tt
runs_each P (t ∷ ts) all = put (runs_of ts) (runs_each P ts all.1)
  where
    joined : (r : Run) (rs : List Run) (b : Bool) → AllByRecursion (λ (u : Run). P u.turn) (r ∷ rs) → AllByRecursion (λ (u : Run). P u.turn) (cond b (record { turn = t; times = suc r.times } ∷ rs) (once t ∷ r ∷ rs))
    joined r rs true h = (all.0, h.1)
    joined r rs false h = (all.0, h)

    put : (rs : List Run) → AllByRecursion (λ (u : Run). P u.turn) rs → AllByRecursion (λ (u : Run). P u.turn) (in_front_of rs t)
    put [] h = (all.0, tt)
    put (r ∷ rs) h = joined r rs (same_turn t r.turn) h

-- each comes
abbrev DoCome : List Run → Type 0
DoCome rs = AllByRecursion (λ (r : Run). 1 ≤ r.times) rs

runs_come : (ts : List Turn) → DoCome (runs_of ts)
runs_come [] = tt
runs_come (t ∷ ts) = put (runs_of ts) (runs_come ts)
  where
    joined : (r : Run) (rs : List Run) (b : Bool) → DoCome (r ∷ rs) → DoCome (cond b (record { turn = t; times = suc r.times } ∷ rs) (once t ∷ r ∷ rs))
    joined r rs true h = (omega arith, h.1)
    joined r rs false h = (omega arith, h)

    put : (rs : List Run) → DoCome rs → DoCome (in_front_of rs t)
    put [] h = (omega arith, tt)
    put (r ∷ rs) h = joined r rs (same_turn t r.turn) h

are_entries : (rs : List Run) → total rs ≤ 1000000001 → DoCome rs → AllByRecursion (λ (r : Run). IsSmall r.turn) rs → AllByRecursion (λ (r : Run). HaveSteps r.turn) rs → AllByRecursion IsEntry rs
are_entries [] few come small some = tt
are_entries (r ∷ rs) few come small some =
    let sum = total_cons r rs in (
      record { number = small.0.number; some_steps = some.0; steps = small.0.steps; some_times = come.0; times = omega (arith, few, sum) },
      are_entries rs (omega (arith, few, sum)) come.1 small.1 some.1,
    )

pub history_is_trace : (turns : ℕ) (history : List Turn) (source : List ℕ) → AreSmall (runs_of history) → IsTraceable turns history → IsTrace (trace_of_history turns history source)
history_is_trace turns history source small h =
    let few : total (runs_of history) ≤ 1000000001 = omega (arith, h.few_entries, ap length (runs_again history)) in
    record {
      some_turns = h.some_turns;
      few_turns = h.few_turns;
      few_entries = few;
      entries = All-from_recursion IsEntry (runs_of history)
          (are_entries (runs_of history) few (runs_come history) small (runs_each HaveSteps history (recursion_from_All HaveSteps history h.some_steps)));
    }

-- the text of the trace of a history
pub text_of_history : (turns : ℕ) (history : List Turn) (source : List ℕ) → AreSmall (runs_of history) → IsTraceable turns history → (text : List ℕ) → text ≡ trace_text (trace_of_history turns history source) → IsTraceText text (trace_of_history turns history source)
text_of_history turns history source small h text is = (history_is_trace turns history source small h, forms.Two, runs_apart history, is)

-- what stands in a trace is written in form 2
pub written_again : (t : Trace) → IsTrace t → IsTraceText (trace_text (trace_of_history t.turns (history_of t) t.source)) (trace_of_history t.turns (history_of t) t.source)
written_again t h =
    let all = recursion_from_All IsEntry t.entries h.entries in
    let small = of_each IsSmall (λ r k. record { number = k.number; steps = k.steps }) t.entries all in
    text_of_history t.turns (history_of t) t.source (runs_each IsSmall (history_of t) (recursion_from_All IsSmall (history_of t) small))
    (record { some_turns = h.some_turns; few_turns = h.few_turns; few_entries = h.few_entries; some_steps = of_each HaveSteps (λ r k. k.some_steps) t.entries all })
    (trace_text (trace_of_history t.turns (history_of t) t.source)) refl

-- Entries of a history that are the same in succession.
use Rattle.std.proofs.Common.{◌≡◌, ℕ, zero, suc, ◌≤◌, ◌==◌, eq-eqb, eqb-true, Bool, true, false, cond, ◌&&◌, List, [], ◌∷◌, ◌++◌, length, map, replicate, drop, refl, ap, ap₂, subst, sym, ◌∙◌, arith}
use Rattle.std.specs.Prelude.{not, slice_index_or, ◌<◌, Option, Some, None}
use Rattle.std.specs.List.{flat_map, AllByRecursion}
use Rattle.std.proofs.lemmas.Bool.{false≢true}
use Rattle.std.proofs.lemmas.List.{take-append-drop}
use Rattle.std.proofs.lemmas.List.Concat.{flat_map-cons}
use Rattle.fm_base.specs.declared.schedule.Turn.{Turn}
use Rattle.fm_trace.specs.declared.trace.Form.TheVariants as forms
use Rattle.fm_trace.specs.declared.trace.Run.{Run}
use Rattle.fm_trace.specs.Texts.{each_time, in_front_of, once, runs_of, same_turn, AreOf, IsEntry}
use Rattle.fm_trace.specs.Writing.{begins_with, IsFront}
use Rattle.fm_trace.proofs.NumeralLaws.{both_true}

-- ---- the same entry

turn_is : (a b : Turn) → a.number ≡ b.number → a.steps ≡ b.steps → a ≡ b
turn_is a b e f = ap₂ (λ (n k : ℕ). record { number = n; steps = k }) e f

pub is_same : (a b : Turn) → same_turn a b ≡ true → a ≡ b
is_same a b e =
    let p = both_true (a.number == b.number) (a.steps == b.steps) e in
    turn_is a b (eqb-true a.number b.number p.0) (eqb-true a.steps b.steps p.1)

pub same_itself : (t : Turn) → same_turn t t ≡ true
same_itself t = ap₂ (λ (x y : Bool). x && y) (eq-eqb t.number t.number refl) (eq-eqb t.steps t.steps refl)

-- ---- runs stand for their history

front_again : (t : Turn) (r : Run) (rs : List Run) (same : Bool) → same_turn t r.turn ≡ same → flat_map each_time (cond same (record { turn = t; times = suc r.times } ∷ rs) (once t ∷ r ∷ rs)) ≡ t ∷ flat_map each_time (r ∷ rs)
front_again t r rs true e =
    let k : t ≡ r.turn = is_same t r.turn e in
    flat_map-cons each_time (record { turn = t; times = suc r.times }) rs
    ∙ ap (λ (u : Turn). t ∷ (replicate r.times u ++ flat_map each_time rs)) k
    ∙ ap (λ (us : List Turn). t ∷ us) (sym (flat_map-cons each_time r rs))
front_again t r rs false e = flat_map-cons each_time (once t) (r ∷ rs)

put_again : (t : Turn) (rs : List Run) → flat_map each_time (in_front_of rs t) ≡ t ∷ flat_map each_time rs
put_again t [] = flat_map-cons each_time (once t) []
put_again t (r ∷ rs) = front_again t r rs (same_turn t r.turn) refl

pub runs_again : (ts : List Turn) → flat_map each_time (runs_of ts) ≡ ts
runs_again [] = refl
runs_again (t ∷ ts) = put_again t (runs_of ts) ∙ ap (λ (us : List Turn). t ∷ us) (runs_again ts)

-- ---- two in succession differ

front_apart : (t : Turn) (r : Run) (rs : List Run) (same : Bool) → same_turn t r.turn ≡ same → AreOf forms.Two None (r ∷ rs) → AreOf forms.Two None (cond same (record { turn = t; times = suc r.times } ∷ rs) (once t ∷ r ∷ rs))
front_apart t r rs true e h = (refl, subst (λ (u : Turn). AreOf forms.Two (Some u) rs) (sym (is_same t r.turn e)) h.1)
front_apart t r rs false e h = (refl, (ap not e, h.1))

put_apart : (t : Turn) (rs : List Run) → AreOf forms.Two None rs → AreOf forms.Two None (in_front_of rs t)
put_apart t [] h = (refl, tt)
put_apart t (r ∷ rs) h = front_apart t r rs (same_turn t r.turn) refl h

pub runs_apart : (ts : List Turn) → AreOf forms.Two None (runs_of ts)
runs_apart [] = tt
runs_apart (t ∷ ts) = put_apart t (runs_of ts) (runs_apart ts)

-- ---- so many of one entry, and others behind them

-- the first of runs is of the first entry
begins_runs : (t u : Turn) (rs : List Run) → same_turn t u ≡ false → in_front_of (in_front_of rs u) t ≡ once t ∷ in_front_of rs u
begins_runs t u [] e = ap (λ (b : Bool). cond b (record { turn = t; times = suc 1 } ∷ []) (once t ∷ once u ∷ [])) e
begins_runs t u (r ∷ rs) e = go (same_turn u r.turn)
  where
    go : (b : Bool) → in_front_of (cond b (record { turn = u; times = suc r.times } ∷ rs) (once u ∷ r ∷ rs)) t ≡ once t ∷ cond b (record { turn = u; times = suc r.times } ∷ rs) (once u ∷ r ∷ rs)
    go true = ap (λ (b : Bool). cond b (record { turn = t; times = suc (suc r.times) } ∷ rs) (once t ∷ record { turn = u; times = suc r.times } ∷ rs)) e
    go false = ap (λ (b : Bool). cond b (record { turn = t; times = suc 1 } ∷ r ∷ rs) (once t ∷ once u ∷ r ∷ rs)) e

one_in_front : (t : Turn) (ts : List Turn) → begins_with t ts ≡ false → in_front_of (runs_of ts) t ≡ once t ∷ runs_of ts
one_in_front t [] e = refl
one_in_front t (u ∷ us) e = begins_runs t u (runs_of us) e

pub many_in_front : (n : ℕ) (t : Turn) (ts : List Turn) → begins_with t ts ≡ false → runs_of (replicate (suc n) t ++ ts) ≡ record { turn = t; times = suc n } ∷ runs_of ts
many_in_front zero t ts e = one_in_front t ts e
many_in_front (suc n) t ts e =
    ap (λ (rs : List Run). in_front_of rs t) (many_in_front n t ts e)
    ∙ ap (λ (b : Bool). cond b (record { turn = t; times = suc (suc n) } ∷ runs_of ts) (once t ∷ record { turn = t; times = suc n } ∷ runs_of ts)) (same_itself t)

some_first : (t : Turn) (ts : List Turn) (times : ℕ) → IsFront t times (t ∷ ts) → (n : ℕ) × (times ≡ suc n)
some_first t ts zero h = absurd (false≢true (sym h.behind ∙ same_itself t))
some_first t ts (suc n) h = (n, refl)

-- the first run of a history
pub first_run_is : (t : Turn) (ts : List Turn) (times : ℕ) → IsFront t times (t ∷ ts) → runs_of (t ∷ ts) ≡ record { turn = t; times = times } ∷ runs_of (drop times (t ∷ ts))
first_run_is t ts times h =
    let n = some_first t ts times h in
    let rest : List Turn = drop times (t ∷ ts) in
    let parts : t ∷ ts ≡ replicate (suc n.0) t ++ rest = sym (take-append-drop times (t ∷ ts)) ∙ ap (λ (us : List Turn). us ++ rest) (h.same ∙ ap (λ (k : ℕ). replicate k t) n.1) in
    ap runs_of parts ∙ many_in_front n.0 t rest h.behind ∙ ap (λ (k : ℕ). record { turn = t; times = k } ∷ runs_of rest) (sym n.1)

pub run_in_front : (ts rest : List Turn) (d : Turn) (times : ℕ) → 0 < length ts → IsFront (slice_index_or ts 0 d) times ts → rest ≡ drop times ts → runs_of ts ≡ record { turn = slice_index_or ts 0 d; times = times } ∷ runs_of rest
run_in_front [] rest d times some h is = absurd (omega (arith, some))
run_in_front (t ∷ ts) rest d times some h is = first_run_is t ts times h ∙ ap (λ (us : List Turn). record { turn = t; times = times } ∷ runs_of us) (sym is)

-- ---- runs that a text of form 2 has lines for

times_suc : (n : ℕ) → 1 ≤ n → (m : ℕ) × (n ≡ suc m)
times_suc zero some = absurd (omega (arith, some))
times_suc (suc n) some = (n, refl)

not_so : (b : Bool) → not b ≡ true → b ≡ false
not_so true e = absurd (false≢true e)
not_so false e = refl

-- what stands behind an entry in such a text doesn't begin with it
others_begin : (t : Turn) (rs : List Run) → AllByRecursion IsEntry rs → AreOf forms.Two (Some t) rs → begins_with t (flat_map each_time rs) ≡ false
others_begin t [] all h = refl
others_begin t (r ∷ rs) all h =
    let m = times_suc r.times all.0.some_times in
    ap (begins_with t) (flat_map-cons each_time r rs ∙ ap (λ (n : ℕ). replicate n r.turn ++ flat_map each_time rs) m.1)
    ∙ not_so (same_turn t r.turn) h.0

pub runs_back : (before : Option Turn) (rs : List Run) → AllByRecursion IsEntry rs → AreOf forms.Two before rs → runs_of (flat_map each_time rs) ≡ rs
runs_back before [] all h = refl
runs_back before (r ∷ rs) all h =
    let m = times_suc r.times all.0.some_times in
    ap runs_of (flat_map-cons each_time r rs ∙ ap (λ (n : ℕ). replicate n r.turn ++ flat_map each_time rs) m.1)
    ∙ many_in_front m.0 r.turn (flat_map each_time rs) (others_begin r.turn rs all.1 h.1)
    ∙ ap₂ (λ (n : ℕ) (us : List Run). record { turn = r.turn; times = n } ∷ us) (sym m.1) (runs_back (Some r.turn) rs all.1 h.1)

-- form 1 has a line for each of them
pub each_alone : (before : Option Turn) (rs : List Run) → AreOf forms.One before rs → map once (flat_map each_time rs) ≡ rs
each_alone before [] h = refl
each_alone before (r ∷ rs) h =
    let single : r.times ≡ 1 = eqb-true r.times 1 h.0 in
    ap (map once) (flat_map-cons each_time r rs ∙ ap (λ (n : ℕ). replicate n r.turn ++ flat_map each_time rs) single)
    ∙ ap₂ (λ (n : ℕ) (us : List Run). record { turn = r.turn; times = n } ∷ us) (sym single) (each_alone (Some r.turn) rs h.1)

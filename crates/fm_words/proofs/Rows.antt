-- What `clap` finds in accepted words.
use Rattle.std.proofs.Common.{◌≡◌, ℕ, suc, ◌≤◌, Bool, true, false, cond, ◌&&◌, ◌||◌, List, [], ◌∷◌, ◌++◌, map, length, nat_lt, refl, ap, sym, subst, ◌∙◌, codes, arith}
use Rattle.std.specs.Prelude.{Option, Some, None, option_and_then, slice_get, fold, filter, if◌then◌else◌}
use Rattle.std.specs.List.{filter_map}
use Rattle.std.specs.Str.{bytes_eq}
use Rattle.std.proofs.lemmas.Bool.Decides.{nat_tests}
use Rattle.std.proofs.lemmas.List.{append-nil, append_assoc}
use Rattle.std.proofs.lemmas.Option.{none-some}
use Rattle.clap.specs.Walk.{Row, Rule, Text, at_row, finished, first_of, has_row, more_values, nothing_held, one_of, reading_by, walked, with_default, with_values, without}
use Rattle.clap.specs.Simple.{matches_of}
use Rattle.clap.specs.declared.builder.value_parser.Reading.{Reading}
use Rattle.clap.specs.declared.parser.matches.ValueSource.TheVariants.{CommandLine, DefaultValue}
use Rattle.fm_words.specs.declared.option.OptionName.TheVariants as name
use Rattle.fm_words.specs.declared.option.Setting.{Setting}
use Rattle.fm_words.specs.declared.settings.Settings.{Settings}
use Rattle.fm_words.specs.Words.{number_of, plan_of, settings_of, turns_in, workers_in, slice_in, plan_in, is_vars, given, is_single, are_single, asked, options_of}
use Rattle.fm_words.specs.Values.{run_app, make_app, numbered_app}
use Rattle.fm_words.proofs.Numerals.{both_true}
use Rattle.fm_words.proofs.Walks.{valued, flag, number, help, rules_of, id_of, IsPlain, number_held, numbered}
use Rattle.fm_words.proofs.Spelling.{Spelled, pair, lone, turns, workers, slice, plan, vars, ReadAll, none, more, used_by, words_used, some_same}

pub true_false : true ≡ false → ⊥
true_false e = subst (λ (b : Bool). elim b as (λ _. Type 0) [ true ↦ Unit {0} | false ↦ ⊥ ]) e tt

-- ---- one row more

fresh_at : (id : Text) (change : Row → List Row) (missing : List Row) (r : Row) (rs : List Row) (b : Bool) → (has_row id rs ≡ false → at_row id change missing rs ≡ rs ++ missing)
    → (b || has_row id rs) ≡ false → (if b then change r ++ rs else r ∷ at_row id change missing rs) ≡ r ∷ (rs ++ missing)
fresh_at id change missing r rs true f e = absurd (true_false e)
fresh_at id change missing r rs false f e = ap (λ (l : List Row). r ∷ l) (f e)

-- a change of a row that isn't there puts one at the end
fresh : (id : Text) (change : Row → List Row) (missing rows : List Row) → has_row id rows ≡ false → at_row id change missing rows ≡ rows ++ missing
fresh id change missing [] e = refl
fresh id change missing (r ∷ rs) e = fresh_at id change missing r rs (bytes_eq r.id id) (fresh id change missing rs) e

abbrev set_row : Text → Reading → List Text → Row
set_row id how vs = record { id = id; values = vs; count = None; source = Some CommandLine; reading = how }

set_fresh : (id : Text) (how : Reading) (vs : List Text) (rows : List Row) → has_row id rows ≡ false → with_values id how CommandLine vs (without id rows) ≡ rows ++ set_row id how vs ∷ []
set_fresh id how vs rows e =
    ap (with_values id how CommandLine vs) (fresh id (λ _. []) [] rows e ∙ append-nil rows)
    ∙ fresh id (more_values CommandLine vs) (set_row id how vs ∷ []) rows e

abbrev row_of : Spelled → Row
row_of (pair n v) = set_row (id_of n) (reading_by (valued (id_of n))) (v ∷ [])
row_of lone = set_row (codes "vars") (reading_by flag) (codes "true" ∷ [])

used_fresh : (u : Spelled) (rows : List Row) → has_row (row_of u).id rows ≡ false → used_by rows u ≡ rows ++ row_of u ∷ []
used_fresh (pair n v) rows e = set_fresh (id_of n) (reading_by (valued (id_of n))) (v ∷ []) rows e
used_fresh lone rows e = set_fresh (codes "vars") (reading_by flag) (codes "true" ∷ []) rows e

-- ---- no option twice

count : Text → List Row → ℕ
count t [] = 0
count t (r ∷ rs) = cond (bytes_eq r.id t) (suc (count t rs)) (count t rs)

here : (b : Bool) (n : ℕ) → b ≡ true → 1 ≤ cond b (suc n) n
here true n e = omega arith
here false n e = absurd (true_false (sym e))

later : (b : Bool) (n : ℕ) → 1 ≤ n → 1 ≤ cond b (suc n) n
later true n e = omega arith
later false n e = e

counted : (t : Text) (rows : List Row) (x : Row) (rest : List Row) → bytes_eq x.id t ≡ true → 1 ≤ count t (rows ++ x ∷ rest)
unfolding count
counted t [] x rest e = here (bytes_eq x.id t) (count t rest) e
counted t (r ∷ rs) x rest e = later (bytes_eq r.id t) (count t (rs ++ x ∷ rest)) (counted t rs x rest e)

not_twice : (t : Text) (rs : List Row) (n : ℕ) (b : Bool) → 1 ≤ n → (n ≤ 1 → has_row t rs ≡ false) → cond b (suc n) n ≤ 1 → (b || has_row t rs) ≡ false
not_twice t rs n true l f e = absurd (omega arith)
not_twice t rs n false l f e = f e

not_there : (t : Text) (rows : List Row) (x : Row) (rest : List Row) → bytes_eq x.id t ≡ true → count t (rows ++ x ∷ rest) ≤ 1 → has_row t rows ≡ false
unfolding count
not_there t [] x rest s e = refl
not_there t (r ∷ rs) x rest s e = not_twice t rs (count t (rs ++ x ∷ rest)) (bytes_eq r.id t) (counted t rs x rest s) (not_there t rs x rest s) e

abbrev Once : List Row → Type 0
Once rows = (u : Spelled) → count (row_of u).id rows ≤ 1

same_id : (u : Spelled) → bytes_eq (row_of u).id (row_of u).id ≡ true
same_id (pair name.Turns v) = refl
same_id (pair name.Workers v) = refl
same_id (pair name.Slice v) = refl
same_id (pair name.Plan v) = refl
same_id lone = refl

rows_used : (us : List Spelled) (rows : List Row) → Once (rows ++ map row_of us) → fold used_by rows us ≡ rows ++ map row_of us
rows_used [] rows o = sym (append-nil rows)
rows_used (u ∷ us) rows o =
    let e = not_there (row_of u).id rows (row_of u) (map row_of us) (same_id u) (o u) in
    let assoc = append_assoc rows (row_of u ∷ []) (map row_of us) in
    ap (λ (r : List Row). fold used_by r us) (used_fresh u rows e)
    ∙ rows_used us (rows ++ row_of u ∷ []) (subst Once (sym assoc) o)
    ∙ assoc

count_turns : {us : List Spelled} {ss : List Setting} → ReadAll us ss → count (codes "turns") (map row_of us) ≡ length (filter_map turns_in ss)
unfolding count
count_turns none = refl
count_turns (more (turns e) r) = ap suc (count_turns r)
count_turns (more (workers e) r) = count_turns r
count_turns (more (slice e) r) = count_turns r
count_turns (more (plan e) r) = count_turns r
count_turns (more vars r) = count_turns r

count_workers : {us : List Spelled} {ss : List Setting} → ReadAll us ss → count (codes "workers") (map row_of us) ≡ length (filter_map workers_in ss)
unfolding count
count_workers none = refl
count_workers (more (turns e) r) = count_workers r
count_workers (more (workers e) r) = ap suc (count_workers r)
count_workers (more (slice e) r) = count_workers r
count_workers (more (plan e) r) = count_workers r
count_workers (more vars r) = count_workers r

count_slices : {us : List Spelled} {ss : List Setting} → ReadAll us ss → count (codes "slice") (map row_of us) ≡ length (filter_map slice_in ss)
unfolding count
count_slices none = refl
count_slices (more (turns e) r) = count_slices r
count_slices (more (workers e) r) = count_slices r
count_slices (more (slice e) r) = ap suc (count_slices r)
count_slices (more (plan e) r) = count_slices r
count_slices (more vars r) = count_slices r

count_plans : {us : List Spelled} {ss : List Setting} → ReadAll us ss → count (codes "plan") (map row_of us) ≡ length (filter_map plan_in ss)
unfolding count
count_plans none = refl
count_plans (more (turns e) r) = count_plans r
count_plans (more (workers e) r) = count_plans r
count_plans (more (slice e) r) = count_plans r
count_plans (more (plan e) r) = ap suc (count_plans r)
count_plans (more vars r) = count_plans r

count_vars : {us : List Spelled} {ss : List Setting} → ReadAll us ss → count (codes "vars") (map row_of us) ≡ length (filter is_vars ss)
unfolding count
count_vars none = refl
count_vars (more (turns e) r) = count_vars r
count_vars (more (workers e) r) = count_vars r
count_vars (more (slice e) r) = count_vars r
count_vars (more (plan e) r) = count_vars r
count_vars (more vars r) = ap suc (count_vars r)

single : {X : Type 0} (xs : List X) (n : ℕ) → n ≡ length xs → is_single xs ≡ true → n ≤ 1
single xs n e s = grind (arith, nat_tests)

once : {us : List Spelled} {ss : List Setting} → ReadAll us ss → are_single (given ss) ≡ true → Once (map row_of us)
once {us = us} {ss = ss} r e u =
    let g = given ss in
    let a = both_true (is_single g.turns && is_single g.workers && is_single g.slices && is_single g.plans) (is_single g.vars) e in
    let b = both_true (is_single g.turns && is_single g.workers && is_single g.slices) (is_single g.plans) a.0 in
    let c = both_true (is_single g.turns && is_single g.workers) (is_single g.slices) b.0 in
    let d = both_true (is_single g.turns) (is_single g.workers) c.0 in
    elim u as (λ u. count (row_of u).id (map row_of us) ≤ 1) [
      | pair n v ↦ elim n as (λ n. count (row_of (pair n v)).id (map row_of us) ≤ 1) [
        | name.Turns ↦ single g.turns _ (count_turns r) d.0
        | name.Workers ↦ single g.workers _ (count_workers r) d.1
        | name.Slice ↦ single g.slices _ (count_slices r) c.1
        | name.Plan ↦ single g.plans _ (count_plans r) b.1
      ]
      | lone ↦ single g.vars _ (count_vars r) a.1
    ]

-- the rows in front: that of the number of `demo` or `nodes`
abbrev front : Bool → Text → List Row
front false v = []
front true v = set_row (codes "number") (reading_by number) (v ∷ []) ∷ []

once_behind : (b : Bool) (v : Text) (rows : List Row) → Once rows → Once (front b v ++ rows)
unfolding count
once_behind false v rows o = o
once_behind true v rows o = λ u. elim u as (λ u. count (row_of u).id (front true v ++ rows) ≤ 1) [
  | pair n w ↦ elim n as (λ n. count (row_of (pair n w)).id (front true v ++ rows) ≤ 1) [
    | name.Turns ↦ o (pair name.Turns w)
    | name.Workers ↦ o (pair name.Workers w)
    | name.Slice ↦ o (pair name.Slice w)
    | name.Plan ↦ o (pair name.Plan w)
  ]
  | lone ↦ o lone
]

-- ---- defaults

same : {X : Type 0} (b : Bool) (x : X) → (if b then x else x) ≡ x
same true x = refl
same false x = refl

abbrev rules4 : List Rule
rules4 = flag ∷ help ∷ []

abbrev rules3 : List Rule
rules3 = valued (codes "plan") ∷ rules4

abbrev rules2 : List Rule
rules2 = valued (codes "slice") ∷ rules3

abbrev rules1 : List Rule
rules1 = valued (codes "workers") ∷ rules2

options_defaulted : (rows : List Row) → fold with_default rows (rules_of false) ≡ with_default rows flag
options_defaulted rows =
    ap (λ (r : List Row). fold with_default r rules1) (same (has_row (codes "turns") rows) rows)
    ∙ ap (λ (r : List Row). fold with_default r rules2) (same (has_row (codes "workers") rows) rows)
    ∙ ap (λ (r : List Row). fold with_default r rules3) (same (has_row (codes "slice") rows) rows)
    ∙ ap (λ (r : List Row). fold with_default r rules4) (same (has_row (codes "plan") rows) rows)
    ∙ same (has_row (codes "help") (with_default rows flag)) (with_default rows flag)

defaulted : (b : Bool) (rows : List Row) → fold with_default rows (rules_of b) ≡ with_default rows flag
defaulted false rows = options_defaulted rows
defaulted true rows = ap (λ (r : List Row). fold with_default r (rules_of false)) (same (has_row (codes "number") rows) rows) ∙ options_defaulted rows

abbrev no_vars : Row
no_vars = record { id = codes "vars"; values = codes "false" ∷ []; count = None; source = Some DefaultValue; reading = reading_by flag }

-- the row that a default adds
abbrev tail : Bool → List Row
tail true = []
tail false = no_vars ∷ []

flag_defaulted : (rows : List Row) (t : Bool) → has_row (codes "vars") rows ≡ t → (if t then rows else with_values (codes "vars") (reading_by flag) DefaultValue (codes "false" ∷ []) rows) ≡ rows ++ tail t
flag_defaulted rows true e = sym (append-nil rows)
flag_defaulted rows false e = fresh (codes "vars") (more_values DefaultValue (codes "false" ∷ [])) (no_vars ∷ []) rows e

-- ---- what stands in the rows

module _ (t : Bool) where
  turns_found : {us : List Spelled} {ss : List Setting} → ReadAll us ss → option_and_then number_of (first_of (codes "turns") (map row_of us ++ tail t)) ≡ slice_get (filter_map turns_in ss) 0
  turns_found none = elim t as (λ t. option_and_then number_of (first_of (codes "turns") (tail t)) ≡ None) [ true ↦ refl | false ↦ refl ]
  turns_found (more (turns e) r) = e
  turns_found (more (workers e) r) = turns_found r
  turns_found (more (slice e) r) = turns_found r
  turns_found (more (plan e) r) = turns_found r
  turns_found (more vars r) = turns_found r

  workers_found : {us : List Spelled} {ss : List Setting} → ReadAll us ss → option_and_then number_of (first_of (codes "workers") (map row_of us ++ tail t)) ≡ slice_get (filter_map workers_in ss) 0
  workers_found none = elim t as (λ t. option_and_then number_of (first_of (codes "workers") (tail t)) ≡ None) [ true ↦ refl | false ↦ refl ]
  workers_found (more (turns e) r) = workers_found r
  workers_found (more (workers e) r) = e
  workers_found (more (slice e) r) = workers_found r
  workers_found (more (plan e) r) = workers_found r
  workers_found (more vars r) = workers_found r

  slice_found : {us : List Spelled} {ss : List Setting} → ReadAll us ss → option_and_then number_of (first_of (codes "slice") (map row_of us ++ tail t)) ≡ slice_get (filter_map slice_in ss) 0
  slice_found none = elim t as (λ t. option_and_then number_of (first_of (codes "slice") (tail t)) ≡ None) [ true ↦ refl | false ↦ refl ]
  slice_found (more (turns e) r) = slice_found r
  slice_found (more (workers e) r) = slice_found r
  slice_found (more (slice e) r) = e
  slice_found (more (plan e) r) = slice_found r
  slice_found (more vars r) = slice_found r

  plan_found : {us : List Spelled} {ss : List Setting} → ReadAll us ss → option_and_then plan_of (first_of (codes "plan") (map row_of us ++ tail t)) ≡ slice_get (filter_map plan_in ss) 0
  plan_found none = elim t as (λ t. option_and_then plan_of (first_of (codes "plan") (tail t)) ≡ None) [ true ↦ refl | false ↦ refl ]
  plan_found (more (turns e) r) = plan_found r
  plan_found (more (workers e) r) = plan_found r
  plan_found (more (slice e) r) = plan_found r
  plan_found (more (plan e) r) = e
  plan_found (more vars r) = plan_found r

positive : (n : ℕ) → true ≡ nat_lt 0 (suc n)
positive n = grind (arith, nat_tests)

vars_there : {us : List Spelled} {ss : List Setting} → ReadAll us ss → has_row (codes "vars") (map row_of us) ≡ nat_lt 0 (length (filter is_vars ss))
vars_there none = refl
vars_there (more (turns e) r) = vars_there r
vars_there (more (workers e) r) = vars_there r
vars_there (more (slice e) r) = vars_there r
vars_there (more (plan e) r) = vars_there r
vars_there (more {ss = ss} vars r) = positive (length (filter is_vars ss))

abbrev pub bool_word : Bool → Text
bool_word b = cond b (codes "true") (codes "false")

vars_found : (us : List Spelled) (t : Bool) → has_row (codes "vars") (map row_of us) ≡ t → one_of (codes "vars") (map row_of us ++ tail t) ≡ Some (bool_word t)
vars_found [] true e = absurd (true_false (sym e))
vars_found [] false e = refl
vars_found (pair name.Turns v ∷ us) t e = vars_found us t e
vars_found (pair name.Workers v ∷ us) t e = vars_found us t e
vars_found (pair name.Slice v ∷ us) t e = vars_found us t e
vars_found (pair name.Plan v ∷ us) t e = vars_found us t e
vars_found (lone ∷ us) true e = refl
vars_found (lone ∷ us) false e = absurd (true_false e)

-- the values in the rows are those of the settings
pub record Shows (rows : List Row) (s : Settings) : Type 0 where
  pub turns_are : option_and_then number_of (first_of (codes "turns") rows) ≡ s.turns
  pub workers_are : option_and_then number_of (first_of (codes "workers") rows) ≡ s.workers
  pub slice_is : option_and_then number_of (first_of (codes "slice") rows) ≡ s.slice
  pub plan_is : option_and_then plan_of (first_of (codes "plan") rows) ≡ s.plan
  pub vars_are : one_of (codes "vars") rows ≡ Some (bool_word s.vars)

abbrev settings_given : List Setting → Settings
settings_given ss = record {
  turns = slice_get (filter_map turns_in ss) 0;
  workers = slice_get (filter_map workers_in ss) 0;
  slice = slice_get (filter_map slice_in ss) 0;
  plan = slice_get (filter_map plan_in ss) 0;
  vars = nat_lt 0 (length (filter is_vars ss));
}

shows : (b : Bool) (v : Text) (us : List Spelled) (ss : List Setting) → ReadAll us ss → (t : Bool) → has_row (codes "vars") (map row_of us) ≡ t → Shows (front b v ++ map row_of us ++ tail t) (settings_given ss)
shows false v us ss r t e = record {
  turns_are = turns_found t r;
  workers_are = workers_found t r;
  slice_is = slice_found t r;
  plan_is = plan_found t r;
  vars_are = vars_found us t e ∙ ap (λ (x : Bool). Some (bool_word x)) (sym e ∙ vars_there r);
}
shows true v us ss r t e = record {
  turns_are = turns_found t r;
  workers_are = workers_found t r;
  slice_is = slice_found t r;
  plan_is = plan_found t r;
  vars_are = vars_found us t e ∙ ap (λ (x : Bool). Some (bool_word x)) (sym e ∙ vars_there r);
}

vars_behind : (b : Bool) (v : Text) (rows : List Row) → has_row (codes "vars") (front b v ++ rows) ≡ has_row (codes "vars") rows
vars_behind false v rows = refl
vars_behind true v rows = refl

-- the rows of a whole walk
all_rows : (b : Bool) (v : Text) (us : List Spelled) (ss : List Setting) → ReadAll us ss → are_single (given ss) ≡ true
    → fold with_default (fold used_by (front b v) us) (rules_of b) ≡ front b v ++ map row_of us ++ tail (has_row (codes "vars") (map row_of us))
all_rows b v us ss r e =
    let rows = front b v ++ map row_of us in
    ap (λ (x : List Row). fold with_default x (rules_of b)) (rows_used us (front b v) (once_behind b v (map row_of us) (once r e)))
    ∙ defaulted b rows
    ∙ flag_defaulted rows (has_row (codes "vars") rows) refl
    ∙ ap (λ (t : Bool). rows ++ tail t) (vars_behind b v (map row_of us))

-- ---- accepted options

pub record Asked (ws : List Text) (s : Settings) : Type 0 where
  pub settings : List Setting
  pub words : settings_of ws ≡ Some settings
  pub singles : are_single (given settings) ≡ true
  pub are : settings_given settings ≡ s

asked_if : (ws : List Text) (s : Settings) (ss : List Setting) (b : Bool) → settings_of ws ≡ Some ss → are_single (given ss) ≡ b → cond b (Some (settings_given ss)) None ≡ Some s → Asked ws s
asked_if ws s ss true w b e = record { settings = ss; words = w; singles = b; are = some_same (settings_given ss) s e }
asked_if ws s ss false w b e = absurd (none-some s e)

asked_from : (ws : List Text) (s : Settings) (o : Option (List Setting)) → settings_of ws ≡ o → option_and_then (λ ss. asked (given ss)) o ≡ Some s → Asked ws s
asked_from ws s (Some ss) w e = asked_if ws s ss (are_single (given ss)) w refl e
asked_from ws s None w e = absurd (none-some s e)

asked_by : (ws : List Text) (s : Settings) → options_of ws ≡ Some s → Asked ws s
asked_by ws s e = asked_from ws s (settings_of ws) refl e

pub run_rows : (ws : List Text) (s : Settings) → options_of ws ≡ Some s → Shows (matches_of run_app ws) s
run_rows ws s e =
    let a = asked_by ws s e in
    let u = words_used false 1 ws a.settings a.words nothing_held in
    let walk = ap (λ w. finished (rules_of false) w.held) u.ends in
    let used = ap (λ (r : List Row). fold with_default r (rules_of false)) u.rows_are in
    let all = all_rows false [] u.spelled a.settings u.reads a.singles in
    subst (λ (r : List Row). Shows r s) (sym (walk ∙ used ∙ all))
    (subst (Shows (map row_of u.spelled ++ tail (has_row (codes "vars") (map row_of u.spelled)))) a.are (shows false [] u.spelled a.settings u.reads (has_row (codes "vars") (map row_of u.spelled)) refl))

pub record ShowsNumber (rows : List Row) (v : Text) : Type 0 where
  pub number_is : first_of (codes "number") rows ≡ Some v

pub numbered_rows : (v : Text) (ws : List Text) (s : Settings) → IsPlain v → options_of ws ≡ Some s → Shows (matches_of numbered_app (v ∷ ws)) s × ShowsNumber (matches_of numbered_app (v ∷ ws)) v
numbered_rows v ws s p e =
    let a = asked_by ws s e in
    let u = words_used true 2 ws a.settings a.words (number_held v) in
    let first = ap (λ w. finished (rules_of true) (fold (walked (rules_of true) []) w ws).held) (numbered (rules_of false) v p) in
    let walk = ap (λ w. finished (rules_of true) w.held) u.ends in
    let used = ap (λ (r : List Row). fold with_default r (rules_of true)) u.rows_are in
    let all = all_rows true v u.spelled a.settings u.reads a.singles in
    let rows = front true v ++ map row_of u.spelled ++ tail (has_row (codes "vars") (map row_of u.spelled)) in
    let are : matches_of numbered_app (v ∷ ws) ≡ rows = first ∙ walk ∙ used ∙ all in (
      subst (λ (r : List Row). Shows r s) (sym are) (subst (Shows rows) a.are (shows true v u.spelled a.settings u.reads (has_row (codes "vars") (map row_of u.spelled)) refl)),
      record { number_is = ap (first_of (codes "number")) are },
    )

pub make_rows : (v : Text) → IsPlain v → ShowsNumber (matches_of make_app (v ∷ [])) v
make_rows v p = record { number_is = ap (λ w. first_of (codes "number") (finished (number ∷ help ∷ []) w.held)) (numbered (help ∷ []) v p) }

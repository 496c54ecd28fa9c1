-- Runs of turns.
use Rattle.std.proofs.Common.{◌≡◌, ℕ, zero, suc, ◌+◌, ◌-◌, ◌%◌, ◌<◌, ◌≤◌, Bool, true, false, cond, Some, None, List, [], ◌∷◌, length, get_or, refl, sym, ap, ◌∙◌, subst, arith}
use Rattle.std.specs.Prelude.{slice_get}
use Rattle.fm_run.specs.Orders.{chosen, places_of}
use Rattle.fm_run.specs.Programs.{Follows, IsRun, play_of}
use Rattle.fm_run.specs.declared.run.Ending.{Ending}
use Rattle.fm_run.specs.declared.run.Ending.TheVariants as ending
use Rattle.fm_run.specs.declared.run.Run.{Run}
use Rattle.fm_run.proofs.Playing.{run_ended, run_spent}
use Rattle.fm_table.specs.Told.{IsEndingOf, IsIdle, IsKept, Told, cost_of, stand_of, told_at, without}
use Rattle.fm_table.specs.Turning.{TurnsTo}
use Rattle.fm_table.proofs.Tables.{turn_alone, turn_follows}

-- no choice is the first one
pub first_chosen : (able : List ℕ) → chosen (Some 0) able ≡ chosen None able
first_chosen [] = refl
first_chosen (n ∷ ns) =
    let none : 0 % length (n ∷ ns) ≡ 0 = omega arith in
    ap (slice_get (n ∷ ns)) none

-- behind the choices there is none
pub past_choices : (choices : List ℕ) (k : ℕ) → length choices ≤ k → slice_get choices k ≡ None
past_choices [] k past = refl
past_choices (x ∷ xs) zero past = absurd (omega (arith, past))
past_choices (x ∷ xs) (suc k) past = past_choices xs k (omega (arith, past))

-- one of the choices is got from its place
pub choice_there : (choices : List ℕ) (k choice : ℕ) → k < length choices → ((d : ℕ) → choice ≡ get_or choices k d) → slice_get choices k ≡ Some choice
choice_there [] k choice low is = absurd (omega (arith, low))
choice_there (x ∷ xs) zero choice low is = ap Some (sym (is 0))
choice_there (x ∷ xs) (suc k) choice low is = choice_there xs k choice (omega (arith, low)) is

-- what a turn keeps: program, setup, that it follows the choices, and that nobody was ever out
pub record IsSame (choices : List ℕ) (a b : Told) (made : Bool) : Type 0 where
  pub program : b.program ≡ a.program
  pub setup : b.setup ≡ a.setup
  pub follows : Follows b.program b.setup.slice choices b.history
  pub alone : b ≡ told_at b.program b.setup b.history
  pub idle : made ≡ false → IsIdle b

-- the run of a table in which nothing can be made
pub run_by : (a : Told) (e : Ending) → IsKept a → IsEndingOf a e → (r : Run) → r.history.items ≡ a.history → places_of r.paths.items ≡ (stand_of a).places → r.ending ≡ e → IsRun a.program a.setup.turns r
run_by a (ending.Ended o) kept ends r history paths is =
    run_ended (play_of a.program) a.setup.turns a.history (stand_of a).places (stand_of a).state a.queue (cost_of a) kept.played kept.able ends.1 ends.0 kept.front o ends.2 r history paths is
run_by a ending.Spent kept ends r history paths is =
    run_spent (play_of a.program) a.setup.turns a.history (stand_of a).places (stand_of a).state (cost_of a) kept.played ends kept.front r history paths is

-- after a turn: it follows the choices, has the same program and setup, and is idle where no piece was made
pub turn_keeps : (choices : List ℕ) (choice : ℕ) (a b : Told) (made : Bool) → ((able : List ℕ) → chosen (Some choice) able ≡ chosen (slice_get choices (length a.history)) able) → a ≡ told_at a.program a.setup a.history → Follows a.program a.setup.slice choices a.history
    → (made ≡ true → TurnsTo choice a b) → (made ≡ false → IsIdle a × (b ≡ a)) → IsSame choices a b made
turn_keeps choices choice a b true same alone follows turned idle =
    let h = turned refl in
    let bare : Told → Told = λ c. record { program = c.program; setup = c.setup; history = []; queue = []; out = [] } in
    record {
      program = ap (λ (c : Told). c.program) h.told;
      setup = ap (λ (c : Told). c.setup) h.told;
      follows = subst (λ (c : Told). Follows c.program c.setup.slice choices b.history) (sym (ap bare h.told)) (turn_follows choices choice a b same alone follows h);
      alone = turn_alone choice a b alone h ∙ ap (λ (c : Told). told_at c.program c.setup b.history) (sym (ap bare h.told));
      idle = λ e. absurd (cc e);
    }
turn_keeps choices choice a b false same alone follows turned idle =
    let h = idle refl in
    record {
      program = ap (λ (c : Told). c.program) h.1;
      setup = ap (λ (c : Told). c.setup) h.1;
      follows = subst (λ (c : Told). Follows c.program c.setup.slice choices c.history) (sym h.1) follows;
      alone = subst (λ (c : Told). c ≡ told_at c.program c.setup c.history) (sym h.1) alone;
      idle = λ e. subst IsIdle (sym h.1) h.0;
    }

-- what a turn keeps where nobody is out: program, setup, and that nobody is
pub record StaysOn (a b : Told) (made : Bool) : Type 0 where
  pub program : b.program ≡ a.program
  pub setup : b.setup ≡ a.setup
  pub alone : b.out ≡ []
  pub idle : made ≡ false → IsIdle b

pub stays_on : (choice : ℕ) (a b : Told) (made : Bool) → a.out ≡ [] → (made ≡ true → TurnsTo choice a b) → (made ≡ false → IsIdle a × (b ≡ a)) → StaysOn a b made
stays_on choice a b true alone turned idle =
    let h = turned refl in
    record {
      program = ap (λ (c : Told). c.program) h.told;
      setup = ap (λ (c : Told). c.setup) h.told;
      alone = ap (λ (c : Told). c.out) h.told ∙ ap (without h.entry.number) alone;
      idle = λ e. absurd (cc e);
    }
stays_on choice a b false alone turned idle =
    let h = idle refl in
    record {
      program = ap (λ (c : Told). c.program) h.1;
      setup = ap (λ (c : Told). c.setup) h.1;
      alone = ap (λ (c : Told). c.out) h.1 ∙ alone;
      idle = λ e. subst IsIdle (sym h.1) h.0;
    }

-- what is left of the turns, and one where it goes on
abbrev pub left_of : Told → Bool → ℕ
left_of a goes_on = a.setup.turns + 1 - cost_of a + cond goes_on 1 0

-- a turn takes something of it, be it that a piece was made or none
pub left_less : (choice : ℕ) (a b : Told) (made : Bool) → (made ≡ true → TurnsTo choice a b) → (made ≡ true → cost_of a < cost_of b) → (made ≡ false → IsIdle a × (b ≡ a)) → left_of b made < left_of a true
left_less choice a b true turned used idle =
    let h = turned refl in
    let more = used refl in
    let going = h.going in
    let same : b.setup.turns ≡ a.setup.turns = ap (λ (c : Told). c.setup.turns) h.told in
    omega (arith, more, going, same)
left_less choice a b false turned used idle =
    let same : left_of b false ≡ left_of a false = ap (λ (c : Told). left_of c false) (idle refl).1 in
    omega (arith, same)

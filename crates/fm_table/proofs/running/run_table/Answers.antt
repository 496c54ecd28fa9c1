use Rattle.std.proofs.Common.{◌≡◌, ◌+◌, ◌<◌, ◌≤◌, ℕ, List, Bool, Some, true, length, ap, refl, sym, subst, ◌∙◌, rules}
use Rattle.std.proofs.lemmas.Result.{IfOk-weaker}
use Rattle.std.specs.Prelude.{slice_get}
use Rattle.fm_base.specs.declared.schedule.Setup.{Setup}
use Rattle.fm_base.specs.declared.schedule.Turn.{Turn}
use Rattle.fm_rules.specs.declared.program.Program.{Program}
use Rattle.fm_run.specs.Orders.{chosen}
use Rattle.fm_run.specs.Programs.{Follows, IsRun}
use Rattle.fm_table.specs.Told.{Told, told_at}
use Rattle.fm_table.proofs.Runs.{left_less, left_of, turn_keeps}
use Rattle.fm_table.proofs.running.run_table.Goals as goal

pub pieces-init : goal.pieces-init
pieces-init c =
    let is = c.in_ok-table.ensures in
    record {
      program = ap (λ (a : Told). a.program) is;
      setup = ap (λ (a : Told). a.setup) is;
      alone = subst (λ (a : Told). a ≡ told_at a.program a.setup a.history) (sym is) refl;
      follows = subst (λ (a : Told). Follows a.program a.setup.slice c.args.choices.now a.history) (sym is) tt;
      idle = λ e. absurd (cc e);
    }

pub pieces-preserved : goal.pieces-preserved
pieces-preserved c =
    let a = c.pieces.table in
    let b = c.turn.new.self in
    let t = c.in_ok-goes_on.ensures in
    let same : (able : List ℕ) → chosen (Some c.choice_at-choice.result) able ≡ chosen (slice_get c.args.choices.now (length a.history)) able =
    λ able. c.choice_at-choice.ensures able ∙ ap (λ (n : ℕ). chosen (slice_get c.args.choices.now n) able) (c.len.ensures ∙ ap length c.history.ensures) in
    let k = turn_keeps c.args.choices.now c.choice_at-choice.result a b c.in_ok-goes_on.goes_on same c.pieces.invariant.alone c.pieces.invariant.follows t.turned t.idle in
    record {
      program = k.program ∙ c.pieces.invariant.program;
      setup = k.setup ∙ c.pieces.invariant.setup;
      alone = k.alone;
      follows = k.follows;
      idle = k.idle;
    }

pub pieces-smaller : goal.pieces-smaller
pieces-smaller c =
    let a = c.pieces.table in
    let b = c.turn.new.self in
    let t = c.in_ok-goes_on.ensures in
    let on : c.pieces.goes_on ≡ true = search rules in
    subst (λ (g : Bool). left_of b c.in_ok-goes_on.goes_on < left_of a g) (sym on) (left_less c.choice_at-choice.result a b c.in_ok-goes_on.goes_on t.turned t.used t.idle)

pub run_of-requires-clause-idle : goal.run_of-requires-clause-idle
run_of-requires-clause-idle c = c.pieces.invariant.idle (search rules)

pub run_of-requires-clause-alone : goal.run_of-requires-clause-alone
run_of-requires-clause-alone c = ap (λ (a : Told). a.out) c.pieces.invariant.alone

pub returns-clause-run : goal.returns-clause-run
returns-clause-run c =
    IfOk-weaker c.run_of.result _ _ (λ r is.
    subst (λ (s : Setup). IsRun c.args.program.value s.turns r) c.pieces.invariant.setup (subst (λ (p : Program). IsRun p c.pieces.table.setup.turns r) c.pieces.invariant.program is)) c.run_of.ensures.run

pub returns-clause-follows : goal.returns-clause-follows
returns-clause-follows c =
    IfOk-weaker c.run_of.result _ _ (λ r is.
    subst (λ (s : Setup). Follows c.args.program.value s.slice c.args.choices.now r.history.items) c.pieces.invariant.setup
    (subst (λ (p : Program). Follows p c.pieces.table.setup.slice c.args.choices.now r.history.items) c.pieces.invariant.program
    (subst (λ (ts : List Turn). Follows c.pieces.table.program c.pieces.table.setup.slice c.args.choices.now ts) (sym is) c.pieces.invariant.follows))) c.run_of.ensures.history

pub returns-clause-entries : goal.returns-clause-entries
returns-clause-entries c =
    IfOk-weaker c.run_of.result _ _ (λ r is. subst (λ (s : Setup). length r.history.items ≤ s.turns + 1) c.pieces.invariant.setup is) c.run_of.ensures.entries

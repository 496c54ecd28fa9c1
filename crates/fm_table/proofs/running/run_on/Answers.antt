use Rattle.std.proofs.Common.{◌≡◌, ◌<◌, Bool, true, refl, sym, subst, ◌∙◌, rules}
use Rattle.std.proofs.lemmas.Result.{IfOk-weaker}
use Rattle.fm_base.specs.declared.schedule.Setup.{Setup}
use Rattle.fm_rules.specs.declared.program.Program.{Program}
use Rattle.fm_run.specs.Programs.{IsRun}
use Rattle.fm_table.proofs.Runs.{left_less, left_of, stays_on}
use Rattle.fm_table.proofs.running.run_on.Goals as goal

pub pieces-init : goal.pieces-init
pieces-init c = record { program = refl; setup = refl; alone = c.requires; idle = λ e. absurd (cc e) }

pub pieces-preserved : goal.pieces-preserved
pieces-preserved c =
    let t = c.in_ok-goes_on.ensures in
    let k = stays_on 0 c.pieces.table c.turn.new.self c.in_ok-goes_on.goes_on c.pieces.invariant.alone t.turned t.idle in
    record {
      program = k.program ∙ c.pieces.invariant.program;
      setup = k.setup ∙ c.pieces.invariant.setup;
      alone = k.alone;
      idle = k.idle;
    }

pub pieces-smaller : goal.pieces-smaller
pieces-smaller c =
    let a = c.pieces.table in
    let b = c.turn.new.self in
    let t = c.in_ok-goes_on.ensures in
    let on : c.pieces.goes_on ≡ true = search rules in
    subst (λ (g : Bool). left_of b c.in_ok-goes_on.goes_on < left_of a g) (sym on) (left_less 0 a b c.in_ok-goes_on.goes_on t.turned t.used t.idle)

pub run_of-requires-clause-idle : goal.run_of-requires-clause-idle
run_of-requires-clause-idle c = c.pieces.invariant.idle (search rules)

pub returns : goal.returns
returns c =
    IfOk-weaker c.run_of.result _ _ (λ r is.
    subst (λ (s : Setup). IsRun c.args.begun.program s.turns r) c.pieces.invariant.setup (subst (λ (p : Program). IsRun p c.pieces.table.setup.turns r) c.pieces.invariant.program is)) c.run_of.ensures.run

use Rattle.std.proofs.Common.{refl}
use Rattle.fm_names_declared.proofs.Noted.{judged}
use Rattle.fm_names_declared.proofs.declarations.judge_declarations.Goals as goal

pub returns : goal.returns
returns c =
    judged c.args.titles.now c.args.unit.now c.as_slice-specs.result.now (record { said = c.new.result; best = c.args.best }) c.note_statement.new.notes c.note_specs.new.notes c.args.best c.judge_processors.result
    c.as_slice-specs.ensures c.new.ensures refl c.in_ok-note_statement.ensures c.in_ok-note_specs.ensures c.judge_processors.ensures

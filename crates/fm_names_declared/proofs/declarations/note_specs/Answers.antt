use Rattle.fm_names_declared.proofs.Noted.{specs_more}
use Rattle.fm_names_declared.proofs.declarations.note_specs.Goals as goal

pub specs-preserved : goal.specs-preserved
specs-preserved c =
    specs_more c.args.titles.now c.args.heading.now c.args.specs.now c.specs.placed-index c.placed-item.result c.specs.notes c.note_statement.new.notes c.args.notes.now
    c.specs-test.true c.placed-item.is c.in_ok-note_statement.ensures c.specs.invariant

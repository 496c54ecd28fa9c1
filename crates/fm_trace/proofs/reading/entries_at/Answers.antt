use Rattle.std.proofs.lemmas.Result.{err_from_is_err_and}
use Rattle.fm_trace.specs.Reading.{entries_at}
use Rattle.fm_trace.proofs.Loop.{goes_on, ends, is_done}
use Rattle.fm_trace.proofs.reading.entries_at.Goals as goal

pub returns-in_err-entry : goal.returns-in_err-entry
returns-in_err-entry c =
    let p = err_from_is_err_and c.from_residual-in_err-entry.result c.from_residual-in_err-entry.ensures.1 in
    rw (p.1, p.2) (ends c.in_err-entry.field-0.0 c.entries.entries c.entries.last c.args.count c.entries.place c.args.line c.entries.rest.now (entries_at c.args.before c.args.count c.args.line c.args.bytes.now) c.entries-test.true c.in_err-entry.ensures.entry c.entries.invariant)

pub entries-preserved : goal.entries-preserved
entries-preserved c =
    rw (c.in_ok-push.ensures.ok, c.with_entry-last.ensures)
    (goes_on c.entries.entries c.entries.last c.args.count c.entries.place c.args.line c.entries.rest.now c.in_ok-entry.entry c.in_ok-entry.after.now (entries_at c.args.before c.args.count c.args.line c.args.bytes.now) c.entries-test.true c.in_ok-entry.ensures.entry c.entries.invariant)

pub returns : goal.returns
returns c = is_done c.entries.entries c.entries.last c.args.count c.entries.place c.args.line c.entries.rest.now (entries_at c.args.before c.args.count c.args.line c.args.bytes.now) c.entries-test.false c.entries.invariant

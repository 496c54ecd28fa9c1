use Rattle.fm_trace.proofs.MalformedLaws.{cause_is, whole_is}
use Rattle.fm_trace.proofs.TraceLaws.{is_found}
use Rattle.fm_trace.proofs.reading.read.Goals as goal

pub returns-clause-trace : goal.returns-clause-trace
returns-clause-trace c = is_found c.args.bytes.now c.trace_of.result c.trace_of.ensures

pub returns-clause-whole : goal.returns-clause-whole
returns-clause-whole c = λ t h. whole_is c.args.bytes.now t c.trace_of.result h c.trace_of.ensures

pub returns-clause-malformed : goal.returns-clause-malformed
returns-clause-malformed c = cause_is c.args.bytes.now c.trace_of.result c.trace_of.ensures

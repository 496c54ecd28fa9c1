use Rattle.fm_trace.proofs.MalformedLaws.{either_way, no_line_of_a_trace, one_first_line, one_trace_text}
use Rattle.fm_trace.proofs.laws.one_answer.Goals as goal

pub returns : goal.returns
returns c = record { either = either_way; one_trace = one_trace_text; one_line = one_first_line; not_both = no_line_of_a_trace }

use Rattle.std.specs.Prelude.{None}
use Rattle.fm_trace.proofs.HistoryLaws.{history_again, trace_of_its_history, written_again}
use Rattle.fm_trace.proofs.RunLaws.{each_alone}
use Rattle.fm_trace.proofs.laws.one_history.Goals as goal

pub returns : goal.returns
returns c = record { history = history_again; form_2 = trace_of_its_history; form_1 = λ t h. each_alone None t.entries h; written = written_again }

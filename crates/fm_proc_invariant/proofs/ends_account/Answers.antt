use Rattle.fm_code_preserves.specs.Rooms.{is_port_word, port_spans}
use Rattle.fm_proc_invariant.proofs.Kept.{all_masked, keeps_some}
use Rattle.fm_proc_invariant.proofs.ends_account.Goals as goal
use Rattle.std.proofs.Common.{length}

pub returns : goal.returns
returns c = λ cells formals words laid le. keeps_some (is_port_word cells) formals (port_spans cells) words (all_masked cells (length words) laid le)

use Rattle.fm_report.proofs.Lines.{names_each}
use Rattle.fm_report.proofs.text.reports_name_each.Goals as goal

pub returns : goal.returns
returns c = names_each

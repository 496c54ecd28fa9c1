use Rattle.fm_mean.proofs.Laws.{commutes_along, one_writer_along, settles}
use Rattle.fm_mean.proofs.schedules_settle.Goals as goal

pub returns : goal.returns
returns c = record { one_writer = one_writer_along; commute = commutes_along; settle = settles }

use Rattle.fm_base.proofs.PathLaws.{path_total, path_exact, channel_total, channel_exact}
use Rattle.fm_base.proofs.path.orders_are_total_and_exact.Goals as goal

pub returns : goal.returns
returns c = record { paths_total = path_total; paths_exact = path_exact; channels_total = channel_total; channels_exact = channel_exact }

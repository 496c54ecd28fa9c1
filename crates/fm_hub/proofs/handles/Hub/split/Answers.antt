use Rattle.std.proofs.Common.{arith}
use Rattle.fm_hub.proofs.Turns.{splits}
use Rattle.fm_hub.proofs.handles.Hub.split.Goals as goal

pub split_seat-place-requires : goal.split_seat-place-requires
split_seat-place-requires g c = let w = c.args.self.now.one_word in (c.requires, omega arith, splits g.T.KeepsHistory.history_of _ _)

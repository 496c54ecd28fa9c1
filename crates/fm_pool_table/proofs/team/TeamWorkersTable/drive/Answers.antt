use denote.Param.Send.{arg_send, param_send}
use Rattle.fm_pool_table.proofs.team.TeamWorkersTable.drive.Goals as goal
use Rattle.fm_pool_table.proofs.Crosses.{table_send, piece_send}

-- src/team.rt:22:14
pub play-requires-send-T : goal.play-requires-send-T
play-requires-send-T g c κs within = search (param_send, arg_send, table_send)

-- src/team.rt:22:14
pub play-requires-send-T-Piece : goal.play-requires-send-T-Piece
play-requires-send-T-Piece g c κs within = search (param_send, arg_send, piece_send)

use denote.Param.Send.{arg_send, param_send}
use Rattle.fm_pool_table.proofs.Crosses.{piece_send}
use Rattle.fmc_rows.proofs.seats.two_seats.Goals as goal

pub take-requires-send-T-Piece : goal.take-requires-send-T-Piece
take-requires-send-T-Piece g c κs = search (param_send, arg_send, piece_send)

pub give-requires-send-T-Piece : goal.give-requires-send-T-Piece
give-requires-send-T-Piece g c κs = search (param_send, arg_send, piece_send)

pub phase-requires-send-T-Piece : goal.phase-requires-send-T-Piece
phase-requires-send-T-Piece g c κs = search (param_send, arg_send, piece_send)

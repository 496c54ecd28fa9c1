use Rattle.fm_procs.specs.Readings.{actor_place, state_of}
use Rattle.fm_procs.proofs.Placing.{two_ok}
use Rattle.fm_procs.proofs.Table.{new_along}
use Rattle.fm_procs.proofs.pieces.make_piece.Goals as goal

pub make_piece-requires-clause-told : goal.make_piece-requires-clause-told
make_piece-requires-clause-told c = c.requires.kept.told

pub make_piece-requires-clause-families : goal.make_piece-requires-clause-families
make_piece-requires-clause-families c = c.requires.kept.families

pub make_piece-requires-clause-fits : goal.make_piece-requires-clause-fits
make_piece-requires-clause-fits c = tt

pub make_piece-requires-clause-new : goal.make_piece-requires-clause-new
make_piece-requires-clause-new c = new_along (state_of c.args.procs.now) (actor_place c.args.actor.now) c.requires.new

pub returns-clause-kept : goal.returns-clause-kept
returns-clause-kept c = two_ok c.make_piece.result (λ r told families. record { told = told; families = families }) c.make_piece.ensures.told c.make_piece.ensures.families

use Rattle.fm_hub_pool.proofs.turns.next_piece.Goals as goal

pub returns-in-Runs-clause-served : goal.returns-in-Runs-clause-served
returns-in-Runs-clause-served g c = (_, _, c.in-Runs.ensures.next)

pub returns-in-Stops-clause-served : goal.returns-in-Stops-clause-served
returns-in-Stops-clause-served g c = (_, _, c.in-Stops.ensures.next)

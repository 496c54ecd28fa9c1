use Rattle.fm_pool.proofs.room.Room.next_at.Goals as goal

pub returns-in-Runs : goal.returns-in-Runs
returns-in-Runs g c = (c.deref_mut.result.now, c.next-in-turns.new.self, c.in-Runs.ensures.next)

pub returns-in-Stops : goal.returns-in-Stops
returns-in-Stops g c = (c.deref_mut.result.now, c.next-in-turns.new.self, c.in-Stops.ensures.next)

use Rattle.fm_pool.proofs.room.Room.next.Goals as goal

pub returns : goal.returns
returns g c = c.next_at.ensures

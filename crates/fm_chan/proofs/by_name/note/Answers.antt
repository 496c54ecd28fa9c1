use Rattle.std.proofs.Common.{Some, ap, sym, arith, ◌∙◌}
use Rattle.fm_chan.specs.Readers.{count_of}
use Rattle.fm_chan.specs.Received.{pops_at}
use Rattle.fm_chan.proofs.Maps.{chan_found, unchanged_at, keep_room, reader_was, reader_is, reader_there, noted_at, not_there}
use Rattle.fm_chan.proofs.Waits.{noted_waits, same_waits}
use Rattle.fm_chan.proofs.by_name.note.Goals as goal

pub returns-clause-channels : goal.returns-clause-channels
returns-clause-channels c = unchanged_at c.args.bodies.now (c.get_mut.follows.lender c.note.new.self) c.args.name.now c.in-Some.body.now c.note.new.self c.in-Some.ensures.value (c.get_mut.follows.holds c.note.new.self) c.note.ensures.chan

pub returns-clause-here : goal.returns-clause-here
returns-clause-here c = reader_is c.args.bodies.now (c.get_mut.follows.lender c.note.new.self) c.args.name.now c.in-Some.body.now c.note.new.self c.in-Some.ensures.value (c.get_mut.follows.holds c.note.new.self) ∙ noted_waits c.note.new.self (same_waits c.in-Some.body.now c.note.new.self c.note.ensures.chan (sym (ap pops_at (chan_found c.args.bodies.now c.args.name.now (Some c.in-Some.body.now) c.in-Some.ensures.value)) ∙ c.requires.waits)) ∙ c.note.ensures.reader

pub returns-clause-before : goal.returns-clause-before
returns-clause-before c = c.note.ensures.before ∙ sym (reader_was c.args.bodies.now (c.get_mut.follows.lender c.note.new.self) c.args.name.now c.in-Some.body.now c.note.new.self c.in-Some.ensures.value (c.get_mut.follows.holds c.note.new.self) ∙ noted_waits c.in-Some.body.now (sym (ap pops_at (chan_found c.args.bodies.now c.args.name.now (Some c.in-Some.body.now) c.in-Some.ensures.value)) ∙ c.requires.waits))

pub returns-clause-others : goal.returns-clause-others
returns-clause-others c = reader_there c.args.bodies.now (c.get_mut.follows.lender c.note.new.self) c.args.name.now c.in-Some.body.now c.note.new.self c.in-Some.ensures.value (c.get_mut.follows.holds c.note.new.self)

pub returns-clause-noted : goal.returns-clause-noted
returns-clause-noted c = omega (arith, noted_at c.args.bodies.now (c.get_mut.follows.lender c.note.new.self) c.args.name.now c.in-Some.body.now c.note.new.self c.in-Some.ensures.value (c.get_mut.follows.holds c.note.new.self), ap count_of c.note.ensures.before, ap count_of c.note.ensures.reader)

pub returns-clause-room : goal.returns-clause-room
returns-clause-room c = keep_room c.args.bodies.now (c.get_mut.follows.lender c.note.new.self) c.args.name.now c.in-Some.body.now c.note.new.self c.in-Some.ensures.value (c.get_mut.follows.holds c.note.new.self) c.note.ensures.room

pub unreachable-requires : goal.unreachable-requires
unreachable-requires c = not_there c.args.bodies.now c.args.name.now c.requires.there c.in-None.ensures.value

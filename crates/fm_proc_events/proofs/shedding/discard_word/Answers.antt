use Rattle.std.proofs.Common.{sym, w64, ◌∙◌}
use Rattle.std.proofs.lemmas.Int.{to_z-of_z}
use Rattle.std.specs.Prelude.{None, Some}
use Rattle.fm_chan.specs.Bodies.{chans_of}
use Rattle.fm_chan.proofs.Waking.{wakes_all, wakes_nobody}
use Rattle.fm_discards.proofs.Shedding.{all_shed-nil}
use Rattle.fm_proc_events.proofs.Discards.{none_discarded, one_discarded}
use Rattle.fm_proc_events.proofs.shedding.discard_word.Goals as goal

pub returns-in-Some-clause-gone : goal.returns-in-Some-clause-gone
returns-in-Some-clause-gone c =
    let z = c.args.word in
    one_discarded _ z c.args.slots.now c.drain.new.self (chans_of c.args.channels.now) (chans_of c.discard.new.self) (Some c.in-Some.port) (to_z-of_z w64 z c.ranges.word) (sym c.is_port.ensures ∙ c.if-is_port.true)
    (sym c.in-Some.is ∙ c.drain.ensures.port) c.drain.ensures.slots c.discard.ensures.channels

pub returns-in-Some-clause-waking : goal.returns-in-Some-clause-waking
returns-in-Some-clause-waking c = wakes_all c.args.channels.now c.discard.new.self c.discard.ensures.waking

pub returns-in-None-clause-gone : goal.returns-in-None-clause-gone
returns-in-None-clause-gone c =
    let z = c.args.word in
    let cs = chans_of c.args.channels.now in
    one_discarded _ z c.args.slots.now c.drain.new.self cs cs None (to_z-of_z w64 z c.ranges.word) (sym c.is_port.ensures ∙ c.if-is_port.true)
    (sym c.in-None.is ∙ c.drain.ensures.port) c.drain.ensures.slots (sym (all_shed-nil cs))

pub returns-in-None-clause-waking : goal.returns-in-None-clause-waking
returns-in-None-clause-waking c = wakes_nobody c.args.channels.now

pub returns-else-is_port-clause-gone : goal.returns-else-is_port-clause-gone
returns-else-is_port-clause-gone c =
    let z = c.args.word in
    none_discarded _ z c.args.slots.now (chans_of c.args.channels.now) (to_z-of_z w64 z c.ranges.word) (sym c.is_port.ensures ∙ c.if-is_port.false)

pub returns-else-is_port-clause-waking : goal.returns-else-is_port-clause-waking
returns-else-is_port-clause-waking c = wakes_nobody c.args.channels.now

use Rattle.std.proofs.Common.{◌++◌, ap, ◌∙◌, vec_capacity, vec_len}
use Rattle.std.specs.FinMap.{get, insert}
use Rattle.fm_base.specs.declared.path.ChanName.{ChanName}
use Rattle.fm_base.specs.Channels.{fresh}
use Rattle.fm_chan.specs.Bodies.{chans_of}
use Rattle.fm_chan.proofs.Waking.{wakes_all_then}
use Rattle.fm_code.specs.Statements.{with_words}
use Rattle.fm_net.specs.Lawful.{ports_from}
use Rattle.fm_proc_language.specs.Frames.{all_placed}
use Rattle.fm_proc_slots.specs.Helds.{held}
use Rattle.fm_proc_slots.specs.Rooms.{slots_in}
use Rattle.fm_proc_events.specs.Phases.{proc_of}
use Rattle.fm_proc_events.proofs.NewChannels.{empty_for_ports, is_absent, makes, room_for_ports}
use Rattle.fm_proc_events.proofs.making.make.Goals as goal

pub new_channel-requires : goal.new_channel-requires
new_channel-requires c =
    let y = proc_of c.args.process.now in
    let m = chans_of c.args.channels.now in
    ap (λ v. get m (record { maker = v; number = y.next_channel })) c.in_ok-maker.ensures
    ∙ is_absent c.args.path.now y m c.args.next c.args.numbers.now c.args.writers c.args.cost c.requires.makes c.requires.new

pub place-requires : goal.place-requires
place-requires c =
    let name : ChanName = record { maker = c.in_ok-maker.maker; number = c.args.process.now.next_channel } in
    let n = c.args.writers in
    record {
      slots = room_for_ports c.in_ok-slots.slots name n c.in-Ok.ports.items c.in-Ok.ensures.ports c.in_ok-slots.ensures.opened.1;
      drops = empty_for_ports (vec_len c.in_ok-drops.drops) (vec_capacity c.in_ok-drops.drops) name n c.in-Ok.ports.items c.in-Ok.ensures.ports c.in_ok-drops.ensures.len c.in_ok-drops.ensures.capacity;
    }

pub returns-in-Ok-clause-performs : goal.returns-in-Ok-clause-performs
returns-in-Ok-clause-performs c =
    let y = proc_of c.args.process.now in
    let m = chans_of c.args.channels.now in
    let n = c.args.writers in
    let b = c.in-Some.body in
    let numbers = c.args.numbers.now in
    let ports = c.in-Ok.ports.items in
    let opened = c.in_ok-slots.ensures.opened.0 in
    makes c.args.path.now y m c.args.next numbers n c.args.cost c.requires.makes
    b c.in-Some.is
    ports (c.in-Ok.ensures.ports ∙ ap (λ v. ports_from (record { maker = v; number = y.next_channel }) n) c.in_ok-maker.ensures)
    c.place.new.body (c.place.ensures.body ∙ ap (λ s. with_words b c.args.next (all_placed (held b.frame.words s) numbers ports).0.words) opened)
    c.from_open.result (c.from_open.ensures ∙ c.place.ensures.slots ∙ ap (λ s. (all_placed (held b.frame.words s) numbers ports).0.slots) opened)
    c.place.new.drops.items
    (c.place.ensures.drops ∙ ap (λ l. l ++ (all_placed (held b.frame.words (slots_in c.in_ok-slots.slots)) numbers ports).1) c.in_ok-drops.ensures.items ∙ ap (λ s. (all_placed (held b.frame.words s) numbers ports).1) opened)
    (chans_of c.new_channel.new.channels) (c.in-Ok.ensures.channels ∙ ap (λ v. insert m (record { maker = v; number = y.next_channel }) (fresh n)) c.in_ok-maker.ensures)
    (chans_of c.shed.new.channels) c.shed.ensures.channels
    c.in_ok-after.after c.in_ok-after.ensures

pub returns-in-Ok-clause-waking : goal.returns-in-Ok-clause-waking
returns-in-Ok-clause-waking c = wakes_all_then c.args.channels.now c.new_channel.new.channels c.shed.new.channels c.in-Ok.ensures.waking c.shed.ensures.waking

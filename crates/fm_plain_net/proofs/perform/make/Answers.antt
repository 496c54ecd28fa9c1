use Rattle.std.proofs.Common.{[], ap, sym, subst, ◌∙◌}
use Rattle.std.specs.FinMap.{get, insert}
use Rattle.fm_base.specs.Channels.{all_shed, fresh}
use Rattle.fm_chan.specs.Bodies.{chans_of}
use Rattle.fm_net.specs.Lawful.{ports_from}
use Rattle.fm_net.specs.Owned.{name_of}
use Rattle.fm_plain_frame.specs.Frames.{proc_of}
use Rattle.fm_plain_replies.specs.Goes.{after_make}
use Rattle.fm_plain_net.specs.Held.{AreKept, AreOnce, StayBut}
use Rattle.fm_plain_net.proofs.Performing.{comes_and_goes, dropped_kept, make_drops, makes, nobody}
use Rattle.fm_chan.proofs.Waking.{wakes_all_then}
use Rattle.fm_plain_net.proofs.perform.make.Goals as goal

pub new_channel-requires : goal.new_channel-requires
new_channel-requires c = ap (get (chans_of c.args.channels.now)) (c.in_ok-name.ensures c.args.program.now) ∙ c.requires.can.absent

pub discard_all-requires-clause-kept : goal.discard_all-requires-clause-kept
discard_all-requires-clause-kept c =
    let P = c.args.program.now in
    let p = c.args.path.now in
    let x = proc_of P c.args.process.now in
    let m = chans_of c.args.channels.now in
    let ports = c.args.ports.now in
    let mid = c.new_channel.new.ports in
    let n = c.args.writers in
    let named = c.in_ok-name.ensures P in
    let name = name_of p x.next_channel in
    let out = c.in_ok-let_go.ensures.ok name n c.args.cost (c.in_ok-values.ensures ∙ ap (λ d. ports_from d n) named) in
    let may = make_drops P p x m [] ports mid c.args.places.now n c.args.cost c.args.next c.requires.event c.requires.can in
    let came = subst (λ d. AreKept mid (ports_from d n)) named c.in_ok-new_channel.ensures.came in
    subst (AreKept mid) (sym out.1) (dropped_kept (ports_from name n) (after_make x c.args.next c.args.places.now n c.args.cost name).drops ports mid may came c.in_ok-new_channel.ensures.others)

pub discard_all-requires-clause-once : goal.discard_all-requires-clause-once
discard_all-requires-clause-once c =
    let P = c.args.program.now in
    let p = c.args.path.now in
    let x = proc_of P c.args.process.now in
    let m = chans_of c.args.channels.now in
    let ports = c.args.ports.now in
    let mid = c.new_channel.new.ports in
    let n = c.args.writers in
    let named = c.in_ok-name.ensures P in
    let name = name_of p x.next_channel in
    let out = c.in_ok-let_go.ensures.ok name n c.args.cost (c.in_ok-values.ensures ∙ ap (λ d. ports_from d n) named) in
    let may = make_drops P p x m [] ports mid c.args.places.now n c.args.cost c.args.next c.requires.event c.requires.can in
    let came = subst (λ d. AreKept mid (ports_from d n)) named c.in_ok-new_channel.ensures.came in
    subst AreOnce (sym out.1) may.once

pub returns-clause-performs : goal.returns-clause-performs
returns-clause-performs c =
    let P = c.args.program.now in
    let p = c.args.path.now in
    let x = proc_of P c.args.process.now in
    let m = chans_of c.args.channels.now in
    let ports = c.args.ports.now in
    let mid = c.new_channel.new.ports in
    let n = c.args.writers in
    let named = c.in_ok-name.ensures P in
    let name = name_of p x.next_channel in
    let out = c.in_ok-let_go.ensures.ok name n c.args.cost (c.in_ok-values.ensures ∙ ap (λ d. ports_from d n) named) in
    let may = make_drops P p x m [] ports mid c.args.places.now n c.args.cost c.args.next c.requires.event c.requires.can in
    let came = subst (λ d. AreKept mid (ports_from d n)) named c.in_ok-new_channel.ensures.came in
    let later = c.discard_all.new.ports in
    let drops = (after_make x c.args.next c.args.places.now n c.args.cost name).drops in
    nobody P p x m [] ports (proc_of P c.put_ports.new.process) (chans_of c.discard_all.new.channels) later c.args.cost
    (makes P p x m [] ports later c.args.places.now n c.args.cost c.args.next c.requires.event c.requires.can (proc_of P c.put_ports.new.process) out.0
    (chans_of c.discard_all.new.channels) (c.discard_all.ensures.channels ∙ ap (λ zs. all_shed zs (chans_of c.new_channel.new.channels)) out.1 ∙ ap (all_shed drops) (c.in_ok-new_channel.ensures.channels ∙ ap (λ d. insert m d (fresh n)) named))
    (comes_and_goes (ports_from name n) drops ports mid later came c.in_ok-new_channel.ensures.others (subst (λ zs. StayBut zs mid later) out.1 c.discard_all.ensures.others)))
    c.alone.result.children.items c.alone.ensures.children c.alone.result.cost c.alone.ensures.cost

pub returns-clause-waking : goal.returns-clause-waking
returns-clause-waking c = wakes_all_then c.args.channels.now c.new_channel.new.channels c.discard_all.new.channels c.in_ok-new_channel.ensures.waking c.discard_all.ensures.waking

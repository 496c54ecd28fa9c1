use Rattle.std.proofs.Common.{◌+◌, ap, sym, subst, ◌∙◌}
use Rattle.fm_base.specs.Channels.{all_shed, message_ports}
use Rattle.fm_chan.specs.Bodies.{chans_of}
use Rattle.fm_mean.specs.Actions.{message_words}
use Rattle.fm_plain_frame.specs.Frames.{proc_of}
use Rattle.fm_plain_replies.specs.Goes.{after_message}
use Rattle.fm_plain_passing.specs.Items.{message_of}
use Rattle.fm_plain_net.specs.Held.{AreKept, AreOnce, StayBut}
use Rattle.fm_plain_net.proofs.Performing.{comes_and_goes, dropped_kept}
use Rattle.fm_plain_net.proofs.perform.store.Goals as goal

pub discard_all-requires-clause-kept : goal.discard_all-requires-clause-kept
discard_all-requires-clause-kept c =
    let x = proc_of c.args.program.now c.args.process.now in
    let out = c.in_ok-let_go.ensures.ok in
    let is = c.in_ok-items.ensures.items in
    subst (AreKept c.unpacked.new.ports) (sym (out.1 ∙ ap (λ v. (after_message x c.args.next c.args.places.now c.args.iostat v).drops) is))
    (dropped_kept (message_ports c.args.message) (after_message x c.args.next c.args.places.now c.args.iostat c.args.message).drops c.args.ports.now c.unpacked.new.ports c.requires c.in_ok-items.ensures.came c.in_ok-items.ensures.others)

pub discard_all-requires-clause-once : goal.discard_all-requires-clause-once
discard_all-requires-clause-once c =
    let x = proc_of c.args.program.now c.args.process.now in
    subst AreOnce (sym (c.in_ok-let_go.ensures.ok.1 ∙ ap (λ v. (after_message x c.args.next c.args.places.now c.args.iostat v).drops) c.in_ok-items.ensures.items)) c.requires.once

pub returns-clause-process : goal.returns-clause-process
returns-clause-process c =
    let x = proc_of c.args.program.now c.args.process.now in
    c.in_ok-let_go.ensures.ok.0 ∙ ap (λ v. (after_message x c.args.next c.args.places.now c.args.iostat v).self) c.in_ok-items.ensures.items

pub returns-clause-channels : goal.returns-clause-channels
returns-clause-channels c =
    let x = proc_of c.args.program.now c.args.process.now in
    c.discard_all.ensures.channels ∙ ap (λ zs. all_shed zs (chans_of c.args.channels.now)) (c.in_ok-let_go.ensures.ok.1 ∙ ap (λ v. (after_message x c.args.next c.args.places.now c.args.iostat v).drops) c.in_ok-items.ensures.items)

pub returns-clause-ports : goal.returns-clause-ports
returns-clause-ports c =
    let x = proc_of c.args.program.now c.args.process.now in
    let drops = (after_message x c.args.next c.args.places.now c.args.iostat c.args.message).drops in
    comes_and_goes (message_ports c.args.message) drops c.args.ports.now c.unpacked.new.ports c.discard_all.new.ports c.in_ok-items.ensures.came c.in_ok-items.ensures.others
    (subst (λ zs. StayBut zs c.unpacked.new.ports c.discard_all.new.ports) (c.in_ok-let_go.ensures.ok.1 ∙ ap (λ v. (after_message x c.args.next c.args.places.now c.args.iostat v).drops) c.in_ok-items.ensures.items) c.discard_all.ensures.others)

pub returns-clause-cost : goal.returns-clause-cost
returns-clause-cost c = c.in_ok-cost.ensures ∙ ap (λ v. 1 + message_words (message_of v)) c.as_slice.ensures ∙ ap (λ v. 1 + message_words v) c.in_ok-items.ensures.items

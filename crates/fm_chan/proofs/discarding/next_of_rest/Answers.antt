use Rattle.std.proofs.Common.{◌++◌, ap, sym, ◌∙◌}
use Rattle.fm_base.specs.Channels.{queue_ports}
use Rattle.fm_chan.specs.Rest.{ports_in, items_ports}
use Rattle.fm_chan.proofs.Packing.{next_message}
use Rattle.fm_chan.proofs.discarding.next_of_rest.Goals as goal

pub messages-preserved : goal.messages-preserved
messages-preserved c =
    let old = c.messages.rest in
    let new = c.next_of_items-port.new in
    let queue = queue_ports c.pop_front.new.self.items in
    c.messages.invariant ∙ next_message c.next_of_items-port.result (ports_in old.ports.items) (items_ports old.items.items) (ports_in new.ports.items) (items_ports new.items.items) (queue_ports old.queue.items) (items_ports c.unpack_message.result.items) queue
    (sym c.is_some.ensures ∙ c.if-is_some.false) c.next_of_items-port.ensures
    (ap queue_ports c.in-Some.ensures.items ∙ ap (λ ps. ps ++ queue) (sym c.unpack_message.ensures))

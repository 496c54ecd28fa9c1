use Rattle.std.proofs.Common.{ap, sym, ◌∙◌}
use Rattle.fm_base.specs.Channels.{message_ports}
use Rattle.fm_chan.specs.Items.{plain_message}
use Rattle.fm_chan.specs.Rest.{items_ports}
use Rattle.fm_chan.proofs.Packing.{ports_of_items}
use Rattle.fm_chan.proofs.discarding.unpack_message.Goals as goal

pub returns-in-Items : goal.returns-in-Items
returns-in-Items c =
    ap items_ports c.from_vec.ensures.items ∙ ap items_ports c.into_vec.ensures ∙ ap items_ports c.in-Items.items-is ∙ ports_of_items c.in-Items.items ∙ ap (λ k. message_ports (plain_message k)) (sym c.in-Items.is)
    ∙ ap message_ports c.message.view_is

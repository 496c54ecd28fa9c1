use Rattle.std.proofs.Common.{◌∷◌, [], ap, sym, subst, ◌∙◌}
use Rattle.fm_base.specs.Channels.{Ports, message_ports}
use Rattle.fm_plain_passing.specs.Items.{item_of}
use Rattle.fm_plain_net.specs.Held.{AreKept, AreOnce, StayBut}
use Rattle.fm_plain_net.proofs.Loads.{one_item}
use Rattle.fm_plain_net.proofs.messages.take_item.Goals as goal

pub returns-in-Words-clause-others : goal.returns-in-Words-clause-others
returns-in-Words-clause-others c = λ z off k. k

pub take_ports-requires-clause-kept : goal.take_ports-requires-clause-kept
take_ports-requires-clause-kept c = subst (AreKept c.args.ports.now) (ap (λ i. message_ports (item_of i ∷ [])) c.in-Ports.is ∙ one_item c.in-Ports.values) c.requires.kept

pub take_ports-requires-clause-once : goal.take_ports-requires-clause-once
take_ports-requires-clause-once c = subst AreOnce (ap (λ i. message_ports (item_of i ∷ [])) c.in-Ports.is ∙ one_item c.in-Ports.values) c.requires.once

pub returns-in_ok-all-in-Ports-clause-item : goal.returns-in_ok-all-in-Ports-clause-item
returns-in_ok-all-in-Ports-clause-item c = ap Ports (c.from_vec.ensures ∙ c.in_ok-all-in-Ports.ensures.ports) ∙ sym (ap item_of c.in-Ports.is)

pub returns-in_ok-all-in-Ports-clause-others : goal.returns-in_ok-all-in-Ports-clause-others
returns-in_ok-all-in-Ports-clause-others c = subst (λ zs. StayBut zs c.args.ports.now c.take_ports.new.ports) (sym (ap (λ i. message_ports (item_of i ∷ [])) c.in-Ports.is ∙ one_item c.in-Ports.values)) c.in_ok-all-in-Ports.ensures.others

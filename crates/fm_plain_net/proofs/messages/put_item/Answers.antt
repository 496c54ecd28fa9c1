use Rattle.std.proofs.Common.{◌∷◌, [], ap, sym, subst, ◌∙◌}
use Rattle.fm_base.specs.Channels.{Ports, message_ports}
use Rattle.fm_chan.specs.Items.{plain_item}
use Rattle.fm_plain_net.specs.Held.{AreKept}
use Rattle.fm_plain_net.proofs.Loads.{kept_none, one_item}
use Rattle.fm_plain_net.proofs.messages.put_item.Goals as goal

pub returns-in-Words-clause-came : goal.returns-in-Words-clause-came
returns-in-Words-clause-came c = subst (λ i. AreKept c.args.ports.now (message_ports (plain_item i ∷ []))) (sym c.in-Words.is) (kept_none c.args.ports.now)

pub returns-in-Words-clause-others : goal.returns-in-Words-clause-others
returns-in-Words-clause-others c = λ z k. k

pub returns-in_ok-values-in-Ports-clause-item : goal.returns-in_ok-values-in-Ports-clause-item
returns-in_ok-values-in-Ports-clause-item c = ap Ports (c.from_vec.ensures ∙ c.in_ok-values-in-Ports.ensures.values) ∙ sym (ap plain_item c.in-Ports.is)

pub returns-in_ok-values-in-Ports-clause-came : goal.returns-in_ok-values-in-Ports-clause-came
returns-in_ok-values-in-Ports-clause-came c = subst (AreKept c.put_all.new.ports) (sym (ap (λ i. message_ports (plain_item i ∷ [])) c.in-Ports.is ∙ one_item c.in-Ports.all)) c.in_ok-values-in-Ports.ensures.came

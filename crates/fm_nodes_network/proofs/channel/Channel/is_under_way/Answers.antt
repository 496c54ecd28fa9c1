use Rattle.std.proofs.Common.{◌≡◌, ◌-◌, ap, ap₂, ◌∙◌, slice_get, ℕ}
use Rattle.std.specs.Prelude.{is_some}
use Rattle.fm_nodes_network.specs.Channel.{linked_of}
use Rattle.fm_nodes_network.proofs.Leaving.{first_number, none_waits, number_there}
use Rattle.fm_nodes_network.proofs.channel.Channel.is_under_way.Goals as goal

pub returns-in-Some : goal.returns-in-Some
returns-in-Some c =
    let l = linked_of c.args.self.now in
    let ahead : c.saturating_sub-ahead.result ≡ l.incoming.arrived - l.outgoing.acknowledged =
    c.saturating_sub-ahead.ensures ∙ ap₂ (λ (a b : ℕ). a - b) c.ack.ensures (first_number l.outgoing c.in-Some.first c.in-Some.ensures.number) in
    c.is_some.ensures ∙ ap is_some c.number-in-Some.ensures.number ∙ number_there l.outgoing c.saturating_sub-ahead.result ∙ ap (λ (k : ℕ). is_some (slice_get l.outgoing.waiting k)) ahead

pub returns-in-None : goal.returns-in-None
returns-in-None c =
    let l = linked_of c.args.self.now in
    none_waits l.outgoing (l.incoming.arrived - l.outgoing.acknowledged) c.in-None.ensures.number

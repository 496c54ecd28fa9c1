use Rattle.std.proofs.Common.{arith, ap, subst, sym, ◌∙◌, length}
use Rattle.fm_link_law.specs.Channels.{shut_ports}
use Rattle.fm_link_law.specs.Steps.{AreOpen}
use Rattle.fm_nodes_network.specs.Channels.{linked_chans_of}
use Rattle.fm_nodes_hosts.proofs.dropping.let_go.Goals as goal

pub shut-requires : goal.shut-requires
shut-requires g c = (subst (AreOpen (linked_chans_of c.ports.channels)) c.in-Some.ensures.ports c.ports.invariant.are_open).0

pub ports-preserved : goal.ports-preserved
ports-preserved g c =
    let ls = linked_chans_of c.ports.channels in
    let rest = g.R.Runner.let_go c.args.runner.now c.next_drop.new.drops in
    record {
      left = ap (shut_ports rest) c.shut.ensures ∙ sym (ap (λ zs. shut_ports zs ls) c.in-Some.ensures.ports) ∙ c.ports.invariant.left;
      are_open = subst (λ ms. AreOpen ms rest) (sym c.shut.ensures) (subst (AreOpen ls) c.in-Some.ensures.ports c.ports.invariant.are_open).1;
    }

pub ports-smaller : goal.ports-smaller
ports-smaller g c = omega (arith, ap length c.in-Some.ensures.ports)

pub returns : goal.returns
returns g c = ap (λ zs. shut_ports zs (linked_chans_of c.ports.channels)) (sym (c.in_default.ensures.ports ∙ c.in_default.ensures.none)) ∙ c.ports.invariant.left

use Rattle.std.proofs.Common.{ap, refl, subst}
use Rattle.std.specs.Prelude.{Ok}
use Rattle.fm_link_law.specs.Hosts.{lost}
use Rattle.fm_plain_frame.specs.Frames.{proc_of}
use Rattle.fm_nodes_network.specs.Network.{hosts_of}
use Rattle.fm_nodes_hosts.specs.Runs.{IsMoved}
use Rattle.fm_nodes_hosts.specs.States.{hosts_in, run_of}
use Rattle.fm_nodes_hosts.proofs.Travelling.{lost_in}
use Rattle.fm_nodes_trees.specs.Trees.{program_of}
use Rattle.fm_nodes.specs.Nodes.{Hosted, setting_of}
use Rattle.fm_nodes.proofs.Moving.{moved}
use Rattle.fm_nodes.proofs.NodeLaws.{lost_sound}
use Rattle.fm_nodes.proofs.nodes.Nodes.lose.Goals as goal

pub invariant_of-self : goal.invariant_of-self
invariant_of-self c =
    let t = c.self.inside.trees in
    let s = c.self.inside.state in
    let p = program_of t in
    let seen = proc_of p in
    let n = c.lose.new.self in
    let later = lost (hosts_of s.network) c.args.place in
    let does = moved seen s n (lost (hosts_in seen s.processes s.network) c.args.place) later (lost_in seen s.processes s.network c.args.place later refl) (Ok c.lose.result) c.lose.ensures.loses c.lose.ensures.none tt in
    record { plain = c.self.invariant.plain; played = lost_sound p c.self.invariant.plain (run_of seen s) _ c.self.invariant.played c.args.place (Ok c.lose.result) does }

pub returns-clause-done : goal.returns-clause-done
returns-clause-done c =
    let t = c.self.inside.trees in
    let s = c.self.inside.state in
    let seen = proc_of (program_of t) in
    let n = c.lose.new.self in
    let later = lost (hosts_of s.network) c.args.place in
    let does = moved seen s n (lost (hosts_in seen s.processes s.network) c.args.place) later (lost_in seen s.processes s.network c.args.place later refl) (Ok c.lose.result) c.lose.ensures.loses c.lose.ensures.none tt in
    subst (λ (h : Hosted). IsMoved (lost h.run.hosts c.args.place) h.run (run_of seen (record s { network = n })) (Ok c.lose.result)) c.self.view_is does

pub returns-clause-same : goal.returns-clause-same
returns-clause-same c = ap setting_of c.self.view_is

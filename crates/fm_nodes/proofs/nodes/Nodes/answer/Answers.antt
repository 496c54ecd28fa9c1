use Rattle.std.proofs.Common.{ap, refl, subst}
use Rattle.fm_link_law.specs.Hosts.{answered}
use Rattle.fm_plain_frame.specs.Frames.{proc_of}
use Rattle.fm_nodes_network.specs.Network.{hosts_of}
use Rattle.fm_nodes_hosts.specs.Runs.{IsMoved}
use Rattle.fm_nodes_hosts.specs.States.{hosts_in, run_of}
use Rattle.fm_nodes_hosts.proofs.Travelling.{answered_in}
use Rattle.fm_nodes_trees.specs.Trees.{program_of}
use Rattle.fm_nodes.specs.Nodes.{Hosted, setting_of}
use Rattle.fm_nodes.proofs.Moving.{moved}
use Rattle.fm_nodes.proofs.NodeLaws.{answered_sound}
use Rattle.fm_nodes.proofs.nodes.Nodes.answer.Goals as goal

pub invariant_of-self : goal.invariant_of-self
invariant_of-self c =
    let t = c.self.inside.trees in
    let s = c.self.inside.state in
    let p = program_of t in
    let seen = proc_of p in
    let n = c.answer.new.self in
    let later = answered (hosts_of s.network) c.args.channel.now in
    let does = moved seen s n (answered (hosts_in seen s.processes s.network) c.args.channel.now) later (answered_in seen s.processes s.network c.args.channel.now later refl) c.answer.result c.answer.ensures.answers c.answer.ensures.none c.answer.ensures.err in
    record { plain = c.self.invariant.plain; played = answered_sound p c.self.invariant.plain (run_of seen s) _ c.self.invariant.played c.args.channel.now _ does }

pub returns-clause-done : goal.returns-clause-done
returns-clause-done c =
    let t = c.self.inside.trees in
    let s = c.self.inside.state in
    let seen = proc_of (program_of t) in
    let n = c.answer.new.self in
    let later = answered (hosts_of s.network) c.args.channel.now in
    let does = moved seen s n (answered (hosts_in seen s.processes s.network) c.args.channel.now) later (answered_in seen s.processes s.network c.args.channel.now later refl) c.answer.result c.answer.ensures.answers c.answer.ensures.none c.answer.ensures.err in
    subst (λ (h : Hosted). IsMoved (answered h.run.hosts c.args.channel.now) h.run (run_of seen (record s { network = n })) c.answer.result) c.self.view_is does

pub returns-clause-same : goal.returns-clause-same
returns-clause-same c = ap setting_of c.self.view_is

use Rattle.fm_plain_frame.specs.Frames.{proc_of}
use Rattle.fm_nodes_plain.proofs.Declared.{told_program}
use Rattle.fm_nodes_hosts.specs.States.{run_of}
use Rattle.fm_nodes_trees.specs.Trees.{program_of}
use Rattle.fm_nodes.proofs.FirstLaws.{first_is, first_sound}
use Rattle.fm_nodes.proofs.nodes.hosted.Goals as goal

pub invariant_of-result : goal.invariant_of-result
invariant_of-result c =
    let t = c.in_ok-trees.trees in
    let s = c.in_ok-state.state in
    let p = program_of t in
    let e = c.in_ok-state.ensures in
    let is = first_is p s c.in_ok-main.main c.in_ok-main.ensures e.map e.order e.channels e.wire e.history e.used in
    record { plain = told_program p t.is_plain; played = first_sound p (run_of (proc_of p) s) is }

pub returns-clause-first : goal.returns-clause-first
returns-clause-first c =
    let t = c.in_ok-trees.trees in
    let s = c.in_ok-state.state in
    let e = c.in_ok-state.ensures in
    first_is (program_of t) s c.in_ok-main.main c.in_ok-main.ensures e.map e.order e.channels e.wire e.history e.used

use Rattle.std.proofs.Common.{◌≡◌, ◌+◌, ◌-◌, ◌<◌, ℕ, Some, sym, ap, ◌∙◌, arith}
use Rattle.std.specs.FinMap.{get}
use Rattle.fm_net.specs.Machine.{Place}
use Rattle.fm_mean.specs.Outcome.{awaited, ended_at}
use Rattle.fm_plain_frame.specs.Frames.{proc_of}
use Rattle.fm_plain_net.proofs.Awaited.{awaited_here, awaited_more}
use Rattle.fm_nodes_procs.specs.Processes.{procs_of}
use Rattle.fm_nodes.proofs.outcome.awaited.Goals as goal

pub children-preserved : goal.children-preserved
children-preserved c = λ p.
    let m = procs_of (proc_of p) c.args.processes.now in
    let low : c.children.place < c.args.count = omega arith in
    let done = ap (λ (q : Place). ended_at (get m q)) (sym c.in_ok-child.ensures) ∙ sym (c.in-Some.ensures p) in
    c.children.invariant p ∙ awaited_more m c.args.path.now c.args.block c.args.count c.children.place low done

pub returns-in-None : goal.returns-in-None
returns-in-None c = λ p.
    let m = procs_of (proc_of p) c.args.processes.now in
    let low : c.children.place < c.args.count = omega arith in
    let open_yet = ap (λ (q : Place). ended_at (get m q)) (sym c.in_ok-child.ensures) ∙ sym (c.in-None.ensures p) in
    ap Some c.in_ok-child.ensures ∙ sym (c.children.invariant p ∙ awaited_here m c.args.path.now c.args.block c.args.count c.children.place low open_yet)

pub returns : goal.returns
returns c = λ p.
    let none : c.args.count - c.children.place ≡ 0 = omega arith in
    sym (c.children.invariant p ∙ ap (λ (n : ℕ). awaited (procs_of (proc_of p) c.args.processes.now) c.args.path.now c.args.block (c.children.place + 1) n) none)

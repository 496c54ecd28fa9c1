use Rattle.std.proofs.Common.{◌≡◌, ◌<◌, Bool, subst, sym, ◌∙◌, arith}
use Rattle.std.specs.Prelude.{OnErr, OnOk, Result}
use Rattle.fm_base.specs.declared.memory.NoMemory.{NoMemory}
use Rattle.fm_mean.specs.Steps.{language}
use Rattle.fm_plain_frame.specs.Frames.{proc_of}
use Rattle.fm_nodes_hosts.specs.Ends.{restarted_run}
use Rattle.fm_nodes_hosts.specs.States.{run_of}
use Rattle.fm_nodes_trees.specs.Trees.{host_of, hosts_on, plan_of, program_of}
use Rattle.fm_nodes.specs.Nodes.{Hosted, IsRestarted, host_in}
use Rattle.fm_nodes.proofs.NodeLaws.{restart_sound, restarts_so}
use Rattle.fm_nodes.proofs.nodes.Nodes.restart.Goals as goal
use Rattle.fm_nodes.proofs.nodes.Nodes.restart.Goals.{in-Ok, in-Err}

pub invariant_of-self : goal.invariant_of-self
invariant_of-self c =
    let t = c.self.inside.trees in
    let p = program_of t in
    record { plain = c.self.invariant.plain; played = restart_sound p c.self.invariant.plain (run_of (proc_of p) c.self.inside.state) _ c.self.invariant.played (host_of p (hosts_on t) (plan_of t)) c.args.host c.restart.result c.restart.ensures.ok c.restart.ensures.err }

pub returns-clause-done : goal.returns-clause-done
returns-clause-done c =
    let t = c.self.inside.trees in
    let p = program_of t in
    let old = run_of (proc_of p) c.self.inside.state in
    let new = run_of (proc_of p) c.restart.new.state in
    elim c.match-restart.branch [
      | in-Ok w ↦
          let low : c.args.host < hosts_on t = omega (arith, c.if-host-hosts.false, c.hosts.ensures) in
          let does = subst (λ (r : Result (Unit {0}) NoMemory). OnOk r (new ≡ restarted_run (language p) (host_of p (hosts_on t) (plan_of t)) c.args.host old)) w.in-Ok.is c.restart.ensures.ok in
          subst (λ (r : Result Bool NoMemory). IsRestarted c.args.self.now c.args.host new r) (sym w.result-is)
          (subst (λ (h : Hosted). (c.args.host < h.hosts) × (new ≡ restarted_run (language h.program) (host_in h) c.args.host h.run)) c.self.view_is
          (low, does ∙ restarts_so p (hosts_on t) (plan_of t) old c.self.invariant.played c.args.host))
      | in-Err w ↦
          let kept = subst (λ (r : Result (Unit {0}) NoMemory). OnErr r (new ≡ old)) w.in-Err.is c.restart.ensures.err in
          subst (λ (r : Result Bool NoMemory). IsRestarted c.args.self.now c.args.host new r) (sym w.result-is) (subst (λ (h : Hosted). new ≡ h.run) c.self.view_is kept)
    ]

use Rattle.std.proofs.Common.{◌<◌, ℕ, ap₂, sym, subst, ◌∙◌}
use Rattle.fm_map.specs.Placement.{worker_of}
use Rattle.fm_table.proofs.Sharing.{node_of_body, node_within}
use Rattle.fm_table.proofs.shares.worker_of_process.Goals as goal

pub worker_of-requires-clause-there : goal.worker_of-requires-clause-there
worker_of-requires-clause-there c =
    let r = c.requires.live in
    let low = node_within r.0 c.args.player.now r.1 c.args.number c.in-Some.body.now c.requires.able (λ q y at is. c.in-Some.ensures q y at is) in
    subst (λ (m : ℕ). c.in-Some.body.now.node < m) (sym r.2) low

pub returns-in-Some-clause-worker : goal.returns-in-Some-clause-worker
returns-in-Some-clause-worker c = λ p live nodes.
    let setup = c.args.setup.now in
    c.worker_of.ensures.worker ∙ ap₂ (λ (node n : ℕ). worker_of setup.plan node n setup.workers) (node_of_body p c.args.player.now live c.args.number c.in-Some.body.now c.requires.able (λ q y at is. c.in-Some.ensures q y at is)) nodes

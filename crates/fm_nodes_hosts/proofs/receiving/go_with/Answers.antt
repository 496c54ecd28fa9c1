use Rattle.std.proofs.Common.{Some, map, sym, ap, subst, ◌∙◌}
use Rattle.fm_base.specs.Channels.{Pop, Words, fits_limits}
use Rattle.fm_net.specs.Machine.{Event, made}
use Rattle.fm_link_law.specs.Steps.{reply_to_receive}
use Rattle.fm_nodes_procs.specs.Asks.{GoesAt}
use Rattle.fm_nodes_procs.specs.Processes.{procs_of}
use Rattle.fm_nodes_hosts.proofs.Received.{comes, ends, exceeds}
use Rattle.fm_nodes_hosts.proofs.receiving.go_with.Goals as goal

pub returns-in_ok-gone-in-Words-clause-goes : goal.returns-in_ok-gone-in-Words-clause-goes
returns-in_ok-gone-in-Words-clause-goes g c = λ x ch f is asks q reply.
    let r = c.args.runner.now in
    subst (λ k. GoesAt (procs_of (g.R.Runner.seen r) c.args.processes.now) c.args.path.now (map (g.R.Runner.seen r) c.in_ok-gone-in-Words.gone.starts.items) (g.R.Runner.let_go r c.in_ok-gone-in-Words.gone.drops) c.in_ok-gone-in-Words.gone.cost (procs_of (g.R.Runner.seen r) c.go_on.new.processes) (f (made c.args.path.now (Event ch (Pop c.args.limits.now))) k))
    (comes c.args.limits.now q c.in-Words.words (ap (λ ws. fits_limits c.args.limits.now (map Words ws)) (sym c.as_slice.ensures) ∙ sym c.fits.ensures ∙ c.if-fits.true) (ap (λ d. reply_to_receive c.args.limits.now (Some d)) (sym c.in-Words.is) ∙ reply))
    (c.in_ok-gone-in-Words.ensures.goes x (Event ch (Pop c.args.limits.now)) f is asks (λ b n e. cc e))

pub returns-in_ok-gone-in-Words-2-clause-goes : goal.returns-in_ok-gone-in-Words-2-clause-goes
returns-in_ok-gone-in-Words-2-clause-goes g c = λ x ch f is asks q reply.
    let r = c.args.runner.now in
    subst (λ k. GoesAt (procs_of (g.R.Runner.seen r) c.args.processes.now) c.args.path.now (map (g.R.Runner.seen r) c.in_ok-gone-in-Words-2.gone.starts.items) (g.R.Runner.let_go r c.in_ok-gone-in-Words-2.gone.drops) c.in_ok-gone-in-Words-2.gone.cost (procs_of (g.R.Runner.seen r) c.go_on-else-fits.new.processes) (f (made c.args.path.now (Event ch (Pop c.args.limits.now))) k))
    (exceeds c.args.limits.now q c.in-Words.words (ap (λ ws. fits_limits c.args.limits.now (map Words ws)) (sym c.as_slice.ensures) ∙ sym c.fits.ensures ∙ c.if-fits.false) (ap (λ d. reply_to_receive c.args.limits.now (Some d)) (sym c.in-Words.is) ∙ reply))
    (c.in_ok-gone-in-Words-2.ensures.goes x (Event ch (Pop c.args.limits.now)) f is asks (λ b n e. cc e))

pub returns-in_ok-gone-in-Close-clause-goes : goal.returns-in_ok-gone-in-Close-clause-goes
returns-in_ok-gone-in-Close-clause-goes g c = λ x ch f is asks q reply.
    let r = c.args.runner.now in
    subst (λ k. GoesAt (procs_of (g.R.Runner.seen r) c.args.processes.now) c.args.path.now (map (g.R.Runner.seen r) c.in_ok-gone-in-Close.gone.starts.items) (g.R.Runner.let_go r c.in_ok-gone-in-Close.gone.drops) c.in_ok-gone-in-Close.gone.cost (procs_of (g.R.Runner.seen r) c.go_on-in-Close.new.processes) (f (made c.args.path.now (Event ch (Pop c.args.limits.now))) k))
    (ends c.args.limits.now q (ap (λ d. reply_to_receive c.args.limits.now (Some d)) (sym c.in-Close.is) ∙ reply))
    (c.in_ok-gone-in-Close.ensures.goes x (Event ch (Pop c.args.limits.now)) f is asks (λ b n e. cc e))

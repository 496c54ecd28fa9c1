use Rattle.std.proofs.Common.{ap, sym, ◌∙◌}
use Rattle.std.specs.FinMap.{get}
use Rattle.fm_mean.specs.Actions.{Meets}
use Rattle.fm_plain.specs.Events.{event_by}
use Rattle.fm_chan.specs.Received.{pops_at}
use Rattle.fm_plain_net.specs.Readings.{tree_of}
use Rattle.fm_run.proofs.Programs.{owned_reached}
use Rattle.fm_plain_net.proofs.Nexts.{free_steps, receive_kept, receive_steps}
use Rattle.fm_plain_net.proofs.Waited.{joins_block}
use Rattle.fm_plain_net.proofs.Waiting.{begin_free, end_free, fail_free, make_free, probe_free, send_free}
use Rattle.fm_plain_net.proofs.processes.TreeProcProc.is_served.Goals as goal

pub returns-in-Receive-clause-served : goal.returns-in-Receive-clause-served
returns-in-Receive-clause-served c = λ P s q is chans fits meets.
    let x = tree_of P c.args.self.now in
    let does = meets.0 ∙ ap (λ e. Meets (event_by x.phase e)) c.in-Receive.is in
    c.is_ready.ensures (receive_kept P s q x is c.args.work.now fits.held _ _ _ _ _ _ does) ∙ ap (λ m. pops_at (get m c.in-Receive.channel)) (sym chans) ∙ sym (receive_steps P s q x is _ _ _ _ _ _ does)

pub returns-in-Join-clause-joins : goal.returns-in-Join-clause-joins
returns-in-Join-clause-joins c = λ P meets. joins_block P (tree_of P c.args.self.now) c.args.event.now _ _ _ c.in-Join.is meets

pub returns-in-Fail-clause-served : goal.returns-in-Fail-clause-served
returns-in-Fail-clause-served c = λ P s q is chans fits meets.
    let x = tree_of P c.args.self.now in
    sym (free_steps P s q x is (owned_reached P s fits.reached) (fail_free P x _ _ (meets.0 ∙ ap (λ e. Meets (event_by x.phase e)) c.in-Fail.is)))

pub returns-in-Make-clause-served : goal.returns-in-Make-clause-served
returns-in-Make-clause-served c = λ P s q is chans fits meets.
    let x = tree_of P c.args.self.now in
    sym (free_steps P s q x is (owned_reached P s fits.reached) (make_free P x _ _ _ _ (meets.0 ∙ ap (λ e. Meets (event_by x.phase e)) c.in-Make.is)))

pub returns-in-Send-clause-served : goal.returns-in-Send-clause-served
returns-in-Send-clause-served c = λ P s q is chans fits meets.
    let x = tree_of P c.args.self.now in
    sym (free_steps P s q x is (owned_reached P s fits.reached) (send_free P x _ _ _ _ (meets.0 ∙ ap (λ e. Meets (event_by x.phase e)) c.in-Send.is)))

pub returns-in-Probe-clause-served : goal.returns-in-Probe-clause-served
returns-in-Probe-clause-served c = λ P s q is chans fits meets.
    let x = tree_of P c.args.self.now in
    sym (free_steps P s q x is (owned_reached P s fits.reached) (probe_free P x _ _ _ (meets.0 ∙ ap (λ e. Meets (event_by x.phase e)) c.in-Probe.is)))

pub returns-in-Begin-clause-served : goal.returns-in-Begin-clause-served
returns-in-Begin-clause-served c = λ P s q is chans fits meets.
    let x = tree_of P c.args.self.now in
    sym (free_steps P s q x is (owned_reached P s fits.reached) (begin_free P x (meets.0 ∙ ap (λ e. Meets (event_by x.phase e)) c.in-Begin.is)))

pub returns-in-End-clause-served : goal.returns-in-End-clause-served
returns-in-End-clause-served c = λ P s q is chans fits meets.
    let x = tree_of P c.args.self.now in
    sym (free_steps P s q x is (owned_reached P s fits.reached) (end_free P x (meets.0 ∙ ap (λ e. Meets (event_by x.phase e)) c.in-End.is)))

use Rattle.std.proofs.Common.{ℕ, Some, sym, ap, subst, ◌∙◌}
use Rattle.std.proofs.lemmas.Result.{IfOk-weaker}
use Rattle.fm_base.specs.Channels.{Limits, Pop}
use Rattle.fm_net.specs.Machine.{Children}
use Rattle.fm_net.specs.Machine as net
use Rattle.fm_mean.specs.Actions.{Meets}
use Rattle.fm_mean.specs.Steps.{limits_of}
use Rattle.fm_plain_frame.specs.Frames.{phase_of, proc_of}
use Rattle.fm_plain.specs.Events.{IsCounted, event_by, kids_in}
use Rattle.fm_nodes_trees.specs.Told.{given_words}
use Rattle.fm_nodes_trees.proofs.AskLaws.{begin_need, end_need, fail_need, join_need, make_need, receive_need, send_need}
use Rattle.fm_nodes_trees.proofs.asking.asked_for.Goals as goal

pub returns-in-Fail : goal.returns-in-Fail
returns-in-Fail c =
    let p = c.args.program.now in
    let x = proc_of p c.args.process.now in
    fail_need p x _ _ (c.requires.0 ∙ ap (λ e. Meets (event_by (phase_of c.args.process.now.phase) e)) c.in-Fail.is)

pub returns-in-Make : goal.returns-in-Make
returns-in-Make c =
    let p = c.args.program.now in
    let x = proc_of p c.args.process.now in
    IfOk-weaker c.makes.result _ _ (λ a is. is ∙ make_need p x _ c.in-Make.writers _ _ (c.requires.0 ∙ ap (λ e. Meets (event_by (phase_of c.args.process.now.phase) e)) c.in-Make.is)) c.makes.ensures

pub returns-in-Send : goal.returns-in-Send
returns-in-Send c =
    let p = c.args.program.now in
    let x = proc_of p c.args.process.now in
    send_need p x c.in-Send.channel c.in-Send.writer c.in-Send.items _ (c.requires.0 ∙ ap (λ e. Meets (event_by (phase_of c.args.process.now.phase) e)) c.in-Send.is) c.in_ok-words-in-Send.words
    (ap given_words (sym c.as_slice.ensures) ∙ c.in_ok-words-in-Send.ensures)

pub returns-in-Receive : goal.returns-in-Receive
returns-in-Receive c =
    let p = c.args.program.now in
    let x = proc_of p c.args.process.now in
    ap (λ (ls : Limits). Some (net.Event c.in-Receive.channel (Pop ls))) (c.in_ok-limits-in-Receive.ensures ∙ ap limits_of c.as_slice-in-Receive.ensures)
    ∙ receive_need p x c.in-Receive.channel _ c.in-Receive.items _ _ _ (c.requires.0 ∙ ap (λ e. Meets (event_by (phase_of c.args.process.now.phase) e)) c.in-Receive.is)

pub returns-in-Begin : goal.returns-in-Begin
returns-in-Begin c =
    let p = c.args.program.now in
    let x = proc_of p c.args.process.now in
    begin_need p x (c.requires.0 ∙ ap (λ e. Meets (event_by (phase_of c.args.process.now.phase) e)) c.in-Begin.is)

pub returns-in-Join : goal.returns-in-Join
returns-in-Join c =
    let p = c.args.program.now in
    let x = proc_of p c.args.process.now in
    let ph = phase_of c.args.process.now.phase in
    let count = subst (IsCounted ph) c.in-Join.is c.requires.1 in
    ap (λ (n : ℕ). Some (Children c.in-Join.block n)) count ∙ join_need p x c.in-Join.block (kids_in ph) _ (c.requires.0 ∙ ap (λ e. Meets (event_by ph e)) c.in-Join.is)

pub returns : goal.returns
returns c =
    let p = c.args.program.now in
    let x = proc_of p c.args.process.now in
    end_need p x (c.requires.0 ∙ ap (λ e. Meets (event_by (phase_of c.args.process.now.phase) e)) c.in-End.is)

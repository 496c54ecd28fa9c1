use Rattle.std.proofs.lemmas.Result.{IfOk-weaker, on_err_weaker}
use Rattle.fm_plain_frame.specs.Frames.{execution_of, proc_of}
use Rattle.fm_mean.specs.Actions.{running}
use Rattle.fm_plain.specs.Standing.{below_of, standing}
use Rattle.fm_plain.proofs.LocalLaws.{run_acts, run_step, run_stood}
use Rattle.fm_plain.proofs.local.run.Goals as goal

pub returns-clause-acts : goal.returns-clause-acts
returns-clause-acts c =
    let p = c.args.program.now in
    let x = c.args.process.now in
    let f = c.in-Some.top in
    let g = c.step_at.new.top in
    let cs = c.step_at.new.below.items in
    let step = run_step p c.in-Some-of.here x f g x.below.items cs c.in_ok-step.step c.in-Some-of.ensures c.in_ok-step.ensures.acts in
    IfOk-weaker c.finish.result _ _
    (λ a k. run_acts p x f c.finish.new.top cs c.finish.new.lines.items a c.requires.runs c.in-Some.is
    (k p (proc_of p x) (standing p f x.below.items) (below_of p cs) (running p (execution_of p x) (standing p f x.below.items)) step))
    c.finish.ensures.acts

pub returns-clause-err : goal.returns-clause-err
returns-clause-err c =
    let p = c.args.program.now in
    let x = c.args.process.now in
    let f = c.in-Some.top in
    let g = c.step_at.new.top in
    let cs = c.step_at.new.below.items in
    let step = run_step p c.in-Some-of.here x f g x.below.items cs c.in_ok-step.step c.in-Some-of.ensures c.in_ok-step.ensures.acts in
    run_stood p x f c.finish.new.top cs c.finish.new.lines.items c.finish.result c.in-Some.is
    (on_err_weaker c.finish.result (λ k. k p (proc_of p x) (standing p f x.below.items) (below_of p cs) (running p (execution_of p x) (standing p f x.below.items)) step) c.finish.ensures.err_top)
    c.finish.ensures.err_lines

use Rattle.std.proofs.Common.{arith}
use Rattle.fm_mean.specs.Actions.{gives_back}
use Rattle.fm_mean.specs.Places.{live}
use Rattle.fm_plain.specs.Standing.{below_in, frame_in, program_in, standing}
use Rattle.fm_plain.proofs.ReturnLaws.{frames_stay, gave_back, on_err}
use Rattle.fm_plain.proofs.returning.gives_back.Goals as goal

pub returns-in_err-replaced-clause-err : goal.returns-in_err-replaced-clause-err
returns-in_err-replaced-clause-err c =
    on_err c.from_residual-in_err-replaced.result
    (frames_stay (program_in c.args.here.now) c.program-program.result.now c.args.top.now c.index_mut.result.now c.copy_back.new.caller c.copy_back.new.callee c.args.below.now.items c.in-Some.last
    c.program-program.ensures c.index_mut.ensures.value c.in_err-replaced.ensures.err_caller c.in_err-replaced.ensures.err_callee)

pub returns-clause-acts : goal.returns-clause-acts
returns-clause-acts c =
    let p = program_in c.args.here.now in
    let f = c.args.top.now in
    let bs = c.args.below.now.items in
    λ w. c.lets_go.ensures w (standing p f bs) (standing p c.replace.new.dest c.pop.new.self.items) (gives_back w (frame_in c.args.here.now f) (below_in c.args.here.now bs))
    (gave_back p c.program-program.result.now w f c.index_mut.result.now c.copy_back.new.caller c.copy_back.new.callee c.replace.new.dest c.in-Some-pop.caller c.replace.result bs c.pop.new.self.items c.in-Some.last
    (live c.in_ok-replaced.replaced.items) _ c.in_ok-cost.cost
    c.program-program.ensures (omega (arith, c.in-Some.ensures, c.len.ensures)) c.index_mut.ensures.value c.in-Some-pop.ensures.items c.replace.ensures.after c.replace.ensures.value
    c.in_ok-replaced.ensures.ok (c.put_out_with-ports.ensures p) c.in_ok-cost.ensures)

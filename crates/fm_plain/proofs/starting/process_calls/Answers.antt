use Rattle.std.proofs.Common.{Some, Ok, sym, ap, ◌∙◌}
use Rattle.std.specs.Option.{option_copied}
use Rattle.fm_mean.specs.Actions.{pended, process_calls}
use Rattle.fm_mean.specs.Calls.{backs_of, entered}
use Rattle.fm_mean.specs.Names.{unit_named}
use Rattle.fm_plain_frame.specs.Units.{unit_of}
use Rattle.fm_plain.specs.Standing.{frame_in, point_in, program_in, scope_in}
use Rattle.fm_plain.proofs.StartLaws.{acts_at, calls_pended}
use Rattle.fm_plain.proofs.starting.process_calls.Goals as goal

pub returns-in-Ok-clause-acts : goal.returns-in-Ok-clause-acts
returns-in-Ok-clause-acts c =
    let h = c.args.here.now in
    let f = frame_in h c.args.top.now in
    let s = scope_in h c.args.top.now in
    let u = unit_of c.in-Some.callee in
    let n = c.in-Some.callee.number in
    let args = c.args.arguments.now in
    let at = option_copied c.args.place in
    let o = unit_named (program_in h) c.args.name.now in
    let actuals = c.as_slice.result.now in
    let seat = c.in-Ok.seat in
    let named = ap (λ p. unit_named p c.args.name.now) (sym c.program.ensures) ∙ sym c.in-Some.ensures.unit ∙ ap (λ n. Some (n, u)) (sym c.in-Some.ensures.number) in
    let found = c.in-Ok.ensures ∙ ap (λ xs. Ok (xs, seat)) (sym c.as_slice.ensures) in
    acts_at h
    (λ w below. pended w (point_in h) f below n u (backs_of u actuals) seat (entered u f.values actuals))
    (λ w below. process_calls w s (point_in h) f below o args at)
    c.args.top.now c.pends.new.top c.pends.result
    (λ w below sits. calls_pended w s (point_in h) f below o n u args at h.machine h.node actuals seat named sits.0 sits.1 found) c.pends.ensures.acts

use Rattle.std.proofs.Common.{◌≡◌, ap, ◌∙◌, List, ◌++◌, length, take, drop, arith, rules}
use Rattle.fm_base.specs.Channels.{Item}
use Rattle.fm_mean.specs.Actions.{pended}
use Rattle.fm_mean.specs.Calls.{backs_of, entered}
use Rattle.fm_mean.specs.Fits.{variables_of}
use Rattle.fm_plain_frame.specs.Memory.{values_of}
use Rattle.fm_plain_frame.specs.Units.{unit_of}
use Rattle.fm_plain.specs.Standing.{frame_in, point_in, program_in}
use Rattle.fm_plain.proofs.StartLaws.{pended_own, start_alike, start_last, take_front, values_after, values_here}
use Rattle.fm_plain.proofs.starting.pends.Goals as goal

pub returns-in-Ok-clause-acts : goal.returns-in-Ok-clause-acts
returns-in-Ok-clause-acts c =
    let h = c.args.here.now in
    let p = program_in h in
    let f = c.args.top.now in
    let u = unit_of c.args.callee.now in
    let n = c.args.callee.now.number in
    let xs = c.args.arguments.now in
    let t = entered u (frame_in h f).values xs in
    let vs = c.variables.result.now in
    let old = values_here h f c.requires.stands vs c.as_mut_slice.result.now c.variables.ensures.variables c.as_mut_slice.ensures.value in
    let whole : take f.memory.len (c.enter-entered.new.memory ++ drop (length c.enter-entered.new.memory) f.memory.items) ≡ c.enter-entered.new.memory =
    take_front c.enter-entered.new.memory (drop (length c.enter-entered.new.memory) f.memory.items) f.memory.len (omega (arith, c.enter-entered.auto.memory, c.as_mut_slice.ensures.len)) in
    λ w below. c.lets_go.ensures w _ _ (pended w (point_in h) (frame_in h f) below n u (backs_of u xs) c.args.seat t)
    (pended_own w (point_in h) (frame_in h f) (frame_in h c.go_to.new.top) below n u (backs_of u xs) c.args.seat t _ _ _ c.in_ok-cost.cost
    (c.go_to.ensures p)
    (ap (values_of (variables_of p f.unit)) whole ∙ values_after h f c.requires.stands vs c.enter-entered.new.memory c.variables.ensures.variables ∙ (c.in-Ok.ensures.mine ∙ ap (λ (is : List Item). (entered u is xs).mine) old))
    (start_last p f.starts.items c.push.new.self.items _ _ c.len-place.result _ (search rules) c.in_ok-push.ensures.items
    (start_alike p c.args.callee.now.program.now c.number-unit.result n u c.in-Ok.entered.memory.items c.in_ok-backs.backs (backs_of u xs) c.args.seat.0 c.args.seat.1 t.theirs
    c.number-unit.ensures.number c.requires.callee c.number-unit.ensures.unit (c.in-Ok.ensures.theirs ∙ ap (λ (is : List Item). (entered u is xs).theirs) old) c.in_ok-backs.ensures))
    (c.of_replaced-ports.ensures p ∙ (c.in-Ok.ensures.drops ∙ ap (λ (is : List Item). (entered u is xs).drops) old))
    c.in_ok-cost.ensures)

use Rattle.std.proofs.Common.{ap, ◌∙◌, rules}
use Rattle.fm_mean.specs.Calls.{entered, new_frame}
use Rattle.fm_mean.specs.Fits.{variables_of}
use Rattle.fm_plain_frame.specs.Frames.{frame_of}
use Rattle.fm_plain_frame.specs.LetGo.{let_go_ports}
use Rattle.fm_plain_frame.specs.Memory.{values_of}
use Rattle.fm_plain_frame.specs.Units.{unit_of}
use Rattle.fm_plain.specs.Standing.{frame_in, program_in, standing, waiting}
use Rattle.fm_plain.proofs.CallLaws.{opened}
use Rattle.fm_plain.proofs.calling.opens.Goals as goal

pub returns-in-Ok-clause-acts : goal.returns-in-Ok-clause-acts
returns-in-Ok-clause-acts c = λ w.
    let h = c.args.here.now in
    let p = program_in h in
    let f = frame_in h c.args.top.now in
    let o = c.args.opening in
    let r = entered (unit_of o.callee) f.values o.arguments.now in
    c.lets_go.ensures w (standing p c.args.top.now c.args.below.now.items) _ _
    (opened p w f o.next c.args.below.now.items c.new-3.result c.replace.result c.replace.new.dest c.push.new.self.items c.len-place.result o.callee.number (unit_of o.callee) r o.backs (let_go_ports p c.of_replaced-ports.result) c.in_ok-cost.cost
    c.in_ok-push.ensures.items (search rules)
    (ap (frame_of p) c.replace.ensures.after ∙ (c.new-frame.ensures p ∙ (ap (λ n. new_frame n (values_of (variables_of p n) c.in-Ok.entered.memory.items) o.backs) c.number-number.ensures.number ∙ ap (λ vs. new_frame o.callee.number vs o.backs) c.in-Ok.ensures.theirs)))
    (ap (frame_of p) c.replace.ensures.value ∙ (c.go_on.ensures p ∙ ap (λ x. waiting x o.next) c.in-Ok.ensures.mine))
    (c.of_replaced-ports.ensures p ∙ c.in-Ok.ensures.drops) c.in_ok-cost.ensures)

use Rattle.std.proofs.Common.{ap, ◌∙◌, ◌∷◌, []}
use Rattle.fm_base.specs.declared.fault.Fault.TheVariants.{NullPort}
use Rattle.fm_mean.specs.Actions.{at_entry}
use Rattle.fm_plain_frame.specs.LetGo.{let_go_ports}
use Rattle.fm_plain.specs.Standing.{frame_in, line_in, point_in, program_in}
use Rattle.fm_plain.proofs.PortLaws.{closed_null, closed_own, none_is, some_is}
use Rattle.fm_plain.proofs.StepLaws.{failed_step}
use Rattle.fm_plain.proofs.ports.closed.Goals as goal

pub returns-then-is_none-clause-acts : goal.returns-then-is_none-clause-acts
returns-then-is_none-clause-acts c = λ w below.
    let h = c.args.here.now in
    let f = frame_in h c.args.top.now in
    failed_step (program_in h) w _ (f ∷ below) c.fails.result c.line.result NullPort (line_in h) c.fails.ensures (ap (λ l. l.0) c.line.ensures)
    (closed_null w (point_in h) f below c.args.place (none_is c.port.result _ c.is_none.result c.port.ensures c.is_none.ensures c.if-is_none.true))

pub returns-clause-acts : goal.returns-clause-acts
returns-clause-acts c = λ w below.
    let h = c.args.here.now in
    let f = frame_in h c.args.top.now in
    let g = frame_in h c.go_to.new.top in
    c.lets_go.ensures w (f ∷ below) (g ∷ below) _
    (closed_own w (point_in h) f g below c.args.place c.fill.new.room.items (let_go_ports (program_in h) c.of_replaced-ports.result) (some_is c.port.result _ c.is_none.result c.port.ensures c.is_none.ensures c.if-is_none.false)
    (c.fill.ensures ∙ ap (λ o. o ∷ []) c.exchange.ensures.port) (c.of_replaced-ports.ensures (program_in h))
    (c.go_to.ensures (program_in h) ∙ ap (λ x. at_entry x h.entry.now.after) c.exchange.ensures.frame))

use Rattle.std.proofs.Common.{◌∷◌}
use Rattle.fm_plain_frame.specs.LetGo.{let_go_ports}
use Rattle.fm_plain.specs.Standing.{frame_in, point_in, program_in}
use Rattle.fm_plain.proofs.PortLaws.{moved_both}
use Rattle.fm_plain.proofs.ports.moved.Goals as goal

pub returns-clause-acts : goal.returns-clause-acts
returns-clause-acts c = λ w below.
    let h = c.args.here.now in
    let f = frame_in h c.args.top.now in
    let g = frame_in h c.go_to.new.top in
    c.lets_go.ensures w (f ∷ below) (g ∷ below) _
    (moved_both w (point_in h) f (frame_in h c.exchange-port.new.top) (frame_in h c.exchange.new.top) g below c.args.from c.args.to c.exchange-port.result c.exchange.result c.fill.new.room.items (let_go_ports (program_in h) c.of_replaced-ports.result)
    c.exchange-port.ensures.frame c.exchange-port.ensures.port c.exchange.ensures.frame c.exchange.ensures.port c.fill.ensures (c.of_replaced-ports.ensures (program_in h)) (c.go_to.ensures (program_in h)))

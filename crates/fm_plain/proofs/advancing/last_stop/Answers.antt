use Rattle.std.proofs.Common.{◌≡◌, Bool, true, rules, sym, subst}
use Rattle.fm_plain.specs.Advance.{StopsAt}
use Rattle.fm_plain_frame.specs.Frames.{proc_of}
use Rattle.fm_plain.proofs.OwnSteps.{stops_last}
use Rattle.fm_plain.proofs.advancing.last_stop.Goals as goal

pub returns-in-Ok : goal.returns-in-Ok
returns-in-Ok c =
    let P = c.args.program.now in
    let spare : c.args.spare ≡ true = search rules in
    subst (λ (b : Bool). StopsAt P c.args.slice b c.args.slice (proc_of P c.args.process.now) c.in-Ok.stop (proc_of P c.stop_behind.new.process)) (sym spare)
    (stops_last P c.args.slice (proc_of P c.args.process.now) c.in-Ok.stop (proc_of P c.stop_behind.new.process) c.in-Ok.ensures.ok)

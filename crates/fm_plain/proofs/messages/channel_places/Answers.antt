use Rattle.std.proofs.Common.{rules}
use Rattle.std.proofs.lemmas.Result.{err_from_is_err_and}
use Rattle.fm_plain.specs.Standing.{scope_in}
use Rattle.fm_plain.proofs.FailureLaws.{swap_fails}
use Rattle.fm_plain.proofs.messages.channel_places.Goals as goal

pub returns-in_err-outport : goal.returns-in_err-outport
returns-in_err-outport c =
    let fails = swap_fails (scope_in c.args.here.now c.args.top.now) c.args.inport.now c.args.outport.now c.in_err-outport.field-0.0 (search rules) in
    let p = err_from_is_err_and c.from_residual.result c.from_residual.ensures.1 in
    rw (c.if-in_first.false, p.1, p.2) fails

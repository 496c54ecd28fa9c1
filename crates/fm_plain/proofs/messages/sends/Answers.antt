use Rattle.std.proofs.Common.{sym, subst, ap, ◌∙◌}
use Rattle.std.specs.Prelude.{IfOk}
use Rattle.std.specs.Option.{option_copied}
use Rattle.fm_base.specs.declared.name.Line.{Line}
use Rattle.fm_tree.specs.PortFields.{PortFields}
use Rattle.fm_tree.specs.Tree.{trees_from}
use Rattle.fm_mean.specs.Actions.{Action, fields_at, sent}
use Rattle.fm_mean.specs.Evaluate.{actuals_of, place_of, refs_in_var}
use Rattle.fm_plain_frame.specs.Units.{unit_of}
use Rattle.fm_plain.specs.Standing.{ActsOn, frame_in, point_in, scope_in}
use Rattle.fm_plain.proofs.FailureLaws.{sends_failed, sends_to}
use Rattle.fm_plain.proofs.messages.sends.Goals as goal

pub returns-in-Ok : goal.returns-in-Ok
returns-in-Ok c =
    let h = c.args.here.now in
    let f = c.args.top.now in
    let s = scope_in h f in
    let fields : PortFields = fields_at (unit_of h.unit) c.args.port.now in
    subst (λ (a : Action). IfOk c.sent.result (λ r. ActsOn h (λ w below. a) f r f))
    (ap (λ (l : PortFields). sent (point_in h) l (option_copied c.port.result) c.in-Ok.items) c.fields_at-fields.ensures
    ∙ (ap (λ o. sent (point_in h) fields o c.in-Ok.items) c.port.ensures
    ∙ sym (sends_to (point_in h) fields (frame_in h f) (place_of s c.args.port.now 0) (actuals_of s (trees_from c.args.items.now) (refs_in_var s c.args.port.now)) c.in-Ok.place c.in-Ok.items c.in-Ok.ensures)))
    c.sent.ensures

pub returns-in-Err : goal.returns-in-Err
returns-in-Err c =
    let h = c.args.here.now in
    let f = c.args.top.now in
    let s = scope_in h f in
    sends_failed h f (fields_at (unit_of h.unit) c.args.port.now) (place_of s c.args.port.now 0) (actuals_of s (trees_from c.args.items.now) (refs_in_var s c.args.port.now)) c.line.result c.in-Err.failure c.failed.result
    (ap (λ (l : Line). l.0) c.line.ensures) c.in-Err.ensures c.failed.ensures

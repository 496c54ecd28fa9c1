use Rattle.std.proofs.Common.{List, Ok, subst}
use Rattle.std.specs.Prelude.{IfOk}
use Rattle.fm_tree.specs.Tree.{Tree, Trees, trees_from}
use Rattle.fm_tree.specs.declared.form.UnitKind.{UnitKind}
use Rattle.fm_tree.specs.declared.statement.Extra.{Extra}
use Rattle.fm_tree.specs.declared.statement.Item.{Item}
use Rattle.fm_tree.specs.declared.statement.Var.{Var}
use Rattle.fm_plain_frame.specs.Units.{unit_of}
use Rattle.fm_mean.specs.Names.{unit_named}
use Rattle.fm_mean.specs.Actions.{calls, fields_at, merger_places, merges, prints, receive_places, receives, returns, sends}
use Rattle.fm_mean.specs.Evaluate.{actuals_of, place_of, printed_all, refs_in_var}
use Rattle.fm_plain.specs.Standing.{ActsOn, frame_in, point_in, program_in, scope_in}
use Rattle.fm_plain.proofs.StandingLaws.{StepsAll, anywhere, simple_all, simple_on}
use Rattle.fm_plain.proofs.statements.simple.Goals as goal

pub returns-in-Goto-clause-acts : goal.returns-in-Goto-clause-acts
returns-in-Goto-clause-acts c =
    simple_on c.args.here.now _ _ c.args.top.now c.jumps.new.top c.args.below.now.items (Ok c.jumps.result) c.in-Goto.is
    c.jumps.ensures

pub returns-in-Continue-clause-acts : goal.returns-in-Continue-clause-acts
returns-in-Continue-clause-acts c =
    simple_on c.args.here.now _ _ c.args.top.now c.goes_to.new.top c.args.below.now.items (Ok c.goes_to.result) c.in-Continue.is
    c.goes_to.ensures

pub returns-in-Return-clause-acts : goal.returns-in-Return-clause-acts
returns-in-Return-clause-acts c =
    let h = c.args.here.now in
    let f = c.args.top.now in
    let acts = anywhere h (λ w below. returns w (unit_of h.unit) (frame_in h f) below c.kind.result) f c.returns.new.top c.args.below.now.items c.returns.new.below.items c.returns.result c.returns.ensures.acts in
    simple_all h _ _ f c.returns.new.top c.args.below.now.items c.returns.new.below.items c.returns.result c.in-Return.is
    (subst (λ (k : UnitKind). IfOk c.returns.result (λ s. StepsAll h (λ w below. returns w (unit_of h.unit) (frame_in h f) below k) f c.args.below.now.items s c.returns.new.top c.returns.new.below.items)) c.kind.ensures acts)

pub returns-in-Call-clause-acts : goal.returns-in-Call-clause-acts
returns-in-Call-clause-acts c =
    let h = c.args.here.now in
    let f = c.args.top.now in
    let acts = anywhere h (λ w below. calls w (point_in h) (frame_in h f) below (unit_named (program_in h) c.in-Call.name) (actuals_of (scope_in h f) (trees_from c.arguments_of.result.now) 0)) f c.calls.new.top c.args.below.now.items c.calls.new.below.items c.calls.result c.calls.ensures.acts in
    simple_all h _ _ f c.calls.new.top c.args.below.now.items c.calls.new.below.items c.calls.result c.in-Call.is
    (subst (λ (ts : Trees). IfOk c.calls.result (λ s. StepsAll h (λ w below. calls w (point_in h) (frame_in h f) below (unit_named (program_in h) c.in-Call.name) (actuals_of (scope_in h f) ts 0)) f c.args.below.now.items s c.calls.new.top c.calls.new.below.items)) c.arguments_of.ensures acts)

pub returns-in-Print-clause-acts : goal.returns-in-Print-clause-acts
returns-in-Print-clause-acts c =
    simple_on c.args.here.now _ _ c.args.top.now c.args.top.now c.args.below.now.items c.prints.result c.in-Print.is
    (subst (λ (is : List Item). IfOk c.prints.result (λ s. ActsOn c.args.here.now (λ w below. prints w (point_in c.args.here.now) (frame_in c.args.here.now c.args.top.now) below (printed_all (scope_in c.args.here.now c.args.top.now) is 0)) c.args.top.now s c.args.top.now)) c.as_slice.ensures c.prints.ensures)

pub returns-in-Write-clause-acts : goal.returns-in-Write-clause-acts
returns-in-Write-clause-acts c =
    simple_on c.args.here.now _ _ c.args.top.now c.args.top.now c.args.below.now.items c.prints-in-Write.result c.in-Write.is
    (subst (λ (is : List Item). IfOk c.prints-in-Write.result (λ s. ActsOn c.args.here.now (λ w below. prints w (point_in c.args.here.now) (frame_in c.args.here.now c.args.top.now) below (printed_all (scope_in c.args.here.now c.args.top.now) is 0)) c.args.top.now s c.args.top.now)) c.as_slice-in-Write.ensures c.prints-in-Write.ensures)

pub returns-in-Channel-clause-acts : goal.returns-in-Channel-clause-acts
returns-in-Channel-clause-acts c =
    simple_on c.args.here.now _ _ c.args.top.now c.args.top.now c.args.below.now.items c.makes.result c.in-Channel.is
    c.makes.ensures

pub returns-in-Merger-clause-acts : goal.returns-in-Merger-clause-acts
returns-in-Merger-clause-acts c =
    simple_on c.args.here.now _ _ c.args.top.now c.args.top.now c.args.below.now.items c.merges.result c.in-Merger.is
    (subst (λ (is : List Var). IfOk c.merges.result (λ s. ActsOn c.args.here.now (λ w below. merges (point_in c.args.here.now) (merger_places (scope_in c.args.here.now c.args.top.now) c.in-Merger.inport is)) c.args.top.now s c.args.top.now)) c.as_slice-in-Merger.ensures c.merges.ensures)

pub returns-in-Send-clause-acts : goal.returns-in-Send-clause-acts
returns-in-Send-clause-acts c =
    simple_on c.args.here.now _ _ c.args.top.now c.args.top.now c.args.below.now.items c.sends.result c.in-Send.is
    (subst (λ (is : List Tree). IfOk c.sends.result (λ s. ActsOn c.args.here.now (λ w below. sends (point_in c.args.here.now) (fields_at (unit_of c.args.here.now.unit) c.in-Send.port) (frame_in c.args.here.now c.args.top.now) (place_of (scope_in c.args.here.now c.args.top.now) c.in-Send.port 0) (actuals_of (scope_in c.args.here.now c.args.top.now) (trees_from is) (refs_in_var (scope_in c.args.here.now c.args.top.now) c.in-Send.port))) c.args.top.now s c.args.top.now)) c.as_slice-in-Send.ensures c.sends.ensures)

pub returns-in-Receive-clause-acts : goal.returns-in-Receive-clause-acts
returns-in-Receive-clause-acts c =
    simple_on c.args.here.now _ _ c.args.top.now c.args.top.now c.args.below.now.items c.receives.result c.in-Receive.is
    (subst (λ (is : List Var). IfOk c.receives.result (λ s. ActsOn c.args.here.now (λ w below. receives (point_in c.args.here.now) (frame_in c.args.here.now c.args.top.now) (receive_places (scope_in c.args.here.now c.args.top.now) c.in-Receive.port c.in-Receive.extras is)) c.args.top.now s c.args.top.now)) c.as_slice-in-Receive-2.ensures
    (subst (λ (es : List Extra). IfOk c.receives.result (λ s. ActsOn c.args.here.now (λ w below. receives (point_in c.args.here.now) (frame_in c.args.here.now c.args.top.now) (receive_places (scope_in c.args.here.now c.args.top.now) c.in-Receive.port es c.as_slice-in-Receive-2.result.now)) c.args.top.now s c.args.top.now)) c.as_slice-in-Receive.ensures c.receives.ensures))

pub returns-in-Probe-clause-acts : goal.returns-in-Probe-clause-acts
returns-in-Probe-clause-acts c =
    simple_on c.args.here.now _ _ c.args.top.now c.args.top.now c.args.below.now.items c.probes.result c.in-Probe.is
    c.probes.ensures

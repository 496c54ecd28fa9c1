use Rattle.std.proofs.Common.{List, Option, Ok, subst}
use Rattle.std.specs.Prelude.{IfOk}
use Rattle.std.specs.Option.{option_copied}
use Rattle.fm_tree.specs.Tree.{Tree}
use Rattle.fm_tree.specs.declared.form.UnitKind.{UnitKind}
use Rattle.fm_tree.specs.declared.statement.Where.{Where}
use Rattle.fm_plain_frame.specs.Units.{unit_of}
use Rattle.fm_mean.specs.Names.{unit_named}
use Rattle.fm_mean.specs.Actions.{arguments_in, process_calls, returns}
use Rattle.fm_plain.specs.Standing.{ActsAt, frame_in, point_in, program_in, scope_in}
use Rattle.fm_plain.proofs.StandingLaws.{StepsAll, anywhere, statement_all, statement_at, statement_on}
use Rattle.fm_plain.proofs.statements.statement.Goals as goal

pub returns-in-Simple-clause-acts : goal.returns-in-Simple-clause-acts
returns-in-Simple-clause-acts c =
    statement_all c.args.here.now _ _ c.args.top.now c.simple.new.top c.args.below.now.items c.simple.new.below.items c.simple.result c.in-Simple.is c.simple.ensures.acts

pub returns-in-Else-clause-acts : goal.returns-in-Else-clause-acts
returns-in-Else-clause-acts c =
    statement_on c.args.here.now _ _ c.args.top.now c.goes_to.new.top c.args.below.now.items (Ok c.goes_to.result) c.in-Else.is
    c.goes_to.ensures

pub returns-in-EndIf-clause-acts : goal.returns-in-EndIf-clause-acts
returns-in-EndIf-clause-acts c =
    statement_on c.args.here.now _ _ c.args.top.now c.goes_to-in-EndIf.new.top c.args.below.now.items (Ok c.goes_to-in-EndIf.result) c.in-EndIf.is
    c.goes_to-in-EndIf.ensures

pub returns-in-Do-clause-acts : goal.returns-in-Do-clause-acts
returns-in-Do-clause-acts c =
    statement_on c.args.here.now _ _ c.args.top.now c.loops.new.top c.args.below.now.items c.loops.result c.in-Do.is
    c.loops.ensures.acts

pub returns-in-ProcessDo-clause-acts : goal.returns-in-ProcessDo-clause-acts
returns-in-ProcessDo-clause-acts c =
    statement_on c.args.here.now _ _ c.args.top.now c.loops-in-ProcessDo.new.top c.args.below.now.items c.loops-in-ProcessDo.result c.in-ProcessDo.is
    c.loops-in-ProcessDo.ensures.acts

pub returns-in-EndDo-clause-acts : goal.returns-in-EndDo-clause-acts
returns-in-EndDo-clause-acts c =
    statement_on c.args.here.now _ _ c.args.top.now c.loop_end.new.top c.args.below.now.items c.loop_end.result c.in-EndDo.is
    c.loop_end.ensures.acts

pub returns-in-EndProcessDo-clause-acts : goal.returns-in-EndProcessDo-clause-acts
returns-in-EndProcessDo-clause-acts c =
    statement_on c.args.here.now _ _ c.args.top.now c.loop_end-in-EndProcessDo.new.top c.args.below.now.items c.loop_end-in-EndProcessDo.result c.in-EndProcessDo.is
    c.loop_end-in-EndProcessDo.ensures.acts

pub returns-in-LoopEnd-clause-acts : goal.returns-in-LoopEnd-clause-acts
returns-in-LoopEnd-clause-acts c =
    statement_on c.args.here.now _ _ c.args.top.now c.loop_end-in-LoopEnd.new.top c.args.below.now.items c.loop_end-in-LoopEnd.result c.in-LoopEnd.is
    c.loop_end-in-LoopEnd.ensures.acts

pub returns-in-End-clause-acts : goal.returns-in-End-clause-acts
returns-in-End-clause-acts c =
    let h = c.args.here.now in
    let f = c.args.top.now in
    let acts = anywhere h (λ w below. returns w (unit_of h.unit) (frame_in h f) below c.kind.result) f c.returns.new.top c.args.below.now.items c.returns.new.below.items c.returns.result c.returns.ensures.acts in
    statement_all h _ _ f c.returns.new.top c.args.below.now.items c.returns.new.below.items c.returns.result c.in-End.is
    (subst (λ (k : UnitKind). IfOk c.returns.result (λ s. StepsAll h (λ w below. returns w (unit_of h.unit) (frame_in h f) below k) f c.args.below.now.items s c.returns.new.top c.returns.new.below.items)) c.kind.ensures acts)

pub returns-in-Processes-clause-acts : goal.returns-in-Processes-clause-acts
returns-in-Processes-clause-acts c =
    statement_on c.args.here.now _ _ c.args.top.now c.goes_to-in-Processes.new.top c.args.below.now.items (Ok c.goes_to-in-Processes.result) c.in-Processes.is
    c.goes_to-in-Processes.ensures

pub returns-in-ProcessCall-clause-acts : goal.returns-in-ProcessCall-clause-acts
returns-in-ProcessCall-clause-acts c =
    statement_at c.args.here.now _ _ c.args.top.now c.process_calls.new.top c.args.below.now.items c.process_calls.result c.in-ProcessCall.is
    (subst (λ (at : Option Where). IfOk c.process_calls.result (λ s. ActsAt c.args.here.now (λ w below. process_calls w (scope_in c.args.here.now c.args.top.now) (point_in c.args.here.now) (frame_in c.args.here.now c.args.top.now) below (unit_named (program_in c.args.here.now) c.in-ProcessCall.name) (arguments_in c.in-ProcessCall.part) at) c.args.top.now s c.process_calls.new.top)) c.where_in.ensures
    (subst (λ (xs : List Tree). IfOk c.process_calls.result (λ s. ActsAt c.args.here.now (λ w below. process_calls w (scope_in c.args.here.now c.args.top.now) (point_in c.args.here.now) (frame_in c.args.here.now c.args.top.now) below (unit_named (program_in c.args.here.now) c.in-ProcessCall.name) xs (option_copied c.where_in.result)) c.args.top.now s c.process_calls.new.top)) c.arguments_in.ensures c.process_calls.ensures.acts))

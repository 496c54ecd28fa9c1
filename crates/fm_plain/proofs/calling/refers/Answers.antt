use Rattle.std.proofs.Common.{sym, subst, ap, ◌∙◌, rules}
use Rattle.std.specs.Prelude.{option_map}
use Rattle.std.proofs.lemmas.Result.{IfOk-weaker}
use Rattle.fm_rules.specs.declared.program.Program.{Program}
use Rattle.fm_mean.specs.Actions.{Action}
use Rattle.fm_mean.specs.Evaluate.{reference_of}
use Rattle.fm_mean.specs.Names.{unit_at}
use Rattle.fm_plain_frame.specs.Units.{unit_of}
use Rattle.fm_plain.specs.Standing.{below_in, frame_in, line_in, program_in, scope_in, standing}
use Rattle.fm_plain.specs.Steps.{IsStep}
use Rattle.fm_plain.proofs.ReferenceLaws.{called_there, refers_to}
use Rattle.fm_plain.proofs.calling.refers.Goals as goal

pub returns-in_default-new-clause-acts : goal.returns-in_default-new-clause-acts
returns-in_default-new-clause-acts c =
    let h = c.args.here.now in
    let called = called_there (scope_in h c.args.top.now) c.args.name.now c.in-Some.number (sym c.called.ensures ∙ c.in-Some.is) in
    let there = called.there in
    let none = ap (option_map unit_of) (sym c.in_default-new.is) ∙ (c.new.ensures.unit ∙ ap (λ (p : Program). unit_at p c.in-Some.number) c.program.ensures) in
    absurd (cc (there, none))

pub returns-in-Ok-clause-acts : goal.returns-in-Ok-clause-acts
returns-in-Ok-clause-acts c =
    let h = c.args.here.now in
    let p = program_in h in
    let f = frame_in h c.args.top.now in
    let s = scope_in h c.args.top.now in
    let called = called_there s c.args.name.now c.in-Some.number (sym c.called.ensures ∙ c.in-Some.is) in
    IfOk-weaker c.opens.result _ _ (λ r g w. subst (λ (a : Action). IsStep p w a (standing p c.args.top.now c.args.below.now.items) r (standing p c.opens.new.top c.opens.new.below.items))
    (refers_to p w (line_in h) f (below_in h c.args.below.now.items) (reference_of s c.args.name.now) _ c.in-Some.number c.in-Some-new.callee.number (unit_of c.in-Some-new.callee) c.in-Ok.actuals c.as_slice.result.now _ called
    (sym (c.in-Some-new.ensures.unit ∙ ap (λ (q : Program). unit_at q c.in-Some.number) c.program.ensures)) c.in-Ok.ensures c.in-Some-new.ensures.number (search rules) (search rules)) (g w)) c.opens.ensures.acts

use Rattle.std.proofs.Common.{subst}
use Rattle.fm_mean.specs.Actions.{action_of}
use Rattle.fm_plain_frame.specs.Frames.{proc_of}
use Rattle.fm_plain.specs.Steps.{IsActed}
use Rattle.fm_plain.specs.declared.local.Acted.{Acted}
use Rattle.fm_plain.specs.declared.local.Acted.TheVariants as acted
use Rattle.fm_plain.proofs.UnderWay.{along, goes_further}
use Rattle.fm_plain.proofs.advancing.advance.Goals as goal

pub unreachable-requires : goal.unreachable-requires
unreachable-requires c =
    let P = c.args.program.now in
    let x = proc_of P c.steps.process in
    let told : IsActed P (action_of P x) x acted.Rest (proc_of P c.act.new.process) = subst (λ (a : Acted). IsActed P (action_of P x) x a (proc_of P c.act.new.process)) c.in-Ok-Rest.field-0-is c.in-Ok-Rest.ensures.acts in
    goes_further P c.steps.steps (proc_of P c.args.process.now) x c.steps.cost c.requires c.steps.invariant.made told.1

pub last_stop-stop-requires : goal.last_stop-stop-requires
last_stop-stop-requires c =
    let P = c.args.program.now in
    along P c.steps.steps (proc_of P c.args.process.now) (proc_of P c.steps.process, c.steps.cost) c.requires c.steps.invariant.made

use Rattle.std.proofs.Common.{◌≡◌, true, [], sym, ap, ◌∙◌}
use Rattle.std.specs.Prelude.{is_some}
use Rattle.fm_rules.specs.declared.program.Program.{Program}
use Rattle.fm_mean.specs.Process as mean
use Rattle.fm_mean.specs.Process.{Proc}
use Rattle.fm_mean.specs.Actions.{Action, action_of, local_in}
use Rattle.fm_plain_frame.specs.Frames.{is_running, proc_of}
use Rattle.fm_plain.specs.declared.local.Acted.{Acted}
use Rattle.fm_plain.specs.Advance.{has_local}
use Rattle.fm_plain.specs.Steps.{IsActed}
use Rattle.fm_plain.proofs.OwnSteps.{acted_own, twin_action, was_own}
use Rattle.fm_plain.proofs.advancing.is_twin_own.Goals as goal

told : (p : Program) (x t y : Proc) (r : Acted) → is_running x.phase ≡ true → t ≡ record x { phase = mean.Running; lines = [] } → IsActed p (action_of p t) t r y → has_local p x ≡ was_own r
told p x t y r running same acts = ap (λ (a : Action). is_some (local_in x a)) (sym (twin_action p x t running same)) ∙ acted_own p t y x (action_of p t) r acts

pub returns-in-Done : goal.returns-in-Done
returns-in-Done c = sym (told c.args.program.now (proc_of c.args.program.now c.args.process.now) (proc_of c.args.program.now c.in_ok-twin.twin) (proc_of c.args.program.now c.act.new.process) c.in_ok-act.field-0 c.requires c.in_ok-twin.ensures c.in_ok-act.ensures.acts ∙ ap was_own c.in-Done.is)

pub returns-in-Rest : goal.returns-in-Rest
returns-in-Rest c = sym (told c.args.program.now (proc_of c.args.program.now c.args.process.now) (proc_of c.args.program.now c.in_ok-twin.twin) (proc_of c.args.program.now c.act.new.process) c.in_ok-act.field-0 c.requires c.in_ok-twin.ensures c.in_ok-act.ensures.acts ∙ ap was_own c.in-Rest.is)

pub returns-in-Event : goal.returns-in-Event
returns-in-Event c = sym (told c.args.program.now (proc_of c.args.program.now c.args.process.now) (proc_of c.args.program.now c.in_ok-twin.twin) (proc_of c.args.program.now c.act.new.process) c.in_ok-act.field-0 c.requires c.in_ok-twin.ensures c.in_ok-act.ensures.acts ∙ ap was_own c.in-Event.is)

pub returns : goal.returns
returns c = sym (told c.args.program.now (proc_of c.args.program.now c.args.process.now) (proc_of c.args.program.now c.in_ok-twin.twin) (proc_of c.args.program.now c.act.new.process) c.in_ok-act.field-0 c.requires c.in_ok-twin.ensures c.in_ok-act.ensures.acts ∙ ap was_own c.in-LetsGo.is)

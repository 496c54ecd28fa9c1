use Rattle.std.proofs.Common.{ap, subst, sym}
use Rattle.std.specs.Prelude.{Ok}
use Rattle.fm_nodes_rounds.specs.Rounds.{is_step}
use Rattle.fm_nodes_rounds.specs.declared.hosts.NodeEvent.{NodeEvent}
use Rattle.fm_nodes.specs.Nodes.{IsDone}
use Rattle.fm_nodes.proofs.nodes.Nodes.act.Goals as goal

pub step-requires : goal.step-requires
step-requires c = c.requires (ap is_step c.in-Step.is)

pub returns-in-Step-clause-done : goal.returns-in-Step-clause-done
returns-in-Step-clause-done c = subst (λ (e : NodeEvent). IsDone c.args.self.now e c.step.new.self.run c.step.result) (sym c.in-Step.is) c.step.ensures.done

pub returns-in-Send-clause-done : goal.returns-in-Send-clause-done
returns-in-Send-clause-done c = subst (λ (e : NodeEvent). IsDone c.args.self.now e c.send.new.self.run c.send.result) (sym c.in-Send.is) c.send.ensures.done

pub returns-in-Answer-clause-done : goal.returns-in-Answer-clause-done
returns-in-Answer-clause-done c = subst (λ (e : NodeEvent). IsDone c.args.self.now e c.answer.new.self.run c.answer.result) (sym c.in-Answer.is) c.answer.ensures.done

pub returns-in-Deliver-clause-done : goal.returns-in-Deliver-clause-done
returns-in-Deliver-clause-done c = subst (λ (e : NodeEvent). IsDone c.args.self.now e c.deliver.new.self.run c.deliver.result) (sym c.in-Deliver.is) c.deliver.ensures.done

pub returns-in-Lose-clause-done : goal.returns-in-Lose-clause-done
returns-in-Lose-clause-done c = subst (λ (e : NodeEvent). IsDone c.args.self.now e c.lose.new.self.run (Ok c.lose.result)) (sym c.in-Lose.is) c.lose.ensures.done

pub returns-in-Restart-clause-done : goal.returns-in-Restart-clause-done
returns-in-Restart-clause-done c = subst (λ (e : NodeEvent). IsDone c.args.self.now e c.restart.new.self.run c.restart.result) (sym c.in-Restart.is) c.restart.ensures.done

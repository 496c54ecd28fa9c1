use Rattle.fm_table.proofs.Sharing.{nodes_of_main}
use Rattle.fm_table.proofs.shares.Shares.first.Goals as goal

pub returns-in-Some-clause-nodes : goal.returns-in-Some-clause-nodes
returns-in-Some-clause-nodes c = λ p live none. nodes_of_main p c.args.player.now live c.in-Some.body.now none (λ q y at is. c.in-Some.ensures q y at is)

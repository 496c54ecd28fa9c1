use Rattle.fm_table.proofs.Standings.{taken_back}
use Rattle.fm_table.proofs.making.let_go.Goals as goal

pub returns-clause-history : goal.returns-clause-history
returns-clause-history c = λ front counted may.
    taken_back front c.args.player.now.net.history c.forget_behind.new.self c.args.entries counted may c.forget_behind.ensures.one c.forget_behind.ensures.none

use Rattle.fm_table.specs.Inside.{shares_of, stand_in}
use Rattle.fm_table.proofs.Sharing.{shares_made}
use Rattle.fm_table.proofs.shares.Shares.make.Goals as goal

pub returns-clause-kept : goal.returns-clause-kept
returns-clause-kept c = λ p live has.
    record {
      nodes_are = has.nodes_are;
      lists_are = shares_made p c.args.setup.now (stand_in p c.args.player.now) (shares_of c.in_ok-lists.lists.items) (shares_of c.share_out.new.lists.items) c.in_ok-lists.ensures c.in_ok-share_out.ensures.many
          (λ w low. c.in_ok-share_out.ensures.shared p live has.nodes_are w low);
    }

use Rattle.std.proofs.Common.{subst}
use Rattle.std.specs.Prelude.{IfSome}
use Rattle.fm_table.specs.Inside.{HaveLeft, shares_of, stand_in}
use Rattle.fm_table.proofs.Sharing.{shares_settled}
use Rattle.fm_table.proofs.shares.Shares.settle.Goals as goal

pub returns-in-Ok : goal.returns-in-Ok
returns-in-Ok c = record {
  settled = λ p a n live nodes left behind.
      let was = subst (λ o. IfSome o (λ lists. HaveLeft p c.args.setup.now a n (shares_of lists.items))) c.in-Some.is left in
      record {
        nodes_are = nodes;
        lists_are = shares_settled p c.args.setup.now a (stand_in p c.args.player.now) n c.args.from (shares_of c.in-Some.lists.items) (shares_of c.share_out.new.lists.items) was behind c.in-Ok.ensures.many
            (λ w low. c.in-Ok.ensures.shared p live nodes w low);
      };
}

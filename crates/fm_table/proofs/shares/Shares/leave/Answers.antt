use Rattle.std.proofs.Common.{sym, subst, ap, ◌∙◌}
use Rattle.std.specs.Prelude.{IfSome}
use Rattle.fm_run.specs.Programs.{Stand, play_of}
use Rattle.fm_run.proofs.Numbers.{among_is}
use Rattle.fm_run.proofs.Playing.{known}
use Rattle.fm_table.specs.Inside.{AreShares, shares_of, stand_in, stand_kept}
use Rattle.fm_table.specs.Planned.{worker_at}
use Rattle.fm_table.proofs.Sharing.{left_so, share_once}
use Rattle.fm_table.proofs.shares.Shares.leave.Goals as goal

pub is_able-requires : goal.is_able-requires
is_able-requires c =
    let r = c.requires.kept in
    let live = r.1.live c.if-not-standing.false in
    let a = stand_in r.0 c.args.standing.now.player in
    (_, live.played.numbered.marked, λ n h. known (play_of r.0) a.state a.places n (live.played.able.within n h))

pub worker_of_process-requires-clause-live : goal.worker_of_process-requires-clause-live
worker_of_process-requires-clause-live c = let r = c.requires.kept in (r.0, r.1.live c.if-not-standing.false, r.2.nodes_are)

pub worker_of_process-requires-clause-able : goal.worker_of_process-requires-clause-able
worker_of_process-requires-clause-able c = among_is c.args.standing.now.player.able.numbers.items c.args.number (sym c.if-not-is_able.ensures)

pub leave_share-requires-clause-once : goal.leave_share-requires-clause-once
leave_share-requires-clause-once c =
    let r = c.requires.kept in
    let a = stand_kept r.0 c.args.standing.now in
    let shares = subst (λ o. IfSome o (λ lists. AreShares r.0 c.args.setup.now a (shares_of lists.items))) (sym c.replace.ensures.value ∙ c.in_ok-lists.was) r.2.lists_are in
    share_once r.0 c.args.setup.now a (shares_of c.in_ok-lists.lists.items) c.in-Ok.worker shares r.1.able.once c.in-Ok.ensures.below

pub returns-in-Ok-clause-left : goal.returns-in-Ok-clause-left
returns-in-Ok-clause-left c = λ p standing has.
    let setup = c.args.setup.now in
    let a = stand_kept p c.args.standing.now in
    let live = standing.live c.if-not-standing.false in
    let shares = subst (λ o. IfSome o (λ lists. AreShares p setup a (shares_of lists.items))) (sym c.replace.ensures.value ∙ c.in_ok-lists.was) has.lists_are in
    left_so p setup a (shares_of c.in_ok-lists.lists.items) (shares_of c.leave_share.new.lists.items) c.in-Ok.worker c.args.number shares
    (c.in-Ok.ensures.worker p live has.nodes_are ∙ ap (λ (b : Stand). worker_at p setup b c.args.number) live.stand_is) c.in-Ok.ensures.below c.leave_share.ensures

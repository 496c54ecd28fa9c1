use Rattle.std.proofs.Common.{◌<◌, ◌+◌, ◌++◌, ℕ, List, [], refl, ap, sym, ◌∙◌, arith, drop, length, get_or}
use Rattle.std.proofs.lemmas.List.{length-set}
use Rattle.fm_table.specs.Inside.{shares_of, stand_in}
use Rattle.fm_table.specs.Planned.{mapped, worker_at}
use Rattle.fm_table.proofs.Sharing.{all_shared, among_got, one_more}
use Rattle.fm_table.proofs.shares.share_out.Goals as goal
use Rattle.fm_run.specs.Orders.{Among}
use Rattle.std.proofs.Common.{subst}

pub queue-init : goal.queue-init
queue-init c = record { many = c.requires.many; shared = λ p live nodes w low. refl }

pub worker_of_process-requires-clause-able : goal.worker_of_process-requires-clause-able
worker_of_process-requires-clause-able c =
    let q = c.args.player.now.able.numbers in
    subst (λ (m : ℕ). Among m q.items) (sym c.index-number.ensures) (among_got q.items c.queue.place c.index-number.result.now (omega (arith, c.queue-test.true, c.len-place-end.ensures, q.ok.0)))

pub queue-preserved : goal.queue-preserved
queue-preserved c =
    let q = c.args.player.now.able.numbers in
    let i = c.queue.place in
    let m = c.index-number.result.now in
    let k = c.in_ok-worker.worker in
    let shares = shares_of c.queue.lists.items in
    let put = c.in_ok-put_share.ensures in
    let many = c.queue.invariant.many in
    record {
      many = ap length put ∙ length-set shares k _ ∙ many;
      shared = λ p live nodes w low.
          let a = stand_in p c.args.player.now in
          ap (λ (ls : List (List ℕ)). get_or ls w [] ++ mapped p c.args.setup.now a w (drop (i + 1) q.items)) put
          ∙ one_more (worker_at p c.args.setup.now a) shares q.items i m k m (omega (arith, c.queue-test.true, c.len-place-end.ensures, q.ok.0)) c.index-number.ensures (c.in_ok-worker.ensures.worker p live nodes)
          (subst (λ (n : ℕ). k < n) (sym many) c.in_ok-worker.ensures.below) w _ (c.queue.invariant.shared p live nodes w low);
    }

pub returns-clause-many : goal.returns-clause-many
returns-clause-many c = c.queue.invariant.many

pub returns-clause-shared : goal.returns-clause-shared
returns-clause-shared c = λ p live nodes w low.
    let q = c.args.player.now.able.numbers in
    all_shared (worker_at p c.args.setup.now (stand_in p c.args.player.now)) (shares_of c.queue.lists.items) q.items c.queue.place w _ (omega (arith, c.len-place-end.ensures, q.ok.0)) (c.queue.invariant.shared p live nodes w low)

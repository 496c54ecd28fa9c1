use Rattle.std.proofs.Common.{List, ℕ, ap, sym, subst, ◌∙◌, rules}
use Rattle.std.proofs.lemmas.List.Sorted.{IsNonDecreasingBy-from_sort_by_key}
use Rattle.fm_run.specs.Orders.{Among, EachOnce}
use Rattle.fm_table.specs.Inside.{outs_of}
use Rattle.fm_table.specs.Outs.{behind}
use Rattle.fm_table.specs.Told.{numbers_out}
use Rattle.fm_table.specs.declared.outside.Taken.{Taken}
use Rattle.fm_table.proofs.Outs.{among_behind, called_back, of_behind, of_sorted, once_behind, once_sorted}
use Rattle.fm_table.proofs.outside.call_back.Goals as goal

pub requeue_all-requires-clause-once : goal.requeue_all-requires-clause-once
requeue_all-requires-clause-once c =
    subst (λ (ts : List Taken). EachOnce (numbers_out (outs_of ts))) (sym c.as_slice.ensures.value) (once_sorted c.args.out.now.items c.sort_unstable_by_key.new.self.items c.sort_unstable_by_key.ensures.permutation c.requires.once)

pub requeue_all-requires-clause-able : goal.requeue_all-requires-clause-able
requeue_all-requires-clause-able c = λ n h.
    c.requires.able n (of_sorted c.args.out.now.items c.sort_unstable_by_key.new.self.items c.sort_unstable_by_key.ensures.permutation n (subst (λ (ts : List Taken). Among n (numbers_out (outs_of ts))) c.as_slice.ensures.value h))

pub returns-clause-back : goal.returns-clause-back
returns-clause-back c =
    called_back c.args.out.now.items c.sort_unstable_by_key.new.self.items c.args.queue.now.numbers.items c.requeue_all.new.queue.numbers.items c.sort_unstable_by_key.ensures.permutation
    (IsNonDecreasingBy-from_sort_by_key (λ (t : Taken). t.number) c.sort_unstable_by_key.new.self.items c.sort_unstable_by_key.ensures.sorted (λ a r q k. search rules))
    (c.requeue_all.ensures.queue ∙ ap (λ (ts : List Taken). behind (numbers_out (outs_of ts)) c.args.queue.now.numbers.items) c.as_slice.ensures.value)

pub returns-clause-once : goal.returns-clause-once
returns-clause-once c =
    let once = subst (λ (ts : List Taken). EachOnce (numbers_out (outs_of ts))) (sym c.as_slice.ensures.value) (once_sorted c.args.out.now.items c.sort_unstable_by_key.new.self.items c.sort_unstable_by_key.ensures.permutation c.requires.once) in
    subst EachOnce (sym c.requeue_all.ensures.queue) (once_behind (numbers_out (outs_of c.as_slice.result.now)) c.args.queue.now.numbers.items once c.requires.queued)

pub returns-clause-same : goal.returns-clause-same
returns-clause-same c = λ n.
    let ns = numbers_out (outs_of c.as_slice.result.now) in
    let queue = c.args.queue.now.numbers.items in
    let able : (m : ℕ) → Among m ns → Among m queue = λ m h.
    c.requires.able m (of_sorted c.args.out.now.items c.sort_unstable_by_key.new.self.items c.sort_unstable_by_key.ensures.permutation m (subst (λ (ts : List Taken). Among m (numbers_out (outs_of ts))) c.as_slice.ensures.value h)) in (
      (λ h. subst (λ (qs : List ℕ). Among n qs) (sym c.requeue_all.ensures.queue) (among_behind ns queue n h)),
      (λ h. of_behind ns queue n able (subst (λ (qs : List ℕ). Among n qs) c.requeue_all.ensures.queue h)),
    )

use Rattle.std.proofs.Common.{◌≡◌, ◌+◌, ◌≤◌, ◌<◌, ◌++◌, ◌∷◌, [], length, ap, ◌∙◌, sym, subst, length-append, append-nil, arith, List}
use Rattle.crossbeam_deque.specs.Handles.{worker_view}
use Rattle.fm_steal.specs.declared.hand.Hand.{Hand}
use Rattle.fm_steal.specs.Deals.{AreAll}
use Rattle.fm_steal.proofs.Deals.{learns, pops, finds}
use Rattle.fm_steal.proofs.Keeps.{all_long, all_taken}
use Rattle.fm_steal.proofs.lanes.rest.Goals as goal

pub len_as-left-requires : goal.len_as-left-requires
len_as-left-requires g c = learns _ _ c.requires.0.0 c.requires.1

pub items-init : goal.items-init
items-init g c =
    let same = c.len_as-left.ensures.same in
    let rule = c.len_as-left.ensures.rule in
    let seen = same.2 in
    let all : length (worker_view c.args.worker).put ≡ length ((worker_view c.args.worker).got ++ rule.0) = all_long (worker_view c.args.worker).put ((worker_view c.args.worker).got ++ rule.0) rule.2 in
    let long = length-append (worker_view c.args.worker).got rule.0 in
    let count = rule.1 in
    let put = ap (λ (v : Hand g.row.T.Denot). length v.put) seen in
    let got = ap (λ (v : Hand g.row.T.Denot). length v.got) seen in
    let room = c.requires.3 in
    let none = ap length c.requires.2 in
    let len = c.args.room.ok.0 in (
      (same.0.2 ∙ c.requires.0.0, same.0.1 ∙ c.requires.0.1),
      ap (λ (v : Hand g.row.T.Denot). v.parts) seen ∙ c.requires.1,
      ap (λ (v : Hand g.row.T.Denot). v.put) seen,
      ap (λ (v : Hand g.row.T.Denot). v.got) seen ∙ sym (append-nil (worker_view c.args.worker).got) ∙ ap (λ l. (worker_view c.args.worker).got ++ l) (sym c.requires.2),
      omega arith,
      omega arith,
    )

pub pop_as-requires-clause-fifo : goal.pop_as-requires-clause-fifo
pop_as-requires-clause-fifo g c = λ _. let i = c.items.invariant in let all = i.1 in pops _ _ i.0.0 (omega arith)

pub pop_as-requires-clause-empty : goal.pop_as-requires-clause-empty
pop_as-requires-clause-empty g c = finds _ _ c.items.invariant.0.0

pub unreachable-requires : goal.unreachable-requires
unreachable-requires g c =
    let i = c.items.invariant in
    let used = c.in-None.ensures.rule.1 in
    let long = all_long (worker_view c.items.worker).put (worker_view c.items.worker).got (used.1 i.1) in
    let count = i.4 in
    let more = c.items-test.true in
    omega arith

pub len_as-requires : goal.len_as-requires
len_as-requires g c = let i = c.items.invariant in learns _ _ i.0.0 i.1

pub returns : goal.returns
returns g c =
    let i = c.items.invariant in
    let rule = c.len_as.ensures.rule in
    let count = i.4 in
    let none = c.items-test.false in
    let all : AreAll (worker_view c.items.worker).put (worker_view c.items.worker).got = all_taken (worker_view c.items.worker).put (worker_view c.items.worker).got rule.0 rule.2 (omega arith) in
    subst (λ l. AreAll l ((worker_view c.args.worker).got ++ c.items.room.items)) i.2 (subst (AreAll (worker_view c.items.worker).put) i.3 all)

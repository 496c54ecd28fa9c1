use Rattle.std.proofs.Common.{◌≡◌, ◌+◌, ◌++◌, ◌∷◌, [], length, ap, ◌∙◌, sym, subst, length-append, arith, All, IsPermutation}
use Rattle.std.proofs.lemmas.List.Elements.{All-same, All-weaker}
use Rattle.crossbeam_deque.specs.Handles.{worker_view, worker_deque, stealer_deque, view}
use Rattle.fm_steal.specs.declared.hand.Hand.{Hand}
use Rattle.fm_steal.specs.declared.handles.Thief.{Thief}
use Rattle.fm_steal.specs.Lanes.{loot_list, all_loot_list}
use Rattle.fm_steal.proofs.Deals.{merges}
use Rattle.fm_steal.proofs.Keeps.{gathers, first_of}
use Rattle.fm_steal.proofs.lanes.gathered.Goals as goal

pub absorb-requires-clause-rule : goal.absorb-requires-clause-rule
absorb-requires-clause-rule g c = merges _ _ _ _ c.thieves.invariant.0.0

pub thieves-preserved : goal.thieves-preserved
thieves-preserved g c =
    let i = c.thieves.invariant in
    let same = c.absorb.ensures.same in
    let rule = c.absorb.ensures.rule in
    let t = c.in-Some.thief in
    let popped : c.thieves.thieves.items ≡ c.pop.new.self.items ++ t ∷ [] = c.in-Some.ensures.items in
    let parts : (worker_view c.absorb.new.self).parts ≡ (worker_view c.thieves.worker).parts + (view t.pass).parts = ap (λ (v : Hand g.row.T.Denot). v.parts) rule in
    let put = ap (λ (v : Hand g.row.T.Denot). v.put) rule in
    let got = ap (λ (v : Hand g.row.T.Denot). v.got) rule in
    let one = t.part in
    let long = ap length popped ∙ length-append c.pop.new.self.items (t ∷ []) in
    let all = i.1 in (
      (same.0.2 ∙ i.0.0, same.0.1 ∙ i.0.1),
      omega arith,
      All-weaker (λ (u : Thief g.row.T.Denot). stealer_deque u.stealer ≡ worker_deque c.thieves.worker) (λ (u : Thief g.row.T.Denot). stealer_deque u.stealer ≡ worker_deque c.absorb.new.self) (λ u h. h ∙ sym same.0.0) c.pop.new.self.items
          (first_of (λ (u : Thief g.row.T.Denot). stealer_deque u.stealer ≡ worker_deque c.thieves.worker) c.pop.new.self.items (t ∷ []) c.thieves.thieves.items popped i.2),
      put ∙ i.3,
      subst (λ l. IsPermutation ((worker_view c.args.worker).got ++ all_loot_list c.args.thieves.items) (l ++ all_loot_list c.pop.new.self.items)) (sym got)
          (gathers ((worker_view c.args.worker).got ++ all_loot_list c.args.thieves.items) (worker_view c.thieves.worker).got c.thieves.thieves.items c.pop.new.self.items t popped i.4),
    )

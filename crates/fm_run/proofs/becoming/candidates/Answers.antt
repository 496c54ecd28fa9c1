use Rattle.std.proofs.Common.{◌≡◌, true, sym, subst, ◌∙◌, ap, arith, List, length}
use Rattle.std.specs.Prelude.{slice_get}
use Rattle.std.specs.FinMap.{get}
use Rattle.std.proofs.lemmas.List.Sorted.{Contains-permutation, IsNonDecreasingBy-from_sort}
use Rattle.fm_net.specs.Machine.{Place, State}
use Rattle.fm_run.specs.Plays.{ended_at}
use Rattle.fm_run.specs.Orders.{can_at}
use Rattle.fm_run.proofs.Taking.{kept_with, there_with}
use Rattle.fm_run.proofs.becoming.candidates.Goals as goal

pub returns-clause-sorted : goal.returns-clause-sorted
returns-clause-sorted g c = IsNonDecreasingBy-from_sort (λ n. n) c.sort.new.self.items c.in_ok-sort.ensures.sorted

pub returns-clause-woken : goal.returns-clause-woken
returns-clause-woken g c = λ n k.
    Contains-permutation c.push_new.new.numbers.items c.sort.new.self.items n c.in_ok-sort.ensures.permutation
    (c.in_ok-push_new.ensures.kept n (kept_with c.in_ok-numbers.numbers.items c.push_some.new.numbers.items c.in_ok-parent.parent c.in_ok-push_some.ensures n (c.in_ok-numbers.ensures.woken n k)))

pub returns-clause-parent : goal.returns-clause-parent
returns-clause-parent g c = λ p q n sound at ended is can.
    let stays = c.in_ok-numbers.ensures.state p in
    let listed = c.in_ok-numbers.ensures.order in
    let able = subst (λ (u : State (g.N.Net.play p).Proc). can_at (g.N.Net.play p) u (g.N.Net.order c.take_woken.new.net) n ≡ true) (sym stays) (subst (λ (ps : List Place). can_at (g.N.Net.play p) (g.N.Net.state p c.args.net.now) ps n ≡ true) (sym listed) can) in
    Contains-permutation c.push_new.new.numbers.items c.sort.new.self.items n c.in_ok-sort.ensures.permutation
    (c.in_ok-push_new.ensures.kept n (there_with c.in_ok-numbers.numbers.items c.push_some.new.numbers.items c.in_ok-parent.parent c.in_ok-push_some.ensures n
    (c.in_ok-parent.ensures p q n (c.in_ok-numbers.ensures.sound p sound) (ap (λ (ps : List Place). slice_get ps c.args.number) listed ∙ at) (ap (λ (u : State (g.N.Net.play p).Proc). ended_at (g.N.Net.play p) (get u.procs q)) stays ∙ ended) is able)))

pub returns-clause-new : goal.returns-clause-new
returns-clause-new g c = λ n low high.
    Contains-permutation c.push_new.new.numbers.items c.sort.new.self.items n c.in_ok-sort.ensures.permutation
    (c.in_ok-push_new.ensures.new n low (omega (arith, high, c.count.ensures, ap length c.in_ok-numbers.ensures.order)))

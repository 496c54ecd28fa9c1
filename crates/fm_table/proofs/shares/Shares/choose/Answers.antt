use Rattle.std.proofs.Common.{◌≡◌, ◌<◌, List, ℕ, [], length, get_or, ap, sym, subst, ◌∙◌}
use Rattle.std.specs.Prelude.{IfSome}
use Rattle.fm_run.specs.declared.orders.Queue.{Queue}
use Rattle.fm_table.specs.Inside.{AreShares, outs_of, shares_of}
use Rattle.fm_table.specs.Planned.{first_of, mapped}
use Rattle.fm_table.specs.Told.{ready_in}
use Rattle.fm_table.proofs.Sharing.{shares_get, taken_from}
use Rattle.fm_table.proofs.shares.Shares.choose.Goals as goal

pub returns-in-Some-get : goal.returns-in-Some-get
returns-in-Some-get c = λ p setup a has queue low.
    let outs = outs_of c.args.out.now in
    let qs = c.in-Some.lists.items in
    let w = c.args.worker in
    let q = c.in-Some-get.own.now in
    let shares = subst (λ o. IfSome o (λ lists. AreShares p setup a (shares_of lists.items))) c.in-Some.is has.lists_are in
    let there : w < length qs = subst (λ (xs : List Queue). w < length xs) c.deref.ensures.value c.in-Some-get.ensures.lookup.3.0 in
    let own : q.numbers.items ≡ get_or (shares_of qs) w [] =
    ap (λ (x : Queue). x.numbers.items) (c.in-Some-get.ensures.lookup.1 ∙ ap (λ (xs : List Queue). get_or xs w q) c.deref.ensures.value) ∙ sym (shares_get qs w q there) in
    c.first_ready.ensures ∙ ap (λ (ns : List ℕ). first_of (ready_in outs ns) (ready_in outs c.args.queue.now.items)) own
    ∙ subst (λ (ns : List ℕ). first_of (ready_in outs (get_or (shares_of qs) w [])) (ready_in outs ns) ≡ first_of (mapped p setup a w (ready_in outs ns)) (ready_in outs ns)) (sym queue) (taken_from p setup a (shares_of qs) w outs shares low)

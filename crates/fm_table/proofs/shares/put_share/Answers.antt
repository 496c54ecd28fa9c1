use Rattle.std.proofs.Common.{List, ℕ, [], ◌∷◌, ◌++◌, ap, set, sym, ◌∙◌}
use Rattle.fm_table.specs.Inside.{shares_of}
use Rattle.fm_table.proofs.Sharing.{on_ok, shares_get, shares_set}
use Rattle.fm_table.proofs.shares.put_share.Goals as goal

pub returns : goal.returns
returns c =
    let qs = c.args.lists.now.items in
    let k = c.args.worker in
    let was = ap (λ q. q.numbers.items) c.index_mut.ensures.value ∙ sym (shares_get qs k c.index_mut.result.now c.requires) in
    on_ok c.put.result (λ put. shares_set qs k c.put.new.self ∙ ap (λ (ns : List ℕ). set (shares_of qs) k ns) (put ∙ ap (λ (ns : List ℕ). ns ++ c.args.number ∷ []) was)) c.put.ensures.numbers

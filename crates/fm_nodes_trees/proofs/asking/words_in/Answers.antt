use Rattle.std.proofs.Common.{◌∷◌, ◌++◌, ◌+◌, [], ℤ, List, Some, drop, ap, sym, ◌∙◌, append-nil, arith}
use Rattle.std.proofs.lemmas.List.{drop_all}
use Rattle.fm_nodes_trees.specs.Told.{given_words}
use Rattle.fm_nodes_trees.proofs.AskLaws.{next_item, words_more}
use Rattle.fm_nodes_trees.proofs.asking.words_in.Goals as goal

pub items-init : goal.items-init
items-init c = λ more e. e ∙ ap (λ (zs : List (List ℤ)). Some (zs ++ more)) (sym c.new-all.ensures)

pub items-preserved : goal.items-preserved
items-preserved c = λ more e.
    let items = c.args.items.now in
    let i = c.items.item-index in
    let is = next_item items i c.item-item.result c.items-test.true c.item-item.is ∙ ap (λ a. a ∷ drop (i + 1) items) c.in-Given.is in
    words_more (drop i items) (drop (i + 1) items) c.in-Given.words _ c.items.all items is c.items.invariant more e
    ∙ ap (λ (w : List ℤ). Some ((c.items.all ++ w ∷ []) ++ more)) (sym (c.in_ok-copy-in-Given.ensures ∙ c.as_slice.ensures))
    ∙ ap (λ (zs : List (List ℤ)). Some (zs ++ more)) (sym c.in_ok-push-in-Given.ensures.ok)

pub returns : goal.returns
returns c =
    let items = c.args.items.now in
    c.items.invariant [] (ap given_words (drop_all c.items.item-index items (omega (arith, c.items-test.false)))) ∙ ap (λ (zs : List (List ℤ)). Some zs) (append-nil c.items.all)

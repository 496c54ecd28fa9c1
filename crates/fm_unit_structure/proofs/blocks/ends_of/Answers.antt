use Rattle.std.proofs.Common.{◌≡◌, ◌∙◌, ℕ, ◌+◌, ◌-◌, ◌<◌, ◌∷◌, reverse, drop, length, ap, sym, arith}
use Rattle.fm_tree.specs.Structure.{bracket_of}
use Rattle.fm_tree.specs.Blocks.{ends, ends_from, head_of, turned_back}
use Rattle.fm_tree.specs.Units.{blank_mark}
use Rattle.fm_tree_blocks.proofs.Lists.{reverse_push}
use Rattle.fm_tree_blocks.proofs.Walks.{ends_more, ends_from_more}
use Rattle.fm_unit_structure.proofs.blocks.ends_of.Goals as goal

pub entries-preserved : goal.entries-preserved
entries-preserved c =
    let b = c.args.branches in
    let k : ℕ = c.entries.k - 1 in
    let es = c.args.entries.now in
    let f = c.form_at.result in
    let all = c.entries.all.items in
    let in' : k < length es = omega arith in
    let up : c.entries.k ≡ k + 1 = omega arith in
    let v = c.last_of.ensures ∙ ap (λ os. head_of (reverse os)) c.deref.ensures.value ∙ ap head_of c.entries.invariant.stack in
    record {
      stack = c.in_ok-follow_back.ensures
          ∙ ap (λ ms. turned_back b (bracket_of f) k ms) c.entries.invariant.stack
          ∙ ap (λ m. turned_back b (bracket_of f) k (ends b (drop m es) m 0)) up
          ∙ ap (λ g. turned_back b (bracket_of g) k (ends b (drop (k + 1) es) (k + 1) 0)) c.form_at.ensures
          ∙ sym (ends_more es k blank_mark in' b);
      whole = ap reverse c.in_ok-push.ensures.items
          ∙ reverse_push all c.last_of.result
          ∙ ap (λ o. o ∷ reverse all) v
          ∙ ap (λ os. head_of (ends b (drop c.entries.k es) c.entries.k 0) ∷ os) c.entries.invariant.whole
          ∙ ap (λ m. head_of (ends b (drop m es) m 0) ∷ ends_from b m (drop m es)) up
          ∙ sym (ends_from_more es k blank_mark in' b);
    }

use Rattle.std.proofs.Common.{◌∙◌, ◌+◌, ◌<◌, ◌∷◌, ◌++◌, [], reverse, take, drop, length, ap, sym, arith, append_assoc}
use Rattle.fm_tree.specs.Structure.{bracket_of}
use Rattle.fm_tree.specs.Blocks.{behind, head_of, inner_from, turned}
use Rattle.fm_tree.specs.Units.{blank_mark}
use Rattle.fm_tree_blocks.proofs.Walks.{behind_more, inner_more}
use Rattle.fm_unit_structure.proofs.blocks.innermost_of.Goals as goal

pub entries-preserved : goal.entries-preserved
entries-preserved c =
    let k = c.entries.k in
    let es = c.args.entries.now in
    let f = c.form_at.result in
    let all = c.entries.all.items in
    let rest = inner_from (reverse (take (k + 1) es)) (drop (k + 1) es) in
    let in' : k < length es = omega arith in
    let v = c.last_of.ensures ∙ ap (λ os. head_of (reverse os)) c.deref.ensures.value ∙ ap head_of c.entries.invariant.stack in
    record {
      stack = c.in_ok-follow.ensures
          ∙ ap (λ os. turned (bracket_of f) k f os) c.entries.invariant.stack
          ∙ ap (λ g. turned (bracket_of g) k g (behind (take k es))) c.form_at.ensures
          ∙ sym (behind_more es k blank_mark in');
      whole = ap (λ os. os ++ rest) c.in_ok-push.ensures.items
          ∙ append_assoc all (c.last_of.result ∷ []) rest
          ∙ ap (λ o. all ++ (o ∷ rest)) v
          ∙ ap (λ os. all ++ os) (sym (inner_more es k blank_mark in'))
          ∙ c.entries.invariant.whole;
    }

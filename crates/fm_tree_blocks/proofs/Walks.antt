-- One entry further in a walk over the entries.
use Rattle.std.proofs.Common.{◌≡◌, ℕ, ◌+◌, ◌<◌, Bool, List, ◌∷◌, length, reverse, take, drop, get_or, sym, ◌∙◌, ap, arith}
use Rattle.std.proofs.lemmas.List.{take_more, drop_more, length-take-le}
use Rattle.fm_tree.specs.declared.entry_mark.EntryMark.{EntryMark}
use Rattle.fm_tree.specs.Structure.{bracket_of}
use Rattle.fm_tree.specs.Blocks.{behind, ends, turned, turned_back, head_of, inner_from, ends_from}
use Rattle.fm_tree_blocks.proofs.Counts.{behind_push, ends-cons}
use Rattle.fm_tree_blocks.proofs.Lists.{reverse_push}

module _ (entries : List EntryMark) (k : ℕ) (d : EntryMark) (in' : k < length entries) where
  pub behind_more : behind (take (k + 1) entries) ≡ turned (bracket_of (get_or entries k d).form) k (get_or entries k d).form (behind (take k entries))
  behind_more =
      ap behind (take_more entries k d in') ∙ behind_push (take k entries) (get_or entries k d)
      ∙ ap (λ n. turned (bracket_of (get_or entries k d).form) n (get_or entries k d).form (behind (take k entries))) (length-take-le k entries (omega arith))

  pub inner_more : inner_from (reverse (take k entries)) (drop k entries) ≡ head_of (behind (take k entries)) ∷ inner_from (reverse (take (k + 1) entries)) (drop (k + 1) entries)
  inner_more =
      let e : reverse (take (k + 1) entries) ≡ get_or entries k d ∷ reverse (take k entries) = ap reverse (take_more entries k d in') ∙ reverse_push (take k entries) (get_or entries k d) in
      ap (inner_from (reverse (take k entries))) (drop_more entries k d in')
      ∙ ap (λ before. head_of (behind (take k entries)) ∷ inner_from before (drop (k + 1) entries)) (sym e)

  pub ends_more : (b : Bool) → ends b (drop k entries) k 0 ≡ turned_back b (bracket_of (get_or entries k d).form) k (ends b (drop (k + 1) entries) (k + 1) 0)
  ends_more b = ap (λ es. ends b es k 0) (drop_more entries k d in') ∙ ends-cons b (get_or entries k d) (drop (k + 1) entries) k

  pub ends_from_more : (b : Bool) → ends_from b k (drop k entries) ≡ head_of (ends b (drop (k + 1) entries) (k + 1) 0) ∷ ends_from b (k + 1) (drop (k + 1) entries)
  ends_from_more b = ap (ends_from b k) (drop_more entries k d in')

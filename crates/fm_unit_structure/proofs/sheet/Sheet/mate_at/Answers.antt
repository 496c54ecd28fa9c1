use Rattle.std.proofs.Common.{◌≡◌, ◌<◌, ◌+◌, ℕ, List, Option, Some, None, drop, false, length, get_or, ap, ◌∙◌, sym, arith}
use Rattle.std.specs.Option.{IfSome}
use Rattle.std.proofs.lemmas.List.{length-drop}
use Rattle.fm_tree.specs.declared.entry_mark.EntryMark.{EntryMark}
use Rattle.fm_tree.specs.Blocks.{mate_of}
use Rattle.fm_tree_blocks.proofs.Below.{end_within}
use Rattle.fm_tree_blocks.proofs.Lookups.{length-end_list, end_at}
use Rattle.fm_unit_structure.proofs.sheet.Sheet.mate_at.Goals as goal

pub index-requires : goal.index-requires
index-requires c =
    let e = ap length c.args.self.now.mates_is in
    let n = length-end_list false c.args.self.now.entries.now in
    let o = c.args.self.now.mates.ok.0 in omega (arith, e, n, o)

value : (c : goal.After-result-1) → c.index.result.now ≡ mate_of c.args.self.now.entries.now c.args.k
value c =
    c.index.ensures ∙ ap (λ xs. get_or xs c.args.k c.index.result.now) c.args.self.now.mates_is
    ∙ end_at false c.args.self.now.entries.now c.args.k c.index.result.now c.requires

bound : (entries : List EntryMark) (k : ℕ) (r : Option ℕ) → k < length entries → r ≡ mate_of entries k → IfSome r (λ j. j < length entries)
bound entries k None l e = tt
bound entries k (Some j) l e =
    let h = end_within false (drop (k + 1) entries) (k + 1) 0 j (sym e) in omega (arith, h, length-drop (k + 1) entries)

pub returns : goal.returns
returns c = record { value = value c; within = bound c.args.self.now.entries.now c.args.k c.index.result.now c.requires (value c) }

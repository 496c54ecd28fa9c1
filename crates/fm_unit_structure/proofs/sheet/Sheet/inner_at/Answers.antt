use Rattle.std.proofs.Common.{◌≡◌, ◌<◌, ◌≤◌, ℕ, List, Option, Some, None, length, get_or, ap, ◌∙◌, sym, arith}
use Rattle.std.specs.Option.{IfSome}
use Rattle.fm_tree.specs.declared.entry_mark.EntryMark.{EntryMark}
use Rattle.fm_tree.specs.declared.entry_mark.Open.{Open}
use Rattle.fm_tree.specs.Blocks.{innermost}
use Rattle.fm_tree_blocks.proofs.Below.{innermost_below}
use Rattle.fm_tree_blocks.proofs.Lookups.{length-inner_list, inner_at}
use Rattle.fm_unit_structure.proofs.sheet.Sheet.inner_at.Goals as goal

pub index-requires : goal.index-requires
index-requires c =
    let e = ap length c.args.self.now.inner_is in
    let n = length-inner_list c.args.self.now.entries.now in
    let o = c.args.self.now.inner.ok.0 in omega (arith, e, n, o)

value : (c : goal.After-result-1) → c.index.result.now ≡ innermost c.args.self.now.entries.now c.args.k
value c =
    c.index.ensures ∙ ap (λ xs. get_or xs c.args.k c.index.result.now) c.args.self.now.inner_is
    ∙ inner_at c.args.self.now.entries.now c.args.k c.index.result.now c.requires

bound : (entries : List EntryMark) (k : ℕ) (r : Option Open) → k ≤ length entries → r ≡ innermost entries k → IfSome r (λ o. (o.at < k) × (o.start < k))
bound entries k None l e = tt
bound entries k (Some o) l e = innermost_below entries k o l (sym e)

pub returns : goal.returns
returns c = record { value = value c; below = bound c.args.self.now.entries.now c.args.k c.index.result.now (omega arith) (value c) }

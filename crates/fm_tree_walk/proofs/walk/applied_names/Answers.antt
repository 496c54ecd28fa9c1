use Rattle.std.proofs.Common.{List, ℕ, ◌++◌, map, ap, ◌∙◌}
use Rattle.fm_tree.specs.References.{applied_in, applied_name}
use Rattle.fm_tree_walk.proofs.Applied.{names_behind}
use Rattle.fm_tree_walk.proofs.walk.applied_names.Goals as goal

pub returns : goal.returns
returns c =
    let names = applied_in c.args.stmt.now in
    ap (λ v. v.names) c.in_ok-visit_applied.ensures ∙ names_behind (record { alloc = c.args.alloc; names = c.new.result }) names ∙ ap (λ (ns : List (List ℕ)). ns ++ map applied_name names) c.new.ensures

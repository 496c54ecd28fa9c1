use Rattle.std.proofs.Common.{◌≡◌, ℕ, List, [], ◌∷◌, ◌++◌, ap, ap₂, ◌∙◌, arith}
use Rattle.std.specs.Arc.{arc_value}
use Rattle.std.specs.declared.alloc.Global.{Global}
use Rattle.std.specs.declared.sync.Arc.{Arc}
use Rattle.std.proofs.lemmas.List.{map-append}
use Rattle.fm_base.specs.declared.path.Path.{Path}
use Rattle.fm_finmap.specs.Rows.{places_in}
use Rattle.fm_net.specs.Machine.{Place}
use Rattle.fm_net.specs.Starts.{child_places}
use Rattle.fm_net.proofs.Orders.{child_places_more}
use Rattle.fm_nodes_procs.proofs.children.child_paths.Goals as goal

pub children-preserved : goal.children-preserved
children-preserved c =
    ap places_in c.in_ok-push.ensures.items ∙ map-append (λ (a : Arc Path Global). arc_value a) c.children.paths.items (c.in_ok-shared.shared ∷ [])
    ∙ ap₂ (λ (ps : List Place) (q : Place). ps ++ q ∷ []) c.children.invariant (c.in_ok-shared.ensures.ok ∙ c.in_ok-child.ensures)
    ∙ child_places_more c.args.path.now c.args.block c.children.place

pub returns : goal.returns
returns c =
    let whole : c.children.place ≡ c.args.count = omega arith in
    c.children.invariant ∙ ap (λ (n : ℕ). child_places c.args.path.now c.args.block 1 n) whole

use Rattle.std.proofs.Common.{Bor, Some, None, ◌∙◌, ap, subst}
use Rattle.std.specs.List.{ItemBy}
use Rattle.std.specs.Ordering.{is_eq}
use Rattle.std.specs.declared.alloc.Global.{Global}
use Rattle.std.specs.declared.sync.Arc.{Arc}
use Rattle.fm_base.specs.PathOrder.{path_cmp}
use Rattle.fm_base.specs.declared.path.Path.{Path}
use Rattle.fm_nodes_procs.specs.Processes.{is_the}
use Rattle.fm_nodes_procs.proofs.Kept.{place_lent}
use Rattle.fm_nodes_procs.proofs.processes.Processes.is_at.Goals as goal

pub returns-in-Some : goal.returns-in-Some
returns-in-Some g c =
    c.is_eq.ensures ∙ ap is_eq (c.order_of_paths.ensures ∙ ap (λ q. path_cmp q c.args.path.now) c.deref-known.ensures)
    ∙ ap (is_the c.args.path.now) (place_lent c.args.self.now.paths.items c.args.number (Some c.in-Some.there) (subst (λ xs. ItemBy (λ (b : Bor (Arc Path Global)). b.now) xs c.args.number c.args.number (Some c.in-Some.there)) c.deref.ensures.value c.in-Some.ensures.lookup))

pub returns-in-None : goal.returns-in-None
returns-in-None g c =
    ap (is_the c.args.path.now) (place_lent c.args.self.now.paths.items c.args.number None (subst (λ xs. ItemBy (λ (b : Bor (Arc Path Global)). b.now) xs c.args.number c.args.number None) c.deref.ensures.value c.in-None.ensures.lookup))

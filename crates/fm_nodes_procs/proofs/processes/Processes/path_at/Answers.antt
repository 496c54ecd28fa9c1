use Rattle.std.proofs.Common.{◌<◌, ℕ, length, ap, sym, subst, ◌∙◌}
use Rattle.std.specs.Prelude.{◌↔◌, IsSome}
use Rattle.std.specs.Arc.{arc_value}
use Rattle.std.specs.declared.alloc.Global.{Global}
use Rattle.std.specs.declared.sync.Arc.{Arc}
use Rattle.std.proofs.lemmas.List.{length-map}
use Rattle.fm_base.specs.declared.path.Path.{Path}
use Rattle.fm_nodes_procs.proofs.processes.Processes.path_at.Goals as goal

pub returns : goal.returns
returns g c =
    let paths = c.args.self.now.paths.items in
    subst (λ (n : ℕ). IsSome c.path_at.result ↔ (c.args.place < n)) (ap length c.as_slice.ensures.value ∙ sym (length-map paths (λ (a : Arc Path Global). arc_value a))) c.path_at.ensures

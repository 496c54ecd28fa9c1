use Rattle.std.proofs.Common.{List, [], ◌∷◌, ◌++◌, ap, ◌∙◌}
use Rattle.std.specs.declared.alloc.Global.{Global}
use Rattle.std.specs.declared.sync.Arc.{Arc}
use Rattle.fm_base.specs.declared.path.Path.{Path}
use Rattle.fm_finmap.proofs.Kept.{has_more, rows_more}
use Rattle.fm_finmap.proofs.path_table.PathTable.push.Goals as goal

pub invariant_of-self-2 : goal.invariant_of-self-2
invariant_of-self-2 g c = has_more c.self.inside.paths.items c.self.inside.values.items c.args.self.now c.self.invariant c.self.view_is c.args.path c.args.value c.push.new.self.items c.push-2.new.self.items
    (c.in_ok-push.ensures.items ∙ ap (λ (ps : List (Arc Path Global)). ps ++ c.args.path ∷ []) c.reserve.ensures.items)
    (c.in_ok-push-2.ensures.items ∙ ap (λ (xs : List g.row.T.Denot). xs ++ c.args.value ∷ []) c.reserve-2.ensures.items) c.requires

pub returns-clause-ok : goal.returns-clause-ok
returns-clause-ok g c = rows_more c.self.inside.paths.items c.self.inside.values.items c.args.self.now c.self.invariant c.self.view_is c.args.path c.args.value c.push.new.self.items c.push-2.new.self.items
    (c.in_ok-push.ensures.items ∙ ap (λ (ps : List (Arc Path Global)). ps ++ c.args.path ∷ []) c.reserve.ensures.items)
    (c.in_ok-push-2.ensures.items ∙ ap (λ (xs : List g.row.T.Denot). xs ++ c.args.value ∷ []) c.reserve-2.ensures.items)

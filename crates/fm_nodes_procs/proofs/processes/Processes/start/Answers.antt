use Rattle.std.proofs.Common.{ap, ◌∙◌, [], ◌∷◌, ◌++◌}
use Rattle.fm_nodes_procs.proofs.Kept.{first_apart, first_there}
use Rattle.fm_nodes_procs.proofs.processes.Processes.start.Goals as goal

pub append-requires-clause-once : goal.append-requires-clause-once
append-requires-clause-once g c =
    first_apart _ c.push.new.self.items (c.reserve.ensures.order ∙ c.requires) c.in_ok-shared.shared (c.in_ok-push.ensures.items ∙ ap (λ ps. ps ++ c.in_ok-shared.shared ∷ []) c.new-paths.ensures.items)

pub returns-clause-map : goal.returns-clause-map
returns-clause-map g c =
    c.append.ensures.map
    ∙ first_there _ c.push.new.self.items _ c.push-2.new.self.items (c.reserve.ensures.order ∙ c.requires) c.in_ok-shared.shared c.args.process c.args.path c.in_ok-shared.ensures.ok
    (c.in_ok-push.ensures.items ∙ ap (λ ps. ps ++ c.in_ok-shared.shared ∷ []) c.new-paths.ensures.items) (c.in_ok-push-2.ensures.items ∙ ap (λ xs. xs ++ c.args.process ∷ []) c.new-values.ensures.items)

use Rattle.std.proofs.Common.{◌∙◌, ◌++◌, ◌∷◌, [], Some, ap}
use Rattle.fm_hub.proofs.Turns.{opens}
use Rattle.fm_hub.proofs.handles.Hub.new.Goals as goal

pub new-requires : goal.new-requires
new-requires g c = opens g.T.KeepsHistory.history_of c.args.table c.of-about.result.value c.entries.result c.push_reserved.new.self.items c.entries.ensures.value
    (c.push_reserved.ensures.items ∙ ap (λ l. l ++ Some c.args.table ∷ []) c.in-Ok.ensures.items) c.of-about.ensures

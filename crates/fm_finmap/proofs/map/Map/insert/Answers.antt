use Rattle.std.proofs.lemmas.Result.{on_ok_weaker, IfOk-weaker}
use Rattle.fm_finmap.proofs.Maps.{key_order, get_at, map_of-insert}
use Rattle.fm_finmap.proofs.map.Map.insert.Goals as goal

pub returns-clause-ok : goal.returns-clause-ok
returns-clause-ok g c =
    on_ok_weaker c.insert.result (λ updates. map_of-insert (key_order g.met.K.Ord.total g.met.K.Key.exact) c.self.inside.tree.entries c.args.self.now c.insert.new.self.entries c.args.key c.args.value c.self.view_is (λ q. updates.0 q)) c.insert.ensures.updates

pub returns-clause-before : goal.returns-clause-before
returns-clause-before g c =
    IfOk-weaker c.insert.result _ _ (λ v is. get_at (key_order g.met.K.Ord.total g.met.K.Key.exact) c.self.inside.tree.entries c.args.self.now c.args.key v c.self.view_is is) c.insert.ensures.old

use Rattle.fm_hub.proofs.Turns.{began_light, made_light}
use Rattle.fm_hub.proofs.handles.Held.turn_light.Goals as goal

pub invariant_of-self : goal.invariant_of-self
invariant_of-self g c =
    let h = c.args.self.now in
    let history_of = g.T.KeepsHistory.history_of in
    record {
      out = h.out;
      began = began_light h.place.me.0.held c.turn_light.result (history_of h.table) (history_of c.turn_light.new.self) h.began c.turn_light.ensures.grown c.turn_light.ensures.unchanged;
      untold = h.untold;
    }

pub returns-clause-made : goal.returns-clause-made
returns-clause-made g c =
    let h = c.args.self.now in
    let history_of = g.T.KeepsHistory.history_of in
    made_light h.place.me.0.held c.turn_light.result (history_of h.table) (history_of c.turn_light.new.self) h.began c.turn_light.ensures.grown c.turn_light.ensures.unchanged

use Rattle.fm_hub.proofs.Turns.{began_after}
use Rattle.fm_hub.proofs.handles.Held.give.Goals as goal

pub invariant_of-self : goal.invariant_of-self
invariant_of-self g c =
    let h = c.args.self.now in
    let history_of = g.T.KeepsHistory.history_of in
    record {
      out = h.out;
      began = began_after h.place.me.0.held c.give.result (g.T.SharedTable.process_of c.args.done) (history_of h.table) (history_of c.give.new.self) h.began c.give.ensures.given c.give.ensures.unchanged;
      untold = h.untold;
    }

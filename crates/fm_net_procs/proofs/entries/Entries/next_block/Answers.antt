use Rattle.std.proofs.Common.{◌≡◌, Some, None, ap, sym, ◌∙◌}
use Rattle.fm_net_procs.proofs.Maps.{found, there}
use Rattle.fm_net_procs.proofs.entries.Entries.next_block.Goals as goal

pub returns-in-Some : goal.returns-in-Some
returns-in-Some g c = λ p q y at is.
    let entry = c.in-Some.entry.now in
    let same : g.P.Proc.seen p entry.process ≡ y = cc (sym (there (g.P.Proc.seen p) c.args.self.now q (Some entry) (found c.args.self.now c.args.number q (Some entry) at c.in-Some.ensures)) ∙ is) in
    c.next_block.ensures p ∙ ap (g.P.Proc.language p).next_block same

pub returns-in-None : goal.returns-in-None
returns-in-None g c = λ p q y at is. absurd (cc (sym (there (g.P.Proc.seen p) c.args.self.now q None (found c.args.self.now c.args.number q None at c.in-None.ensures)) ∙ is))

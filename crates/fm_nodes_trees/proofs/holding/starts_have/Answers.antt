use Rattle.std.proofs.Common.{List, refl, sym, ◌∙◌, arith, map}
use Rattle.fm_base.specs.Channels.{message_ports}
use Rattle.fm_mean.specs.Process.{started_ports}
use Rattle.fm_plain_frame.specs.Frames.{start_of}
use Rattle.fm_plain_frame.specs.declared.frame.Start.{Start}
use Rattle.fm_nodes_trees.proofs.HoldLaws.{has_later, has_next, has_none}
use Rattle.fm_nodes_trees.proofs.holding.starts_have.Goals as goal

pub returns-then-start_has : goal.returns-then-start_has
returns-then-start_has c = has_next (λ (x : Start). message_ports (start_of c.args.program.now x).values) (λ (xs : List Start). started_ports (map (start_of c.args.program.now) xs)) (λ (x : Start) (xs : List Start). refl) refl c.args.port.now c.args.starts.now c.starts.start-index c.start-item.result c.starts-test.true c.start-item.is (sym c.start_has.ensures ∙ c.if-start_has.true) c.starts.invariant

pub starts-preserved : goal.starts-preserved
starts-preserved c = has_later (λ (x : Start). message_ports (start_of c.args.program.now x).values) (λ (xs : List Start). started_ports (map (start_of c.args.program.now) xs)) (λ (x : Start) (xs : List Start). refl) refl c.args.port.now c.args.starts.now c.starts.start-index c.start-item.result c.starts-test.true c.start-item.is (sym c.start_has.ensures ∙ c.if-start_has.false) c.starts.invariant

pub returns : goal.returns
returns c = has_none (λ (x : Start). message_ports (start_of c.args.program.now x).values) (λ (xs : List Start). started_ports (map (start_of c.args.program.now) xs)) (λ (x : Start) (xs : List Start). refl) refl c.args.port.now c.args.starts.now c.starts.start-index (omega (arith, c.starts-test.false)) c.starts.invariant

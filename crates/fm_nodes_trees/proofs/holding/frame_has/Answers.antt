use Rattle.std.proofs.Common.{List, map, sym, ap, ◌∙◌}
use Rattle.fm_base.specs.Channels.{message_ports}
use Rattle.fm_mean.specs.Process.{started_ports}
use Rattle.fm_plain_frame.specs.declared.frame.Start.{Start}
use Rattle.fm_plain_frame.specs.Frames.{frame_of, start_of}
use Rattle.fm_nodes_trees.proofs.HoldLaws.{among, among_first, among_later, values_among}
use Rattle.fm_nodes_trees.proofs.holding.frame_has.Goals as goal

pub returns-then-memory_has : goal.returns-then-memory_has
returns-then-memory_has c =
    let f = frame_of c.args.program.now c.args.frame.now in
    let has = values_among c.args.port.now c.args.program.now c.args.frame.now _ _ c.variables_of-variables.ensures.variables c.as_slice.ensures.value _ c.memory_has.ensures in
    sym (among_first c.args.port.now (message_ports f.values) (started_ports f.starts) (sym has ∙ c.if-memory_has.true))

pub returns : goal.returns
returns c =
    let p = c.args.program.now in
    let f = frame_of p c.args.frame.now in
    let has = values_among c.args.port.now p c.args.frame.now _ _ c.variables_of-variables.ensures.variables c.as_slice.ensures.value _ c.memory_has.ensures in
    c.starts_have.ensures ∙ ap (λ (ss : List Start). among c.args.port.now (started_ports (map (start_of p) ss))) c.as_slice-2.ensures.value
    ∙ sym (among_later c.args.port.now (message_ports f.values) (started_ports f.starts) (sym has ∙ c.if-memory_has.false))

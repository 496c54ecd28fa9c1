use Rattle.std.proofs.Common.{ap, ◌∙◌}
use Rattle.fm_symbols.specs.declared.names.UnitNames.{UnitNames}
use Rattle.fm_mean.specs.Steps.{nodes_of}
use Rattle.fm_plain_frame.specs.Frames.{frame_of}
use Rattle.fm_plain_frame.specs.Units.{unit_of}
use Rattle.fm_plain_frame.proofs.ProcessLaws.{main_not_none, main_made}
use Rattle.fm_plain_frame.proofs.process.PlainProc.main.Goals as goal

pub returns-in-None : goal.returns-in-None
returns-in-None c = absurd (main_not_none c.args.program.now c.main-number.result c.main-number.ensures c.in-None.ensures.unit)

pub returns-in_ok-count-in-Some : goal.returns-in_ok-count-in-Some
returns-in_ok-count-in-Some c =
    let p = c.args.program.now in
    c.alone-in-Some.ensures p
    ∙ main_made p c.main-number.result (unit_of c.in-Some.view) (frame_of p c.new-frame.result) c.in_ok-memory-in-Some.memory.items c.variables.result.now c.new-in-Some.result c.in_ok-count-in-Some.count
    c.main-number.ensures c.in-Some.ensures.unit (c.new-frame.ensures p) c.new-in-Some.ensures c.variables.ensures.variables c.in_ok-memory-in-Some.ensures
    (c.in_ok-count-in-Some.ensures ∙ ap nodes_of (c.as_slice.ensures ∙ ap (λ (n : UnitNames). n.extents) c.names.ensures))

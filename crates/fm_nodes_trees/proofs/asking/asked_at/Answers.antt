use Rattle.std.proofs.Common.{refl}
use Rattle.fm_plain_frame.specs.Frames.{phase_of, proc_of}
use Rattle.fm_plain.specs.Events.{event_by}
use Rattle.fm_nodes_trees.proofs.AskLaws.{asked_starts}
use Rattle.fm_nodes_trees.proofs.asking.asked_at.Goals as goal

pub returns-clause-starts : goal.returns-clause-starts
returns-clause-starts c =
    let p = c.args.program.now in
    let x = proc_of p c.args.process.now in
    asked_starts p x (event_by (phase_of c.args.process.now.phase) c.args.event) c.requires.0 _ _ refl (c.starts_with-starts.ensures p)

use Rattle.std.proofs.Common.{Option, option_map, sym, ap, ◌∙◌}
use Rattle.std.specs.Prelude.{option_to_list}
use Rattle.fm_mean.specs.Process.{frames_ports}
use Rattle.fm_plain_frame.specs.declared.frame.Frame.{Frame}
use Rattle.fm_plain_frame.specs.Frames.{frame_of}
use Rattle.fm_nodes_trees.proofs.HoldLaws.{among, among_none}
use Rattle.fm_nodes_trees.proofs.holding.top_has.Goals as goal

pub returns-in-None : goal.returns-in-None
returns-in-None c = sym (among_none c.args.port.now) ∙ ap (λ (o : Option Frame). among c.args.port.now (frames_ports (option_to_list (option_map (frame_of c.args.program.now) o)))) (sym c.in-None.is)

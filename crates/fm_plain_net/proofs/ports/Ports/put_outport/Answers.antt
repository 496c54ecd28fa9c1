use Rattle.std.proofs.Common.{refl}
use Rattle.fm_plain_net.proofs.Kept.{put_writer, put_writer_others}
use Rattle.fm_plain_net.proofs.ports.Ports.put_outport.Goals as goal

pub returns-clause-here : goal.returns-clause-here
returns-clause-here c = put_writer c.args.self.now (record c.args.self.now { outports = c.insert.new.self }) c.args.channel c.args.number refl c.args.port c.requires c.in_ok-insert.ensures.ok

pub returns-clause-others : goal.returns-clause-others
returns-clause-others c = put_writer_others c.args.self.now (record c.args.self.now { outports = c.insert.new.self }) c.args.channel c.args.number refl c.args.port c.requires c.in_ok-insert.ensures.ok

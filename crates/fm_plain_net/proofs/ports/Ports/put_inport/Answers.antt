use Rattle.std.proofs.Common.{refl}
use Rattle.fm_plain_net.proofs.Kept.{put_reader, put_reader_others}
use Rattle.fm_plain_net.proofs.ports.Ports.put_inport.Goals as goal

pub returns-clause-here : goal.returns-clause-here
returns-clause-here c = put_reader c.args.self.now (record c.args.self.now { inports = c.insert.new.self }) c.args.channel refl c.args.port c.requires c.in_ok-insert.ensures.ok

pub returns-clause-others : goal.returns-clause-others
returns-clause-others c = put_reader_others c.args.self.now (record c.args.self.now { inports = c.insert.new.self }) c.args.channel refl c.args.port c.requires c.in_ok-insert.ensures.ok

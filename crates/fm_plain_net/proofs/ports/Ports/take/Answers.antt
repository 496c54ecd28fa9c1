use Rattle.std.proofs.Common.{ap, refl, sym, ◌∙◌}
use Rattle.fm_plain_net.specs.Readings.{kept}
use Rattle.fm_plain_net.proofs.Kept.{kept_reader, kept_writer, take_reader_others, take_writer_others}
use Rattle.fm_plain_net.proofs.ports.Ports.take.Goals as goal

pub returns-in-Writer-clause-value : goal.returns-in-Writer-clause-value
returns-in-Writer-clause-value c = c.remove.ensures.value ∙ sym (kept_writer c.args.self.now c.in-Writer.channel c.in-Writer.number) ∙ ap (kept c.args.self.now) (sym c.in-Writer.is)

pub returns-in-Writer-clause-others : goal.returns-in-Writer-clause-others
returns-in-Writer-clause-others c = take_writer_others c.args.self.now (record c.args.self.now { outports = c.remove.new.self }) c.in-Writer.channel c.in-Writer.number refl c.args.value c.in-Writer.is c.remove.ensures.map

pub returns-in-Reader-clause-value : goal.returns-in-Reader-clause-value
returns-in-Reader-clause-value c = c.remove-in-Reader.ensures.value ∙ sym (kept_reader c.args.self.now c.in-Reader.channel) ∙ ap (kept c.args.self.now) (sym c.in-Reader.is)

pub returns-in-Reader-clause-others : goal.returns-in-Reader-clause-others
returns-in-Reader-clause-others c = take_reader_others c.args.self.now (record c.args.self.now { inports = c.remove-in-Reader.new.self }) c.in-Reader.channel refl c.args.value c.in-Reader.is c.remove-in-Reader.ensures.map

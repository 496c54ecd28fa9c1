use Rattle.std.proofs.Common.{refl, map, sym, ◌∙◌}
use Rattle.fm_base.specs.Channels.{Push, Words}
use Rattle.fm_net.specs.Machine.{Event}
use Rattle.fm_net.specs.Owned.{main_alone}
use Rattle.fm_nodes_procs.specs.Processes.{procs_of}
use Rattle.fm_nodes_hosts.proofs.Carrying.{unserved}
use Rattle.fm_nodes_hosts.proofs.Received.{sends_nowhere}
use Rattle.fm_nodes_hosts.proofs.sending.send_words.Goals as goal

pub send_there-requires-clause-there : goal.send_there-requires-clause-there
send_there-requires-clause-there g c = sym c.has.ensures ∙ c.if-has.true

pub returns-else-has : goal.returns-else-has
returns-else-has g c =
    let r = c.args.runner.now in
    let event = Event c.args.channel.now (Push c.args.writer (map Words c.args.words)) in (
      unserved (g.R.Runner.seen r) c.args.state.now c.args.state.now refl (g.R.Runner.language r) (main_alone (g.R.Runner.main r)) (g.met.R.Runner.is_lawful r) (g.met.R.Runner.main_owns r) (g.met.R.Runner.asks_for_words r) c.requires.sound c.requires.used c.args.path.now c.args.number c.requires.who event c.requires.asks
          (sends_nowhere _ c.args.channel.now c.args.writer (map Words c.args.words) (sym c.has.ensures ∙ c.if-has.false) (g.R.Runner.language r).has_ended (procs_of (g.R.Runner.seen r) c.args.state.now.processes) c.args.path.now),
      refl,
    )

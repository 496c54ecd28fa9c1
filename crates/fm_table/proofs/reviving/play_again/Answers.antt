use Rattle.std.proofs.Common.{◌∙◌, arith}
use Rattle.std.proofs.lemmas.List.{take_all}
use Rattle.fm_table.proofs.Standings.{first_live, one_entry_more}
use Rattle.fm_table.proofs.reviving.play_again.Goals as goal

pub entries-init : goal.entries-init
entries-init c = record {
  live = first_live c.args.program.now c.in_ok-player.player c.in_ok-player.ensures.sound c.in_ok-player.ensures.played c.in_ok-player.ensures.stand c.in_ok-player.ensures.history;
  history = c.in_ok-player.ensures.history;
}

pub play_entry-requires : goal.play_entry-requires
play_entry-requires c = c.entries.invariant.live

pub entries-preserved : goal.entries-preserved
entries-preserved c = record {
  live = c.in_ok-play_entry.ensures.live;
  history = one_entry_more c.args.entries.now c.entries.player.net.history c.play_entry.new.player.net.history c.entries.entry-index _ c.entries-test.true c.entries.invariant.history c.in_ok-play_entry.ensures.history;
}

pub returns-clause-history : goal.returns-clause-history
returns-clause-history c = c.entries.invariant.history ∙ take_all _ c.args.entries.now (omega arith)

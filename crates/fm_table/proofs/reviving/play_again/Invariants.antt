use Rattle.std.proofs.Common.{◌≡◌, take}
use Rattle.fm_table.specs.Inside.{IsLive}
use Rattle.fm_table.proofs.reviving.play_again.Given as goal

abbrev pub invariant-entries : goal.invariant-entries
invariant-entries l = record {
  live : IsLive l.program l.player;
  history : l.player.net.history ≡ take l.entry-index l.entries;
}

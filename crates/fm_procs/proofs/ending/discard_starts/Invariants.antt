use Rattle.std.proofs.Common.{◌≡◌, drop}
use Rattle.fm_chan.specs.Bodies.{chans_of}
use Rattle.fm_chan.specs.Woken.{WakesAll}
use Rattle.fm_proc_events.specs.Discards.{all_discarded}
use Rattle.fm_procs.specs.Rooms.{starts_words}
use Rattle.fm_procs.proofs.ending.discard_starts.Given as goal

abbrev pub invariant-starts : goal.invariant-starts
invariant-starts l = record {
  gone : all_discarded l.slots (chans_of l.channels) (starts_words l.code (drop l.start-index l.starts)) ≡ all_discarded l.fn.slots (chans_of l.fn.channels) (starts_words l.code l.starts);
  waking : WakesAll l.fn.channels l.channels;
}

use Rattle.std.proofs.Common.{◌≡◌, drop}
use Rattle.fm_code.specs.Passing.{live}
use Rattle.fm_chan.specs.Bodies.{chans_of}
use Rattle.fm_chan.specs.Woken.{WakesAll}
use Rattle.fm_proc_events.specs.Discards.{all_discarded}
use Rattle.fm_proc_events.proofs.shedding.discard_words.Given as goal

abbrev pub invariant-words : goal.invariant-words
invariant-words l = record {
  gone : all_discarded l.slots (chans_of l.channels) (live (drop l.word-index l.words)) ≡ all_discarded l.fn.slots (chans_of l.fn.channels) (live l.words);
  waking : WakesAll l.fn.channels l.channels;
}

use Rattle.std.proofs.Common.{◌≡◌, drop}
use Rattle.fm_code.specs.Passing.{ports_in}
use Rattle.fm_chan.specs.Bodies.{chans_of}
use Rattle.fm_chan.specs.Woken.{WakesAll}
use Rattle.fm_proc_events.specs.Discards.{all_discarded}
use Rattle.fm_procs.proofs.ending.discard_unit.Given as goal

abbrev pub invariant-spans : goal.invariant-spans
invariant-spans l = record {
  gone : all_discarded l.slots (chans_of l.channels) (ports_in (drop l.span-index l.spans) l.words) ≡ all_discarded l.fn.slots (chans_of l.fn.channels) (ports_in l.spans l.words);
  waking : WakesAll l.fn.channels l.channels;
}

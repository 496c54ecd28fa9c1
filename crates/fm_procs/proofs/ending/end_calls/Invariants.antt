use Rattle.std.proofs.Common.{◌≡◌, length}
use Rattle.fm_chan.specs.Bodies.{chans_of}
use Rattle.fm_chan.specs.Woken.{WakesAll}
use Rattle.fm_proc_language.specs.Processes.{ended_frame}
use Rattle.fm_proc_events.specs.Discards.{all_discarded}
use Rattle.fm_procs.proofs.ending.end_calls.Given as goal

abbrev pub invariant-frames : goal.invariant-frames
invariant-frames l = record {
  frame : (ended_frame l.fn.body l.body.frame l.body.below).0 ≡ (ended_frame l.fn.body l.fn.body.frame l.fn.body.below).0;
  gone : all_discarded l.slots (chans_of l.channels) (ended_frame l.fn.body l.body.frame l.body.below).1 ≡ all_discarded l.fn.slots (chans_of l.fn.channels) (ended_frame l.fn.body l.fn.body.frame l.fn.body.below).1;
  body : l.body ≡ record l.fn.body { frame = l.body.frame; below = l.body.below };
  waking : WakesAll l.fn.channels l.channels;
}

abbrev pub decreases-frames : goal.decreases-frames
decreases-frames l = length l.body.below

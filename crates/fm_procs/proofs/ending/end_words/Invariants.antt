use Rattle.std.proofs.Common.{◌≡◌, drop}
use Rattle.fm_chan.specs.Bodies.{chans_of}
use Rattle.fm_chan.specs.Woken.{WakesAll}
use Rattle.fm_proc_language.specs.Frames.{kept}
use Rattle.fm_proc_events.specs.Discards.{all_discarded}
use Rattle.fm_procs.proofs.ending.end_words.Given as goal

abbrev pub invariant-spans : goal.invariant-spans
invariant-spans l = record {
  keeps : (kept l.formals (drop l.span-index l.spans) l.words).0 ≡ (kept l.formals l.spans l.fn.words).0;
  gone : all_discarded l.slots (chans_of l.channels) (kept l.formals (drop l.span-index l.spans) l.words).1 ≡ all_discarded l.fn.slots (chans_of l.fn.channels) (kept l.formals l.spans l.fn.words).1;
  waking : WakesAll l.fn.channels l.channels;
}

use Rattle.std.proofs.Common.{List, ap, slice_get, ◌∙◌}
use Rattle.fm_code.specs.declared.body.Start.{Start}
use Rattle.fm_code.specs.Statements.{ports_of}
use Rattle.fm_chan.specs.Bodies.{chans_of}
use Rattle.fm_chan.proofs.Waking.{wakes_all_then}
use Rattle.fm_proc_language.specs.Frames.{kept}
use Rattle.fm_proc_language.specs.Processes.{formals_in}
use Rattle.fm_proc_events.specs.Discards.{all_discarded}
use Rattle.fm_procs.specs.Rooms.{starts_words}
use Rattle.fm_procs.proofs.Endings.{then_discarded}
use Rattle.fm_procs.proofs.ending.end_frame.Goals as goal

pub returns-clause-body : goal.returns-clause-body
returns-clause-body c =
    let b = c.args.body.now in
    λ i. record b { frame = record b.frame { words = c.end_words.ensures.words i; results = c.clear.ensures i; starts = c.clear-2.ensures i } }

pub returns-clause-gone : goal.returns-clause-gone
returns-clause-gone c =
    let b = c.args.body.now in
    let unit = slice_get b.code.units b.frame.unit in
    let mid = c.end_words.new in
    then_discarded (kept (formals_in unit) (ports_of unit) b.frame.words).1 (starts_words b.code b.frame.starts) c.args.slots.now mid.slots c.discard_starts.new.slots
    (chans_of c.args.channels.now) (chans_of mid.channels) (chans_of c.discard_starts.new.channels) c.end_words.ensures.gone
    (c.discard_starts.ensures.gone ∙ ap (λ (l : List Start). all_discarded mid.slots (chans_of mid.channels) (starts_words b.code l)) c.as_slice.ensures)

pub returns-clause-waking : goal.returns-clause-waking
returns-clause-waking c = wakes_all_then c.args.channels.now c.end_words.new.channels c.discard_starts.new.channels c.end_words.ensures.waking c.discard_starts.ensures.waking

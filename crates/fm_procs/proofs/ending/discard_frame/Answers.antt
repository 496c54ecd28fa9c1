use Rattle.std.proofs.Common.{ℤ, List, slice_get, ◌∙◌, ap}
use Rattle.fm_code.specs.declared.body.Start.{Start}
use Rattle.fm_code.specs.Passing.{ports_in}
use Rattle.fm_code.specs.Statements.{ports_of}
use Rattle.fm_chan.specs.Bodies.{chans_of}
use Rattle.fm_chan.proofs.Waking.{wakes_all_then}
use Rattle.fm_proc_events.specs.Discards.{all_discarded}
use Rattle.fm_procs.specs.Rooms.{starts_words}
use Rattle.fm_procs.proofs.Endings.{then_discarded}
use Rattle.fm_procs.proofs.ending.discard_frame.Goals as goal

pub returns-clause-gone : goal.returns-clause-gone
returns-clause-gone c =
    let code = c.args.code.now in
    let m = c.args.frame.now in
    let spans = ports_of (slice_get code.units m.unit) in
    let slots = c.args.slots.now in
    let cs = chans_of c.args.channels.now in
    let mid = c.discard_unit.new in
    then_discarded (ports_in spans m.words) (starts_words code m.starts) slots mid.slots c.discard_starts.new.slots cs (chans_of mid.channels) (chans_of c.discard_starts.new.channels)
    (c.discard_unit.ensures.gone ∙ ap (λ (l : List ℤ). all_discarded slots cs (ports_in spans l)) c.as_slice.ensures)
    (c.discard_starts.ensures.gone ∙ ap (λ (l : List Start). all_discarded mid.slots (chans_of mid.channels) (starts_words code l)) c.as_slice-2.ensures)

pub returns-clause-waking : goal.returns-clause-waking
returns-clause-waking c = wakes_all_then c.args.channels.now c.discard_unit.new.channels c.discard_starts.new.channels c.discard_unit.ensures.waking c.discard_starts.ensures.waking

use Rattle.std.proofs.Common.{ℤ, List, ◌∷◌, refl, sym, ◌+◌, ap, drop, slice_get, ◌∙◌}
use Rattle.std.proofs.lemmas.List.{drop_all, drop_more}
use Rattle.fm_code.specs.declared.body.Start.{Start}
use Rattle.fm_code.specs.Passing.{ports_in}
use Rattle.fm_code.specs.Statements.{ports_of}
use Rattle.fm_chan.specs.Bodies.{chans_of}
use Rattle.fm_chan.proofs.Waking.{wakes_all_then, wakes_nobody}
use Rattle.fm_proc_events.specs.Discards.{all_discarded}
use Rattle.fm_proc_events.proofs.Discards.{discarded_first, discarded_none}
use Rattle.fm_procs.specs.Rooms.{starts_words}
use Rattle.fm_procs.proofs.Droppings.{next_start}
use Rattle.fm_procs.proofs.ending.discard_starts.Goals as goal

pub starts-init : goal.starts-init
starts-init c = record { gone = refl; waking = wakes_nobody c.args.channels.now }

pub starts-preserved : goal.starts-preserved
starts-preserved c =
    let code = c.args.code.now in
    let starts = c.args.starts.now in
    let i = c.starts.start-index in
    let s = c.start-item.result in
    let spans = ports_of (slice_get code.units s.unit) in
    let slots = c.starts.slots in
    let cs = chans_of c.starts.channels in
    record {
      gone = discarded_first (ports_in spans s.words) (starts_words code (drop (i + 1) starts)) (starts_words code (drop i starts)) slots c.discard_unit.new.slots cs (chans_of c.discard_unit.new.channels) _
          (next_start code s (drop (i + 1) starts) (drop i starts) (drop_more starts i s c.starts-test.true ∙ ap (λ (x : Start). x ∷ drop (i + 1) starts) (sym c.start-item.is)))
          (c.discard_unit.ensures.gone ∙ ap (λ (l : List ℤ). all_discarded slots cs (ports_in spans l)) c.as_slice.ensures) c.starts.invariant.gone;
      waking = wakes_all_then c.args.channels.now c.starts.channels c.discard_unit.new.channels c.starts.invariant.waking c.discard_unit.ensures.waking;
    }

pub returns-clause-gone : goal.returns-clause-gone
returns-clause-gone c =
    let i = c.starts.start-index in
    let starts = c.args.starts.now in
    discarded_none (starts_words c.args.code.now (drop i starts)) c.starts.slots (chans_of c.starts.channels) _ (ap (starts_words c.args.code.now) (drop_all i starts c.starts-test.false)) c.starts.invariant.gone

use Rattle.std.proofs.Common.{ℤ, List, refl, ◌+◌, ap, drop, get_or, ◌∙◌}
use Rattle.std.proofs.lemmas.List.{drop_all, drop_more}
use Rattle.fm_code.specs.declared.code.Span.{Span}
use Rattle.fm_code.specs.Acts.{span_of}
use Rattle.fm_code.specs.Passing.{live, ports_in}
use Rattle.fm_chan.specs.Bodies.{chans_of}
use Rattle.fm_chan.proofs.Waking.{wakes_all_then, wakes_nobody}
use Rattle.fm_proc_events.specs.Discards.{all_discarded}
use Rattle.fm_proc_events.proofs.Discards.{discarded_first, discarded_none}
use Rattle.fm_procs.proofs.Droppings.{next_span}
use Rattle.fm_procs.proofs.ending.discard_unit.Goals as goal

abbrev none : Span
none = record { first = 0; count = 0 }

pub spans-init : goal.spans-init
spans-init c = record { gone = refl; waking = wakes_nobody c.args.channels.now }

pub spans-preserved : goal.spans-preserved
spans-preserved c =
    let ws = c.args.words.now in
    let spans = c.ports_at-spans.result.now in
    let i = c.spans.span-index in
    let s = get_or spans i none in
    let slots = c.spans.slots in
    let cs = chans_of c.spans.channels in
    record {
      gone = discarded_first (live (span_of ws s)) (ports_in (drop (i + 1) spans) ws) (ports_in (drop i spans) ws) slots c.discard_words.new.slots cs (chans_of c.discard_words.new.channels) _
          (next_span ws s (drop (i + 1) spans) (drop i spans) (drop_more spans i none c.spans-test.true))
          (c.discard_words.ensures.gone ∙ ap (λ (l : List ℤ). all_discarded slots cs (live l)) c.words_of.ensures) c.spans.invariant.gone;
      waking = wakes_all_then c.args.channels.now c.spans.channels c.discard_words.new.channels c.spans.invariant.waking c.discard_words.ensures.waking;
    }

pub returns-clause-gone : goal.returns-clause-gone
returns-clause-gone c =
    let ws = c.args.words.now in
    let spans = c.ports_at-spans.result.now in
    let i = c.spans.span-index in
    discarded_none (ports_in (drop i spans) ws) c.spans.slots (chans_of c.spans.channels) _ (ap (λ (l : List Span). ports_in l ws) (drop_all i spans c.spans-test.false)) c.spans.invariant.gone
    ∙ ap (λ (l : List Span). all_discarded c.args.slots.now (chans_of c.args.channels.now) (ports_in l ws)) c.ports_at-spans.ensures

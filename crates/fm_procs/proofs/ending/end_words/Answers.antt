use Rattle.std.proofs.Common.{refl, sym, ◌+◌, drop, get_or, ◌∙◌}
use Rattle.std.proofs.lemmas.List.{drop_all, drop_more}
use Rattle.fm_code.specs.declared.code.Span.{Span}
use Rattle.fm_chan.specs.Bodies.{chans_of}
use Rattle.fm_chan.proofs.Waking.{wakes_all_then, wakes_nobody}
use Rattle.fm_procs.proofs.Endings.{span_ended, spans_gone, spans_kept}
use Rattle.fm_procs.proofs.ending.end_words.Goals as goal

abbrev none : Span
none = record { first = 0; count = 0 }

pub is_kept-stays-requires : goal.is_kept-stays-requires
is_kept-stays-requires c = λ up. sym c.rise-rising.ensures ∙ up

pub spans-init : goal.spans-init
spans-init c = record { keeps = refl; gone = refl; waking = wakes_nobody c.args.channels.now }

pub spans-preserved : goal.spans-preserved
spans-preserved c =
    let fs = c.formals_at-formals.result.now in
    let spans = c.ports_at-spans.result.now in
    let i = c.spans.span-index in
    let s = get_or spans i none in
    let on = span_ended c.is_kept-stays.result fs s (drop i spans) (drop (i + 1) spans) c.spans.words c.end_span.new.words _ c.spans.slots c.end_span.new.slots (chans_of c.spans.channels) (chans_of c.end_span.new.channels) _
    (drop_more spans i none c.spans-test.true) c.is_kept-stays.ensures c.end_span.ensures.words c.end_span.ensures.gone c.spans.invariant.keeps c.spans.invariant.gone in
    record {
      keeps = on.keeps;
      gone = on.gone;
      waking = wakes_all_then c.args.channels.now c.spans.channels c.end_span.new.channels c.spans.invariant.waking c.end_span.ensures.waking;
    }

pub returns-clause-words : goal.returns-clause-words
returns-clause-words c =
    let spans = c.ports_at-spans.result.now in
    let i = c.spans.span-index in
    spans_kept c.formals_at-formals.result.now _ (drop i spans) spans _ c.spans.words c.args.words.now (drop_all i spans c.spans-test.false) c.formals_at-formals.ensures c.ports_at-spans.ensures c.spans.invariant.keeps

pub returns-clause-gone : goal.returns-clause-gone
returns-clause-gone c =
    let spans = c.ports_at-spans.result.now in
    let i = c.spans.span-index in
    spans_gone c.formals_at-formals.result.now _ (drop i spans) spans _ c.spans.words c.args.words.now c.spans.slots c.args.slots.now (chans_of c.spans.channels) (chans_of c.args.channels.now) (drop_all i spans c.spans-test.false)
    c.formals_at-formals.ensures c.ports_at-spans.ensures c.spans.invariant.gone

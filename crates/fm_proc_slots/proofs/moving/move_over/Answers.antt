use Rattle.std.proofs.Common.{◌≡◌, ◌+◌, get_or, drop, ap, ◌∙◌}
use Rattle.std.proofs.lemmas.List.{drop_all, drop_more}
use Rattle.fm_code.specs.declared.code.Span.{Span}
use Rattle.fm_proc_slots.specs.Rooms.{slots_in, span_words}
use Rattle.fm_proc_slots.proofs.Moved.{spans_more}
use Rattle.fm_proc_slots.proofs.Roomy.{none_needed, rest_left, room_for_span}
use Rattle.fm_proc_slots.proofs.moving.move_over.Goals as goal

abbrev none : Span
none = record { first = 0; count = 0 }

pub move_span-requires-clause-from : goal.move_span-requires-clause-from
move_span-requires-clause-from c =
    let spans = c.args.spans.now in
    let i = c.spans.span-index in
    room_for_span c.args.from.now c.spans.from (span_words spans) (span_words (drop i spans)) (get_or spans i none).count (span_words (drop (i + 1) spans))
    (ap span_words (drop_more spans i none c.spans-test.true)) c.spans.invariant.from c.requires.from

pub move_span-requires-clause-to : goal.move_span-requires-clause-to
move_span-requires-clause-to c =
    let spans = c.args.spans.now in
    let i = c.spans.span-index in
    room_for_span c.args.to.now c.spans.to (span_words spans) (span_words (drop i spans)) (get_or spans i none).count (span_words (drop (i + 1) spans))
    (ap span_words (drop_more spans i none c.spans-test.true)) c.spans.invariant.to c.requires.to

pub spans-preserved : goal.spans-preserved
spans-preserved c =
    let spans = c.args.spans.now in
    let i = c.spans.span-index in
    let s = get_or spans i none in
    let next : span_words (drop i spans) ≡ s.count + span_words (drop (i + 1) spans) = ap span_words (drop_more spans i none c.spans-test.true) in
    record {
      moved =
          spans_more s (drop i spans) (drop (i + 1) spans) c.spans.words (slots_in c.spans.from) (slots_in c.spans.to) c.move_span.new.words (slots_in c.move_span.new.from) (slots_in c.move_span.new.to)
          (drop_more spans i none c.spans-test.true) c.move_span.ensures.moved
          ∙ c.spans.invariant.moved;
      from = rest_left c.args.from.now c.spans.from c.move_span.new.from (span_words spans) (span_words (drop i spans)) s.count (span_words (drop (i + 1) spans)) next c.spans.invariant.from c.move_span.ensures.from;
      to = rest_left c.args.to.now c.spans.to c.move_span.new.to (span_words spans) (span_words (drop i spans)) s.count (span_words (drop (i + 1) spans)) next c.spans.invariant.to c.move_span.ensures.to;
    }

pub returns-clause-from : goal.returns-clause-from
returns-clause-from c =
    let spans = c.args.spans.now in
    let i = c.spans.span-index in
    none_needed c.args.from.now c.spans.from (span_words spans) (span_words (drop i spans)) (ap span_words (drop_all i spans c.spans-test.false)) c.spans.invariant.from

use Rattle.std.proofs.Common.{◌≡◌, ◌<◌, ◌≤◌, ℤ, List, ◌∙◌, length, drop, ap, arith}
use Rattle.std.proofs.lemmas.List.{length-take}
use Rattle.fm_code.specs.Acts.{span_of}
use Rattle.fm_proc_slots.specs.Rooms.{slots_in}
use Rattle.fm_proc_slots.proofs.Moved.{all_moved, moves_more, none_moved}
use Rattle.fm_proc_slots.proofs.Roomy.{all_left, more_left, one_used, room_for_one}
use Rattle.fm_proc_slots.proofs.moving.move_span.Goals as goal

pub words-init : goal.words-init
words-init c = record {
  there = ap length c.words_of-there.ensures ∙ ap (λ (l : List ℤ). length (span_of l c.args.span)) c.as_slice.ensures;
  moved = none_moved c.args.words.now c.args.span (slots_in c.args.from.now) (slots_in c.args.to.now);
  from = all_left c.args.from.now;
  to = all_left c.args.to.now;
}

pub move_word-requires-clause-from : goal.move_word-requires-clause-from
move_word-requires-clause-from c =
    let short : c.words.index < c.args.span.count = omega (arith, length-take c.args.span.count (drop c.args.span.first c.args.words.now), c.words-test.true, c.words.invariant.there) in
    room_for_one c.args.from.now c.words.from c.words.index c.args.span.count short c.words.invariant.from c.requires.from

pub move_word-requires-clause-to : goal.move_word-requires-clause-to
move_word-requires-clause-to c =
    let short : c.words.index < c.args.span.count = omega (arith, length-take c.args.span.count (drop c.args.span.first c.args.words.now), c.words-test.true, c.words.invariant.there) in
    room_for_one c.args.to.now c.words.to c.words.index c.args.span.count short c.words.invariant.to c.requires.to

pub words-preserved : goal.words-preserved
words-preserved c =
    let within : c.words.index < length (span_of c.args.words.now c.args.span) = omega (arith, c.words-test.true, c.words.invariant.there) in
    record {
      there = c.words.invariant.there;
      moved =
          moves_more c.args.words.now c.args.span (slots_in c.args.from.now) (slots_in c.args.to.now) c.words.index c.words.words (slots_in c.words.from) (slots_in c.words.to)
          c.move_word.new.words (slots_in c.move_word.new.from) (slots_in c.move_word.new.to) within c.move_word.ensures.moved c.words.invariant.moved;
      from = one_used c.args.from.now c.words.from c.move_word.new.from c.words.index c.words.invariant.from c.move_word.ensures.from;
      to = one_used c.args.to.now c.words.to c.move_word.new.to c.words.index c.words.invariant.to c.move_word.ensures.to;
    }

pub returns-clause-moved : goal.returns-clause-moved
returns-clause-moved c =
    let all : c.words.index ≡ length (span_of c.args.words.now c.args.span) = omega (arith, c.words-test.false, c.words.invariant.there, c.words.auto.index-end) in
    all_moved c.args.words.now c.args.span (slots_in c.args.from.now) (slots_in c.args.to.now) c.words.index c.words.words (slots_in c.words.from) (slots_in c.words.to) all c.words.invariant.moved

pub returns-clause-from : goal.returns-clause-from
returns-clause-from c =
    let short : c.words.index ≤ c.args.span.count = omega (arith, length-take c.args.span.count (drop c.args.span.first c.args.words.now), c.words.invariant.there, c.words.auto.index-end) in
    more_left c.args.from.now c.words.from c.words.index c.args.span.count short c.words.invariant.from

pub returns-clause-to : goal.returns-clause-to
returns-clause-to c =
    let short : c.words.index ≤ c.args.span.count = omega (arith, length-take c.args.span.count (drop c.args.span.first c.args.words.now), c.words.invariant.there, c.words.auto.index-end) in
    more_left c.args.to.now c.words.to c.words.index c.args.span.count short c.words.invariant.to

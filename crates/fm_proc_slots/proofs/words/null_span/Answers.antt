use Rattle.std.proofs.Common.{ℕ, ℤ, List, ◌+◌, ◌≡◌, ap, arith, length, pos, slice_set, ◌∙◌}
use Rattle.fm_code.specs.Acts.{span_of}
use Rattle.fm_code.specs.Passing.{nulls, spliced}
use Rattle.fm_proc_slots.proofs.Nulls.{null_more, null_none, within_span}
use Rattle.fm_proc_slots.proofs.words.null_span.Goals as goal

pub words-init : goal.words-init
words-init c = null_none c.args.words.now c.args.span.first

pub words-preserved : goal.words-preserved
words-preserved c =
    let ws = c.args.words.now in
    let first = c.args.span.first in
    let i = c.words.index in
    let there = c.words_of-count.ensures ∙ ap (λ (l : List ℤ). span_of l c.args.span) c.as_slice.ensures in
    c.set_word.ensures ∙ ap (λ (l : List ℤ). slice_set l (first + i) (pos 0)) c.words.invariant ∙ null_more ws first i (within_span ws c.args.span i (omega (arith, c.words-test.true, ap length there)))

pub returns : goal.returns
returns c =
    let ws = c.args.words.now in
    let there = c.words_of-count.ensures ∙ ap (λ (l : List ℤ). span_of l c.args.span) c.as_slice.ensures in
    let all : c.words.index ≡ length (span_of ws c.args.span) = omega (arith, c.words-test.false, c.words.auto.index-end, ap length there) in
    c.words.invariant ∙ ap (λ (k : ℕ). spliced ws c.args.span.first (nulls k)) all

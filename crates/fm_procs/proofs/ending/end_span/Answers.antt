use Rattle.std.proofs.Common.{ℤ, Bool, List, [], sym, ap, cond, ◌∙◌}
use Rattle.fm_code.specs.Acts.{span_of}
use Rattle.fm_code.specs.Passing.{live}
use Rattle.fm_chan.specs.Bodies.{chans_of}
use Rattle.fm_chan.proofs.Waking.{wakes_nobody}
use Rattle.fm_proc_language.specs.Frames.{nulled}
use Rattle.fm_proc_events.specs.Discards.{all_discarded}
use Rattle.fm_procs.proofs.Endings.{nothing_gone}
use Rattle.fm_procs.proofs.ending.end_span.Goals as goal

pub returns-then-stays-clause-words : goal.returns-then-stays-clause-words
returns-then-stays-clause-words c =
    let ws = c.args.words.now in
    sym (ap (λ (b : Bool). cond {A = List ℤ} b ws (nulled ws c.args.span)) c.if-stays.true)

pub returns-then-stays-clause-gone : goal.returns-then-stays-clause-gone
returns-then-stays-clause-gone c = nothing_gone c.args.stays c.args.slots.now (chans_of c.args.channels.now) (live (span_of c.args.words.now c.args.span)) c.if-stays.true

pub returns-then-stays-clause-waking : goal.returns-then-stays-clause-waking
returns-then-stays-clause-waking c = wakes_nobody c.args.channels.now

pub returns-clause-words : goal.returns-clause-words
returns-clause-words c =
    let ws = c.args.words.now in
    c.null_span.ensures ∙ sym (ap (λ (b : Bool). cond {A = List ℤ} b ws (nulled ws c.args.span)) c.if-stays.false)

pub returns-clause-gone : goal.returns-clause-gone
returns-clause-gone c =
    let ws = c.args.words.now in
    let slots = c.args.slots.now in
    let cs = chans_of c.args.channels.now in
    c.discard_words.ensures.gone ∙ ap (λ (l : List ℤ). all_discarded slots cs (live l)) (c.words_of.ensures ∙ ap (λ (l : List ℤ). span_of l c.args.span) c.as_slice.ensures)
    ∙ sym (ap (λ (b : Bool). all_discarded slots cs (cond {A = List ℤ} b [] (live (span_of ws c.args.span)))) c.if-stays.false)

use Rattle.std.proofs.Common.{slice_index_or, pos, sym, ap, arith, ◌∙◌}
use Rattle.std.proofs.lemmas.List.{drop_all, drop_more}
use Rattle.fm_mean.specs.Places.{written_from, written}
use Rattle.fm_plain_frame.specs.Memory.{put_in, values_of, word_place}
use Rattle.fm_plain_frame.proofs.MemoryLaws.{written_nowhere, write_ports, write_step, write_past, written_nothing}
use Rattle.fm_plain_frame.proofs.memory.write.Goals as goal

pub returns-in_default : goal.returns-in_default
returns-in_default c = sym (written_nowhere c.args.variables.now c.args.memory.now c.args.span.variable c.args.span.first c.args.words.now (sym c.in_default.ensures))

pub returns-then-holds_ports : goal.returns-then-holds_ports
returns-then-holds_ports c =
    write_ports c.args.variables.now c.args.memory.now c.args.span.variable c.args.span.first c.args.words.now c.in-Some.variable.now (sym c.in-Some.ensures) (sym c.holds_ports.ensures ∙ c.if-holds_ports.true)

pub returns-then-element-variable : goal.returns-then-element-variable
returns-then-element-variable c =
    write_past c.args.variables.now c.words.memory c.args.span.variable c.words.element _ c.in-Some.variable.now (written (values_of c.args.variables.now c.args.memory.now) c.args.span c.args.words.now) (sym c.in-Some.ensures)
    (omega (arith, c.if-element-variable.true)) c.words.invariant

pub words-preserved : goal.words-preserved
words-preserved c =
    let vs = c.args.variables.now in
    let i = c.words.number-index in
    write_step vs c.words.memory c.replace_word.new.memory c.args.span.variable c.words.element (slice_index_or c.args.words.now i (pos 0)) _ c.in-Some.variable.now
    (written (values_of vs c.args.memory.now) c.args.span c.args.words.now) c.requires (sym c.in-Some.ensures) (sym c.holds_ports.ensures ∙ c.if-holds_ports.false)
    (c.replace_word.ensures.memory ∙ ap (put_in c.words.memory (word_place c.in-Some.variable.now c.words.element)) c.of_number.ensures)
    (ap (written_from (values_of vs c.words.memory) c.args.span.variable c.words.element) (sym (drop_more c.args.words.now i (pos 0) (omega arith))) ∙ c.words.invariant)

pub returns : goal.returns
returns c =
    let vs = c.args.variables.now in
    sym (ap (written_from (values_of vs c.words.memory) c.args.span.variable c.words.element) (drop_all c.words.number-index c.args.words.now (omega arith)) ∙ written_nothing (values_of vs c.words.memory) c.args.span.variable c.words.element)
    ∙ c.words.invariant

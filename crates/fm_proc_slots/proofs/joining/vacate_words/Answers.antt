use Rattle.std.proofs.Common.{FitsSigned, pos, w64, ◌+◌, drop, get_or, arith, rules}
use Rattle.std.proofs.lemmas.Int.{to_z-of_z}
use Rattle.std.proofs.lemmas.List.{drop_more}
use Rattle.fm_code.specs.Passing.{live}
use Rattle.fm_proc_language.specs.Slots.{all_left}
use Rattle.fm_proc_slots.proofs.Vacated.{left_one}
use Rattle.fm_proc_slots.proofs.joining.vacate_words.Goals as goal

pub words-preserved : goal.words-preserved
words-preserved c =
    let ws = c.args.words.now in
    let i = c.words.word-index in
    let z = get_or ws i (pos 0) in
    let fits : FitsSigned w64 z = search rules in
    let on = left_one c.words.slots c.vacate_word.new.slots (all_left c.args.slots.now (live ws)) c.words.drops.items c.vacate_word.new.drops.items _ (drop i ws) (drop (i + 1) ws) _ z
    (drop_more ws i (pos 0) c.words-test.true) (to_z-of_z w64 z fits) c.vacate_word.ensures.drops c.vacate_word.ensures.slots c.words.invariant.drops c.words.invariant.slots in
    record { drops = on.drops; slots = on.slots; len = omega arith; capacity = omega arith }

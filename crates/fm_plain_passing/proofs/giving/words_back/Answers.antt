use Rattle.std.proofs.Common.{◌+◌, [], ◌∷◌, ap, ◌∙◌, arith, rules, w64}
use Rattle.std.proofs.lemmas.Int.{to_z-of_z}
use Rattle.fm_plain_frame.specs.Memory.{values_of}
use Rattle.fm_mean.specs.Places.{items_at, words_in, written_from}
use Rattle.fm_plain_passing.proofs.BackLaws.{copies_more, copies_all}
use Rattle.fm_plain_passing.proofs.giving.words_back.Goals as goal

pub words-preserved : goal.words-preserved
words-preserved c =
    copies_more (values_of c.args.caller.now c.words.mine) (values_of c.args.caller.now c.put_behind.new.memory) c.args.back.now.place.variable c.args.back.now.place.first c.words.index c.args.back.now.place.count
    (words_in (items_at (values_of c.args.callee.now c.args.theirs.now) c.args.back.now.formal)) c.number_at-number.result _ (omega arith) (omega arith) c.number_at-number.ensures
    (c.put_behind.ensures ∙ ap (λ n. written_from (values_of c.args.caller.now c.words.mine) c.args.back.now.place.variable (c.args.back.now.place.first + c.words.index) (n ∷ [])) (to_z-of_z w64 c.number_at-number.result (search rules))) c.words.invariant

pub returns : goal.returns
returns c = copies_all _ _ _ _ c.args.back.now.place.count _ _ (omega arith) c.words.invariant

use Rattle.std.proofs.Common.{List, [], ◌∷◌, refl, sym, ◌∙◌, arith, map}
use Rattle.fm_mean.specs.Places.{live}
use Rattle.fm_plain_frame.specs.Memory.{port_in}
use Rattle.fm_plain_frame.specs.declared.word.Word.{Word}
use Rattle.fm_nodes_trees.proofs.HoldLaws.{has_later, has_next, has_none, words_more}
use Rattle.fm_nodes_trees.proofs.holding.words_have.Goals as goal

pub returns-then-has : goal.returns-then-has
returns-then-has c = has_next (λ (x : Word). live (port_in x ∷ [])) (λ (xs : List Word). live (map port_in xs)) words_more refl c.args.port.now c.args.words.now c.words.word-index c.word-item.result c.words-test.true c.word-item.is (sym c.has.ensures ∙ c.if-has.true) c.words.invariant

pub words-preserved : goal.words-preserved
words-preserved c = has_later (λ (x : Word). live (port_in x ∷ [])) (λ (xs : List Word). live (map port_in xs)) words_more refl c.args.port.now c.args.words.now c.words.word-index c.word-item.result c.words-test.true c.word-item.is (sym c.has.ensures ∙ c.if-has.false) c.words.invariant

pub returns : goal.returns
returns c = has_none (λ (x : Word). live (port_in x ∷ [])) (λ (xs : List Word). live (map port_in xs)) words_more refl c.args.port.now c.args.words.now c.words.word-index (omega (arith, c.words-test.false)) c.words.invariant

use Rattle.std.proofs.Common.{Option, ap, sym, ◌∙◌}
use Rattle.std.specs.Prelude.{unwrap_or}
use Rattle.fm_base.specs.declared.token.Class.{Class}
use Rattle.fm_token.specs.Classes.{word_class, whole_words, first_word_class}
use Rattle.fm_token.proofs.classes.word_class.Goals as goal

pub returns-in-None : goal.returns-in-None
unfolding word_class whole_words
returns-in-None c =
    c.first_word_class.ensures ∙ ap (λ (o : Option Class). unwrap_or o (first_word_class c.args.text.now)) (sym c.in-None.is ∙ c.whole_word.ensures)

pub returns-in-Some : goal.returns-in-Some
unfolding word_class whole_words
returns-in-Some c = ap (λ (o : Option Class). unwrap_or o (first_word_class c.args.text.now)) (sym c.in-Some.is ∙ c.whole_word.ensures)

use Rattle.std.proofs.Common.{ℕ, Option, ap, sym, ◌∙◌}
use Rattle.std.specs.Prelude.{unwrap_or}
use Rattle.std.specs.Option.{option_map}
use Rattle.fm_base.specs.declared.token.Class.{Class}
use Rattle.fm_base.specs.declared.token.Class.TheVariants.{Nothing}
use Rattle.fm_token.specs.Classes.{first_word_class, first_words}
use Rattle.fm_token.proofs.classes.first_word_class.Goals as goal

class_or_nothing : Option (Class × Option ℕ) → Class
class_or_nothing o = unwrap_or (option_map (λ (entry : Class × Option ℕ). entry.0) o) Nothing

pub returns-in-None : goal.returns-in-None
unfolding first_word_class first_words class_or_nothing
returns-in-None c = ap class_or_nothing (sym c.in-None.is ∙ c.first_word.ensures)

pub returns-in-Some : goal.returns-in-Some
unfolding first_word_class first_words class_or_nothing
returns-in-Some c = ap class_or_nothing (sym c.in-Some.is ∙ c.first_word.ensures)

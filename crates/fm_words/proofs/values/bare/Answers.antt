use Rattle.std.proofs.Common.{true, ap, ◌∙◌}
use Rattle.clap.specs.Simple.{App, app_of_fields}
use Rattle.fm_words.proofs.values.bare.Goals as goal

pub returns : goal.returns
returns c = ap app_of_fields c.no_binary_name.ensures ∙ ap (λ (a : App). record a { top = record a.top { no_binary_name = true } }) c.new.ensures.app

use Rattle.std.proofs.Common.{map, ◌∙◌}
use Rattle.fm_words.specs.Words.{settings_of, given, asked}
use Rattle.fm_words.specs.Held.{asked_with}
use Rattle.fm_words.proofs.Steps.{same_answer}
use Rattle.fm_words.proofs.settings.options_of.Goals as goal

pub returns : goal.returns
returns c =
    c.options_behind.ensures
    ∙ same_answer (asked_with c.no_settings.result) (λ ss. asked (given ss)) (settings_of (map (λ w. w.now) c.args.words.now)) c.no_settings.ensures

use Rattle.std.proofs.Common.{◌≡◌, map, ap, ◌∙◌}
use Rattle.clap.specs.Simple.{App, app_of, is_simple, matches_of}
use Rattle.fm_words.specs.Values.{with_options, with_number, numbered_app}
use Rattle.fm_words.proofs.Walks.{numbered_simple}
use Rattle.fm_words.proofs.Parses.{numbered_found_is}
use Rattle.fm_words.proofs.values.numbered_matches.Goals as goal

pub returns-clause-rows : goal.returns-clause-rows
returns-clause-rows c =
    let words = map (λ w. w.now) c.args.words.now in
    let numbered_is = c.in_ok-numbered.ensures ∙ ap with_number c.bare.ensures in
    let command_is : app_of c.in_ok-command.command ≡ numbered_app = c.in_ok-command.ensures ∙ ap with_options numbered_is in
    (c.in_ok-try_get_matches_from.ensures.matches (ap is_simple command_is ∙ numbered_simple)).0
    ∙ ap (λ (a : App). matches_of a words) command_is
    ∙ numbered_found_is words

use Rattle.std.proofs.Common.{◌≡◌, map, ap, ◌∙◌}
use Rattle.clap.specs.Simple.{App, app_of, is_simple, matches_of}
use Rattle.fm_words.specs.Values.{with_options, run_app}
use Rattle.fm_words.proofs.Walks.{run_simple}
use Rattle.fm_words.proofs.Parses.{run_found_is}
use Rattle.fm_words.proofs.values.run_matches.Goals as goal

pub returns-clause-rows : goal.returns-clause-rows
returns-clause-rows c =
    let words = map (λ w. w.now) c.args.words.now in
    let command_is : app_of c.in_ok-command.command ≡ run_app = c.in_ok-command.ensures ∙ ap with_options c.bare.ensures in
    (c.in_ok-try_get_matches_from.ensures.matches (ap is_simple command_is ∙ run_simple)).0
    ∙ ap (λ (a : App). matches_of a words) command_is
    ∙ run_found_is words

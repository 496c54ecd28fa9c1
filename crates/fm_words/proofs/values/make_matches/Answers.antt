use Rattle.std.proofs.Common.{◌≡◌, map, ap, ◌∙◌}
use Rattle.clap.specs.Simple.{App, app_of, is_simple, matches_of}
use Rattle.fm_words.specs.Values.{with_number, make_app}
use Rattle.fm_words.proofs.Walks.{make_simple}
use Rattle.fm_words.proofs.Parses.{make_found_is}
use Rattle.fm_words.proofs.values.make_matches.Goals as goal

pub returns-clause-rows : goal.returns-clause-rows
returns-clause-rows c =
    let words = map (λ w. w.now) c.args.words.now in
    let command_is : app_of c.in_ok-command.command ≡ make_app = c.in_ok-command.ensures ∙ ap with_number c.bare.ensures in
    (c.in_ok-try_get_matches_from.ensures.matches (ap is_simple command_is ∙ make_simple)).0
    ∙ ap (λ (a : App). matches_of a words) command_is
    ∙ make_found_is words

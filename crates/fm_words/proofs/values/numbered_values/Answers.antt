use Rattle.std.proofs.Common.{map, ap₂, sym, ◌∙◌}
use Rattle.clap.specs.Matches.{found_of}
use Rattle.fm_words.proofs.Spelling.{some_same}
use Rattle.fm_words.proofs.Parses.{IsTaken, both_of, numbered_parsed, settings_taken, not_none}
use Rattle.fm_words.proofs.values.numbered_values.Goals as goal

pub unreachable-requires : goal.unreachable-requires
unreachable-requires c =
    let made = numbered_parsed (found_of c.in_ok-matches.matches) (map (λ w. w.now) c.args.words.now) c.number_in.result c.requires c.in_ok-matches.ensures.rows c.number_in.ensures in
    not_none c.number_in.result made.number c.in-None.is made.read

pub returns-clause-values : goal.returns-clause-values
returns-clause-values c =
    let found = found_of c.in_ok-matches.matches in
    let made = numbered_parsed found (map (λ w. w.now) c.args.words.now) c.number_in.result c.requires c.in_ok-matches.ensures.rows c.number_in.ensures in
    let taken : IsTaken found c.settings_in.result = record {
      turns = c.settings_in.ensures.turns;
      workers = c.settings_in.ensures.workers;
      slice = c.settings_in.ensures.slice;
      plan = c.settings_in.ensures.plan;
      vars = c.settings_in.ensures.vars;
      no_vars = c.settings_in.ensures.no_vars;
    } in
    made.are ∙ ap₂ both_of (some_same made.number c.in-Some.number (sym made.read ∙ c.in-Some.is)) (sym (settings_taken found c.settings_in.result made.settings taken made.shown))

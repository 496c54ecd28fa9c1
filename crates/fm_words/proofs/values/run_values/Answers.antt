use Rattle.std.proofs.Common.{map}
use Rattle.clap.specs.Matches.{found_of}
use Rattle.fm_words.proofs.Parses.{IsTaken, run_parsed}
use Rattle.fm_words.proofs.values.run_values.Goals as goal

pub returns-clause-values : goal.returns-clause-values
returns-clause-values c =
    let taken : IsTaken (found_of c.in_ok-matches.matches) c.settings_in.result = record {
      turns = c.settings_in.ensures.turns;
      workers = c.settings_in.ensures.workers;
      slice = c.settings_in.ensures.slice;
      plan = c.settings_in.ensures.plan;
      vars = c.settings_in.ensures.vars;
      no_vars = c.settings_in.ensures.no_vars;
    } in
    run_parsed (found_of c.in_ok-matches.matches) (map (λ w. w.now) c.args.words.now) c.settings_in.result c.requires c.in_ok-matches.ensures.rows taken

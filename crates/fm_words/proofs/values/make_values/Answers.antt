use Rattle.std.proofs.Common.{map, ap, sym, ◌∙◌}
use Rattle.std.specs.Prelude.{Some}
use Rattle.clap.specs.Matches.{found_of}
use Rattle.fm_words.specs.declared.command.Command.TheVariants as command
use Rattle.fm_words.proofs.Spelling.{some_same}
use Rattle.fm_words.proofs.Parses.{make_parsed, not_none}
use Rattle.fm_words.proofs.values.make_values.Goals as goal

pub unreachable-requires : goal.unreachable-requires
unreachable-requires c =
    let made = make_parsed (found_of c.in_ok-matches.matches) (map (λ w. w.now) c.args.words.now) c.number_in.result c.requires c.in_ok-matches.ensures.rows c.number_in.ensures in
    not_none c.number_in.result made.number c.in-None.is made.read

pub returns-clause-values : goal.returns-clause-values
returns-clause-values c =
    let made = make_parsed (found_of c.in_ok-matches.matches) (map (λ w. w.now) c.args.words.now) c.number_in.result c.requires c.in_ok-matches.ensures.rows c.number_in.ensures in
    made.are ∙ ap (λ n. Some (command.Make n)) (some_same made.number c.in-Some.number (sym made.read ∙ c.in-Some.is))

-- The commands of `clap` by which the values of accepted words are read, and what they find.
-- Source: this profile.
use Rattle.std.specs.Prelude.{true, Some, List, codes}
use Rattle.clap.specs.declared.builder.action.ArgAction.TheVariants.{SetTrue}
use Rattle.clap.specs.Words.{App, Row, Rule, Text, matches_of, new_app, new_rule, with_rule}

-- an option with a value
abbrev pub valued_rule : Text → Rule
valued_rule id = record (new_rule id) { long = Some id }

abbrev pub vars_rule : Rule
vars_rule = record (new_rule (codes "vars")) { long = Some (codes "vars"); action = Some SetTrue }

abbrev pub with_options : App → App
with_options a =
    with_rule (with_rule (with_rule (with_rule (with_rule a
    (valued_rule (codes "turns"))) (valued_rule (codes "workers"))) (valued_rule (codes "slice")))
    (valued_rule (codes "plan"))) vars_rule

-- a command whose words have no name of it in front
abbrev pub bare : Text → App
bare name = let a = new_app name in record a { top = record a.top { no_binary_name = true } }

abbrev pub with_number : App → App
with_number a = with_rule a (new_rule (codes "number"))

abbrev pub run_app : App
run_app = with_options (bare (codes "run"))

abbrev pub make_app : App
make_app = with_number (bare (codes "make"))

-- of `demo` and `nodes`
abbrev pub numbered_app : App
numbered_app = with_options (with_number (bare (codes "demo")))

-- what the parse of accepted words finds, for each command
unfoldable pub run_found : List Text → List Row
run_found = matches_of run_app

unfoldable pub make_found : List Text → List Row
make_found = matches_of make_app

unfoldable pub numbered_found : List Text → List Row
numbered_found = matches_of numbered_app

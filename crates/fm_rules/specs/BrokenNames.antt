-- Where the names of a program break a rule.
-- Source: ANSI X3.9-1978, section 4.1.2 (types by first letters); this profile for names without a type and for the greatest
-- number of words.
use Rattle.std.specs.Prelude.{ℕ, nat_lt, not, ◌&&◌, ◌||◌, Bool, List, ◌++◌}
use Rattle.std.specs.FinMap.{contains_key}
use Rattle.std.specs.List.{flat_map}
use Rattle.fm_base.specs.declared.rule.Refusal.{Refusal}
use Rattle.fm_base.specs.declared.rule.Rule.TheVariants.{E31, E34}
use Rattle.fm_base.specs.Verdict.{place, when}
use Rattle.fm_tree.specs.declared.program_unit.Unit.{Unit}
use Rattle.fm_tree.specs.declared.statement.Stmt.{Stmt}
use Rattle.fm_symbols.specs.ByName.{ByName}
use Rattle.fm_rules.specs.FunctionTitles.{is_other_function, titles_of}
use Rattle.fm_rules.specs.Declarations.{declared_twice_in}
use Rattle.fm_rules.specs.NameTypes.{begins_integer}
use Rattle.fm_rules.specs.BrokenConstants.{broken_from}
use Rattle.fm_rules.specs.declared.sheet.Occurrence.{Occurrence}
use Rattle.fm_rules.specs.declared.sheet.Sheet.{Sheet}
use Rattle.fm_rules.specs.Sheets.{sheet_of}
use Rattle.fm_rules.specs.Variables.{all_words, variables_among}

-- a name has a type: a declared one, or that of its first letter
abbrev pub has_type : Sheet → List ℕ → Bool
has_type s name = contains_key s.kinds name || (s.types.implicit && begins_integer name)

-- a name without a type, where it first stands in the unit with this heading. Another FUNCTION needs none
abbrev pub is_untyped : ByName Bool → Stmt → Sheet → List ℕ → Bool
is_untyped titles heading s name = not (has_type s name || is_other_function titles heading name)

abbrev pub untyped_at : ByName Bool → Stmt → Sheet → Occurrence → List Refusal
untyped_at titles heading s o = when (is_untyped titles heading s o.name) (place o.line.0 E31)

abbrev pub untyped_in : ByName Bool → Stmt → Sheet → List Refusal
untyped_in titles heading s = flat_map (untyped_at titles heading s) s.first

-- the variables of the unit have too many words
abbrev pub is_long : ByName Bool → Stmt → Sheet → Bool
is_long titles heading s = nat_lt 65536 (all_words s (variables_among titles heading s s.first))

abbrev pub broken_with : ByName Bool → Unit → Sheet → List Refusal
broken_with titles u s =
    declared_twice_in titles u ++ broken_from s.known s.types 0 u.specs ++ untyped_in titles u.heading.stmt s
    ++ when (is_long titles u.heading.stmt s) (place u.heading.line.0 E34)

abbrev pub broken_in : ByName Bool → Unit → List Refusal
broken_in titles u = broken_with titles u (sheet_of u)

-- all places in these units where a rule on names is broken
abbrev pub broken_names : List Unit → List Refusal
broken_names us = flat_map (broken_in (titles_of us)) us

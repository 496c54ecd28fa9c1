-- What a pass over a unit keeps: what was said of each name so far, and the least place that clashes.
-- Source: this profile.
use Rattle.std.specs.Prelude.{ℕ, ◌||◌, Bool, false, Option, Some, None, List, [], ◌∷◌}
use Rattle.std.specs.FinMap.{get, insert}
use Rattle.fm_base.specs.declared.rule.Rule.TheVariants.{E30}
use Rattle.fm_base.specs.Verdict.{place, when, least_from}
use Rattle.fm_tree.specs.declared.statement.Stmt.{Stmt}
use Rattle.fm_symbols.specs.ByName.{ByName}
use Rattle.fm_rules.specs.declared.sheet.Aspect.{Aspect}
use Rattle.fm_rules.specs.declared.sheet.Aspect.TheVariants as aspect
use Rattle.fm_names_declared.specs.declared.aspect.Said.{Said}
use Rattle.fm_names_declared.specs.declared.notes.Notes.{Notes}
use Rattle.fm_rules.specs.Declarations.{Fact, clashes, same_aspect, takes_function}

abbrev pub nothing : Said
nothing = record { value = false; port = false; bounds = false; intent = false; constant = false; formal = false; own = false }

abbrev pub with_said : Said → Aspect → Said
with_said s what = record {
  value = same_aspect aspect.Value what || s.value;
  port = same_aspect aspect.Port what || s.port;
  bounds = same_aspect aspect.Bounds what || s.bounds;
  intent = same_aspect aspect.Intent what || s.intent;
  constant = same_aspect aspect.Constant what || s.constant;
  formal = same_aspect aspect.Formal what || s.formal;
  own = same_aspect aspect.Own what || s.own;
}

abbrev pub said_as : Said → Aspect → Bool
said_as s aspect.Value = s.value
said_as s aspect.Port = s.port
said_as s aspect.Bounds = s.bounds
said_as s aspect.Intent = s.intent
said_as s aspect.Constant = s.constant
said_as s aspect.Formal = s.formal
said_as s aspect.Own = s.own

abbrev pub or_nothing : Option Said → Said
or_nothing None = nothing
or_nothing (Some s) = s

abbrev pub said_of : ByName Said → List ℕ → Said
said_of m name = or_nothing (get m name)

abbrev pub with_fact : ByName Bool → Stmt → Notes → Fact → Notes
with_fact titles heading n f = record {
  said = insert n.said f.name (with_said (said_of n.said f.name) f.what);
  best = least_from n.best (when (clashes (said_as (said_of n.said f.name)) f.what || takes_function titles heading f) (place f.line.0 E30));
}

abbrev pub with_facts : ByName Bool → Stmt → Notes → List Fact → Notes
with_facts titles heading n [] = n
with_facts titles heading n (f ∷ fs) = with_facts titles heading (with_fact titles heading n f) fs

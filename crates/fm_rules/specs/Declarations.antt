-- What the heading and the declarations of a unit say of names, and where one repeats or contradicts an earlier one.
-- Source: ANSI X3.9-1978, sections 8.1 (DIMENSION), 8.4 (type statements), 8.6 (PARAMETER), 15.5.1 (the name of a FUNCTION),
-- 15.9.1 (dummy arguments) and 18.2 (classes of names); the Fortran M report for ports and PROCESSORS; this profile for INTENT.
use Rattle.std.specs.Prelude.{ℕ, nat_eq, not, ◌&&◌, ◌||◌, Bool, true, false, unwrap_or, List, [], ◌∷◌, ◌++◌, map, drop}
use Rattle.std.specs.List.{flat_map, list_any}
use Rattle.fm_base.specs.declared.name.Line.{Line}
use Rattle.fm_base.specs.declared.rule.Refusal.{Refusal}
use Rattle.fm_base.specs.declared.rule.Rule.TheVariants.{E30}
use Rattle.fm_base.specs.Verdict.{place, when}
use Rattle.fm_tree.specs.declared.port_type.Bound.{Bound}
use Rattle.fm_tree.specs.declared.program_unit.Placed.{Placed}
use Rattle.fm_tree.specs.declared.program_unit.Unit.{Unit}
use Rattle.fm_tree.specs.declared.statement.Decl.{Decl}
use Rattle.fm_tree.specs.declared.statement.Defined.{Defined}
use Rattle.fm_tree.specs.declared.statement.Stmt.{Stmt}
use Rattle.fm_tree.specs.declared.statement.Stmt.TheVariants as stmt
use Rattle.fm_symbols.specs.ByName.{ByName}
use Rattle.fm_rules.specs.declared.sheet.Aspect.{Aspect}
use Rattle.fm_rules.specs.declared.sheet.Aspect.TheVariants as aspect
use Rattle.fm_rules.specs.Earlier.{with_earlier}
use Rattle.fm_rules.specs.FunctionTitles.{same_name, is_other_function}

-- Facts.

-- what is said of a name at a line
pub record Fact : Type 0 where
  pub line : Line
  pub name : List ℕ
  pub what : Aspect

abbrev pub fact : Line → Aspect → List ℕ → Fact
fact line what name = record { line = line; name = name; what = what }

abbrev pub bounds_facts : Line → List ℕ → List Bound → List Fact
bounds_facts line name [] = []
bounds_facts line name (b ∷ bs) = fact line aspect.Bounds name ∷ []

-- a name with a type, and its bounds where it has any
abbrev pub typed_facts : Line → Aspect → Decl → List Fact
typed_facts line what d = fact line what d.name ∷ bounds_facts line d.name d.bounds

abbrev pub dimension_facts : Line → Decl → List Fact
dimension_facts line d = bounds_facts line d.name d.bounds

abbrev pub constant_fact : Line → Defined → Fact
constant_fact line d = fact line aspect.Constant d.name

abbrev pub name_facts : Line → Aspect → List (List ℕ) → List Fact
name_facts line what names = map (fact line what) names

abbrev pub decl_facts : Line → Aspect → List Decl → List Fact
decl_facts line what decls = flat_map (typed_facts line what) decls

-- what a statement says, in the order of its text
unfoldable pub facts_by : Line → Stmt → List Fact
facts_by line (stmt.Process name formals) = name_facts line aspect.Formal (unwrap_or formals [])
facts_by line (stmt.Subroutine name formals) = name_facts line aspect.Formal (unwrap_or formals [])
facts_by line (stmt.Function name formals) = fact line aspect.Own name ∷ name_facts line aspect.Formal formals
facts_by line (stmt.IntegerFunction name formals) = fact line aspect.Own name ∷ fact line aspect.Value name ∷ name_facts line aspect.Formal formals
facts_by line (stmt.LogicalFunction name formals) = fact line aspect.Own name ∷ fact line aspect.Value name ∷ name_facts line aspect.Formal formals
facts_by line (stmt.Integer decls) = decl_facts line aspect.Value decls
facts_by line (stmt.Logical decls) = decl_facts line aspect.Value decls
facts_by line (stmt.Dimension decls) = flat_map (dimension_facts line) decls
facts_by line (stmt.Parameter constants) = map (constant_fact line) constants
facts_by line (stmt.Inport type decls) = decl_facts line aspect.Port decls
facts_by line (stmt.Outport type decls) = decl_facts line aspect.Port decls
facts_by line (stmt.Intent way names) = name_facts line aspect.Intent names
facts_by line s = []

abbrev pub facts_in : Placed → List Fact
facts_in p = facts_by p.line p.stmt

-- what a unit says of its names, the heading first
abbrev pub facts_of : Unit → List Fact
facts_of u = facts_in u.heading ++ flat_map facts_in u.specs

-- Clashes.

abbrev pub aspect_number : Aspect → ℕ
aspect_number aspect.Value = 0
aspect_number aspect.Port = 1
aspect_number aspect.Bounds = 2
aspect_number aspect.Intent = 3
aspect_number aspect.Constant = 4
aspect_number aspect.Formal = 5
aspect_number aspect.Own = 6

abbrev pub same_aspect : Aspect → Aspect → Bool
same_aspect a b = nat_eq (aspect_number a) (aspect_number b)

abbrev pub says : List ℕ → Aspect → Fact → Bool
says name what f = same_name name f.name && same_aspect what f.what

-- one of these facts says this of the name
abbrev pub said : List Fact → List ℕ → Aspect → Bool
said facts name what = list_any (says name what) facts

-- what was said of a name forbids what is said now: a second type, second bounds, a second INTENT or a second value; a
-- formal that stands twice; bounds or a port type of a constant or of the FUNCTION's own name, each of which a formal or
-- that name can't be either; INTENT of what is no formal
abbrev pub clashes : (said : Aspect → Bool) → Aspect → Bool
clashes said aspect.Value = said aspect.Value || said aspect.Port
clashes said aspect.Port = said aspect.Value || (said aspect.Port || (said aspect.Constant || said aspect.Own))
clashes said aspect.Bounds = said aspect.Bounds || (said aspect.Constant || said aspect.Own)
clashes said aspect.Intent = said aspect.Intent || not (said aspect.Formal)
clashes said aspect.Constant = said aspect.Constant || (said aspect.Bounds || (said aspect.Port || (said aspect.Formal || said aspect.Own)))
clashes said aspect.Formal = said aspect.Formal
clashes said aspect.Own = false

-- what another FUNCTION's name can't be: a formal, an array, a port, a constant
abbrev pub is_of_variables : Aspect → Bool
is_of_variables aspect.Value = false
is_of_variables aspect.Port = true
is_of_variables aspect.Bounds = true
is_of_variables aspect.Intent = false
is_of_variables aspect.Constant = true
is_of_variables aspect.Formal = true
is_of_variables aspect.Own = false

abbrev pub takes_function : ByName Bool → Stmt → Fact → Bool
takes_function titles heading f = is_of_variables f.what && is_other_function titles heading f.name

-- a fact, with those that stand before it: they forbid it, or it takes another FUNCTION's name
abbrev pub clash_of : ByName Bool → Stmt → List Fact × Fact → List Refusal
clash_of titles heading at = when (clashes (said at.0 at.1.name) at.1.what || takes_function titles heading at.1) (place at.1.line.0 E30)

abbrev pub clashes_among : ByName Bool → Stmt → List Fact → List Refusal
clashes_among titles heading facts = flat_map (clash_of titles heading) (with_earlier facts)

-- PROCESSORS.

abbrev pub lines_if : Bool → Line → List Line
lines_if true line = line ∷ []
lines_if false line = []

unfoldable pub is_processors : Stmt → Bool
is_processors (stmt.Processors extents) = true
is_processors s = false

abbrev pub processors_line : Placed → List Line
processors_line p = lines_if (is_processors p.stmt) p.line

abbrev pub declared_twice : Line → Refusal
declared_twice line = place line.0 E30

-- each PROCESSORS behind the first
abbrev pub repeated_processors : List Placed → List Refusal
repeated_processors specs = map declared_twice (drop 1 (flat_map processors_line specs))

-- Units.

-- where a unit declares something twice
abbrev pub declared_twice_in : ByName Bool → Unit → List Refusal
declared_twice_in titles u = clashes_among titles u.heading.stmt (facts_of u) ++ repeated_processors u.specs

-- The instructions of places, arguments and items.
-- Source: ANSI X3.9-1978, sections 5.4 (subscripts) and 15.9 (arguments); the Fortran M report for items of messages, LOCATION
-- and SUBMACHINE; the order of instructions by this profile.
use Rattle.std.specs.Prelude.{ℕ, pos, ◌+◌, Option, Some, None, List, [], ◌∷◌, ◌++◌}
use Rattle.fm_tree.specs.Tree.{Tree, Trees, Number, Truth, Named, Ref, Paren, Signed, Not, Binary, NoTrees, More, trees_from}
use Rattle.fm_tree.specs.declared.port_type.Kind.{Kind}
use Rattle.fm_tree.specs.declared.port_type.Kind.TheVariants as kind
use Rattle.fm_tree.specs.declared.statement.Var.{Var}
use Rattle.fm_tree.specs.declared.statement.Where.{Where}
use Rattle.fm_tree.specs.declared.statement.Where.TheVariants as put_at
use Rattle.fm_symbols.specs.declared.names.Variable.{Variable}
use Rattle.fm_rules.specs.declared.program.Program.{Program}
use Rattle.fm_mean.specs.Names.{ProgramUnit, variable_of}
use Rattle.fm_mean.specs.Evaluate.{Reference, Element, Call, Built, Unknown, reference_of, refs_in, refs_in_var}
use Rattle.fm_mean.specs.Referring.{names_in}
use Rattle.fm_code.specs.declared.code.Span.{Span}
use Rattle.fm_code.specs.declared.instr.Eval.TheVariants as eval
use Rattle.fm_code.specs.declared.instr.Build.TheVariants as build
use Rattle.fm_code.specs.declared.instr.Instr.{Instr}
use Rattle.fm_code.specs.declared.instr.Instr.TheVariants as instr
use Rattle.fm_gen_relation.specs.Operands.{first_of}
use Rattle.fm_gen_operands.specs.Code.{push, named_code, place_code, trees_count, expression_code, expressions_code}

-- Places.

abbrev pub locate : ℕ → Instr
locate first = instr.Eval (eval.Locate first)

-- the place of an element by its number in the frame, and what is done with it
abbrev pub located_code : Program → ProgramUnit → Variable → Trees → (n : ℕ) → List Instr → List Instr
located_code p u v ts n behind = expressions_code p u ts n ++ place_code v (trees_count ts) (locate v.first ∷ behind)

-- the number of the first word of a place goes on the stack; that of the first variable where the name is that of none
abbrev pub place_by : Program → ProgramUnit → Option (ℕ × Variable) → Trees → (n : ℕ) → List Instr
place_by p u None ts n = push (pos (first_of u.names.variables 0)) ∷ []
place_by p u (Some v) NoTrees n = push (pos v.1.first) ∷ []
place_by p u (Some v) (More t ts) n = located_code p u v.1 (More t ts) n []

abbrev pub var_code : Program → ProgramUnit → Var → (n : ℕ) → List Instr
var_code p u v n = place_by p u (variable_of u v.name) (trees_from v.subscripts) n

-- Operands.

abbrev pub whole_span : Variable → Span
whole_span v = record { first = v.first; count = v.words }

-- all words of a variable are the next operand
abbrev pub pass_whole : Kind → Span → Instr
pass_whole kind.Integer s = instr.Build (build.PassWords s)
pass_whole kind.Logical s = instr.Build (build.PassWords s)
pass_whole (kind.In t) s = instr.Build (build.PassPorts s)
pass_whole (kind.Out t) s = instr.Build (build.PassPorts s)

-- so is the word whose number is on top
abbrev pub pass_at : Kind → Instr
pass_at kind.Integer = instr.Build build.PassWordAt
pass_at kind.Logical = instr.Build build.PassWordAt
pass_at (kind.In t) = instr.Build build.PassPortAt
pass_at (kind.Out t) = instr.Build build.PassPortAt

abbrev pub pass_value : Instr
pass_value = instr.Build build.PassValue

abbrev pub named_argument : ProgramUnit → List ℕ → Option (ℕ × Variable) → List Instr
named_argument u name None = named_code u name None ∷ pass_value ∷ []
named_argument u name (Some v) = pass_whole v.1.kind (whole_span v.1) ∷ []

abbrev pub value_argument : Program → ProgramUnit → Tree → (n : ℕ) → List Instr
value_argument p u t n = expression_code p u t n ++ pass_value ∷ []

abbrev pub reference_argument : Program → ProgramUnit → Reference → List ℕ → Trees → (n : ℕ) → List Instr
reference_argument p u (Element i v) name ts n = located_code p u v ts n (pass_at v.kind ∷ [])
reference_argument p u (Call k callee) name ts n = value_argument p u (Ref name ts) n
reference_argument p u (Built f) name ts n = value_argument p u (Ref name ts) n
reference_argument p u Unknown name ts n = value_argument p u (Ref name ts) n

-- an argument, or an item of a message
abbrev pub argument_code : Program → ProgramUnit → Tree → (n : ℕ) → List Instr
argument_code p u (Number k) n = value_argument p u (Number k) n
argument_code p u (Truth b) n = value_argument p u (Truth b) n
argument_code p u (Named name) n = named_argument u name (variable_of u name)
argument_code p u (Ref name ts) n = reference_argument p u (reference_of (names_in p u) name) name ts n
argument_code p u (Paren e) n = value_argument p u (Paren e) n
argument_code p u (Signed o e) n = value_argument p u (Signed o e) n
argument_code p u (Not e) n = value_argument p u (Not e) n
argument_code p u (Binary o a b) n = value_argument p u (Binary o a b) n

-- from left to right
abbrev pub arguments_code : Program → ProgramUnit → Trees → (n : ℕ) → List Instr
arguments_code p u NoTrees n = []
arguments_code p u (More t ts) n = argument_code p u t n ++ arguments_code p u ts (n + refs_in (names_in p u) t)

-- a place that is to be filled; nothing where the name is that of no variable, which no checked program has
abbrev pub target_by : Program → ProgramUnit → Option (ℕ × Variable) → Trees → (n : ℕ) → List Instr
target_by p u None ts n = []
target_by p u (Some v) NoTrees n = pass_whole v.1.kind (whole_span v.1) ∷ []
target_by p u (Some v) (More t ts) n = located_code p u v.1 (More t ts) n (pass_at v.1.kind ∷ [])

abbrev pub target_code : Program → ProgramUnit → Var → (n : ℕ) → List Instr
target_code p u v n = target_by p u (variable_of u v.name) (trees_from v.subscripts) n

abbrev pub targets_code : Program → ProgramUnit → List Var → (n : ℕ) → List Instr
targets_code p u [] n = []
targets_code p u (v ∷ vs) n = target_code p u v n ++ targets_code p u vs (n + refs_in_var (names_in p u) v)

-- Seats.

abbrev pub location_code : Program → ProgramUnit → Trees → (n : ℕ) → List Instr
location_code p u ks n = expressions_code p u ks n ++ instr.Build (build.Location (trees_count ks)) ∷ []

-- where a process is put
abbrev pub seat_code : Program → ProgramUnit → Option Where → (n : ℕ) → List Instr
seat_code p u None n = []
seat_code p u (Some (put_at.Location ks)) n = location_code p u (trees_from ks) n
seat_code p u (Some (put_at.Submachine low high)) n =
    expression_code p u low n ++ (expression_code p u high (n + refs_in (names_in p u) low) ++ instr.Build build.Submachine ∷ [])

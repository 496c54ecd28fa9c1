-- What the rules say of the units and the entries of a checked program, as far as its code relies on it.
-- Source: ANSI X3.9-1978, sections 5.1 (bounds), 15.5.2 (references of functions), 15.9 (arguments); the Fortran M report for
-- ports and PROBE; this profile for the layout of a frame and its limits.
use Rattle.std.specs.Prelude.{◌≡◌, ◌<◌, ◌≤◌, ℕ, suc, ◌+◌, Bool, true, false, Some, List, [], ◌∷◌, length, map, filter}
use Rattle.fm_net.specs.Typed.{AllIn}
use Rattle.fm_tree.specs.Tree.{Tree, Trees, Number, Truth, Named, Ref, Paren, Signed, Not, Binary, list_of, trees_from}
use Rattle.fm_tree.specs.References.{applied_in, reference_at}
use Rattle.fm_tree.specs.PortFields.{PortFields, In}
use Rattle.fm_tree.specs.declared.form.UnitKind.{UnitKind}
use Rattle.fm_tree.specs.declared.form.UnitKind.TheVariants as unit_kind
use Rattle.fm_tree.specs.declared.port_type.Kind.{Kind}
use Rattle.fm_tree.specs.declared.port_type.Kind.TheVariants as kind
use Rattle.fm_tree.specs.declared.program_unit.Entry.{Entry}
use Rattle.fm_tree.specs.declared.statement.Var.{Var}
use Rattle.fm_tree.specs.declared.statement.Extra.{Extra}
use Rattle.fm_tree.specs.declared.statement.Extra.TheVariants as extra
use Rattle.fm_tree.specs.declared.statement.Simple.{Simple}
use Rattle.fm_tree.specs.declared.statement.Simple.TheVariants as simple
use Rattle.fm_tree.specs.declared.statement.Stmt.{Stmt}
use Rattle.fm_tree.specs.declared.statement.Stmt.TheVariants as stmt
use Rattle.fm_symbols.specs.declared.names.Variable.{Variable}
use Rattle.fm_rules.specs.declared.program.Program.{Program}
use Rattle.fm_mean.specs.Names.{ProgramUnit, kind_of, unit_named, variable_of, result_variable}
use Rattle.fm_mean.specs.Calls.{is_formal}
use Rattle.fm_mean.specs.Evaluate.{Call, reference_of}
use Rattle.fm_mean.specs.Referring.{names_in, calls_among}
use Rattle.fm_mean.specs.Actions.{trees_in, arguments_in, next_reference}
use Rattle.fm_mean.specs.Layout.{AreLaidOut}
use Rattle.fm_mean.specs.ValueTypes.{AreSized}
use Rattle.fm_mean.specs.Typing.{sort_of}
use Rattle.fm_mean.specs.TypedTrees.{EntryHasTypes}

-- Names and variables.

-- whether variables of this kind hold words, and not ports
abbrev pub is_word : Kind → Bool
is_word kind.Integer = true
is_word kind.Logical = true
is_word (kind.In t) = false
is_word (kind.Out t) = false

-- the formals of a unit
abbrev pub formals_among : List Variable → List Variable
formals_among = filter (λ v. is_formal v.formal)

abbrev pub words_among : List Variable → ℕ
words_among [] = 0
words_among (v ∷ vs) = v.words + words_among vs

-- a name of a variable of the unit that holds words, or of one that holds ports
abbrev pub IsVariable : ProgramUnit → List ℕ → Type 0
IsVariable u name = (v : ℕ × Variable) × (variable_of u name ≡ Some v)

abbrev pub IsWord : ProgramUnit → List ℕ → Type 0
IsWord u name = (v : ℕ × Variable) × (variable_of u name ≡ Some v) × (is_word v.1.kind ≡ true)

abbrev pub IsPort : ProgramUnit → List ℕ → Type 0
IsPort u name = (v : ℕ × Variable) × (variable_of u name ≡ Some v) × (is_word v.1.kind ≡ false)

-- the result of a FUNCTION is a word
abbrev pub HasResult : UnitKind → ProgramUnit → Type 0
HasResult unit_kind.Program u = Unit {0}
HasResult unit_kind.Process u = Unit {0}
HasResult unit_kind.Subroutine u = Unit {0}
HasResult unit_kind.Function u = (v : ℕ × Variable) × (result_variable u ≡ Some v) × (is_word v.1.kind ≡ true)

-- The variables lie one behind the other, have an element at least, and are 65,536 words at most.
pub record IsSoundUnit (u : ProgramUnit) : Type 0 where
  pub laid : AreLaidOut 0 u.names.variables
  pub sized : AreSized u.names.variables
  pub some : AllIn (λ (v : Variable). 0 < v.words) u.names.variables
  pub counted : u.names.words ≡ words_among u.names.variables
  pub few : u.names.words ≤ 65536
  pub result : HasResult (kind_of u) u

-- Entries.

-- as many arguments as the unit has formals
abbrev pub IsFull : ProgramUnit → Trees → Type 0
IsFull callee args = length (formals_among callee.names.variables) ≡ length (list_of args)

abbrev pub ReferenceIsFull : Program → ProgramUnit → Tree → Type 0
ReferenceIsFull p u (Number n) = Unit {0}
ReferenceIsFull p u (Truth b) = Unit {0}
ReferenceIsFull p u (Named name) = Unit {0}
ReferenceIsFull p u (Ref name args) = (k : ℕ) (callee : ProgramUnit) → reference_of (names_in p u) name ≡ Call k callee → IsFull callee args
ReferenceIsFull p u (Paren e) = Unit {0}
ReferenceIsFull p u (Signed op e) = Unit {0}
ReferenceIsFull p u (Not e) = Unit {0}
ReferenceIsFull p u (Binary op a b) = Unit {0}

abbrev pub CallIsFull : Program → UnitKind → List ℕ → Trees → Type 0
CallIsFull p k name args = (v : ℕ × ProgramUnit) → unit_named p name ≡ Some v → (kind_of v.1 ≡ k) × IsFull v.1 args

abbrev pub count_iostat : List Extra → ℕ
count_iostat [] = 0
count_iostat (extra.End l ∷ es) = count_iostat es
count_iostat (extra.Iostat v ∷ es) = suc (count_iostat es)

abbrev pub IsSoundSimple : Program → ProgramUnit → Simple → Type 0
IsSoundSimple p u (simple.Assignment v t) = Unit {0}
IsSoundSimple p u (simple.Goto l) = Unit {0}
IsSoundSimple p u simple.Continue = Unit {0}
IsSoundSimple p u simple.Return = Unit {0}
IsSoundSimple p u simple.Stop = Unit {0}
IsSoundSimple p u (simple.Call name args) = CallIsFull p unit_kind.Subroutine name (trees_in args)
IsSoundSimple p u (simple.Print items) = Unit {0}
IsSoundSimple p u (simple.Write unit items) = Unit {0}
IsSoundSimple p u (simple.Channel in_first i o) = Unit {0}
IsSoundSimple p u (simple.Merger i os) = Unit {0}
IsSoundSimple p u (simple.Send named q items) = Unit {0}
IsSoundSimple p u (simple.Receive named q extras items) = (count_iostat extras ≤ 1) × AllIn (λ (v : Var). IsVariable u v.name) items
IsSoundSimple p u (simple.EndChannel named q) = IsPort u q.name
IsSoundSimple p u (simple.MovePort from to) = IsPort u from.name × IsPort u to.name
IsSoundSimple p u (simple.Probe named q empty) = ((t : PortFields) × (sort_of u q.name ≡ Some (In t))) × IsWord u empty.name

abbrev pub IsSoundStatement : Program → ProgramUnit → Stmt → Type 0
IsSoundStatement p u (stmt.Simple k) = IsSoundSimple p u k
IsSoundStatement p u (stmt.ProcessCall name part) = CallIsFull p unit_kind.Process name (trees_from (arguments_in part))
IsSoundStatement p u other = Unit {0}

-- Its references are those of functions in its statement, in the order of evaluation; arguments are as many as the formals,
-- and of their types and sizes; ports and variables stand where they are wanted.
pub record IsSoundEntry (p : Program) (u : ProgramUnit) (e : Entry) : Type 0 where
  pub types : EntryHasTypes p u e
  pub references : map (reference_at e.stmt) e.refs ≡ map Some (calls_among p u (applied_in e.stmt))
  pub full : (i : ℕ) (t : Tree) → next_reference e i ≡ Some t → ReferenceIsFull p u t
  pub statement : IsSoundStatement p u e.stmt

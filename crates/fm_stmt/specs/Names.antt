-- The names of a statement.
-- Source: ANSI X3.9-1978, section 2.2 (names); this profile for their length.
use Rattle.std.specs.List.{flat_map, list_any}
use Rattle.std.specs.Prelude.{ℕ, Bool, nat_lt, Option, Some, None, List, [], ◌∷◌, ◌++◌, length}
use Rattle.fm_tree.specs.Tree.{Tree, Trees, Number, Truth, Named, Ref, Paren, Signed, Not, Binary, NoTrees, More}
use Rattle.fm_tree.specs.PortFields.{PortFields, FieldKind, NoFields, FieldThen, Integer, Logical, In, Out}
use Rattle.fm_tree.specs.PortReading.{kind_of}
use Rattle.fm_tree.specs.declared.port_type.Bound.{Bound}
use Rattle.fm_tree.specs.declared.port_type.Field.{Field}
use Rattle.fm_tree.specs.declared.statement.Decl.{Decl}
use Rattle.fm_tree.specs.declared.statement.Var.{Var}
use Rattle.fm_tree.specs.declared.statement.Defined.{Defined}
use Rattle.fm_tree.specs.declared.statement.LoopHead.{LoopHead}
use Rattle.fm_tree.specs.declared.statement.Item.{Item}
use Rattle.fm_tree.specs.declared.statement.Item.TheVariants as item
use Rattle.fm_tree.specs.declared.statement.Extra.{Extra}
use Rattle.fm_tree.specs.declared.statement.Extra.TheVariants as extra
use Rattle.fm_tree.specs.declared.statement.Where.{Where}
use Rattle.fm_tree.specs.declared.statement.Where.TheVariants as place
use Rattle.fm_tree.specs.declared.statement.CallPart.{CallPart}
use Rattle.fm_tree.specs.declared.statement.Simple.{Simple}
use Rattle.fm_tree.specs.declared.statement.Simple.TheVariants as simple
use Rattle.fm_tree.specs.declared.statement.Stmt.{Stmt}
use Rattle.fm_tree.specs.declared.statement.Stmt.TheVariants as stmt

abbrev pub Names : Type 0
Names = List (List ℕ)

abbrev pub one_name : List ℕ → Names
one_name n = n ∷ []

abbrev pub option_names : {X : Type 0} → (X → Names) → Option X → Names
option_names f None = []
option_names f (Some x) = f x

abbrev mutual
  pub tree_names : Tree → Names
  tree_names (Number n) = []
  tree_names (Truth b) = []
  tree_names (Named n) = n ∷ []
  tree_names (Ref n args) = n ∷ trees_names args
  tree_names (Paren e) = tree_names e
  tree_names (Signed o e) = tree_names e
  tree_names (Not e) = tree_names e
  tree_names (Binary o a b) = tree_names a ++ tree_names b

  pub trees_names : Trees → Names
  trees_names NoTrees = []
  trees_names (More t ts) = tree_names t ++ trees_names ts

abbrev pub var_names : Var → Names
var_names v = v.name ∷ flat_map tree_names v.subscripts

abbrev pub bound_names : Bound → Names
bound_names b = option_names tree_names b.low ++ tree_names b.high

abbrev pub decl_names : Decl → Names
decl_names d = d.name ∷ flat_map bound_names d.bounds

abbrev pub defined_names : Defined → Names
defined_names d = d.name ∷ tree_names d.value

-- the keyword before a field's name does not belong to it
abbrev mutual
  pub kind_names : FieldKind → Names
  kind_names Integer = []
  kind_names Logical = []
  kind_names (In fields) = fields_names fields
  kind_names (Out fields) = fields_names fields

  pub fields_names : PortFields → Names
  fields_names NoFields = []
  fields_names (FieldThen kind name bounds rest) =
      (kind_names kind ++ (option_names one_name name ++ flat_map bound_names bounds)) ++ fields_names rest

-- of a field in memory
abbrev pub field_names : Field → Names
field_names f = kind_names (kind_of f.kind) ++ (option_names one_name f.name ++ flat_map bound_names f.bounds)

abbrev pub loop_names : LoopHead → Names
loop_names h = h.variable ∷ (tree_names h.from ++ (tree_names h.to ++ option_names tree_names h.step))

abbrev pub item_names : Item → Names
item_names (item.Expr e) = tree_names e
item_names (item.Constant bytes) = []

abbrev pub extra_names : Extra → Names
extra_names (extra.End l) = []
extra_names (extra.Iostat v) = var_names v

abbrev pub where_names : Where → Names
where_names (place.Location es) = flat_map tree_names es
where_names (place.Submachine a b) = tree_names a ++ tree_names b

abbrev pub call_part_names : CallPart → Names
call_part_names c = flat_map tree_names c.arguments ++ option_names where_names c.place

abbrev pub simple_names : Simple → Names
simple_names (simple.Assignment v e) = var_names v ++ tree_names e
simple_names (simple.Goto l) = []
simple_names simple.Continue = []
simple_names simple.Return = []
simple_names simple.Stop = []
simple_names (simple.Call n arguments) = n ∷ option_names (flat_map tree_names) arguments
simple_names (simple.Print items) = flat_map item_names items
simple_names (simple.Write u items) = flat_map item_names items
simple_names (simple.Channel in_first inport outport) = var_names inport ++ var_names outport
simple_names (simple.Merger inport outports) = var_names inport ++ flat_map var_names outports
simple_names (simple.Send named port items) = var_names port ++ flat_map tree_names items
simple_names (simple.Receive named port extras items) = var_names port ++ (flat_map extra_names extras ++ flat_map var_names items)
simple_names (simple.EndChannel named port) = var_names port
simple_names (simple.MovePort from to) = var_names from ++ var_names to
simple_names (simple.Probe named port empty) = var_names port ++ var_names empty

abbrev pub names_of : Stmt → Names
names_of (stmt.Program n) = n ∷ []
names_of (stmt.Process n formals) = n ∷ option_names (flat_map one_name) formals
names_of (stmt.Subroutine n formals) = n ∷ option_names (flat_map one_name) formals
names_of (stmt.Function n formals) = n ∷ flat_map one_name formals
names_of (stmt.IntegerFunction n formals) = n ∷ flat_map one_name formals
names_of (stmt.LogicalFunction n formals) = n ∷ flat_map one_name formals
names_of stmt.ImplicitNone = []
names_of (stmt.Integer decls) = flat_map decl_names decls
names_of (stmt.Logical decls) = flat_map decl_names decls
names_of (stmt.Dimension decls) = flat_map decl_names decls
names_of (stmt.Parameter constants) = flat_map defined_names constants
names_of (stmt.Inport fields decls) = fields_names fields ++ flat_map decl_names decls
names_of (stmt.Outport fields decls) = fields_names fields ++ flat_map decl_names decls
names_of (stmt.Intent w names) = flat_map one_name names
names_of (stmt.Processors extents) = flat_map tree_names extents
names_of (stmt.Simple s) = simple_names s
names_of (stmt.LogicalIf e s) = tree_names e ++ simple_names s
names_of (stmt.BlockIf e) = tree_names e
names_of (stmt.ElseIf e) = tree_names e
names_of stmt.Else = []
names_of stmt.EndIf = []
names_of (stmt.Do head) = loop_names head
names_of (stmt.DoWhile e) = tree_names e
names_of stmt.EndDo = []
names_of stmt.End = []
names_of stmt.Processes = []
names_of stmt.EndProcesses = []
names_of (stmt.ProcessCall n part) = n ∷ option_names call_part_names part
names_of (stmt.ProcessDo head) = loop_names head
names_of stmt.EndProcessDo = []
names_of stmt.LoopEnd = []

-- a name has at most 31 characters
abbrev pub is_long : List ℕ → Bool
is_long n = nat_lt 31 (length n)

abbrev pub has_long : Names → Bool
has_long names = list_any is_long names

-- The names that stand in a statement as variables, formal arguments, constants or the result of a FUNCTION, in the order of
-- the text. Not the names of units behind CALL and PROCESSCALL or in other headings, not the names of fields, and in an
-- expression no name with a list in parentheses but that of an array.
-- Source: ANSI X3.9-1978, sections 6.1.2 and 6.6 (primaries), 15.9 (arguments) and 18.2 (classes of names); the Fortran M
-- report for ports; this profile for what makes a variable.
use Rattle.std.specs.Prelude.{ℕ, Bool, true, false, not, Option, Some, None, List, [], ◌∷◌, ◌++◌, map, filter}
use Rattle.std.specs.List.{flat_map, list_any}
use Rattle.fm_base.specs.declared.name.Line.{Line}
use Rattle.fm_tree.specs.Tree.{Tree, Trees, Number, Truth, Named, Ref, Paren, Signed, Not, Binary, NoTrees, More}
use Rattle.fm_tree.specs.PortFields.{PortFields, FieldKind, NoFields, FieldThen, Integer, Logical, In, Out}
use Rattle.fm_tree.specs.PortReading.{kind_of}
use Rattle.fm_tree.specs.declared.port_type.Bound.{Bound}
use Rattle.fm_tree.specs.declared.port_type.Field.{Field}
use Rattle.fm_tree.specs.declared.program_unit.Placed.{Placed}
use Rattle.fm_tree.specs.declared.program_unit.Entry.{Entry}
use Rattle.fm_tree.specs.declared.program_unit.Unit.{Unit}
use Rattle.fm_tree.specs.declared.statement.Decl.{Decl}
use Rattle.fm_tree.specs.declared.statement.Var.{Var}
use Rattle.fm_tree.specs.declared.statement.Defined.{Defined}
use Rattle.fm_tree.specs.declared.statement.LoopHead.{LoopHead}
use Rattle.fm_tree.specs.declared.statement.Item.{Item}
use Rattle.fm_tree.specs.declared.statement.Item.TheVariants as item
use Rattle.fm_tree.specs.declared.statement.Extra.{Extra}
use Rattle.fm_tree.specs.declared.statement.Extra.TheVariants as extra
use Rattle.fm_tree.specs.declared.statement.Where.{Where}
use Rattle.fm_tree.specs.declared.statement.Where.TheVariants as place
use Rattle.fm_tree.specs.declared.statement.CallPart.{CallPart}
use Rattle.fm_tree.specs.declared.statement.Simple.{Simple}
use Rattle.fm_tree.specs.declared.statement.Simple.TheVariants as simple
use Rattle.fm_tree.specs.declared.statement.Stmt.{Stmt}
use Rattle.fm_tree.specs.declared.statement.Stmt.TheVariants as stmt
use Rattle.fm_rules.specs.Earlier.{with_earlier}
use Rattle.fm_rules.specs.FunctionTitles.{same_name}
use Rattle.fm_rules.specs.SizedFields.{Sizes, size_given, sized_by}
use Rattle.fm_rules.specs.declared.sheet.Occurrence.{Occurrence}

abbrev pub Names : Type 0
Names = List (List ℕ)

abbrev pub one_name : List ℕ → Names
one_name name = name ∷ []

abbrev pub optional : {X : Type 0} → (X → Names) → Option X → Names
optional f None = []
optional f (Some x) = f x

-- a name with a list in parentheses
abbrev pub subscripted : (array : Bool) → List ℕ → Names
subscripted true name = name ∷ []
subscripted false name = []

-- The test tells which names are those of arrays.

abbrev mutual
  pub in_tree : (List ℕ → Bool) → Tree → Names
  in_tree array (Number n) = []
  in_tree array (Truth b) = []
  in_tree array (Named name) = name ∷ []
  in_tree array (Ref name args) = subscripted (array name) name ++ in_trees array args
  in_tree array (Paren e) = in_tree array e
  in_tree array (Signed op e) = in_tree array e
  in_tree array (Not e) = in_tree array e
  in_tree array (Binary op a b) = in_tree array a ++ in_tree array b

  pub in_trees : (List ℕ → Bool) → Trees → Names
  in_trees array NoTrees = []
  in_trees array (More t ts) = in_tree array t ++ in_trees array ts

-- where a variable is needed, its name stands whatever it is
abbrev pub in_var : (List ℕ → Bool) → Var → Names
in_var array v = v.name ∷ flat_map (in_tree array) v.subscripts

abbrev pub in_bound : (List ℕ → Bool) → Bound → Names
in_bound array b = optional (in_tree array) b.low ++ in_tree array b.high

abbrev pub in_decl : (List ℕ → Bool) → Decl → Names
in_decl array d = d.name ∷ flat_map (in_bound array) d.bounds

abbrev pub in_defined : (List ℕ → Bool) → Defined → Names
in_defined array d = d.name ∷ in_tree array d.value

-- the names in the bounds of a field; the name by which an earlier field sizes it isn't one
abbrev pub in_extent : (List ℕ → Bool) → (size : Option ℕ) → List Bound → Names
in_extent array None bounds = flat_map (in_bound array) bounds
in_extent array (Some place) bounds = []

-- the names in the bounds of fields behind these
abbrev mutual
  pub in_kind : (List ℕ → Bool) → FieldKind → Names
  in_kind array Integer = []
  in_kind array Logical = []
  in_kind array (In fields) = in_fields array [] fields
  in_kind array (Out fields) = in_fields array [] fields

  pub in_fields : (List ℕ → Bool) → Sizes → PortFields → Names
  in_fields array earlier NoFields = []
  in_fields array earlier (FieldThen kind name bounds rest) =
      (in_kind array kind ++ in_extent array (sized_by earlier kind bounds) bounds) ++ in_fields array (size_given kind name bounds ∷ earlier) rest

-- of a field in memory
abbrev pub in_field : (List ℕ → Bool) → Sizes → Field → Names
in_field array earlier f = in_kind array (kind_of f.kind) ++ in_extent array (sized_by earlier (kind_of f.kind) f.bounds) f.bounds

abbrev pub in_loop : (List ℕ → Bool) → LoopHead → Names
in_loop array h = h.variable ∷ (in_tree array h.from ++ (in_tree array h.to ++ optional (in_tree array) h.step))

abbrev pub in_item : (List ℕ → Bool) → Item → Names
in_item array (item.Expr e) = in_tree array e
in_item array (item.Constant bytes) = []

abbrev pub in_extra : (List ℕ → Bool) → Extra → Names
in_extra array (extra.End label) = []
in_extra array (extra.Iostat v) = in_var array v

abbrev pub in_where : (List ℕ → Bool) → Where → Names
in_where array (place.Location es) = flat_map (in_tree array) es
in_where array (place.Submachine a b) = in_tree array a ++ in_tree array b

abbrev pub in_call_part : (List ℕ → Bool) → CallPart → Names
in_call_part array c = flat_map (in_tree array) c.arguments ++ optional (in_where array) c.place

abbrev pub in_channel : (List ℕ → Bool) → (in_first : Bool) → Var → Var → Names
in_channel array true inport outport = in_var array inport ++ in_var array outport
in_channel array false inport outport = in_var array outport ++ in_var array inport

unfoldable pub in_simple : (List ℕ → Bool) → Simple → Names
in_simple array (simple.Assignment v e) = in_var array v ++ in_tree array e
in_simple array (simple.Goto label) = []
in_simple array simple.Continue = []
in_simple array simple.Return = []
in_simple array simple.Stop = []
in_simple array (simple.Call name arguments) = optional (flat_map (in_tree array)) arguments
in_simple array (simple.Print items) = flat_map (in_item array) items
in_simple array (simple.Write unit items) = flat_map (in_item array) items
in_simple array (simple.Channel in_first inport outport) = in_channel array in_first inport outport
in_simple array (simple.Merger inport outports) = in_var array inport ++ flat_map (in_var array) outports
in_simple array (simple.Send named port items) = in_var array port ++ flat_map (in_tree array) items
in_simple array (simple.Receive named port extras items) = in_var array port ++ (flat_map (in_extra array) extras ++ flat_map (in_var array) items)
in_simple array (simple.EndChannel named port) = in_var array port
in_simple array (simple.MovePort from to) = in_var array from ++ in_var array to
in_simple array (simple.Probe named port empty) = in_var array port ++ in_var array empty

unfoldable pub stands_in : (List ℕ → Bool) → Stmt → Names
stands_in array (stmt.Program name) = []
stands_in array (stmt.Process name formals) = optional (flat_map one_name) formals
stands_in array (stmt.Subroutine name formals) = optional (flat_map one_name) formals
stands_in array (stmt.Function name formals) = name ∷ flat_map one_name formals
stands_in array (stmt.IntegerFunction name formals) = name ∷ flat_map one_name formals
stands_in array (stmt.LogicalFunction name formals) = name ∷ flat_map one_name formals
stands_in array stmt.ImplicitNone = []
stands_in array (stmt.Integer decls) = flat_map (in_decl array) decls
stands_in array (stmt.Logical decls) = flat_map (in_decl array) decls
stands_in array (stmt.Dimension decls) = flat_map (in_decl array) decls
stands_in array (stmt.Parameter constants) = flat_map (in_defined array) constants
stands_in array (stmt.Inport type decls) = in_fields array [] type ++ flat_map (in_decl array) decls
stands_in array (stmt.Outport type decls) = in_fields array [] type ++ flat_map (in_decl array) decls
stands_in array (stmt.Intent way names) = flat_map one_name names
stands_in array (stmt.Processors extents) = flat_map (in_tree array) extents
stands_in array (stmt.Simple s) = in_simple array s
stands_in array (stmt.LogicalIf e s) = in_tree array e ++ in_simple array s
stands_in array (stmt.BlockIf e) = in_tree array e
stands_in array (stmt.ElseIf e) = in_tree array e
stands_in array stmt.Else = []
stands_in array stmt.EndIf = []
stands_in array (stmt.Do head) = in_loop array head
stands_in array (stmt.DoWhile e) = in_tree array e
stands_in array stmt.EndDo = []
stands_in array stmt.End = []
stands_in array stmt.Processes = []
stands_in array stmt.EndProcesses = []
stands_in array (stmt.ProcessCall name part) = optional (in_call_part array) part
stands_in array (stmt.ProcessDo head) = in_loop array head
stands_in array stmt.EndProcessDo = []
stands_in array stmt.LoopEnd = []

-- Occurrences in a unit.

abbrev pub occurrence : Line → List ℕ → Occurrence
occurrence line name = record { name = name; line = line }

abbrev pub in_placed : (List ℕ → Bool) → Placed → List Occurrence
in_placed array p = map (occurrence p.line) (stands_in array p.stmt)

abbrev pub in_entry : (List ℕ → Bool) → Entry → List Occurrence
in_entry array e = map (occurrence e.line) (stands_in array e.stmt)

-- the names that stand in a unit, in the order of the text
abbrev pub occurrences : (List ℕ → Bool) → Unit → List Occurrence
occurrences array u = in_placed array u.heading ++ (flat_map (in_placed array) u.specs ++ flat_map (in_entry array) u.body)

abbrev pub is_of : List ℕ → Occurrence → Bool
is_of name o = same_name name o.name

-- an occurrence, with those that stand before it, none of which has its name
abbrev pub is_first : List Occurrence × Occurrence → Bool
is_first at = not (list_any (is_of at.1.name) at.0)

-- the first of each name
abbrev pub first_occurrences : List Occurrence → List Occurrence
first_occurrences os = map (λ (at : List Occurrence × Occurrence). at.1) (filter is_first (with_earlier os))

-- The names with a list in parentheses in a statement, in the order of evaluation.
-- Source: ANSI X3.9-1978, sections 6.6 (evaluation of expressions) and 15.5.2 (references of functions); this profile for the
-- order, which is that of the text, an argument before the reference that it stands in.
use Rattle.std.specs.Prelude.{ℕ, ◌+◌, Bool, cond, Option, Some, None, List, [], ◌∷◌, ◌++◌, slice_get}
use Rattle.std.specs.List.{flat_map}
use Rattle.fm_tree.specs.Tree.{Tree, Trees, Number, Truth, Named, Ref, Paren, Signed, Not, Binary, NoTrees, More}
use Rattle.fm_tree.specs.declared.statement.Var.{Var}
use Rattle.fm_tree.specs.declared.statement.LoopHead.{LoopHead}
use Rattle.fm_tree.specs.declared.statement.Item.{Item}
use Rattle.fm_tree.specs.declared.statement.Item.TheVariants as item
use Rattle.fm_tree.specs.declared.statement.Extra.{Extra}
use Rattle.fm_tree.specs.declared.statement.Extra.TheVariants as extra
use Rattle.fm_tree.specs.declared.statement.Where.{Where}
use Rattle.fm_tree.specs.declared.statement.Where.TheVariants as place
use Rattle.fm_tree.specs.declared.statement.CallPart.{CallPart}
use Rattle.fm_tree.specs.declared.statement.Simple.{Simple}
use Rattle.fm_tree.specs.declared.statement.Simple.TheVariants as simple
use Rattle.fm_tree.specs.declared.statement.Stmt.{Stmt}
use Rattle.fm_tree.specs.declared.statement.Stmt.TheVariants as stmt

-- in an expression: elements, intrinsics and references of functions alike
abbrev mutual
  pub applied : Tree → List Tree
  applied (Number n) = []
  applied (Truth b) = []
  applied (Named name) = []
  applied (Ref name args) = applied_each args ++ Ref name args ∷ []
  applied (Paren e) = applied e
  applied (Signed op e) = applied e
  applied (Not e) = applied e
  applied (Binary op a b) = applied a ++ applied b

  pub applied_each : Trees → List Tree
  applied_each NoTrees = []
  applied_each (More t ts) = applied t ++ applied_each ts

abbrev pub in_exprs : List Tree → List Tree
in_exprs es = flat_map applied es

abbrev pub in_optional : Option Tree → List Tree
in_optional None = []
in_optional (Some e) = applied e

-- the subscripts of a variable
abbrev pub in_var : Var → List Tree
in_var v = in_exprs v.subscripts

abbrev pub in_vars : List Var → List Tree
in_vars vs = flat_map in_var vs

abbrev pub in_item : Item → List Tree
in_item (item.Expr e) = applied e
in_item (item.Constant bytes) = []

abbrev pub in_extra : Extra → List Tree
in_extra (extra.End label) = []
in_extra (extra.Iostat v) = in_var v

abbrev pub in_where : Where → List Tree
in_where (place.Location es) = in_exprs es
in_where (place.Submachine a b) = applied a ++ applied b

abbrev pub in_place : Option Where → List Tree
in_place None = []
in_place (Some w) = in_where w

abbrev pub in_arguments : Option (List Tree) → List Tree
in_arguments None = []
in_arguments (Some es) = in_exprs es

abbrev pub in_call : Option CallPart → List Tree
in_call None = []
in_call (Some c) = in_exprs c.arguments ++ in_place c.place

abbrev pub in_loop : LoopHead → List Tree
in_loop h = applied h.from ++ applied h.to ++ in_optional h.step

abbrev pub in_channel : Bool → Var → Var → List Tree
in_channel in_first inport outport = cond in_first (in_var inport ++ in_var outport) (in_var outport ++ in_var inport)

unfoldable pub in_simple : Simple → List Tree
in_simple (simple.Assignment v e) = in_var v ++ applied e
in_simple (simple.Goto label) = []
in_simple simple.Continue = []
in_simple simple.Return = []
in_simple simple.Stop = []
in_simple (simple.Call name arguments) = in_arguments arguments
in_simple (simple.Print items) = flat_map in_item items
in_simple (simple.Write unit items) = flat_map in_item items
in_simple (simple.Channel in_first inport outport) = in_channel in_first inport outport
in_simple (simple.Merger inport outports) = in_var inport ++ in_vars outports
in_simple (simple.Send named port items) = in_var port ++ in_exprs items
in_simple (simple.Receive named port extras items) = in_var port ++ flat_map in_extra extras ++ in_vars items
in_simple (simple.EndChannel named port) = in_var port
in_simple (simple.MovePort from to) = in_var from ++ in_var to
in_simple (simple.Probe named port empty) = in_var port ++ in_var empty

-- in an entry; headings and declarations evaluate nothing
unfoldable pub applied_in : Stmt → List Tree
applied_in (stmt.Simple s) = in_simple s
applied_in (stmt.LogicalIf e s) = applied e ++ in_simple s
applied_in (stmt.BlockIf e) = applied e
applied_in (stmt.ElseIf e) = applied e
applied_in (stmt.Do head) = in_loop head
applied_in (stmt.DoWhile e) = applied e
applied_in (stmt.ProcessCall name part) = in_call part
applied_in (stmt.ProcessDo head) = in_loop head
applied_in s = []

abbrev pub applied_name : Tree → List ℕ
applied_name (Ref name args) = name
applied_name t = []

-- the places of those whose names pass a test, counted from one on
abbrev pub places_where : (List ℕ → Bool) → ℕ → List Tree → List ℕ
places_where test at [] = []
places_where test at (t ∷ ts) = cond (test (applied_name t)) (at ∷ places_where test (at + 1) ts) (places_where test (at + 1) ts)

-- the places of the references of functions among these names, where the test tells which names are functions
abbrev pub reference_places : (List ℕ → Bool) → Stmt → List ℕ
reference_places is_function s = places_where is_function 0 (applied_in s)

-- the reference at a place
abbrev pub reference_at : Stmt → ℕ → Option Tree
reference_at s place = slice_get (applied_in s) place

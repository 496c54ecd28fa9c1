-- A program whose trees have the types that the rules want keeps ports and messages to their types.
use Rattle.std.proofs.Common.{◌≡◌, ℕ, Option, Some, List, Ok, refl, sym, ap, ◌∙◌, subst}
use Rattle.fm_tree.specs.Tree.{Tree, Trees, Ref, trees_from}
use Rattle.fm_tree.specs.PortFields.{PortFields, FieldKind, Logical}
use Rattle.fm_tree.specs.declared.program_unit.Entry.{Entry}
use Rattle.fm_tree.specs.declared.statement.Var.{Var}
use Rattle.fm_tree.specs.declared.statement.Simple.{Simple}
use Rattle.fm_tree.specs.declared.statement.Simple.TheVariants as simple
use Rattle.fm_tree.specs.declared.statement.Stmt.{Stmt}
use Rattle.fm_tree.specs.declared.statement.Stmt.TheVariants as stmt
use Rattle.fm_rules.specs.declared.program.Program.{Program}
use Rattle.fm_mean.specs.Names.{ProgramUnit}
use Rattle.fm_mean.specs.declared.place.Span.{Span}
use Rattle.fm_mean.specs.Evaluate.{Scope, place_of}
use Rattle.fm_mean.specs.Actions.{trees_in, arguments_in}
use Rattle.fm_mean.specs.Fits.{sort_at, ValuesFit, ItemsFit, EnterFrom}
use Rattle.fm_mean.specs.Typing.{IsScope, sort_of, ValueFits, TreesFit, ArgumentsFit, ReferenceFits, IsTypedSimple, IsTypedStatement, IsTypedReference, IsTypedEntry, IsTypedProgram}
use Rattle.fm_mean.specs.ValueTypes.{AreSized}
use Rattle.fm_mean.specs.TypedTrees.{IsIn, HasType, ItemsHaveTypes, ArgumentsHaveTypes, SimpleHasTypes, StatementHasTypes, ReferenceHasTypes, EntryHasTypes, HasTypes}
use Rattle.fm_mean.proofs.Sorts.{place_sort}
use Rattle.fm_mean.proofs.Sound.{logical_value}
use Rattle.fm_mean.proofs.Arguments.{items_fit}
use Rattle.fm_mean.proofs.Entering.{arguments_enter}

module _ (p : Program) (u : ProgramUnit) (sized : AreSized u.names.variables) where
  is_in : (s : Scope) → IsScope p u s → IsIn p u s
  is_in s h = record { unit = h.1; program = h.2 }

  sized_in : (s : Scope) → IsScope p u s → AreSized s.unit.names.variables
  sized_in s h = subst (λ (w : ProgramUnit). AreSized w.names.variables) (sym h.1) sized

  fits_in : (s : Scope) (h : IsScope p u s) → ValuesFit h.0 s.unit.names.variables s.values
  fits_in s h = subst (λ (w : ProgramUnit). ValuesFit h.0 w.names.variables s.values) (sym h.1) h.3

  items : (t : PortFields) (ts : Trees) → ItemsHaveTypes p u t ts → TreesFit p u t ts
  items t ts typed s n args h is =
      subst (λ (w : ProgramUnit). ItemsFit w.names.variables t args) h.1 (items_fit h.0 s t ts n args (sized_in s h) (fits_in s h) (typed s (is_in s h)) is)

  arguments : (name : List ℕ) (ts : Trees) → ArgumentsHaveTypes p u name ts → ArgumentsFit p u name ts
  arguments name ts typed v s n args named h is =
      subst (λ (w : ProgramUnit). EnterFrom w.names.variables v.1 1 args) h.1 (arguments_enter h.0 s v.1 1 ts n args (sized_in s h) (fits_in s h) (typed v s named (is_in s h)) is)

  reference : (name : List ℕ) (ts : Trees) → ReferenceHasTypes p u (Ref name ts) → ReferenceFits p u name ts
  reference name ts typed k callee s n args calls h is =
      subst (λ (w : ProgramUnit). EnterFrom w.names.variables callee 1 args) h.1 (arguments_enter h.0 s callee 1 ts n args (sized_in s h) (fits_in s h) (typed k callee s calls (is_in s h)) is)

  the_sort : (a b : FieldKind) → Some a ≡ Some b → a ≡ b
  the_sort a b e = cc

  -- what has no sort has no place of one
  logical_by : (s : Scope) (v : Var) (m : ℕ) (y : Span) (o : Option FieldKind) → sort_of s.unit v.name ≡ o → place_of s v m ≡ Ok y → sort_at s.unit.names.variables y.variable ≡ Some Logical → (r : FieldKind) → o ≡ Some r → r ≡ Logical
  logical_by s v m y o is placed sort r e = the_sort r Logical (sym (place_sort s v m y r placed (is ∙ e)) ∙ sort)

  assigned : (v : Var) (t : Tree) (r : FieldKind) → sort_of u v.name ≡ Some r → HasType p u t (Some r) → ValueFits p u v t
  assigned v t r is typed s m n y x h placed valued sort =
      let here : sort_of s.unit v.name ≡ Some r = ap (λ (w : ProgramUnit). sort_of w v.name) h.1 ∙ is in
      let at : sort_at s.unit.names.variables y.variable ≡ Some Logical = subst (λ (w : ProgramUnit). sort_at w.names.variables y.variable ≡ Some Logical) (sym h.1) sort in
      let logical : r ≡ Logical = logical_by s v m y (Some r) here placed at r refl in
      logical_value s t n x (typed s (is_in s h) ∙ ap Some logical) valued

  simple_types : (k : Simple) → SimpleHasTypes p u k → IsTypedSimple p u k
  simple_types (simple.Assignment v t) h = assigned v t h.0 h.1 h.2
  simple_types (simple.Goto l) h = tt
  simple_types simple.Continue h = tt
  simple_types simple.Return h = tt
  simple_types simple.Stop h = tt
  simple_types (simple.Call name args) h = arguments name (trees_in args) h
  simple_types (simple.Print is) h = tt
  simple_types (simple.Write unit is) h = tt
  simple_types (simple.Channel in_first i o) h = h
  simple_types (simple.Merger i os) h = h
  simple_types (simple.Send named q is) h = (h.0, h.1, items h.0 (trees_from is) h.2)
  simple_types (simple.Receive named q extras is) h = h
  simple_types (simple.EndChannel named q) h = tt
  simple_types (simple.MovePort from to) h = h
  simple_types (simple.Probe named q empty) h = tt

  statement_types : (k : Stmt) → StatementHasTypes p u k → IsTypedStatement p u k
  statement_types (stmt.Simple k) h = simple_types k h
  statement_types (stmt.Do l) h = h
  statement_types (stmt.ProcessDo l) h = h
  statement_types (stmt.ProcessCall name part) h = arguments name (trees_from (arguments_in part)) h
  statement_types other h = tt

  reference_types : (t : Tree) → ReferenceHasTypes p u t → IsTypedReference p u t
  reference_types (Ref name args) h = reference name args h
  reference_types other h = tt

  entry_types : (e : Entry) → EntryHasTypes p u e → IsTypedEntry p u e
  entry_types e h = record { statement = statement_types e.stmt h.statement; loop = h.loop; references = λ i t is. reference_types t (h.references i t is) }

pub typed_program : (p : Program) → HasTypes p → IsTypedProgram p
typed_program p h n u i e is there = entry_types p u (h.sized n u is) e (h.entries n u i e is there)

-- The calls and references of a program open frames and let nothing go.
use Rattle.std.proofs.Common.{◌≡◌, ℕ, Option, Some, List, slice_get, sym, subst}
use Rattle.fm_tree.specs.Tree.{Tree, Trees, Ref, trees_from}
use Rattle.fm_tree.specs.declared.program_unit.Entry.{Entry}
use Rattle.fm_tree.specs.declared.statement.CallPart.{CallPart}
use Rattle.fm_tree.specs.declared.statement.Simple.TheVariants as simple
use Rattle.fm_tree.specs.declared.statement.Stmt.{Stmt}
use Rattle.fm_tree.specs.declared.statement.Stmt.TheVariants as stmt
use Rattle.fm_rules.specs.declared.program.Program.{Program}
use Rattle.fm_sched.specs.Schedule.{Can, next, Throughout}
use Rattle.fm_net.specs.Machine.{Place, State}
use Rattle.fm_net.specs.Owned.{IsOwned}
use Rattle.fm_net.specs.Typed.{IsTyped}
use Rattle.fm_net.proofs.Typed.{step_keeps_types}
use Rattle.fm_mean.specs.Names.{ProgramUnit, unit_at, unit_named}
use Rattle.fm_mean.specs.Evaluate.{Scope}
use Rattle.fm_mean.specs.Actions.{trees_in, arguments_in, next_reference}
use Rattle.fm_mean.specs.Fits.{Types, ValuesFit, Fits, IsFine}
use Rattle.fm_mean.specs.Process.{Proc}
use Rattle.fm_mean.specs.Steps.{first, language, step}
use Rattle.fm_mean.specs.ValueTypes.{AreSized}
use Rattle.fm_mean.specs.TypedTrees.{IsIn, StatementHasTypes}
use Rattle.fm_mean.specs.CallsOpen.{OpensWhole, ReferenceOpensWhole}
use Rattle.fm_mean.proofs.Sizes.{variables_sized}
use Rattle.fm_mean.proofs.ProgramMeanings.{program_has_types}
use Rattle.fm_mean.proofs.Lawful.{lawful}
use Rattle.fm_mean.proofs.Laws.{opening_along, typed_along}
use Rattle.fm_mean.proofs.TypedLanguage.{typed_language}
use Rattle.fm_mean.proofs.TypedTrees.{typed_program}

module _ (p : Program) (n : ℕ) (u : ProgramUnit) (i : ℕ) (e : Entry) (at : unit_at p n ≡ Some u) (here : slice_get u.tree.body i ≡ Some e) where
  statement_types : (t : Stmt) → e.stmt ≡ t → StatementHasTypes p u t
  statement_types t is = subst (StatementHasTypes p u) is ((program_has_types p).entries n u i e at here).statement

  sized_in : (s : Scope) → IsIn p u s → AreSized s.unit.names.variables
  sized_in s within = subst (λ (w : ProgramUnit). AreSized w.names.variables) (sym within.unit) (variables_sized p n u at)

  fits_in : (types : Types) (s : Scope) → IsIn p u s → ValuesFit types u.names.variables s.values → ValuesFit types s.unit.names.variables s.values
  fits_in types s within fits = subst (λ (w : ProgramUnit). ValuesFit types w.names.variables s.values) (sym within.unit) fits

  pub call_opens : (name : List ℕ) (args : Option (List Tree)) (v : ℕ × ProgramUnit) → e.stmt ≡ stmt.Simple (simple.Call name args) → unit_named p name ≡ Some v → OpensWhole p u v.1 (trees_in args)
  call_opens name args v is named types s k actuals within fits evaluated =
      opening_along types s v.1 (trees_in args) k actuals (sized_in s within) (fits_in types s within fits) (statement_types (stmt.Simple (simple.Call name args)) is v s named within) evaluated

  pub process_call_opens : (name : List ℕ) (part : Option CallPart) (v : ℕ × ProgramUnit) → e.stmt ≡ stmt.ProcessCall name part → unit_named p name ≡ Some v → OpensWhole p u v.1 (trees_from (arguments_in part))
  process_call_opens name part v is named types s k actuals within fits evaluated =
      opening_along types s v.1 (trees_from (arguments_in part)) k actuals (sized_in s within) (fits_in types s within fits) (statement_types (stmt.ProcessCall name part) is v s named within) evaluated

  pub reference_opens : (j : ℕ) (name : List ℕ) (args : Trees) → next_reference e j ≡ Some (Ref name args) → ReferenceOpensWhole p u name args
  reference_opens j name args is m callee types s k actuals calls within fits evaluated =
      opening_along types s callee args k actuals (sized_in s within) (fits_in types s within fits) (((program_has_types p).entries n u i e at here).references j (Ref name args) is m callee s calls within) evaluated

-- along every schedule ports and messages keep to their types
pub always_typed : (p : Program) → Throughout (step p) (IsTyped (language p) (IsFine p) Fits) (first p)
always_typed p = typed_along p (program_has_types p)

-- each step keeps them, from any state
pub types_kept : (p : Program) (s : State Proc) (q : Place) → IsOwned (language p) s → IsTyped (language p) (IsFine p) Fits s → Can (step p) s q → IsTyped (language p) (IsFine p) Fits (next (step p) s q)
types_kept p s q owned typed can = step_keeps_types (language p) (IsFine p) Fits (typed_language p (typed_program p (program_has_types p))) (lawful p) s q owned typed can

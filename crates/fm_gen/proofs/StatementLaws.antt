-- Statements do what the meaning does.
use Rattle.std.proofs.Common.{◌≡◌, ℕ, suc, true, Option, Some, None, List, [], ◌∷◌, refl, sym, ap, subst, ◌∙◌}
use Rattle.std.specs.Prelude.{slice_get}
use Rattle.fm_tree.specs.Tree.{Tree, Trees, trees_from}
use Rattle.fm_tree.specs.References.{applied_in}
use Rattle.fm_tree.specs.declared.form.UnitKind.TheVariants as unit_kind
use Rattle.fm_tree.specs.declared.program_unit.Entry.{Entry}
use Rattle.fm_tree.specs.declared.statement.Var.{Var}
use Rattle.fm_tree.specs.declared.statement.LoopHead.{LoopHead}
use Rattle.fm_tree.specs.declared.statement.Item.{Item}
use Rattle.fm_tree.specs.declared.statement.Simple.{Simple}
use Rattle.fm_tree.specs.declared.statement.Simple.TheVariants as simple
use Rattle.fm_tree.specs.declared.statement.Stmt.{Stmt}
use Rattle.fm_tree.specs.declared.statement.Stmt.TheVariants as stmt
use Rattle.fm_rules.specs.declared.program.Program.{Program}
use Rattle.fm_mean.specs.Names.{ProgramUnit, Point, unit_at, unit_named, kind_of, variable_of}
use Rattle.fm_mean.specs.Process as mean
use Rattle.fm_mean.specs.Process.{Execution}
use Rattle.fm_mean.specs.Evaluate.{Scope, refs_in_var, value_of, printed_all}
use Rattle.fm_mean.specs.Actions.{Loop, Counted, While, NoLoop, loop_of, scope_of, goes_to, jumps, tests, prints, returns, trees_in, arguments_in, simple_action, statement_action, ends_loop, end_by, end_of}
use Rattle.fm_code.specs.declared.body.Frame.{Frame}
use Rattle.fm_code.specs.declared.instr.Instr.TheVariants as instr
use Rattle.fm_code.specs.declared.instr.End.TheVariants as end
use Rattle.fm_code.specs.Acts.{work, nothing}
use Rattle.fm_tree.specs.PortFields.{Integer}
use Rattle.fm_mean.specs.Typing.{sort_of, LoopFits}
use Rattle.fm_mean.specs.TypedTrees.{SimpleHasTypes, StatementHasTypes}
use Rattle.fm_gen_relation.specs.Standing.{Slots, scope_in, IsFrame, AreDone}
use Rattle.fm_gen_relation.specs.Calls.{DoneFrom, VarDone, ItemsDone, BoundsDone, SimpleDone, StatementDone}
use Rattle.fm_gen_relation.proofs.Done.{statement_done}
use Rattle.fm_gen_operands.specs.Code.{expression_code}
use Rattle.fm_gen_operands.specs.Places.{arguments_code}
use Rattle.fm_gen_operands.specs.Keeps.{KeepsActuals}
use Rattle.fm_mean.specs.Referring.{calls_among}
use Rattle.fm_gen_relation.specs.Sound.{IsSoundSimple, IsSoundStatement, IsSoundEntry}
use Rattle.fm_gen.specs.Statements.{Addresses, goto, assigned_code, print_code, jump_code, test_code, return_code, again_code, end_code, loop_end_code, simple_code, statement_code}
use Rattle.fm_gen_relation.specs.Frames.{counts_trips}
use Rattle.fm_gen.specs.Asking.{IsAsking}
use Rattle.fm_gen.specs.Steps.{Site, Agree}
use Rattle.fm_gen_relation.specs.Frames.{IsLoop, Stands}
use Rattle.fm_gen_operands.proofs.Follows.{named_at, all_refs_same, keeps}
use Rattle.fm_gen.proofs.LoopWords.{has_word, loop_fits}
use Rattle.fm_gen.proofs.StoreLaws.{same_frame, same_code, agree_then, assigned_follows, test_follows}
use Rattle.fm_gen.proofs.PrintLaws.{items_follow}
use Rattle.fm_gen.proofs.LoopLaws.{loop_follows, trip_follows}
use Rattle.fm_gen_relation.proofs.Units.{sound_unit}
use Rattle.fm_gen_operands.proofs.ActualLaws.{keeps_actuals}
use Rattle.fm_gen.proofs.PortLaws.{asks_follow}
use Rattle.fm_gen.proofs.CallStatements.{return_follows, called, call_follows, start_follows}

module _ (p : Program) (number : ℕ) (u : ProgramUnit) (here : unit_at p number ≡ Some u) (slots : Slots) (m : Frame) (frame : IsFrame u slots m)
    (w : Execution) (e : Point) (f : mean.Frame) (below : List mean.Frame) (address : Addresses) (next_behind joined : ℕ) (stands : Stands u slots f m) where
  abbrev site : Site
  site = record { program = p; unit = u; slots = slots; address = address; behind = next_behind; join = joined; runs = w; point = e; frame = f; below = below; code = m }

  abbrev now : Scope
  now = scope_in p u slots m

  goes_on : (n : ℕ) → Agree site (work (goto (address n) ∷ []) [] nothing m) (goes_to w below f n)
  goes_on n = record { frame = f; entry = n; does = refl; leads = refl; stands = stands; leaves = same_frame f; leaves_code = same_code m }

  jump_follows : (o : Option ℕ) → Agree site (work (jump_code address o) [] nothing m) (jumps w below f o)
  jump_follows None = refl
  jump_follows (Some n) = goes_on n

  print_follows : (items : List Item) → ItemsDone now items 0 → Agree site (work (print_code p u items (address e.entry.after)) [] nothing m) (prints w e f below (printed_all now items 0))
  print_follows items done =
      subst (λ t. Agree site t (prints w e f below (printed_all now items 0))) (sym (items_follow p number u here slots m frame items 0 done [] (instr.End (end.Print (address e.entry.after)) ∷ [])))
      (agree_then site (printed_all now items 0) _ (λ q. prints w e f below q) (λ fault. refl) (λ ys same. record { does = refl; leads = refl }))

  assignment_follows : (v : Var) (t : Tree) → VarDone now v 0 → AreDone now t (refs_in_var now v)
      → Agree site (work (simple_code p u address e (simple.Assignment v t)) [] nothing m) (simple_action p w u e f below now (simple.Assignment v t))
  assignment_follows v t a b =
      let n = refs_in_var now v in
      subst (λ k. Agree site (work (assigned_code p u (variable_of u v.name) (trees_from v.subscripts) (expression_code p u t k) (address e.entry.after)) [] nothing m) (simple_action p w u e f below now (simple.Assignment v t)))
      (all_refs_same p u slots m (trees_from v.subscripts))
      (assigned_follows p number u here slots m frame w e f below address next_behind joined stands (expression_code p u t n) (value_of now t n)
      (λ is s c. keeps p number u t n here slots m frame b is s c)
      (variable_of u v.name) (named_at p u v.name) (trees_from v.subscripts) a)

  again_follows : (opener : ℕ) (o : Entry) (q : Loop) → slice_get u.tree.body opener ≡ Some o → loop_of o.stmt ≡ q → LoopFits u q
      → Agree site (work (again_code u opener q (address o.after) (address e.entry.after) (address opener)) [] nothing m) (ends_loop w u e f below opener o.after q)
  again_follows opener o (Counted name) at is h =
      let x = has_word p number u here name h in
      trip_follows p number u here slots m frame w e f below address next_behind joined stands opener o.after (record { entry = o; at = at; counted = ap counts_trips is }) name x.place x.variable x.there x.word x.some x.named
  again_follows opener o While at is h = goes_on opener
  again_follows opener o NoLoop at is h = refl

  opened_follows : (opener : ℕ) (x : Option Entry) → slice_get u.tree.body opener ≡ x
      → Agree site (work (end_code u address (address e.entry.after) opener x) [] nothing m) (end_by w u e f below opener x)
  opened_follows opener None at = refl
  opened_follows opener (Some o) at = again_follows opener o (loop_of o.stmt) at refl (loop_fits p number u here opener o at)

  end_follows : (o : Option ℕ) → Agree site (work (loop_end_code u address (address e.entry.after) o) [] nothing m) (end_of w u e f below o)
  end_follows None = refl
  end_follows (Some opener) = opened_follows opener (slice_get u.tree.body opener) refl

  begin_follows : (h : LoopHead) → BoundsDone now h → IsLoop u.tree.body f.entry → sort_of u h.variable ≡ Some Integer
      → Agree site (work (statement_code p u address 0 f.entry e (stmt.Do h)) [] nothing m) (statement_action p w u e f below now (stmt.Do h))
  begin_follows h done l sort =
      let x = has_word p number u here h.variable sort in
      loop_follows p number u here slots m frame w e f below address next_behind joined stands h done l x.place x.variable x.there x.word x.some x.named

  tested : (t : Tree) → AreDone now t 0 → Agree site (work (test_code p u t (address e.entry.after) (address e.links.other)) [] nothing m) (tests w e f below (value_of now t 0))
  tested t done = test_follows p number u here slots m frame w e f below address next_behind joined stands t done

  abbrev passes : (ts : Trees) (n : ℕ) → KeepsActuals p u ts n (arguments_code p u ts n)
  passes ts n = keeps_actuals p number u (sound_unit p number u here) here ts n

  module _ (sound : IsSoundEntry p u e.entry) (done : DoneFrom p u f.results (calls_among p u (applied_in e.entry.stmt)) 0) where
    returned : Agree site (work (return_code u (kind_of u)) [] nothing m) (returns w u f below (kind_of u))
    returned = return_follows p number u here slots m frame w e f below address next_behind joined stands (kind_of u) refl (sound_unit p number u here).result

    asking : (k : Simple) → SimpleDone now k → slice_get u.tree.body f.entry ≡ Some e.entry → e.entry.stmt ≡ stmt.Simple k → IsAsking k → Agree site (work (simple_code p u address e k) [] nothing m) (simple_action p w u e f below now k)
    asking k h at is asks = asks_follow p number u here slots m frame w e f below address next_behind joined stands k at is asks sound h

    simple_follows : (k : Simple) → SimpleHasTypes p u k → IsSoundSimple p u k → SimpleDone now k → slice_get u.tree.body f.entry ≡ Some e.entry → e.entry.stmt ≡ stmt.Simple k
        → Agree site (work (simple_code p u address e k) [] nothing m) (simple_action p w u e f below now k)
    simple_follows (simple.Assignment v t) typed fine h at is = assignment_follows v t h.0 h.1
    simple_follows (simple.Goto l) typed fine h at is = jump_follows e.links.jump
    simple_follows simple.Continue typed fine h at is = goes_on e.entry.after
    simple_follows simple.Return typed fine h at is = returned
    simple_follows simple.Stop typed fine h at is = refl
    simple_follows (simple.Call name args) typed fine h at is =
        call_follows p number u here slots m frame w e f below address next_behind joined stands passes (unit_named p name) (trees_in args)
        (called p number u here slots m frame w e f below address next_behind joined stands unit_kind.Subroutine name (trees_in args) fine typed) h
    simple_follows (simple.Print items) typed fine h at is = print_follows items h
    simple_follows (simple.Write unit items) typed fine h at is = print_follows items h
    simple_follows (simple.Channel in_first i o) typed fine h at is = asking (simple.Channel in_first i o) h at is tt
    simple_follows (simple.Merger i os) typed fine h at is = asking (simple.Merger i os) h at is tt
    simple_follows (simple.Send named q items) typed fine h at is = asking (simple.Send named q items) h at is tt
    simple_follows (simple.Receive named q extras items) typed fine h at is = asking (simple.Receive named q extras items) h at is tt
    simple_follows (simple.EndChannel named q) typed fine h at is = asking (simple.EndChannel named q) h at is tt
    simple_follows (simple.MovePort from to) typed fine h at is = asking (simple.MovePort from to) h at is tt
    simple_follows (simple.Probe named q empty) typed fine h at is = asking (simple.Probe named q empty) h at is tt

    module _ (start : ℕ) (leads : suc start ≡ joined) (at : slice_get u.tree.body f.entry ≡ Some e.entry) where
      loop_at : (s : Stmt) → e.entry.stmt ≡ s → counts_trips (loop_of s) ≡ true → IsLoop u.tree.body f.entry
      loop_at s is counted = record { entry = e.entry; at = at; counted = ap (λ s. counts_trips (loop_of s)) is ∙ counted }

      statement_at : (s : Stmt) → StatementHasTypes p u s → IsSoundStatement p u s → StatementDone now s → e.entry.stmt ≡ s
          → Agree site (work (statement_code p u address start f.entry e s) [] nothing m) (statement_action p w u e f below now s)
      statement_at (stmt.Simple s) typed fine h is = simple_follows s typed fine h at is
      statement_at (stmt.LogicalIf t s) typed fine h is = tested t h
      statement_at (stmt.BlockIf t) typed fine h is = tested t h
      statement_at (stmt.ElseIf t) typed fine h is = tested t h
      statement_at stmt.Else typed fine h is = goes_on e.entry.after
      statement_at stmt.EndIf typed fine h is = goes_on e.entry.after
      statement_at (stmt.Do d) typed fine h is = begin_follows d h (loop_at (stmt.Do d) is refl) typed
      statement_at (stmt.ProcessDo d) typed fine h is = begin_follows d h (loop_at (stmt.ProcessDo d) is refl) typed
      statement_at (stmt.DoWhile t) typed fine h is = tested t h
      statement_at stmt.EndDo typed fine h is = end_follows e.entry.mate
      statement_at stmt.EndProcessDo typed fine h is = end_follows e.entry.mate
      statement_at stmt.LoopEnd typed fine h is = end_follows e.entry.mate
      statement_at stmt.End typed fine h is = returned
      statement_at stmt.Processes typed fine h is = goes_on e.entry.after
      statement_at stmt.EndProcesses typed fine h is = record { leads = leads; does = refl }
      statement_at (stmt.ProcessCall name part) typed fine h is =
          start_follows p number u here slots m frame w e f below address next_behind joined stands passes (unit_named p name) part
          (called p number u here slots m frame w e f below address next_behind joined stands unit_kind.Process name (trees_from (arguments_in part)) fine typed) h.0 h.1
      statement_at (stmt.Program name) typed fine h is = refl
      statement_at (stmt.Process name formals) typed fine h is = refl
      statement_at (stmt.Subroutine name formals) typed fine h is = refl
      statement_at (stmt.Function name formals) typed fine h is = refl
      statement_at (stmt.IntegerFunction name formals) typed fine h is = refl
      statement_at (stmt.LogicalFunction name formals) typed fine h is = refl
      statement_at stmt.ImplicitNone typed fine h is = refl
      statement_at (stmt.Integer ds) typed fine h is = refl
      statement_at (stmt.Logical ds) typed fine h is = refl
      statement_at (stmt.Dimension ds) typed fine h is = refl
      statement_at (stmt.Parameter ds) typed fine h is = refl
      statement_at (stmt.Inport t ds) typed fine h is = refl
      statement_at (stmt.Outport t ds) typed fine h is = refl
      statement_at (stmt.Intent way names) typed fine h is = refl
      statement_at (stmt.Processors es) typed fine h is = refl

      -- in the scope of the frame that it stands for
      pub statement_follows : Agree site (work (statement_code p u address start f.entry e e.entry.stmt) [] nothing m) (statement_action p w u e f below (scope_of p u f) e.entry.stmt)
      statement_follows =
          let values = sym stands.values in
          let results = sym stands.results in
          let all = statement_done p u now (record { unit = refl; program = refl }) e.entry.stmt (subst (λ rs. DoneFrom p u rs (calls_among p u (applied_in e.entry.stmt)) 0) stands.results done) in
          subst (λ s. Agree site (work (statement_code p u address start f.entry e e.entry.stmt) [] nothing m) (statement_action p w u e f below s e.entry.stmt))
          (λ j. record { program = p; unit = u; values = values j; results = results j }) (statement_at e.entry.stmt sound.types.statement sound.statement all refl)

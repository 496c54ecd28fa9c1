-- Where entries begin, and what stands there.
use Rattle.std.proofs.Common.{◌≡◌, ℕ, zero, suc, ◌+◌, ◌<◌, ◌≤◌, Bool, true, false, cond, Option, Some, None, List, [], ◌∷◌, ◌++◌, length, drop, refl, sym, ap, ◌∙◌, arith, append_assoc, ◌-◌, length-append, ⊎_elim}
use Rattle.std.specs.Prelude.{option_map, slice_get, unwrap_or}
use Rattle.std.proofs.Math.Seq.{drop-append_seam}
use Rattle.std.proofs.lemmas.Bool.{cases_lt}
use Rattle.std.proofs.lemmas.List.{append-nil}
use Rattle.std.proofs.lemmas.Option.{slice_get_past}
use Rattle.fm_rules.specs.declared.entry_links.EntryLinks.{EntryLinks}
use Rattle.fm_rules.specs.Links.{links_of}
use Rattle.fm_tree.specs.Tree.{Trees, NoTrees, More, trees_from}
use Rattle.fm_tree.specs.declared.form.UnitKind.{UnitKind}
use Rattle.fm_tree.specs.declared.form.UnitKind.TheVariants as unit_kind
use Rattle.fm_tree.specs.declared.port_type.Kind.{Kind}
use Rattle.fm_tree.specs.declared.port_type.Kind.TheVariants as kind
use Rattle.fm_tree.specs.declared.program_unit.Entry.{Entry}
use Rattle.fm_tree.specs.declared.statement.CallPart.{CallPart}
use Rattle.fm_tree.specs.declared.statement.Extra.{Extra}
use Rattle.fm_tree.specs.declared.statement.LoopHead.{LoopHead}
use Rattle.fm_tree.specs.declared.statement.Simple.{Simple}
use Rattle.fm_tree.specs.declared.statement.Simple.TheVariants as simple
use Rattle.fm_tree.specs.declared.statement.Stmt.{Stmt}
use Rattle.fm_tree.specs.declared.statement.Stmt.TheVariants as stmt
use Rattle.fm_tree.specs.declared.statement.Var.{Var}
use Rattle.fm_symbols.specs.declared.names.Variable.{Variable}
use Rattle.fm_rules.specs.declared.program.Program.{Program}
use Rattle.fm_mean.specs.Names.{ProgramUnit, Point, point_with, point_at, kind_of, variable_of, unit_named}
use Rattle.fm_mean.specs.Evaluate.{refs_in_all, refs_in_var}
use Rattle.fm_mean.specs.Actions.{Loop, Counted, While, NoLoop, loop_of, arguments_in, trees_in, where_in, fields_at}
use Rattle.fm_code.specs.declared.instr.Instr.{Instr}
use Rattle.fm_code.specs.declared.instr.Instr.TheVariants as instr
use Rattle.fm_code.specs.declared.instr.End.TheVariants as end
use Rattle.fm_code.specs.declared.instr.Meet.TheVariants as meet
use Rattle.fm_gen_operands.specs.Code.{place_code, trees_count, expression_code, expressions_code}
use Rattle.fm_gen_operands.specs.Places.{arguments_code, seat_code, targets_code, var_code}
use Rattle.fm_mean.specs.Referring.{names_in}
use Rattle.fm_gen.specs.Statements.{Addresses, goto, holds_word, variable_meant, first_store, locate_code, element_store, assigned_code, items_code, bounds_code, do_code, loop_code, again_code, end_code, loop_end_code, jump_code, call_by, result_word, return_code, start_by, block_code, cuts_code, send_code, extras_code, refs_behind, receive_end, receive_code, channel_code, merger_code, two_code, simple_code, statement_code}
use Rattle.fm_gen.specs.Entries.{references_code, references_length, entry_code, entries_code, address_of, unit_code, starts_of}
use Rattle.fm_gen_relation.specs.Frames.{loop_number}
use Rattle.fm_gen.specs.Tables.{address_in}
use Rattle.fm_gen.proofs.Ends.{IsEnd, IsEnded, Goes, Tests, Stores, StoresAt, Enters, EndsTrip, Prints, Calls, Returns, ReturnsValue, Starts, Meets, alone, behind, closing}
use Rattle.fm_gen.proofs.ReferenceLaws.{references_same}

the_point : (a b : Point) → Some a ≡ Some b → a ≡ b
the_point a b e = cc

pub entry_there : (o : Option Entry) (l : Option EntryLinks) (e : Point) → point_with o l ≡ Some e → o ≡ Some e.entry
entry_there None l e is = absurd (cc)
entry_there (Some x) None e is = absurd (cc)
entry_there (Some x) (Some l) e is = ap (λ (q : Point). Some q.entry) (the_point (record { entry = x; links = l }) e is)

-- Each statement's code ends its statement.

first_ended : (o : Option Variable) (next : ℕ) → IsEnded (first_store o next ∷ [])
first_ended None next = alone (goto next) (Goes next)
first_ended (Some v) next = go (holds_word v)
  where
    go : (c : Bool) → IsEnded (cond c (instr.End (end.Store v.first next)) (goto next) ∷ [])
    go true = alone (instr.End (end.Store v.first next)) (Stores v.first next)
    go false = alone (goto next) (Goes next)

element_ended : (q : Kind) (next : ℕ) → IsEnded (element_store q next ∷ [])
element_ended kind.Integer next = alone (instr.End (end.StoreAt next)) (StoresAt next)
element_ended kind.Logical next = alone (instr.End (end.StoreAt next)) (StoresAt next)
element_ended (kind.In t) next = alone (goto next) (Goes next)
element_ended (kind.Out t) next = alone (goto next) (Goes next)

stuck_ended : IsEnded (instr.End (end.Store 0 0) ∷ [])
stuck_ended = alone (instr.End (end.Store 0 0)) (Stores 0 0)

stop_ended : IsEnded (instr.Meet meet.Stop ∷ [])
stop_ended = alone (instr.Meet meet.Stop) (Meets meet.Stop)

return_ended : (u : ProgramUnit) (q : UnitKind) → IsEnded (return_code u q)
return_ended u unit_kind.Program = stop_ended
return_ended u unit_kind.Process = stop_ended
return_ended u unit_kind.Subroutine = alone (instr.End end.Return) Returns
return_ended u unit_kind.Function = alone (instr.End (end.ReturnValue (result_word u))) (ReturnsValue (result_word u))

block_ended : (here next : ℕ) → IsEnded (block_code here next)
block_ended here next = behind (instr.Meet (meet.Begin (suc here)) ∷ []) (instr.Meet (meet.Join next) ∷ []) (alone (instr.Meet (meet.Join next)) (Meets (meet.Join next)))

receive_ends : (at_end : Option ℕ) (next : ℕ) → IsEnd (receive_end at_end next)
receive_ends None next = Meets (meet.Receive next)
receive_ends (Some to) next = Meets (meet.ReceiveOr to next)

module _ (p : Program) (u : ProgramUnit) where
  assigned_ended : (o : Option (ℕ × Variable)) (ts : Trees) (value : List Instr) (next : ℕ) → IsEnded (assigned_code p u o ts value next)
  assigned_ended None ts value next = behind value (first_store (variable_meant u None) next ∷ []) (first_ended (variable_meant u None) next)
  assigned_ended (Some v) NoTrees value next = behind value (first_store (Some v.1) next ∷ []) (first_ended (Some v.1) next)
  assigned_ended (Some v) (More t ts) value next =
      let store = element_store v.1.kind next ∷ [] in
      behind (expressions_code p u (More t ts) 0) (place_code v.1 (trees_count (More t ts)) (locate_code v.1.kind v.1.first) ++ (value ++ store))
      (behind (place_code v.1 (trees_count (More t ts)) (locate_code v.1.kind v.1.first)) (value ++ store) (behind value store (element_ended v.1.kind next)))

  again_ended : (opener : ℕ) (q : Loop) (inside outside start : ℕ) → IsEnded (again_code u opener q inside outside start)
  again_ended opener (Counted name) inside outside start = behind (loop_code u (loop_number u.tree.body opener) name ∷ []) (instr.End (end.Again inside outside) ∷ []) (alone (instr.End (end.Again inside outside)) (EndsTrip inside outside))
  again_ended opener While inside outside start = alone (goto start) (Goes start)
  again_ended opener NoLoop inside outside start = stuck_ended

  end_ended : (address : Addresses) (outside opener : ℕ) (o : Option Entry) → IsEnded (end_code u address outside opener o)
  end_ended address outside opener None = stuck_ended
  end_ended address outside opener (Some o) = again_ended opener (loop_of o.stmt) (address o.after) outside (address opener)

  loop_end_ended : (address : Addresses) (outside : ℕ) (o : Option ℕ) → IsEnded (loop_end_code u address outside o)
  loop_end_ended address outside None = stuck_ended
  loop_end_ended address outside (Some opener) = end_ended address outside opener (slice_get u.tree.body opener)

  jump_ended : (address : Addresses) (o : Option ℕ) → IsEnded (jump_code address o)
  jump_ended address None = stuck_ended
  jump_ended address (Some k) = alone (goto (address k)) (Goes (address k))

  call_ended : (o : Option (ℕ × ProgramUnit)) (args : Trees) (to : ℕ) → IsEnded (call_by p u o args to)
  call_ended None args to = stuck_ended
  call_ended (Some callee) args to = closing (arguments_code p u args 0) (instr.End (end.Call callee.0 to)) (Calls callee.0 to)

  start_ended : (o : Option (ℕ × ProgramUnit)) (part : Option CallPart) (to : ℕ) → IsEnded (start_by p u o part to)
  start_ended None part to = stuck_ended
  start_ended (Some callee) part to =
      let args = trees_from (arguments_in part) in
      let seat = seat_code p u (where_in part) (refs_in_all (names_in p u) args) in
      behind (arguments_code p u args 0) (seat ++ instr.End (end.Start callee.0 to) ∷ []) (closing seat (instr.End (end.Start callee.0 to)) (Starts callee.0 to))

  send_ended : (q : Var) (items : Trees) (to : ℕ) → IsEnded (send_code p u q items to)
  send_ended q items to =
      let sent = arguments_code p u items (refs_in_var (names_in p u) q) in
      let cuts = cuts_code 0 (fields_at u q) in
      behind (var_code p u q 0) (sent ++ (cuts ++ instr.Meet (meet.Send to) ∷ []))
      (behind sent (cuts ++ instr.Meet (meet.Send to) ∷ []) (closing cuts (instr.Meet (meet.Send to)) (Meets (meet.Send to))))

  receive_ended : (q : Var) (extras : List Extra) (items : List Var) (at_end : Option ℕ) (to : ℕ) → IsEnded (receive_code p u q extras items at_end to)
  receive_ended q extras items at_end to =
      let s = names_in p u in
      let more = extras_code p u extras (refs_in_var s q) in
      let got = targets_code p u items (refs_behind s extras (refs_in_var s q)) in
      let last = receive_end at_end to in
      behind (var_code p u q 0) (more ++ (got ++ last ∷ [])) (behind more (got ++ last ∷ []) (closing got last (receive_ends at_end to)))

  channel_ended : (in_first : Bool) (i o : Var) (to : ℕ) → IsEnded (channel_code p u in_first i o to)
  channel_ended true i o to =
      let second = var_code p u o (refs_in_var (names_in p u) i) in
      behind (var_code p u i 0) (second ++ instr.Meet (meet.Channel to) ∷ []) (closing second (instr.Meet (meet.Channel to)) (Meets (meet.Channel to)))
  channel_ended false i o to =
      let second = var_code p u i (refs_in_var (names_in p u) o) in
      behind (var_code p u o 0) (second ++ instr.Meet (meet.ChannelFrom to) ∷ []) (closing second (instr.Meet (meet.ChannelFrom to)) (Meets (meet.ChannelFrom to)))

  merger_ended : (i : Var) (os : List Var) (to : ℕ) → IsEnded (merger_code p u i os to)
  merger_ended i os to =
      let others = targets_code p u os (refs_in_var (names_in p u) i) in
      behind (var_code p u i 0) (others ++ instr.Meet (meet.Merger to) ∷ []) (closing others (instr.Meet (meet.Merger to)) (Meets (meet.Merger to)))

  two_ended : (first second : Var) (i : Instr) → IsEnd i → IsEnded (two_code p u first second i)
  two_ended first second i h =
      let other = var_code p u second (refs_in_var (names_in p u) first) in
      behind (var_code p u first 0) (other ++ i ∷ []) (closing other i h)

  module _ (address : Addresses) (e : Point) where
    abbrev next : ℕ
    next = address e.entry.after

    abbrev other : ℕ
    other = address e.links.other

    simple_ended : (s : Simple) → IsEnded (simple_code p u address e s)
    simple_ended (simple.Assignment v t) = assigned_ended (variable_of u v.name) (trees_from v.subscripts) (expression_code p u t (refs_in_var (names_in p u) v)) next
    simple_ended (simple.Goto l) = jump_ended address e.links.jump
    simple_ended simple.Continue = alone (goto next) (Goes next)
    simple_ended simple.Return = return_ended u (kind_of u)
    simple_ended simple.Stop = stop_ended
    simple_ended (simple.Call name args) = call_ended (unit_named p name) (trees_in args) next
    simple_ended (simple.Print items) = behind (items_code p u items 0) (instr.End (end.Print next) ∷ []) (alone (instr.End (end.Print next)) (Prints next))
    simple_ended (simple.Write unit items) = behind (items_code p u items 0) (instr.End (end.Print next) ∷ []) (alone (instr.End (end.Print next)) (Prints next))
    simple_ended (simple.Channel in_first i o) = channel_ended in_first i o next
    simple_ended (simple.Merger i os) = merger_ended i os next
    simple_ended (simple.Send named q items) = send_ended q (trees_from items) next
    simple_ended (simple.Receive named q extras items) = receive_ended q extras items (option_map address e.links.jump) next
    simple_ended (simple.EndChannel named q) = closing (var_code p u q 0) (instr.Meet (meet.EndChannel next)) (Meets (meet.EndChannel next))
    simple_ended (simple.MovePort from to) = two_ended from to (instr.Meet (meet.MovePort next)) (Meets (meet.MovePort next))
    simple_ended (simple.Probe named q empty) = two_ended q empty (instr.Meet (meet.Probe next)) (Meets (meet.Probe next))

    test_ended : (before : List Instr) → IsEnded (before ++ instr.End (end.Test next other) ∷ [])
    test_ended before = behind before (instr.End (end.Test next other) ∷ []) (alone (instr.End (end.Test next other)) (Tests next other))

    enter_ended : (h : LoopHead) (n : ℕ) → IsEnded (do_code p u h n next other)
    enter_ended h n =
        behind (bounds_code p u h) (loop_code u n h.variable ∷ instr.End (end.Enter next other) ∷ [])
        (behind (loop_code u n h.variable ∷ []) (instr.End (end.Enter next other) ∷ []) (alone (instr.End (end.Enter next other)) (Enters next other)))

    goes_ended : IsEnded (goto next ∷ [])
    goes_ended = alone (goto next) (Goes next)

    pub statement_ended : (here k : ℕ) (s : Stmt) → IsEnded (statement_code p u address here k e s)
    statement_ended here k (stmt.Simple s) = simple_ended s
    statement_ended here k (stmt.LogicalIf t s) = test_ended (expression_code p u t 0)
    statement_ended here k (stmt.BlockIf t) = test_ended (expression_code p u t 0)
    statement_ended here k (stmt.ElseIf t) = test_ended (expression_code p u t 0)
    statement_ended here k stmt.Else = goes_ended
    statement_ended here k stmt.EndIf = goes_ended
    statement_ended here k (stmt.Do h) = enter_ended h (loop_number u.tree.body k)
    statement_ended here k (stmt.ProcessDo h) = enter_ended h (loop_number u.tree.body k)
    statement_ended here k (stmt.DoWhile t) = test_ended (expression_code p u t 0)
    statement_ended here k stmt.EndDo = loop_end_ended address next e.entry.mate
    statement_ended here k stmt.EndProcessDo = loop_end_ended address next e.entry.mate
    statement_ended here k stmt.LoopEnd = loop_end_ended address next e.entry.mate
    statement_ended here k stmt.End = return_ended u (kind_of u)
    statement_ended here k stmt.Processes = goes_ended
    statement_ended here k stmt.EndProcesses = block_ended here next
    statement_ended here k (stmt.ProcessCall name part) = start_ended (unit_named p name) part next
    statement_ended here k (stmt.Program name) = stuck_ended
    statement_ended here k (stmt.Process name formals) = stuck_ended
    statement_ended here k (stmt.Subroutine name formals) = stuck_ended
    statement_ended here k (stmt.Function name formals) = stuck_ended
    statement_ended here k (stmt.IntegerFunction name formals) = stuck_ended
    statement_ended here k (stmt.LogicalFunction name formals) = stuck_ended
    statement_ended here k stmt.ImplicitNone = stuck_ended
    statement_ended here k (stmt.Integer ds) = stuck_ended
    statement_ended here k (stmt.Logical ds) = stuck_ended
    statement_ended here k (stmt.Dimension ds) = stuck_ended
    statement_ended here k (stmt.Parameter ds) = stuck_ended
    statement_ended here k (stmt.Inport t ds) = stuck_ended
    statement_ended here k (stmt.Outport t ds) = stuck_ended
    statement_ended here k (stmt.Intent way names) = stuck_ended
    statement_ended here k (stmt.Processors es) = stuck_ended

-- How long code is doesn't depend on where entries begin.

same_front : (xs ys zs : List Instr) → length ys ≡ length zs → length (xs ++ ys) ≡ length (xs ++ zs)
same_front xs ys zs e = length-append xs ys ∙ ap (λ n. length xs + n) e ∙ sym (length-append xs zs)

same_last : (xs : List Instr) (a b : Instr) → length (xs ++ a ∷ []) ≡ length (xs ++ b ∷ [])
same_last xs a b = same_front xs (a ∷ []) (b ∷ []) refl

same_second : (xs ys : List Instr) (a b : Instr) → length (xs ++ (ys ++ a ∷ [])) ≡ length (xs ++ (ys ++ b ∷ []))
same_second xs ys a b = same_front xs (ys ++ a ∷ []) (ys ++ b ∷ []) (same_last ys a b)

module _ (p : Program) (u : ProgramUnit) (a b : Addresses) where
  assigned_length : (o : Option (ℕ × Variable)) (ts : Trees) (value : List Instr) (n k : ℕ) → length (assigned_code p u o ts value n) ≡ length (assigned_code p u o ts value k)
  assigned_length None ts value n k = same_front value (first_store (variable_meant u None) n ∷ []) (first_store (variable_meant u None) k ∷ []) refl
  assigned_length (Some v) NoTrees value n k = same_front value (first_store (Some v.1) n ∷ []) (first_store (Some v.1) k ∷ []) refl
  assigned_length (Some v) (More t ts) value n k =
      let place = place_code v.1 (trees_count (More t ts)) (locate_code v.1.kind v.1.first) in
      let before = element_store v.1.kind n ∷ [] in
      let after = element_store v.1.kind k ∷ [] in
      same_front (expressions_code p u (More t ts) 0) (place ++ (value ++ before)) (place ++ (value ++ after)) (same_front place (value ++ before) (value ++ after) (same_front value before after refl))

  again_length : (opener : ℕ) (q : Loop) (i o s j l t : ℕ) → length (again_code u opener q i o s) ≡ length (again_code u opener q j l t)
  again_length opener (Counted name) i o s j l t = refl
  again_length opener While i o s j l t = refl
  again_length opener NoLoop i o s j l t = refl

  end_length : (n k opener : ℕ) (o : Option Entry) → length (end_code u a n opener o) ≡ length (end_code u b k opener o)
  end_length n k opener None = refl
  end_length n k opener (Some o) = again_length opener (loop_of o.stmt) (a o.after) n (a opener) (b o.after) k (b opener)

  loop_end_length : (n k : ℕ) (o : Option ℕ) → length (loop_end_code u a n o) ≡ length (loop_end_code u b k o)
  loop_end_length n k None = refl
  loop_end_length n k (Some opener) = end_length n k opener (slice_get u.tree.body opener)

  jump_length : (o : Option ℕ) → length (jump_code a o) ≡ length (jump_code b o)
  jump_length None = refl
  jump_length (Some k) = refl

  call_length : (o : Option (ℕ × ProgramUnit)) (args : Trees) (n k : ℕ) → length (call_by p u o args n) ≡ length (call_by p u o args k)
  call_length None args n k = refl
  call_length (Some callee) args n k = same_last (arguments_code p u args 0) (instr.End (end.Call callee.0 n)) (instr.End (end.Call callee.0 k))

  start_length : (o : Option (ℕ × ProgramUnit)) (part : Option CallPart) (n k : ℕ) → length (start_by p u o part n) ≡ length (start_by p u o part k)
  start_length None part n k = refl
  start_length (Some callee) part n k =
      let args = trees_from (arguments_in part) in
      same_second (arguments_code p u args 0) (seat_code p u (where_in part) (refs_in_all (names_in p u) args)) (instr.End (end.Start callee.0 n)) (instr.End (end.Start callee.0 k))

  send_length : (q : Var) (items : Trees) (n k : ℕ) → length (send_code p u q items n) ≡ length (send_code p u q items k)
  send_length q items n k =
      let sent = arguments_code p u items (refs_in_var (names_in p u) q) in
      let cuts = cuts_code 0 (fields_at u q) in
      same_front (var_code p u q 0) (sent ++ (cuts ++ instr.Meet (meet.Send n) ∷ [])) (sent ++ (cuts ++ instr.Meet (meet.Send k) ∷ [])) (same_second sent cuts (instr.Meet (meet.Send n)) (instr.Meet (meet.Send k)))

  receive_length : (q : Var) (extras : List Extra) (items : List Var) (c d : Option ℕ) (n k : ℕ) → length (receive_code p u q extras items c n) ≡ length (receive_code p u q extras items d k)
  receive_length q extras items c d n k =
      let s = names_in p u in
      let more = extras_code p u extras (refs_in_var s q) in
      let got = targets_code p u items (refs_behind s extras (refs_in_var s q)) in
      same_front (var_code p u q 0) (more ++ (got ++ receive_end c n ∷ [])) (more ++ (got ++ receive_end d k ∷ [])) (same_second more got (receive_end c n) (receive_end d k))

  channel_length : (in_first : Bool) (i o : Var) (n k : ℕ) → length (channel_code p u in_first i o n) ≡ length (channel_code p u in_first i o k)
  channel_length true i o n k = same_second (var_code p u i 0) (var_code p u o (refs_in_var (names_in p u) i)) (instr.Meet (meet.Channel n)) (instr.Meet (meet.Channel k))
  channel_length false i o n k = same_second (var_code p u o 0) (var_code p u i (refs_in_var (names_in p u) o)) (instr.Meet (meet.ChannelFrom n)) (instr.Meet (meet.ChannelFrom k))

  simple_length : (e : Point) (s : Simple) → length (simple_code p u a e s) ≡ length (simple_code p u b e s)
  simple_length e (simple.Assignment v t) = assigned_length (variable_of u v.name) (trees_from v.subscripts) (expression_code p u t (refs_in_var (names_in p u) v)) (a e.entry.after) (b e.entry.after)
  simple_length e (simple.Goto l) = jump_length e.links.jump
  simple_length e simple.Continue = refl
  simple_length e simple.Return = refl
  simple_length e simple.Stop = refl
  simple_length e (simple.Call name args) = call_length (unit_named p name) (trees_in args) (a e.entry.after) (b e.entry.after)
  simple_length e (simple.Print items) = same_front (items_code p u items 0) (instr.End (end.Print (a e.entry.after)) ∷ []) (instr.End (end.Print (b e.entry.after)) ∷ []) refl
  simple_length e (simple.Write unit items) = same_front (items_code p u items 0) (instr.End (end.Print (a e.entry.after)) ∷ []) (instr.End (end.Print (b e.entry.after)) ∷ []) refl
  simple_length e (simple.Channel in_first i o) = channel_length in_first i o (a e.entry.after) (b e.entry.after)
  simple_length e (simple.Merger i os) =
      same_second (var_code p u i 0) (targets_code p u os (refs_in_var (names_in p u) i)) (instr.Meet (meet.Merger (a e.entry.after))) (instr.Meet (meet.Merger (b e.entry.after)))
  simple_length e (simple.Send named q items) = send_length q (trees_from items) (a e.entry.after) (b e.entry.after)
  simple_length e (simple.Receive named q extras items) =
      receive_length q extras items (option_map a e.links.jump) (option_map b e.links.jump) (a e.entry.after) (b e.entry.after)
  simple_length e (simple.EndChannel named q) = same_last (var_code p u q 0) (instr.Meet (meet.EndChannel (a e.entry.after))) (instr.Meet (meet.EndChannel (b e.entry.after)))
  simple_length e (simple.MovePort from to) =
      same_second (var_code p u from 0) (var_code p u to (refs_in_var (names_in p u) from)) (instr.Meet (meet.MovePort (a e.entry.after))) (instr.Meet (meet.MovePort (b e.entry.after)))
  simple_length e (simple.Probe named q empty) =
      same_second (var_code p u q 0) (var_code p u empty (refs_in_var (names_in p u) q)) (instr.Meet (meet.Probe (a e.entry.after))) (instr.Meet (meet.Probe (b e.entry.after)))

  test_length : (e : Point) (before : List Instr) → length (before ++ instr.End (end.Test (a e.entry.after) (a e.links.other)) ∷ []) ≡ length (before ++ instr.End (end.Test (b e.entry.after) (b e.links.other)) ∷ [])
  test_length e before = same_front before (instr.End (end.Test (a e.entry.after) (a e.links.other)) ∷ []) (instr.End (end.Test (b e.entry.after) (b e.links.other)) ∷ []) refl

  enter_length : (e : Point) (h : LoopHead) (n : ℕ) → length (do_code p u h n (a e.entry.after) (a e.links.other)) ≡ length (do_code p u h n (b e.entry.after) (b e.links.other))
  enter_length e h n = same_front (bounds_code p u h) (loop_code u n h.variable ∷ instr.End (end.Enter (a e.entry.after) (a e.links.other)) ∷ []) (loop_code u n h.variable ∷ instr.End (end.Enter (b e.entry.after) (b e.links.other)) ∷ []) refl

  statement_length : (m n k : ℕ) (e : Point) (s : Stmt) → length (statement_code p u a m k e s) ≡ length (statement_code p u b n k e s)
  statement_length m n k e (stmt.Simple s) = simple_length e s
  statement_length m n k e (stmt.LogicalIf t s) = test_length e (expression_code p u t 0)
  statement_length m n k e (stmt.BlockIf t) = test_length e (expression_code p u t 0)
  statement_length m n k e (stmt.ElseIf t) = test_length e (expression_code p u t 0)
  statement_length m n k e stmt.Else = refl
  statement_length m n k e stmt.EndIf = refl
  statement_length m n k e (stmt.Do h) = enter_length e h (loop_number u.tree.body k)
  statement_length m n k e (stmt.ProcessDo h) = enter_length e h (loop_number u.tree.body k)
  statement_length m n k e (stmt.DoWhile t) = test_length e (expression_code p u t 0)
  statement_length m n k e stmt.EndDo = loop_end_length (a e.entry.after) (b e.entry.after) e.entry.mate
  statement_length m n k e stmt.EndProcessDo = loop_end_length (a e.entry.after) (b e.entry.after) e.entry.mate
  statement_length m n k e stmt.LoopEnd = loop_end_length (a e.entry.after) (b e.entry.after) e.entry.mate
  statement_length m n k e (stmt.ProcessCall name part) = start_length (unit_named p name) part (a e.entry.after) (b e.entry.after)
  statement_length m n k e s = refl

  entry_length : (k : ℕ) (o : Option Point) → length (entry_code p u a k o) ≡ length (entry_code p u b k o)
  entry_length k None = refl
  entry_length k (Some e) =
      let refs = e.entry.refs in
      let mine = a k + references_length p u e.entry (length refs) in
      let theirs = b k + references_length p u e.entry (length refs) in
      length-append (references_code p u e.entry.stmt (a k) 0 refs) (statement_code p u a mine k e e.entry.stmt)
      ∙ (λ i. references_same p u e.entry.stmt (a k) (b k) 0 refs i + statement_length mine theirs k e e.entry.stmt i)
      ∙ sym (length-append (references_code p u e.entry.stmt (b k) 0 refs) (statement_code p u b theirs k e e.entry.stmt))

  pub entries_length : (k : ℕ) → length (entries_code p u a k) ≡ length (entries_code p u b k)
  entries_length zero = refl
  entries_length (suc k) =
      length-append (entries_code p u a k) (entry_code p u a k (point_at u k))
      ∙ (λ i. entries_length k i + entry_length k (point_at u k) i)
      ∙ sym (length-append (entries_code p u b k) (entry_code p u b k (point_at u k)))

-- Tables.

snoc_left : (xs : List ℕ) (x k : ℕ) → k < length xs → slice_get (xs ++ x ∷ []) k ≡ slice_get xs k
snoc_left [] x k less = absurd (omega (arith, less))
snoc_left (y ∷ xs) x zero less = refl
snoc_left (y ∷ xs) x (suc k) less = snoc_left xs x k (omega (arith, less))

snoc_last : (xs : List ℕ) (x k : ℕ) → k ≡ length xs → slice_get (xs ++ x ∷ []) k ≡ Some x
snoc_last [] x zero e = refl
snoc_last [] x (suc k) e = absurd (omega (arith, e))
snoc_last (y ∷ xs) x zero e = absurd (omega (arith, e))
snoc_last (y ∷ xs) x (suc k) e = snoc_last xs x k (omega (arith, e))

module _ (p : Program) (u : ProgramUnit) where
  starts_length : (a : Addresses) (n : ℕ) → length (starts_of p u a n) ≡ n
  starts_length a zero = refl
  starts_length a (suc n) = let e = starts_length a n in omega (arith, e, length-append (starts_of p u a n) (length (entries_code p u a n) ∷ []))

  start_there : (a : Addresses) (n k : ℕ) → k < n → slice_get (starts_of p u a n) k ≡ Some (length (entries_code p u a k))
  start_there a zero k less = absurd (omega (arith, less))
  start_there a (suc n) k less = ⊎_elim
      (λ (l : k < n). snoc_left (starts_of p u a n) (length (entries_code p u a n)) k (omega (arith, l, starts_length a n)) ∙ start_there a n k l)
      (λ (l : n ≤ k).
      let same : n ≡ k = omega (arith, l, less) in
      snoc_last (starts_of p u a n) (length (entries_code p u a n)) k (omega (arith, same, starts_length a n)) ∙ ap (λ j. Some (length (entries_code p u a j))) same)
      (cases_lt k n)

  -- behind the last entry there is no more code
  no_point : (k : ℕ) → length u.tree.body ≤ k → point_at u k ≡ None
  no_point k le = ap (λ o. point_with o (slice_get (links_of u.tree.body) k)) (slice_get_past u.tree.body k le)

  end_there : (a : Addresses) (d k : ℕ) → k ≡ d + length u.tree.body → entries_code p u a k ≡ entries_code p u a (length u.tree.body)
  end_there a zero k e = let same : k ≡ length u.tree.body = omega (arith, e) in ap (entries_code p u a) same
  end_there a (suc d) k e =
      let before : k ≡ suc (d + length u.tree.body) = omega (arith, e) in
      ap (entries_code p u a) before
      ∙ ap (λ o. entries_code p u a (d + length u.tree.body) ++ entry_code p u a (d + length u.tree.body) o) (no_point (d + length u.tree.body) (omega arith))
      ∙ append-nil (entries_code p u a (d + length u.tree.body))
      ∙ end_there a d (d + length u.tree.body) refl

  table_at : (a : Addresses) (k : ℕ) → address_in (starts_of p u a (length u.tree.body)) (length (entries_code p u a (length u.tree.body))) k ≡ length (entries_code p u a k)
  table_at a k = ⊎_elim
      (λ (l : k < length u.tree.body). ap (λ o. unwrap_or o (length (entries_code p u a (length u.tree.body)))) (start_there a (length u.tree.body) k l))
      (λ (l : length u.tree.body ≤ k).
      let past : length (starts_of p u a (length u.tree.body)) ≤ k = omega (arith, l, starts_length a (length u.tree.body)) in
      ap (λ o. unwrap_or o (length (entries_code p u a (length u.tree.body)))) (slice_get_past (starts_of p u a (length u.tree.body)) k past)
      ∙ ap length (sym (end_there a (k - length u.tree.body) k (omega (arith, l)))))
      (cases_lt k (length u.tree.body))

  abbrev unplaced : Addresses
  unplaced j = 0

  nowhere : address_in [] 0 ≡ unplaced
  nowhere = λ i. λ k. here k i
    where
      here : (k : ℕ) → address_in [] 0 k ≡ unplaced k
      here zero = refl
      here (suc k) = refl

  -- the table of a first pass tells where entries begin
  table_is : (a : Addresses) → a ≡ address_in [] 0 → address_in (starts_of p u a (length u.tree.body)) (length (entries_code p u a (length u.tree.body))) ≡ address_of p u
  table_is a e = (λ i. λ k. table_at a k i) ∙ (λ i. λ k. length (entries_code p u ((e ∙ nowhere) i) k))

  pub second_pass : (a b : Addresses) (code : List Instr) (starts : List ℕ) → a ≡ address_in [] 0 → code ≡ entries_code p u a (length u.tree.body) → starts ≡ starts_of p u a (length u.tree.body)
      → b ≡ address_in starts (length code) → b ≡ address_of p u
  second_pass a b code starts none c s e = e ∙ (λ i. address_in (s i) (length (c i))) ∙ table_is a none

  -- what stands at an entry's address
  pub standing : (a : Addresses) (n k : ℕ) → k < n → (rest : List Instr) × (entries_code p u a n ≡ entries_code p u a k ++ (entry_code p u a k (point_at u k) ++ rest))
  standing a zero k less = absurd (omega (arith, less))
  standing a (suc n) k less = ⊎_elim
      (λ (l : k < n).
      let before = standing a n k l in
      let more = entry_code p u a n (point_at u n) in
      let found : entries_code p u a n ++ more ≡ entries_code p u a k ++ (entry_code p u a k (point_at u k) ++ (before.0 ++ more)) =
      ap (λ c. c ++ more) before.1
      ∙ append_assoc (entries_code p u a k) (entry_code p u a k (point_at u k) ++ before.0) more
      ∙ ap (λ c. entries_code p u a k ++ c) (append_assoc (entry_code p u a k (point_at u k)) before.0 more) in
      (before.0 ++ more, found))
      (λ (l : n ≤ k).
      let same : n ≡ k = omega (arith, l, less) in
      let found : entries_code p u a (suc n) ≡ entries_code p u a k ++ (entry_code p u a k (point_at u k) ++ []) =
      ap (λ j. entries_code p u a j ++ entry_code p u a j (point_at u j)) same ∙ ap (λ c. entries_code p u a k ++ c) (sym (append-nil (entry_code p u a k (point_at u k)))) in
      ([], found))
      (cases_lt k n)

  pub stands_at : (k : ℕ) → k < length u.tree.body → (rest : List Instr) × (drop (address_of p u k) (unit_code p u) ≡ entry_code p u (address_of p u) k (point_at u k) ++ rest)
  stands_at k less =
      let a = address_of p u in
      let found = standing a (length u.tree.body) k less in
      let front = entries_code p u a k in
      let where_it_is : address_of p u k ≡ length front = entries_length p u (λ j. 0) a k in
      let there : drop (address_of p u k) (unit_code p u) ≡ entry_code p u a k (point_at u k) ++ found.0 =
      (λ i. drop (where_it_is i) (found.1 i)) ∙ drop-append_seam front (entry_code p u a k (point_at u k) ++ found.0) in
      (found.0, there)

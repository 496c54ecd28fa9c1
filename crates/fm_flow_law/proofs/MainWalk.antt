-- What the PROGRAM's process does next, where its statements are the simple ones: references open frames of FUNCTIONs over its
-- own, which change nothing of it but the results; its own frame goes from entry to entry.
use Rattle.std.proofs.Common.{◌≡◌, ℕ, ℤ, pos, Bool, true, false, cond, Option, Some, None, List, [], ◌∷◌, length, slice_get, Result, Ok, Err, refl, ap, sym, subst, ◌∙◌}
use Rattle.std.specs.Ordering.{int_eq}
use Rattle.std.specs.FinMap as finite
use Rattle.fm_base.specs.declared.fault.Fault.{Fault}
use Rattle.fm_base.specs.declared.fault.Fault.TheVariants.{ZeroDivide}
use Rattle.fm_base.specs.declared.output.Printed.{Printed}
use Rattle.fm_base.specs.declared.port.PortValue.{PortValue}
use Rattle.fm_values.specs.Values.{sum}
use Rattle.fm_values.specs.declared.value.Value.{Value}
use Rattle.fm_values.specs.declared.intrinsic.Intrinsic.{Intrinsic}
use Rattle.fm_values.specs.Intrinsics.{intrinsic_named}
use Rattle.fm_tree.specs.Tree.{Tree, Number, Truth, Named, Ref, Paren, Signed, Not, Binary}
use Rattle.fm_tree.specs.declared.form.UnitKind.{UnitKind}
use Rattle.fm_tree.specs.declared.form.UnitKind.TheVariants as unit_kind
use Rattle.fm_tree.specs.declared.program_unit.Entry.{Entry}
use Rattle.fm_tree.specs.declared.statement.CallPart.{CallPart}
use Rattle.fm_tree.specs.declared.statement.Var.{Var}
use Rattle.fm_tree.specs.declared.statement.Simple.{Simple}
use Rattle.fm_tree.specs.declared.statement.Simple.TheVariants as simple
use Rattle.fm_tree.specs.declared.statement.Stmt.{Stmt}
use Rattle.fm_tree.specs.declared.statement.Stmt.TheVariants as stmt
use Rattle.fm_symbols.specs.Headings.{is_function}
use Rattle.fm_symbols.specs.declared.names.Variable.{Variable}
use Rattle.fm_rules.specs.declared.program.Program.{Program}
use Rattle.fm_rules.specs.Links.{links_of}
use Rattle.fm_rules.specs.TypeStatements.{is_barred, is_barred_simple}
use Rattle.fm_mean.specs.Names.{ProgramUnit, Point, unit_at, unit_named, kind_of, variable_of, point_at, line_of}
use Rattle.fm_mean.specs.declared.place.Actual.{Actual}
use Rattle.fm_mean.specs.declared.place.Span.{Span}
use Rattle.fm_mean.specs.Places.{word_at, written}
use Rattle.fm_mean.specs.Evaluate.{Scope, Reference, Element, Call, Built, Unknown, function_by, intrinsic_or, is_array, array_or, reference_of}
use Rattle.fm_mean.specs.Process.{Frame, Execution, Proc}
use Rattle.fm_mean.specs.Calls.{entered}
use Rattle.fm_mean.specs.Actions as action
use Rattle.fm_mean.specs.Actions.{Event, Fail, Begin, End, Action, Rest, Own, Meets, Loop, Counted, While, NoLoop, at_entry, scalar_place, scope_of, arguments_in, where_in, channel_places}
use Rattle.fm_mean.proofs.Determined.{point_entry, reference_is}
use Rattle.fm_mean.proofs.Sorts.{named_at}
use Rattle.fm_flow_law.specs.Flow.{is_simple}

-- ---- FUNCTIONs

function_kind : (o : Option (ℕ × ProgramUnit)) (n : ℕ) (c : ProgramUnit) → function_by o ≡ Call n c → is_function (kind_of c) ≡ true
function_kind None n c e = absurd (cc e)
function_kind (Some v) n c e = go (is_function (kind_of v.1)) refl e
  where
    go : (b : Bool) → is_function (kind_of v.1) ≡ b → cond b (Call v.0 v.1) Unknown ≡ Call n c → is_function (kind_of c) ≡ true
    go true is e' = let same : v.1 ≡ c = cc e' in ap (λ (w : ProgramUnit). is_function (kind_of w)) (sym same) ∙ is
    go false is e' = absurd (cc e')

intrinsic_kind : (i : Option Intrinsic) (other : Reference) (n : ℕ) (c : ProgramUnit) → intrinsic_or i other ≡ Call n c → other ≡ Call n c
intrinsic_kind None other n c e = e
intrinsic_kind (Some i) other n c e = absurd (cc e)

array_kind : (v : Option (ℕ × Variable)) (other : Reference) (n : ℕ) (c : ProgramUnit) → array_or v other ≡ Call n c → other ≡ Call n c
array_kind None other n c e = e
array_kind (Some v) other n c e = go (is_array v.1.bounds) e
  where
    go : (b : Bool) → cond b (Element v.0 v.1) other ≡ Call n c → other ≡ Call n c
    go true e' = absurd (cc e')
    go false e' = e'

-- a reference is to a FUNCTION
pub reference_function : (s : Scope) (name : List ℕ) (n : ℕ) (c : ProgramUnit) → reference_of s name ≡ Call n c → is_function (kind_of c) ≡ true
reference_function s name n c e =
    let f = function_by (unit_named s.program name) in
    function_kind (unit_named s.program name) n c (intrinsic_kind (intrinsic_named name) f n c (array_kind (variable_of s.unit name) (intrinsic_or (intrinsic_named name) f) n c e))

-- a frame of a FUNCTION
pub record IsFunctionFrame (p : Program) (f : Frame) : Type 0 where
  pub unit : ProgramUnit
  pub here : unit_at p f.unit ≡ Some unit
  pub kind : is_function (kind_of unit) ≡ true

-- frames of FUNCTIONs over one with this fact
abbrev pub Over : Program → (Frame → Type 0) → List Frame → Type 0
Over p G [] = ⊥
Over p G (f ∷ []) = G f
Over p G (f ∷ g ∷ fs) = IsFunctionFrame p f × Over p G (g ∷ fs)

-- statements that change values at most
unfoldable pub passes : Stmt → Bool
passes (stmt.Simple (simple.Assignment v t)) = true
passes (stmt.Simple (simple.Print items)) = true
passes (stmt.Simple (simple.Write unit items)) = true
passes (stmt.Simple simple.Continue) = true
passes stmt.Processes = true
passes s = false

-- no statement of a FUNCTION is one that FUNCTIONs may not have
abbrev pub AreCalm : Program → Type 0
AreCalm p = (n : ℕ) (c : ProgramUnit) → unit_at p n ≡ Some c → is_function (kind_of c) ≡ true → (k : ℕ) (e : Entry) → slice_get c.tree.body k ≡ Some e → is_barred e.stmt ≡ false

-- each statement of the unit is a simple one
abbrev pub AreSimple : ProgramUnit → Type 0
AreSimple u = (k : ℕ) (e : Entry) → slice_get u.tree.body k ≡ Some e → is_simple e.stmt ≡ true

never : true ≡ false → ⊥
never e = absurd (cc)

module _ (p : Program) (m : ℕ) (u : ProgramUnit) (G : Frame → Type 0) where
  -- what the fact of main's frame has to allow
  pub record Allows : Type 0 where
    pub unit : (g : Frame) → G g → g.unit ≡ m
    pub results : (g : Frame) (rs : List ℤ) → G g → G (record g { results = rs })
    pub enters : (g : Frame) (c : ProgramUnit) (args : List Actual) → G g → G (record g { values = (entered c g.values args).mine })
    pub goes : (g : Frame) (e : Point) → point_at u g.entry ≡ Some e → passes e.entry.stmt ≡ true → G g → G (at_entry g e.entry.after)
    pub writes : (g : Frame) (e : Point) (s : Span) (ns : List ℤ) → point_at u g.entry ≡ Some e → passes e.entry.stmt ≡ true → G g → G (at_entry (record g { values = written g.values s ns }) e.entry.after)

  -- what is to be shown of each action of the process
  pub record Shows (x : Proc) (T : Action → Type 0) : Type 0 where
    pub rest : T Rest
    pub own : (w : Execution) (lines : List (List ℕ)) (drops : List PortValue) (cost : ℕ) → Over p G w.frames → T (Own w lines drops cost)
    pub fails : (line : ℕ) (fault : Fault) → T (Meets (Fail line fault))
    pub ends : T (Meets End)
    pub makes : (g : Frame) (e : Point) (in_first : Bool) (i o : Var) → x.execution.frames ≡ g ∷ [] → G g → point_at u g.entry ≡ Some e → e.entry.stmt ≡ stmt.Simple (simple.Channel in_first i o)
        → T (action.makes e (channel_places (scope_of p u g) in_first i o))
    pub pends : (g : Frame) (e : Point) (name : List ℕ) (part : Option CallPart) → x.execution.frames ≡ g ∷ [] → G g → point_at u g.entry ≡ Some e → e.entry.stmt ≡ stmt.ProcessCall name part
        → T (action.process_calls x.execution (scope_of p u g) e g [] (unit_named p name) (arguments_in part) (where_in part))
    pub begins : (g : Frame) (e : Point) → x.execution.frames ≡ g ∷ [] → G g → point_at u g.entry ≡ Some e → e.entry.stmt ≡ stmt.EndProcesses → T (Meets Begin)

  module _ (here : unit_at p m ≡ Some u) (heads : kind_of u ≡ unit_kind.Program) (calm : AreCalm p) (simple_all : AreSimple u) (allows : Allows) (x : Proc) (T : Action → Type 0) (shows : Shows x T) where
    with_results : (g : Frame) (below : List Frame) (rs : List ℤ) → Over p G (g ∷ below) → Over p G (record g { results = rs } ∷ below)
    with_results g [] rs h = allows.results g rs h
    with_results g (d ∷ below) rs h = (record { unit = h.0.unit; here = h.0.here; kind = h.0.kind }, h.1)

    fails : (line : ℕ) (fault : Fault) → T (action.fails line fault)
    fails line fault = shows.fails line fault

    -- a reference opens a frame over this one
    refers : (s : Scope) (line : ℕ) (name : List ℕ) (f : Frame) (below : List Frame) → s.program ≡ p → (g : Reference) → reference_of s name ≡ g → (args : Result (List Actual) Fault)
        → ((c : ProgramUnit) (actuals : List Actual) → Over p G (record f { values = (entered c f.values actuals).mine } ∷ below)) → T (action.refers x.execution line f below g args)
    refers s line name f below same (Element i v) is args h = shows.rest
    refers s line name f below same (Built g) is args h = shows.rest
    refers s line name f below same Unknown is args h = shows.rest
    refers s line name f below same (Call n c) is (Err fault) h = fails line fault
    refers s line name f below same (Call n c) is (Ok actuals) h =
        let named : unit_named p name ≡ Some (n, c) = subst (λ (q : Program). unit_named q name ≡ Some (n, c)) same (reference_is s name n c is) in
        shows.own _ [] _ _ (record { unit = c; here = named_at p name n c named; kind = reference_function s name n c is }, h c actuals)

    -- ---- in a FUNCTION

    module _ (f g : Frame) (below : List Frame) (at : x.execution.frames ≡ f ∷ g ∷ below) (top : IsFunctionFrame p f) (over : Over p G (g ∷ below)) where
      stays : (f2 : Frame) → f2.unit ≡ f.unit → Over p G (f2 ∷ g ∷ below)
      stays f2 same = (record { unit = top.unit; here = ap (unit_at p) same ∙ top.here; kind = top.kind }, over)

      moves_to : (n : ℕ) → T (action.goes_to x.execution (g ∷ below) f n)
      moves_to n = shows.own _ [] [] 1 (stays (at_entry f n) refl)

      jumps : (n : Option ℕ) → T (action.jumps x.execution (g ∷ below) f n)
      jumps None = shows.rest
      jumps (Some n) = moves_to n

      assigns : (e : Point) (s : Result Span Fault) (v : Result Value Fault) → T (action.assigns x.execution e f (g ∷ below) s v)
      assigns e (Err fault) v = fails (line_of e) fault
      assigns e (Ok s) (Err fault) = fails (line_of e) fault
      assigns e (Ok s) (Ok v) = shows.own _ [] [] 1 (stays _ refl)

      tests : (e : Point) (v : Result Value Fault) → T (action.tests x.execution e f (g ∷ below) v)
      tests e (Err fault) = fails (line_of e) fault
      tests e (Ok v) = moves_to _

      enters_loop : (b : Bool) (e : Point) (w : Execution) → Over p G w.frames → T (cond b (action.fails (line_of e) ZeroDivide) (Own w [] [] 1))
      enters_loop true e w h = fails (line_of e) ZeroDivide
      enters_loop false e w h = shows.own w [] [] 1 h

      loops : (e : Point) (s : Span) (b : Result (ℤ × ℤ × ℤ) Fault) → T (action.loops x.execution e f (g ∷ below) s b)
      loops e s (Err fault) = fails (line_of e) fault
      loops e s (Ok b) = enters_loop (int_eq b.2 (pos 0)) e _ (stays _ refl)

      adds : (e : Point) (opener body : ℕ) (s : Span) (count : ℕ) (by : ℤ) (v : Result ℤ Fault) → T (action.adds x.execution e f (g ∷ below) opener body s count by v)
      adds e opener body s count by (Err fault) = fails (line_of e) fault
      adds e opener body s count by (Ok n) = shows.own _ [] [] 1 (stays _ refl)

      trips : (e : Point) (opener body : ℕ) (s : Span) (l : Option (ℕ × ℤ)) → T (action.loop_trips x.execution e f (g ∷ below) opener body s l)
      trips e opener body s None = moves_to e.entry.after
      trips e opener body s (Some l) = adds e opener body s l.0 l.1 (sum (word_at f.values s) l.1)

      ends_loop : (c : ProgramUnit) (e : Point) (opener body : ℕ) (l : Loop) → T (action.ends_loop x.execution c e f (g ∷ below) opener body l)
      ends_loop c e opener body (Counted name) = trips e opener body (scalar_place (variable_of c name)) (finite.get f.loops opener)
      ends_loop c e opener body While = moves_to opener
      ends_loop c e opener body NoLoop = shows.rest

      end_by : (c : ProgramUnit) (e : Point) (opener : ℕ) (o : Option Entry) → T (action.end_by x.execution c e f (g ∷ below) opener o)
      end_by c e opener None = shows.rest
      end_by c e opener (Some o) = ends_loop c e opener o.after (action.loop_of o.stmt)

      end_of : (c : ProgramUnit) (e : Point) (o : Option ℕ) → T (action.end_of x.execution c e f (g ∷ below) o)
      end_of c e None = shows.rest
      end_of c e (Some o) = end_by c e o (slice_get c.tree.body o)

      results_in : (c : ProgramUnit) → T (action.results_in x.execution c f (g ∷ below))
      results_in c = shows.own _ [] _ 1 (with_results g below _ over)

      returns : (c : ProgramUnit) (k : UnitKind) → k ≡ unit_kind.Function → T (action.returns x.execution c f (g ∷ below) k)
      returns c k is = subst (λ (k : UnitKind). T (action.returns x.execution c f (g ∷ below) k)) (sym is) (results_in c)

      function_is : (k : UnitKind) → is_function k ≡ true → k ≡ unit_kind.Function
      function_is unit_kind.Program e = absurd (cc e)
      function_is unit_kind.Process e = absurd (cc e)
      function_is unit_kind.Subroutine e = absurd (cc e)
      function_is unit_kind.Function e = refl

      module _ (c : ProgramUnit) (kind : is_function (kind_of c) ≡ true) (e : Point) where
        simple_here : (s : Scope) (k : Simple) → is_barred_simple k ≡ false → T (action.simple_action p x.execution c e f (g ∷ below) s k)
        unfolding is_barred_simple
        simple_here s (simple.Assignment v t) h = assigns e _ _
        simple_here s (simple.Goto l) h = jumps e.links.jump
        simple_here s simple.Continue h = moves_to e.entry.after
        simple_here s simple.Return h = returns c (kind_of c) (function_is (kind_of c) kind)
        simple_here s simple.Stop h = absurd (never h)
        simple_here s (simple.Call name args) h = absurd (never h)
        simple_here s (simple.Print items) h = absurd (never h)
        simple_here s (simple.Write unit items) h = absurd (never h)
        simple_here s (simple.Channel in_first i o) h = absurd (never h)
        simple_here s (simple.Merger i os) h = absurd (never h)
        simple_here s (simple.Send named q items) h = absurd (never h)
        simple_here s (simple.Receive named q extras items) h = absurd (never h)
        simple_here s (simple.EndChannel named q) h = absurd (never h)
        simple_here s (simple.MovePort from to) h = absurd (never h)
        simple_here s (simple.Probe named q empty) h = absurd (never h)

        statement_here : (s : Scope) (k : Stmt) → is_barred k ≡ false → T (action.statement_action p x.execution c e f (g ∷ below) s k)
        unfolding is_barred
        statement_here s (stmt.Simple k) h = simple_here s k h
        statement_here s (stmt.LogicalIf t k) h = tests e _
        statement_here s (stmt.BlockIf t) h = tests e _
        statement_here s (stmt.ElseIf t) h = tests e _
        statement_here s stmt.Else h = moves_to e.entry.after
        statement_here s stmt.EndIf h = moves_to e.entry.after
        statement_here s (stmt.Do d) h = loops e (scalar_place (variable_of c d.variable)) (action.loop_bounds s d)
        statement_here s (stmt.ProcessDo d) h = absurd (never h)
        statement_here s (stmt.DoWhile t) h = tests e _
        statement_here s stmt.EndDo h = end_of c e e.entry.mate
        statement_here s stmt.EndProcessDo h = absurd (never h)
        statement_here s stmt.LoopEnd h = end_of c e e.entry.mate
        statement_here s stmt.End h = returns c (kind_of c) (function_is (kind_of c) kind)
        statement_here s stmt.Processes h = absurd (never h)
        statement_here s stmt.EndProcesses h = absurd (never h)
        statement_here s (stmt.ProcessCall name part) h = absurd (never h)
        statement_here s (stmt.Program name) h = shows.rest
        statement_here s (stmt.Process name formals) h = shows.rest
        statement_here s (stmt.Subroutine name formals) h = shows.rest
        statement_here s (stmt.Function name formals) h = shows.rest
        statement_here s (stmt.IntegerFunction name formals) h = shows.rest
        statement_here s (stmt.LogicalFunction name formals) h = shows.rest
        statement_here s stmt.ImplicitNone h = shows.rest
        statement_here s (stmt.Integer ds) h = shows.rest
        statement_here s (stmt.Logical ds) h = shows.rest
        statement_here s (stmt.Dimension ds) h = shows.rest
        statement_here s (stmt.Parameter ds) h = shows.rest
        statement_here s (stmt.Inport t ds) h = shows.rest
        statement_here s (stmt.Outport t ds) h = shows.rest
        statement_here s (stmt.Intent w names) h = shows.rest
        statement_here s (stmt.Processors es) h = shows.rest

        references : (t : Tree) → T (action.reference_step x.execution (line_of e) (scope_of p c f) f (g ∷ below) t)
        references (Ref name args) = refers (scope_of p c f) (line_of e) name f (g ∷ below) refl (reference_of (scope_of p c f) name) refl _ (λ d actuals. stays _ refl)
        references (Number k) = shows.rest
        references (Truth b) = shows.rest
        references (Named name) = shows.rest
        references (Paren t) = shows.rest
        references (Signed op t) = shows.rest
        references (Not t) = shows.rest
        references (Binary op a b) = shows.rest

        by_reference : is_barred e.entry.stmt ≡ false → (t : Option Tree) → T (action.action_by p x.execution c e f (g ∷ below) t)
        by_reference h (Some t) = references t
        by_reference h None = statement_here (scope_of p c f) e.entry.stmt h

      in_function : T (action.action_at p x.execution f (g ∷ below) (unit_at p f.unit))
      in_function =
          subst (λ (o : Option ProgramUnit). T (action.action_at p x.execution f (g ∷ below) o)) (sym top.here) (point_here (point_at top.unit f.entry) refl)
        where
          point_here : (o : Option Point) → point_at top.unit f.entry ≡ o → T (action.point_action p x.execution top.unit f (g ∷ below) o)
          point_here None is = shows.rest
          point_here (Some e) is =
              by_reference top.unit top.kind e
              (calm f.unit top.unit top.here top.kind f.entry e.entry (point_entry (slice_get top.unit.tree.body f.entry) (slice_get (links_of top.unit.tree.body) f.entry) e is))
              (action.next_reference e.entry (length f.results))

    -- ---- in main's own frame

    module _ (g : Frame) (at : x.execution.frames ≡ g ∷ []) (fact : G g) (e : Point) (there : point_at u g.entry ≡ Some e) where
      main_goes : passes e.entry.stmt ≡ true → T (action.goes_to x.execution [] g e.entry.after)
      main_goes h = shows.own _ [] [] 1 (allows.goes g e there h fact)

      main_assigns : passes e.entry.stmt ≡ true → (s : Result Span Fault) (v : Result Value Fault) → T (action.assigns x.execution e g [] s v)
      main_assigns h (Err fault) v = fails (line_of e) fault
      main_assigns h (Ok s) (Err fault) = fails (line_of e) fault
      main_assigns h (Ok s) (Ok v) = shows.own _ [] [] 1 (allows.writes g e s _ there h fact)

      main_prints : passes e.entry.stmt ≡ true → (v : Result (List Printed) Fault) → T (action.prints x.execution e g [] v)
      main_prints h (Err fault) = fails (line_of e) fault
      main_prints h (Ok items) = shows.own _ _ [] _ (allows.goes g e there h fact)

      main_returns : T (action.returns x.execution u g [] (kind_of u))
      main_returns = subst (λ (k : UnitKind). T (action.returns x.execution u g [] k)) (sym heads) shows.ends

      main_simple : (k : Simple) → e.entry.stmt ≡ stmt.Simple k → is_simple (stmt.Simple k) ≡ true → T (action.simple_action p x.execution u e g [] (scope_of p u g) k)
      unfolding is_simple passes
      main_simple (simple.Assignment v t) is h = main_assigns (ap passes is) _ _
      main_simple (simple.Goto l) is h = absurd (never (sym h))
      main_simple simple.Continue is h = main_goes (ap passes is)
      main_simple simple.Return is h = absurd (never (sym h))
      main_simple simple.Stop is h = shows.ends
      main_simple (simple.Call name args) is h = absurd (never (sym h))
      main_simple (simple.Print items) is h = main_prints (ap passes is) _
      main_simple (simple.Write unit items) is h = main_prints (ap passes is) _
      main_simple (simple.Channel in_first i o) is h = shows.makes g e in_first i o at fact there is
      main_simple (simple.Merger i os) is h = absurd (never (sym h))
      main_simple (simple.Send named q items) is h = absurd (never (sym h))
      main_simple (simple.Receive named q extras items) is h = absurd (never (sym h))
      main_simple (simple.EndChannel named q) is h = absurd (never (sym h))
      main_simple (simple.MovePort from to) is h = absurd (never (sym h))
      main_simple (simple.Probe named q empty) is h = absurd (never (sym h))

      main_statement : (k : Stmt) → e.entry.stmt ≡ k → is_simple k ≡ true → T (action.statement_action p x.execution u e g [] (scope_of p u g) k)
      unfolding is_simple passes
      main_statement (stmt.Simple k) is h = main_simple k is h
      main_statement stmt.End is h = main_returns
      main_statement stmt.Processes is h = main_goes (ap passes is)
      main_statement stmt.EndProcesses is h = shows.begins g e at fact there is
      main_statement (stmt.ProcessCall name part) is h = shows.pends g e name part at fact there is
      main_statement (stmt.LogicalIf t k) is h = absurd (never (sym h))
      main_statement (stmt.BlockIf t) is h = absurd (never (sym h))
      main_statement (stmt.ElseIf t) is h = absurd (never (sym h))
      main_statement stmt.Else is h = absurd (never (sym h))
      main_statement stmt.EndIf is h = absurd (never (sym h))
      main_statement (stmt.Do d) is h = absurd (never (sym h))
      main_statement (stmt.ProcessDo d) is h = absurd (never (sym h))
      main_statement (stmt.DoWhile t) is h = absurd (never (sym h))
      main_statement stmt.EndDo is h = absurd (never (sym h))
      main_statement stmt.EndProcessDo is h = absurd (never (sym h))
      main_statement stmt.LoopEnd is h = absurd (never (sym h))
      main_statement (stmt.Program name) is h = absurd (never (sym h))
      main_statement (stmt.Process name formals) is h = absurd (never (sym h))
      main_statement (stmt.Subroutine name formals) is h = absurd (never (sym h))
      main_statement (stmt.Function name formals) is h = absurd (never (sym h))
      main_statement (stmt.IntegerFunction name formals) is h = absurd (never (sym h))
      main_statement (stmt.LogicalFunction name formals) is h = absurd (never (sym h))
      main_statement stmt.ImplicitNone is h = absurd (never (sym h))
      main_statement (stmt.Integer ds) is h = absurd (never (sym h))
      main_statement (stmt.Logical ds) is h = absurd (never (sym h))
      main_statement (stmt.Dimension ds) is h = absurd (never (sym h))
      main_statement (stmt.Parameter ds) is h = absurd (never (sym h))
      main_statement (stmt.Inport t ds) is h = absurd (never (sym h))
      main_statement (stmt.Outport t ds) is h = absurd (never (sym h))
      main_statement (stmt.Intent w names) is h = absurd (never (sym h))
      main_statement (stmt.Processors es) is h = absurd (never (sym h))

      main_references : (t : Tree) → T (action.reference_step x.execution (line_of e) (scope_of p u g) g [] t)
      main_references (Ref name args) = refers (scope_of p u g) (line_of e) name g [] refl (reference_of (scope_of p u g) name) refl _ (λ d actuals. allows.enters g d actuals fact)
      main_references (Number k) = shows.rest
      main_references (Truth b) = shows.rest
      main_references (Named name) = shows.rest
      main_references (Paren t) = shows.rest
      main_references (Signed op t) = shows.rest
      main_references (Not t) = shows.rest
      main_references (Binary op a b) = shows.rest

      main_by : (t : Option Tree) → T (action.action_by p x.execution u e g [] t)
      main_by (Some t) = main_references t
      main_by None =
          main_statement e.entry.stmt refl (simple_all g.entry e.entry (point_entry (slice_get u.tree.body g.entry) (slice_get (links_of u.tree.body) g.entry) e there))

    in_main : (g : Frame) → x.execution.frames ≡ g ∷ [] → G g → T (action.action_at p x.execution g [] (unit_at p g.unit))
    in_main g at fact =
        subst (λ (o : Option ProgramUnit). T (action.action_at p x.execution g [] o)) (sym (ap (unit_at p) (allows.unit g fact) ∙ here)) (point_here (point_at u g.entry) refl)
      where
        point_here : (o : Option Point) → point_at u g.entry ≡ o → T (action.point_action p x.execution u g [] o)
        point_here None is = shows.rest
        point_here (Some e) is = main_by g at fact e is (action.next_reference e.entry (length g.results))

    -- what it does next
    pub walks : (fs : List Frame) → x.execution.frames ≡ fs → Over p G fs → T (action.running p x.execution fs)
    walks [] at over = absurd over
    walks (g ∷ []) at over = in_main g at over
    walks (f ∷ g ∷ below) at over = in_function f g below at over.0 over.1

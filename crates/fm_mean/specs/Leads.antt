-- Where the entries of a unit lead: each to an entry that is there, by what stands at it.
-- Source: this profile.
use Rattle.std.specs.Prelude.{◌≡◌, ℕ, Option, Some, slice_get}
use Rattle.fm_tree.specs.Tree.{Tree, Ref}
use Rattle.fm_tree.specs.declared.program_unit.Entry.{Entry}
use Rattle.fm_tree.specs.declared.statement.Simple.{Simple}
use Rattle.fm_tree.specs.declared.statement.Simple.TheVariants as simple
use Rattle.fm_tree.specs.declared.statement.Stmt.{Stmt}
use Rattle.fm_tree.specs.declared.statement.Stmt.TheVariants as stmt
use Rattle.fm_rules.specs.declared.program.Program.{Program}
use Rattle.fm_mean.specs.Names.{ProgramUnit, Point, unit_at, unit_named, point_at}
use Rattle.fm_mean.specs.Evaluate.{Scope, Call, reference_of}
use Rattle.fm_mean.specs.Process.{Frame}
use Rattle.fm_mean.specs.Actions.{Loop, Counted, While, NoLoop, loop_of, next_reference, scope_of}

-- a place of the unit
abbrev pub IsPoint : ProgramUnit → ℕ → Type 0
IsPoint u n = (d : Point) × (point_at u n ≡ Some d)

-- the unit of this number is there, and has a first entry
abbrev pub Begins : Program → ℕ → Type 0
Begins p n = (u : ProgramUnit) × (unit_at p n ≡ Some u) × IsPoint u 0

abbrev pub CallsOne : Program → Option (ℕ × ProgramUnit) → Type 0
CallsOne p o = (v : ℕ × ProgramUnit) × (o ≡ Some v) × Begins p v.0

abbrev pub JumpsTo : ProgramUnit → Option ℕ → Type 0
JumpsTo u o = (n : ℕ) → o ≡ Some n → IsPoint u n

abbrev pub SimpleLeads : Program → ProgramUnit → Point → Simple → Type 0
SimpleLeads p u e (simple.Goto l) = (n : ℕ) × (e.links.jump ≡ Some n) × IsPoint u n
SimpleLeads p u e simple.Return = Unit {0}
SimpleLeads p u e simple.Stop = Unit {0}
SimpleLeads p u e (simple.Call name args) = CallsOne p (unit_named p name) × IsPoint u e.entry.after
SimpleLeads p u e (simple.Receive named q extras items) = JumpsTo u e.links.jump × IsPoint u e.entry.after
SimpleLeads p u e (simple.Assignment v t) = IsPoint u e.entry.after
SimpleLeads p u e simple.Continue = IsPoint u e.entry.after
SimpleLeads p u e (simple.Print items) = IsPoint u e.entry.after
SimpleLeads p u e (simple.Write unit items) = IsPoint u e.entry.after
SimpleLeads p u e (simple.Channel in_first i o) = IsPoint u e.entry.after
SimpleLeads p u e (simple.Merger i os) = IsPoint u e.entry.after
SimpleLeads p u e (simple.Send named q items) = IsPoint u e.entry.after
SimpleLeads p u e (simple.EndChannel named q) = IsPoint u e.entry.after
SimpleLeads p u e (simple.MovePort from to) = IsPoint u e.entry.after
SimpleLeads p u e (simple.Probe named q empty) = IsPoint u e.entry.after

abbrev pub IsALoop : Loop → Type 0
IsALoop (Counted name) = Unit {0}
IsALoop While = Unit {0}
IsALoop NoLoop = ⊥

-- a loop end has its loop
pub record LoopLeads (u : ProgramUnit) (e : Point) : Type 0 where
  pub opener : ℕ
  pub opens : Entry
  pub mate : e.entry.mate ≡ Some opener
  pub there : slice_get u.tree.body opener ≡ Some opens
  pub loop : IsALoop (loop_of opens.stmt)
  pub again : IsPoint u opener
  pub inside : IsPoint u opens.after
  pub behind : IsPoint u e.entry.after

-- behind itself and elsewhere
abbrev pub Both : ProgramUnit → Point → Type 0
Both u e = IsPoint u e.entry.after × IsPoint u e.links.other

abbrev pub StatementLeads : Program → ProgramUnit → Point → Stmt → Type 0
StatementLeads p u e (stmt.Simple k) = SimpleLeads p u e k
StatementLeads p u e (stmt.LogicalIf t k) = Both u e
StatementLeads p u e (stmt.BlockIf t) = Both u e
StatementLeads p u e (stmt.ElseIf t) = Both u e
StatementLeads p u e stmt.Else = IsPoint u e.entry.after
StatementLeads p u e stmt.EndIf = IsPoint u e.entry.after
StatementLeads p u e (stmt.Do h) = Both u e
StatementLeads p u e (stmt.ProcessDo h) = Both u e
StatementLeads p u e (stmt.DoWhile t) = Both u e
StatementLeads p u e stmt.EndDo = LoopLeads u e
StatementLeads p u e stmt.EndProcessDo = LoopLeads u e
StatementLeads p u e stmt.LoopEnd = LoopLeads u e
StatementLeads p u e stmt.End = Unit {0}
StatementLeads p u e stmt.Processes = IsPoint u e.entry.after
StatementLeads p u e stmt.EndProcesses = IsPoint u e.entry.after
StatementLeads p u e (stmt.ProcessCall name part) = CallsOne p (unit_named p name) × IsPoint u e.entry.after
StatementLeads p u e other = ⊥

abbrev pub ReferenceLeads : Program → Scope → Tree → Type 0
ReferenceLeads p s (Ref name args) = (n : ℕ) × (c : ProgramUnit) × (reference_of s name ≡ Call n c) × Begins p n
ReferenceLeads p s other = ⊥

pub record EntryLeads (p : Program) (u : ProgramUnit) (e : Point) : Type 0 where
  pub statement : StatementLeads p u e e.entry.stmt
  pub references : (n : ℕ) (t : Tree) (f : Frame) → next_reference e.entry n ≡ Some t → ReferenceLeads p (scope_of p u f) t

-- each entry of the program leads on
abbrev pub AllLead : Program → Type 0
AllLead p = (n : ℕ) (u : ProgramUnit) (k : ℕ) (e : Point) → unit_at p n ≡ Some u → point_at u k ≡ Some e → EntryLeads p u e

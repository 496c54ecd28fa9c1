-- The references of functions of an entry, in the order of evaluation, and their results; and what of these the evaluation of a
-- statement reads, by the numbers of the references.
-- Source: this profile.
use Rattle.std.specs.Prelude.{◌≡◌, ℕ, suc, ℤ, ◌+◌, Bool, true, false, Option, Some, None, List, [], ◌∷◌, slice_get}
use Rattle.fm_tree.specs.Tree.{Tree, trees_from}
use Rattle.fm_tree.specs.declared.statement.Var.{Var}
use Rattle.fm_tree.specs.declared.statement.LoopHead.{LoopHead}
use Rattle.fm_tree.specs.declared.statement.Item.{Item}
use Rattle.fm_tree.specs.declared.statement.Item.TheVariants as item
use Rattle.fm_tree.specs.declared.statement.Extra.{Extra}
use Rattle.fm_tree.specs.declared.statement.Extra.TheVariants as extra
use Rattle.fm_tree.specs.declared.statement.Where.{Where}
use Rattle.fm_tree.specs.declared.statement.Where.TheVariants as place
use Rattle.fm_tree.specs.declared.statement.Simple.{Simple}
use Rattle.fm_tree.specs.declared.statement.Simple.TheVariants as simple
use Rattle.fm_tree.specs.declared.statement.Stmt.{Stmt}
use Rattle.fm_tree.specs.declared.statement.Stmt.TheVariants as stmt
use Rattle.fm_rules.specs.declared.program.Program.{Program}
use Rattle.fm_mean.specs.Names.{ProgramUnit}
use Rattle.fm_mean.specs.Evaluate.{Scope, refs_in, refs_in_all, refs_in_var}
use Rattle.fm_mean.specs.Actions.{trees_in, arguments_in, where_in}
use Rattle.fm_gen_relation.specs.Standing.{AreDone, AreAllDone}
use Rattle.fm_gen_relation.specs.Frames.{IsResultAt}

-- the reference with this number has its result
abbrev pub HasItsResult : Program → ProgramUnit → List ℤ → Tree → (number : ℕ) → Type 0
HasItsResult p u results t n = (w : ℤ) × (slice_get results n ≡ Some w) × IsResultAt p u t w

-- so do all of these, the first of which has this number
abbrev pub DoneFrom : Program → ProgramUnit → List ℤ → List Tree → (number : ℕ) → Type 0
DoneFrom p u results [] n = Unit {0}
DoneFrom p u results (t ∷ ts) n = HasItsResult p u results t n × DoneFrom p u results ts (suc n)

-- The references of the parts of a statement have their results, where `n` of the entry's stand before them.

abbrev pub OptionDone : Scope → Option Tree → (n : ℕ) → Type 0
OptionDone s None n = Unit {0}
OptionDone s (Some t) n = AreDone s t n

abbrev pub VarDone : Scope → Var → (n : ℕ) → Type 0
VarDone s v n = AreAllDone s (trees_from v.subscripts) n

abbrev pub VarsDone : Scope → List Var → (n : ℕ) → Type 0
VarsDone s [] n = Unit {0}
VarsDone s (v ∷ vs) n = VarDone s v n × VarsDone s vs (n + refs_in_var s v)

abbrev pub ItemsDone : Scope → List Item → (n : ℕ) → Type 0
ItemsDone s [] n = Unit {0}
ItemsDone s (item.Constant bytes ∷ is) n = ItemsDone s is n
ItemsDone s (item.Expr e ∷ is) n = AreDone s e n × ItemsDone s is (n + refs_in s e)

abbrev pub refs_in_extras : Scope → List Extra → ℕ
refs_in_extras s [] = 0
refs_in_extras s (extra.End l ∷ es) = refs_in_extras s es
refs_in_extras s (extra.Iostat v ∷ es) = refs_in_var s v + refs_in_extras s es

abbrev pub ExtrasDone : Scope → List Extra → (n : ℕ) → Type 0
ExtrasDone s [] n = Unit {0}
ExtrasDone s (extra.End l ∷ es) n = ExtrasDone s es n
ExtrasDone s (extra.Iostat v ∷ es) n = VarDone s v n × ExtrasDone s es (n + refs_in_var s v)

abbrev pub WhereDone : Scope → Option Where → (n : ℕ) → Type 0
WhereDone s None n = Unit {0}
WhereDone s (Some (place.Location ks)) n = AreAllDone s (trees_from ks) n
WhereDone s (Some (place.Submachine a b)) n = AreDone s a n × AreDone s b (n + refs_in s a)

abbrev pub BoundsDone : Scope → LoopHead → Type 0
BoundsDone s h = AreDone s h.from 0 × AreDone s h.to (refs_in s h.from) × OptionDone s h.step (refs_in s h.from + refs_in s h.to)

abbrev pub PairDone : Scope → (first second : Var) → Type 0
PairDone s a b = VarDone s a 0 × VarDone s b (refs_in_var s a)

abbrev pub ChannelDone : Scope → (in_first : Bool) → (inport outport : Var) → Type 0
ChannelDone s true i o = PairDone s i o
ChannelDone s false i o = PairDone s o i

-- Those of a statement.

abbrev pub SimpleDone : Scope → Simple → Type 0
SimpleDone s (simple.Assignment v t) = VarDone s v 0 × AreDone s t (refs_in_var s v)
SimpleDone s (simple.Goto l) = Unit {0}
SimpleDone s simple.Continue = Unit {0}
SimpleDone s simple.Return = Unit {0}
SimpleDone s simple.Stop = Unit {0}
SimpleDone s (simple.Call name args) = AreAllDone s (trees_in args) 0
SimpleDone s (simple.Print items) = ItemsDone s items 0
SimpleDone s (simple.Write unit items) = ItemsDone s items 0
SimpleDone s (simple.Channel in_first i o) = ChannelDone s in_first i o
SimpleDone s (simple.Merger i os) = VarDone s i 0 × VarsDone s os (refs_in_var s i)
SimpleDone s (simple.Send named q items) = VarDone s q 0 × AreAllDone s (trees_from items) (refs_in_var s q)
SimpleDone s (simple.Receive named q extras items) =
    VarDone s q 0 × ExtrasDone s extras (refs_in_var s q) × VarsDone s items (refs_in_var s q + refs_in_extras s extras)
SimpleDone s (simple.EndChannel named q) = VarDone s q 0
SimpleDone s (simple.MovePort from to) = PairDone s from to
SimpleDone s (simple.Probe named q empty) = PairDone s q empty

-- a logical IF evaluates its test alone: what stands behind it is an entry of its own
abbrev pub StatementDone : Scope → Stmt → Type 0
StatementDone s (stmt.Simple k) = SimpleDone s k
StatementDone s (stmt.LogicalIf t k) = AreDone s t 0
StatementDone s (stmt.BlockIf t) = AreDone s t 0
StatementDone s (stmt.ElseIf t) = AreDone s t 0
StatementDone s (stmt.Do h) = BoundsDone s h
StatementDone s (stmt.DoWhile t) = AreDone s t 0
StatementDone s (stmt.ProcessCall name part) = AreAllDone s (trees_from (arguments_in part)) 0 × WhereDone s (where_in part) (refs_in_all s (trees_from (arguments_in part)))
StatementDone s (stmt.ProcessDo h) = BoundsDone s h
StatementDone s other = Unit {0}

-- Statements on channels.
-- Source: the Fortran M report.
use Rattle.fm_tree.specs.declared.statement.Simple.{Simple}
use Rattle.fm_tree.specs.declared.statement.Simple.TheVariants as simple

-- a statement on ports or channels
abbrev pub IsAsking : Simple → Type 0
IsAsking (simple.Assignment v t) = ⊥
IsAsking (simple.Goto l) = ⊥
IsAsking simple.Continue = ⊥
IsAsking simple.Return = ⊥
IsAsking simple.Stop = ⊥
IsAsking (simple.Call name args) = ⊥
IsAsking (simple.Print items) = ⊥
IsAsking (simple.Write unit items) = ⊥
IsAsking (simple.Channel in_first i o) = Unit {0}
IsAsking (simple.Merger i os) = Unit {0}
IsAsking (simple.Send named q items) = Unit {0}
IsAsking (simple.Receive named q extras items) = Unit {0}
IsAsking (simple.EndChannel named q) = Unit {0}
IsAsking (simple.MovePort from to) = Unit {0}
IsAsking (simple.Probe named q empty) = Unit {0}

-- What the names in statements on ports stand for in a checked program: ports and variables, where they are wanted.
-- Source: the Fortran M report (RECEIVE, ENDCHANNEL, MOVEPORT, PROBE).
use Rattle.std.specs.Prelude.{◌≡◌, ◌≤◌, Some}
use Rattle.fm_net.specs.Typed.{AllIn}
use Rattle.fm_tree.specs.PortFields.{PortFields, In}
use Rattle.fm_tree.specs.declared.statement.Var.{Var}
use Rattle.fm_tree.specs.declared.statement.Simple.{Simple}
use Rattle.fm_tree.specs.declared.statement.Simple.TheVariants as simple
use Rattle.fm_mean.specs.Names.{ProgramUnit}
use Rattle.fm_mean.specs.Typing.{sort_of}
use Rattle.fm_gen_relation.specs.Sound.{IsVariable, IsWord, IsPort, count_iostat}

-- what a statement that may stand behind a logical IF asks of its ports, its variables and its IOSTAT=
abbrev pub IsMeant : ProgramUnit → Simple → Type 0
IsMeant u (simple.Assignment v t) = Unit {0}
IsMeant u (simple.Goto l) = Unit {0}
IsMeant u simple.Continue = Unit {0}
IsMeant u simple.Return = Unit {0}
IsMeant u simple.Stop = Unit {0}
IsMeant u (simple.Call name args) = Unit {0}
IsMeant u (simple.Print items) = Unit {0}
IsMeant u (simple.Write unit items) = Unit {0}
IsMeant u (simple.Channel in_first i o) = Unit {0}
IsMeant u (simple.Merger i os) = Unit {0}
IsMeant u (simple.Send named q items) = Unit {0}
IsMeant u (simple.Receive named q extras items) = (count_iostat extras ≤ 1) × AllIn (λ (v : Var). IsVariable u v.name) items
IsMeant u (simple.EndChannel named q) = IsPort u q.name
IsMeant u (simple.MovePort from to) = IsPort u from.name × IsPort u to.name
IsMeant u (simple.Probe named q empty) = ((t : PortFields) × (sort_of u q.name ≡ Some (In t))) × IsWord u empty.name

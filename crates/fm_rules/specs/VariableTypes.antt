-- The judgement of variables: where a port or a target stands.
-- Source: ANSI X3.9-1978, sections 5.4 and 10; this profile for constants and FUNCTIONs as targets.
use Rattle.std.specs.Prelude.{Bool, true, false, if◌then◌else◌, Option, Some, None, List, [], ◌∷◌}
use Rattle.std.specs.FinMap.{get}
use Rattle.fm_tree.specs.Tree.{Tree, trees_from}
use Rattle.fm_tree.specs.declared.statement.Var.{Var}
use Rattle.fm_symbols.specs.declared.symbol.Symbol.{Symbol}
use Rattle.fm_symbols.specs.declared.symbol.Symbol.TheVariants as symbol
use Rattle.fm_symbols.specs.declared.context.Scope.{Scope}
use Rattle.fm_symbols.specs.declared.context.Context.{Context}
use Rattle.fm_symbols.specs.Context.{symbol_in}
use Rattle.fm_rules.specs.declared.typing.ExprType.{ExprType}
use Rattle.fm_rules.specs.declared.typing.ExprType.TheVariants.{Value, Array, Port, Ports, Nothing}
use Rattle.fm_rules.specs.declared.typing.Judgement.{Judgement}
use Rattle.fm_rules.specs.declared.typing.Referent.{Referent}
use Rattle.fm_rules.specs.declared.typing.Referent.TheVariants as referent
use Rattle.fm_rules.specs.declared.typing.Arguments.{Arguments}
use Rattle.fm_rules.specs.Flags.{e41, e44}
use Rattle.fm_rules.specs.Typing.{plain, result_of, symbol_type, with_flags}
use Rattle.fm_rules.specs.Expressions.{array_or, arguments_judged, reference_judged}

-- a name with subscripts where a variable is needed; one that is no array has wrong subscripts
abbrev pub subscripted : Context → Referent → Arguments → Judgement
subscripted c (referent.Element s n) a = reference_judged c (referent.Element s n) a
subscripted c (referent.PortElement place n) a = reference_judged c (referent.PortElement place n) a
subscripted c (referent.Intrinsic i) a = with_flags Nothing a.flags (e41 true)
subscripted c (referent.Unit k) a = with_flags Nothing a.flags (e41 true)
subscripted c referent.Unknown a = with_flags Nothing a.flags (e41 true)

abbrev pub element_of : Context → Scope → Var → Judgement
element_of c s v =
    subscripted c (array_or (get s.symbols v.name) referent.Unknown) (arguments_judged c s (array_or (get s.symbols v.name) referent.Unknown) 0 (trees_from v.subscripts))

abbrev pub is_bare : List Tree → Bool
is_bare [] = true
is_bare (e ∷ es) = false

-- a variable or an element, as one that holds a port
abbrev pub variable_judged : Context → Scope → Var → Judgement
variable_judged c s v = if is_bare v.subscripts then plain (symbol_type (symbol_in c s v.name)) else element_of c s v

-- a constant or another FUNCTION's name can't be changed
abbrev pub is_fixed : Option Symbol → Bool
is_fixed None = false
is_fixed (Some (symbol.Constant s)) = true
is_fixed (Some (symbol.Variable s place)) = false
is_fixed (Some (symbol.Array s place x)) = false
is_fixed (Some (symbol.Port d place)) = false
is_fixed (Some (symbol.Ports d place x)) = false
is_fixed (Some (symbol.Function k)) = true

-- as a target, the name of another FUNCTION has the type of its value
abbrev pub target_type : Context → Option Symbol → ExprType
target_type c None = Nothing
target_type c (Some (symbol.Constant s)) = Value s
target_type c (Some (symbol.Variable s place)) = Value s
target_type c (Some (symbol.Array s place x)) = Array s x.elements
target_type c (Some (symbol.Port d place)) = Port place
target_type c (Some (symbol.Ports d place x)) = Ports place
target_type c (Some (symbol.Function k)) = result_of c k

abbrev pub target_named : Context → Option Symbol → Judgement
target_named c o = record { expr_type = target_type c o; flags = e44 (is_fixed o) }

-- a variable or an element that is given a value
abbrev pub target_judged : Context → Scope → Var → Judgement
target_judged c s v = if is_bare v.subscripts then target_named c (symbol_in c s v.name) else element_of c s v

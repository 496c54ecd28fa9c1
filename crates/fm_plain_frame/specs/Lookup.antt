-- What names mean, as code looks it up.
-- Source: this profile.
use Rattle.std.specs.Prelude.{Bool, true, false, Option, Some, None}
use Rattle.fm_symbols.specs.declared.symbol.Symbol.{Symbol}
use Rattle.fm_symbols.specs.declared.symbol.Symbol.TheVariants as symbol

-- whether a name means a constant
abbrev pub is_constant : Option Symbol → Bool
is_constant None = false
is_constant (Some (symbol.Constant s)) = true
is_constant (Some (symbol.Variable s place)) = false
is_constant (Some (symbol.Array s place x)) = false
is_constant (Some (symbol.Port d place)) = false
is_constant (Some (symbol.Ports d place x)) = false
is_constant (Some (symbol.Function k)) = false

-- The places at which a rule on types is broken.
--
--     Rule  What it says       Made up of
--     E40   wrong operand      needed, needed_value, in_parentheses, value_for, printed
--     E41   wrong subscripts   reference_judged of an element, subscripted
--     E42   wrong arguments    reference_judged of an intrinsic or a unit, is_wrongly_declared
--     E43   unknown unit       reference_judged of what is unknown, by referent_of and callee_of
--     E44   not changeable     is_fixed
--     E46   not in a FUNCTION  is_barred, changes_formal
--
-- Source: ANSI X3.9-1978, sections 6, 10, 11, 12 and 15; this profile.
use Rattle.std.specs.Prelude.{ℕ, suc, Option, Some, None, List, [], ◌∷◌, ◌++◌, slice_get}
use Rattle.std.specs.List.{flat_map}
use Rattle.fm_base.specs.declared.rule.Refusal.{Refusal}
use Rattle.fm_base.specs.declared.rule.Rule.TheVariants.{E40, E41, E42, E43, E44, E46}
use Rattle.fm_base.specs.Verdict.{place, when}
use Rattle.fm_tree.specs.declared.program_unit.Placed.{Placed}
use Rattle.fm_tree.specs.declared.program_unit.Entry.{Entry}
use Rattle.fm_tree.specs.declared.program_unit.Unit.{Unit}
use Rattle.fm_symbols.specs.declared.names.UnitNames.{UnitNames}
use Rattle.fm_symbols.specs.declared.names.Variable.{Variable}
use Rattle.fm_symbols.specs.declared.context.Scope.{Scope}
use Rattle.fm_symbols.specs.declared.context.Context.{Context}
use Rattle.fm_rules.specs.declared.flags.Flags.{Flags}
use Rattle.fm_rules.specs.TypeStatements.{flags_of}

-- the rules that are broken at a line; a port as a value is judged when all types are known
abbrev pub flagged : (line : ℕ) → Flags → List Refusal
flagged line f =
    when f.e40 (place line E40) ++ (when f.e41 (place line E41) ++ (when f.e42 (place line E42) ++ (when f.e43 (place line E43) ++ (when f.e44 (place line E44) ++ when f.e46 (place line E46)))))

abbrev pub broken_in_statement : Context → Scope → List Variable → Placed → List Refusal
broken_in_statement c s vs p = flagged p.line.0 (flags_of c s vs p.stmt)

-- the entries that stand round a PROCESSDO outside process blocks are at its line or at that of its end, where they break
-- only what it breaks itself
abbrev pub broken_in_entry : Context → Scope → List Variable → Entry → List Refusal
broken_in_entry c s vs e = flagged e.line.0 (flags_of c s vs e.stmt)

abbrev pub broken_in_unit : Context → Scope → List Variable → Unit → List Refusal
broken_in_unit c s vs u =
    broken_in_statement c s vs u.heading ++ (flat_map (broken_in_statement c s vs) u.specs ++ flat_map (broken_in_entry c s vs) u.body)

-- the unit with this number, by its scope and its names
abbrev pub broken_by : Context → Option Scope → Option UnitNames → Unit → List Refusal
broken_by c None n u = []
broken_by c (Some s) None u = []
broken_by c (Some s) (Some n) u = broken_in_unit c s n.variables u

abbrev pub broken_at : List UnitNames → Context → (number : ℕ) → Unit → List Refusal
broken_at ns c number u = broken_by c (slice_get c.scopes number) (slice_get ns number) u

abbrev pub broken_from : List UnitNames → Context → (number : ℕ) → List Unit → List Refusal
broken_from ns c number [] = []
broken_from ns c number (u ∷ us) = broken_at ns c number u ++ broken_from ns c (suc number) us

-- in all units
abbrev pub broken_types : List Unit → List UnitNames → Context → List Refusal
broken_types us ns c = broken_from ns c 0 us

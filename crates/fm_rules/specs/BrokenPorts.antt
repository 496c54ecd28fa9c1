-- The places at which rules on ports are broken.
--
--     Rule  What it says        Made up of
--     E50   port as a value     has_stray_port: needed, needed_value, in_parentheses, is_stray_port, value_for, printed
--     E51   wrong direction     lacks_direction
--     E52   wrong message list  breaks_message
--     E53   port types differ   breaks_type, breaks_call
--     E54   wrong mapping rank  breaks_rank
--
-- Source: the Fortran M report; this profile.
use Rattle.std.specs.Prelude.{ℕ, ◌+◌, Option, Some, None, List, [], ◌∷◌, ◌++◌, slice_get}
use Rattle.fm_base.specs.declared.rule.Refusal.{Refusal}
use Rattle.fm_base.specs.declared.rule.Rule.TheVariants.{E50, E51, E52, E53, E54}
use Rattle.fm_base.specs.Verdict.{place, when}
use Rattle.fm_tree.specs.declared.program_unit.Entry.{Entry}
use Rattle.fm_tree.specs.declared.program_unit.Unit.{Unit}
use Rattle.fm_tree.specs.declared.statement.Stmt.{Stmt}
use Rattle.fm_symbols.specs.declared.context.Context.{Context}
use Rattle.fm_symbols.specs.declared.context.Scope.{Scope}
use Rattle.fm_symbols.specs.declared.names.UnitNames.{UnitNames}
use Rattle.fm_rules.specs.JudgedStatements.{has_stray_port}
use Rattle.fm_rules.specs.PortRules.{breaks_call, breaks_message, breaks_rank, breaks_type, call_in, in_simple, lacks_direction, location_in, simple_in}

-- at a statement of a unit with its names and its scope, in a program with its context
abbrev pub broken_at : List UnitNames → UnitNames → Context → Scope → (line : ℕ) → Stmt → List Refusal
broken_at ns n c s line t =
    when (has_stray_port n c s t) (place line E50)
    ++ when (in_simple (lacks_direction n c s) (simple_in t)) (place line E51)
    ++ when (in_simple (breaks_message n c s) (simple_in t)) (place line E52)
    ++ when (in_simple (breaks_type n c s) (simple_in t)) (place line E53)
    ++ when (breaks_call ns n c s (call_in t)) (place line E53)
    ++ when (breaks_rank n (location_in t)) (place line E54)

abbrev pub broken_body : List UnitNames → UnitNames → Context → Scope → List Entry → List Refusal
broken_body ns n c s [] = []
broken_body ns n c s (e ∷ es) = broken_at ns n c s e.line.0 e.stmt ++ broken_body ns n c s es

abbrev pub broken_unit : List UnitNames → Context → Unit → Option UnitNames → Option Scope → List Refusal
broken_unit ns c u None s = []
broken_unit ns c u (Some n) None = []
broken_unit ns c u (Some n) (Some s) = broken_body ns n c s u.body

-- from the unit of this number on
abbrev pub broken_from : List UnitNames → Context → (number : ℕ) → List Unit → List Refusal
broken_from ns c k [] = []
broken_from ns c k (u ∷ us) = broken_unit ns c u (slice_get ns k) (slice_get c.scopes k) ++ broken_from ns c (k + 1) us

-- the places at which a rule on ports is broken
abbrev pub broken_ports : List Unit → List UnitNames → Context → List Refusal
broken_ports us ns c = broken_from ns c 0 us

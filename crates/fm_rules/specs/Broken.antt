-- The rules that the statements of a source break, phase after phase.
-- Source: this profile.
use Rattle.std.specs.Prelude.{◌⊎◌, List, Contains}
use Rattle.fm_base.specs.declared.rule.Refusal.{Refusal}
use Rattle.fm_base.specs.Verdict.{Either, IsClean}
use Rattle.fm_tree.specs.declared.program_unit.Placed.{Placed}
use Rattle.fm_tree.specs.declared.program_unit.Unit.{Unit}
use Rattle.fm_symbols.specs.declared.names.UnitNames.{UnitNames}
use Rattle.fm_symbols.specs.declared.context.Context.{Context}
use Rattle.fm_symbols.specs.Context.{context_of}
use Rattle.fm_rules.specs.Units.{units_of}
use Rattle.fm_rules.specs.BrokenStructure.{broken_structure}
use Rattle.fm_rules.specs.Names.{names_of}
use Rattle.fm_rules.specs.BrokenNames.{broken_names}
use Rattle.fm_rules.specs.BrokenTypes.{broken_types}
use Rattle.fm_rules.specs.Recursion.{IsRecursion}
use Rattle.fm_rules.specs.BrokenPorts.{broken_ports}

-- broken by the first, or by the second, which is asked only where the first breaks nothing
abbrev pub Then : (Refusal → Type 0) → (Refusal → Type 0) → Refusal → Type 0
Then First Second q = First q ⊎ (IsClean First × Second q)

-- types, calls and arguments
abbrev pub IsBrokenType : List Unit → List UnitNames → Context → Refusal → Type 0
IsBrokenType us ns c = Either (Contains (broken_types us ns c)) (IsRecursion us c)

-- and then ports
abbrev pub IsBrokenUse : List Unit → List UnitNames → Context → Refusal → Type 0
IsBrokenUse us ns c = Then (IsBrokenType us ns c) (Contains (broken_ports us ns c))

-- names, and then how they are used
abbrev pub IsBrokenUnit : List Unit → Refusal → Type 0
IsBrokenUnit us = Then (Contains (broken_names us)) (IsBrokenUse us (names_of us) (context_of us (names_of us)))

-- structure, and then names and their use
abbrev pub IsBrokenStatement : List Placed → Refusal → Type 0
IsBrokenStatement ps = Then (Contains (broken_structure ps)) (IsBrokenUnit (units_of ps))

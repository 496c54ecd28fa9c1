-- The constants of a unit.
-- Source: ANSI X3.9-1978, section 8.6 (PARAMETER). Of two definitions of a name the first counts, also where it has no value
-- (this profile).
use Rattle.std.specs.Prelude.{ℕ, ◌+◌, nat_eq, ◌&&◌, if◌then◌else◌, Option, Some, None, List, [], ◌∷◌, ◌++◌}
use Rattle.std.specs.FinMap.{get, empty}
use Rattle.fm_tree.specs.declared.program_unit.Placed.{Placed}
use Rattle.fm_tree.specs.declared.statement.Defined.{Defined}
use Rattle.fm_symbols.specs.ByName.{ByName, with_new}
use Rattle.fm_symbols.specs.declared.names.Constant.{Constant}
use Rattle.fm_rules.specs.declared.constants.Known.{Known}
use Rattle.fm_rules.specs.ConstantParts.{definitions_in}
use Rattle.fm_rules.specs.ConstantValues.{value_of}

-- one more constant, the item of a statement, with the constants so far
abbrev pub with_definition : ByName Known → (place item : ℕ) → Defined → ByName Known
with_definition known place item d =
    with_new known d.name (record { value = value_of known place item d.value; place = place; item = item })

-- the constants of a list, in order
abbrev pub with_definitions : ByName Known → (place item : ℕ) → List Defined → ByName Known
with_definitions known place item [] = known
with_definitions known place item (d ∷ ds) = with_definitions (with_definition known place item d) place (item + 1) ds

-- the constants of statements, in order
abbrev pub known_from : ByName Known → (place : ℕ) → List Placed → ByName Known
known_from known place [] = known
known_from known place (p ∷ ps) = known_from (with_definitions known place 0 (definitions_in p.stmt)) (place + 1) ps

-- the constants of the specification statements of a unit
abbrev pub constants_of : List Placed → ByName Known
constants_of specs = known_from empty 0 specs

-- The list of them.

-- the value of a constant that is defined here
abbrev pub value_here : Option Known → (place item : ℕ) → Option Constant
value_here None place item = None
value_here (Some k) place item = if nat_eq k.place place && nat_eq k.item item then k.value else None

abbrev pub entry_of : List ℕ → Option Constant → List (List ℕ × Constant)
entry_of name None = []
entry_of name (Some c) = (name, c) ∷ []

abbrev pub entries_in : ByName Known → (place item : ℕ) → List Defined → List (List ℕ × Constant)
entries_in known place item [] = []
entries_in known place item (d ∷ ds) = entry_of d.name (value_here (get known d.name) place item) ++ entries_in known place (item + 1) ds

abbrev pub entries_from : ByName Known → (place : ℕ) → List Placed → List (List ℕ × Constant)
entries_from known place [] = []
entries_from known place (p ∷ ps) = entries_in known place 0 (definitions_in p.stmt) ++ entries_from known (place + 1) ps

-- the constants that have a value, each once, in the order of their definitions
abbrev pub constant_list : List Placed → List (List ℕ × Constant)
constant_list specs = entries_from (constants_of specs) 0 specs

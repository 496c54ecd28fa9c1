-- The texts of processes, channels and faults.
-- Source: this profile.
use Rattle.std.specs.Prelude.{ℕ, List, ◌∷◌, ◌++◌, codes}
use Rattle.std.specs.List.{flat_map}
use Rattle.std.specs.Fmt.{decimal}
use Rattle.fm_base.specs.declared.fault.Fault.{Fault}
use Rattle.fm_base.specs.declared.fault.Fault.TheVariants.{Overflow, ZeroDivide, Subscript, NullPort, EndOfChannel, BadLocation, BadMachine}

-- `/b.i`
abbrev pub child_text : ℕ × ℕ → List ℕ
child_text p = (47 ∷ decimal p.0) ++ (46 ∷ decimal p.1)

-- `main`, and then each pair
abbrev pub path_text : List (ℕ × ℕ) → List ℕ
path_text pairs = codes "main" ++ flat_map child_text pairs

-- the maker's path, a colon and the number
abbrev pub channel_text : List (ℕ × ℕ) → ℕ → List ℕ
channel_text maker number = path_text maker ++ (58 ∷ decimal number)

-- as the report names it
abbrev pub fault_name : Fault → List ℕ
fault_name Overflow = codes "Overflow"
fault_name ZeroDivide = codes "ZeroDivide"
fault_name Subscript = codes "Subscript"
fault_name NullPort = codes "NullPort"
fault_name EndOfChannel = codes "EndOfChannel"
fault_name BadLocation = codes "BadLocation"
fault_name BadMachine = codes "BadMachine"

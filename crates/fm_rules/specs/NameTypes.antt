-- The types of values that names have in a unit.
-- Source: ANSI X3.9-1978, sections 4.1.2 (first letters) and 8.4 (type statements); IMPLICIT NONE, and that no other letter
-- gives a type, are this profile's.
use Rattle.std.specs.Prelude.{ℕ, nat_le, not, ◌&&◌, Bool, true, false, if◌then◌else◌, Option, Some, None, List, [], ◌∷◌, map}
use Rattle.std.specs.List.{list_any, flat_map}
use Rattle.std.specs.FinMap.{get}
use Rattle.fm_tree.specs.declared.program_unit.Placed.{Placed}
use Rattle.fm_tree.specs.declared.statement.Decl.{Decl}
use Rattle.fm_symbols.specs.ByName.{ByName, first_of_each}
use Rattle.fm_symbols.specs.declared.names.Constant.{Constant}
use Rattle.fm_symbols.specs.declared.names.Constant.TheVariants as constant
use Rattle.fm_symbols.specs.declared.symbol.Scalar.{Scalar}
use Rattle.fm_symbols.specs.declared.symbol.Scalar.TheVariants.{Integer, Logical}
use Rattle.fm_rules.specs.declared.constants.Types.{Types}
use Rattle.fm_rules.specs.ConstantParts.{decls_of, scalar_in, is_implicit_none}

abbrev pub scalar_entries : Option Scalar → List Decl → List (List ℕ × Scalar)
scalar_entries None decls = []
scalar_entries (Some s) decls = map (λ (d : Decl). (d.name, s)) decls

abbrev pub entries_at : Placed → List (List ℕ × Scalar)
entries_at p = scalar_entries (scalar_in p.stmt) (decls_of p.stmt)

-- what the first INTEGER or LOGICAL statement of a name says, wherever it stands
abbrev pub scalar_types : List Placed → ByName Scalar
scalar_types specs = first_of_each (flat_map entries_at specs)

abbrev pub has_implicit_none : List Placed → Bool
has_implicit_none specs = list_any (λ p. is_implicit_none p.stmt) specs

abbrev pub types_of : List Placed → Types
types_of specs = record { declared = scalar_types specs; implicit = not (has_implicit_none specs) }

-- I to N
abbrev pub begins_integer : List ℕ → Bool
begins_integer [] = false
begins_integer (b ∷ bs) = nat_le 73 b && nat_le b 78

-- the type by the first letter, where letters give types
abbrev pub implicit_scalar : Bool → List ℕ → Option Scalar
implicit_scalar implicit name = if implicit && begins_integer name then Some Integer else None

abbrev pub scalar_or : Option Scalar → Option Scalar → Option Scalar
scalar_or None other = other
scalar_or (Some s) other = Some s

-- the type of a name: the declared one, or else that of its first letter
abbrev pub scalar_of_name : Types → List ℕ → Option Scalar
scalar_of_name types name = scalar_or (get types.declared name) (implicit_scalar types.implicit name)

abbrev pub is_of : Scalar → Constant → Bool
is_of Integer (constant.Integer n) = true
is_of Integer (constant.Logical b) = false
is_of Logical (constant.Integer n) = false
is_of Logical (constant.Logical b) = true

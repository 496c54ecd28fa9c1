-- What the rules say of the variables of a RECEIVE.
-- Source: the Fortran M report (typed ports and channels), with arrays as whole fields by this profile.
use Rattle.std.specs.Prelude.{◌≡◌, ℕ, Option, Some, None, List, [], ◌∷◌}
use Rattle.fm_tree.specs.Tree.{Trees, NoTrees, More, trees_from}
use Rattle.fm_tree.specs.PortFields.{PortFields, NoFields, FieldThen}
use Rattle.fm_tree.specs.declared.port_type.Bound.{Bound}
use Rattle.fm_tree.specs.declared.statement.Var.{Var}
use Rattle.fm_symbols.specs.declared.names.Variable.{Variable}
use Rattle.fm_rules.specs.PortTypes.{sizing_place}
use Rattle.fm_mean.specs.Names.{ProgramUnit, variable_of}
use Rattle.fm_mean.specs.Fits.{sort_of_variable, elements_in}

-- how many words a variable has, or an element of it where subscripts stand
abbrev pub target_words : Variable → Trees → ℕ
target_words v NoTrees = v.words
target_words v (More t ts) = 1

-- a variable has as many words as a field has elements; any number where an earlier field sizes it
abbrev pub HasWords : (words : ℕ) → (size : Option ℕ) → List Bound → Type 0
HasWords words None bounds = words ≡ elements_in bounds
HasWords words (Some place) bounds = Unit {0}

-- the variables are as many as the fields of a message, and of their types and sizes
abbrev pub TargetsFit : ProgramUnit → PortFields → List Var → Type 0
TargetsFit u NoFields [] = Unit {0}
TargetsFit u NoFields (v ∷ vs) = ⊥
TargetsFit u (FieldThen s a n rest) [] = ⊥
TargetsFit u (FieldThen s a n rest) (v ∷ vs) =
    ((w : ℕ × Variable) × (variable_of u v.name ≡ Some w) × (sort_of_variable w.1 ≡ s) × HasWords (target_words w.1 (trees_from v.subscripts)) (sizing_place n) n) × TargetsFit u rest vs

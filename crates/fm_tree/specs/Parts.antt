-- Parts of statements: variables, bounds, declarations, types of ports, heads of loops, items, places.
-- Source: ANSI X3.9-1978, sections 5.1, 8.4, 8.6, 11.10 and 12.8.2, and the Fortran M report.
use Rattle.std.proofs.Common.{inl, inr}
use Rattle.std.specs.Prelude.{ℕ, ◌≡◌, ◌≤◌, ◌+◌, Bool, IsTrue, Option, Some, None, ◌⊎◌, List, [], ◌∷◌, ◌++◌, codes, pos}
use Rattle.fm_base.specs.Letters.{is_name_text}
use Rattle.fm_base.specs.declared.name.Label.{Label}
use Rattle.fm_base.specs.declared.token.Token.{Token}
use Rattle.fm_base.specs.declared.token.Token.TheVariants as token
use Rattle.fm_tree.specs.Tree.{Tree}
use Rattle.fm_tree.specs.declared.port_type.Bound.{Bound}
use Rattle.fm_tree.specs.declared.statement.Decl.{Decl}
use Rattle.fm_tree.specs.declared.statement.Var.{Var}
use Rattle.fm_tree.specs.declared.statement.Defined.{Defined}
use Rattle.fm_tree.specs.declared.statement.Way.{Way}
use Rattle.fm_tree.specs.declared.statement.Way.TheVariants as way
use Rattle.fm_tree.specs.declared.statement.LoopLabel.{LoopLabel}
use Rattle.fm_tree.specs.declared.statement.LoopHead.{LoopHead}
use Rattle.fm_tree.specs.declared.statement.Item.{Item}
use Rattle.fm_tree.specs.declared.statement.Item.TheVariants as item
use Rattle.fm_tree.specs.declared.statement.WriteUnit.{WriteUnit}
use Rattle.fm_tree.specs.declared.statement.WriteUnit.TheVariants as unit
use Rattle.fm_tree.specs.declared.statement.Extra.{Extra}
use Rattle.fm_tree.specs.declared.statement.Extra.TheVariants as extra
use Rattle.fm_tree.specs.declared.statement.Where.{Where}
use Rattle.fm_tree.specs.declared.statement.Where.TheVariants as place
use Rattle.fm_tree.specs.declared.statement.CallPart.{CallPart}
use Rattle.fm_tree.specs.PortFields.{PortFields, FieldKind, NoFields, FieldThen, Integer, Logical, In, Out}
use Rattle.fm_tree.specs.Forms.{Form, star, name, label, expr, constant, behind, before, behind_word, parens, assigned, pair, over, either, optional, optional_behind, optional_token, optional_keyword, more, some_of, listed, bracketed, such_that}

-- name [( list(expr) )]
abbrev pub var_parts : Var → List ℕ × List Tree
var_parts v = (v.name, v.subscripts)

abbrev pub var_form : Form Var
var_form = over var_parts (pair name (bracketed expr))

-- expr [: expr]
abbrev pub bound_ends : Option Tree → Tree → Tree × Option Tree
bound_ends None high = (high, None)
bound_ends (Some low) high = (low, Some high)

abbrev pub bound_parts : Bound → Tree × Option Tree
bound_parts b = bound_ends b.low b.high

abbrev pub bound_form : Form Bound
bound_form = over bound_parts (pair expr (optional_behind token.Colon expr))

-- name [( list(bound) )]
abbrev pub decl_parts : Decl → List ℕ × List Bound
decl_parts d = (d.name, d.bounds)

abbrev pub decl_form : Form Decl
decl_form = over decl_parts (pair name (bracketed bound_form))

-- name ( list(bound) )
abbrev pub array_form : Form Decl
array_form = over decl_parts (pair name (parens (some_of bound_form)))

-- name = expr
abbrev pub defined_parts : Defined → List ℕ × Tree
defined_parts d = (d.name, d.value)

abbrev pub defined_form : Form Defined
defined_form = over defined_parts (pair name (behind token.Equals expr))

-- IN, OUT or INOUT
abbrev pub way_text : Way → List ℕ
way_text way.In = codes "IN"
way_text way.Out = codes "OUT"
way_text way.InOut = codes "INOUT"

abbrev pub way_form : Form Way
way_form = record { spelled = λ w. token.Named (way_text w) ∷ []; Shape = λ w. Unit {0} }

-- a keyword and the name behind it, if there is one, are one word once blanks are dropped
abbrev pub word_with : List ℕ → Option (List ℕ) → Token
word_with keyword None = token.Named keyword
word_with keyword (Some n) = token.Named (keyword ++ n)

abbrev pub name_tokens : Option (List ℕ) → List Token
name_tokens None = []
name_tokens (Some n) = token.Named n ∷ []

-- [list(field)], a field being INTEGER, LOGICAL, INPORT ( [list(field)] ) or OUTPORT ( [list(field)] ),
-- then [name [( list(bound) )]]
abbrev mutual
  pub kind_spelled : FieldKind → Option (List ℕ) → List Token
  kind_spelled Integer n = word_with (codes "INTEGER") n ∷ []
  kind_spelled Logical n = word_with (codes "LOGICAL") n ∷ []
  kind_spelled (In fields) n = token.Named (codes "INPORT") ∷ token.Open ∷ (fields_spelled fields ++ token.Close ∷ name_tokens n)
  kind_spelled (Out fields) n = token.Named (codes "OUTPORT") ∷ token.Open ∷ (fields_spelled fields ++ token.Close ∷ name_tokens n)

  -- with commas between
  pub fields_spelled : PortFields → List Token
  fields_spelled NoFields = []
  fields_spelled (FieldThen kind n bounds rest) = kind_spelled kind n ++ ((bracketed bound_form).spelled bounds ++ more_fields_spelled rest)

  -- with a comma before each
  pub more_fields_spelled : PortFields → List Token
  more_fields_spelled NoFields = []
  more_fields_spelled (FieldThen kind n bounds rest) =
      token.Comma ∷ (kind_spelled kind n ++ ((bracketed bound_form).spelled bounds ++ more_fields_spelled rest))

-- bounds stand behind a name alone
abbrev pub AreBoundsOf : Option (List ℕ) → List Bound → Type 0
AreBoundsOf None bounds = bounds ≡ []
AreBoundsOf (Some n) bounds = (bracketed bound_form).Shape bounds

-- a name that is one word with the keyword is parted from it again
abbrev pub PartsFromKeyword : Option (List ℕ) → Type 0
PartsFromKeyword None = Unit {0}
PartsFromKeyword (Some n) = IsTrue (is_name_text n)

abbrev mutual
  pub IsKindShaped : FieldKind → Option (List ℕ) → Type 0
  IsKindShaped Integer n = PartsFromKeyword n
  IsKindShaped Logical n = PartsFromKeyword n
  IsKindShaped (In fields) n = AreFieldsShaped fields
  IsKindShaped (Out fields) n = AreFieldsShaped fields

  pub AreFieldsShaped : PortFields → Type 0
  AreFieldsShaped NoFields = Unit {0}
  AreFieldsShaped (FieldThen kind n bounds rest) = IsKindShaped kind n × AreBoundsOf n bounds × AreFieldsShaped rest

abbrev pub fields_form : Form PortFields
fields_form = record { spelled = fields_spelled; Shape = AreFieldsShaped }

-- ( [list(field)] )
abbrev pub port_type_form : Form PortFields
port_type_form = parens fields_form

-- label [,]
abbrev pub loop_label_parts : LoopLabel → Label × Bool
loop_label_parts l = (l.label, l.comma)

abbrev pub loop_label_form : Form LoopLabel
loop_label_form = over loop_label_parts (pair label (optional_token token.Comma))

-- [label [,]] name = expr , expr [, expr]
abbrev pub loop_parts : LoopHead → Option LoopLabel × (List ℕ × (Tree × (Tree × Option Tree)))
loop_parts h = (h.label, (h.variable, (h.from, (h.to, h.step))))

abbrev pub loop_form : Form LoopHead
loop_form =
    over loop_parts
    (pair (optional loop_label_form)
    (pair name (pair (behind token.Equals expr) (pair (behind token.Comma expr) (optional_behind token.Comma expr)))))

-- an expression or a character constant
abbrev pub item_parts : Item → Tree ⊎ List ℕ
item_parts (item.Expr e) = inl e
item_parts (item.Constant bytes) = inr bytes

abbrev pub item_form : Form Item
item_form = over item_parts (either expr constant)

-- * or 6
abbrev pub unit_token : WriteUnit → Token
unit_token unit.Star = star
unit_token unit.Six = token.Number (pos 6)

abbrev pub unit_form : Form WriteUnit
unit_form = record { spelled = λ u. unit_token u ∷ []; Shape = λ u. Unit {0} }

-- [PORT =] var
abbrev pub port_form : Form (Bool × Var)
port_form = optional_keyword (codes "PORT") var_form

-- END = label or IOSTAT = var
abbrev pub extra_parts : Extra → Label ⊎ Var
extra_parts (extra.End l) = inl l
extra_parts (extra.Iostat v) = inr v

abbrev pub extra_form : Form Extra
extra_form = over extra_parts (either (assigned (codes "END") label) (assigned (codes "IOSTAT") var_form))

abbrev pub ends_in : List Extra → ℕ
ends_in [] = 0
ends_in (extra.End l ∷ es) = ends_in es + 1
ends_in (extra.Iostat v ∷ es) = ends_in es

abbrev pub iostats_in : List Extra → ℕ
iostats_in [] = 0
iostats_in (extra.End l ∷ es) = iostats_in es
iostats_in (extra.Iostat v ∷ es) = iostats_in es + 1

-- {, extra}, each at most once
abbrev pub IsEachOnce : List Extra → Type 0
IsEachOnce es = (ends_in es ≤ 1) × (iostats_in es ≤ 1)

abbrev pub extras_form : Form (List Extra)
extras_form = such_that (more extra_form) IsEachOnce

-- LOCATION ( list(expr) )
abbrev pub location_form : Form (List Tree)
location_form = behind_word (codes "LOCATION") (parens (some_of expr))

-- SUBMACHINE ( expr : expr )
abbrev pub submachine_form : Form (Tree × Tree)
submachine_form = behind_word (codes "SUBMACHINE") (parens (pair expr (behind token.Colon expr)))

-- one of the two
abbrev pub where_parts : Where → List Tree ⊎ (Tree × Tree)
where_parts (place.Location es) = inl es
where_parts (place.Submachine a b) = inr (a, b)

abbrev pub where_form : Form Where
where_form = over where_parts (either location_form submachine_form)

-- what stands behind the opening parenthesis in `name ( [list(expr)] ) [where]`
abbrev pub call_parts : CallPart → List Tree × Option Where
call_parts c = (c.arguments, c.place)

abbrev pub call_part_form : Form CallPart
call_part_form = over call_parts (pair (before (listed expr) token.Close) (optional where_form))

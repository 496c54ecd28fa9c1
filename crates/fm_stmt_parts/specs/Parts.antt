-- How the parts of statements are read: variables, bounds, declarations, heads of loops, items, places.
-- Source: ANSI X3.9-1978, sections 5.1, 5.3, 8.1, 8.4, 8.6, 11.10, 12.3.3 and 12.8.2, and the Fortran M report.
use Rattle.std.proofs.Common.{inl, inr}
use Rattle.std.specs.Prelude.{ℕ, ℤ, pos, Bool, true, false, ◌&&◌, nat_le, ◌==◌, if◌then◌else◌, Option, Some, None, ◌⊎◌, List, [], ◌∷◌}
use Rattle.fm_base.specs.declared.name.Label.{Label}
use Rattle.fm_base.specs.declared.token.Op.TheVariants as op
use Rattle.fm_base.specs.declared.token.Token.{Token}
use Rattle.fm_base.specs.declared.token.Token.TheVariants as token
use Rattle.fm_tree.specs.Tree.{Tree}
use Rattle.fm_tree.specs.declared.port_type.Bound.{Bound}
use Rattle.fm_tree.specs.declared.statement.Decl.{Decl}
use Rattle.fm_tree.specs.declared.statement.Var.{Var}
use Rattle.fm_tree.specs.declared.statement.Defined.{Defined}
use Rattle.fm_tree.specs.declared.statement.Way.{Way}
use Rattle.fm_tree.specs.declared.statement.Way.TheVariants as way
use Rattle.fm_tree.specs.declared.statement.LoopLabel.{LoopLabel}
use Rattle.fm_tree.specs.declared.statement.LoopHead.{LoopHead}
use Rattle.fm_tree.specs.declared.statement.Item.{Item}
use Rattle.fm_tree.specs.declared.statement.Item.TheVariants as item
use Rattle.fm_tree.specs.declared.statement.WriteUnit.{WriteUnit}
use Rattle.fm_tree.specs.declared.statement.WriteUnit.TheVariants as unit
use Rattle.fm_tree.specs.declared.statement.Extra.{Extra}
use Rattle.fm_tree.specs.declared.statement.Extra.TheVariants as extra
use Rattle.fm_tree.specs.declared.statement.Where.{Where}
use Rattle.fm_tree.specs.declared.statement.Where.TheVariants as place
use Rattle.fm_tree.specs.declared.statement.CallPart.{CallPart}
use Rattle.fm_tree.specs.Parts as forms
use Rattle.fm_stmt_parts.specs.declared.mark.Mark.TheVariants.{Open, Close, Comma, Equals, Colon, Star}
use Rattle.fm_stmt_parts.specs.declared.mark.Word.TheVariants as word
use Rattle.fm_stmt_parts.specs.Reading.{Part, Read, any_token, is_same_text, is_word_token, word_text, name, label, expr, constant, behind, before, parens, assigned, pair, over, either, optional, optional_behind, optional_token, optional_keyword, more, some_of, listed, bracketed, such_that, until, ◌>>=◌}
use Rattle.fm_stmt_parts.specs.declared.mark.Mark.TheVariants as mark

-- name [( list(expr) )]
abbrev pub var_of : List ℕ × List Tree → Var
var_of p = record { name = p.0; subscripts = p.1 }

abbrev pub var_part : Part Var
var_part = over forms.var_parts var_of (pair name (bracketed expr))

-- expr [: expr]
abbrev pub bound_from : Tree → Option Tree → Bound
bound_from first None = record { low = None; high = first }
bound_from first (Some last) = record { low = Some first; high = last }

abbrev pub bound_of : Tree × Option Tree → Bound
bound_of p = bound_from p.0 p.1

abbrev pub bound_part : Part Bound
bound_part = over forms.bound_parts bound_of (pair expr (optional_behind Colon expr))

-- name [( list(bound) )]
abbrev pub decl_of : List ℕ × List Bound → Decl
decl_of p = record { name = p.0; bounds = p.1 }

abbrev pub decl_part : Part Decl
decl_part = over forms.decl_parts decl_of (pair name (bracketed bound_part))

-- name ( list(bound) )
abbrev pub array_part : Part Decl
array_part = over forms.decl_parts decl_of (pair name (parens (some_of bound_part)))

-- name = expr
abbrev pub defined_of : List ℕ × Tree → Defined
defined_of p = record { name = p.0; value = p.1 }

abbrev pub defined_part : Part Defined
defined_part = over forms.defined_parts defined_of (pair name (behind Equals expr))

-- IN, OUT or INOUT
abbrev pub way_of : List ℕ → Option Way
way_of n =
    if is_same_text n (word_text word.In) then Some way.In
    else if is_same_text n (word_text word.Out) then Some way.Out
    else if is_same_text n (word_text word.InOut) then Some way.InOut
    else None

abbrev pub way_at : List Token → Read Way
way_at [] = None
way_at (token.Named n ∷ ts) = way_of n >>= λ w. Some (w, ts)
way_at (t ∷ ts) = None

abbrev pub way_part : Part Way
way_part = record { form = forms.way_form; read = way_at; stop = any_token }

abbrev pub is_number : Token → Bool
is_number (token.Number n) = true
is_number t = false

abbrev pub is_constant : Token → Bool
is_constant (token.Constant bytes) = true
is_constant t = false

-- label [,]
abbrev pub loop_label_of : Label × Bool → LoopLabel
loop_label_of p = record { label = p.0; comma = p.1 }

abbrev pub loop_label_part : Part LoopLabel
loop_label_part = over forms.loop_label_parts loop_label_of (pair label (optional_token Comma))

-- [label [,]] name = expr , expr [, expr]
abbrev pub loop_of : Option LoopLabel × (List ℕ × (Tree × (Tree × Option Tree))) → LoopHead
loop_of p = record { label = p.0; variable = p.1.0; from = p.1.1.0; to = p.1.1.1.0; step = p.1.1.1.1 }

abbrev pub loop_part : Part LoopHead
loop_part =
    over forms.loop_parts loop_of
    (pair (optional is_number loop_label_part)
    (pair name (pair (behind Equals expr) (pair (behind Comma expr) (optional_behind Comma expr)))))

-- a character constant, where one comes, or else an expression
abbrev pub item_of : Tree ⊎ List ℕ → Item
item_of (inl e) = item.Expr e
item_of (inr bytes) = item.Constant bytes

abbrev pub no_constant : Token → Bool
no_constant (token.Constant bytes) = false
no_constant t = true

abbrev pub item_part : Part Item
item_part = over forms.item_parts item_of (either no_constant expr constant)

-- * or 6
abbrev pub number_unit : ℤ → Option WriteUnit
number_unit (pos n) = if n == 6 then Some unit.Six else None
number_unit z = None

abbrev pub unit_of : Token → Option WriteUnit
unit_of (token.Sign op.Mul) = Some unit.Star
unit_of (token.Number z) = number_unit z
unit_of t = None

abbrev pub unit_at : List Token → Read WriteUnit
unit_at [] = None
unit_at (t ∷ ts) = unit_of t >>= λ u. Some (u, ts)

abbrev pub unit_part : Part WriteUnit
unit_part = record { form = forms.unit_form; read = unit_at; stop = any_token }

-- [PORT =] var
abbrev pub port_part : Part (Bool × Var)
port_part = optional_keyword word.Port var_part

-- END = label, where END comes, or else IOSTAT = var
abbrev pub extra_of : Label ⊎ Var → Extra
extra_of (inl l) = extra.End l
extra_of (inr v) = extra.Iostat v

abbrev pub extra_part : Part Extra
extra_part = over forms.extra_parts extra_of (either (is_word_token word.End) (assigned word.End label) (assigned word.Iostat var_part))

abbrev pub is_end : Extra → Bool
is_end (extra.End l) = true
is_end (extra.Iostat v) = false

-- {, extra}, each at most once
abbrev pub are_each_once : List Extra → Bool
are_each_once es = nat_le (forms.ends_in es) 1 && nat_le (forms.iostats_in es) 1

abbrev pub extras_part : Part (List Extra)
extras_part = until Close (such_that (more extra_part) forms.IsEachOnce are_each_once)

-- LOCATION ( list(expr) ), where LOCATION comes, or else SUBMACHINE ( expr : expr )
abbrev pub where_of : List Tree ⊎ (Tree × Tree) → Where
where_of (inl es) = place.Location es
where_of (inr p) = place.Submachine p.0 p.1

abbrev pub location_part : Part (List Tree)
location_part = behind (mark.Word word.Location) (parens (some_of expr))

abbrev pub submachine_part : Part (Tree × Tree)
submachine_part = behind (mark.Word word.Submachine) (parens (pair expr (behind Colon expr)))

abbrev pub where_part : Part Where
where_part = over forms.where_parts where_of (either (is_word_token word.Location) location_part submachine_part)

-- [list(expr)] ) [where]
abbrev pub call_part_of : List Tree × Option Where → CallPart
call_part_of p = record { arguments = p.0; place = p.1 }

abbrev pub call_part_part : Part CallPart
call_part_part = over forms.call_parts call_part_of (pair (before (listed expr) Close) (optional any_token where_part))

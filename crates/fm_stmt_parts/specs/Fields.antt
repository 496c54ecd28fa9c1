-- How the types of ports are read: the fields of a message, some of which are ports themselves.
-- Source: the Fortran M report, and this profile for the names of fields.
use Rattle.std.specs.Prelude.{ℕ, suc, zero, Bool, true, false, if◌then◌else◌, Option, Some, None, List, [], ◌∷◌, length, take, drop}
use Rattle.fm_base.specs.Letters.{is_name_text}
use Rattle.fm_base.specs.declared.token.Token.{Token}
use Rattle.fm_base.specs.declared.token.Token.TheVariants as token
use Rattle.fm_tree.specs.PortFields.{PortFields}
use Rattle.fm_tree.specs.PortReading.{fields_of}
use Rattle.fm_tree.specs.declared.port_type.Bound.{Bound}
use Rattle.fm_tree.specs.declared.port_type.Field.{Field}
use Rattle.fm_tree.specs.declared.port_type.Kind.{Kind}
use Rattle.fm_tree.specs.declared.port_type.Kind.TheVariants as kind
use Rattle.fm_tree.specs.Parts as forms
use Rattle.fm_stmt_parts.specs.declared.mark.Word.TheVariants as word
use Rattle.fm_stmt_parts.specs.Reading.{Part, Read, any_token, is_same_text, word_text, name_at, parens_read, pair_read, optional_read, over_read, listed_read, bracketed_read, ◌>>=◌}
use Rattle.fm_stmt_parts.specs.Parts.{bound_part}

-- what stands behind a first text
abbrev pub behind_text : List ℕ → List ℕ → Option (List ℕ)
behind_text k n = if is_same_text (take (length k) n) k then Some (drop (length k) n) else None

-- the name behind a keyword in one word with it, if something stands there
abbrev pub name_behind : List ℕ → Option (Option (List ℕ))
name_behind [] = Some None
name_behind (b ∷ bs) = if is_name_text (b ∷ bs) then Some (Some (b ∷ bs)) else None

-- a field's kind and its name
abbrev pub Head : Type 0
Head = Kind × Option (List ℕ)

abbrev pub head_behind : Kind → List ℕ → Option Head
head_behind k rest = name_behind rest >>= λ n. Some (k, n)

abbrev pub logical_head : Option (List ℕ) → Option Head
logical_head None = None
logical_head (Some rest) = head_behind kind.Logical rest

abbrev pub scalar_head_of : Option (List ℕ) → List ℕ → Option Head
scalar_head_of None n = logical_head (behind_text (word_text word.Logical) n)
scalar_head_of (Some rest) n = head_behind kind.Integer rest

-- INTEGER or LOGICAL, and the name in one word with it
abbrev pub scalar_head : List ℕ → Option Head
scalar_head n = scalar_head_of (behind_text (word_text word.Integer) n) n

abbrev pub is_named : Token → Bool
is_named (token.Named n) = true
is_named t = false

-- ( [list(field)] ) [name], by how the fields inside are read
abbrev pub port_read : (List Token → Read PortFields) → List Token → Read (PortFields × Option (List ℕ))
port_read inside = pair_read (parens_read inside) (optional_read is_named name_at)

abbrev pub word_head : (List Token → Read PortFields) → List ℕ → List Token → Read Head
word_head inside n ts =
    if is_same_text n (word_text word.Inport) then over_read (λ p. (kind.In p.0, p.1)) (port_read inside) ts
    else if is_same_text n (word_text word.Outport) then over_read (λ p. (kind.Out p.0, p.1)) (port_read inside) ts
    else scalar_head n >>= λ h. Some (h, ts)

abbrev pub head_read : (List Token → Read PortFields) → List Token → Read Head
head_read inside [] = None
head_read inside (token.Named n ∷ ts) = word_head inside n ts
head_read inside (t ∷ ts) = None

-- bounds stand behind a name alone
abbrev pub bounds_read : Option (List ℕ) → List Token → Read (List Bound)
bounds_read None ts = Some ([], ts)
bounds_read (Some n) ts = bracketed_read bound_part.read ts

abbrev pub field_of : Head → List Bound → Field
field_of h bounds = record { kind = h.0; name = h.1; bounds = bounds }

abbrev pub field_read : (List Token → Read PortFields) → List Token → Read Field
field_read inside ts = head_read inside ts >>= λ a. bounds_read a.0.1 a.1 >>= λ b. Some (field_of a.0 b.0, b.1)

-- [list(field)], of ports in ports up to a depth
abbrev pub fields_read : ℕ → List Token → Read PortFields
fields_read zero ts = None
fields_read (suc depth) ts = over_read fields_of (listed_read (field_read (fields_read depth))) ts

-- no port type is deeper than the number of its tokens
abbrev pub port_type_read : List Token → Read PortFields
port_type_read ts = parens_read (fields_read (length ts)) ts

-- ( [list(field)] )
abbrev pub port_type_part : Part PortFields
port_type_part = record { form = forms.port_type_form; read = port_type_read; stop = any_token }

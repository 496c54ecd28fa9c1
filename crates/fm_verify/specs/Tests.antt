-- The tests by which an image is judged; proofs/ has that they hold exactly where it makes sense.
-- Source: this profile.
use Rattle.std.specs.Prelude.{ℕ, nat_eq, suc, ◌+◌, ◌-◌, ◌*◌, ◌==◌, nat_lt, nat_le, not, cond, Bool, true, false, ◌&&◌, ◌||◌, Option, Some, None, List, [], ◌∷◌, ◌++◌, length, replicate, slice_get, slice_set}
use Rattle.std.specs.List.{list_any}
use Rattle.std.specs.Cmp.Lexicographic.{pointwise}
use Rattle.fm_base.specs.Letters.{is_name_text}
use Rattle.fm_code.specs.declared.instr.Instr.{Instr}
use Rattle.fm_code_kinds.specs.Leading.{goes, is_begin, is_join}
use Rattle.fm_object.specs.declared.image.Cell.{Cell}
use Rattle.fm_object.specs.declared.image.FieldImage.{FieldImage}
use Rattle.fm_object.specs.declared.image.Image.{Image}
use Rattle.fm_object.specs.declared.image.UnitImage.{UnitImage}
use Rattle.fm_image_typed.specs.Shapes.{addresses_of, loops_of}
use Rattle.fm_image_typed.specs.Typed.{how_many, is_formal, is_main}

-- ---- types

abbrev pub has_type : (kind of types : ℕ) → Bool
has_type kind of types = cond (nat_le kind 1) (of == 0) (nat_le kind 3 && nat_lt of types)

abbrev pub is_size : Option FieldImage → Bool
is_size None = false
is_size (Some f) = (f.kind == 0) && (f.words == 1)

abbrev pub has_words : List FieldImage → FieldImage → Bool
has_words earlier f = cond (f.size == 0) (nat_le 1 f.words) (is_size (slice_get earlier (f.size - 1)) && (nat_le f.kind 1 && (f.words == 0)))

abbrev pub is_field : (types : ℕ) → List FieldImage → FieldImage → Bool
is_field types earlier f = has_type f.kind f.of types && has_words earlier f

abbrev pub are_fields : (types : ℕ) → (earlier fields : List FieldImage) → Bool
are_fields types earlier [] = true
are_fields types earlier (f ∷ fs) = is_field types earlier f && are_fields types (earlier ++ f ∷ []) fs

abbrev pub are_types : (number : ℕ) → List (List FieldImage) → Bool
are_types n [] = true
are_types n (fs ∷ ts) = are_fields n [] fs && are_types (suc n) ts

abbrev pub is_whole : Image → Bool
is_whole i = (how_many is_main i.units == 1) && are_types 0 i.types

-- ---- machines and frames

-- so many nodes, for each of these extents
abbrev pub are_nodes : (nodes : ℕ) → List ℕ → Bool
are_nodes n [] = nat_le n 65536
are_nodes n (e ∷ es) = (nat_le 1 e && nat_le (n * e) 65536) && are_nodes (n * e) es

abbrev pub is_machine : List ℕ → Bool
is_machine es = nat_le (length es) 3 && are_nodes 1 es

abbrev pub is_cell : (types word : ℕ) → Cell → Bool
is_cell types word c = is_name_text c.name && (has_type c.kind c.of types && ((c.first == word) && (nat_le 1 c.words && (nat_le c.back 1 && ((c.back == 0) || is_formal c)))))

abbrev pub are_cells : (types word : ℕ) → List Cell → Bool
are_cells types word [] = nat_le word 65536
are_cells types word (c ∷ cs) = is_cell types word c && are_cells types (word + c.words) cs

abbrev pub is_named : (names : List (List ℕ)) → (name : List ℕ) → Bool
is_named names name = list_any (pointwise nat_eq name) names

-- no name is among these, nor stands twice
abbrev pub are_apart : (names : List (List ℕ)) → List Cell → Bool
are_apart names [] = true
are_apart names (c ∷ cs) = not (is_named names c.name) && are_apart (names ++ c.name ∷ []) cs

-- with this place taken, where it is there and free
abbrev pub with_free : (taken : List Bool) → (place : ℕ) → Option Bool → Option (List Bool)
with_free taken place None = None
with_free taken place (Some true) = None
with_free taken place (Some false) = Some (slice_set taken place true)

-- with the place of a formal taken, which are told from 1
abbrev pub with_place : (taken : List Bool) → (formal : ℕ) → Option (List Bool)
with_place taken formal = cond (formal == 0) (Some taken) (with_free taken (formal - 1) (slice_get taken (formal - 1)))

abbrev pub all_taken : List Bool → Bool
all_taken [] = true
all_taken (t ∷ ts) = t && all_taken ts

-- the formals take the places that are free, each one of them
abbrev pub fill : (taken : Option (List Bool)) → List Cell → Bool
fill None cs = false
fill (Some taken) [] = all_taken taken
fill (Some taken) (c ∷ cs) = fill (with_place taken c.formal) cs

abbrev pub have_places : List Cell → Bool
have_places cs = fill (Some (replicate (how_many is_formal cs) false)) cs

-- ---- code

abbrev pub begin_at_first : List ℕ → Bool
begin_at_first [] = false
begin_at_first (a ∷ more) = a == 0

-- each is at this address or behind it, and behind the one before
abbrev pub rise_from : (low : ℕ) → List ℕ → Bool
rise_from low [] = true
rise_from low (a ∷ more) = nat_le low a && rise_from (a + 1) more

abbrev pub none_joins : List Instr → List ℕ → Bool
none_joins code [] = true
none_joins code (t ∷ ts) = not (is_join (slice_get code t)) && none_joins code ts

-- a begin has its join right behind it, and nothing else leads to one
abbrev pub join_stands : List Instr → (at : ℕ) → Instr → Bool
join_stands code at i = cond (is_begin i) (is_join (slice_get code (at + 1))) (none_joins code (goes at i))

abbrev pub joins_from : List Instr → (at : ℕ) → List Instr → Bool
joins_from code at [] = true
joins_from code at (i ∷ is) = join_stands code at i && joins_from code (at + 1) is

abbrev pub joins_stand : List Instr → List ℕ → Bool
joins_stand code entries = joins_from code 0 code && none_joins code entries

-- ---- a unit, but for its words and its kinds

abbrev pub is_framed : UnitImage → Bool
is_framed u = nat_le u.heading 3 && is_machine u.extents

abbrev pub is_entered : UnitImage → Bool
is_entered u = begin_at_first (addresses_of u) && (rise_from 0 (addresses_of u) && nat_le (loops_of u.code) (length u.entries))

abbrev pub is_plain : UnitImage → Bool
is_plain u = are_apart [] u.cells && (have_places u.cells && (is_framed u && (is_entered u && joins_stand u.code (addresses_of u))))

-- The memory of a frame: the words of all variables in one list, each variable's from its first one on. Integers and logicals
-- are kept as their words, a port as its value.
-- Source: this profile.
use Rattle.std.specs.Prelude.{ℕ, ◌+◌, ℤ, pos, Bool, true, false, cond, nat_lt, Option, Some, None, List, map, take, drop, slice_set, slice_index_or}
use Rattle.fm_base.specs.declared.port.PortValue.{PortValue}
use Rattle.fm_base.specs.Channels.{Item, Words, Ports}
use Rattle.fm_tree.specs.declared.port_type.Kind.{Kind}
use Rattle.fm_tree.specs.declared.port_type.Kind.TheVariants as kind
use Rattle.fm_symbols.specs.declared.names.Variable.{Variable}
use Rattle.fm_plain_frame.specs.declared.word.Word.{Word}
use Rattle.fm_plain_frame.specs.declared.word.Word.TheVariants.{Number, Null, Port}

abbrev pub number_in : Word → ℤ
number_in (Number n) = n
number_in Null = pos 0
number_in (Port z) = pos 0

abbrev pub port_in : Word → Option PortValue
port_in (Number n) = None
port_in Null = None
port_in (Port z) = Some z

abbrev pub port_word : Option PortValue → Word
port_word None = Null
port_word (Some z) = Port z

-- whether variables of this kind hold ports
abbrev pub holds_ports : Kind → Bool
holds_ports kind.Integer = false
holds_ports kind.Logical = false
holds_ports (kind.In t) = true
holds_ports (kind.Out t) = true

-- words of memory as what a variable of this kind has
abbrev pub item_by : Kind → List Word → Item
item_by kind.Integer ws = Words (map number_in ws)
item_by kind.Logical ws = Words (map number_in ws)
item_by (kind.In t) ws = Ports (map port_in ws)
item_by (kind.Out t) ws = Ports (map port_in ws)

-- what a variable has
abbrev pub item_in : List Word → Variable → Item
item_in m v = item_by v.kind (take v.words (drop v.first m))

-- what all variables have, in their order
abbrev pub values_of : List Variable → List Word → List Item
values_of vs m = map (item_in m) vs

-- the word of an element that nothing was put into
abbrev pub unset_word : Kind → Word
unset_word kind.Integer = Number (pos 0)
unset_word kind.Logical = Number (pos 0)
unset_word (kind.In t) = Null
unset_word (kind.Out t) = Null

-- the place of an element's word, where the variable has so many elements
abbrev pub word_place : Variable → ℕ → Option ℕ
word_place v e = cond (nat_lt e v.words) (Some (v.first + e)) None

-- the memory with a word at a place; where there is no such place, as it was
abbrev pub put_in : List Word → Option ℕ → Word → List Word
put_in m None w = m
put_in m (Some k) w = slice_set m k w

-- what was there; where there is no such place, the word itself
abbrev pub out_of : List Word → Option ℕ → Word → Word
out_of m None w = w
out_of m (Some k) w = slice_index_or m k w

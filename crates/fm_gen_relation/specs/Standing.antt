-- How a frame of code stands for a frame of the meaning: its words, read by the layout of the names, are the values
-- of the variables, and the results of references are the same.
-- Source: this profile.
use Rattle.std.specs.Prelude.{◌≡◌, ◌≤◌, ℕ, ℤ, pos, ◌+◌, length, cond, Option, Some, None, List, map, take, drop, slice_get}
use Rattle.std.specs.Ordering.{int_eq}
use Rattle.fm_base.specs.declared.port.PortValue.{PortValue}
use Rattle.fm_base.specs.Channels.{Item, Words, Ports}
use Rattle.fm_tree.specs.Tree.{Tree, Trees, Number, Truth, Named, Ref, Paren, Signed, Not, Binary, NoTrees, More}
use Rattle.fm_tree.specs.declared.port_type.Kind.{Kind}
use Rattle.fm_tree.specs.declared.port_type.Kind.TheVariants as kind
use Rattle.fm_symbols.specs.declared.names.Variable.{Variable}
use Rattle.fm_rules.specs.declared.program.Program.{Program}
use Rattle.fm_mean.specs.Names.{ProgramUnit, result_variable}
use Rattle.fm_mean.specs.Evaluate.{Scope, Reference, Element, Call, Built, Unknown, reference_of, refs_in, refs_in_all}
use Rattle.fm_mean.specs.Fits.{IsBit, Types, ValuesFit}
use Rattle.fm_code.specs.declared.body.Frame.{Frame}

-- the port that each slot holds, by its number
abbrev pub Slots : Type 0
Slots = ℤ → PortValue

-- the word of a port is 0 where it is NULL, and the number of its slot else
abbrev pub port_by : Slots → ℤ → Option PortValue
port_by slots z = cond (int_eq z (pos 0)) None (Some (slots z))

-- words as what a variable of this kind has
abbrev pub item_by : Slots → Kind → List ℤ → Item
item_by slots kind.Integer ws = Words ws
item_by slots kind.Logical ws = Words ws
item_by slots (kind.In t) ws = Ports (map (port_by slots) ws)
item_by slots (kind.Out t) ws = Ports (map (port_by slots) ws)

-- what a variable has among the words of a frame
abbrev pub item_in : Slots → List ℤ → Variable → Item
item_in slots ws v = item_by slots v.kind (take v.words (drop v.first ws))

-- what all variables have, in their order
abbrev pub values_in : Slots → List Variable → List ℤ → List Item
values_in slots vs ws = map (item_in slots ws) vs

-- where the next statement of a frame of code is evaluated
abbrev pub scope_in : Program → ProgramUnit → Slots → Frame → Scope
scope_in p u slots m = record { program = p; unit = u; values = values_in slots u.names.variables m.words; results = m.results }

-- the words of each variable are there, and are of its type; and each word has a number of 32 bits
pub record IsFrame (u : ProgramUnit) (slots : Slots) (m : Frame) : Type 0 where
  pub types : Types
  pub fits : ValuesFit types u.names.variables (values_in slots u.names.variables m.words)
  pub numbered : length m.words ≤ 4294967296
  pub sized : length m.words ≡ u.names.words

-- Results of references.

-- a logical is kept as 0 or 1
abbrev pub IsWordOf : Kind → ℤ → Type 0
IsWordOf kind.Integer w = Unit {0}
IsWordOf kind.Logical w = IsBit w
IsWordOf (kind.In t) w = Unit {0}
IsWordOf (kind.Out t) w = Unit {0}

-- a result of the FUNCTION whose result this variable holds
abbrev pub IsResultOf : Option (ℕ × Variable) → ℤ → Type 0
IsResultOf None w = Unit {0}
IsResultOf (Some v) w = IsWordOf v.1.kind w

-- a reference of a FUNCTION, which is the one with this number at its entry, has its result
abbrev pub IsDone : Scope → Reference → (number : ℕ) → Type 0
IsDone s (Element i v) k = Unit {0}
IsDone s (Call n callee) k = (w : ℤ) × (slice_get s.results k ≡ Some w) × IsResultOf (result_variable callee) w
IsDone s (Built f) k = Unit {0}
IsDone s Unknown k = Unit {0}

-- all references of an expression have their results, where `n` of the entry's stand before it
abbrev mutual
  pub AreDone : Scope → Tree → (n : ℕ) → Type 0
  AreDone s (Number k) n = Unit {0}
  AreDone s (Truth b) n = Unit {0}
  AreDone s (Named name) n = Unit {0}
  AreDone s (Ref name args) n = AreAllDone s args n × IsDone s (reference_of s name) (n + refs_in_all s args)
  AreDone s (Paren e) n = AreDone s e n
  AreDone s (Signed op e) n = AreDone s e n
  AreDone s (Not e) n = AreDone s e n
  AreDone s (Binary op a b) n = AreDone s a n × AreDone s b (n + refs_in s a)

  pub AreAllDone : Scope → Trees → (n : ℕ) → Type 0
  AreAllDone s NoTrees n = Unit {0}
  AreAllDone s (More t ts) n = AreDone s t n × AreAllDone s ts (n + refs_in s t)

-- How many places ports want that are taken out of a frame or put out of their places.
-- Source: this profile.
use Rattle.std.specs.Prelude.{ℕ, Bool, false, cond, Option, Some, None, List, [], ◌∷◌, ◌+◌, replicate, length, slice_get}
use Rattle.fm_base.specs.declared.port.PortValue.{PortValue}
use Rattle.fm_tree.specs.declared.port_type.Kind.{Kind}
use Rattle.fm_tree.specs.declared.port_type.Kind.TheVariants as kind
use Rattle.fm_symbols.specs.declared.names.Variable.{Variable}
use Rattle.fm_mean.specs.declared.place.Actual.{Actual}
use Rattle.fm_mean.specs.declared.place.Actual.TheVariants.{Given, Taken}
use Rattle.fm_mean.specs.declared.place.Back.{Back}
use Rattle.fm_mean.specs.Calls.{is_kept}
use Rattle.fm_plain_frame.specs.Memory.{holds_ports}
use Rattle.fm_plain_passing.specs.declared.item.Item.{Item}
use Rattle.fm_plain_passing.specs.declared.item.Item.TheVariants.{Words, Ports}

-- an argument or an item that is taken
abbrev pub taken_by : Actual → ℕ
taken_by (Given ws back) = 0
taken_by (Taken s) = s.count

abbrev pub all_taken : List Actual → ℕ
all_taken [] = 0
all_taken (a ∷ more) = taken_by a + all_taken more

-- the ports of an item, NULLs among them
abbrev pub ports_by : Item → ℕ
ports_by (Words ws) = 0
ports_by (Ports ps) = length ps

abbrev pub all_ports : List Item → ℕ
all_ports [] = 0
all_ports (m ∷ ms) = ports_by m + all_ports ms

-- the elements of a variable that is of ports
abbrev pub ports_at : Kind → ℕ → ℕ
ports_at kind.Integer n = 0
ports_at kind.Logical n = 0
ports_at (kind.In t) n = n
ports_at (kind.Out t) n = n

-- a formal that gives ports back
abbrev pub given_from : Option Variable → ℕ → ℕ
given_from None n = 0
given_from (Some v) n = ports_at v.kind n

abbrev pub given_by : List Variable → Back → ℕ
given_by vs b = given_from (slice_get vs b.formal) b.place.count

abbrev pub all_given : List Variable → List Back → ℕ
all_given vs [] = 0
all_given vs (b ∷ bs) = given_by vs b + all_given vs bs

-- a variable that isn't kept
abbrev pub lost_by : Variable → ℕ
lost_by v = cond (is_kept v) 0 (ports_at v.kind v.words)

abbrev pub all_lost : List Variable → ℕ
all_lost [] = 0
all_lost (v ∷ vs) = lost_by v + all_lost vs

-- whether there is such a variable, and it is of ports
abbrev pub is_of_ports : Option Variable → Bool
is_of_ports None = false
is_of_ports (Some v) = holds_ports v.kind

-- room for the ports of each item
abbrev pub rooms_for : List Actual → List (List (Option PortValue))
rooms_for [] = []
rooms_for (a ∷ more) = replicate (taken_by a) None ∷ rooms_for more

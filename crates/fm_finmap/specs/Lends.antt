-- What becomes of a map once a value that it lent has been changed.
-- Source: this profile.
use Rattle.std.specs.Prelude.{◌≡◌, List, Option, IsSome}
use Rattle.std.specs.Borrow.{Fml, RattleType, MutBor, LendsSo}
use Rattle.std.specs.BTreeMap.Lent.{OrdMembers}
use Rattle.std.specs.FinMap.{get, insert}
use Rattle.fm_finmap.specs.Map.{map_of}
use Rattle.fm_finmap.specs.contracts.map.Map.{the_row}

-- the key has the last value that was written, and where it had none the map is as it was
abbrev pub lends_value : (K V : RattleType) (g : OrdMembers K.Denot) → MutBor (List (K.Denot × V.Denot)) → K.Denot → Option (MutBor V.Denot) → Fml
lends_value K V g m k r =
    LendsSo (the_row K V (record { cmp = g.cmp }) (record { eq = g.eq }) (record { partial_cmp = g.partial_cmp })) V m r
    (λ n w. IsSome (get (map_of g.cmp m.now) k) → map_of g.cmp n ≡ insert (map_of g.cmp m.now) k w) (λ n. n ≡ m.now)

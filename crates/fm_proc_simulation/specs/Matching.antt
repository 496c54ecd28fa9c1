-- An item of a message matches the place at which it is stored.
-- Source: the Fortran M report (RECEIVE), with arrays as whole fields by this profile.
use Rattle.std.specs.Prelude.{◌≡◌, ◌≤◌, true, false, List, [], ◌∷◌, length}
use Rattle.fm_base.specs.Channels.{Item, Words, Ports, Message}
use Rattle.fm_symbols.specs.declared.names.Variable.{Variable}
use Rattle.fm_gen_relation.specs.Operands.{MeanSpan, holds_words}

-- it is of words or of ports, as its variable is, and of no more than have room
abbrev pub ItemMatches : List Variable → MeanSpan → Item → Type 0
ItemMatches vs q (Words ns) = (holds_words vs q.variable ≡ true) × (length ns ≤ q.count)
ItemMatches vs q (Ports ps) = (holds_words vs q.variable ≡ false) × (length ps ≤ q.count)

-- one for each place
abbrev pub ItemsMatch : List Variable → List MeanSpan → Message → Type 0
ItemsMatch vs [] [] = Unit {0}
ItemsMatch vs [] (m ∷ ms) = ⊥
ItemsMatch vs (q ∷ qs) [] = ⊥
ItemsMatch vs (q ∷ qs) (m ∷ ms) = ItemMatches vs q m × ItemsMatch vs qs ms

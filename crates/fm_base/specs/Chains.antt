-- What the shared nodes of a path stand for: its pairs, first first.
-- Source: this profile.
use Rattle.std.specs.Prelude.{ℕ, List, ◌∷◌, [], ◌++◌, Option, Some, None}
use Rattle.std.specs.declared.sync.Arc.{Arc}
use Rattle.std.specs.declared.alloc.Global.{Global}
use Rattle.std.specs.Arc.{arc_value}
use Rattle.fm_base.specs.declared.chain.Link.{Link, Link', Held-Link-starter, None', Some'}

abbrev mutual
  pub pairs_to : Link → List (ℕ × ℕ)
  pairs_to (Link' starter pair) = pairs_before starter ++ pair ∷ []

  pub pairs_before : Held-Link-starter → List (ℕ × ℕ)
  pairs_before None' = []
  pairs_before (Some' p link) = pairs_to link

abbrev pub pairs_of : Option (Arc Link Global) → List (ℕ × ℕ)
pairs_of None = []
pairs_of (Some link) = pairs_to (arc_value link)

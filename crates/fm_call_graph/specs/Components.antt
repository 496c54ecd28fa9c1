-- The names of components of a graph.
-- Source: this profile.
use Rattle.std.specs.Prelude.{ℕ, Bool, false, nat_eq, Option, Some, None}

-- both in one component
abbrev pub same_name : Option ℕ → Option ℕ → Bool
same_name None b = false
same_name (Some a) None = false
same_name (Some a) (Some b) = nat_eq a b

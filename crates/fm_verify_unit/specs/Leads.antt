-- The addresses to which an instruction goes.
-- Source: this profile.
use Rattle.std.specs.Prelude.{ℕ, List, [], ◌∷◌}
use Rattle.fm_verify_unit.specs.declared.leading.Leads.{Leads}
use Rattle.fm_verify_unit.specs.declared.leading.Leads.TheVariants as where_to

abbrev pub led : Leads → List ℕ
led where_to.Nowhere = []
led (where_to.To one) = one ∷ []
led (where_to.Either one other) = one ∷ other ∷ []

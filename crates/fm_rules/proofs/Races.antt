-- Whether a program is deterministic, by its first race.
use Rattle.std.proofs.Common.{◌≡◌, ◌↔◌, List, Bool, true, false, not, refl, sym}
use Rattle.std.proofs.Math.Logic.{∥∥₁_elim}
use Rattle.std.proofs.lemmas.Bool.{false≢true}
use Rattle.std.specs.Prelude.{Option, Some, None, is_some}
use Rattle.fm_base.specs.declared.name.Line.{Line}
use Rattle.fm_tree.specs.declared.program_unit.Unit.{Unit}
use Rattle.fm_symbols.specs.declared.context.Context.{Context}
use Rattle.fm_rules.specs.Race.{IsDeterministic, IsRaceVerdict}

pub decides : (us : List Unit) (c : Context) (v : Option Line) (b : Bool) → ∥ IsRaceVerdict us c v ∥₁ → is_some v ≡ not b → (b ≡ true) ↔ IsDeterministic us c
decides us c None true known e = ((λ h line race. ∥∥₁_elim known (λ x y. absurd x) (λ none. none line race)), (λ d. refl))
decides us c None false known e = absurd (false≢true e)
decides us c (Some line) true known e = absurd (false≢true (sym e))
decides us c (Some line) false known e = ((λ h. absurd (false≢true h)), (λ d. absurd (∥∥₁_elim known (λ x y. absurd x) (λ first. d line.0 first.race))))

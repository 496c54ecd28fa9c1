use Rattle.std.proofs.Common.{◌≡◌, ◌<◌, ℕ, Some}
use Rattle.std.specs.Prelude.{slice_get}
use Rattle.fm_table.specs.Inside.{outs_of}
use Rattle.fm_table.specs.Told.{numbers_out}
use Rattle.fm_table.proofs.outside.place_out.Given as goal

-- it isn't at a place before
abbrev pub invariant-out : goal.invariant-out
invariant-out l = (i : ℕ) → i < l.place → slice_get (numbers_out (outs_of l.out)) i ≡ Some l.number → ⊥

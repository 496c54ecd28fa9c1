-- The body of the small PROGRAM stands.
use Rattle.std.proofs.Common.{◌≡◌, ℕ, zero, suc, Option, Some, slice_get, refl, subst, arith}
use Rattle.fm_code.specs.declared.code.Unit as code_unit
use Rattle.fm_code_kinds.specs.Sample.{sample_body, sample_shapes, sample_unit, sample_unit_code}
use Rattle.fm_code_kinds.specs.declared.sorts.Shape.{Shape}
use Rattle.fm_code_kinds.proofs.SampleLaws.{sample_fits}
use Rattle.fm_code_preserves.specs.Rooms.{IsLaidUnit}
use Rattle.fm_code_preserves.specs.Standing.{BodyStands}

abbrev some : {A : Type 0} → A → Option A
some x = Some x

some_is : {A : Type 0} (x y : A) → some x ≡ some y → x ≡ y
some_is x y e = cc

laid : IsLaidUnit sample_unit sample_unit_code
laid = record { ports = refl; laid = (refl, omega arith, tt); begins = omega arith }

units_at : (n : ℕ) (u : Shape) (c : code_unit.Unit) → slice_get sample_shapes.units n ≡ Some u → slice_get sample_body.code.units n ≡ Some c → IsLaidUnit u c
units_at zero u c e f = subst (λ (v : Shape). IsLaidUnit v c) (some_is sample_unit u e) (subst (λ (d : code_unit.Unit). IsLaidUnit sample_unit d) (some_is sample_unit_code c f) laid)
units_at (suc n) u c e f = absurd (cc e)

pub sample_stands : BodyStands sample_shapes sample_body
sample_stands = record {
  code = record { typed = sample_fits.code; units = units_at };
  frame = record {
    unit = sample_fits.frame.unit;
    there = sample_fits.frame.there;
    own = sample_fits.frame.own;
    own_there = sample_fits.frame.own_there;
    lists = sample_fits.frame.lists;
    kinds = sample_fits.frame.kinds;
    done = sample_fits.frame.done;
    inside = sample_fits.frame.inside;
    list = sample_fits.frame.list;
    enough = omega (arith, sample_fits.frame.frame.done);
    counts = sample_fits.frame.frame.counts;
  };
  words = record { unit = sample_unit; there = refl; words = refl; starts = tt };
  below = tt;
}

-- The small image makes sense, and its body stands at a statement.
use Rattle.std.proofs.Common.{◌≡◌, ℕ, zero, suc, Bool, true, false, Option, Some, slice_get, refl, subst, arith}
use Rattle.fm_code.specs.declared.instr.Instr.{Instr}
use Rattle.fm_code_kinds.specs.Leading.{JoinsStand, is_begin, is_join}
use Rattle.fm_code_kinds.specs.Sample.{sample_code, sample_lists}
use Rattle.fm_code_kinds.proofs.SampleLaws.{kinds_are}
use Rattle.fm_image_typed.specs.Codes.{unit_of, RunsImage}
use Rattle.fm_image_typed.specs.Sample.{sample_unit, sample_image, sample_body}
use Rattle.fm_image_typed.specs.Shapes.{shape_of, coded_of}
use Rattle.fm_image_typed.specs.Typed.{AreApart, FormalsHavePlaces, UnitIsTyped, Typed}

abbrev some : {A : Type 0} → A → Option A
some x = Some x

some_is : {A : Type 0} (x y : A) → some x ≡ some y → x ≡ y
some_is x y e = cc

-- ---- joins: there is none

alone_at : (a : ℕ) → is_join (slice_get sample_code a) ≡ false
alone_at zero = refl
alone_at (suc zero) = refl
alone_at (suc (suc zero)) = refl
alone_at (suc (suc (suc zero))) = refl
alone_at (suc (suc (suc (suc zero)))) = refl
alone_at (suc (suc (suc (suc (suc zero))))) = refl
alone_at (suc (suc (suc (suc (suc (suc a)))))) = refl

begins_none : (a : ℕ) (i : Instr) → slice_get sample_code a ≡ Some i → is_begin i ≡ false
begins_none zero i e = subst (λ (j : Instr). is_begin j ≡ false) (some_is _ i e) refl
begins_none (suc zero) i e = subst (λ (j : Instr). is_begin j ≡ false) (some_is _ i e) refl
begins_none (suc (suc zero)) i e = subst (λ (j : Instr). is_begin j ≡ false) (some_is _ i e) refl
begins_none (suc (suc (suc zero))) i e = subst (λ (j : Instr). is_begin j ≡ false) (some_is _ i e) refl
begins_none (suc (suc (suc (suc zero)))) i e = subst (λ (j : Instr). is_begin j ≡ false) (some_is _ i e) refl
begins_none (suc (suc (suc (suc (suc zero))))) i e = subst (λ (j : Instr). is_begin j ≡ false) (some_is _ i e) refl
begins_none (suc (suc (suc (suc (suc (suc a)))))) i e = absurd (cc e)

both : (b : Bool) → b ≡ true → b ≡ false → ⊥
both true e f = absurd (cc f)
both false e f = absurd (cc e)

joins : JoinsStand (coded_of sample_unit)
joins = record {
  behind = λ a i e b. absurd (both (is_begin i) b (begins_none a i e));
  alone = λ a to i e b g. alone_at to;
  entries = λ k a e. alone_at a;
}

-- ---- the unit

apart : AreApart sample_unit.cells
apart zero zero c d e f s = refl
apart zero (suc b) c d e f s = absurd (cc f)
apart (suc a) b c d e f s = absurd (cc e)

places : FormalsHavePlaces sample_unit.cells
places = record { low = (omega arith, tt); once = λ n lt. absurd (omega (arith, lt)) }

unit_typed : UnitIsTyped sample_image sample_unit
unit_typed = record {
  heading = omega arith;
  machine = record { few = omega arith; each = tt; all = omega arith };
  cells = (record { name = refl; type = refl; first = refl; some = omega arith; back = omega arith; formal = λ e. refl }, omega arith);
  names = apart;
  formals = places;
  begin = refl;
  rise = (omega arith, (omega arith, tt));
  loops = omega arith;
  kinds = (sample_lists, kinds_are);
  joins = joins;
}

pub sample_typed : Typed sample_image
sample_typed = record { whole = record { main = refl; types = tt }; each = (unit_typed, tt) }

-- ---- the body

pub sample_runs : RunsImage sample_image sample_body
sample_runs = record {
  code = refl;
  frame = record {
    unit = shape_of sample_unit;
    there = refl;
    own = unit_of sample_unit;
    own_there = refl;
    lists = sample_lists;
    kinds = kinds_are;
    done = 0;
    inside = omega arith;
    list = refl;
    frame = record { words = refl; counts = omega arith; done = omega arith };
  };
  backs = tt;
}

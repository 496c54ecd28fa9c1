-- The small PROGRAM has its kinds, and its body fits them.
use Rattle.std.proofs.Common.{◌≡◌, ℕ, zero, suc, Option, Some, [], slice_get, refl, subst, arith}
use Rattle.fm_code.specs.declared.code.Unit as code_unit
use Rattle.fm_code.specs.declared.instr.Instr.{Instr}
use Rattle.fm_code_kinds.specs.Bodies.{IsUnit, coded, AreWithin, IsTypedCode, IsAtStatement, BodyFits}
use Rattle.fm_code_kinds.specs.Effects.{effect}
use Rattle.fm_code_kinds.specs.Kinded.{IsAt, IsFine, AreKinds, Kinded}
use Rattle.fm_code_kinds.specs.Sample.{sample_code, sample_unit, sample_shapes, sample_lists, sample_unit_code, sample_frame, sample_body}
use Rattle.fm_code_kinds.specs.declared.sorts.Shape.{Shape}

abbrev some : {A : Type 0} → A → Option A
some x = Some x

some_is : {A : Type 0} (x y : A) → some x ≡ some y → x ≡ y
some_is x y e = cc

-- ---- kinds

abbrev IsEmptyAt : ℕ → Type 0
IsEmptyAt a = IsAt sample_code sample_lists a []

entries_at : (i a : ℕ) → slice_get (coded sample_unit_code).entries i ≡ Some a → IsEmptyAt a
entries_at zero a e = subst IsEmptyAt (some_is 0 a e) (record { inside = omega arith; list = refl })
entries_at (suc zero) a e = subst IsEmptyAt (some_is 2 a e) (record { inside = omega arith; list = refl })
entries_at (suc (suc zero)) a e = subst IsEmptyAt (some_is 5 a e) (record { inside = omega arith; list = refl })
entries_at (suc (suc (suc i))) a e = absurd (cc e)

abbrev Fine : ℕ → Instr → Type 0
Fine a i = IsFine sample_code sample_lists a (effect sample_shapes sample_unit 0 a i (sample_lists a))

each_at : (a : ℕ) (i : Instr) → slice_get sample_code a ≡ Some i → Fine a i
each_at zero i e = subst (Fine zero) (some_is _ i e) (record { inside = omega arith; list = refl })
each_at (suc zero) i e = subst (Fine (suc zero)) (some_is _ i e) ((record { inside = omega arith; list = refl }, tt), refl)
each_at (suc (suc zero)) i e = subst (Fine (suc (suc zero))) (some_is _ i e) (record { inside = omega arith; list = refl })
each_at (suc (suc (suc zero))) i e = subst (Fine (suc (suc (suc zero)))) (some_is _ i e) (record { inside = omega arith; list = refl })
each_at (suc (suc (suc (suc zero)))) i e = subst (Fine (suc (suc (suc (suc zero))))) (some_is _ i e) ((record { inside = omega arith; list = refl }, tt), refl)
each_at (suc (suc (suc (suc (suc zero))))) i e = subst (Fine (suc (suc (suc (suc (suc zero)))))) (some_is _ i e) (tt, refl)
each_at (suc (suc (suc (suc (suc (suc a)))))) i e = absurd (cc e)

pub kinds_are : AreKinds sample_shapes sample_unit (coded sample_unit_code) sample_lists
kinds_are = record { first = refl; entries = entries_at; each = each_at }

-- ---- the body

is_unit : IsUnit sample_unit sample_unit_code
is_unit = record { words = refl; formals = refl }

unit_at : (n : ℕ) (u : Shape) → slice_get sample_shapes.units n ≡ Some u → (c : code_unit.Unit) × (slice_get sample_body.code.units n ≡ Some c) × IsUnit u c
unit_at zero u e = subst (λ (v : Shape). (c : code_unit.Unit) × (slice_get sample_body.code.units zero ≡ Some c) × IsUnit v c) (some_is sample_unit u e) (sample_unit_code, refl, is_unit)
unit_at (suc n) u e = absurd (cc e)

within_at : (n : ℕ) (u : Shape) → slice_get sample_shapes.units n ≡ Some u → AreWithin u
within_at zero u e = subst AreWithin (some_is sample_unit u e) (omega arith, tt)
within_at (suc n) u e = absurd (cc e)

kinds_at : (n : ℕ) (u : Shape) (c : code_unit.Unit) → slice_get sample_shapes.units n ≡ Some u → slice_get sample_body.code.units n ≡ Some c → Kinded sample_shapes u (coded c)
kinds_at zero u c e f = subst (λ (v : Shape). Kinded sample_shapes v (coded c)) (some_is sample_unit u e) (subst (λ (d : code_unit.Unit). Kinded sample_shapes sample_unit (coded d)) (some_is sample_unit_code c f) (sample_lists, kinds_are))
kinds_at (suc n) u c e f = absurd (cc e)

typed : IsTypedCode sample_shapes sample_body.code
typed = record { same = refl; unit = unit_at; within = within_at; kinds = kinds_at }

at_statement : IsAtStatement sample_shapes sample_body.code sample_frame
at_statement = record {
  unit = sample_unit;
  there = refl;
  own = sample_unit_code;
  own_there = refl;
  lists = sample_lists;
  kinds = kinds_are;
  done = 0;
  inside = omega arith;
  list = refl;
  frame = record { words = refl; counts = omega arith; done = omega arith };
}

pub sample_fits : BodyFits sample_shapes sample_body
sample_fits = record { code = typed; frame = at_statement; backs = tt }

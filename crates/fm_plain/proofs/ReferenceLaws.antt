-- The FUNCTION that a reference means.
use Rattle.std.proofs.Common.{◌≡◌, ℕ, Bool, true, false, cond, Option, Some, None, List, [], Result, Ok, refl, sym, ap, subst, ◌∙◌}
use Rattle.std.specs.Prelude.{option_map}
use Rattle.fm_base.specs.declared.fault.Fault.{Fault}
use Rattle.fm_values.specs.declared.intrinsic.Intrinsic.{Intrinsic}
use Rattle.fm_values.specs.Intrinsics.{intrinsic_named}
use Rattle.fm_symbols.specs.Headings.{is_function}
use Rattle.fm_symbols.specs.declared.names.Variable.{Variable}
use Rattle.fm_rules.specs.declared.program.Program.{Program}
use Rattle.fm_mean.specs.Names.{ProgramUnit, kind_of, numbered, unit_at, unit_named, variable_of}
use Rattle.fm_mean.specs.Calls.{entered}
use Rattle.fm_mean.specs.Process.{Execution, Frame}
use Rattle.fm_mean.specs.declared.place.Actual.{Actual}
use Rattle.fm_mean.specs.declared.place.Back.{Back}
use Rattle.fm_mean.specs.Actions.{opens, refers}
use Rattle.fm_mean.specs.Evaluate.{Scope, Reference, Element, Call, Unknown, array_or, function_by, intrinsic_or, is_array, reference_of}
use Rattle.fm_plain.specs.Steps.{called_in}

-- the unit of this number is called
pub record IsCalled (p : Program) (r : Reference) (n : ℕ) : Type 0 where
  pub unit : ProgramUnit
  pub is : r ≡ Call n unit
  pub there : unit_at p n ≡ Some unit

some_is : {A : Type 0} (a b : A) → Some a ≡ Some b → a ≡ b
some_is a b e = cc

number_there : (p : Program) (k : ℕ) (o : Option ProgramUnit) (v : ℕ × ProgramUnit) → unit_at p k ≡ o → option_map (λ u. (k, u)) o ≡ Some v → unit_at p v.0 ≡ Some v.1
number_there p k None v e h = absurd (cc)
number_there p k (Some u) v e h = subst (λ (x : ℕ × ProgramUnit). unit_at p x.0 ≡ Some x.1) (some_is (k, u) v h) e

pub numbered_there : (p : Program) (o : Option ℕ) (v : ℕ × ProgramUnit) → numbered p o ≡ Some v → unit_at p v.0 ≡ Some v.1
numbered_there p None v h = absurd (cc)
numbered_there p (Some k) v h = number_there p k (unit_at p k) v refl h

by_kind : (p : Program) (b : Bool) (v : ℕ × ProgramUnit) (n : ℕ) → unit_at p v.0 ≡ Some v.1 → called_in (cond b (Call v.0 v.1) Unknown) ≡ Some n → IsCalled p (cond b (Call v.0 v.1) Unknown) n
by_kind p true v n there h =
    let e : v.0 ≡ n = some_is v.0 n h in
    record { unit = v.1; is = ap (λ k. Call k v.1) e; there = subst (λ (k : ℕ). unit_at p k ≡ Some v.1) e there }
by_kind p false v n there h = absurd (cc)

by_function : (p : Program) (o : Option (ℕ × ProgramUnit)) (n : ℕ) → ((v : ℕ × ProgramUnit) → o ≡ Some v → unit_at p v.0 ≡ Some v.1) → called_in (function_by o) ≡ Some n → IsCalled p (function_by o) n
by_function p None n f h = absurd (cc)
by_function p (Some v) n f h = by_kind p (is_function (kind_of v.1)) v n (f v refl) h

by_intrinsic : (p : Program) (o : Option Intrinsic) (r : Reference) (n : ℕ) → (called_in r ≡ Some n → IsCalled p r n) → called_in (intrinsic_or o r) ≡ Some n → IsCalled p (intrinsic_or o r) n
by_intrinsic p None r n f h = f h
by_intrinsic p (Some i) r n f h = absurd (cc)

by_bounds : (p : Program) (b : Bool) (place : ℕ) (x : Variable) (r : Reference) (n : ℕ) → (called_in r ≡ Some n → IsCalled p r n) → called_in (cond b (Element place x) r) ≡ Some n → IsCalled p (cond b (Element place x) r) n
by_bounds p true place x r n f h = absurd (cc)
by_bounds p false place x r n f h = f h

by_array : (p : Program) (o : Option (ℕ × Variable)) (r : Reference) (n : ℕ) → (called_in r ≡ Some n → IsCalled p r n) → called_in (array_or o r) ≡ Some n → IsCalled p (array_or o r) n
by_array p None r n f h = f h
by_array p (Some v) r n f h = by_bounds p (is_array v.1.bounds) v.0 v.1 r n f h

pub called_there : (s : Scope) (name : List ℕ) (n : ℕ) → called_in (reference_of s name) ≡ Some n → IsCalled s.program (reference_of s name) n
called_there s name n h =
    by_array s.program (variable_of s.unit name) (intrinsic_or (intrinsic_named name) (function_by (unit_named s.program name))) n
    (by_intrinsic s.program (intrinsic_named name) (function_by (unit_named s.program name)) n
    (by_function s.program (unit_named s.program name) n (λ v e. numbered_there s.program _ v e))) h

-- a step of a reference of a unit
pub refers_to : (p : Program) (w : Execution) (line : ℕ) (f : Frame) (below : List Frame) (r : Reference) (all : Result (List Actual) Fault) (n k : ℕ) (v : ProgramUnit) (args given : List Actual) (backs : List Back)
    → IsCalled p r n → unit_at p n ≡ Some v → all ≡ Ok args → k ≡ n → given ≡ args → backs ≡ [] → opens w f below k v (entered v f.values given) backs ≡ refers w line f below r all
refers_to p w line f below r all n k v args given backs called there is number same none =
    let u : v ≡ called.unit = some_is v called.unit (sym there ∙ called.there) in
    ap (λ (xs : List Back). opens w f below k v (entered v f.values given) xs) none
    ∙ (ap (λ (xs : List Actual). opens w f below k v (entered v f.values xs) []) same
    ∙ (ap (λ (m : ℕ). opens w f below m v (entered v f.values args) []) number
    ∙ (ap (λ (x : ProgramUnit). opens w f below n x (entered x f.values args) []) u
    ∙ (ap (λ (x : Result (List Actual) Fault). refers w line f below (Call n called.unit) x) (sym is) ∙ ap (λ (x : Reference). refers w line f below x all) (sym called.is)))))

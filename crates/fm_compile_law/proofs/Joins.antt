-- Code that is walked through joins blocks where it has to.
use Rattle.std.proofs.Common.{◌≡◌, ◌⊎◌, inl, inr, ℕ, zero, suc, ◌<◌, false, Some, List, [], ◌∷◌, ◌++◌, length, slice_get, refl, sym, ap, subst, ◌∙◌, arith}
use Rattle.std.specs.Prelude.{slice_index_or}
use Rattle.std.specs.List.{Contains}
use Rattle.fm_net.specs.Typed.{AllIn}
use Rattle.fm_code.specs.declared.instr.Instr.{Instr}
use Rattle.fm_code.specs.declared.instr.Instr.TheVariants as instr
use Rattle.fm_code_kinds.specs.declared.kinds.Kind.{Kind}
use Rattle.fm_code_kinds.specs.declared.sorts.Shape.{Shape}
use Rattle.fm_code_kinds.specs.declared.sorts.Shapes.{Shapes}
use Rattle.fm_code_kinds.specs.Effects.{Effect, On, Over, Ill, effect}
use Rattle.fm_code_kinds.specs.Kinded.{Coded}
use Rattle.fm_code_kinds.specs.Leading.{end_leads, meet_leads, goes, is_begin, is_join, JoinsStand}
use Rattle.fm_compile_law.specs.Walks.{behind, IsNotEmpty, first_of, Steps, Walks, walked}
use Rattle.fm_compile_law.proofs.Leads.{Leads, ended_leads, met_leads}
use Rattle.fm_compile_law.proofs.Walks.{IsStep, each_step}

same_instr : (i j : Instr) → Some i ≡ Some j → i ≡ j
same_instr i j e = cc

pub first_got : (is : List Instr) → slice_get is 0 ≡ first_of is
first_got [] = refl
first_got (i ∷ is) = refl

-- what stands behind some code
pub got_behind : (is js : List Instr) → slice_get (is ++ js) (length is) ≡ first_of js
got_behind [] js = first_got js
got_behind (i ∷ is) js = got_behind is js

pub first_front : (is js : List Instr) → IsNotEmpty is → first_of (is ++ js) ≡ first_of is
first_front [] js some = absurd (some refl)
first_front (i ∷ is) js some = refl

-- what a list has that is one alone
only_one : (a to : ℕ) → Contains (a ∷ []) to → to ≡ a
only_one a to h = go h.0 h.1 h.2
  where
    go : (k : ℕ) → k < length (a ∷ []) → slice_index_or (a ∷ []) k to ≡ to → to ≡ a
    go zero less is = sym is
    go (suc k) less is = absurd (omega (arith, less))

of_all : (Good : ℕ → Type 0) (l : List ℕ) (to : ℕ) → AllIn Good l → Contains l to → Good to
of_all Good [] to all h = absurd (omega (arith, h.1))
of_all Good (a ∷ l) to all h = go h.0 h.1 h.2 (λ rest. of_all Good l to all.1 rest)
  where
    go : (k : ℕ) → k < length (a ∷ l) → slice_index_or (a ∷ l) k to ≡ to → (Contains l to → Good to) → Good to
    go zero less is rest = subst Good is all.0
    go (suc k) less is rest = rest (k, omega (arith, less), is)

module _ (Good : ℕ → Type 0) (ss : Shapes) (u : Shape) (n : ℕ) where
  -- what stands behind an instruction joins a block where that one begins it
  next_joins : (at a : ℕ) (is : List Instr) (ks ms : List Kind) → Steps Good ss u n at is ks ms → (i : Instr) → slice_get is a ≡ Some i → is_join (slice_get is (suc a)) ≡ is_begin i
  next_joins at a [] ks ms w i there = absurd cc
  next_joins at zero (j ∷ is) ks ms w i there = ap is_join (first_got is) ∙ w.1 ∙ ap is_begin (same_instr j i there)
  next_joins at (suc a) (j ∷ is) ks ms w i there = next_joins (suc at) a is (behind (effect ss u n at j ks)) ms w.2 i there

module _ (Good : ℕ → Type 0) (ss : Shapes) (u : Shape) (c : Coded) (ms : List Kind) (w : Walks Good ss u c.loops 0 c.code [] ms) (apart : (a : ℕ) → Good a → is_join (slice_get c.code a) ≡ false) where
  abbrev lists : ℕ → List Kind
  lists a = walked ss u c.loops 0 a c.code []

  abbrev JoinsNone : ℕ → Type 0
  JoinsNone to = is_join (slice_get c.code to) ≡ false

  after : (a : ℕ) (i : Instr) → slice_get c.code a ≡ Some i → is_begin i ≡ false → JoinsNone (suc a)
  after a i there plain = next_joins Good ss u c.loops 0 a c.code [] ms w.1 i there ∙ plain

  led : (a : ℕ) (l : List ℕ) (e : Effect) → Leads l e → IsStep Good ss u c.loops 0 a a c.code [] e → JoinsNone (suc a) → (to : ℕ) → Contains l to → JoinsNone to
  led a l (On ks) leads step next to has = absurd leads
  led a l (Over t k) leads step next to has = go step.0
    where
      there : Contains t to
      there = subst (λ (l : List ℕ). Contains l to) (sym leads) has

      go : (AllIn Good t × (k ≡ 0)) ⊎ ((t ≡ suc a ∷ []) × (suc a < length c.code)) → JoinsNone to
      go (inl x) = apart to (of_all Good t to x.0 there)
      go (inr x) = subst JoinsNone (sym (only_one (suc a) to (subst (λ (l : List ℕ). Contains l to) x.0 there))) next
  led a l Ill leads step next to has = absurd step

  alone : (a to : ℕ) (i : Instr) → slice_get c.code a ≡ Some i → is_begin i ≡ false → Contains (goes a i) to → JoinsNone to
  alone a to (instr.Eval i) there plain has = subst JoinsNone (sym (only_one (suc a) to has)) (after a (instr.Eval i) there plain)
  alone a to (instr.Build i) there plain has = subst JoinsNone (sym (only_one (suc a) to has)) (after a (instr.Build i) there plain)
  alone a to (instr.End i) there plain has =
      led a (end_leads i) (effect ss u c.loops a (instr.End i) (lists a)) (ended_leads ss u a i (lists a)) (each_step Good ss u c.loops 0 a a c.code [] ms (omega arith) w.1 (instr.End i) there) (after a (instr.End i) there plain) to has
  alone a to (instr.Meet i) there plain has =
      led a (meet_leads i) (effect ss u c.loops a (instr.Meet i) (lists a)) (met_leads ss u a i (lists a)) (each_step Good ss u c.loops 0 a a c.code [] ms (omega arith) w.1 (instr.Meet i) there) (after a (instr.Meet i) there plain) to has

  -- where nothing at good addresses joins a block, and entries are at some
  pub joins_by : ((k a : ℕ) → slice_get c.entries k ≡ Some a → Good a) → JoinsStand c
  joins_by entries = record {
    behind = λ a i there begins. next_joins Good ss u c.loops 0 a c.code [] ms w.1 i there ∙ begins;
    alone = alone;
    entries = λ k a there. apart a (entries k a there);
  }

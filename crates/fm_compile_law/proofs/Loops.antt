-- Code that has its kinds has them with every number of loops that is above those of its loops.
use Rattle.std.proofs.Common.{◌≡◌, ℕ, ◌<◌, Bool, true, false, ◌&&◌, Option, Some, List, ◌∷◌, slice_get, refl, sym, ap, subst, ◌∙◌}
use Rattle.std.specs.Prelude.{nat_lt}
use Rattle.std.proofs.lemmas.Bool.{lt-ltb, ltb-true}
use Rattle.fm_code.specs.declared.instr.Build.{Build}
use Rattle.fm_code.specs.declared.instr.Build.TheVariants as build
use Rattle.fm_code.specs.declared.instr.Instr.{Instr}
use Rattle.fm_code.specs.declared.instr.Instr.TheVariants as instr
use Rattle.fm_code.specs.declared.instr.Loop.{Loop}
use Rattle.fm_code_kinds.specs.declared.kinds.Kind.{Kind}
use Rattle.fm_code_kinds.specs.declared.kinds.Kind.TheVariants.{LoopOf}
use Rattle.fm_code_kinds.specs.declared.sorts.Shape.{Shape}
use Rattle.fm_code_kinds.specs.declared.sorts.Shapes.{Shapes}
use Rattle.fm_code_kinds.specs.Shapes.{single, are_words}
use Rattle.fm_code_kinds.specs.Effects.{goes_on, given_where, built, effect}
use Rattle.fm_code_kinds.specs.Kinded.{Coded, IsFine, Kinded}

-- each loop that is built has a number below this one
abbrev pub LoopsBelow : ℕ → List Instr → Type 0
LoopsBelow m code = (a : ℕ) (l : Loop) → slice_get code a ≡ Some (instr.Build (build.Loop l)) → l.number < m

module _ (ss : Shapes) (u : Shape) (c : Coded) where
  pub loops_below : Kinded ss u c → LoopsBelow c.loops c.code
  loops_below h a l there = go (nat_lt l.number c.loops) refl (h.1.each a (instr.Build (build.Loop l)) there)
    where
      go : (b : Bool) → nat_lt l.number c.loops ≡ b → IsFine c.code h.0 a (goes_on (given_where (b && are_words u.cells (single l.word)) (LoopOf l ∷ h.0 a))) → l.number < c.loops
      go true is fine = ltb-true l.number c.loops is
      go false is fine = absurd fine

  module _ (m : ℕ) where
    loop_alike : (l : Loop) (ks : List Kind) → l.number < c.loops → l.number < m → built u.cells c.loops (build.Loop l) ks ≡ built u.cells m (build.Loop l) ks
    loop_alike l ks low high =
        let tested : Bool → Option (List Kind) = λ b. given_where (b && are_words u.cells (single l.word)) (LoopOf l ∷ ks) in
        ap tested (lt-ltb l.number c.loops low) ∙ sym (ap tested (lt-ltb l.number m high))

    built_alike : (b : Build) (ks : List Kind) → ((l : Loop) → b ≡ build.Loop l → (l.number < c.loops) × (l.number < m)) → built u.cells c.loops b ks ≡ built u.cells m b ks
    built_alike (build.Letter byte) ks h = refl
    built_alike build.ShowText ks h = refl
    built_alike build.Show ks h = refl
    built_alike build.ShowTruth ks h = refl
    built_alike (build.ShowWords s) ks h = refl
    built_alike (build.ShowTruths s) ks h = refl
    built_alike build.PassValue ks h = refl
    built_alike (build.PassWords s) ks h = refl
    built_alike (build.PassPorts s) ks h = refl
    built_alike build.PassWordAt ks h = refl
    built_alike build.PassPortAt ks h = refl
    built_alike build.Status ks h = refl
    built_alike (build.Loop l) ks h = let x = h l refl in loop_alike l ks x.0 x.1
    built_alike (build.Location k) ks h = refl
    built_alike build.Submachine ks h = refl
    built_alike (build.Cut item size) ks h = refl

    effect_alike : (a : ℕ) (i : Instr) (ks : List Kind) → ((l : Loop) → i ≡ instr.Build (build.Loop l) → (l.number < c.loops) × (l.number < m)) → effect ss u c.loops a i ks ≡ effect ss u m a i ks
    effect_alike a (instr.Eval i) ks h = refl
    effect_alike a (instr.Build b) ks h = ap goes_on (built_alike b ks (λ l e. h l (ap instr.Build e)))
    effect_alike a (instr.End i) ks h = refl
    effect_alike a (instr.Meet i) ks h = refl

    pub with_loops : Kinded ss u c → LoopsBelow m c.code → Kinded ss u (record { entries = c.entries; loops = m; code = c.code })
    with_loops h below = (
      h.0,
      record {
        first = h.1.first;
        entries = h.1.entries;
        each = λ a i there. subst (IsFine c.code h.0 a) (effect_alike a i (h.0 a) (λ l e. let at = there ∙ ap Some e in (loops_below h a l at, below a l at))) (h.1.each a i there);
      },
    )

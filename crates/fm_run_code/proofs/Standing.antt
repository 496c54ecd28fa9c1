-- A state of processes of stack code that stands for one of what is run has the same steps.
use Rattle.std.proofs.Common.{◌≡◌, ℕ, zero, suc, ◌≤◌, Option, Some, None, List, [], ◌∷◌, replicate, refl, sym, subst, ◌∙◌, arith}
use Rattle.std.specs.Prelude.{is_some, slice_get}
use Rattle.std.specs.FinMap.{get}
use Rattle.fm_sched.specs.Schedule.{Step, IsLegal, next, play, used}
use Rattle.fm_net.specs.Correspondence.{BothOrNeither, StandsFor}
use Rattle.fm_net.specs.Machine.{Place, State}
use Rattle.fm_net.specs.Starts.{starts_along}
use Rattle.fm_proc_language.specs.Processes.{CodeProc, code_language}
use Rattle.fm_procs.specs.Pieces as code
use Rattle.fm_procs.specs.Readings.{code_step}
use Rattle.fm_procs.specs.Waiting as code_waiting
use Rattle.fm_run.specs.Orders as run_orders
use Rattle.fm_run.specs.Pieces as run
use Rattle.fm_run.specs.Plays.{Play, ended_at, language, step}
use Rattle.fm_run_code.specs.Coded.{IsCoded}

-- fewer steps of one actor are legal where more are
pub legal_part : {S A : Type 0} (step : Step S A) (s : S) (q : A) (n k : ℕ) → k ≤ n → IsLegal step s (replicate n q) → IsLegal step s (replicate k q)
legal_part step s q n zero low legal = tt
legal_part step s q zero (suc k) low legal = absurd (omega (arith, low))
legal_part step s q (suc n) (suc k) low legal = (legal.0, legal_part step (next step s q) q n k (omega (arith, low)) legal.1)

same_tail : (a b : List Place) → ◌≡◌ {A = List Place} ([] ∷ a) ([] ∷ b) → a ≡ b
same_tail a b e = cc e

module _ (p : Play) (Corresponds : CodeProc → p.Proc → Type 0) (IsLive : State p.Proc → Type 0) (coded : IsCoded p Corresponds IsLive) (s : State p.Proc) (t : State CodeProc) (stands : StandsFor Corresponds IsLive t s) where
  -- ---- steps

  pub legal_alike : (cs : List Place) → IsLegal code_step t cs → IsLegal (step p) s cs
  legal_alike cs legal = (coded.alike.runs.legal s t stands cs).1 legal

  pub stands_after : (cs : List Place) → IsLegal code_step t cs → StandsFor Corresponds IsLive (play code_step t cs) (play (step p) s cs)
  stands_after cs legal = coded.alike.runs.state s t stands cs (legal_alike cs legal)

  pub price_alike : (cs : List Place) → IsLegal code_step t cs → used (step p) s cs ≡ used code_step t cs
  price_alike cs legal = sym (coded.alike.runs.price s t stands cs (legal_alike cs legal))

  pub starts_alike : (cs : List Place) → IsLegal code_step t cs → starts_along (language p) s cs ≡ starts_along code_language t cs
  starts_alike cs legal = sym (same_tail (starts_along code_language t cs) (starts_along (language p) s cs) (coded.alike.starts s t stands cs (legal_alike cs legal)))

  module _ (q : Place) where
    pub steps_alike : is_some (code_step t q) ≡ is_some (step p s q)
    steps_alike = go (code_step t q) (step p s q) refl refl
      where
        go : (a : Option (State CodeProc × ℕ)) (b : Option (State p.Proc × ℕ)) → code_step t q ≡ a → step p s q ≡ b → is_some a ≡ is_some b
        go None None e f = refl
        go (Some a) (Some b) e f = refl
        go None (Some b) e f = let can = coded.alike.step.forth.can s t q stands (b, f) in absurd (cc (sym e ∙ can.1))
        go (Some a) None e f = let can = coded.alike.step.back s t q stands (a, e) in absurd (cc (sym f ∙ can.1))

    pub waits_alike : code_step t q ≡ None → step p s q ≡ None
    waits_alike none = go (step p s q) refl
      where
        go : (b : Option (State p.Proc × ℕ)) → step p s q ≡ b → b ≡ None
        go None f = refl
        go (Some b) f = let can = coded.alike.step.forth.can s t q stands (b, f) in absurd (cc (sym none ∙ can.1))

    pub local_at_alike : run.is_local_at p s q ≡ code.is_local_at t q
    local_at_alike = go (get t.procs q) (get s.procs q) refl (stands.procs q)
      where
        go : (n : Option CodeProc) (o : Option p.Proc) → get s.procs q ≡ o → BothOrNeither Corresponds n o → run.is_local_in p o ≡ code.is_local_in n
        go None None f both = refl
        go None (Some x) f both = absurd both
        go (Some y) None f both = absurd both
        go (Some y) (Some x) f both = sym (coded.local s stands.live q x y f both)

    pub ended_alike : code_waiting.ended_at (get t.procs q) ≡ ended_at p (get s.procs q)
    ended_alike = go (get t.procs q) (get s.procs q) (stands.procs q)
      where
        go : (n : Option CodeProc) (o : Option p.Proc) → BothOrNeither Corresponds n o → code_waiting.ended_at n ≡ ended_at p o
        go None None both = refl
        go None (Some x) both = absurd both
        go (Some y) None both = absurd both
        go (Some y) (Some x) both = coded.ended x y both

    -- who is there on one side is there on the other
    pub there_alike : (x : p.Proc) → get s.procs q ≡ Some x → (y : CodeProc) × (get t.procs q ≡ Some y) × Corresponds y x
    there_alike x is = go (get t.procs q) refl (get s.procs q) is (stands.procs q)
      where
        go : (n : Option CodeProc) → get t.procs q ≡ n → (o : Option p.Proc) → o ≡ Some x → BothOrNeither Corresponds n o → (y : CodeProc) × (get t.procs q ≡ Some y) × Corresponds y x
        go None e None f both = absurd (cc f)
        go None e (Some z) f both = absurd both
        go (Some y) e None f both = absurd both
        go (Some y) e (Some z) f both = (y, e, subst (Corresponds y) (the_one z x f) both)
          where
            the_one : (z x : p.Proc) → Some z ≡ Some x → z ≡ x
            the_one z x f = cc f

    pub back_alike : (y : CodeProc) → get t.procs q ≡ Some y → (x : p.Proc) × (get s.procs q ≡ Some x) × Corresponds y x
    back_alike y is = go (get s.procs q) refl (get t.procs q) is (stands.procs q)
      where
        go : (o : Option p.Proc) → get s.procs q ≡ o → (n : Option CodeProc) → n ≡ Some y → BothOrNeither Corresponds n o → (x : p.Proc) × (get s.procs q ≡ Some x) × Corresponds y x
        go None e None f both = absurd (cc f)
        go None e (Some z) f both = absurd both
        go (Some x) e None f both = absurd both
        go (Some x) e (Some z) f both = (x, e, subst (λ (w : CodeProc). Corresponds w x) (the_one z y f) both)
          where
            the_one : (z y : CodeProc) → Some z ≡ Some y → z ≡ y
            the_one z y f = cc f

    pub nobody_alike : get s.procs q ≡ None → get t.procs q ≡ None
    nobody_alike none = go (get t.procs q) refl (get s.procs q) none (stands.procs q)
      where
        go : (n : Option CodeProc) → get t.procs q ≡ n → (o : Option p.Proc) → o ≡ None → BothOrNeither Corresponds n o → n ≡ None
        go None e o f both = refl
        go (Some y) e None f both = absurd both
        go (Some y) e (Some x) f both = absurd (cc f)

  -- ---- by numbers

  can_in_alike : (o : Option Place) → code_waiting.can_in t o ≡ run_orders.can_in p s o
  can_in_alike None = refl
  can_in_alike (Some q) = steps_alike q

  pub can_alike : (places : List Place) (n : ℕ) → code_waiting.can_at t places n ≡ run_orders.can_at p s places n
  can_alike places n = can_in_alike (slice_get places n)

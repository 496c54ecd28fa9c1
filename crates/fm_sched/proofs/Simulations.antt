-- A machine that simulates another plays its schedules.
use Rattle.std.proofs.Common.{◌≡◌, ℕ, Option, Some, None, List, [], ◌∷◌, ◌+◌, refl, ap₂}
use Rattle.fm_sched.specs.Schedule.{Step, next, play, IsLegal, used, IsFinal, IsEnding}
use Rattle.fm_sched.specs.Simulation.{Simulates, IsBisimulation, DoTheSame}
use Rattle.fm_sched.proofs.Runs.{no_step}

module _ {S T A : Type 0} (step : Step S A) (other : Step T A) (StandsFor : T → S → Type 0) where
  module _ (sim : Simulates step other StandsFor) where
    pub stands_after : (cs : List A) (s : S) (t : T) → StandsFor t s → IsLegal step s cs → StandsFor (play other t cs) (play step s cs)
    stands_after [] s t stands legal = stands
    stands_after (c ∷ cs) s t stands legal = stands_after cs (next step s c) (next other t c) (sim.stands s t c stands legal.0) legal.1

    pub legal_too : (cs : List A) (s : S) (t : T) → StandsFor t s → IsLegal step s cs → IsLegal other t cs
    legal_too [] s t stands legal = tt
    legal_too (c ∷ cs) s t stands legal = (sim.can s t c stands legal.0, legal_too cs (next step s c) (next other t c) (sim.stands s t c stands legal.0) legal.1)

    pub used_too : (cs : List A) (s : S) (t : T) → StandsFor t s → IsLegal step s cs → used other t cs ≡ used step s cs
    used_too [] s t stands legal = refl
    used_too (c ∷ cs) s t stands legal =
        ap₂ (λ m n. m + n) (sim.costs s t c stands legal.0) (used_too cs (next step s c) (next other t c) (sim.stands s t c stands legal.0) legal.1)

  module _ (bi : IsBisimulation step other StandsFor) where
    pub legal_back : (cs : List A) (s : S) (t : T) → StandsFor t s → IsLegal other t cs → IsLegal step s cs
    legal_back [] s t stands legal = tt
    legal_back (c ∷ cs) s t stands legal =
        let can = bi.back s t c stands legal.0 in
        (can, legal_back cs (next step s c) (next other t c) (bi.forth.stands s t c stands can) legal.1)

    -- where the one can do nothing more, the other can't
    pub final_too : (s : S) (t : T) → StandsFor t s → IsFinal step s → IsFinal other t
    final_too s t stands done p = go (other t p) refl
      where
        go : (o : Option (T × ℕ)) → other t p ≡ o → o ≡ None
        go None is = refl
        go (Some r) is = absurd (no_step step s p (bi.back s t p stands (r, is)) (done p))

    pub final_back : (s : S) (t : T) → StandsFor t s → IsFinal other t → IsFinal step s
    final_back s t stands done p = go (step s p) refl
      where
        go : (o : Option (S × ℕ)) → step s p ≡ o → o ≡ None
        go None is = refl
        go (Some r) is = absurd (no_step other t p (bi.forth.can s t p stands (r, is)) (done p))

    pub ends_too : (cs : List A) (s : S) (t : T) → StandsFor t s → IsEnding step s cs → IsEnding other t cs
    ends_too cs s t stands ends = (legal_too bi.forth cs s t stands ends.0, final_too (play step s cs) (play other t cs) (stands_after bi.forth cs s t stands ends.0) ends.1)

    pub ends_back : (cs : List A) (s : S) (t : T) → StandsFor t s → IsEnding other t cs → IsEnding step s cs
    ends_back cs s t stands ends =
        let legal = legal_back cs s t stands ends.0 in
        (legal, final_back (play step s cs) (play other t cs) (stands_after bi.forth cs s t stands legal) ends.1)

    pub do_the_same : DoTheSame step other StandsFor
    do_the_same = record {
      legal = λ s t stands cs. (legal_too bi.forth cs s t stands, legal_back cs s t stands);
      state = λ s t stands cs. stands_after bi.forth cs s t stands;
      price = λ s t stands cs. used_too bi.forth cs s t stands;
      final = λ s t stands. (final_too s t stands, final_back s t stands);
      ends = λ s t stands cs. (ends_too cs s t stands, ends_back cs s t stands);
    }

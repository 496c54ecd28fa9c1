-- Full pieces: as many steps as a slice lets a process make are a certain number.
use Rattle.std.proofs.Common.{◌≡◌, ◌⊎◌, inl, inr, ℕ, zero, suc, ◌+◌, ◌<◌, ◌≤◌, Bool, true, false, None, replicate, refl, sym, ◌∙◌, subst, arith}
use Rattle.fm_sched.specs.Schedule.{IsLegal, Step, next}
use Rattle.fm_sched.proofs.Runs.{can_repeat, no_step}
use Rattle.fm_net.specs.Machine.{Place, State}
use Rattle.fm_run.specs.Pieces.{IsFull, after_steps, is_local_at}
use Rattle.fm_run.specs.Plays.{Play, step}

-- fewer steps of one actor are legal where more are
pub legal_part : {S A : Type 0} (step : Step S A) (s : S) (c : A) (n k : ℕ) → k ≤ n → IsLegal step s (replicate n c) → IsLegal step s (replicate k c)
legal_part step s c n zero low legal = tt
legal_part step s c zero (suc k) low legal = absurd (omega (arith, low))
legal_part step s c (suc n) (suc k) low legal = (legal.0, legal_part step (next step s c) c n k (omega (arith, low)) legal.1)

module _ (program : Play) (slice : ℕ) (s : State program.Proc) (p : Place) where
  abbrev Full : ℕ → Type 0
  Full n = IsFull program slice true s p n

  -- whether its next step behind so many is its own
  abbrev local : ℕ → Bool
  local n = is_local_at program (after_steps program s p n) p

  -- where fewer are a full piece, more aren't
  not_more : (m n : ℕ) → Full m → Full n → m < n → ⊥
  not_more m n f g low = go f.stops
    where
      within : n ≤ slice + 1
      within = g.within

      own : m ≡ slice → local m ≡ true → ((n ≡ slice) × (true ≡ true → local n ≡ true)) ⊎ (((k : ℕ) × (n ≡ k + 1) × (local k ≡ false)) ⊎ ((n ≤ slice) × (step program (after_steps program s p n) p ≡ None))) → ⊥
      own all is (inl h) = absurd (omega (arith, all, h.0, low))
      own all is (inr (inl h)) =
          let same : h.0 ≡ m = omega (arith, all, h.1, low, within) in
          let other : local m ≡ false = subst (λ (k : ℕ). local k ≡ false) same h.2 in
          absurd (cc (sym is ∙ other))
      own all is (inr (inr h)) = absurd (omega (arith, all, h.0, low))

      go : ((m ≡ slice) × (true ≡ true → local m ≡ true)) ⊎ (((k : ℕ) × (m ≡ k + 1) × (local k ≡ false)) ⊎ ((m ≤ slice) × (step program (after_steps program s p m) p ≡ None))) → ⊥
      go (inl h) = own h.0 (h.1 refl) g.stops
      go (inr (inl h)) = let is = g.before h.0 (omega (arith, h.1, low)) in absurd (cc (sym is ∙ h.2))
      go (inr (inr h)) =
          no_step (step program) (after_steps program s p m) p (can_repeat (step program) s m p (legal_part (step program) s p n (m + 1) (omega (arith, low)) g.can)) h.1

  pub one_full : (m n : ℕ) → Full m → Full n → m ≡ n
  one_full m n f g = go (low_or_high m n) (low_or_high n m)
    where
      low_or_high : (a b : ℕ) → (a < b) ⊎ (b ≤ a)
      low_or_high a b = grind arith

      go : (m < n) ⊎ (n ≤ m) → (n < m) ⊎ (m ≤ n) → m ≡ n
      go (inl low) other = absurd (not_more m n f g low)
      go (inr high) (inl low) = absurd (not_more n m g f low)
      go (inr high) (inr more) = omega (arith, high, more)

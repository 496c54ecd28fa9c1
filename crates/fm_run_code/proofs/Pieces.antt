-- A piece of stack code is a piece of what is run, and what is new there is new here.
use Rattle.std.proofs.Common.{◌≡◌, ◌⊎◌, inl, inr, ℕ, ◌+◌, ◌≤◌, Bool, true, false, Option, Some, None, replicate, refl, sym, ap, subst, ◌∙◌, arith}
use Rattle.std.specs.FinMap.{get}
use Rattle.fm_base.specs.Channels.{Chan}
use Rattle.fm_finmap.specs.Sums.{value_or_zero}
use Rattle.fm_sched.specs.Schedule.{IsLegal}
use Rattle.fm_net.specs.Correspondence.{StandsFor}
use Rattle.fm_net.specs.Lawful.{IsLawfulAsk, Numbered}
use Rattle.fm_net.specs.Machine.{Ask, Go, New, Place, State, Stop, child}
use Rattle.fm_net.specs.Owned.{name_of, present}
use Rattle.fm_proc_language.specs.Processes.{CodeProc}
use Rattle.fm_proc_events.specs.Performs.{MakesNew}
use Rattle.fm_procs.specs.Pieces as code
use Rattle.fm_procs.specs.Pieces.{IsNewAlong, IsNewAt}
use Rattle.fm_procs.specs.Readings.{code_step}
use Rattle.fm_net_procs.specs.declared.piece.Piece.{Piece}
use Rattle.fm_run.specs.Pieces as run
use Rattle.fm_run.specs.Plays.{Play, ask, language, need_in, step}
use Rattle.fm_run_code.specs.Coded.{IsCoded}
use Rattle.fm_run_code.proofs.Standing.{back_alike, legal_alike, legal_part, local_at_alike, nobody_alike, price_alike, stands_after, starts_alike, waits_alike}

module _ (p : Play) (Corresponds : CodeProc → p.Proc → Type 0) (IsLive : State p.Proc → Type 0) (coded : IsCoded p Corresponds IsLive) (s : State p.Proc) (t : State CodeProc) (stands : StandsFor Corresponds IsLive t s) (q : Place) where
  -- ---- pieces

  module _ (slice : ℕ) (spare : Bool) (r : Piece) (after : State CodeProc) (piece : code.IsPiece slice spare t q r after) where
    legal : IsLegal code_step t (replicate r.steps q)
    legal = piece.full.can

    local_after : (k : ℕ) → k ≤ r.steps → run.is_local_at p (run.after_steps p s q k) q ≡ code.is_local_at (code.after_steps t q k) q
    local_after k low =
        local_at_alike p Corresponds IsLive coded (run.after_steps p s q k) (code.after_steps t q k) (stands_after p Corresponds IsLive coded s t stands (replicate k q) (legal_part code_step t q r.steps k low legal)) q

    within : (b : Bool) → r.steps ≤ code.most_steps slice b → r.steps ≤ run.most_steps slice b
    within true h = h
    within false h = h

    stops : ((r.steps ≡ slice) × (spare ≡ true → code.is_local_at (code.after_steps t q r.steps) q ≡ true))
        ⊎ (((k : ℕ) × (r.steps ≡ k + 1) × (code.is_local_at (code.after_steps t q k) q ≡ false)) ⊎ ((r.steps ≤ slice) × (code_step (code.after_steps t q r.steps) q ≡ None)))
        → ((r.steps ≡ slice) × (spare ≡ true → run.is_local_at p (run.after_steps p s q r.steps) q ≡ true))
        ⊎ (((k : ℕ) × (r.steps ≡ k + 1) × (run.is_local_at p (run.after_steps p s q k) q ≡ false)) ⊎ ((r.steps ≤ slice) × (step p (run.after_steps p s q r.steps) q ≡ None)))
    stops (inl h) = inl (h.0, λ e. local_after r.steps (omega arith) ∙ h.1 e)
    stops (inr (inl h)) = inr (inl (h.0, h.1, local_after h.0 (omega (arith, h.1)) ∙ h.2))
    stops (inr (inr h)) = inr (inr (h.0, waits_alike p Corresponds IsLive coded (run.after_steps p s q r.steps) (code.after_steps t q r.steps) (stands_after p Corresponds IsLive coded s t stands (replicate r.steps q) legal) q h.1))

    -- the state to which it leads stands for that of so many steps of what is run
    pub piece_stands : StandsFor Corresponds IsLive after (run.after_steps p s q r.steps)
    piece_stands = subst (λ (u : State CodeProc). StandsFor Corresponds IsLive u (run.after_steps p s q r.steps)) piece.makes.leads.there (stands_after p Corresponds IsLive coded s t stands (replicate r.steps q) legal)

    pub piece_alike : (later : State p.Proc) → later ≡ run.after_steps p s q r.steps → (w : Piece) → w ≡ record { steps = r.steps; cost = r.cost; block = r.block; started = r.started } → run.IsPiece p slice spare s q w later
    piece_alike later later_is w w_is =
        subst (λ (w : Piece). run.IsPiece p slice spare s q w later) (sym w_is)
        (record {
          makes = record {
            leads = record {
              legal = legal_alike p Corresponds IsLive coded s t stands (replicate r.steps q) legal;
              there = sym later_is;
              price_is = price_alike p Corresponds IsLive coded s t stands (replicate r.steps q) legal ∙ piece.makes.leads.price_is;
            };
            starts_are = starts_alike p Corresponds IsLive coded s t stands (replicate r.steps q) legal ∙ piece.makes.starts_are;
          };
          some_steps = piece.some_steps;
          full = record {
            can = legal_alike p Corresponds IsLive coded s t stands (replicate r.steps q) legal;
            within = within spare piece.full.within;
            before = λ k low. local_after k (omega (arith, low)) ∙ piece.full.before k low;
            stops = stops piece.full.stops;
          };
        })

  -- ---- what is new

  module _ (y : CodeProc) (is : get t.procs q ≡ Some y) where
    there : (x : p.Proc) × (get s.procs q ≡ Some x) × Corresponds y x
    there = back_alike p Corresponds IsLive coded s t stands q y is

    abbrev x : p.Proc
    x = there.0

    -- the channel that it makes has the number of the next one
    numbered : (number writers : ℕ) → (k : Ask p.Proc) → IsLawfulAsk (language p) x k → need_in k ≡ Some (New number writers) → number ≡ p.speaks.next_channel x
    numbered number writers Stop law e = absurd (cc e)
    numbered number writers (Go need f) law e = let same : need ≡ New number writers = cc e in subst (Numbered (p.speaks.next_channel x)) same law.numbered

    unnamed : (number : ℕ) → number ≡ p.speaks.next_channel x → (o : Option Chan) → get s.chans (name_of q number) ≡ o → o ≡ None
    unnamed number number_is None e = refl
    unnamed number number_is (Some ch) e =
        absurd (omega (arith, (coded.owned s stands.live).named q number (omega (arith, ap present e)), ap (value_or_zero (λ (z : p.Proc). p.speaks.next_channel z)) there.1, number_is))

    pub makes_new : MakesNew q y t.chans
    makes_new number writers needs =
        ap (λ m. get m (name_of q number)) stands.chans
        ∙ unnamed number (numbered number writers (ask p x) ((coded.lawful s stands.live).lawful.goes x) (sym (coded.needs s stands.live q x y there.1 there.2) ∙ needs)) (get s.chans (name_of q number)) refl

    pub unborn : (i : ℕ) → get t.procs (child q y.next_block i) ≡ None
    unborn i = nobody_alike p Corresponds IsLive coded s t stands (child q y.next_block i) (ap (λ (b : ℕ). get s.procs (child q b i)) (coded.next_block x y there.2) ∙ go (get s.procs (child q (p.speaks.next_block x) i)) refl)
      where
        go : (o : Option p.Proc) → get s.procs (child q (p.speaks.next_block x) i) ≡ o → get s.procs (child q (p.speaks.next_block x) i) ≡ None
        go None e = e
        go (Some z) e =
            absurd (omega (arith, (coded.owned s stands.live).born q (p.speaks.next_block x) i (omega (arith, ap present e)), ap (value_or_zero (λ (z : p.Proc). p.speaks.next_block z)) there.1))

  pub new_at : IsNewAt t q
  new_at = record { channel = makes_new; children = unborn }

-- wherever the steps of a process lead, what it makes is new
pub new_along : (p : Play) (Corresponds : CodeProc → p.Proc → Type 0) (IsLive : State p.Proc → Type 0) (coded : IsCoded p Corresponds IsLive) (s : State p.Proc) (t : State CodeProc) → StandsFor Corresponds IsLive t s → (q : Place) → IsNewAlong t q
new_along p Corresponds IsLive coded s t stands q k legal = new_at p Corresponds IsLive coded (run.after_steps p s q k) (code.after_steps t q k) (stands_after p Corresponds IsLive coded s t stands (replicate k q) legal) q

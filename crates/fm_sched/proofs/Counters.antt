-- The premise of the exchange law is met by two counters, shown on moves.
use Rattle.std.proofs.Common.{◌≡◌, ◌≢◌, ℕ, Option, Some, None, List, Bool, true, false, option_map, refl, ap}
use Rattle.fm_sched.specs.Schedule.{IsEnding, Diamond, Throughout, Settles}
use Rattle.fm_sched.specs.Counters.{one_less, counter_step}
use Rattle.fm_sched.proofs.Moves.{MovesMeet, diamond}
use Rattle.fm_sched.proofs.Fronts.{settles_from}

-- the actor's counter isn't 0
abbrev Move : ℕ × ℕ → Bool → Type 0
Move s true = (n : ℕ) × (one_less s.0 ≡ Some n)
Move s false = (n : ℕ) × (one_less s.1 ≡ Some n)

abbrev end : (s : ℕ × ℕ) (p : Bool) → Move s p → (ℕ × ℕ) × ℕ
end s true m = ((m.0, s.1), 1)
end s false m = ((s.0, m.0), 1)

found : {S : Type 0} (go : ℕ → S) (r : S) (o : Option ℕ) → option_map go o ≡ Some r → (n : ℕ) × (o ≡ Some n)
found go r None e = absurd (cc e)
found go r (Some n) e = (n, refl)

took : (s : ℕ × ℕ) (p : Bool) (r : (ℕ × ℕ) × ℕ) → counter_step s p ≡ Some r → Move s p
took s true r e = found _ r (one_less s.0) e
took s false r e = found _ r (one_less s.1) e

takes : (s : ℕ × ℕ) (p : Bool) (m : Move s p) → counter_step s p ≡ Some (end s p m)
takes s true m = ap (option_map (λ n. ((n, s.1), 1))) m.1
takes s false m = ap (option_map (λ n. ((s.0, n), 1))) m.1

meet : (s : ℕ × ℕ) (p q : Bool) → (p ≢ q) → (m : Move s p) (n : Move s q) → MovesMeet Move end s p q m n
meet s true true apart m n = absurd (apart refl)
meet s true false apart m n = record { first = m; second = n; one_state = refl; first_cost = refl; second_cost = refl }
meet s false true apart m n = record { first = m; second = n; one_state = refl; first_cost = refl; second_cost = refl }
meet s false false apart m n = absurd (apart refl)

pub counters_commute : (start : ℕ × ℕ) → Throughout counter_step (Diamond counter_step) start
counters_commute start cs legal = diamond counter_step Move end took takes _ (meet _)

same_actor : (p q : Bool) → Dec (p ≡ q)
same_actor true true = yes refl
same_actor true false = no (λ e. cc e)
same_actor false true = no (λ e. cc e)
same_actor false false = yes refl

pub counters_settle : (start : ℕ × ℕ) (cs : List Bool) → IsEnding counter_step start cs → Settles counter_step start cs
counters_settle start cs ends = settles_from counter_step start same_actor (counters_commute start) cs ends

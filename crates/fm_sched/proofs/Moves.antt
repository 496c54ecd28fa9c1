-- The diamond from moves. A move is a step taken apart: what a machine finds on the way to it. Where each
-- step is a move and each move a step, the diamond is shown on moves, with no Option in sight.
use Rattle.std.proofs.Common.{◌≡◌, ◌≢◌, ℕ, Some, sym, ap, ◌∙◌, subst}
use Rattle.fm_sched.specs.Schedule.{Step, Can, next, cost, Stays, Diamond}
use Rattle.fm_sched.proofs.Runs.{next-Some, cost-Some}

-- after each of two moves the other is there, and they end in one state at their own costs
pub record MovesMeet {S A : Type 0} (Move : S → A → Type 0) (end : (s : S) (p : A) → Move s p → S × ℕ) (s : S) (p q : A) (m : Move s p) (n : Move s q) : Type 0 where
  pub first : Move (end s q n).0 p
  pub second : Move (end s p m).0 q
  pub one_state : (end (end s q n).0 p first).0 ≡ (end (end s p m).0 q second).0
  pub first_cost : (end (end s q n).0 p first).1 ≡ (end s p m).1
  pub second_cost : (end (end s p m).0 q second).1 ≡ (end s q n).1

module _ {S A : Type 0} (step : Step S A) (Move : S → A → Type 0) (end : (s : S) (p : A) → Move s p → S × ℕ)
    (took : (s : S) (p : A) (r : S × ℕ) → step s p ≡ Some r → Move s p)
    (takes : (s : S) (p : A) (m : Move s p) → step s p ≡ Some (end s p m)) where
  pub next_is : (s : S) (p : A) (m : Move s p) → next step s p ≡ (end s p m).0
  next_is s p m = next-Some step s p (end s p m) (takes s p m)

  pub cost_is : (s : S) (p : A) (m : Move s p) → cost step s p ≡ (end s p m).1
  cost_is s p m = cost-Some step s p (end s p m) (takes s p m)

  pub can_is : (s : S) (p : A) (m : Move s p) → Can step s p
  can_is s p m = (end s p m, takes s p m)

  module _ (s : S) where
    -- a move of q leaves p a move
    pub stays_by_moves : ((p q : A) → (p ≢ q) → (m : Move s p) (n : Move s q) → Move (end s q n).0 p) → Stays step s
    stays_by_moves stay p q apart a b =
        let n = took s q b.0 b.1 in
        subst (λ x. Can step x p) (sym (next_is s q n)) (can_is (end s q n).0 p (stay p q apart (took s p a.0 a.1) n))

    module _ (meets : (p q : A) → (p ≢ q) → (m : Move s p) (n : Move s q) → MovesMeet Move end s p q m n) where
      met : (p q : A) → (p ≢ q) → (a : Can step s p) (b : Can step s q) → MovesMeet Move end s p q (took s p a.0 a.1) (took s q b.0 b.1)
      met p q apart a b = meets p q apart (took s p a.0 a.1) (took s q b.0 b.1)

      pub diamond : Diamond step s
      diamond = record {
        stays = stays_by_moves (λ p q apart m n. (meets p q apart m n).first);
        meets = record {
          one_state = λ p q apart a b.
              let d = met p q apart a b in
              ap (λ x. next step x q) (next_is s p (took s p a.0 a.1)) ∙ next_is _ q d.second ∙ sym (ap (λ x. next step x p) (next_is s q (took s q b.0 b.1)) ∙ next_is _ p d.first ∙ d.one_state);
          one_cost = λ p q apart a b.
              let d = met p q apart a b in
              ap (λ x. cost step x p) (next_is s q (took s q b.0 b.1)) ∙ cost_is _ p d.first ∙ d.first_cost ∙ sym (cost_is s p (took s p a.0 a.1));
        };
      }

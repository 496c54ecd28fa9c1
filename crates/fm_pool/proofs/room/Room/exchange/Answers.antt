use Rattle.std.proofs.Common.{◌≡◌, Bool, true, false, Option, None, Result, Ok, Err, inl, inr, refl}
use Rattle.std.specs.Result.{MatchResult}
use Rattle.fm_base.specs.declared.memory.NoMemory.{NoMemory}
use Rattle.fm_workers.specs.declared.shared.Given.{Given}
use Rattle.fm_pool.specs.Desks.{IsBrought, IsExchanged, IsNextAt, IsSame, IsServed}
use Rattle.fm_pool.specs.declared.desk.Desk.{Desk}
use Rattle.fm_pool.specs.declared.desk.Next.{Next}
use Rattle.fm_pool.proofs.room.Room.exchange.Goals as goal

module _ {T D P : Type 0} (gives : D → T → Result Given (D × NoMemory) → T → Type 0) (step : Next P → Desk T → Desk T → Type 0) where
  -- what was brought, and what came next
  goes_on : (done : Result D NoMemory) (b : Bool) (a c : T) (handed : Option P) → b ≡ true
      → MatchResult done (λ d. IsBrought gives IsSame d b a c) (λ _. b ≡ false) → IsServed step handed
      → MatchResult done (λ d. IsExchanged gives step d handed) (λ _. handed ≡ None)
  goes_on (Ok d) true a c handed is brought served = inl ((a, c, brought), served)
  goes_on (Ok d) false a c handed is brought served = absurd cc
  goes_on (Err e) true a c handed is brought served = absurd cc
  goes_on (Err e) false a c handed is brought served = absurd cc

  stops : (done : Result D NoMemory) (b : Bool) (a c : T) → b ≡ false
      → MatchResult done (λ d. IsBrought gives IsSame d b a c) (λ _. b ≡ false)
      → MatchResult done (λ d. IsExchanged gives step d None) (λ _. ◌≡◌ {A = Option P} None None)
  stops (Ok d) true a c is brought = absurd cc
  stops (Ok d) false a c is brought = inr ((a, c, brought), refl)
  stops (Err e) b a c is brought = refl

pub returns-then-bring : goal.returns-then-bring
returns-then-bring g c =
    goes_on {P = g.row.T-Piece.Denot} g.T.SharedTable.give_does
    (IsNextAt g.T.SharedTable.take_does g.T.SharedTable.turn_does g.T.SharedTable.phase_tells c.args.light c.args.worker) c.args.done
    c.bring.result c.deref_mut.result.now.table c.bring.new.self.table c.next_at.result c.if-bring.true c.bring.ensures.brought c.next_at.ensures

pub returns : goal.returns
returns g c =
    stops {P = g.row.T-Piece.Denot} g.T.SharedTable.give_does
    (IsNextAt g.T.SharedTable.take_does g.T.SharedTable.turn_does g.T.SharedTable.phase_tells c.args.light c.args.worker) c.args.done
    c.bring.result c.deref_mut.result.now.table c.bring.new.self.table c.if-bring.false c.bring.ensures.brought

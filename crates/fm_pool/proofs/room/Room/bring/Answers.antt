use Rattle.std.proofs.Common.{◌≡◌, Bool, false, Result, Ok, Err}
use Rattle.std.specs.Result.{MatchResult}
use Rattle.fm_base.specs.declared.memory.NoMemory.{NoMemory}
use Rattle.fm_workers.specs.declared.shared.Given.{Given}
use Rattle.fm_pool.specs.Desks.{HasBrought, IsBrought, IsSame}
use Rattle.fm_pool.proofs.room.Room.bring.Goals as goal

module _ {T D : Type 0} (gives : D → T → Result Given (D × NoMemory) → T → Type 0) where
  -- it was brought to some table
  somewhere : (done : Result D NoMemory) (b : Bool) (a c : T) → MatchResult done (λ d. IsBrought gives IsSame d b a c) (λ _. b ≡ false)
      → MatchResult done (λ d. HasBrought gives d b) (λ _. b ≡ false)
  somewhere (Ok d) b a c brought = (a, c, brought)
  somewhere (Err e) b a c brought = brought

pub returns-then-given : goal.returns-then-given
returns-then-given g c =
    somewhere g.T.SharedTable.give_does c.args.done c.bring-given.result c.deref_mut.result.now.table c.bring-given.new.self.table c.bring-given.ensures.brought

pub returns-else-given : goal.returns-else-given
returns-else-given g c =
    somewhere g.T.SharedTable.give_does c.args.done c.bring-given.result c.deref_mut.result.now.table c.bring-given.new.self.table c.bring-given.ensures.brought

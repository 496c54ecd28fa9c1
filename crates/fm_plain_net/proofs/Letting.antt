-- A step of its own by which a process lets ports go.
use Rattle.std.proofs.Common.{◌≡◌, ◌<◌, ℕ, Some, None, List, [], ◌∷◌, ◌++◌, length, refl, sym, ap, subst, ◌∙◌, append-nil, arith}
use Rattle.std.specs.FinMap.{get, insert}
use Rattle.fm_base.specs.declared.port.PortValue.{PortValue}
use Rattle.fm_base.specs.Channels.{all_shed}
use Rattle.fm_finmap.specs.Changes.{alter, alters}
use Rattle.fm_net.specs.Machine.{Place, Procs, State, Nothing, Onward, changes, reply_with, start_changes}
use Rattle.fm_net.specs.Owned.{IsOwned}
use Rattle.fm_net.specs.Starts.{starts_at}
use Rattle.fm_net.proofs.Cases.{local_step}
use Rattle.fm_net.proofs.Orders.{starts_served}
use Rattle.fm_net.proofs.Taken.{Starts}
use Rattle.fm_rules.specs.declared.program.Program.{Program}
use Rattle.fm_mean.specs.Process.{Execution, Proc, emptied}
use Rattle.fm_mean.specs.Actions as mean
use Rattle.fm_mean.specs.Actions.{Action, Own, Meets, action_of, gone_on, local_by, local_in}
use Rattle.fm_mean.specs.Steps.{ask_for, language, onward, step}
use Rattle.fm_plain.specs.Steps.{own_in}
use Rattle.fm_plain_net.specs.declared.ports.Ports.{Ports}
use Rattle.fm_plain_net.specs.Held.{HeldAreKept, MayDrop, StayBut}
use Rattle.fm_plain_net.proofs.Balance.{held_after, may_go_on}
use Rattle.fm_plain_net.proofs.Performing.{drops_these}

-- its own step
record OwnAction (x : Proc) (a : Action) (y : Proc) (drops : List PortValue) (cost : ℕ) : Type 0 where
  execution : Execution
  lines : List (List ℕ)
  is : a ≡ Own execution lines drops cost
  gone : gone_on x execution lines ≡ y

same_three : (a b : Proc × List PortValue × ℕ) → Some a ≡ Some b → a ≡ b
same_three a b e = cc e

own_told : (x : Proc) (a : Action) (y : Proc) (drops : List PortValue) (cost : ℕ) → own_in x a ≡ Some (y, drops, cost) → OwnAction x a y drops cost
own_told x mean.Rest y drops cost e = absurd (cc e)
own_told x (Own w lines zs n) y drops cost e =
    let k = same_three (gone_on x w lines, zs, n) (y, drops, cost) e in
    record { execution = w; lines = lines; is = ap (λ (t : Proc × List PortValue × ℕ). Own w lines t.1 t.2) k; gone = ap (λ (t : Proc × List PortValue × ℕ). t.0) k }
own_told x (Meets event) y drops cost e = absurd (cc e)

only_self : (p : Place) (o : Onward Proc) (m : Procs Proc) → o.starts ≡ [] → insert m p o.self ≡ alters (changes emptied p Nothing o) m
unfolding alter
only_self p o m none = ap (λ xs. alters ((p, λ v. Some o.self) ∷ (start_changes p o.block 1 xs ++ [])) m) (sym none)

module _ (program : Program) (s : State Proc) (p : Place) (x : Proc) (is : get s.procs p ≡ Some x) (owned : IsOwned (language program) s) (ports : Ports) (held : HeldAreKept program ports s.procs)
    (y : Proc) (drops : List PortValue) (cost : ℕ) (own : own_in x (action_of program x) ≡ Some (y, drops, cost)) where
  told : OwnAction x (action_of program x) y drops cost
  told = own_told x (action_of program x) y drops cost own

  out : Onward Proc
  out = onward x (gone_on x told.execution told.lines) [] drops cost

  start : Starts (language program) s p
  start = record { self = x; is = is; need = Nothing; goes = λ c r. onward x (gone_on x told.execution told.lines) [] drops cost; asks = ap (ask_for program x) told.is; reply = reply_with []; serves = refl }

  pub own_drops : MayDrop ports [] drops
  unfolding start
  own_drops = (may_go_on program s owned p start ports held).drops

  pub own_step : step program s p ≡ Some (record { procs = insert s.procs p y; chans = all_shed drops s.chans }, cost)
  own_step =
      local_step (language program) s p x is (λ c r. onward x (gone_on x told.execution told.lines) [] drops cost) (onward x (gone_on x told.execution told.lines) [] drops cost) (ap (ask_for program x) told.is) refl refl
      ∙ ap (λ (z : Proc). Some (record { procs = insert s.procs p z; chans = all_shed drops s.chans }, cost)) told.gone

  pub own_starts : starts_at (language program) s p ≡ []
  unfolding start
  own_starts = starts_served (language program) s p start

  pub own_held : (later : Ports) → StayBut drops ports later → HeldAreKept program later (insert s.procs p y)
  unfolding start
  own_held later stay =
      held_after program s owned p start ports held later (drops_these (drops ++ []) ports later (subst (λ zs. StayBut zs ports later) (sym (append-nil drops)) stay)) (insert s.procs p y)
      (sym (only_self p (onward x (gone_on x told.execution told.lines) [] drops cost) s.procs refl) ∙ ap (insert s.procs p) told.gone)

  some_drops : (z : Proc) (zs : List PortValue) → 0 < length zs → local_by z zs cost ≡ None
  some_drops z [] some = absurd (omega (arith, some))
  some_drops z (w ∷ zs) some = refl

  pub own_shared : 0 < length drops → mean.local_step program x ≡ None
  own_shared some = ap (local_in x) told.is ∙ some_drops (gone_on x told.execution told.lines) drops some

-- an event isn't local
pub event_shared : (program : Program) (x : Proc) (e : mean.Event) → action_of program x ≡ Meets e → mean.local_step program x ≡ None
event_shared program x e does = ap (local_in x) does

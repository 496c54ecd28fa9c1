-- What a process does, at its place among the processes.
use Rattle.std.proofs.Common.{◌≡◌, ◌≢◌, ◌≤◌, ℕ, false, Some, None, Result, Ok, Err, ap, refl, subst, arith}
use Rattle.std.specs.Prelude.{IfOk}
use Rattle.fm_net.specs.Machine.{Place}
use Rattle.fm_proc_language.specs.Needs.{is_local}
use Rattle.fm_proc_language.specs.Processes.{CodeProc, Phase, Running, Joining, Ended, Faulted, emptied}
use Rattle.fm_procs.specs.declared.advancing.Advanced.{Advanced}
use Rattle.fm_procs.specs.Runs.{Runs}
use Rattle.fm_machine_calls.specs.declared.looking.Look.TheVariants.{Stuck}
use Rattle.fm_proc_events.specs.Told.{look_by, look_of}
use Rattle.fm_procs.specs.Readings.{code_of, Entries, Entry, proc_in, procs_of}
use Rattle.fm_procs.specs.Stepping.{AdvancesAt}
use Rattle.fm_net_procs.proofs.Maps.{Puts, puts_one}

-- who stands at the place did it, and it alone changed
module _ (p : Place) (y w : CodeProc) (same : Some w ≡ Some y) (old new : Entries) (x : Entry) (puts : Puts old new p x) where
  one : w ≡ y
  one = cc same

  pub advances_at : (slice : ℕ) (a : Advanced) → Runs w a.steps a.cost (proc_in x) → a.steps ≤ slice → a.next ≡ look_of (proc_in x) → (a.steps ≢ slice → is_local (proc_in x) ≡ false) → AdvancesAt slice p y a (procs_of old) (procs_of new)
  advances_at slice a runs within next stops = record {
    after = proc_in x;
    runs = subst (λ (v : CodeProc). Runs v a.steps a.cost (proc_in x)) one runs;
    within = within;
    next = next;
    stops = stops;
    procs_are = puts_one code_of old new p x puts;
  }

  -- so does one who gets the end of a slice
  pub given_at : (slice : ℕ) (a : Advanced) → Runs w a.steps a.cost (proc_in x) → a.steps ≡ slice → a.next ≡ look_of (proc_in x) → AdvancesAt slice p y a (procs_of old) (procs_of new)
  given_at slice a runs whole next = advances_at slice a runs (omega (arith, whole)) next (λ few. absurd (few whole))

-- who made statements of its own runs still
pub same_phase : (w z : CodeProc) (steps cost : ℕ) → Runs w steps cost z → z.phase ≡ w.phase
same_phase w z steps cost runs = ap (λ (v : CodeProc). v.phase) runs.is_after

-- nothing is told of who was emptied
pub emptied_stuck : (y : CodeProc) → look_of (emptied y) ≡ Stuck
emptied_stuck y = go y.phase
  where
    go : (phase : Phase) → look_by phase None ≡ Stuck
    go Running = refl
    go (Joining block kids) = refl
    go Ended = refl
    go (Faulted line fault) = refl

-- two facts of one result
pub two_ok : {T E : Type 0} {A B C : T → Type 0} (r : Result T E) → ((x : T) → A x → B x → C x) → IfOk r A → IfOk r B → IfOk r C
two_ok (Ok x) f a b = f x a b
two_ok (Err e) f a b = tt

-- three facts of one result
pub three_ok : {T E : Type 0} {A B C F : T → Type 0} (r : Result T E) → ((x : T) → A x → B x → C x → F x) → IfOk r A → IfOk r B → IfOk r C → IfOk r F
three_ok (Ok x) f a b c = f x a b c
three_ok (Err e) f a b c = tt

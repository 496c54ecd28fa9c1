-- Who can step waits for none of its children.
use Rattle.std.proofs.Common.{◌≡◌, ℕ, ◌+◌, ◌<◌, Bool, true, false, Option, Some, None, List, [], ◌∷◌, length, refl, sym, ap, ◌∙◌, arith}
use Rattle.std.specs.Prelude.{is_some, slice_get}
use Rattle.std.specs.FinMap.{get}
use Rattle.fm_net.specs.Machine.{Children, Place, State, child, gathered}
use Rattle.fm_net_procs.specs.Waiting.{need_in}
use Rattle.fm_net_procs.specs.Readings.{ended_at as table_ended}
use Rattle.fm_net_procs.proofs.Awaiting.{two}
use Rattle.fm_net_procs.proofs.Family.{not_all_ended}
use Rattle.fm_rules.specs.declared.program.Program.{Program}
use Rattle.fm_mean.specs.Actions.{Join, action_in, after_at, joining}
use Rattle.fm_mean.specs.Names.{unit_at}
use Rattle.fm_mean.specs.Outcome.{ended_at}
use Rattle.fm_mean.specs.Process.{Ended, Faulted, Frame, Joining, Kid, Phase, Proc, Running, has_ended}
use Rattle.fm_mean.specs.Steps.{ask, ask_event, ask_for, step}
use Rattle.fm_run.specs.Awaited.{HasOneLeft, awaited_in}
use Rattle.fm_run.specs.Programs.{can_at, can_in, play_of}
use Rattle.fm_run.proofs.Able.{joins, rests, some_there, steps_there}
use Rattle.fm_run.proofs.Playing.{known_place}

-- whether one has ended
pub ended_there : (o : Option Proc) → table_ended has_ended o ≡ ended_at o
ended_there None = refl
ended_there (Some x) = refl

module _ (program : Program) (s : State Proc) (p : Place) (x : Proc) (is : get s.procs p ≡ Some x) (can : is_some (step program s p) ≡ true) where
  -- who can step and waits for children can since these have ended
  all_ended : (b : ℕ) (kids : List Kid) → x.phase ≡ Joining b kids → is_some (gathered has_ended s.procs p b 1 (length kids)) ≡ true
  all_ended b kids phase = go x.execution.frames refl
    where
      go : (fs : List Frame) → x.execution.frames ≡ fs → is_some (gathered has_ended s.procs p b 1 (length kids)) ≡ true
      go [] none =
          absurd (cc (sym (rests (play_of program) s p x is (ap (λ a. need_in (ask_for program x a)) (ap (action_in program x.execution) phase ∙ ap (joining program b kids) none))) ∙ can))
      go (f ∷ below) top =
          let does = ap (action_in program x.execution) phase ∙ ap (joining program b kids) top in
          let next = after_at (unit_at program f.unit) f.entry in
          let needs : need_in (ask program x) ≡ Some (Children b (length kids)) =
          ap (λ a. need_in (ask_for program x a)) does ∙ ap (λ (fs : List Frame). need_in (ask_event program x (Join b kids next) fs)) top in
          sym (joins (play_of program) s p x is b (length kids) needs) ∙ can

  waits_for_nobody : HasOneLeft s p x → ⊥
  waits_for_nobody left = go x.phase refl
    where
      told : (phase : Phase) → x.phase ≡ phase → awaited_in phase ≡ Some (left.block, left.count)
      told phase ph = sym (ap awaited_in ph) ∙ left.awaits

      go : (phase : Phase) → x.phase ≡ phase → ⊥
      go Running ph = cc (told Running ph)
      go Ended ph = cc (told Ended ph)
      go (Faulted line fault) ph = cc (told (Faulted line fault) ph)
      go (Joining b kids) ph =
          let same = two (told (Joining b kids) ph) in
          let low : left.before < length kids = omega (arith, left.low, same.1) in
          let runs = ap (λ (k : ℕ). table_ended has_ended (get s.procs (child p k (left.before + 1)))) same.0 ∙ left.runs in
          cc (sym (all_ended b kids ph) ∙ not_all_ended has_ended s.procs p b left.before (length kids) low runs)

not_so : (b : Bool) → (b ≡ true → ⊥) → b ≡ false
not_so false never = refl
not_so true never = absurd (never refl)

-- so nobody says that it waits who says so only of one that does
pub able_alone : (program : Program) (s : State Proc) (places : List Place) (n : ℕ) (waits : Bool) → can_at program s places n ≡ true
    → ((q : Place) (x : Proc) → slice_get places n ≡ Some q → get s.procs q ≡ Some x → waits ≡ true → HasOneLeft s q x) → waits ≡ false
able_alone program s places n waits can left =
    let place = some_there (slice_get places n) (known_place (play_of program) s places n can) in
    let q = place.0 in
    let steps : is_some (step program s q) ≡ true = sym (ap (can_in program s) place.1) ∙ can in
    let who = steps_there (play_of program) s q (get s.procs q) refl steps in
    not_so waits (λ e. waits_for_nobody program s q who.0 who.1 steps (left q who.0 place.1 who.1 e))

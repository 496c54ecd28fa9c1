-- A table, by what stands in memory and by what is told of it.
use Rattle.std.proofs.Common.{◌≡◌, ◌⊎◌, inl, inr, ℕ, zero, suc, ◌+◌, ◌==◌, ◌<◌, ◌≤◌, Bool, true, false, List, [], ◌∷◌, ◌++◌, length, replicate, refl, sym, ap, ap₂, ◌∙◌, subst, arith}
use Rattle.std.specs.Prelude.{nat_lt, is_some, Option, Some, None, IfSome, slice_get}
use Rattle.std.proofs.lemmas.Bool.{ltb-false, ltb-true}
use Rattle.std.proofs.lemmas.Option.{get_or_from_slice_get}
use Rattle.fm_base.specs.declared.schedule.Setup.{Setup}
use Rattle.fm_base.specs.declared.schedule.Turn.{Turn}
use Rattle.fm_sched.specs.Schedule.{IsFinal, play}
use Rattle.fm_net.specs.Machine.{Place, State}
use Rattle.fm_net.specs.Starts.{starts_along}
use Rattle.fm_net.proofs.Histories.{longer_at}
use Rattle.fm_rules.specs.declared.program.Program.{Program}
use Rattle.fm_mean.specs.Process.{Proc}
use Rattle.fm_mean.specs.Steps.{language, step}
use Rattle.fm_run.specs.Entries.{turn_of}
use Rattle.fm_run.specs.Orders.{Among, EachOnce, chosen}
use Rattle.fm_run.specs.Programs.{AreAble, Follows, IsFrontWithin, IsNext, Stand, after_entry, after_steps, can_at, can_in, first_stand, play_of}
use Rattle.fm_run.specs.Runs.{place_of, steps_of}
use Rattle.fm_run.proofs.Following.{entries_more, follows_more}
use Rattle.fm_run.proofs.Playing.{front_none, nobody_can, started_all}
use Rattle.fm_table.specs.Inside.{EntersTo, HasShares, IsAsItWas, IsLive, IsStanding, IsTable, outs_of, stand_in, stand_kept, told_in}
use Rattle.fm_table.specs.Told.{HaveStarts, IsIdle, IsKept, Out, Told, cost_of, has_some, led_by, numbers_out, phase_by, phase_of, ready_in, ready_of, stand_of, told_at, with_entry}
use Rattle.fm_table.specs.Turning.{CantStepBehind, MakesSteps, PlaysTo, TurnsTo}
use Rattle.fm_table.specs.declared.making.Way.{Way}
use Rattle.fm_table.specs.declared.making.Way.TheVariants as way
use Rattle.fm_table.specs.declared.outside.Taken.{Taken}
use Rattle.fm_workers.specs.declared.shared.Phase.{Phase}
use Rattle.fm_workers.specs.declared.shared.Phase.TheVariants.{Going, Ended, Spent}
use Rattle.fm_table.specs.declared.shares.Shares.{Shares}
use Rattle.fm_table.specs.declared.standing.Standing.{Standing}
use Rattle.fm_table.proofs.Standings.{entry_stand, stand_same}
use Rattle.fm_table.proofs.Outs.{all_ready}

-- what is so of a value that is there
pub of_some : {A : Type 0} (P : A → Type 0) (o : Option A) (x : A) → o ≡ Some x → IfSome o P → P x
of_some P None x e h = absurd (cc e)
of_some P (Some y) x e h =
    let same : y ≡ x = cc e in
    subst P same h

none_from : {A : Type 0} (o : Option A) → is_some o ≡ false → o ≡ None
none_from None e = refl
none_from (Some x) e = absurd (cc e)

-- an entry that isn't empty
pub some_steps : (n : ℕ) → (n == 0) ≡ false → 1 ≤ n
some_steps zero e = absurd (cc e)
some_steps (suc n) e = omega arith

-- the cost isn't over the turns
pub within_turns : (turns paid : ℕ) (b : Bool) → b ≡ nat_lt turns paid → b ≡ false → paid ≤ turns
within_turns turns paid b is none = ltb-false turns paid (sym is ∙ none)

pub over_turns : (turns paid : ℕ) (b : Bool) → b ≡ nat_lt turns paid → b ≡ true → turns < paid
over_turns turns paid b is some = ltb-true turns paid (sym is ∙ some)

none_of : (ns : List ℕ) → has_some ns ≡ false → ns ≡ []
none_of [] e = refl
none_of (n ∷ ns) e = absurd (cc e)

-- ---- phases

pub ended_by : (spent can_step : Bool) → phase_by spent can_step ≡ Ended → (spent ≡ false) × (can_step ≡ false)
ended_by true can_step e = absurd (cc e)
ended_by false true e = absurd (cc e)
ended_by false false e = (refl, refl)

pub going_by : (spent can_step : Bool) → phase_by spent can_step ≡ Going → (spent ≡ false) × (can_step ≡ true)
going_by true can_step e = absurd (cc e)
going_by false true e = (refl, refl)
going_by false false e = absurd (cc e)

pub spent_by : (spent can_step : Bool) → phase_by spent can_step ≡ Spent → spent ≡ true
spent_by true can_step e = refl
spent_by false true e = absurd (cc e)
spent_by false false e = absurd (cc e)

-- where nobody is in the queue, nobody can step
pub ended_final : (a : Told) → IsKept a → a.queue ≡ [] → IsFinal (step a.program) (stand_of a).state
ended_final a kept none =
    nobody_can (play_of a.program) (stand_of a).state (stand_of a).places (subst (λ (ns : List ℕ). AreAble a.program (stand_of a).state (stand_of a).places ns) none kept.able)
    (started_all (play_of a.program) a.history (stand_of a).places (stand_of a).state (cost_of a) kept.played)

pub phase_final : (a : Told) → IsKept a → phase_of a ≡ Ended → IsFinal (step a.program) (stand_of a).state
phase_final a kept e = ended_final a kept (none_of a.queue (ended_by (nat_lt a.setup.turns (cost_of a)) (has_some a.queue) e).1)

pub phase_within : (a : Told) (p : Phase) → p ≡ phase_of a → (p ≡ Going) ⊎ (p ≡ Ended) → cost_of a ≤ a.setup.turns
phase_within a p is (inl e) = ltb-false a.setup.turns (cost_of a) (going_by (nat_lt a.setup.turns (cost_of a)) (has_some a.queue) (sym is ∙ e)).0
phase_within a p is (inr e) = ltb-false a.setup.turns (cost_of a) (ended_by (nat_lt a.setup.turns (cost_of a)) (has_some a.queue) (sym is ∙ e)).0

pub phase_over : (a : Told) (p : Phase) → p ≡ phase_of a → p ≡ Spent → a.setup.turns < cost_of a
phase_over a p is e = ltb-true a.setup.turns (cost_of a) (spent_by (nat_lt a.setup.turns (cost_of a)) (has_some a.queue) (sym is ∙ e))

-- where it goes on, somebody can step
pub going_on : (a : Told) → IsKept a → (p : Phase) → p ≡ phase_of a → p ≡ Going → IsFinal (step a.program) (stand_of a).state → ⊥
going_on a kept p is e final = somebody a.queue refl (going_by (nat_lt a.setup.turns (cost_of a)) (has_some a.queue) (sym is ∙ e)).1
  where
    at_place : (n : ℕ) (o : Option Place) → slice_get (stand_of a).places n ≡ o → can_in a.program (stand_of a).state o ≡ true → ⊥
    at_place n None at can = cc can
    at_place n (Some q) at can = let none = ap is_some (final q) in cc (sym can ∙ none)

    somebody : (ns : List ℕ) → a.queue ≡ ns → has_some ns ≡ true → ⊥
    somebody [] ready some = cc some
    somebody (n ∷ ns) ready some = at_place n (slice_get (stand_of a).places n) refl (kept.able.within n (subst (λ (ms : List ℕ). Among n ms) (sym ready) (inl refl)))

-- where nothing can be made, nobody is out, and the turns aren't spent, nobody can step
pub idle_none : (a : Told) (b : Bool) → IsIdle a → a.out ≡ [] → b ≡ nat_lt a.setup.turns (cost_of a) → b ≡ false → (cost_of a ≤ a.setup.turns) × (a.queue ≡ [])
idle_none a b (inl over) free is none = let within = within_turns a.setup.turns (cost_of a) b is none in absurd (omega (arith, over, within))
idle_none a b (inr empty) free is none = (within_turns a.setup.turns (cost_of a) b is none, sym (all_ready a.queue) ∙ ap (λ (os : List Out). ready_in os a.queue) (sym free) ∙ empty)

-- ---- what a table keeps, as it is told

pub table_kept : (program : Program) (setup : Setup) (s : Standing) (out : List Out) (shares : Shares) → IsTable program setup s out shares → IsKept (told_in program setup s out)
table_kept program setup s out shares t = record { played = t.standing.played; able = t.standing.able; front = t.front; out_able = t.out_able; out_once = t.out_once; out_start = t.out_start }

pub told_same : (program : Program) (setup : Setup) (old new : Standing) (out : List Out) → IsAsItWas old new → told_in program setup new out ≡ told_in program setup old out
told_same program setup old new out same = ap₂ (λ (ts : List Turn) (ns : List ℕ). record { program = program; setup = setup; history = ts; queue = ns; out = out }) same.history same.queue

pub table_same : (program : Program) (setup : Setup) (old new : Standing) (out : List Out) (shares later : Shares) → IsAsItWas old new → IsStanding program new → HasShares program setup (stand_kept program old) later → IsTable program setup old out shares → IsTable program setup new out later
table_same program setup old new out shares later same standing shared t = record {
  standing = standing;
  front = subst (λ (a : Told). IsFrontOf a) (sym (told_same program setup old new out same)) t.front;
  out_able = λ n h. subst (λ (ns : List ℕ). Among n ns) (sym same.queue) (t.out_able n h);
  out_once = t.out_once;
  out_start = subst (λ (b : Stand). HaveStarts program b out) (sym (stand_same program old new same)) t.out_start;
  shared = subst (λ (b : Stand). HasShares program setup b later) (sym (stand_same program old new same)) shared;
}
  where
    IsFrontOf : Told → Type 0
    IsFrontOf a = IsFrontWithin a.program a.setup.turns a.history (stand_of a).places

-- what is known of the workers' shares of the processes in memory is known of what was kept
pub shares_moved : (program : Program) (setup : Setup) (old new : Standing) (same : IsAsItWas old new) (live : IsLive program new.player) (x y : Shares) → (HasShares program setup (stand_in program new.player) x → HasShares program setup (stand_in program new.player) y)
    → HasShares program setup (stand_kept program old) x → HasShares program setup (stand_kept program old) y
shares_moved program setup old new same live x y keeps has =
    let there : stand_in program new.player ≡ stand_kept program old = live.stand_is ∙ stand_same program old new same in
    subst (λ (b : Stand). HasShares program setup b y) there (keeps (subst (λ (b : Stand). HasShares program setup b x) (sym there) has))

-- ---- what was made of an entry

-- where a table stands with an entry more
pub stand_more : (a : Told) (t : Turn) → stand_of (with_entry a t) ≡ after_entry a.program (stand_of a) t
stand_more a t = entry_stand a.program a.history a.queue (after_entry a.program (stand_of a) t).able t refl

module _ (a b : Told) (number : ℕ) where
  -- so many steps, as an entry
  pub steps_made : (w : Way) (done : ℕ) → (done ≡ 0 → b ≡ a) → (1 ≤ done → EntersTo w number done a b) → MakesSteps number done a b
  steps_made w zero none made = record { there = λ some. absurd (omega (arith, some)); can = tt; told = none refl }
  steps_made w (suc n) none made = let h = made (omega arith) in record { there = λ some. h.known; can = h.can; told = h.told }

  -- the process can't step then, or isn't there
  pub cant_step : (w : Way) (done : ℕ) → (done ≡ 0 → can_at a.program (stand_of a).state (stand_of a).places number ≡ false) → (1 ≤ done → EntersTo w number done a b) → (1 ≤ done → can_at a.program (stand_of b).state (stand_of b).places number ≡ false) → CantStepBehind number done a
  cant_step w zero none made cant q at =
      none_from (step a.program (stand_of a).state q) (sym (ap (can_in a.program (stand_of a).state) at) ∙ none refl)
  cant_step w (suc n) none made cant q at =
      let h = made (omega arith) in
      let t = turn_of number (suc n) in
      let s = stand_of a in
      let is : stand_of b ≡ after_entry a.program s t = ap stand_of h.told ∙ stand_more a t in
      let place : place_of s.places t ≡ q = get_or_from_slice_get s.places number q [] at in
      let later : slice_get (stand_of b).places number ≡ Some q = ap (λ (c : Stand). slice_get c.places number) is ∙ longer_at s.places (starts_along (language a.program) s.state (steps_of s.places t)) number q at in
      let there : (stand_of b).state ≡ after_steps a.program s.state q (suc n) = ap (λ (c : Stand). c.state) is ∙ ap (λ (p : Place). play (step a.program) s.state (replicate (suc n) p)) place in
      none_from (step a.program (after_steps a.program s.state q (suc n)) q)
      (ap (λ (u : State Proc). is_some (step a.program u q)) (sym there) ∙ sym (ap (can_in a.program (stand_of b).state) later) ∙ cant (omega arith))

-- what came of an entry, by how many steps were made
pub played_to : (a b : Told) (t : Turn) (done : ℕ) → (done ≡ 0 → (b ≡ a) × (can_at a.program (stand_of a).state (stand_of a).places t.number ≡ false)) → (1 ≤ done → EntersTo (way.Steps t.steps) t.number done a b)
    → (r : Option ℕ) → (r ≡ None → done ≡ t.steps) → ((k : ℕ) → r ≡ Some k → (k ≡ done) × (k < t.steps)) → PlaysTo t a b r
played_to a b t done none made None all part =
    subst (λ (n : ℕ). MakesSteps t.number n a b) (all refl) (steps_made a b t.number (way.Steps t.steps) done (λ e. (none e).0) made)
played_to a b t done none made (Some k) all part =
    let h = part k refl in
    let low : done < t.steps = subst (λ (n : ℕ). n < t.steps) h.0 h.1 in
    subst (λ (n : ℕ). (n < t.steps) × MakesSteps t.number n a b × CantStepBehind t.number n a) (sym h.0)
    (low, steps_made a b t.number (way.Steps t.steps) done (λ e. (none e).0) made, cant_step a b t.number (way.Steps t.steps) done (λ e. (none e).1) made (λ some. (made some).so.1 low))

-- at most as many steps as were asked for
pub few_steps : (a b : Told) (t : Turn) (done : ℕ) → (1 ≤ done → EntersTo (way.Steps t.steps) t.number done a b) → done ≤ t.steps
few_steps a b t zero made = omega arith
few_steps a b t (suc n) made = (made (omega arith)).so.0

-- an entry without a step
pub no_steps : (t : Turn) (a : Told) → t.steps ≡ 0 → PlaysTo t a a None
no_steps t a none = subst (λ (n : ℕ). MakesSteps t.number n a a) (sym none) (record { there = λ some. absurd (omega (arith, some)); can = tt; told = refl })

-- ---- tables where nobody was ever out

-- an entry more of a table to which entries alone led
pub entry_at : (program : Program) (setup : Setup) (ts : List Turn) (t : Turn) → with_entry (told_at program setup ts) t ≡ told_at program setup (ts ++ t ∷ [])
entry_at program setup ts t = ap (λ (b : Stand). record { program = program; setup = setup; history = ts ++ t ∷ []; queue = b.able; out = [] }) (sym (entries_more (play_of program) (first_stand program) ts t))

-- a turn more follows the choices
pub turn_follows : (choices : List ℕ) (choice : ℕ) (a b : Told) → ((able : List ℕ) → chosen (Some choice) able ≡ chosen (slice_get choices (length a.history)) able) → a ≡ told_at a.program a.setup a.history → Follows a.program a.setup.slice choices a.history → TurnsTo choice a b
    → Follows a.program a.setup.slice choices b.history
turn_follows choices choice a b same alone follows h =
    let led = led_by a.program a.history in
    let queue : a.queue ≡ led.able = ap (λ (c : Told). c.queue) alone in
    let ready : ready_of a ≡ led.able = ap (λ (os : List Out). ready_in os a.queue) (ap (λ (c : Told). c.out) alone) ∙ all_ready a.queue ∙ queue in
    let next : IsNext a.program a.setup.slice (slice_get choices (length a.history)) led h.entry = record { who = sym (same led.able) ∙ ap (chosen (Some choice)) (sym ready) ∙ h.who; full = h.full } in
    let here : 0 + length a.history ≡ length a.history = omega arith in
    let next_here = subst (λ (k : ℕ). IsNext a.program a.setup.slice (slice_get choices k) led h.entry) (sym here) next in
    subst (λ (ts : List Turn). Follows a.program a.setup.slice choices ts) (sym (ap (λ (c : Told). c.history) h.told))
    (follows_more (play_of a.program) a.setup.slice choices 0 (first_stand a.program) a.history h.entry follows next_here)

-- behind a turn it is such a table still
pub turn_alone : (choice : ℕ) (a b : Told) → a ≡ told_at a.program a.setup a.history → TurnsTo choice a b → b ≡ told_at a.program a.setup b.history
turn_alone choice a b alone h =
    h.told ∙ ap (λ (c : Told). with_entry c h.entry) alone ∙ entry_at a.program a.setup a.history h.entry ∙ ap (told_at a.program a.setup) (sym (ap (λ (c : Told). c.history) h.told))

-- ---- the first table

pub first_table : (program : Program) (setup : Setup) (s : Standing) → IsStanding program s → s.player.net.history ≡ [] → (out : List Taken) → out ≡ [] → (shares : Shares) → HasShares program setup (stand_kept program s) shares → IsTable program setup s (outs_of out) shares
first_table program setup s standing none out free shares shared = record {
  standing = standing;
  front = front_none (play_of program) setup.turns s.player.net.history (stand_kept program s).places none;
  out_able = λ n h. absurd (subst (λ (os : List Taken). Among n (numbers_out (outs_of os))) free h);
  out_once = subst (λ (os : List Taken). EachOnce (numbers_out (outs_of os))) (sym free) tt;
  out_start = subst (λ (os : List Taken). HaveStarts program (stand_kept program s) (outs_of os)) (sym free) tt;
  shared = shared;
}

pub first_is : (program : Program) (setup : Setup) (s : Standing) → s.player.net.history ≡ [] → s.player.able.numbers.items ≡ (first_stand program).able → (out : List Taken) → out ≡ [] → told_in program setup s (outs_of out) ≡ told_at program setup []
first_is program setup s none queue out free =
    ap₂ (λ (ts : List Turn) (ns : List ℕ). record { program = program; setup = setup; history = ts; queue = ns; out = outs_of out }) none queue
    ∙ ap (λ (os : List Taken). record { program = program; setup = setup; history = []; queue = (first_stand program).able; out = outs_of os }) free

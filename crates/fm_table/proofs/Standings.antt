-- Where a kept schedule leads, and what stands in memory for it.
use Rattle.std.proofs.Common.{◌≡◌, inl, inr, ℕ, zero, suc, ◌+◌, ◌<◌, ◌≤◌, Bool, true, false, List, [], ◌∷◌, ◌++◌, length, get_or, take, append-nil, refl, sym, ap, ap₂, ◌∙◌, subst, arith}
use Rattle.std.specs.Prelude.{is_some, slice_get, unwrap_or, Result, Ok, Err, IfOk, OnOk}
use Rattle.std.proofs.Math.Seq.{take-append_seam, take-suc}
use Rattle.fm_base.specs.declared.memory.NoMemory.{NoMemory}
use Rattle.fm_base.specs.declared.schedule.Turn.{Turn}
use Rattle.fm_sched.specs.Schedule.{used}
use Rattle.fm_net.specs.Machine.{Place, State}
use Rattle.fm_net.specs.Starts.{choices_of, starts_along}
use Rattle.fm_rules.specs.declared.program.Program.{Program}
use Rattle.fm_mean.specs.Process.{Proc}
use Rattle.fm_mean.specs.Steps.{first, language, step}
use Rattle.fm_run.specs.Entries.{MayHaveEntry, turn_of}
use Rattle.fm_run.specs.Orders.{Among, AreMarked, EachOnce, KeepsFront, is_among, places_of}
use Rattle.fm_run.specs.Programs.{AreAble, IsEntry, IsFrontWithin, IsPlayed, IsPlayedBy, Stand, after_entry, can_at, first_stand, play_of, ready_after}
use Rattle.fm_run.specs.Runs.{steps_of}
use Rattle.fm_run.specs.declared.player.Player.{Player}
use Rattle.fm_run.proofs.Following.{entries_more, moved_is}
use Rattle.fm_run.proofs.Numbers.{among_is, is_among_from}
use Rattle.fm_table.specs.Inside.{Compiled, HasEntered, HasMade, IsAsItWas, IsLive, IsSound, IsStanding, MakesSo, stand_in, stand_kept}
use Rattle.fm_table.specs.Told.{cost_by, has_some, led_by, stand_with}
use Rattle.fm_table.specs.declared.making.Way.{Way}
use Rattle.fm_table.specs.declared.standing.Standing.{Standing}

-- the cost is that of the choices
pub cost_is : (program : Program) (history : List Turn) (places : List Place) (s : State Proc) (paid : ℕ) → places ≡ (led_by program history).places → IsPlayedBy program history places s paid → paid ≡ cost_by program history
cost_is program history places s paid same k =
    sym k.used_is ∙ sym (ap (λ o. used (step program) (first program) (unwrap_or o [])) (ap (choices_of history) (sym same) ∙ k.kept))

-- an entry more leads where its process's steps lead, be the queue what it may
pub entry_stand : (program : Program) (ts : List Turn) (queue later : List ℕ) (t : Turn) → later ≡ (after_entry program (stand_with program ts queue) t).able → stand_with program (ts ++ t ∷ []) later ≡ after_entry program (stand_with program ts queue) t
entry_stand program ts queue later t is =
    ap (λ (b : Stand). record { state = b.state; places = b.places; able = later }) (entries_more (play_of program) (first_stand program) ts t)
    ∙ ap (λ (ns : List ℕ). record { state = (after_entry program (stand_with program ts queue) t).state; places = (after_entry program (stand_with program ts queue) t).places; able = ns }) is

-- ---- processes in memory that stand where the schedule leads

module _ (program : Program) (player : Player Compiled) (live : IsLive program player) where
  abbrev there : Stand
  there = stand_with program player.net.history player.able.numbers.items

  pub live_played : IsPlayedBy program player.net.history there.places there.state player.used
  live_played = subst (λ (b : Stand). IsPlayedBy program player.net.history b.places b.state player.used) live.stand_is live.played.history

  pub live_able : AreAble program there.state there.places player.able.numbers.items
  live_able = subst (λ (b : Stand). AreAble program b.state b.places player.able.numbers.items) live.stand_is live.played.able

  pub live_used : player.used ≡ cost_by program player.net.history
  live_used = cost_is program player.net.history there.places there.state player.used refl live_played

  -- all that is kept of them
  pub live_standing : (s : Standing) → s.player ≡ player → s.is_live ≡ true → (more : List Place) → (stand_in program player).places ≡ places_of s.paths.items ++ more → s.used ≡ player.used → s.is_ready ≡ has_some player.able.numbers.items → IsStanding program s
  live_standing s is here more paths used ready = record {
    live = λ e. subst (IsLive program) (sym is) live;
    played = subst (λ (p : Player Compiled). IsPlayedBy program p.net.history (stand_with program p.net.history p.able.numbers.items).places (stand_with program p.net.history p.able.numbers.items).state (cost_by program p.net.history)) (sym is)
        (subst (λ (n : ℕ). IsPlayedBy program player.net.history there.places there.state n) live_used live_played);
    able = subst (λ (p : Player Compiled). AreAble program (stand_with program p.net.history p.able.numbers.items).state (stand_with program p.net.history p.able.numbers.items).places p.able.numbers.items) (sym is) live_able;
    paths_first = (more, ap (λ (p : Player Compiled). (stand_with program p.net.history p.able.numbers.items).places) is ∙ sym (ap (λ (b : Stand). b.places) live.stand_is) ∙ paths);
    paths_whole = λ e. absurd (cc (sym here ∙ e));
    paid_is = used ∙ live_used ∙ ap (λ (p : Player Compiled). cost_by program p.net.history) (sym is);
    ready_is = ready ∙ ap (λ (p : Player Compiled). has_some p.able.numbers.items) (sym is);
  }

-- an entry more in memory leads where the schedule does
pub live_more : (program : Program) (t : Turn) (old new : Player Compiled) → IsLive program old → HasMade program t old new → IsSound program new.net
    → IsPlayed program (stand_in program new) new.net.stacks.channels new.net.history new.parents.items new.able.marks.items new.used → IsLive program new
live_more program t old new was made sound now =
    let there : stand_in program new ≡ after_entry program (stand_with program old.net.history old.able.numbers.items) t =
    moved_is (play_of program) (stand_in program old) t old.net.history (stand_in program new) new.net.history made.entry made.able ∙ ap (λ (b : Stand). after_entry program b t) was.stand_is in
    record {
      sound = sound;
      played = now;
      stand_is =
          there ∙ sym (entry_stand program old.net.history old.able.numbers.items new.able.numbers.items t (ap (λ (b : Stand). b.able) there))
          ∙ ap (λ (ts : List Turn). stand_with program ts new.able.numbers.items) (sym made.entry.history_is);
    }

-- who isn't in the queue can't step
pub not_able : (program : Program) (player : Player Compiled) → IsLive program player → (n : ℕ) → is_among player.able.numbers.items n ≡ false → can_at program (stand_in program player).state (stand_in program player).places n ≡ false
not_able program player live n none = go (can_at program (stand_in program player).state (stand_in program player).places n) refl
  where
    go : (b : Bool) → can_at program (stand_in program player).state (stand_in program player).places n ≡ b → b ≡ false
    go false e = refl
    go true e = absurd (cc (sym (is_among_from player.able.numbers.items n (live.played.able.whole n e)) ∙ none))

-- the processes that steps start come behind those that are there
pub starts_of_steps : (program : Program) (old new : Player Compiled) (number done : ℕ) → (done ≡ 0 → new ≡ old) → (1 ≤ done → HasMade program (turn_of number done) old new) → (more : List Place) × ((stand_in program new).places ≡ (stand_in program old).places ++ more)
starts_of_steps program old new number zero none made = ([], ap (λ (p : Player Compiled). (stand_in program p).places) (none refl) ∙ sym (append-nil (stand_in program old).places))
starts_of_steps program old new number (suc n) none made = let h = made (omega arith) in (starts_along (language program) (stand_in program old).state (steps_of (stand_in program old).places (turn_of number (suc n))), h.entry.places_are)

-- the schedule has that entry more, or is as it was
pub entry_or_none : (program : Program) (old new : Player Compiled) (number done : ℕ) → (done ≡ 0 → new ≡ old) → (1 ≤ done → HasMade program (turn_of number done) old new) → MayHaveEntry old.net.history new.net.history
entry_or_none program old new number zero none made = inl (ap (λ (p : Player Compiled). p.net.history) (none refl))
entry_or_none program old new number (suc n) none made = inr (turn_of number (suc n), (made (omega arith)).entry.history_is)

-- without the entry that may be there
pub taken_back : (front now left : List Turn) (count : ℕ) → length front ≡ count → MayHaveEntry front now → ((us : List Turn) (t : Turn) → now ≡ us ++ t ∷ [] → length us ≡ count → left ≡ us) → (length now ≤ count → left ≡ now) → left ≡ front
taken_back front now left count counted (inl same) one none = let few = ap length same in none (omega (arith, counted, few)) ∙ same
taken_back front now left count counted (inr more) one none = one front more.0 more.1 counted

-- an entry more was played
pub one_entry_more : (ts hs new : List Turn) (i : ℕ) (d : Turn) → i < length ts → hs ≡ take i ts → new ≡ hs ++ get_or ts i d ∷ [] → new ≡ take (i + 1) ts
one_entry_more ts hs new i d low front is =
    let next : suc i ≡ i + 1 = omega arith in
    is ∙ ap (λ (us : List Turn). us ++ get_or ts i d ∷ []) front ∙ sym (take-suc ts i d low) ∙ ap (λ (n : ℕ). take n ts) next

pub some_not_none : (r : Result ℕ NoMemory) → r ≡ Ok 0 → IfOk r (λ n. 1 ≤ n) → ⊥
some_not_none (Ok n) e some = let none : n ≡ 0 = cc e in omega (arith, none, some)
some_not_none (Err x) e some = cc e

-- the front of a queue is left of it
pub front_left : (old new : List ℕ) (count : ℕ) → count ≡ length old → KeepsFront old new → take count new ≡ old
front_left old new count is h = ap₂ take is h.1 ∙ take-append_seam old h.0

-- so many steps were made, as one entry
module _ (program : Program) (old new : Player Compiled) (n : ℕ) where
  abbrev Entries : ℕ → Type 0
  Entries k = IsEntry program (turn_of n k) (stand_in program old).state (stand_in program old).places old.net.history (stand_in program new).state (stand_in program new).places new.net.history

  abbrev Abled : Type 0
  Abled = (stand_in program new).able ≡ ready_after program (stand_in program new).state (stand_in program new).places (stand_in program old).able n

  abbrev Fronted : Type 0
  Fronted = (turns : ℕ) → old.used ≤ turns → IsFrontWithin program turns new.net.history (stand_in program new).places

  pub all_made : (r : Result ℕ NoMemory) → is_some (slice_get (stand_in program old).places n) ≡ true → IfOk r Entries → OnOk r Abled → IfOk r (λ k. 1 ≤ k) → OnOk r Fronted → OnOk r (old.used < new.used)
      → IfOk r (λ k. HasMade program (turn_of n k) old new)
  all_made (Ok k) known entry able some front used = record { entry = entry; able = able; known = known; some_steps = some; front = front; used = used }
  all_made (Err x) known entry able some front used = tt

  pub made_some : (r : Result ℕ NoMemory) → IfOk r (λ k. HasMade program (turn_of n k) old new) → IfOk r (λ k. 1 ≤ k → HasMade program (turn_of n k) old new)
  made_some (Ok k) h = λ some. h
  made_some (Err x) h = tt

  pub made_not_none : (r : Result ℕ NoMemory) → r ≡ Ok 0 → IfOk r (λ k. HasMade program (turn_of n k) old new) → ⊥
  made_not_none (Ok k) e h = let none : k ≡ 0 = cc e in let some = h.some_steps in omega (arith, none, some)
  made_not_none (Err x) e h = cc e

  pub steps_live : (r : Result ℕ NoMemory) → IsLive program old → IfOk r (λ k. HasMade program (turn_of n k) old new)
      → OnOk r (IsSound program new.net) → OnOk r (IsPlayed program (stand_in program new) new.net.stacks.channels new.net.history new.parents.items new.able.marks.items new.used) → OnOk r (IsLive program new)
  steps_live (Ok k) was made sound now = live_more program (turn_of n k) old new was made sound now
  steps_live (Err x) was made sound now = tt

  -- by how they were asked for
  pub so_made : (way way' : Way) (P : ℕ → Type 0) (r : Result ℕ NoMemory) → way ≡ way' → ((k : ℕ) → P k → MakesSo way' program (stand_in program old) (stand_in program new) n k) → IfOk r P → IfOk r (λ k. 1 ≤ k → MakesSo way program (stand_in program old) (stand_in program new) n k)
  so_made way way' P (Ok k) is h p = λ some. subst (λ (w : Way). MakesSo w program (stand_in program old) (stand_in program new) n k) (sym is) (h k p)
  so_made way way' P (Err x) is h p = tt

-- ---- a schedule that stands in memory

-- the schedule and the queue are as they were
module _ (program : Program) (old new : Standing) (same : IsAsItWas old new) where
  pub stand_same : stand_kept program new ≡ stand_kept program old
  stand_same = ap₂ (λ (ts : List Turn) (ns : List ℕ). stand_with program ts ns) same.history same.queue

  pub standing_same : IsStanding program old → (new.is_live ≡ true → IsLive program new.player) → (more : List Place) → (stand_kept program new).places ≡ places_of new.paths.items ++ more → (new.is_live ≡ false → places_of new.paths.items ≡ (stand_kept program new).places) → new.used ≡ old.used → new.is_ready ≡ old.is_ready → IsStanding program new
  standing_same s live more paths whole used ready = record {
    live = live;
    played = subst (λ (b : Stand). IsPlayedBy program new.player.net.history b.places b.state (cost_by program new.player.net.history)) (sym stand_same)
        (subst (λ (ts : List Turn). IsPlayedBy program ts (stand_kept program old).places (stand_kept program old).state (cost_by program ts)) (sym same.history) s.played);
    able = subst (λ (b : Stand). AreAble program b.state b.places new.player.able.numbers.items) (sym stand_same)
        (subst (λ (ns : List ℕ). AreAble program (stand_kept program old).state (stand_kept program old).places ns) (sym same.queue) s.able);
    paths_first = (more, paths);
    paths_whole = whole;
    paid_is = used ∙ s.paid_is ∙ ap (cost_by program) (sym same.history);
    ready_is = ready ∙ s.ready_is ∙ ap has_some (sym same.queue);
  }

  -- an entry that was made of the new one is one of the old one
  pub entered_same : IsStanding program old → IsStanding program new → (t : Turn) (later : Standing) → HasEntered program t new later → HasEntered program t old later
  entered_same s s' t later h = record {
    entry = subst (λ (ts : List Turn). IsEntry program t (stand_kept program old).state (stand_kept program old).places ts (stand_kept program later).state (stand_kept program later).places later.player.net.history) same.history
        (subst (λ (b : Stand). IsEntry program t b.state b.places new.player.net.history (stand_kept program later).state (stand_kept program later).places later.player.net.history) stand_same h.entry);
    queue = h.queue ∙ ap (λ (ns : List ℕ). ready_after program (stand_kept program later).state (stand_kept program later).places ns t.number) same.queue;
    known = ap (λ (b : Stand). is_some (slice_get b.places t.number)) (sym stand_same) ∙ h.known;
    some_steps = h.some_steps;
    front = λ turns le. h.front turns (subst (λ (n : ℕ). n ≤ turns) (sym paid) le);
    used = subst (λ (n : ℕ). n < later.used) paid h.used;
  }
    where
      paid : new.used ≡ old.used
      paid = s'.paid_is ∙ ap (cost_by program) same.history ∙ sym s.paid_is

-- what was made in memory of what stands there
module _ (program : Program) (old new : Standing) (was : IsLive program old.player) (live : IsLive program new.player) where
  pub entered : (t : Turn) → old.used ≡ old.player.used → new.used ≡ new.player.used → HasMade program t old.player new.player → HasEntered program t old new
  entered t paid pays h = record {
    entry = subst (λ (b : Stand). IsEntry program t (stand_kept program old).state (stand_kept program old).places old.player.net.history b.state b.places new.player.net.history) live.stand_is
        (subst (λ (b : Stand). IsEntry program t b.state b.places old.player.net.history (stand_in program new.player).state (stand_in program new.player).places new.player.net.history) was.stand_is h.entry);
    queue = h.able ∙ ap (λ (b : Stand). ready_after program b.state b.places old.player.able.numbers.items t.number) live.stand_is;
    known = ap (λ (b : Stand). is_some (slice_get b.places t.number)) (sym was.stand_is) ∙ h.known;
    some_steps = h.some_steps;
    front = λ turns le. subst (λ (b : Stand). IsFrontWithin program turns new.player.net.history b.places) live.stand_is (h.front turns (subst (λ (n : ℕ). n ≤ turns) paid le));
    used = subst (λ (n : ℕ). old.used < n) (sym pays) (subst (λ (n : ℕ). n < new.player.used) (sym paid) h.used);
  }

  pub made_so : (way : Way) (n k : ℕ) → MakesSo way program (stand_in program old.player) (stand_in program new.player) n k → MakesSo way program (stand_kept program old) (stand_kept program new) n k
  made_so way n k h = subst (λ (b : Stand). MakesSo way program (stand_kept program old) b n k) live.stand_is (subst (λ (b : Stand). MakesSo way program b (stand_in program new.player) n k) was.stand_is h)

  pub cant_so : (n : ℕ) → can_at program (stand_in program old.player).state (stand_in program old.player).places n ≡ false → can_at program (stand_kept program old).state (stand_kept program old).places n ≡ false
  cant_so n e = ap (λ (b : Stand). can_at program b.state b.places n) (sym was.stand_is) ∙ e

-- ---- the queue of processes that were made again

-- marks of one list are those of another with the same numbers
pub marked_same : (count : ℕ) (marks : List Bool) (ns ms : List ℕ) → ((n : ℕ) → Among n ns → Among n ms) → ((n : ℕ) → Among n ms → Among n ns) → AreMarked count marks ns → AreMarked count marks ms
marked_same count marks ns ms there back h = record {
  whole = h.whole;
  marked = λ n low. h.marked n low ∙ same n (is_among ns n) (is_among ms n) refl refl;
}
  where
    same : (n : ℕ) (a b : Bool) → is_among ns n ≡ a → is_among ms n ≡ b → is_among ns n ≡ is_among ms n
    same n true b e f = e ∙ sym (is_among_from ms n (there n (among_is ns n e)))
    same n false true e f = absurd (cc (sym e ∙ is_among_from ns n (back n (among_is ms n f))))
    same n false false e f = e ∙ sym f

-- processes that stand where the schedule leads stand there with another queue
pub live_queue : (program : Program) (player later : Player Compiled) → IsLive program player → later.net ≡ player.net → later.parents ≡ player.parents → later.used ≡ player.used
    → AreAble program (stand_with program player.net.history later.able.numbers.items).state (stand_with program player.net.history later.able.numbers.items).places later.able.numbers.items
    → AreMarked (length (stand_in program player).places) later.able.marks.items later.able.numbers.items → IsLive program later
live_queue program player later live net parents used able marked =
    let queue = later.able.numbers.items in
    let a = stand_in program player in
    let moved : IsLive program (record { net = player.net; parents = player.parents; ended = later.ended; able = later.able; used = player.used; spare = later.spare }) = record {
      sound = live.sound;
      played = record {
        history = live.played.history;
        able = subst (λ (b : Stand). AreAble program b.state b.places queue) (sym live.stand_is) able;
        noted = live.played.noted;
        numbered = record { started = live.played.numbered.started; counted = live.played.numbered.counted; marked = marked };
      };
      stand_is = ap (λ (b : Stand). record { state = b.state; places = b.places; able = queue }) live.stand_is;
    } in
    subst (IsLive program) (sym (ap₂ (λ n p. record { net = n; parents = p; ended = later.ended; able = later.able; used = later.used; spare = later.spare }) net parents
    ∙ ap (λ (u : ℕ). record { net = player.net; parents = player.parents; ended = later.ended; able = later.able; used = u; spare = later.spare }) used)) moved

-- those of one queue that can step are those of another with the same numbers, each once
pub able_same : (program : Program) (s : State Proc) (places : List Place) (ns ms : List ℕ) → ((n : ℕ) → Among n ns → Among n ms) → ((n : ℕ) → Among n ms → Among n ns) → EachOnce ms → AreAble program s places ns → AreAble program s places ms
able_same program s places ns ms there back once h = record { within = λ n k. h.within n (back n k); whole = λ n e. there n (h.whole n e); once = once }

some_same : (ns ms : List ℕ) → ((n : ℕ) → Among n ns → Among n ms) → ((n : ℕ) → Among n ms → Among n ns) → has_some ns ≡ has_some ms
some_same [] [] fore back = refl
some_same [] (m ∷ ms) fore back = absurd (back m (inl refl))
some_same (n ∷ ns) [] fore back = absurd (fore n (inl refl))
some_same (n ∷ ns) (m ∷ ms) fore back = refl

-- the queue has another order
pub requeued : (program : Program) (old new : Standing) → IsStanding program old → new.player.net ≡ old.player.net → new.player.parents ≡ old.player.parents → new.player.used ≡ old.player.used → new.is_live ≡ old.is_live → new.paths ≡ old.paths → new.used ≡ old.used → new.is_ready ≡ old.is_ready
    → ((n : ℕ) → Among n old.player.able.numbers.items → Among n new.player.able.numbers.items) → ((n : ℕ) → Among n new.player.able.numbers.items → Among n old.player.able.numbers.items) → EachOnce new.player.able.numbers.items
    → ((count : ℕ) → AreMarked count old.player.able.marks.items old.player.able.numbers.items → AreMarked count new.player.able.marks.items new.player.able.numbers.items) → IsStanding program new
requeued program old new s net parents paid is_live paths used ready there back once marks =
    let queue = new.player.able.numbers.items in
    let history : new.player.net.history ≡ old.player.net.history = ap (λ n. n.history) net in
    let able = able_same program (stand_kept program old).state (stand_kept program old).places old.player.able.numbers.items queue there back once s.able in
    let same : stand_kept program new ≡ stand_with program old.player.net.history queue = ap (λ (ts : List Turn). stand_with program ts queue) history in
    record {
      live = λ e. let live = s.live (sym is_live ∙ e) in live_queue program old.player new.player live net parents paid able (marks (length (stand_in program old.player).places) live.played.numbered.marked);
      played = subst (λ (b : Stand). IsPlayedBy program new.player.net.history b.places b.state (cost_by program new.player.net.history)) (sym same)
          (subst (λ (ts : List Turn). IsPlayedBy program ts (stand_kept program old).places (stand_kept program old).state (cost_by program ts)) (sym history) s.played);
      able = subst (λ (b : Stand). AreAble program b.state b.places queue) (sym same) able;
      paths_first = (s.paths_first.0, ap (λ (b : Stand). b.places) same ∙ s.paths_first.1 ∙ ap (λ ps. places_of ps.items ++ s.paths_first.0) (sym paths));
      paths_whole = λ e. ap (λ ps. places_of ps.items) paths ∙ s.paths_whole (sym is_live ∙ e) ∙ ap (λ (b : Stand). b.places) (sym same);
      paid_is = used ∙ s.paid_is ∙ ap (cost_by program) (sym history);
      ready_is = ready ∙ s.ready_is ∙ some_same old.player.able.numbers.items queue there back;
    }

-- before the first piece they stand where no entry leads
pub first_live : (program : Program) (player : Player Compiled) → IsSound program player.net → IsPlayed program (stand_in program player) player.net.stacks.channels player.net.history player.parents.items player.able.marks.items player.used
    → stand_in program player ≡ first_stand program → player.net.history ≡ [] → IsLive program player
first_live program player sound played stand none = record {
  sound = sound;
  played = played;
  stand_is =
      stand ∙ ap (λ (ns : List ℕ). record { state = (first_stand program).state; places = (first_stand program).places; able = ns }) (sym (ap (λ (b : Stand). b.able) stand))
      ∙ ap (λ (ts : List Turn). stand_with program ts player.able.numbers.items) (sym none);
}

-- processes that were made again stand where the kept schedule leads, with the queue that was kept
pub revived : (program : Program) (old : Standing) (again later : Player Compiled) → IsStanding program old → IsLive program again → again.net.history ≡ old.player.net.history → later.net ≡ again.net → later.parents ≡ again.parents → later.able.marks ≡ again.able.marks → later.used ≡ again.used
    → later.able.numbers ≡ old.player.able.numbers → IsLive program later
revived program old again later s live history net parents marks used queue =
    let ns = again.able.numbers.items in
    let ms = later.able.numbers.items in
    let able : AreAble program (stand_with program again.net.history ms).state (stand_with program again.net.history ms).places ms =
    subst (λ (os : List ℕ). AreAble program (stand_with program again.net.history os).state (stand_with program again.net.history os).places os) (sym (ap (λ q. q.items) queue))
    (subst (λ (ts : List Turn). AreAble program (stand_with program ts old.player.able.numbers.items).state (stand_with program ts old.player.able.numbers.items).places old.player.able.numbers.items) (sym history) s.able) in
    let a = stand_in program again in
    let here : AreAble program a.state a.places ms = subst (λ (b : Stand). AreAble program b.state b.places ms) (sym live.stand_is) able in
    let was = live.played.able in
    live_queue program again later live net parents used able
    (subst (λ (bs : List Bool). AreMarked (length a.places) bs ms) (sym (ap (λ v. v.items) marks))
    (marked_same (length a.places) again.able.marks.items ns ms (λ n h. here.whole n (was.within n h)) (λ n h. was.whole n (here.within n h)) live.played.numbered.marked))

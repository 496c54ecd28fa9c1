-- Processes of stack code, in the words of the table of processes.
use Rattle.std.proofs.Common.{◌≡◌, ◌≢◌, ◌≤◌, ℕ, Bool, true, false, Option, Some, None, List, length, refl, sym, ap, ap₂, subst, ◌∙◌}
use Rattle.std.specs.Prelude.{IfNone, IfSome, is_some}
use Rattle.std.specs.FinMap.{get, insert}
use Rattle.fm_base.specs.Channels.{Chans}
use Rattle.fm_net.specs.Machine as net
use Rattle.fm_net.specs.Machine.{Place, State, Children, Stop, Go}
use Rattle.fm_net_procs.specs.Kept.{count_awaited, AreChildren}
use Rattle.fm_net_procs.specs.Pieces as pieces
use Rattle.fm_net_procs.specs.Stepping.{Advances, StepsTo, StopsSo}
use Rattle.fm_net_procs.specs.Waiting as table
use Rattle.fm_code.specs.declared.ask.Ask.{Ask}
use Rattle.fm_code.specs.declared.ask.Ask.TheVariants as ask
use Rattle.fm_code.specs.declared.body.Body.{Body}
use Rattle.fm_code.specs.Statements.{action_of}
use Rattle.fm_machine_calls.specs.declared.looking.Look.{Look}
use Rattle.fm_machine_calls.specs.declared.looking.Look.TheVariants as look
use Rattle.fm_proc_language.specs.Needs.{is_local, need_in, need_of}
use Rattle.fm_proc_language.specs.Processes.{CodeProc, Phase, Running, Joining, Ended, Faulted, asks, asks_by, code_language, joined, joining_by}
use Rattle.fm_procs.specs.declared.advancing.Advanced.{Advanced}
use Rattle.fm_procs.specs.Runs.{Runs}
use Rattle.fm_proc_events.specs.Performs.{MakesNew, Performs}
use Rattle.fm_proc_events.specs.Told.{is_joining, joins_by, look_by, look_of}
use Rattle.fm_procs.specs.Pieces.{IsNewAlong, IsNewAt, is_used_up}
use Rattle.fm_procs.specs.Readings.{awaited_in, awaits, code_step}
use Rattle.fm_procs.specs.Stepping.{AdvancesAt, stop_of}
use Rattle.fm_procs.specs.Waiting.{channel_needed, channel_waited, event_in, is_join}
use Rattle.fm_procs.proofs.Awaited.{run_alone, waits_by_phase}
use Rattle.fm_procs.proofs.Born.{all_run, waits_for}
use Rattle.fm_procs.proofs.Doing.{performed, performed_starts}
use Rattle.fm_procs.proofs.Joining.{join_in}
use Rattle.fm_procs.proofs.Looked.{asks_shared, stuck_stays}
use Rattle.fm_procs.proofs.Placing.{same_phase}
use Rattle.fm_procs.proofs.Slices.{behind, each_is_local, own_behind, room_behind, statements_make, there_behind, used_both, used_up, waiting_piece, whole_piece}

-- ---- options

pub if_some : {A : Type 0} {F G : A → Type 0} (o : Option A) → ((x : A) → F x → G x) → IfSome o F → IfSome o G
if_some None f h = tt
if_some (Some x) f h = f x h

pub if_none : {A : Type 0} {F G : Type 0} (o : Option A) → (F → G) → IfNone o F → IfNone o G
if_none None f h = f h
if_none (Some x) f h = tt

-- ---- what is needed

same_need : (k : net.Ask CodeProc) → table.need_in k ≡ need_in k
same_need Stop = refl
same_need (Go need f) = refl

pub needed : (y : CodeProc) → table.need_of code_language y ≡ need_of y
needed y = same_need (asks y)

pub waited : (y : CodeProc) → table.channel_waited code_language y ≡ channel_waited y
waited y = ap channel_needed (needed y)

pub new_so : (s : State CodeProc) (p : Place) → IsNewAt s p → pieces.IsNewAt code_language s p
new_so s p new = record { channel = λ y is number writers needs. new.channel y is number writers (sym (needed y) ∙ needs); children = new.children }

pub new_along : (s : State CodeProc) (p : Place) → IsNewAlong s p → pieces.IsNewAlong code_language s p
new_along s p new k legal = new_so _ p (new k legal)

pub makes_new : (s : State CodeProc) (p : Place) (y : CodeProc) → get s.procs p ≡ Some y → pieces.IsNewAt code_language s p → MakesNew p y s.chans
makes_new s p y is new number writers needs = new.channel y is number writers (needed y ∙ needs)

-- ---- what is told

pub meets_next : (y : CodeProc) (l : Look) → l ≡ look_of y → IfSome (event_in l) (λ e. look_of y ≡ look.Asks e)
meets_next y look.Goes told = tt
meets_next y (look.Asks k) told = sym told
meets_next y look.Stuck told = tt

pub shared_next : (y : CodeProc) (l : Look) → l ≡ look_of y → IfSome (event_in l) (λ e. (look_of y ≡ look.Asks e) × (is_local y ≡ false))
shared_next y look.Goes told = tt
shared_next y (look.Asks k) told = (sym told, asks_shared y k (sym told))
shared_next y look.Stuck told = tt

-- who can step, and stands at no event, goes on
pub goes_on : (s : State CodeProc) (p : Place) (y : CodeProc) → get s.procs p ≡ Some y → is_some (code_step s p) ≡ true → (l : Look) → l ≡ look_of y → event_in l ≡ None → look_of y ≡ look.Goes
goes_on s p y is can look.Goes told none = sym told
goes_on s p y is can (look.Asks k) told none = absurd (cc none)
goes_on s p y is can look.Stuck told none =
    let stays = stuck_stays s p (λ z there. let same : y ≡ z = cc (sym is ∙ there) in ap look_of (sym same) ∙ sym told) in
    absurd (cc (sym can ∙ ap is_some stays))

-- ---- joins

pub the_join : (k : Ask) → is_join k ≡ true → (next : ℕ) × (k ≡ ask.Join next)
the_join (ask.Fail line fault) e = absurd (cc e)
the_join (ask.LetGo slots) e = absurd (cc e)
the_join (ask.Channel inport outport to) e = absurd (cc e)
the_join (ask.Merger inport outports to) e = absurd (cc e)
the_join (ask.Send slot items to) e = absurd (cc e)
the_join (ask.Receive slot items status at_end to) e = absurd (cc e)
the_join (ask.Probe slot empty to) e = absurd (cc e)
the_join (ask.Begin to) e = absurd (cc e)
the_join (ask.Join to) e = (to, refl)
the_join ask.End e = absurd (cc e)

-- who waits for children, and joins, needs these
pub joins_block : (y : CodeProc) (k : Ask) → look_of y ≡ look.Asks k → is_joining y ≡ true → is_join k ≡ true → table.JoinsBlock code_language awaits y
joins_block y k told joining joins = go y.phase y.body refl refl (told ∙ ap look.Asks (the_join k joins).1) joining
  where
    go : (phase : Phase) (o : Option Body) → y.phase ≡ phase → y.body ≡ o → look_by phase o ≡ look.Asks (ask.Join (the_join k joins).0) → joins_by phase ≡ true → table.JoinsBlock code_language awaits y
    go Running o ph bo e j = absurd (cc j)
    go (Joining block kids) None ph bo e j = absurd (cc e)
    go (Joining block kids) (Some b) ph bo e j =
        let acts = join_in (action_of b) (the_join k joins).0 e in
        let asked : asks y ≡ Go (Children block (length kids)) (λ c r. joined y b (the_join k joins).0 kids r.children) = ap₂ (asks_by y) ph bo ∙ ap (joining_by y b block kids) acts in
        let count : length kids ≡ count_awaited (awaits y) = sym (ap (λ (v : Phase). count_awaited (awaited_in v)) ph) in
        record {
          block = block;
          needs = ap table.need_in asked ∙ ap (λ (n : ℕ). Some (Children block n)) count;
          family = λ places first q family. subst (λ (n : ℕ). AreChildren places first q block n) count (family block (length kids) (ap awaited_in ph));
        }
    go Ended o ph bo e j = absurd (cc j)
    go (Faulted line fault) o ph bo e j = absurd (cc j)

-- ---- steps

-- who did its event made its step
pub steps_to : (s : State CodeProc) (p : Place) (y : CodeProc) → get s.procs p ≡ Some y → (z : CodeProc) (xs : List CodeProc) (after : Chans) (cost : ℕ) → Performs p y s.chans z xs after cost
    → StepsTo code_language awaits (λ t. Unit {0}) s p y z xs after cost
steps_to s p y is z xs after cost does = record {
  step = performed s p y is z xs after cost does _ refl;
  starts = performed_starts s p y is z xs after cost does;
  waits = λ b n awaited. waits_by_phase z.phase y.next_block (length xs) (waits_for p y s.chans z xs after cost does) b n awaited;
  run = run_alone xs (all_run p y s.chans z xs after cost does);
  fits = tt;
}

module _ (slice : ℕ) (spare : Bool) (s : State CodeProc) (p : Place) (y : CodeProc) (is : get s.procs p ≡ Some y) (a : Advanced) (z : CodeProc) (runs : Runs y a.steps a.cost z) (within : a.steps ≤ slice) (next : a.next ≡ look_of z)
    (stops : a.steps ≢ slice → is_local z ≡ false) (some : 1 ≤ slice) (can : is_some (code_step s p) ≡ true) where
  abbrev at : AdvancesAt slice p y a s.procs (insert s.procs p z)
  at = record { after = z; runs = runs; within = within; next = next; stops = stops; procs_are = refl }

  abbrev Stops : Bool → Look → Type 0
  Stops used l = StopsSo code_language is_local (λ v k. k ≡ look_of v) (λ v e. look_of v ≡ look.Asks e) slice spare s p z a.steps (stop_of l used)

  stops_so : (used : Bool) → is_used_up a.steps slice spare ≡ used → (l : Look) → a.next ≡ l → Stops used l
  stops_so true e l told =
      let both = used_both a.steps slice spare e in
      let piece = whole_piece slice s p y is a (insert s.procs p z) at spare both.0 some (λ free. absurd (cc (sym free ∙ both.1))) in
      (sym told ∙ next, piece.some_steps, piece.full)
  stops_so false e look.Goes told =
      let own = own_behind slice s p y is a (insert s.procs p z) at told in
      let piece = whole_piece slice s p y is a (insert s.procs p z) at spare (used_up slice s p y is a (insert s.procs p z) at own) some (λ free. own) in
      (sym told ∙ next, piece.some_steps, piece.full)
  stops_so false e (look.Asks k) told =
      let asked : look_of z ≡ look.Asks k = sym next ∙ told in
      (asked, asks_shared z k asked, each_is_local slice s p y is a (insert s.procs p z) at, within, room_behind slice s p y is a (insert s.procs p z) at spare e)
  stops_so false e look.Stuck told =
      let none = stuck_stays (behind slice s p y is a (insert s.procs p z) at) p (λ v there. let same : z ≡ v = cc (sym (there_behind slice s p y is a (insert s.procs p z) at) ∙ there) in ap look_of (sym same) ∙ sym next ∙ told) in
      let piece = waiting_piece slice s p y is a (insert s.procs p z) at spare can none in
      (sym told ∙ next, piece.some_steps, piece.full)

  -- who made statements of its own advanced
  pub advances_to : Advances code_language is_local awaits (λ v k. k ≡ look_of v) (λ v e. look_of v ≡ look.Asks e) (λ t. Unit {0}) slice spare s p y z
      (record { stop = stop_of a.next (is_used_up a.steps slice spare); steps = a.steps; cost = a.cost }) s.chans
  advances_to = record {
    makes = statements_make slice s p y is a (insert s.procs p z) at;
    stops = stops_so (is_used_up a.steps slice spare) refl a.next refl;
    waits = ap awaited_in (same_phase y z a.steps a.cost runs);
    fits = tt;
  }

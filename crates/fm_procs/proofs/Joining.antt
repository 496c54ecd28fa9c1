-- The step of a process that joins a block.
use Rattle.std.proofs.Common.{◌≡◌, ℕ, true, Option, Some, None, List, [], ◌∷◌, length, refl, sym, ap, ap₂, subst, ◌∙◌}
use Rattle.std.specs.Prelude.{is_some, option_map}
use Rattle.std.specs.FinMap.{get, insert}
use Rattle.fm_base.specs.Channels.{Chans}
use Rattle.fm_finmap.specs.Changes.{alters}
use Rattle.fm_net.specs.Machine as net
use Rattle.fm_net.specs.Machine.{Place, Procs, State, Nothing, Event, New, Children, Stop, Go, child_changes, gathered, made, reply_with, served}
use Rattle.fm_net.specs.Starts.{starts_at}
use Rattle.fm_code.specs.declared.ask.Ask.TheVariants as ask
use Rattle.fm_code.specs.declared.body.Body.{Body}
use Rattle.fm_code.specs.Statements as code
use Rattle.fm_code.specs.Statements.{Action, action_of}
use Rattle.fm_machine_calls.specs.declared.looking.Look.TheVariants as look
use Rattle.fm_machine_calls.specs.Looks.{look_in}
use Rattle.fm_proc_language.specs.Processes.{CodeProc, Kid, Phase, Running, Joining, Ended, Faulted, asks, asks_by, code_language, emptied, has_ended, joined, joining_by, running_by}
use Rattle.fm_proc_events.specs.Told as told_of
use Rattle.fm_proc_events.specs.Told.{is_joining, look_by, look_of}
use Rattle.fm_procs.specs.Kept.{AreChildren, HasFamily}
use Rattle.fm_procs.specs.Readings.{awaited_in, code_step}
use Rattle.fm_procs.specs.Stepping.{JoinsAt}
use Rattle.fm_procs.specs.Waiting.{kids_in, served_asked}
use Rattle.fm_procs.proofs.Doing.{goes_on, starts_so}
use Rattle.fm_procs.proofs.Served.{steps_not, steps_served}

-- who joins, with its children, which have all ended
pub record JoinsNow (s : State CodeProc) (p : Place) (y : CodeProc) (next : ℕ) : Type 0 where
  pub block : ℕ
  pub kids : List Kid
  pub phase_is : y.phase ≡ Joining block kids
  pub body : Body
  pub asks_so : asks y ≡ Go (Children block (length kids)) (λ c r. joined y body next kids r.children)
  pub children : List CodeProc
  pub are : gathered has_ended s.procs p block 1 (length kids) ≡ Some children

pub join_in : (a : Action) (next : ℕ) → look_in a ≡ look.Asks (ask.Join next) → a ≡ code.Meets (ask.Join next)
join_in code.Stuck next e = absurd (cc e)
join_in (code.Own after lines [] cost) next e = absurd (cc e)
join_in (code.Own after lines (z ∷ zs) cost) next e = absurd (cc e)
join_in (code.Meets k) next e = let same : k ≡ ask.Join next = cc e in ap code.Meets same

all_there : (o : Option (List CodeProc)) → is_some (option_map reply_with o) ≡ true → (xs : List CodeProc) × (o ≡ Some xs)
all_there None e = absurd (cc e)
all_there (Some xs) e = (xs, refl)

pub joins_now : (s : State CodeProc) (p : Place) (y : CodeProc) (next : ℕ) → get s.procs p ≡ Some y → look_of y ≡ look.Asks (ask.Join next) → is_some (code_step s p) ≡ true → JoinsNow s p y next
joins_now s p y next is told can = go y.phase y.body refl refl told (sym (steps_served s p y is) ∙ can)
  where
    go : (phase : Phase) (o : Option Body) → y.phase ≡ phase → y.body ≡ o → look_by phase o ≡ look.Asks (ask.Join next) → served_asked s.procs s.chans p (asks_by y phase o) ≡ true → JoinsNow s p y next
    go Running None ph bo e serves = absurd (cc e)
    go Running (Some b) ph bo e serves = absurd (cc (sym serves ∙ ap (λ a. served_asked s.procs s.chans p (running_by y b a)) (join_in (action_of b) next e)))
    go (Joining block kids) None ph bo e serves = absurd (cc e)
    go (Joining block kids) (Some b) ph bo e serves =
        let acts = join_in (action_of b) next e in
        let all = all_there (gathered has_ended s.procs p block 1 (length kids)) (sym (ap (λ a. served_asked s.procs s.chans p (joining_by y b block kids a)) acts) ∙ serves) in
        record { block = block; kids = kids; phase_is = ph; body = b; asks_so = ap₂ (asks_by y) ph bo ∙ ap (joining_by y b block kids) acts; children = all.0; are = all.1 }
    go Ended o ph bo e serves = absurd (cc e)
    go (Faulted line fault) o ph bo e serves = absurd (cc e)

block_in : net.Ask CodeProc → ℕ
block_in Stop = 0
block_in (Go Nothing f) = 0
block_in (Go (Event c a) f) = 0
block_in (Go (New n writers) f) = 0
block_in (Go (Children b n) f) = b

count_in : net.Ask CodeProc → ℕ
count_in Stop = 0
count_in (Go Nothing f) = 0
count_in (Go (Event c a) f) = 0
count_in (Go (New n writers) f) = 0
count_in (Go (Children b n) f) = n

phase_behind : Place → List CodeProc → net.Ask CodeProc → Phase
phase_behind p zs Stop = Running
phase_behind p zs (Go need f) = (f (made p need) (reply_with zs)).self.phase

module _ (s : State CodeProc) (p : Place) (y : CodeProc) (is : get s.procs p ≡ Some y) (next : ℕ) (j : JoinsNow s p y next) where
  pub is_waiting : is_joining y ≡ true
  is_waiting = ap told_of.joins_by j.phase_is

  module _ (count : ℕ) (count_is : count ≡ length (kids_in y.phase)) where
    pub all_kids : count ≡ length j.kids
    all_kids = count_is ∙ ap (λ (ph : Phase). length (kids_in ph)) j.phase_is

    -- the children by their numbers
    pub its_children : (ps : List Place) (first : ℕ) → HasFamily ps p y.phase first → AreChildren ps first p j.block count
    its_children ps first has = subst (λ (n : ℕ). AreChildren ps first p j.block n) (sym all_kids) (has j.block (length j.kids) (ap awaited_in j.phase_is))

    pub have_ended : gathered has_ended s.procs p j.block 1 count ≡ Some j.children
    have_ended = ap (gathered has_ended s.procs p j.block 1) all_kids ∙ j.are

    module _ (m later : Procs CodeProc) (released : m ≡ alters (child_changes emptied p j.block 1 count) s.procs) (cs : Chans) (cost : ℕ) (done : JoinsAt p y j.children s.chans m later cs cost) where
      asked : Go (Children done.joins.block done.joins.count) done.joins.goes ≡ Go (Children j.block (length j.kids)) (λ c r. joined y j.body next j.kids r.children)
      asked = sym done.joins.asks_so ∙ j.asks_so

      block_is : done.joins.block ≡ j.block
      unfolding block_in
      block_is = ap block_in asked

      kids_are : done.joins.count ≡ length j.kids
      unfolding count_in
      kids_are = ap count_in asked

      serves : served has_ended s.procs s.chans p (Children done.joins.block done.joins.count) ≡ Some (reply_with j.children)
      serves =
          ap (option_map reply_with)
          (ap (λ (b : ℕ). gathered has_ended s.procs p b 1 done.joins.count) block_is ∙ ap (gathered has_ended s.procs p j.block 1) kids_are ∙ j.are)

      procs_are : insert (alters (child_changes emptied p done.joins.block 1 done.joins.count) s.procs) p done.after ≡ later
      procs_are =
          ap (λ (b : ℕ). insert (alters (child_changes emptied p b 1 done.joins.count) s.procs) p done.after) block_is
          ∙ ap (λ (n : ℕ). insert (alters (child_changes emptied p j.block 1 n) s.procs) p done.after) (kids_are ∙ sym all_kids)
          ∙ ap (λ (k : Procs CodeProc). insert k p done.after) (sym released) ∙ sym done.procs_are

      pub join_steps : code_step s p ≡ Some (record { procs = later; chans = cs }, cost)
      join_steps =
          goes_on s p y is (Children done.joins.block done.joins.count) done.joins.goes done.joins.asks_so (reply_with j.children) serves done.after [] cs cost done.joins.on
          ∙ ap (λ (k : Procs CodeProc). Some (record { procs = k; chans = cs }, cost)) procs_are

      pub join_starts : starts_at code_language s p ≡ []
      join_starts = starts_so s p y is (Children done.joins.block done.joins.count) done.joins.goes done.joins.asks_so (reply_with j.children) serves done.after [] cs cost done.joins.on

      pub join_runs : done.after.phase ≡ Running
      unfolding phase_behind
      join_runs = ap (λ (v : CodeProc). v.phase) done.joins.on.self ∙ ap (phase_behind p j.children) asked

-- who can step is there
pub stands : (o : Option CodeProc) (s : State CodeProc) (p : Place) → get s.procs p ≡ o → is_some (code_step s p) ≡ true → (y : CodeProc) × (o ≡ Some y)
stands None s p is can = absurd (cc (sym (steps_not s p is) ∙ can))
stands (Some y) s p is can = (y, refl)

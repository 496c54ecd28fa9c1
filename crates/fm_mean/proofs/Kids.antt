-- Who joins a block finds its children there.
use Rattle.std.proofs.Common.{◌≡◌, ℕ, suc, ◌<◌, Bool, true, false, Option, Some, None, List, [], ◌∷◌, map, length, refl, sym, ap, ◌∙◌, subst, arith}
use Rattle.std.proofs.lemmas.List.{length-map}
use Rattle.std.specs.FinMap.{get}
use Rattle.fm_base.specs.declared.path.ChanName.{ChanName}
use Rattle.fm_base.specs.Channels.{Message}
use Rattle.fm_finmap.specs.Changes.{alters}
use Rattle.fm_net.specs.Machine.{Place, Procs, Need, Reply, Onward, Ask, Stop, Go, child, changes}
use Rattle.fm_net.specs.Typed.{AllIn}
use Rattle.fm_rules.specs.declared.program.Program.{Program}
use Rattle.fm_mean.specs.declared.place.Span.{Span}
use Rattle.fm_mean.specs.Names.{unit_at}
use Rattle.fm_mean.specs.Process.{Start, Frame, Kid, Phase, Running, Joining, Ended, Faulted, Proc, emptied, has_ended}
use Rattle.fm_mean.specs.Calls.{child_of}
use Rattle.fm_mean.specs.Actions.{Event, Fail, Make, Send, Receive, Probe, Begin, Join, End, Action, Rest, Own, Meets, action_in, after_at, joining}
use Rattle.fm_mean.specs.Steps as steps
use Rattle.fm_mean.specs.Steps.{ask, ask_at, ask_event, ask_for, kid_of, received}
use Rattle.fm_mean.proofs.EachStep.{EachAt, starts_there, still_there}

-- ---- how a process goes on

-- who joins then joins what it starts, and children begin as they run
pub record BeginsSo (o : Onward Proc) : Type 0 where
  pub joins : (b : ℕ) (kids : List Kid) → o.self.phase ≡ Joining b kids → (b ≡ o.block) × (length kids ≡ length o.starts)
  pub run : AllIn (λ (y : Proc). y.phase ≡ Running) o.starts

abbrev pub BeginsAsk : Ask Proc → Type 0
BeginsAsk Stop = Unit {0}
BeginsAsk (Go need f) = (c : ChanName) (r : Reply Proc) → BeginsSo (f c r)

-- the phase is another one than Joining
abbrev IsElsewhere : Phase → Type 0
IsElsewhere Running = Unit {0}
IsElsewhere (Joining b kids) = ⊥
IsElsewhere Ended = Unit {0}
IsElsewhere (Faulted line fault) = Unit {0}

elsewhere : (o : Onward Proc) → IsElsewhere o.self.phase → AllIn (λ (y : Proc). y.phase ≡ Running) o.starts → BeginsSo o
elsewhere o h run = record { joins = λ b kids e. absurd (subst IsElsewhere e h); run = run }

children_run : (ss : List Start) → AllIn (λ (y : Proc). y.phase ≡ Running) (map child_of ss)
children_run [] = tt
children_run (s ∷ ss) = (refl, children_run ss)

the_block : (a b : ℕ) (xs ys : List Kid) → Joining a xs ≡ Joining b ys → (a ≡ b) × (xs ≡ ys)
the_block a b xs ys e = (ap number e, ap kids_of e)
  where
    number : Phase → ℕ
    number (Joining n kids) = n
    number Running = 0
    number Ended = 0
    number (Faulted line fault) = 0

    kids_of : Phase → List Kid
    kids_of (Joining n kids) = kids
    kids_of Running = []
    kids_of Ended = []
    kids_of (Faulted line fault) = []

module _ (p : Program) (x : Proc) where
  joins_begin : (block : ℕ) (kids : List Kid) (next : ℕ) (fs : List Frame) → BeginsAsk (ask_event p x (Join block kids next) fs)
  joins_begin block kids next [] = tt
  joins_begin block kids next (f ∷ below) = λ c r. elsewhere _ tt tt

  module _ (runs : x.phase ≡ Running) where
    is_elsewhere : IsElsewhere x.phase
    is_elsewhere = subst IsElsewhere (sym runs) tt

    came : (line : ℕ) (below : List Frame) (f : Frame) (next : ℕ) (items : List Span) (iostat : Option Span) (to : Option ℕ) (m : Option Message) → BeginsSo (received x line below f next items iostat to m)
    came line below f next items iostat to (Some m) = elsewhere _ is_elsewhere tt
    came line below f next items None None None = elsewhere _ tt tt
    came line below f next items None (Some n) None = elsewhere _ is_elsewhere tt
    came line below f next items (Some s) to None = elsewhere _ is_elsewhere tt

    came_with : (line : ℕ) (below : List Frame) (f : Frame) (next : ℕ) (items : List Span) (iostat : Option Span) (to : Option ℕ) (exceeds : Bool) (m : Option Message) → BeginsSo (steps.met x line below f next items iostat to exceeds m)
    came_with line below f next items iostat to true None = elsewhere _ tt tt
    came_with line below f next items iostat to true (Some m) = came line below f next items iostat to (Some m)
    came_with line below f next items iostat to false m = came line below f next items iostat to m

    event_begins : (below : List Frame) (f : Frame) (e : Event) → BeginsAsk (ask_at p x below f e)
    event_begins below f (Fail line fault) = λ c r. elsewhere _ tt tt
    event_begins below f (Make places n cost next) = λ c r. elsewhere _ is_elsewhere tt
    event_begins below f (Send d w items next) = λ c r. elsewhere _ is_elsewhere tt
    event_begins below f (Receive d line items iostat to next) = λ c r. came_with line below f next items iostat to r.exceeds r.message
    event_begins below f (Probe d place next) = λ c r. elsewhere _ is_elsewhere tt
    event_begins below f Begin = λ c r. record {
      joins = λ b kids e.
          let same = the_block x.next_block b (map kid_of f.starts) kids e in
          (sym same.0, ap length (sym same.1) ∙ length-map f.starts kid_of ∙ sym (length-map f.starts child_of));
      run = children_run f.starts;
    }
    event_begins below f (Join block kids next) = λ c r. elsewhere _ tt tt
    event_begins below f End = λ c r. elsewhere _ tt tt

    frames_begin : (e : Event) (fs : List Frame) → BeginsAsk (ask_event p x e fs)
    frames_begin e [] = tt
    frames_begin e (f ∷ below) = event_begins below f e

    action_begins : (a : Action) → BeginsAsk (ask_for p x a)
    action_begins Rest = tt
    action_begins (Own w lines drops cost) = λ c r. elsewhere _ is_elsewhere tt
    action_begins (Meets e) = frames_begin e x.execution.frames

  join_begins : (block : ℕ) (kids : List Kid) (fs : List Frame) → BeginsAsk (ask_for p x (joining p block kids fs))
  join_begins block kids [] = tt
  join_begins block kids (f ∷ below) = joins_begin block kids (after_at (unit_at p f.unit) f.entry) x.execution.frames

  phase_begins : (phase : Phase) → x.phase ≡ phase → BeginsAsk (ask_for p x (action_in p x.execution phase))
  phase_begins Running is = action_begins is (action_in p x.execution Running)
  phase_begins (Joining block kids) is = join_begins block kids x.execution.frames
  phase_begins Ended is = tt
  phase_begins (Faulted line fault) is = tt

  pub begins_so : BeginsAsk (ask p x)
  begins_so = phase_begins x.phase refl

-- ---- all children are there

-- the children of a process that joins are there
abbrev pub HasKids : Procs Proc → Place → Proc → Type 0
HasKids m q x = (b : ℕ) (kids : List Kid) → x.phase ≡ Joining b kids → (i : ℕ) → i < length kids → (y : Proc) × (get m (child q b (suc i)) ≡ Some y)

abbrev pub HaveKids : Procs Proc → Type 0
HaveKids m = EachAt (HasKids m) m

later_kids : (m : Procs Proc) (p : Place) (need : Need) (o : Onward Proc) (q : Place) (x : Proc) → HasKids m q x → HasKids (alters (changes emptied p need o) m) q x
later_kids m p need o q x h b kids is i low = let y = h b kids is i low in still_there emptied m p need o (child q b (suc i)) y.0 y.1

pub no_kids : (m : Procs Proc) (q : Place) (x : Proc) → x.phase ≡ Running → HasKids m q x
no_kids m q x runs b kids is = absurd (cc (sym runs ∙ is))

started_kids : (m : Procs Proc) (p : Place) (b : ℕ) (xs : List Proc) → AllIn (λ (y : Proc). y.phase ≡ Running) xs → AllIn (λ (y : Proc). (i : ℕ) → HasKids m (child p b i) y) xs
started_kids m p b [] all = tt
started_kids m p b (x ∷ xs) all = ((λ i. no_kids m (child p b i) x all.0), started_kids m p b xs all.1)

pub own_kids : (m : Procs Proc) (p : Place) (need : Need) (o : Onward Proc) → BeginsSo o → HasKids (alters (changes emptied p need o) m) p o.self
own_kids m p need o so b kids is i low =
    let j = so.joins b kids is in
    let n = j.1 in
    let y = starts_there emptied m p need o i (omega (arith, low, n)) in
    (y.0, ap (λ (k : ℕ). get (alters (changes emptied p need o) m) (child p k (suc i))) j.0 ∙ y.1)

pub new_kids : (m : Procs Proc) (p : Place) (o : Onward Proc) → BeginsSo o → AllIn (λ (y : Proc). (i : ℕ) → HasKids m (child p o.block i) y) o.starts
new_kids m p o so = started_kids m p o.block o.starts so.run

pub kids_later : (m : Procs Proc) (p : Place) (need : Need) (o : Onward Proc) → HaveKids m → EachAt (HasKids (alters (changes emptied p need o) m)) m
kids_later m p need o each q x is = later_kids m p need o q x (each q x is)

pub emptied_kids : (m : Procs Proc) (q : Place) (x : Proc) → has_ended x ≡ true → HasKids m q x → HasKids m q (emptied x)
emptied_kids m q x done h = h

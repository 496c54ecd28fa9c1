-- The join of a block: where it goes on, and what its children left.
use Rattle.std.proofs.Common.{◌≡◌, ◌+◌, ◌<◌, ℕ, true, Some, None, List, [], ◌∷◌, length, map, refl, sym, ap, subst, ◌∙◌, arith}
use Rattle.fm_base.specs.declared.path.ChanName.{ChanName}
use Rattle.fm_base.specs.declared.port.PortValue.{PortValue}
use Rattle.fm_net.specs.Machine.{Children, Reply, Onward, Go, reply_with}
use Rattle.fm_rules.specs.declared.program.Program.{Program}
use Rattle.fm_mean.specs.Actions.{Join, Meets, action_of}
use Rattle.fm_mean.specs.Outcome.{need_in, need_of}
use Rattle.fm_mean.specs.Process.{Frame, Kid, Phase, Proc, Running, Joining, Ended, Faulted}
use Rattle.fm_mean.specs.Steps.{ask, ask_for, ask_event, joined, joining_words}
use Rattle.fm_plain.specs.Events.{IsEvent, event_by}
use Rattle.fm_plain.specs.Events as events
use Rattle.fm_plain.specs.Looking.{is_free}
use Rattle.fm_plain.specs.declared.event.Event as plain
use Rattle.fm_plain.specs.declared.event.Event.TheVariants as event
use Rattle.fm_plain_replies.specs.declared.joining.Ended as child
use Rattle.fm_plain_replies.specs.Goes.{in_frames}
use Rattle.fm_plain_replies.specs.Joins.{after_join, frames_in, kids_in, left_frames}
use Rattle.fm_nodes_procs.specs.Asks.{AllLeft, GoesSo}
use Rattle.fm_nodes_trees.specs.Goes.{next_behind}
use Rattle.fm_nodes_trees.proofs.Framed.{asks_at, in_some, same_at}

-- the children that a process waits for are those of its event
same_kids : (ph : Phase) → events.kids_in ph ≡ kids_in ph
same_kids Running = refl
same_kids (Joining b kids) = refl
same_kids Ended = refl
same_kids (Faulted line fault) = refl

module _ (p : Program) (x : Proc) (b n : ℕ) (f : ChanName → Reply Proc → Onward Proc) (asks : ask p x ≡ Go (Children b n) f) where
  need_is : need_of p x ≡ Some (Children b n)
  need_is = ap need_in asks

  -- the process that joins doesn't rest, and doesn't go free
  pub rests_not : need_of p x ≡ None → ⊥
  rests_not is = cc (sym need_is ∙ is)

  pub free_not : is_free (need_of p x) ≡ true → ⊥
  free_not is = cc (sym (ap is_free need_is) ∙ is)

  -- where it goes on
  pub record Behind (next : ℕ) : Type 0 where
    pub block : ℕ
    pub joins : action_of p x ≡ Meets (Join block (kids_in x.phase) next)

  others_in : (e : plain.Event) (fs : List Frame) → need_in (ask_event p x (event_by x.phase e) fs) ≡ Some (Children b n) → action_of p x ≡ Meets (event_by x.phase e) → Behind (next_behind e)
  others_in (event.Fail line why) [] h is = absurd (cc h)
  others_in (event.Fail line why) (g ∷ below) h is = absurd (cc h)
  others_in (event.Make places k cost next) [] h is = absurd (cc h)
  others_in (event.Make places k cost next) (g ∷ below) h is = absurd (cc h)
  others_in (event.Send d w items next) [] h is = absurd (cc h)
  others_in (event.Send d w items next) (g ∷ below) h is = absurd (cc h)
  others_in (event.Receive d line items iostat to next) [] h is = absurd (cc h)
  others_in (event.Receive d line items iostat to next) (g ∷ below) h is = absurd (cc h)
  others_in (event.Probe d place next) [] h is = absurd (cc h)
  others_in (event.Probe d place next) (g ∷ below) h is = absurd (cc h)
  others_in event.Begin [] h is = absurd (cc h)
  others_in event.Begin (g ∷ below) h is = absurd (cc h)
  others_in (event.Join block count next) fs h is = record { block = block; joins = is ∙ ap (λ (ks : List Kid). Meets (Join block ks next)) (same_kids x.phase) }
  others_in event.End [] h is = absurd (cc h)
  others_in event.End (g ∷ below) h is = absurd (cc h)

  pub behind : (e : plain.Event) → IsEvent x.phase (action_of p x) e → Behind (next_behind e)
  behind e is = others_in e x.execution.frames (sym (ap (λ a. need_in (ask_for p x a)) is.0) ∙ need_is) is.0

-- the children that left these frames
pub all_left : (p : Program) (kids : List Proc) (left : List child.Ended) → AllLeft (λ x l. left_frames p l ≡ frames_in x) kids left → map frames_in kids ≡ map (left_frames p) left
all_left p [] [] all = refl
all_left p [] (l ∷ ls) all = absurd all
all_left p (x ∷ xs) [] all = absurd all
all_left p (x ∷ xs) (l ∷ ls) all = λ i. sym all.0 i ∷ all_left p xs ls all.1 i

-- some children left these
pub record Leavers (p : Program) (left : List child.Ended) : Type 0 where
  pub kids : List Proc
  pub are : map frames_in kids ≡ map (left_frames p) left

abbrev with_frames : Program → child.Ended → Proc
with_frames p l = record { phase = Running; execution = record { frames = left_frames p l; machine = record { first = 0; count = 1 }; node = 0 }; lines = []; next_block = 1; next_channel = 1 }

pub leavers : (p : Program) (left : List child.Ended) → Leavers p left
leavers p [] = record { kids = []; are = refl }
leavers p (l ∷ ls) =
    let more = leavers p ls in
    record { kids = with_frames p l ∷ more.kids; are = go more.kids more.are }
  where
    go : (ks : List Proc) → map frames_in ks ≡ map (left_frames p) ls → map frames_in (with_frames p l ∷ ks) ≡ map (left_frames p) (l ∷ ls)
    go ks are = ap (λ zs. left_frames p l ∷ zs) are

-- the cost of a join is small where the words to copy back are few
pub payable : (x : Proc) (next : ℕ) (ys : List Proc) (limit : ℕ) → 1 + joining_words (kids_in x.phase) < limit → (after_join x next ys).cost < limit
payable x next ys limit few = go x.execution.frames
  where
    go : (fs : List Frame) → (in_frames x (λ below f. joined x below f next (kids_in x.phase) ys) fs).cost < limit
    go [] = omega arith
    go (f ∷ below) = few

-- the process goes on with its children
pub joins_so : (p : Program) (x y : Proc) (b n : ℕ) (f : ChanName → Reply Proc → Onward Proc) (kids : List Proc) (c : ChanName) (block next : ℕ) → ask p x ≡ Go (Children b n) f → action_of p x ≡ Meets (Join block (kids_in x.phase) next)
    → y ≡ (after_join x next kids).self → (drops : List PortValue) → drops ≡ (after_join x next kids).drops → (cost : ℕ) → cost ≡ (after_join x next kids).cost → GoesSo y [] drops cost (f c (reply_with kids))
joins_so p x y b n f kids c block next asks meets is drops gone cost paid =
    let i = in_some p x (Join block (kids_in x.phase) next) meets in
    let g : ChanName → Reply Proc → Onward Proc = λ c r. joined x i.below i.top next (kids_in x.phase) r.children in
    let here : ask p x ≡ Go (Children block (length (kids_in x.phase))) g = asks_at p x (Join block (kids_in x.phase) next) meets i in
    let same : after_join x next kids ≡ joined x i.below i.top next (kids_in x.phase) kids = ap (in_frames x (λ below f. joined x below f next (kids_in x.phase) kids)) i.is in
    subst (λ (o : Onward Proc). GoesSo y [] drops cost o) (sym (same_at c (reply_with kids) (ask p x) (Children b n) (Children block (length (kids_in x.phase))) f g asks here))
    (record { self_is = is ∙ ap (λ (o : Onward Proc). o.self) same; starts_are = refl; drops_are = gone ∙ ap (λ (o : Onward Proc). o.drops) same; cost_is = paid ∙ ap (λ (o : Onward Proc). o.cost) same })

-- How a process goes on, by its own step and by the event that it meets.
use Rattle.std.proofs.Common.{◌≡◌, ◌+◌, ℕ, ℤ, Bool, true, false, Option, Some, None, List, [], ◌∷◌, map, refl, sym, ap, subst, ◌∙◌}
use Rattle.fm_base.specs.declared.fault.Fault.{Fault}
use Rattle.fm_base.specs.declared.fault.Fault.TheVariants.{Subscript}
use Rattle.fm_base.specs.declared.path.ChanName.{ChanName}
use Rattle.fm_base.specs.declared.port.PortValue.{PortValue}
use Rattle.fm_base.specs.Channels.{Item, Words, Message, Push, Pop, Look}
use Rattle.fm_net.specs.Machine.{Place, Need, Nothing, New, Reply, Onward, Go, made, reply_with}
use Rattle.fm_net.specs.Machine as net
use Rattle.fm_net.specs.Owned.{name_of}
use Rattle.fm_rules.specs.declared.program.Program.{Program}
use Rattle.fm_mean.specs.declared.place.Actual.{Actual}
use Rattle.fm_mean.specs.declared.place.Span.{Span}
use Rattle.fm_mean.specs.Actions.{Action, Event, Fail, Make, Send, Receive, Probe, Begin, End, Rest, Own, Meets, action_of, gone_on, message_words}
use Rattle.fm_mean.specs.Calls.{child_of}
use Rattle.fm_mean.specs.Places.{message_from}
use Rattle.fm_mean.specs.Process.{Frame, Proc}
use Rattle.fm_mean.specs.Steps.{ask, ask_for, ask_at, at_the_end, began, came, ended, faulted, left_with, limits_of, met, onward, probed}
use Rattle.fm_mean.specs.Steps as steps
use Rattle.fm_plain.specs.Steps.{own_in}
use Rattle.fm_plain_frame.specs.declared.process.PlainProc.{PlainProc}
use Rattle.fm_plain_replies.specs.Goes.{in_frames, after_begin, after_end_of_channel, after_make, after_message, after_probe, after_send}
use Rattle.fm_nodes_procs.specs.Asks.{GoesSo, came_with}
use Rattle.fm_nodes_trees.specs.declared.drops.Drops.{Drops}
use Rattle.fm_nodes_trees.specs.Drops.{drops_in}
use Rattle.fm_nodes_trees.specs.Goes.{Goes}
use Rattle.fm_nodes_trees.specs.Told.{open_starts}
use Rattle.fm_nodes_trees.proofs.Framed.{asks_at, in_some, same_onward}

-- an ask with its reply, and what comes of it
pub record Answered (path : Place) (r : Reply Proc) (a : net.Ask Proc) (y : Proc) (starts : List Proc) (drops : List PortValue) (cost : ℕ) : Type 0 where
  pub need : Need
  pub going : ChanName → Reply Proc → Onward Proc
  pub asks : a ≡ Go need going
  pub so : GoesSo y starts drops cost (going (made path need) r)

same_triple : (a b : Proc × List PortValue × ℕ) → Some a ≡ Some b → a ≡ b
same_triple a b e = cc e

module _ (p : Program) (path : Place) (x : Proc) (message : Option (List (List ℤ))) (exceeds : Bool) where
  abbrev reply : Reply Proc
  reply = came_with message exceeds

  -- what it asks for is one thing
  answered : (y : Proc) (starts : List Proc) (drops : List PortValue) (cost : ℕ) → Answered path reply (ask p x) y starts drops cost → Goes p path x message exceeds y starts drops cost
  answered y starts drops cost a = λ need f asks apart.
      subst (λ (o : Onward Proc). GoesSo y starts drops cost o) (sym (same_onward path reply (ask p x) need a.need f a.going asks a.asks)) a.so

  at_event : (e : Event) → action_of p x ≡ Meets e → (y : Proc) (starts : List Proc) (drops : List PortValue) (cost : ℕ)
      → ((below : List Frame) (f : Frame) → x.execution.frames ≡ f ∷ below → Answered path reply (ask_at p x below f e) y starts drops cost) → Goes p path x message exceeds y starts drops cost
  at_event e meets y starts drops cost h =
      let i = in_some p x e meets in
      let a = h i.below i.top i.is in
      answered y starts drops cost (record { need = a.need; going = a.going; asks = asks_at p x e meets i ∙ a.asks; so = a.so })

  -- its own step
  own_answer : (a : Action) (y : Proc) (drops : List PortValue) (cost : ℕ) → own_in x a ≡ Some (y, drops, cost) → Answered path reply (ask_for p x a) y [] drops cost
  own_answer Rest y drops cost is = absurd (cc is)
  own_answer (Own w lines ds n) y drops cost is =
      let same = same_triple (gone_on x w lines, ds, n) (y, drops, cost) is in
      record {
        need = Nothing;
        going = λ c r. onward x (gone_on x w lines) [] ds n;
        asks = refl;
        so = record { self_is = sym (ap (λ t. t.0) same); starts_are = refl; drops_are = sym (ap (λ t. t.1) same); cost_is = sym (ap (λ t. t.2) same) };
      }
  own_answer (Meets e) y drops cost is = absurd (cc is)

  pub own_goes : (y : Proc) (drops : List PortValue) (cost : ℕ) → own_in x (action_of p x) ≡ Some (y, drops, cost) → Goes p path x message exceeds y [] drops cost
  own_goes y drops cost is = answered y [] drops cost (own_answer (action_of p x) y drops cost is)

  -- nothing more
  pub rest_goes : (y : Proc) (starts : List Proc) (drops : List PortValue) (cost : ℕ) → action_of p x ≡ Rest → Goes p path x message exceeds y starts drops cost
  rest_goes y starts drops cost is = λ need f asks apart. absurd (cc (sym (ap (ask_for p x) is) ∙ asks))

  pub fails : (line : ℕ) (why : Fault) → action_of p x ≡ Meets (Fail line why) → (y : Proc) → y ≡ (faulted x line why).self → Goes p path x message exceeds y [] [] 1
  fails line why meets y is = at_event (Fail line why) meets y [] [] 1 (λ below f frames. record {
    need = Nothing;
    going = λ c r. faulted x line why;
    asks = refl;
    so = record { self_is = is; starts_are = refl; drops_are = refl; cost_is = refl };
  })

  pub makes : (places : List Span) (n cost next : ℕ) → action_of p x ≡ Meets (Make places n cost next) → (y : Proc) → y ≡ (after_make x next places n cost (name_of path x.next_channel)).self
      → (drops : List PortValue) → drops ≡ (after_make x next places n cost (name_of path x.next_channel)).drops → Goes p path x message exceeds y [] drops cost
  makes places n cost next meets y is drops gone = at_event (Make places n cost next) meets y [] drops cost (λ below f frames.
      let c = name_of path x.next_channel in
      let same : after_make x next places n cost c ≡ steps.made x below f next places n cost c = ap (in_frames x (λ below f. steps.made x below f next places n cost c)) frames in
      record {
        need = New x.next_channel n;
        going = λ c r. steps.made x below f next places n cost c;
        asks = refl;
        so = record { self_is = is ∙ ap (λ (o : Onward Proc). o.self) same; starts_are = refl; drops_are = gone ∙ ap (λ (o : Onward Proc). o.drops) same; cost_is = refl };
      })

  pub sends : (d : ChanName) (w : ℕ) (items : List Actual) (next : ℕ) → action_of p x ≡ Meets (Send d w items next) → (y : Proc) → y ≡ (after_send x next items).self
      → (cost : ℕ) → ((vs : List Item) → cost ≡ 1 + message_words (message_from vs items).1) → Goes p path x message exceeds y [] [] cost
  sends d w items next meets y is cost paid = at_event (Send d w items next) meets y [] [] cost (λ below f frames.
      let same : after_send x next items ≡ left_with x below f next (message_from f.values items) = ap (in_frames x (λ below f. left_with x below f next (message_from f.values items))) frames in
      record {
        need = net.Event d (Push w (message_from f.values items).1);
        going = λ c r. left_with x below f next (message_from f.values items);
        asks = refl;
        so = record { self_is = is ∙ ap (λ (o : Onward Proc). o.self) same; starts_are = refl; drops_are = refl; cost_is = paid f.values };
      })

  pub probes : (d : ChanName) (place : Span) (next : ℕ) → action_of p x ≡ Meets (Probe d place next) → (y : Proc) → y ≡ (after_probe x next place false).self → Goes p path x message exceeds y [] [] 1
  probes d place next meets y is = at_event (Probe d place next) meets y [] [] 1 (λ below f frames.
      let same : after_probe x next place false ≡ probed x below f next place false = ap (in_frames x (λ below f. probed x below f next place false)) frames in
      record {
        need = net.Event d Look;
        going = λ c r. probed x below f next place r.waits;
        asks = refl;
        so = record { self_is = is ∙ ap (λ (o : Onward Proc). o.self) same; starts_are = refl; drops_are = refl; cost_is = refl };
      })

  pub begins : action_of p x ≡ Meets Begin → (y : Proc) → y ≡ (after_begin x).self → (starts : List Proc) → starts ≡ (after_begin x).starts → (cost : ℕ) → cost ≡ 1 + open_starts x.execution.frames → Goes p path x message exceeds y starts [] cost
  begins meets y is starts born cost paid = at_event Begin meets y starts [] cost (λ below f frames.
      let same : after_begin x ≡ began x below f = ap (in_frames x (λ below f. began x below f)) frames in
      let kids : starts ≡ map child_of f.starts = born ∙ ap (λ (o : Onward Proc). o.starts) same in
      record {
        need = Nothing;
        going = λ c r. began x below f;
        asks = refl;
        so = record { self_is = is ∙ ap (λ (o : Onward Proc). o.self) same; starts_are = kids; drops_are = refl; cost_is = paid ∙ ap (λ (fs : List Frame). 1 + open_starts fs) frames };
      })

  pub ends : action_of p x ≡ Meets End → (y : Proc) → y ≡ (ended p x).self → (drops : List PortValue) → drops ≡ (ended p x).drops → Goes p path x message exceeds y [] drops 1
  ends meets y is drops gone = at_event End meets y [] drops 1 (λ below f frames. record {
    need = Nothing;
    going = λ c r. ended p x;
    asks = refl;
    so = record { self_is = is; starts_are = refl; drops_are = gone; cost_is = refl };
  })

  module _ (d : ChanName) (line : ℕ) (items : List Span) (iostat : Option Span) (to : Option ℕ) (next : ℕ) (meets : action_of p x ≡ Meets (Receive d line items iostat to next)) where
    receives : (y : Proc) (drops : List PortValue) (cost : ℕ) → ((below : List Frame) (f : Frame) → x.execution.frames ≡ f ∷ below → GoesSo y [] drops cost (met x line below f next items iostat to reply.exceeds reply.message))
        → Goes p path x message exceeds y [] drops cost
    receives y drops cost h = at_event (Receive d line items iostat to next) meets y [] drops cost (λ below f frames. record {
      need = net.Event d (Pop (limits_of items));
      going = λ c r. met x line below f next items iostat to r.exceeds r.message;
      asks = refl;
      so = h below f frames;
    })

-- a message that came
module _ (p : Program) (path : Place) (x : Proc) (exceeds : Bool) (d : ChanName) (line : ℕ) (items : List Span) (iostat : Option Span) (to : Option ℕ) (next : ℕ) (meets : action_of p x ≡ Meets (Receive d line items iostat to next)) where
  met_some : (over : Bool) (below : List Frame) (f : Frame) (m : Message) → came x below f next items iostat m ≡ met x line below f next items iostat to over (Some m)
  met_some true below f m = refl
  met_some false below f m = refl

  pub stores : (wss : List (List ℤ)) (y : Proc) → y ≡ (after_message x next items iostat (map Words wss)).self → (drops : List PortValue) → drops ≡ (after_message x next items iostat (map Words wss)).drops
      → (cost : ℕ) → cost ≡ 1 + message_words (map Words wss) → Goes p path x (Some wss) exceeds y [] drops cost
  stores wss y is drops gone cost paid = receives p path x (Some wss) exceeds d line items iostat to next meets y drops cost (λ below f frames.
      let m = map Words wss in
      let same : after_message x next items iostat m ≡ came x below f next items iostat m = ap (in_frames x (λ below f. came x below f next items iostat m)) frames in
      subst (λ (o : Onward Proc). GoesSo y [] drops cost o) (met_some exceeds below f m)
      (record { self_is = is ∙ ap (λ (o : Onward Proc). o.self) same; starts_are = refl; drops_are = gone ∙ ap (λ (o : Onward Proc). o.drops) same; cost_is = paid }))

-- none came: one is there that exceeds the places, or the channel is at its end
module _ (p : Program) (path : Place) (x : Proc) (d : ChanName) (line : ℕ) (items : List Span) (iostat : Option Span) (to : Option ℕ) (next : ℕ) (meets : action_of p x ≡ Meets (Receive d line items iostat to next)) where
  pub overflows : (exceeds : Bool) → exceeds ≡ true → (y : Proc) → y ≡ (faulted x line Subscript).self → Goes p path x None exceeds y [] [] 1
  overflows exceeds over y is = receives p path x None exceeds d line items iostat to next meets y [] 1 (λ below f frames.
      subst (λ (b : Bool). GoesSo y [] [] 1 (met x line below f next items iostat to b None)) (sym over)
      (record { self_is = is; starts_are = refl; drops_are = refl; cost_is = refl }))

  end_so : (below : List Frame) (f : Frame) (ios : Option Span) (goal : Option ℕ) (y : Proc) → y ≡ (at_the_end x line below f next ios goal).self → GoesSo y [] [] 1 (at_the_end x line below f next ios goal)
  end_so below f None None y is = record { self_is = is; starts_are = refl; drops_are = refl; cost_is = refl }
  end_so below f None (Some n) y is = record { self_is = is; starts_are = refl; drops_are = refl; cost_is = refl }
  end_so below f (Some s) goal y is = record { self_is = is; starts_are = refl; drops_are = refl; cost_is = refl }

  pub stops : (exceeds : Bool) → exceeds ≡ false → (y : Proc) → y ≡ (after_end_of_channel x line next iostat to).self → Goes p path x None exceeds y [] [] 1
  stops exceeds over y is = receives p path x None exceeds d line items iostat to next meets y [] 1 (λ below f frames.
      let same : after_end_of_channel x line next iostat to ≡ at_the_end x line below f next iostat to = ap (in_frames x (λ below f. at_the_end x line below f next iostat to)) frames in
      subst (λ (b : Bool). GoesSo y [] [] 1 (met x line below f next items iostat to b None)) (sym over)
      (end_so below f iostat to y (is ∙ ap (λ (o : Onward Proc). o.self) same)))

-- its own step needs nothing
pub record OwnStep (p : Program) (x y : Proc) (drops : List PortValue) (cost : ℕ) : Type 0 where
  pub goes : ChanName → Reply Proc → Onward Proc
  pub asks : ask p x ≡ Go Nothing goes
  pub so : (c : ChanName) → GoesSo y [] drops cost (goes c (reply_with []))

own_by : (p : Program) (x y : Proc) (drops : List PortValue) (cost : ℕ) (a : Action) → action_of p x ≡ a → own_in x a ≡ Some (y, drops, cost) → OwnStep p x y drops cost
own_by p x y drops cost Rest acts is = absurd (cc is)
own_by p x y drops cost (Own w lines ds n) acts is =
    let same = same_triple (gone_on x w lines, ds, n) (y, drops, cost) is in
    record {
      goes = λ c r. onward x (gone_on x w lines) [] ds n;
      asks = ap (ask_for p x) acts;
      so = λ c. record { self_is = sym (ap (λ t. t.0) same); starts_are = refl; drops_are = sym (ap (λ t. t.1) same); cost_is = sym (ap (λ t. t.2) same) };
    }
own_by p x y drops cost (Meets e) acts is = absurd (cc is)

pub own_step : (p : Program) (x y : Proc) (drops : List PortValue) (cost : ℕ) → own_in x (action_of p x) ≡ Some (y, drops, cost) → OwnStep p x y drops cost
own_step p x y drops cost is = own_by p x y drops cost (action_of p x) refl is

-- as it is told in memory, where nobody starts
pub in_place : (p : Program) (path : Place) (x : Proc) (message : Option (List (List ℤ))) (exceeds : Bool) (y : Proc) (seen : PlainProc → Proc) (starts : List PlainProc) (drops gone : List PortValue) (cost paid : ℕ)
    → Goes p path x message exceeds y [] gone paid → starts ≡ [] → drops ≡ gone → cost ≡ paid → Goes p path x message exceeds y (map seen starts) drops cost
in_place p path x message exceeds y seen starts drops gone cost paid goes none same price =
    subst (λ (xs : List PlainProc). Goes p path x message exceeds y (map seen xs) drops cost) (sym none)
    (subst (λ (zs : List PortValue). Goes p path x message exceeds y [] zs cost) (sym same)
    (subst (λ (n : ℕ). Goes p path x message exceeds y [] gone n) (sym price) goes))

same_pair : (a b : Drops × ℕ) → Some a ≡ Some b → a ≡ b
same_pair a b e = cc e

-- as it is told in memory
pub own_told : (p : Program) (x y : Proc) (here d : Drops) (paid cost : ℕ) (gone : List PortValue) → drops_in p here ≡ gone → own_in x (action_of p x) ≡ Some (y, gone, paid) → ◌≡◌ {A = Option (Drops × ℕ)} (Some (here, paid)) (Some (d, cost))
    → (f : ChanName → Reply Proc → Onward Proc) × (ask p x ≡ Go Nothing f) × ((c : ChanName) → GoesSo y [] (drops_in p d) cost (f c (reply_with [])))
own_told p x y here d paid cost gone is acts told =
    let same = same_pair (here, paid) (d, cost) told in
    let step = own_step p x y gone paid acts in
    let drops : gone ≡ drops_in p d = sym is ∙ ap (λ t. drops_in p t.0) same in (
      step.goes,
      step.asks,
      λ c. subst (λ (n : ℕ). GoesSo y [] (drops_in p d) n (step.goes c (reply_with []))) (ap (λ t. t.1) same)
          (subst (λ (zs : List PortValue). GoesSo y [] zs paid (step.goes c (reply_with []))) drops (step.so c)),
    )

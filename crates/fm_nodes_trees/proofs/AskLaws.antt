-- What a process asks for, by the event that it meets, and how many children start then.
use Rattle.std.proofs.Common.{◌≡◌, ◌+◌, ◌<◌, ℕ, ℤ, Bool, true, false, Option, Some, None, option_map, List, [], ◌∷◌, ◌++◌, length, map, drop, get_or, add-one, refl, sym, ap, subst, ◌∙◌, append_assoc}
use Rattle.std.proofs.Math.Seq.{drop-cons}
use Rattle.std.proofs.lemmas.List.{length-map}
use Rattle.fm_base.specs.declared.fault.Fault.{Fault}
use Rattle.fm_base.specs.declared.path.ChanName.{ChanName}
use Rattle.fm_base.specs.Channels.{Item, Words, Message, Push, Pop}
use Rattle.fm_net.specs.Machine.{Need, Nothing, New, Children, Onward, Ask, Stop, Go}
use Rattle.fm_net.specs.Machine as net
use Rattle.fm_rules.specs.declared.program.Program.{Program}
use Rattle.fm_mean.specs.declared.place.Actual.{Actual}
use Rattle.fm_mean.specs.declared.place.Actual.TheVariants.{Given, Taken}
use Rattle.fm_mean.specs.declared.place.Span.{Span}
use Rattle.fm_mean.specs.Actions.{Action, Event, Fail, Make, Send, Receive, Probe, Begin, Join, End, Rest, Own, Meets, action_of}
use Rattle.fm_mean.specs.Calls.{child_of}
use Rattle.fm_mean.specs.Outcome.{need_in, need_of}
use Rattle.fm_mean.specs.Places.{message_from}
use Rattle.fm_mean.specs.Process.{Frame, Kid, Proc}
use Rattle.fm_mean.specs.Steps.{ask, ask_for, ask_at, at_the_end, limits_of, met}
use Rattle.fm_nodes_procs.specs.Asks.{StartsSo, need_asked}
use Rattle.fm_nodes_trees.specs.Told.{IsOwn, given_words, starts_with}
use Rattle.fm_nodes_trees.proofs.Framed.{asks_at, in_some}

-- the next item
pub next_item : (items : List Actual) (i : ℕ) (a : Actual) → i < length items → a ≡ get_or items i a → drop i items ≡ a ∷ drop (i + 1) items
next_item items i a low at = drop-cons items i a low ∙ (λ j. sym at j ∷ drop (sym (add-one i) j) items)

-- the words of one item more
pub words_more : (rest later : List Actual) (ws : List ℤ) (b : Option Span) (all : List (List ℤ)) (whole : List Actual) → rest ≡ Given ws b ∷ later
    → ((more : List (List ℤ)) → given_words rest ≡ Some more → given_words whole ≡ Some (all ++ more))
    → (more : List (List ℤ)) → given_words later ≡ Some more → given_words whole ≡ Some ((all ++ ws ∷ []) ++ more)
words_more rest later ws b all whole is before more e =
    before (ws ∷ more) (ap given_words is ∙ ap (option_map (λ (m : List (List ℤ)). ws ∷ m)) e) ∙ ap (λ (m : List (List ℤ)). Some m) (sym (append_assoc all (ws ∷ []) more))

same_words : (a b : List (List ℤ)) → Some a ≡ Some b → a ≡ b
same_words a b e = cc e

-- a message of words alone
pub sent_words : (items : List Actual) (wss : List (List ℤ)) (vs : List Item) → given_words items ≡ Some wss → (message_from vs items).1 ≡ map Words wss
sent_words [] wss vs e = ap (map Words) (same_words [] wss e)
sent_words (Given ws b ∷ items) wss vs e = go (given_words items) refl (λ more is. sent_words items more vs is) e
  where
    go : (o : Option (List (List ℤ))) → given_words items ≡ o → ((more : List (List ℤ)) → given_words items ≡ Some more → (message_from vs items).1 ≡ map Words more) → option_map (λ (more : List (List ℤ)). ws ∷ more) o ≡ Some wss → (message_from vs (Given ws b ∷ items)).1 ≡ map Words wss
    go None is rest same = absurd (cc same)
    go (Some more) is rest same = ap (λ (ms : Message). Words ws ∷ ms) (rest more is) ∙ ap (map Words) (same_words (ws ∷ more) wss same)
sent_words (Taken s ∷ items) wss vs e = absurd (cc e)

module _ (p : Program) (x : Proc) where
  abbrev StartsNone : Onward Proc → Type 0
  StartsNone o = (o.block ≡ x.next_block) × (length o.starts ≡ 0)

  end_starts : (line : ℕ) (below : List Frame) (f : Frame) (next : ℕ) (iostat : Option Span) (to : Option ℕ) → StartsNone (at_the_end x line below f next iostat to)
  end_starts line below f next None None = (refl, refl)
  end_starts line below f next None (Some n) = (refl, refl)
  end_starts line below f next (Some s) to = (refl, refl)

  met_starts : (line : ℕ) (below : List Frame) (f : Frame) (next : ℕ) (items : List Span) (iostat : Option Span) (to : Option ℕ) (over : Bool) (m : Option Message) → StartsNone (met x line below f next items iostat to over m)
  met_starts line below f next items iostat to true None = (refl, refl)
  met_starts line below f next items iostat to true (Some m) = (refl, refl)
  met_starts line below f next items iostat to false None = end_starts line below f next iostat to
  met_starts line below f next items iostat to false (Some m) = (refl, refl)

  event_starts : (below : List Frame) (f : Frame) (e : Event) → StartsSo (ask_at p x below f e) x.next_block (starts_with (f ∷ below) e)
  event_starts below f (Fail line why) = λ c r. (refl, refl)
  event_starts below f (Make places n cost next) = λ c r. (refl, refl)
  event_starts below f (Send d w items next) = λ c r. (refl, refl)
  event_starts below f (Receive d line items iostat to next) = λ c r. met_starts line below f next items iostat to r.exceeds r.message
  event_starts below f (Probe d place next) = λ c r. (refl, refl)
  event_starts below f Begin = λ c r. (refl, length-map f.starts child_of)
  event_starts below f (Join block kids next) = λ c r. (refl, refl)
  event_starts below f End = λ c r. (refl, refl)

  -- who meets an event
  pub asked_starts : (e : Event) → action_of p x ≡ Meets e → (b n : ℕ) → b ≡ x.next_block → n ≡ starts_with x.execution.frames e → StartsSo (ask p x) b n
  asked_starts e meets b n block count =
      let i = in_some p x e meets in
      let starts = event_starts i.below i.top e in
      subst (λ (a : Ask Proc). StartsSo a b n) (sym (asks_at p x e meets i))
      (subst (λ (k : ℕ). StartsSo (ask_at p x i.below i.top e) k n) (sym block)
      (subst (λ (k : ℕ). StartsSo (ask_at p x i.below i.top e) x.next_block k) (sym (count ∙ ap (λ (fs : List Frame). starts_with fs e) i.is)) starts))

  rests_in : (a : Ask Proc) (b n : ℕ) → need_in a ≡ None → StartsSo a b n
  rests_in Stop b n is = tt
  rests_in (Go need f) b n is = absurd (cc is)

  -- who does nothing more
  pub rests_starts : (b n : ℕ) → need_of p x ≡ None → StartsSo (ask p x) b n
  rests_starts b n is = rests_in (ask p x) b n is

  own_in : (a : Action) (b : ℕ) → IsOwn a → b ≡ x.next_block → StartsSo (ask_for p x a) b 0
  own_in Rest b own block = absurd own
  own_in (Own w lines drops cost) b own block = λ c r. (sym block, refl)
  own_in (Meets e) b own block = absurd own

  -- who makes a step of its own
  pub own_starts : (b : ℕ) → IsOwn (action_of p x) → b ≡ x.next_block → StartsSo (ask p x) b 0
  own_starts b own block = own_in (action_of p x) b own block

  own_asks : (a : Action) → IsOwn a → Some Nothing ≡ need_asked (ask_for p x a)
  own_asks Rest own = absurd own
  own_asks (Own w lines drops cost) own = refl
  own_asks (Meets e) own = absurd own

  pub own_need : IsOwn (action_of p x) → Some Nothing ≡ need_asked (ask p x)
  own_need own = own_asks (action_of p x) own

  rests_asks : (a : Ask Proc) → need_in a ≡ None → None ≡ need_asked a
  rests_asks Stop is = refl
  rests_asks (Go need f) is = absurd (cc is)

  pub rests_need : need_of p x ≡ None → None ≡ need_asked (ask p x)
  rests_need is = rests_asks (ask p x) is

  asked_need : (e : Event) → action_of p x ≡ Meets e → (o : Option Need) → ((below : List Frame) (f : Frame) → o ≡ need_asked (ask_at p x below f e)) → o ≡ need_asked (ask p x)
  asked_need e meets o is =
      let i = in_some p x e meets in
      is i.below i.top ∙ ap need_asked (sym (asks_at p x e meets i))

  pub fail_need : (line : ℕ) (why : Fault) → action_of p x ≡ Meets (Fail line why) → Some Nothing ≡ need_asked (ask p x)
  fail_need line why meets = asked_need (Fail line why) meets (Some Nothing) (λ below f. refl)

  pub make_need : (places : List Span) (n cost next : ℕ) → action_of p x ≡ Meets (Make places n cost next) → Some (New x.next_channel n) ≡ need_asked (ask p x)
  make_need places n cost next meets = asked_need (Make places n cost next) meets (Some (New x.next_channel n)) (λ below f. refl)

  pub send_need : (d : ChanName) (w : ℕ) (items : List Actual) (next : ℕ) → action_of p x ≡ Meets (Send d w items next) → (wss : List (List ℤ)) → given_words items ≡ Some wss
      → Some (net.Event d (Push w (map Words wss))) ≡ need_asked (ask p x)
  send_need d w items next meets wss given =
      asked_need (Send d w items next) meets (Some (net.Event d (Push w (map Words wss)))) (λ below f. ap (λ (m : Message). Some (net.Event d (Push w m))) (sym (sent_words items wss f.values given)))

  pub receive_need : (d : ChanName) (line : ℕ) (items : List Span) (iostat : Option Span) (to : Option ℕ) (next : ℕ) → action_of p x ≡ Meets (Receive d line items iostat to next)
      → Some (net.Event d (Pop (limits_of items))) ≡ need_asked (ask p x)
  receive_need d line items iostat to next meets = asked_need (Receive d line items iostat to next) meets (Some (net.Event d (Pop (limits_of items)))) (λ below f. refl)

  pub begin_need : action_of p x ≡ Meets Begin → Some Nothing ≡ need_asked (ask p x)
  begin_need meets = asked_need Begin meets (Some Nothing) (λ below f. refl)

  pub join_need : (block : ℕ) (kids : List Kid) (next : ℕ) → action_of p x ≡ Meets (Join block kids next) → Some (Children block (length kids)) ≡ need_asked (ask p x)
  join_need block kids next meets = asked_need (Join block kids next) meets (Some (Children block (length kids))) (λ below f. refl)

  pub end_need : action_of p x ≡ Meets End → Some Nothing ≡ need_asked (ask p x)
  end_need meets = asked_need End meets (Some Nothing) (λ below f. refl)

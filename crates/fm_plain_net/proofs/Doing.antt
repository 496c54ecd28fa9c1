-- A step is what the process does, with the children that it starts and those that it joins.
use Rattle.std.proofs.Common.{◌≡◌, ℕ, true, Option, Some, None, List, [], ◌∷◌, ◌++◌, length, refl, sym, ap, ap₂, subst, ◌∙◌, append-nil}
use Rattle.std.specs.Prelude.{is_some, option_map}
use Rattle.std.specs.FinMap.{get, insert}
use Rattle.fm_base.specs.Channels.{Chans, all_shed}
use Rattle.fm_finmap.specs.Changes.{Change, alter, alters, Off}
use Rattle.fm_finmap.proofs.Alters.{alters-append, alters_past, alters_there}
use Rattle.fm_net.specs.Machine.{Place, Procs, State, Need, Nothing, Event, New, Children, Reply, Onward, Go, reply_with, made, served, start_changes, need_changes, changes}
use Rattle.fm_net.specs.Owned.{IsOwned}
use Rattle.fm_net.specs.Starts.{child_places, starts_at}
use Rattle.fm_net.proofs.Keys.{path_order}
use Rattle.fm_net.proofs.Cases.{step_served}
use Rattle.fm_net.proofs.Children.{not_own_child, off_starts, off_children}
use Rattle.fm_net.proofs.Orders.{starts_served}
use Rattle.fm_net.proofs.Taken.{Starts}
use Rattle.fm_rules.specs.declared.program.Program.{Program}
use Rattle.fm_mean.specs.Process.{Frame, Phase, Running, Joining, Ended, Faulted, Proc, has_ended, emptied}
use Rattle.fm_mean.specs.Actions.{Join, Meets, action_of}
use Rattle.fm_mean.specs.Outcome.{need_in, need_of}
use Rattle.fm_mean.specs.Steps.{ask, ask_for, ask_event, joined, language, step}
use Rattle.fm_plain_replies.specs.Goes.{in_frames}
use Rattle.fm_plain_replies.specs.Joins.{after_join, kids_in}
use Rattle.fm_plain.specs.declared.event.Event as plain
use Rattle.fm_plain.specs.declared.event.Event.TheVariants as event
use Rattle.fm_plain.specs.Events.{event_by, kids_in as kids_told}
use Rattle.fm_plain_net.specs.declared.ports.Ports.{Ports}
use Rattle.fm_plain_net.specs.Goes.{CanPerform, Joins, Replies, Performs, collected, joined_in, joined_by, kids_by}
use Rattle.fm_plain_net.specs.Held.{HeldAreKept, MayDrop, StayBut}
use Rattle.fm_plain_net.proofs.Able.{served_there, fresh_there}
use Rattle.fm_plain_net.proofs.Balance.{held_after, may_go_on}
use Rattle.fm_plain_net.proofs.Performing.{InFrame, drops_these}
use Rattle.fm_plain_net.proofs.Waiting.{has_frame}

reply_served : (m : Procs Proc) (cs : Chans) (p : Place) (kids : List Proc) (need : Need) (r : Reply Proc) → Replies cs kids need r → kids_by m p (joined_in (Some need)) ≡ Some kids → served has_ended m cs p need ≡ Some r
reply_served m cs p kids Nothing r is all = ap Some (sym is)
reply_served m cs p kids (Event c a) r is all = is
reply_served m cs p kids (New n writers) r is all = ap Some (sym is)
reply_served m cs p kids (Children b n) r is all = ap (option_map reply_with) all ∙ ap Some (sym is)

changes_are : (p : Place) (need : Need) → need_changes emptied p need ≡ collected p (joined_in (Some need))
changes_are p Nothing = refl
changes_are p (Event c a) = refl
changes_are p (New n writers) = refl
changes_are p (Children b n) = refl

kids_same : (phase : Phase) → kids_told phase ≡ kids_in phase
kids_same Running = refl
kids_same (Joining block kids) = refl
kids_same Ended = refl
kids_same (Faulted line fault) = refl

module _ (program : Program) (x : Proc) where
  alone_in : (e : plain.Event) → joined_by e ≡ None → (fs : List Frame) → joined_in (need_in (ask_event program x (event_by x.phase e) fs)) ≡ None
  alone_in e is [] = refl
  alone_in (event.Fail line fault) is (f ∷ below) = refl
  alone_in (event.Make places writers cost next) is (f ∷ below) = refl
  alone_in (event.Send channel writer items next) is (f ∷ below) = refl
  alone_in (event.Receive channel line items iostat at_end next) is (f ∷ below) = refl
  alone_in (event.Probe channel empty next) is (f ∷ below) = refl
  alone_in event.Begin is (f ∷ below) = refl
  alone_in (event.Join block count next) is (f ∷ below) = absurd (cc is)
  alone_in event.End is (f ∷ below) = refl

  -- an event other than a join joins nobody
  pub joins_none : (e : plain.Event) → action_of program x ≡ Meets (event_by x.phase e) → joined_by e ≡ None → joined_in (need_of program x) ≡ None
  joins_none e does alone = ap (λ a. joined_in (need_in (ask_for program x a))) does ∙ alone_in e alone x.execution.frames

  -- an event that joins is a join
  pub join_told : (e : plain.Event) (block count next : ℕ) → joined_by e ≡ Some (block, count, next) → action_of program x ≡ Meets (event_by x.phase e) → action_of program x ≡ Meets (Join block (kids_in x.phase) next)
  join_told (event.Fail line fault) block count next is does = absurd (cc is)
  join_told (event.Make places writers cost next') block count next is does = absurd (cc is)
  join_told (event.Send channel writer items next') block count next is does = absurd (cc is)
  join_told (event.Receive channel line items iostat at_end next') block count next is does = absurd (cc is)
  join_told (event.Probe channel empty next') block count next is does = absurd (cc is)
  join_told event.Begin block count next is does = absurd (cc is)
  join_told (event.Join block' count' next') block count next is does =
      let same : (block', count', next') ≡ (block, count, next) = the_same (block', count', next') (block, count, next) is in
      does ∙ ap (λ ks. Meets (Join block' ks next')) (kids_same x.phase) ∙ ap (λ (t : ℕ × ℕ × ℕ). Meets (Join t.0 (kids_in x.phase) t.2)) same
    where
      the_same : (a b : ℕ × ℕ × ℕ) → Some a ≡ Some b → a ≡ b
      the_same a b e = cc e
  join_told event.End block count next is does = absurd (cc is)

-- the same of an event that is told
pub join_at : (program : Program) (x : Proc) (e : plain.Event) (block count next : ℕ) → e ≡ event.Join block count next → action_of program x ≡ Meets (event_by x.phase e) → action_of program x ≡ Meets (Join block (kids_in x.phase) next)
join_at program x e block count next is does = join_told program x e block count next (ap joined_by is) does

off_collected : (p : Place) (o : Option (ℕ × ℕ)) → Off p (collected p o)
off_collected p None = tt
off_collected p (Some bn) = off_children emptied p p bn.0 1 bn.1 (λ j low high. not_own_child p (bn.0, j))

-- the process itself isn't among the children that are collected
pub still_there : (p : Place) (o : Option (ℕ × ℕ)) (m : Procs Proc) → get (alters (collected p o) m) p ≡ get m p
still_there p o m = alters_there path_order (collected p o) m p (off_collected p o)

-- itself first and then its children, or the other way
self_first : (p : Place) (b : ℕ) (y : Proc) (xs : List Proc) (ws : List (Change Place Proc)) (m : Procs Proc) → alters ((p, λ o. Some y) ∷ (start_changes p b 1 xs ++ ws)) m ≡ alters (start_changes p b 1 xs) (insert (alters ws m) p y)
unfolding alter
self_first p b y xs ws m =
    ap (λ n. alter n p (λ o. Some y)) (alters-append path_order (start_changes p b 1 xs) ws m)
    ∙ alters_past path_order (start_changes p b 1 xs) (alters ws m) p (λ o. Some y) (off_starts p p b 1 xs (λ i low. not_own_child p (b, i)))

module _ (program : Program) (s : State Proc) (p : Place) (x : Proc) (is : get s.procs p ≡ Some x) (ports : Ports) where
  -- a process that can step can do what it asks for
  pub can_perform : (kids : List Proc) → kids_by s.procs p (joined_in (need_of program x)) ≡ Some kids → IsOwned (language program) s → HeldAreKept program ports s.procs → is_some (step program s p) ≡ true → CanPerform program p x s.chans kids ports
  can_perform kids all owned held can = record {
    ready = served_there program s p x is can;
    absent = fresh_there program s p x is owned;
    may = λ need going r asks replies. may_go_on program s owned p (record {
      self = x;
      is = is;
      need = need;
      goes = going;
      asks = asks;
      reply = r;
      serves = reply_served s.procs s.chans p kids need r replies (ap (λ k. kids_by s.procs p (joined_in (need_in k))) (sym asks) ∙ all);
    }) ports held;
  }

  module _ (joins : Option (ℕ × ℕ)) (told : joined_in (need_of program x) ≡ joins) (later : Ports) (kids : List Proc) (y : Proc) (xs : List Proc) (n : Chans) (cost : ℕ)
      (all : kids_by s.procs p joins ≡ Some kids) (does : Performs program p x s.chans kids ports y xs n later cost) where
    same : joined_in (Some does.need) ≡ joins
    same = ap (λ k. joined_in (need_in k)) (sym does.asks) ∙ told

    serves : served has_ended s.procs s.chans p does.need ≡ Some does.reply
    serves = reply_served s.procs s.chans p kids does.need does.reply does.replies (ap (kids_by s.procs p) same ∙ all)

    start : Starts (language program) s p
    start = record { self = x; is = is; need = does.need; goes = does.going; asks = does.asks; reply = does.reply; serves = serves }

    module _ (m : Procs Proc) (m_is : m ≡ alters (start_changes p x.next_block 1 xs) (insert (alters (collected p joins) s.procs) p y)) where
      procs_are : alters (changes emptied p does.need (does.going (made p does.need) does.reply)) s.procs ≡ m
      procs_are =
          let o = does.going (made p does.need) does.reply in
          let ws : need_changes emptied p does.need ≡ collected p joins = changes_are p does.need ∙ ap (collected p) same in
          self_first p o.block o.self o.starts (need_changes emptied p does.need) s.procs
          ∙ ap (λ vs. alters (start_changes p o.block 1 o.starts) (insert (alters vs s.procs) p o.self)) ws
          ∙ ap (λ b. alters (start_changes p b 1 o.starts) (insert (alters (collected p joins) s.procs) p o.self)) does.block_is
          ∙ ap (λ zs. alters (start_changes p x.next_block 1 zs) (insert (alters (collected p joins) s.procs) p o.self)) (sym does.goes.starts_are)
          ∙ ap (λ z. alters (start_changes p x.next_block 1 xs) (insert (alters (collected p joins) s.procs) p z)) (sym does.goes.self_is)
          ∙ sym m_is

      pub performed : step program s p ≡ Some (record { procs = m; chans = n }, cost)
      performed =
          step_served (language program) s p x is does.need does.going does.asks does.reply serves
          ∙ λ i. Some (record { procs = procs_are i; chans = sym does.goes.chans_are i }, sym does.goes.cost_is i)

      -- what is held then is kept
      pub performed_held : IsOwned (language program) s → HeldAreKept program ports s.procs → HeldAreKept program later m
      unfolding start
      performed_held owned held = held_after program s owned p start ports held later does.carries m procs_are

    pub performed_starts : starts_at (language program) s p ≡ child_places p x.next_block 1 (length xs)
    unfolding start
    performed_starts = starts_served (language program) s p start ∙ ap₂ (λ (b : ℕ) (zs : List Proc). child_places p b 1 (length zs)) does.block_is (sym does.goes.starts_are)

-- ---- joining

module _ (program : Program) (p : Place) (x : Proc) (m : Chans) (ports : Ports) (block next : ℕ) (does : action_of program x ≡ Meets (Join block (kids_in x.phase) next)) where
  asks_in : (i : InFrame x) → ask program x ≡ Go (Children block (length (kids_in x.phase))) (λ c r. joined x i.below i.top next (kids_in x.phase) r.children)
  asks_in i = ap (ask_for program x) does ∙ ap (ask_event program x (Join block (kids_in x.phase) next)) i.is

  joined_is : (i : InFrame x) (kids : List Proc) → after_join x next kids ≡ joined x i.below i.top next (kids_in x.phase) kids
  joined_is i kids = ap (in_frames x (λ below f. joined x below f next (kids_in x.phase) kids)) i.is

  -- who has joined runs
  pub joined_runs : (kids : List Proc) → (after_join x next kids).self.phase ≡ Running
  joined_runs kids = ap (λ (o : Onward Proc). o.self.phase) (joined_is (has_frame program x (Join block (kids_in x.phase) next) does) kids)

  -- the block that it joins
  pub joins_block : InFrame x → joined_in (need_of program x) ≡ Some (block, length (kids_in x.phase))
  joins_block i = ap (λ k. joined_in (need_in k)) (asks_in i)

  pub join_drops : InFrame x → (kids : List Proc) → CanPerform program p x m kids ports → MayDrop ports [] (after_join x next kids).drops
  join_drops i kids can =
      let may = can.may (Children block (length (kids_in x.phase))) (λ c r. joined x i.below i.top next (kids_in x.phase) r.children) (reply_with kids) (asks_in i) refl in
      subst (λ (o : Onward Proc). MayDrop ports [] o.drops) (sym (joined_is i kids)) may.drops

  pub join_performs : InFrame x → (kids : List Proc) (y : Proc) (cs : Chans) (later : Ports) (cost : ℕ) → Joins x next kids ports m y cs later cost → Performs program p x m kids ports y [] cs later cost
  join_performs i kids y cs later cost joins =
      let o = joined x i.below i.top next (kids_in x.phase) kids in
      record {
        need = Children block (length (kids_in x.phase));
        going = λ c r. joined x i.below i.top next (kids_in x.phase) r.children;
        reply = reply_with kids;
        asks = asks_in i;
        replies = refl;
        block_is = refl;
        goes = record {
          self_is = joins.self_is ∙ ap (λ v. v.self) (joined_is i kids);
          starts_are = refl;
          cost_is = joins.cost_is ∙ ap (λ v. v.cost) (joined_is i kids);
          chans_are = joins.chans_are ∙ ap (λ v. all_shed v.drops m) (joined_is i kids) ∙ ap (λ zs. all_shed zs m) (sym (append-nil o.drops));
        };
        carries = drops_these (o.drops ++ []) ports later (subst (λ zs. StayBut zs ports later) (ap (λ v. v.drops) (joined_is i kids) ∙ sym (append-nil o.drops)) joins.carries);
      }

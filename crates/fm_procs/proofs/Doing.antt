-- A step is what a process does, with the children that it starts and those that it joins.
use Rattle.std.proofs.Common.{◌≡◌, ℕ, Some, List, [], ◌∷◌, ◌++◌, length, refl, sym, ap, ◌∙◌}
use Rattle.std.specs.FinMap.{get, insert}
use Rattle.fm_base.specs.declared.path.ChanName.{ChanName}
use Rattle.fm_base.specs.Channels.{Chans}
use Rattle.fm_finmap.specs.Changes.{Change, alter, alters}
use Rattle.fm_finmap.proofs.Alters.{alters-append, alters_past, alters_there}
use Rattle.fm_net.specs.Machine.{Place, Procs, State, Need, Nothing, Event, New, Children, Reply, Onward, Go, made, served, start_changes, child_changes, need_changes, changes}
use Rattle.fm_net.specs.Starts.{child_places, starts_at}
use Rattle.fm_net.proofs.Cases.{step_served}
use Rattle.fm_net.proofs.Children.{not_own_child, off_starts, off_children}
use Rattle.fm_net.proofs.Keys.{path_order}
use Rattle.fm_net.proofs.Orders.{starts_served}
use Rattle.fm_net.proofs.Taken.{Starts}
use Rattle.fm_proc_language.specs.Processes.{CodeProc, asks, code_language, emptied, has_ended}
use Rattle.fm_proc_events.specs.Performs.{GoesOn, Performs, reply_of}
use Rattle.fm_procs.specs.Readings.{code_step}

-- itself first and then its children, or the other way
self_first : (p : Place) (b : ℕ) (z : CodeProc) (xs : List CodeProc) (ws : List (Change Place CodeProc)) (m : Procs CodeProc) → alters ((p, λ o. Some z) ∷ (start_changes p b 1 xs ++ ws)) m ≡ alters (start_changes p b 1 xs) (insert (alters ws m) p z)
unfolding alter
self_first p b z xs ws m =
    ap (λ n. alter n p (λ o. Some z)) (alters-append path_order (start_changes p b 1 xs) ws m)
    ∙ alters_past path_order (start_changes p b 1 xs) (alters ws m) p (λ o. Some z) (off_starts p p b 1 xs (λ i low. not_own_child p (b, i)))

-- a process isn't among its children
pub still_there : (p : Place) (b n : ℕ) (m : Procs CodeProc) → get (alters (child_changes emptied p b 1 n) m) p ≡ get m p
still_there p b n m = alters_there path_order (child_changes emptied p b 1 n) m p (off_children emptied p p b 1 n (λ j low high. not_own_child p (b, j)))

-- a process that needs this and is served so goes on
module _ (s : State CodeProc) (p : Place) (y : CodeProc) (is : get s.procs p ≡ Some y) (need : Need) (goes : ChanName → Reply CodeProc → Onward CodeProc) (asks_so : asks y ≡ Go need goes) (reply : Reply CodeProc)
    (serves : served has_ended s.procs s.chans p need ≡ Some reply) (z : CodeProc) (xs : List CodeProc) (after : Chans) (cost : ℕ) (on : GoesOn p y s.chans need (goes (made p need) reply) z xs after cost) where
  abbrev later : Procs CodeProc
  later = alters (start_changes p y.next_block 1 xs) (insert (alters (need_changes emptied p need) s.procs) p z)

  procs_are : alters (changes emptied p need (goes (made p need) reply)) s.procs ≡ later
  procs_are =
      let o = goes (made p need) reply in
      let before = alters (need_changes emptied p need) s.procs in
      self_first p o.block o.self o.starts (need_changes emptied p need) s.procs
      ∙ ap (λ b. alters (start_changes p b 1 o.starts) (insert before p o.self)) on.block
      ∙ ap (λ zs. alters (start_changes p y.next_block 1 zs) (insert before p o.self)) (sym on.starts_are)
      ∙ ap (λ v. alters (start_changes p y.next_block 1 xs) (insert before p v)) (sym on.self)

  pub goes_on : code_step s p ≡ Some (record { procs = later; chans = after }, cost)
  goes_on =
      step_served code_language s p y is need goes asks_so reply serves
      ∙ λ i. Some (record { procs = procs_are i; chans = sym on.chans i }, sym on.cost_is i)

  start : Starts code_language s p
  start = record { self = y; is = is; need = need; goes = goes; asks = asks_so; reply = reply; serves = serves }

  pub starts_so : starts_at code_language s p ≡ child_places p y.next_block 1 (length xs)
  unfolding start
  starts_so =
      let o = goes (made p need) reply in
      starts_served code_language s p start
      ∙ ap (λ (b : ℕ). child_places p b 1 (length o.starts)) on.block ∙ ap (λ (zs : List CodeProc). child_places p y.next_block 1 (length zs)) (sym on.starts_are)

-- the channels serve it, and it joins nobody
reply_served : (m : Procs CodeProc) (cs : Chans) (p : Place) (need : Need) (r : Reply CodeProc) → reply_of cs need ≡ Some r → served has_ended m cs p need ≡ Some r
reply_served m cs p Nothing r is = is
reply_served m cs p (Event c a) r is = is
reply_served m cs p (New n writers) r is = is
reply_served m cs p (Children b n) r is = absurd (cc is)

joins_nobody : (p : Place) (cs : Chans) (need : Need) (r : Reply CodeProc) → reply_of cs need ≡ Some r → need_changes emptied p need ≡ []
joins_nobody p cs Nothing r is = refl
joins_nobody p cs (Event c a) r is = refl
joins_nobody p cs (New n writers) r is = refl
joins_nobody p cs (Children b n) r is = absurd (cc is)

-- who did its event made a step of the machine, where its children stand at their places
module _ (s : State CodeProc) (p : Place) (y : CodeProc) (is : get s.procs p ≡ Some y) (z : CodeProc) (xs : List CodeProc) (after : Chans) (cost : ℕ) (does : Performs p y s.chans z xs after cost) where
  serves : served has_ended s.procs s.chans p does.need ≡ Some does.reply
  serves = reply_served s.procs s.chans p does.need does.reply does.comes

  pub performed : (m : Procs CodeProc) → m ≡ alters (start_changes p y.next_block 1 xs) (insert s.procs p z) → code_step s p ≡ Some (record { procs = m; chans = after }, cost)
  performed m m_is =
      goes_on s p y is does.need does.goes does.asks_so does.reply serves z xs after cost does.on
      ∙ ap (λ ws. Some (record { procs = alters (start_changes p y.next_block 1 xs) (insert (alters ws s.procs) p z); chans = after }, cost)) (joins_nobody p s.chans does.need does.reply does.comes)
      ∙ ap (λ n. Some (record { procs = n; chans = after }, cost)) (sym m_is)

  pub performed_starts : starts_at code_language s p ≡ child_places p y.next_block 1 (length xs)
  performed_starts = starts_so s p y is does.need does.goes does.asks_so does.reply serves z xs after cost does.on

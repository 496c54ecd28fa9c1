-- A step as the code carries it out is the step on what has arrived.
use Rattle.std.proofs.Common.{◌≡◌, ℕ, ◌+◌, List, [], ◌∷◌, ◌++◌, Option, Some, None, option_map, length, refl, sym, ap, subst, ◌∙◌, append-nil, arith}
use Rattle.std.specs.Prelude.{slice_get}
use Rattle.std.specs.FinMap.{get, insert}
use Rattle.fm_base.specs.declared.path.ChanName.{ChanName}
use Rattle.fm_base.specs.declared.port.PortValue.{PortValue}
use Rattle.fm_finmap.specs.Changes.{alter, alters}
use Rattle.fm_finmap.specs.Sums.{value_or_zero}
use Rattle.fm_finmap.proofs.Alters.{Off-append, alters-append, alters_past}
use Rattle.fm_net.proofs.Children.{not_own_child, off_own_need, off_starts}
use Rattle.fm_finmap.proofs.Inserts.{insert_there}
use Rattle.fm_finmap.proofs.Keys.{path_order}
use Rattle.fm_sched.specs.Schedule.{IsReached}
use Rattle.fm_net.specs.Machine.{Place, Procs, State, Need, Nothing, New, Reply, Onward, Ask, Stop, Go, child, made, reply_with, need_changes, start_changes}
use Rattle.fm_net.specs.Language.{Language, language_step}
use Rattle.fm_net.specs.Lawful.{IsLawfulLanguage, IsLawfulAsk, IsLawfulStep}
use Rattle.fm_net.specs.Owned.{IsOwned, name_of, present}
use Rattle.fm_net.specs.Starts.{child_places, onward_asked, onward_from, starts_at, starts_by}
use Rattle.fm_net.proofs.Laws.{owned_throughout}
use Rattle.fm_sched.proofs.Along.{at_reached}
use Rattle.fm_link_law.specs.Channels.{LinkedChans, shut_ports}
use Rattle.fm_link_law.specs.Hosts.{Hosts, state_of}
use Rattle.fm_link_law.specs.Steps.{act_at, act_here, going_on, hosts_step, linked_after, served_here, AreOpen, IsPlainAsk}
use Rattle.fm_link_law.specs.Play.{AsksForWords, IsNeedOfWords}
use Rattle.fm_link_law.proofs.Serving.{served_forth}
use Rattle.fm_nodes_procs.specs.Asks.{GoesAt, StartsSo, StepsAlone, need_asked}
use Rattle.fm_nodes_hosts.specs.Runs.{Run, AsksFor, HasStepped, IsFinished, Starting, gone_on, one_step_of}
use Rattle.fm_nodes_hosts.specs.Played.{IsSound}
use Rattle.fm_nodes_hosts.proofs.Playing.{plain_there, played_reached}

module _ {Proc : Type 0} (language : Language Proc) (h : Hosts Proc) (p : Place) where
  -- nobody is there
  pub nobody_steps : get h.procs p ≡ None → hosts_step language h p ≡ None
  nobody_steps none = ap (act_at language h p) none

  -- who asks for nothing has no step
  pub rests_here : (x : Proc) → get h.procs p ≡ Some x → need_asked (language.ask x) ≡ None → hosts_step language h p ≡ None
  rests_here x is none = ap (act_at language h p) is ∙ go (language.ask x) none
    where
      go : (a : Ask Proc) → need_asked a ≡ None → act_here language h p a ≡ None
      go Stop e = refl
      go (Go need f) e = absurd (cc e)

  -- who isn't served has none
  pub waits_here : (x : Proc) (need : Need) → get h.procs p ≡ Some x → need_asked (language.ask x) ≡ Some need → served_here language.has_ended h.procs h.channels p need ≡ None → hosts_step language h p ≡ None
  waits_here x need is asks none = ap (act_at language h p) is ∙ go (language.ask x) asks
    where
      the_need : (m n : Need) → Some m ≡ Some n → m ≡ n
      the_need m n e = cc

      go : (a : Ask Proc) → need_asked a ≡ Some need → act_here language h p a ≡ None
      go Stop e = absurd (cc e)
      go (Go n f) e = ap (option_map (λ r. going_on language h p n (f (made p n) r))) (ap (served_here language.has_ended h.procs h.channels p) (the_need n need e) ∙ none)

  -- what is asked for, with how the process goes on
  pub asked_so : (x : Proc) (need : Need) → need_asked (language.ask x) ≡ Some need → (f : ChanName → Reply Proc → Onward Proc) × (language.ask x ≡ Go need f)
  asked_so x need e = go (language.ask x) refl e
    where
      the_need : (m n : Need) → Some m ≡ Some n → m ≡ n
      the_need m n e = cc

      go : (a : Ask Proc) → language.ask x ≡ a → need_asked a ≡ Some need → (f : ChanName → Reply Proc → Onward Proc) × (language.ask x ≡ Go need f)
      go Stop is e = absurd (cc e)
      go (Go n f) is e = (f, is ∙ ap (λ m. Go m f) (the_need n need e))

module _ {Proc : Type 0} (language : Language Proc) (start : State Proc) (laws : IsLawfulLanguage language) (owned : IsOwned language start) (words : AsksForWords language start)
    (run : Run Proc) (sound : IsSound language start run) (p : Place) (x : Proc) (is : get run.hosts.procs p ≡ Some x) where
  reached : IsReached (language_step language) start (state_of run.hosts)
  reached = played_reached language start run.history run.order (state_of run.hosts) run.used sound.played

  -- what is asked for is of words
  pub of_words : (need : Need) (f : ChanName → Reply Proc → Onward Proc) → language.ask x ≡ Go need f → IsNeedOfWords need
  of_words need f asks = words (state_of run.hosts) reached p x is need f asks

  module _ (need : Need) (f : ChanName → Reply Proc → Onward Proc) (asks : language.ask x ≡ Go need f) where
    plain_ask : IsPlainAsk language run.hosts p (Go need f)
    plain_ask = subst (IsPlainAsk language run.hosts p) asks (plain_there language start laws owned words run sound p x is)

    lawful : IsLawfulStep language x need f
    lawful = subst (IsLawfulAsk language x) asks (laws.goes x)

    module _ (r : Reply Proc) (serves : served_here language.has_ended run.hosts.procs run.hosts.channels p need ≡ Some r) where
      abbrev pub onward : Onward Proc
      onward = f (made p need) r

      -- the ports that it lets go can be let go
      pub open_ports : AreOpen (linked_after p need run.hosts.channels) onward.drops
      open_ports = plain_ask.1 r serves

      -- nobody is yet where its children start
      pub new_children : (i : ℕ) → get run.hosts.procs (child p onward.block i) ≡ None
      new_children i = go (get run.hosts.procs (child p onward.block i)) refl
        where
          all : IsOwned language (state_of run.hosts)
          all = at_reached (language_step language) (IsOwned language) start (state_of run.hosts) (owned_throughout language laws start owned) reached

          block : onward.block ≡ language.next_block x
          block = lawful.block_is (made p need) r

          go : (o : Option Proc) → get run.hosts.procs (child p onward.block i) ≡ o → o ≡ None
          go None e = refl
          go (Some y) e = absurd (omega (arith, all.born p onward.block i (omega (arith, ap present e)), ap (value_or_zero language.next_block) is, block))

      starts_are : starts_at language (state_of run.hosts) p ≡ child_places p onward.block 1 (length onward.starts)
      starts_are =
          ap (λ o. starts_by p (onward_from language (state_of run.hosts) p o)) is
          ∙ ap (λ a. starts_by p (onward_asked language (state_of run.hosts) p a)) asks
          ∙ ap (λ o. starts_by p (option_map (f (made p need)) o)) (served_forth language.has_ended run.hosts.procs run.hosts.channels p sound.links.channels need plain_ask.0 r serves)

      -- its own change may come first: no child is its own parent
      own_first : alters (start_changes p onward.block 1 onward.starts) (alters (need_changes language.emptied p need) (insert run.hosts.procs p onward.self))
          ≡ alters ((p, λ y. Some onward.self) ∷ (start_changes p onward.block 1 onward.starts ++ need_changes language.emptied p need)) run.hosts.procs
      unfolding alter
      own_first =
          let ws = start_changes p onward.block 1 onward.starts ++ need_changes language.emptied p need in
          sym (alters-append path_order (start_changes p onward.block 1 onward.starts) (need_changes language.emptied p need) (insert run.hosts.procs p onward.self))
          ∙ sym (alters_past path_order ws run.hosts.procs p (λ y. Some onward.self)
          (Off-append p (start_changes p onward.block 1 onward.starts) (need_changes language.emptied p need) (off_starts p p onward.block 1 onward.starts (λ i far. not_own_child p (onward.block, i))) (off_own_need language.emptied p need)))

      -- what was carried out is the step
      pub finished_step : (mid new : Run Proc) (number block : ℕ) (starts : List Proc) (drops : List PortValue) (cost : ℕ) → slice_get run.order number ≡ Some p → mid ≡ gone_on p need onward run
          → block ≡ onward.block → starts ≡ onward.starts → drops ≡ onward.drops → cost ≡ onward.cost
          → IsFinished p number block starts drops cost (need_changes language.emptied p need) mid new → HasStepped language p run new
      finished_step mid new number block starts drops cost who between b s d k done =
          let changed : new.hosts.procs ≡ alters ((p, λ y. Some onward.self) ∷ (start_changes p onward.block 1 onward.starts ++ need_changes language.emptied p need)) run.hosts.procs =
          done.procs_are
          ∙ ap (λ (n : ℕ). alters (start_changes p n 1 starts) (alters (need_changes language.emptied p need) mid.hosts.procs)) b
          ∙ ap (λ (xs : List Proc). alters (start_changes p onward.block 1 xs) (alters (need_changes language.emptied p need) mid.hosts.procs)) s
          ∙ ap (λ (m : Run Proc). alters (start_changes p onward.block 1 onward.starts) (alters (need_changes language.emptied p need) m.hosts.procs)) between
          ∙ own_first in
          let linked : new.hosts.channels ≡ shut_ports onward.drops (linked_after p need run.hosts.channels) =
          done.channels_are ∙ ap (λ (zs : List PortValue). shut_ports zs mid.hosts.channels) d ∙ ap (λ (m : Run Proc). shut_ports onward.drops m.hosts.channels) between in
          let wired : new.hosts.wire ≡ run.hosts.wire = done.wire_is ∙ ap (λ (m : Run Proc). m.hosts.wire) between in
          let last : Some (new.hosts, onward.cost) ≡ Some ((going_on language run.hosts p need onward).0, onward.cost) = λ i. Some (record { procs = changed i; channels = linked i; wire = wired i }, onward.cost) in
          record {
            cost = onward.cost;
            steps =
                ap (act_at language run.hosts p) is ∙ ap (act_here language run.hosts p) asks
                ∙ ap (option_map (λ t. going_on language run.hosts p need (f (made p need) t))) serves
                ∙ sym last;
            number = number;
            who = who;
            history_is = done.history_is ∙ ap (λ (m : Run Proc). m.history ++ one_step_of number ∷ []) between;
            order_is =
                done.order_is ∙ ap (λ (n : ℕ). mid.order ++ child_places p n 1 (length starts)) b ∙ ap (λ (xs : List Proc). mid.order ++ child_places p onward.block 1 (length xs)) s
                ∙ ap (λ (m : Run Proc). m.order ++ child_places p onward.block 1 (length onward.starts)) between ∙ ap (λ ps. run.order ++ ps) (sym starts_are);
            used_is = done.used_is ∙ ap (λ (n : ℕ). mid.used + n) k ∙ ap (λ (m : Run Proc). m.used + onward.cost) between;
          }

  -- no channel has the name of one that it makes
  pub no_channel : (n k : ℕ) (f : ChanName → Reply Proc → Onward Proc) → language.ask x ≡ Go (New n k) f → get run.hosts.channels (name_of p n) ≡ None
  no_channel n k f asks = (plain_ask (New n k) f asks).0.1

-- the same run, part by part
module _ {Proc : Type 0} (one other : Run Proc) (history : one.history ≡ other.history) (order : one.order ≡ other.order) (used : one.used ≡ other.used) (wire : one.hosts.wire ≡ other.hosts.wire) where
  pub same_run : one.hosts.procs ≡ other.hosts.procs → one.hosts.channels ≡ other.hosts.channels → one ≡ other
  same_run procs channels = λ i. record { hosts = record { procs = procs i; channels = channels i; wire = wire i }; history = history i; order = order i; used = used i }

  pub is_gone_on : (p : Place) (need : Need) (o : Onward Proc) → one.hosts.procs ≡ insert other.hosts.procs p o.self → one.hosts.channels ≡ linked_after p need other.hosts.channels → one ≡ gone_on p need o other
  is_gone_on p need o procs channels = λ i. record { hosts = record { procs = procs i; channels = channels i; wire = wire i }; history = history i; order = order i; used = used i }

-- ---- what each kind of step comes to

-- a process went on, and its need is met at the channels: what is left can be done, and then the step is made
pub record Carried {Proc : Type 0} (language : Language Proc) (run mid : Run Proc) (p : Place) (number block count : ℕ) (need : Need) (starts : List Proc) (drops : List PortValue) (cost : ℕ) : Type 0 where
  pub count_is : length starts ≡ count
  pub new : (i : ℕ) → get mid.hosts.procs (child p block i) ≡ None
  pub are_open : AreOpen mid.hosts.channels drops
  pub steps : (after : Run Proc) → IsFinished p number block starts drops cost (need_changes language.emptied p need) mid after → HasStepped language p run after

module _ {Proc : Type 0} (language : Language Proc) (start : State Proc) (laws : IsLawfulLanguage language) (owned : IsOwned language start) (words : AsksForWords language start)
    (run : Run Proc) (sound : IsSound language start run) (p : Place) (number : ℕ) (who : slice_get run.order number ≡ Some p) (x : Proc) (is : get run.hosts.procs p ≡ Some x) where
  pub carried : (mid : Run Proc) (block count : ℕ) (need : Need) → AsksFor language p run (Some need) → Starting language p run block count
      → (r : Reply Proc) → served_here language.has_ended run.hosts.procs run.hosts.channels p need ≡ Some r
      → (starts : List Proc) (drops : List PortValue) (cost : ℕ)
      → ((y : Proc) (f : ChanName → Reply Proc → Onward Proc) → get run.hosts.procs p ≡ Some y → language.ask y ≡ Go need f → GoesAt run.hosts.procs p starts drops cost mid.hosts.procs (f (made p need) r))
      → mid.history ≡ run.history → mid.order ≡ run.order → mid.used ≡ run.used → mid.hosts.wire ≡ run.hosts.wire → mid.hosts.channels ≡ linked_after p need run.hosts.channels
      → Carried language run mid p number block count need starts drops cost
  carried mid block count need asks starting r serves starts drops cost goes history order used wire channels =
      let a = asked_so language run.hosts p x need (asks x is) in
      let f = a.0 in
      let o : Onward Proc = f (made p need) r in
      let g : GoesAt run.hosts.procs p starts drops cost mid.hosts.procs o = goes x f is a.1 in
      let all : StartsSo (Go need f) block count = subst (λ (q : Ask Proc). StartsSo q block count) a.1 (starting x is) in
      let so : (o.block ≡ block) × (length o.starts ≡ count) = all (made p need) r in
      let between : mid ≡ gone_on p need o run = is_gone_on mid run history order used wire p need o g.after_is channels in
      record {
        count_is = ap length g.starts_are ∙ so.1;
        new = λ i.
            ap (λ (m : Procs Proc). get m (child p block i)) g.after_is ∙ insert_there path_order run.hosts.procs p o.self (child p block i) (λ e. not_own_child p (block, i) (sym e))
            ∙ ap (λ (n : ℕ). get run.hosts.procs (child p n i)) (sym so.0) ∙ new_children language start laws owned words run sound p x is need f a.1 r serves i;
        are_open = subst (λ (ls : LinkedChans). AreOpen ls drops) (sym channels) (subst (AreOpen (linked_after p need run.hosts.channels)) (sym g.drops_are) (open_ports language start laws owned words run sound p x is need f a.1 r serves));
        steps = λ after done. finished_step language start laws owned words run sound p x is need f a.1 r serves mid after number block starts drops cost who between (sym so.0) g.starts_are g.drops_are g.cost_is done;
      }

  -- a step that needs nothing and starts nobody
  pub stepped_alone : (drops : List PortValue) (cost : ℕ) (procs : Procs Proc) → StepsAlone language run.hosts.procs p drops cost procs
      → (after : Run Proc) → after.hosts.procs ≡ procs → after.hosts.channels ≡ shut_ports drops run.hosts.channels → after.hosts.wire ≡ run.hosts.wire
      → after.history ≡ run.history ++ one_step_of number ∷ [] → after.order ≡ run.order → after.used ≡ run.used + cost → HasStepped language p run after
  stepped_alone drops cost procs alone after procs_are channels_are wire_is history_is order_is used_is =
      let o : Onward Proc = alone.goes (made p Nothing) (reply_with []) in
      let g = alone.so (made p Nothing) in
      let mid : Run Proc = gone_on p Nothing o run in
      finished_step language start laws owned words run sound p alone.self alone.is Nothing alone.goes alone.asks (reply_with []) refl mid after number o.block [] drops cost who refl refl g.starts_are g.drops_are g.cost_is
      (record {
        procs_are = procs_are ∙ alone.after_is ∙ ap (insert run.hosts.procs p) g.self_is;
        channels_are = channels_are;
        wire_is = wire_is;
        history_is = history_is;
        order_is = order_is ∙ sym (append-nil run.order);
        used_is = used_is;
      })

  -- the ports that such a step lets go can be let go
  pub open_alone : (drops : List PortValue) (cost : ℕ) (procs : Procs Proc) → StepsAlone language run.hosts.procs p drops cost procs → AreOpen run.hosts.channels drops
  open_alone drops cost procs alone =
      subst (AreOpen run.hosts.channels) (sym (alone.so (made p Nothing)).drops_are) (open_ports language start laws owned words run sound p alone.self alone.is Nothing alone.goes alone.asks (reply_with []) refl)

-- Who has no step, along every schedule of a program: who has ended or faulted, and who waits.
use Rattle.std.proofs.Common.{◌≡◌, ◌⊎◌, inl, inr, ℕ, zero, suc, ◌+◌, ◌<◌, ◌≤◌, Bool, true, false, cond, Option, Some, None, option_map, List, [], ◌∷◌, length, refl, sym, ap, ◌∙◌, subst, arith}
use Rattle.std.specs.FinMap.{empty, get, get-empty}
use Rattle.fm_base.specs.declared.path.ChanName.{ChanName}
use Rattle.fm_base.specs.PathOrder.{path_cmp}
use Rattle.fm_base.specs.Channels.{Chan, ChannelOp, Limits, Message, Push, Pop, Look, can_pop, is_ready}
use Rattle.fm_finmap.specs.Changes.{alters}
use Rattle.fm_finmap.proofs.Keys.{decide}
use Rattle.fm_finmap.proofs.Inserts.{insert_here, insert_there}
use Rattle.fm_sched.specs.Schedule.{Throughout}
use Rattle.fm_sched.proofs.Along.{throughout}
use Rattle.fm_net.specs.Machine.{Place, Procs, Need, Nothing, New, Children, Reply, Onward, Ask, Stop, Go, State, Begun, act, act_of, changes, child, finished, gathered, going, made, reply_at, served, served_at, with_child}
use Rattle.fm_net.specs.Machine as net
use Rattle.fm_net.specs.Owned.{IsOwned}
use Rattle.fm_net.specs.Typed.{AllIn}
use Rattle.fm_net.proofs.Keys.{path_order}
use Rattle.fm_net.proofs.Holders.{event_channel}
use Rattle.fm_net.proofs.Meeting.{IsSound}
use Rattle.fm_net.proofs.Parts.{Midway, Part, Run, Discard, Move, end}
use Rattle.fm_net.proofs.Steps.{state_of, step_keeps, step_keeps_fact}
use Rattle.fm_rules.specs.declared.program.Program.{Program}
use Rattle.fm_mean.specs.declared.outcome.At.{At}
use Rattle.fm_mean.specs.declared.outcome.At.TheVariants as wait
use Rattle.fm_mean.specs.declared.place.Span.{Span}
use Rattle.fm_mean.specs.Names.{ProgramUnit, unit_at}
use Rattle.fm_mean.specs.Process.{Frame, Kid, Phase, Running, Joining, Ended, Faulted, Proc, emptied, has_ended, is_ended}
use Rattle.fm_mean.specs.Actions.{Event, Fail, Make, Send, Receive, Probe, Begin, Join, End, Action, Rest, Own, Meets, action_in, action_of, after_at, joining}
use Rattle.fm_mean.specs.Steps as steps
use Rattle.fm_mean.specs.Steps.{ask, ask_at, ask_event, ask_for, first, first_proc, joined, language, limits_of, main_by, main_in, proc_of, step}
use Rattle.fm_mean.specs.Live.{GoesOn, IsLive}
use native.Mathlib.Decide.{ℕ_discrete}
use Rattle.fm_mean.specs.NoStep.{AwaitsMessage, HasFaulted, HasNoStep, JoinsUnended, OthersAct, ReasonsHold, RestingHaveReasons}
use Rattle.fm_mean.specs.Outcome.{awaited, ended_at, need_in, waits_by}
use Rattle.fm_mean.specs.Outcome as outcome
use Rattle.fm_mean.specs.Telling.{WaitsFor}
use Rattle.fm_mean.proofs.Lawful.{lawful}
use Rattle.fm_mean.proofs.Laws.{first_owned}
use Rattle.fm_mean.proofs.MainUnit.{main_there}
use Rattle.fm_mean.proofs.Leading.{all_lead, unit_begins}
use Rattle.fm_mean.proofs.Lively.{IsLiveAsk, IsLiveStep, MayGo, WaitsSo, has_next}
use Rattle.fm_mean.proofs.EachStep.{EachAt, after_step}
use Rattle.fm_mean.proofs.Kids.{BeginsAsk, HasKids, HaveKids, begins_so, emptied_kids, kids_later, new_kids, no_kids, own_kids}

never : true ≡ false → ⊥
never e = absurd (cc)

no_go : (need : Need) (f : ChanName → Reply Proc → Onward Proc) → Stop ≡ Go need f → ⊥
no_go need f e = absurd (cc)

-- ---- each step

module _ (p : Program) where
  abbrev pub IsLiveAt : Place → Proc → Type 0
  IsLiveAt q x = IsLive p x

  -- every process stands at entries that are there, and finds its children
  abbrev pub AreLive : State Proc → Type 0
  AreLive s = EachAt IsLiveAt s.procs × HaveKids s.procs

  asks_so : (x : Proc) (phase : Phase) → x.phase ≡ phase → ask p x ≡ ask_for p x (action_in p x.execution phase)
  asks_so x phase is = ap (λ (h : Phase). ask_for p x (action_in p x.execution h)) is

  may_go : (x : Proc) (need : Need) (f : ChanName → Reply Proc → Onward Proc) → ask p x ≡ Go need f → (phase : Phase) → x.phase ≡ phase → MayGo phase
  may_go x need f asks Running is = tt
  may_go x need f asks (Joining block kids) is = tt
  may_go x need f asks Ended is = no_go need f (sym (asks_so x Ended is) ∙ asks)
  may_go x need f asks (Faulted line fault) is = no_go need f (sym (asks_so x (Faulted line fault) is) ∙ asks)

  live_on : (x : Proc) (need : Need) (f : ChanName → Reply Proc → Onward Proc) → ask p x ≡ Go need f → IsLive p x → IsLiveStep p x.phase need f
  live_on x need f asks live = subst (IsLiveAsk p x.phase) asks (has_next p (all_lead p) x live (may_go x need f asks x.phase refl))

  ended_on : (phase : Phase) → is_ended phase ≡ true → GoesOn p [] phase
  ended_on Running e = absurd (never (sym e))
  ended_on (Joining block kids) e = absurd (never (sym e))
  ended_on Ended e = tt
  ended_on (Faulted line fault) e = tt

  emptied_live : (q : Place) (x : Proc) → has_ended x ≡ true → IsLiveAt q x → IsLiveAt q (emptied x)
  emptied_live q x done h = (tt, ended_on x.phase done)

  spread : (xs : List Proc) → AllIn (IsLive p) xs → AllIn (λ (y : Proc). (i : ℕ) → IsLive p y) xs
  spread [] all = tt
  spread (x ∷ xs) all = ((λ i. all.0), spread xs all.1)

  keeps_part : (mid : Midway Proc) (a : Part) → IsSound (language p) mid → AreLive (state_of (language p) mid) → (m : Move (language p) mid a) → AreLive (state_of (language p) (end (language p) mid a m).0)
  keeps_part mid (Discard z) good kept l = kept
  keeps_part mid (Run q) good kept (h, t) =
      let o = t.goes (made q t.need) t.reply in
      let on = (live_on t.self t.need t.goes t.asks (kept.0 q t.self t.is)).goes_on (made q t.need) t.reply in
      let so : BeginsAsk (Go t.need t.goes) = subst BeginsAsk t.asks (begins_so p t.self) in
      let after = alters (changes emptied q t.need o) mid.procs in
      let begun = so (made q t.need) t.reply in (
        after_step IsLiveAt has_ended emptied emptied_live mid.procs mid.chans q t.need t.reply o kept.0 t.serves on.0 (spread o.starts on.1),
        after_step (HasKids after) has_ended emptied (emptied_kids after) mid.procs mid.chans q t.need t.reply o (kids_later mid.procs q t.need o kept.1) t.serves (own_kids mid.procs q t.need o begun) (new_kids after q o begun),
      )

  -- ---- the first state

  main_live : (n : ℕ) (u : ProgramUnit) → unit_at p n ≡ Some u → IsLive p (proc_of (main_in n (Some u)))
  main_live n u is = (((unit_begins p n u is, tt), tt), tt)

  proc_live : IsLive p (first_proc p)
  proc_live =
      let h = main_there p in
      subst (λ (o : Option ℕ). IsLive p (proc_of (main_by p o))) (sym h.is) (subst (λ (o : Option ProgramUnit). IsLive p (proc_of (main_in h.number o))) (sym h.here) (main_live h.number h.unit h.here))

  first_each : (Fact : Place → Proc → Type 0) → ((q : Place) → Fact q (first_proc p)) → EachAt Fact (first p).procs
  first_each Fact h q x is = elim (decide path_order q []) [
    | yes e ↦ let same : first_proc p ≡ x = cc (sym (insert_here path_order empty [] (first_proc p)) ∙ ap (get (first p).procs) (sym e) ∙ is) in subst (Fact q) same (h q)
    | no n ↦ absurd (cc (sym (insert_there path_order empty [] (first_proc p) q n ∙ get-empty path_cmp q) ∙ is))
  ]

  first_live : AreLive (first p)
  first_live = (first_each IsLiveAt (λ q. proc_live), first_each (HasKids (first p).procs) (λ q. no_kids (first p).procs q (first_proc p) refl))

  pub live_along : Throughout (step p) (λ s. IsOwned (language p) s × AreLive s) (first p)
  live_along =
      throughout (step p) (λ s. IsOwned (language p) s × AreLive s)
      (λ s q good can. (step_keeps (language p) (lawful p) s q good.0 can, step_keeps_fact (language p) (lawful p) AreLive keeps_part s q good.0 good.1 can))
      (λ s. IsOwned (language p) s × AreLive s) (λ s good. good) (first p) (first_owned p, first_live)

  -- ---- what is needed and not there

  abbrev need_of : Ask Proc → Need
  need_of Stop = Nothing
  need_of (Go need f) = need

  none_mapped : {X : Type 0} {Y : Type 0} (f : X → Y) (o : Option X) → option_map f o ≡ None → o ≡ None
  none_mapped f None e = refl
  none_mapped f (Some x) e = absurd (cc e)

  -- a step that isn't there lacks what it needs
  unserved : (s : State Proc) (q : Place) (x : Proc) (need : Need) (f : ChanName → Reply Proc → Onward Proc) → get s.procs q ≡ Some x → ask p x ≡ Go need f → step p s q ≡ None → served has_ended s.procs s.chans q need ≡ None
  unserved s q x need f is asks none =
      let there : act_of (ask p) has_ended emptied s.procs s.chans q (get s.procs q) ≡ act (ask p) has_ended emptied s.procs s.chans q (Go need f) =
      ap (act_of (ask p) has_ended emptied s.procs s.chans q) is ∙ ap (act (ask p) has_ended emptied s.procs s.chans q) asks in
      none_mapped (λ r. going emptied s.procs s.chans q need (f (made q need) r)) (served has_ended s.procs s.chans q need)
      (sym there ∙ none_mapped finished (act_of (ask p) has_ended emptied s.procs s.chans q (get s.procs q)) none)

  some_none : {X : Type 0} (x : X) → Some x ≡ None → ⊥
  some_none x e = absurd (cc)

  unready : (a : ChannelOp) (ch : Chan) → served_at {Proc = Proc} a (Some ch) ≡ None → is_ready a ch ≡ false
  unready a ch e = go (is_ready a ch) e
    where
      go : (b : Bool) → cond b (Some (reply_at {Proc = Proc} a ch)) None ≡ None → b ≡ false
      go true e = absurd (some_none (reply_at {Proc = Proc} a ch) e)
      go false e = refl

  nothing_there : (queue : List Message) (writers : List ℕ) → can_pop queue writers ≡ false → (queue ≡ []) × (w : ℕ) × (ws : List ℕ) × (writers ≡ w ∷ ws)
  nothing_there (m ∷ ms) ws e = absurd (never e)
  nothing_there [] [] e = absurd (never e)
  nothing_there [] (w ∷ ws) e = (refl, w, ws, refl)

  -- ---- who asks for a message stands at a RECEIVE

  -- the action is the RECEIVE from this channel
  record ReceivesFrom (a : Action) (c : ChanName) : Type 0 where
    line : ℕ
    items : List Span
    iostat : Option Span
    at_end : Option ℕ
    next : ℕ
    is : a ≡ Meets (Receive c line items iostat at_end next)

  abbrev channel_in : Need → ChanName → ChanName
  channel_in Nothing other = other
  channel_in (net.Event c a) other = c
  channel_in (New n k) other = other
  channel_in (Children b n) other = other

  abbrev pops : Need → Bool
  pops Nothing = false
  pops (net.Event c (Push w m)) = false
  pops (net.Event c (Pop l)) = true
  pops (net.Event c Look) = false
  pops (New n k) = false
  pops (Children b n) = false

  no_pop : (n need : Need) → n ≡ need → pops n ≡ false → pops need ≡ true → ⊥
  no_pop n need e a b = never (sym b ∙ sym (ap pops e) ∙ a)

  event_receives : (x : Proc) (below : List Frame) (f : Frame) (e : Event) (c : ChanName) (l : Limits) (g : ChanName → Reply Proc → Onward Proc) → ask_at p x below f e ≡ Go (net.Event c (Pop l)) g → ReceivesFrom (Meets e) c
  event_receives x below f (Receive d line items iostat to next) c l g e = record {
    line = line;
    items = items;
    iostat = iostat;
    at_end = to;
    next = next;
    is = ap (λ (n : ChanName). Meets (Receive n line items iostat to next)) (ap (λ (a : Ask Proc). channel_in (need_of a) d) e);
  }
  event_receives x below f (Fail line fault) c l g e = absurd (no_pop Nothing (net.Event c (Pop l)) (ap need_of e) refl refl)
  event_receives x below f (Make places n cost next) c l g e = absurd (no_pop (New x.next_channel n) (net.Event c (Pop l)) (ap need_of e) refl refl)
  event_receives x below f (Send d w items next) c l g e = absurd (never (sym (ap (λ (a : Ask Proc). pops (need_of a)) e)))
  event_receives x below f (Probe d place next) c l g e = absurd (never (sym (ap (λ (a : Ask Proc). pops (need_of a)) e)))
  event_receives x below f Begin c l g e = absurd (no_pop Nothing (net.Event c (Pop l)) (ap need_of e) refl refl)
  event_receives x below f (Join block kids next) c l g e = absurd (no_pop (Children block (length kids)) (net.Event c (Pop l)) (ap need_of e) refl refl)
  event_receives x below f End c l g e = absurd (no_pop Nothing (net.Event c (Pop l)) (ap need_of e) refl refl)

  action_receives : (x : Proc) (a : Action) (c : ChanName) (l : Limits) (g : ChanName → Reply Proc → Onward Proc) → ask_for p x a ≡ Go (net.Event c (Pop l)) g → ReceivesFrom a c
  action_receives x Rest c l g e = absurd (no_go (net.Event c (Pop l)) g e)
  action_receives x (Own w lines drops cost) c l g e = absurd (no_pop Nothing (net.Event c (Pop l)) (ap need_of e) refl refl)
  action_receives x (Meets e) c l g asks = go x.execution.frames asks
    where
      go : (fs : List Frame) → ask_event p x e fs ≡ Go (net.Event c (Pop l)) g → ReceivesFrom (Meets e) c
      go [] h = absurd (no_go (net.Event c (Pop l)) g h)
      go (f ∷ below) h = event_receives x below f e c l g h

  -- ---- who asks for children that haven't all ended

  -- the first child of the block from this number on that hasn't ended
  record Unended (m : Procs Proc) (q : Place) (b i n : ℕ) : Type 0 where
    number : ℕ
    low : i ≤ number
    high : number < n + i
    kid : Proc
    there : get m (child q b number) ≡ Some kid
    goes_on : has_ended kid ≡ false
    is_first : awaited m q b i n ≡ Some (child q b number)

  unended : (m : Procs Proc) (q : Place) (b i n : ℕ) → ((k : ℕ) → i ≤ k → k < n + i → (y : Proc) × (get m (child q b k) ≡ Some y)) → gathered has_ended m q b i n ≡ None → Unended m q b i n
  unended m q b i zero there e = absurd (some_none [] e)
  unended m q b i (suc n) there e =
      let y = there i (omega arith) (omega arith) in
      go y.0 y.1 (λ h. unended m q b (suc i) n (λ k l r. there k (omega (arith, l)) (omega (arith, r))) h) (has_ended y.0) refl (sym (ap (λ (o : Option Proc). with_child has_ended o (gathered has_ended m q b (suc i) n)) y.1) ∙ e)
    where
      first_is : (y : Proc) → get m (child q b i) ≡ Some y → (t : Bool) → has_ended y ≡ t → awaited m q b i (suc n) ≡ cond t (awaited m q b (suc i) n) (Some (child q b i))
      first_is y is t on =
          ap (λ (o : Option Proc). cond (ended_at o) (awaited m q b (suc i) n) (Some (child q b i))) is
          ∙ ap (λ (v : Bool). cond v (awaited m q b (suc i) n) (Some (child q b i))) on

      up : awaited m q b i (suc n) ≡ awaited m q b (suc i) n → Unended m q b (suc i) n → Unended m q b i (suc n)
      up later r = record { number = r.number; low = omega (arith, r.low); high = omega (arith, r.high); kid = r.kid; there = r.there; goes_on = r.goes_on; is_first = later ∙ r.is_first }

      go : (y : Proc) → get m (child q b i) ≡ Some y → (gathered has_ended m q b (suc i) n ≡ None → Unended m q b (suc i) n) → (t : Bool) → has_ended y ≡ t → cond t (option_map (λ ys. y ∷ ys) (gathered has_ended m q b (suc i) n)) None ≡ None → Unended m q b i (suc n)
      go y is rest false on h = record { number = i; low = omega arith; high = omega arith; kid = y; there = is; goes_on = on; is_first = first_is y is false on }
      go y is rest true on h = up (first_is y is true on) (rest (none_mapped (λ ys. y ∷ ys) (gathered has_ended m q b (suc i) n) h))

  -- ---- the law

  module _ (s : State Proc) (owned : IsOwned (language p) s) (live : AreLive s) (q : Place) (x : Proc) (is : get s.procs q ≡ Some x) where
    awaits : (c : ChanName) (l : Limits) (f : ChanName → Reply Proc → Onward Proc) → ask p x ≡ Go (net.Event c (Pop l)) f → served has_ended s.procs s.chans q (net.Event c (Pop l)) ≡ None → AwaitsMessage p s x
    awaits c l f asks none =
        let ch = event_channel (language p) s owned (lawful p) q x c (Pop l) f is asks in
        let r = action_receives x (action_of p x) c l f asks in
        let e = nothing_there ch.0.queue ch.0.writers (unready (Pop l) ch.0 (sym (ap (served_at {Proc = Proc} (Pop l)) ch.1) ∙ none)) in
        record {
          channel = c;
          line = r.line;
          items = r.items;
          iostat = r.iostat;
          at_end = r.at_end;
          next = r.next;
          receives = r.is;
          chan = ch.0;
          there = ch.1;
          empty = e.0;
          writer = e.1;
          others = e.2;
          open_writers = e.3;
        }

    always_ready : (c : ChanName) (a : ChannelOp) (f : ChanName → Reply Proc → Onward Proc) → ask p x ≡ Go (net.Event c a) f → ((ch : Chan) → is_ready a ch ≡ true) → served has_ended s.procs s.chans q (net.Event c a) ≡ None → ⊥
    always_ready c a f asks ready none =
        let ch = event_channel (language p) s owned (lawful p) q x c a f is asks in
        never (sym (ready ch.0) ∙ unready a ch.0 (sym (ap (served_at {Proc = Proc} a) ch.1) ∙ none))

    -- what it waits for that has this need
    abbrev WaitsIn : Option Need → Type 0
    WaitsIn need = (w : At) × (waits_by s.procs q need ≡ Some w) × WaitsFor p s q x w

    joins : (b n : ℕ) → WaitsSo x.phase (Children b n) → served has_ended s.procs s.chans q (Children b n) ≡ None → WaitsIn (Some (Children b n))
    joins b n so none =
        let kids = so.0 in
        let counted = so.2 in
        let r = unended s.procs q b 1 n (there kids so.1 counted) (none_mapped net.reply_with (gathered has_ended s.procs q b 1 n) none) in
        by r.number r.low (omega (arith, r.high, counted)) r.kid r.there r.goes_on (ap (option_map wait.Join) r.is_first)
      where
        there : (kids : List Kid) → x.phase ≡ Joining b kids → n ≡ length kids → (k : ℕ) → 1 ≤ k → k < n + 1 → (y : Proc) × (get s.procs (child q b k) ≡ Some y)
        there kids joins counted zero l h = absurd (omega (arith, l))
        there kids joins counted (suc k) l h = live.1 q x is b kids joins k (omega (arith, h, counted))

        by : (k : ℕ) → 1 ≤ k → k < length so.0 + 1 → (y : Proc) → get s.procs (child q b k) ≡ Some y → has_ended y ≡ false → waits_by s.procs q (Some (Children b n)) ≡ Some (wait.Join (child q b k)) → WaitsIn (Some (Children b n))
        by zero l h y is_there on first = absurd (omega (arith, l))
        by (suc k) l h y is_there on first =
            (wait.Join (child q b (suc k)), first, (record { block = b; kids = so.0; joins = so.1; number = k; among = omega (arith, h); kid = y; there = is_there; goes_on = on }, refl))

    lacks : (need : Need) (f : ChanName → Reply Proc → Onward Proc) → ask p x ≡ Go need f → served has_ended s.procs s.chans q need ≡ None → WaitsIn (Some need)
    unfolding awaits
    lacks Nothing f asks none = absurd (some_none _ none)
    lacks (New n k) f asks none = absurd (some_none _ none)
    lacks (net.Event c (Pop l)) f asks none = (wait.Receive c, refl, (awaits c l f asks none, refl))
    lacks (net.Event c (Push w m)) f asks none = absurd (always_ready c (Push w m) f asks (λ ch. refl) none)
    lacks (net.Event c Look) f asks none = absurd (always_ready c Look f asks (λ ch. refl) none)
    lacks (Children b n) f asks none = joins b n (live_on x (Children b n) f asks (live.0 q x is)).waits none

    waits_in : MayGo x.phase → step p s q ≡ None → WaitsIn (outcome.need_of p x)
    waits_in may none = go (ask p x) refl
      where
        go : (a : Ask Proc) → ask p x ≡ a → WaitsIn (outcome.need_of p x)
        go Stop asks = absurd (subst (IsLiveAsk p x.phase) asks (has_next p (all_lead p) x (live.0 q x is) may))
        go (Go need f) asks = subst WaitsIn (sym (ap need_in asks)) (lacks need f asks (unserved s q x need f is asks none))

    reason : (w : At) → WaitsFor p s q x w → JoinsUnended s q x ⊎ AwaitsMessage p s x
    reason (wait.Receive c) h = inr h.0
    reason (wait.Join path) h = inl h.0

    waits : MayGo x.phase → step p s q ≡ None → JoinsUnended s q x ⊎ AwaitsMessage p s x
    waits may none = let w = waits_in may none in reason w.0 w.2

    no_step : step p s q ≡ None → HasNoStep p s q x
    no_step none = go x.phase refl
      where
        go : (phase : Phase) → x.phase ≡ phase → HasNoStep p s q x
        go Ended at = inl at
        go (Faulted line fault) at = inr (inl (line, fault, at))
        go Running at = inr (inr (waits (subst MayGo (sym at) tt) none))
        go (Joining block kids) at = inr (inr (waits (subst MayGo (sym at) tt) none))

    -- who does nothing more has ended or faulted
    does_nothing : action_of p x ≡ Rest → (x.phase ≡ Ended) ⊎ HasFaulted x
    does_nothing rests = go x.phase refl
      where
        acts : MayGo x.phase → ⊥
        acts may = subst (λ (a : Action). IsLiveAsk p x.phase (ask_for p x a)) rests (has_next p (all_lead p) x (live.0 q x is) may)

        go : (phase : Phase) → x.phase ≡ phase → (x.phase ≡ Ended) ⊎ HasFaulted x
        go Ended at = inl at
        go (Faulted line fault) at = inr (line, fault, at)
        go Running at = absurd (acts (subst MayGo (sym at) tt))
        go (Joining block kids) at = absurd (acts (subst MayGo (sym at) tt))

    -- ---- and the other way round

    abbrev doing : Ask Proc → Option (Begun Proc)
    doing = act (ask p) has_ended emptied s.procs s.chans q

    held_up : (a : Ask Proc) → ask p x ≡ a → doing a ≡ None → step p s q ≡ None
    held_up a asks none =
        ap (λ (o : Option Proc). option_map finished (act_of (ask p) has_ended emptied s.procs s.chans q o)) is ∙ ap (λ (b : Ask Proc). option_map finished (doing b)) asks ∙ ap (option_map finished) none

    lacking : (need : Need) (f : ChanName → Reply Proc → Onward Proc) → served has_ended s.procs s.chans q need ≡ None → doing (Go need f) ≡ None
    lacking need f none = ap (option_map (λ r. going emptied s.procs s.chans q need (f (made q need) r))) none

    not_gathered : (b i n k : ℕ) (y : Proc) → i ≤ k → k < n + i → get s.procs (child q b k) ≡ Some y → has_ended y ≡ false → gathered has_ended s.procs q b i n ≡ None
    not_gathered b i zero k y low high at on = absurd (omega (arith, low, high))
    not_gathered b i (suc n) k y low high at on = elim (ℕ_discrete k i) [
      | yes same ↦
          ap (λ (o : Option Proc). with_child has_ended o (gathered has_ended s.procs q b (suc i) n)) (ap (λ (j : ℕ). get s.procs (child q b j)) (sym same) ∙ at)
          ∙ ap (λ (t : Bool). cond t (option_map (λ ys. y ∷ ys) (gathered has_ended s.procs q b (suc i) n)) None) on
      | no apart ↦ first_missing b i n (get s.procs (child q b i)) (not_gathered b (suc i) n k y (omega arith) (omega (arith, high)) at on)
    ]
      where
        first_missing : (b i n : ℕ) (o : Option Proc) → gathered has_ended s.procs q b (suc i) n ≡ None → with_child has_ended o (gathered has_ended s.procs q b (suc i) n) ≡ None
        first_missing b i n None e = refl
        first_missing b i n (Some z) e = go (has_ended z)
          where
            go : (t : Bool) → cond t (option_map (λ ys. z ∷ ys) (gathered has_ended s.procs q b (suc i) n)) None ≡ None
            go true = ap (option_map (λ ys. z ∷ ys)) e
            go false = refl

    joins_held : JoinsUnended s q x → step p s q ≡ None
    joins_held j = held_up (ask_for p x (joining p j.block j.kids x.execution.frames)) (asks_so x (Joining j.block j.kids) j.joins) (go x.execution.frames refl)
      where
        children : served has_ended s.procs s.chans q (Children j.block (length j.kids)) ≡ None
        children = ap (option_map net.reply_with) (not_gathered j.block 1 (length j.kids) (suc j.number) j.kid (omega arith) (omega (arith, j.among)) j.there j.goes_on)

        go : (fs : List Frame) → x.execution.frames ≡ fs → doing (ask_for p x (joining p j.block j.kids fs)) ≡ None
        go [] at = refl
        go (f ∷ below) at = ap (λ (gs : List Frame). doing (ask_event p x (Join j.block j.kids (after_at (unit_at p f.unit) f.entry)) gs)) at ∙ lacking (Children j.block (length j.kids)) (λ c r. joined x below f (after_at (unit_at p f.unit) f.entry) j.kids r.children) children

    awaits_held : AwaitsMessage p s x → step p s q ≡ None
    awaits_held w = held_up (ask_for p x (Meets event)) (ap (ask_for p x) w.receives) (go x.execution.frames refl)
      where
        event : Event
        event = Receive w.channel w.line w.items w.iostat w.at_end w.next

        message : served has_ended s.procs s.chans q (net.Event w.channel (Pop (limits_of w.items))) ≡ None
        message =
            ap (served_at {Proc = Proc} (Pop (limits_of w.items))) w.there
            ∙ ap (λ (b : Bool). cond b (Some (reply_at {Proc = Proc} (Pop (limits_of w.items)) w.chan)) None) (ap (λ (ms : List Message). can_pop ms w.chan.writers) w.empty ∙ ap (can_pop []) w.open_writers)

        go : (fs : List Frame) → x.execution.frames ≡ fs → doing (ask_event p x event fs) ≡ None
        go [] at = refl
        go (f ∷ below) at = lacking (net.Event w.channel (Pop (limits_of w.items))) (λ c r. steps.met x w.line below f w.next w.items w.iostat w.at_end r.exceeds r.message) message

    over_held : (phase : Phase) → x.phase ≡ phase → ask_for p x (action_in p x.execution phase) ≡ Stop → step p s q ≡ None
    over_held phase at stops = held_up Stop (asks_so x phase at ∙ stops) refl

    no_step_so : HasNoStep p s q x → step p s q ≡ None
    no_step_so (inl ended) = over_held Ended ended refl
    no_step_so (inr (inl h)) = over_held (Faulted h.0 h.1) h.2 refl
    no_step_so (inr (inr (inl j))) = joins_held j
    no_step_so (inr (inr (inr w))) = awaits_held w

-- what a process waits for that runs or joins and has no step
abbrev pub WaitsTold : Program → State Proc → Type 0
WaitsTold p s = (q : Place) (x : Proc) → get s.procs q ≡ Some x → MayGo x.phase → step p s q ≡ None → (w : At) × (waits_by s.procs q (outcome.need_of p x) ≡ Some w) × WaitsFor p s q x w

pub waits_along : (p : Program) → Throughout (step p) (WaitsTold p) (first p)
waits_along p cs legal q x is may none = let h = live_along p cs legal in waits_in p _ h.0 h.1 q x is may none

-- along every schedule who has no step has ended or faulted, or waits
pub no_step_along : (p : Program) → Throughout (step p) (RestingHaveReasons p) (first p)
no_step_along p cs legal q x is none = let h = live_along p cs legal in no_step p _ h.0 h.1 q x is none

-- and who does so has no step
pub who_waits_so : (p : Program) → Throughout (step p) (ReasonsHold p) (first p)
who_waits_so p cs legal q x is h = let along = live_along p cs legal in no_step_so p _ along.0 along.1 q x is h

-- who does nothing more has ended or faulted
pub does_nothing_so : (p : Program) → Throughout (step p) (OthersAct p) (first p)
does_nothing_so p cs legal q x is rests = let along = live_along p cs legal in does_nothing p _ along.0 along.1 q x is rests

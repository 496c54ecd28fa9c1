-- In a network without a way round where nobody can step, main has ended.
use Rattle.std.proofs.Common.{◌≡◌, ℕ, zero, suc, ◌+◌, ◌<◌, ◌≤◌, Bool, true, false, cond, Option, Some, None, List, [], ◌∷◌, length, option_map, refl, sym, ap, ◌∙◌, subst, arith, inl, inr, eq-eqb}
use Rattle.std.specs.FinMap.{get}
use Rattle.fm_base.specs.declared.path.ChanName.{ChanName}
use Rattle.fm_base.specs.declared.port.PortValue.TheVariants.{Writer}
use Rattle.fm_base.specs.Channels.{Chan, ChannelOp, Push, Pop, Look, Message, can_pop}
use Rattle.fm_sched.specs.Schedule.{IsFinal}
use Rattle.fm_graph.specs.Graph.{IsEdge}
use Rattle.fm_net.specs.Machine.{Place, State, Need, Nothing, Event, New, Children, Reply, Onward, Ask, Stop, Go, child, made, reply_at, served, served_at, gathered, with_child, act, act_of, going, finished}
use Rattle.fm_net.specs.Language.{Language, language_step}
use Rattle.fm_net.specs.Lawful.{port_of, holds, IsLawfulLanguage, IsLawfulAsk, IsLawfulStep}
use Rattle.fm_net.specs.Owned.{IsOwned, opened, open_at, has}
use Rattle.fm_net.proofs.Holders.{event_channel, open_stands}
use Rattle.fm_flow_law.specs.Cycles.{IsAcyclic}
use Rattle.fm_flow_law.specs.Pipes.{AreEdges, IsOf, HoldsNoOutport, ChildAsks, IsChild, MainAsks, IsPiped}
use Rattle.fm_flow_law.proofs.Upstream.{nowhere}

none_mapped : {X Y : Type 0} (f : X → Y) (o : Option X) → option_map f o ≡ None → o ≡ None
none_mapped f None e = refl
none_mapped f (Some x) e = absurd (cc e)

first_writer : (c : ChanName) (w : ℕ) (ws : List ℕ) (ch : Chan) → ch.writers ≡ w ∷ ws → open_at (Writer c w) (Some ch) ≡ 1
unfolding open_at
first_writer c w ws ch e =
    let here : has w (w ∷ ws) ≡ true = ap (λ b. cond b true (has w ws)) (eq-eqb w w refl) in
    ap (λ vs. cond {A = ℕ} (has w vs) 1 0) e ∙ ap (λ b. cond {A = ℕ} b 1 0) here

module _ {Proc : Type 0} (language : Language Proc) (s : State Proc) (final : IsFinal (language_step language) s) where
  -- what a process needs isn't served
  unserved : (q : Place) (x : Proc) → get s.procs q ≡ Some x → (need : Need) (f : ChanName → Reply Proc → Onward Proc) → language.ask x ≡ Go need f → served language.has_ended s.procs s.chans q need ≡ None
  unserved q x is need f asks =
      let all : option_map finished (act_of language.ask language.has_ended language.emptied s.procs s.chans q (Some x)) ≡ None =
      subst (λ o. option_map finished (act_of language.ask language.has_ended language.emptied s.procs s.chans q o) ≡ None) is (final q) in
      let some : option_map finished (act language.ask language.has_ended language.emptied s.procs s.chans q (Go need f)) ≡ None =
      subst (λ a. option_map finished (act language.ask language.has_ended language.emptied s.procs s.chans q a) ≡ None) asks all in
      none_mapped (λ r. going language.emptied s.procs s.chans q need (f (made q need) r)) (served language.has_ended s.procs s.chans q need)
      (none_mapped finished (option_map (λ r. going language.emptied s.procs s.chans q need (f (made q need) r)) (served language.has_ended s.procs s.chans q need)) some)

  -- a child that isn't joined yet
  record Awaited (p : Place) (b i n : ℕ) : Type 0 where
    pub index : ℕ
    pub from : i ≤ index
    pub below : index < n + i
    pub waits : (y : Proc) → get s.procs (child p b index) ≡ Some y → language.has_ended y ≡ false

  awaited : (p : Place) (b i n : ℕ) → gathered language.has_ended s.procs p b i n ≡ None → Awaited p b i n
  awaited p b i zero e = absurd (cc e)
  awaited p b i (suc n) e = go (λ h. awaited p b (suc i) n h) (get s.procs (child p b i)) refl e
    where
      later : (m : Awaited p b (suc i) n) → Awaited p b i (suc n)
      later m = record { index = m.index; from = omega (arith, m.from); below = omega (arith, m.below); waits = m.waits }

      the_one : (y x : Proc) → Some y ≡ Some x → y ≡ x
      the_one y x h = cc h

      ended : (gathered language.has_ended s.procs p b (suc i) n ≡ None → Awaited p b (suc i) n) → (x : Proc) (t : Bool) → language.has_ended x ≡ t → get s.procs (child p b i) ≡ Some x → cond t (option_map (λ ys. x ∷ ys) (gathered language.has_ended s.procs p b (suc i) n)) None ≡ None → Awaited p b i (suc n)
      ended more x true t is e' = later (more (none_mapped (λ ys. x ∷ ys) (gathered language.has_ended s.procs p b (suc i) n) e'))
      ended more x false t is e' = record { index = i; from = omega arith; below = omega arith; waits = λ y there. ap language.has_ended (the_one y x (sym there ∙ is)) ∙ t }

      go : (gathered language.has_ended s.procs p b (suc i) n ≡ None → Awaited p b (suc i) n) → (o : Option Proc) → get s.procs (child p b i) ≡ o → with_child language.has_ended o (gathered language.has_ended s.procs p b (suc i) n) ≡ None → Awaited p b i (suc n)
      go more None is e' = record { index = i; from = omega arith; below = omega arith; waits = λ y there. absurd (cc (sym there ∙ is)) }
      go more (Some x) is e' = ended more x (language.has_ended x) refl is e'

  -- what waits is a receive, at a channel without messages and with an open writer
  record Waits (c : ChanName) (a : ChannelOp) : Type 0 where
    pub limits : List (Option ℕ)
    pub pops : a ≡ Pop limits
    pub writer : ℕ
    pub is_open : opened s.chans (Writer c writer) ≡ 1

  waits_at : (c : ChanName) (a : ChannelOp) (ch : Chan) → get s.chans c ≡ Some ch → served_at {Proc = Proc} a (Some ch) ≡ None → Waits c a
  waits_at c (Push w m) ch is e = absurd (cc e)
  waits_at c Look ch is e = absurd (cc e)
  waits_at c (Pop l) ch is e = go ch.queue ch.writers refl refl e
    where
      go : (ms : List Message) (ws : List ℕ) → ch.queue ≡ ms → ch.writers ≡ ws → cond (can_pop ms ws) (Some (reply_at {Proc = Proc} (Pop l) ch)) None ≡ None → Waits c (Pop l)
      go (m ∷ ms) ws q v e' = absurd (cc e')
      go [] [] q v e' = absurd (cc e')
      go [] (w ∷ ws) q v e' = record { limits = l; pops = refl; writer = w; is_open = ap (open_at (Writer c w)) is ∙ first_writer c w ws ch v }

  the_same : (x y : Proc) → Some x ≡ Some y → x ≡ y
  the_same x y h = cc h

  module _ (g : List (List ℕ)) (Out In : ℕ → ChanName → Type 0) (owned : IsOwned language s) (laws : IsLawfulLanguage language) (edges : AreEdges language g Out In) (acyclic : IsAcyclic g) (piped : IsPiped language g Out In s) where
    -- main isn't through with its block: it holds no outport, and there is a child that isn't
    record Joins : Type 0 where
      pub no_outport : HoldsNoOutport language g Out In piped.main
      pub head : ℕ × ℕ
      pub child_there : Proc
      pub is : get s.procs (head ∷ []) ≡ Some child_there
      pub waits : language.has_ended child_there ≡ false

    joins : language.has_ended piped.main ≡ false → Joins
    joins not_ended = go (language.ask piped.main) refl (piped.main_asks not_ended)
      where
        go : (a : Ask Proc) → language.ask piped.main ≡ a → MainAsks language g Out In s piped.main a → Joins
        go Stop e h = absurd h
        go (Go Nothing f) e h = absurd (cc (unserved [] piped.main piped.is_main Nothing f e))
        go (Go (Event c a) f) e h = absurd h
        go (Go (New n k) f) e h = absurd (cc (unserved [] piped.main piped.is_main (New n k) f e))
        go (Go (Children b n) f) e h =
            let m = awaited [] b 1 n (none_mapped _ (gathered language.has_ended s.procs [] b 1 n) (unserved [] piped.main piped.is_main (Children b n) f e)) in
            let y = h.1 m.index m.from m.below in
            record { no_outport = h.0; head = (b, m.index); child_there = y.0; is = y.1; waits = m.waits y.0 y.1 }

    -- a child of the call that isn't through
    record Stuck (k : ℕ) : Type 0 where
      pub head : ℕ × ℕ
      pub rest : Place
      pub self : Proc
      pub is : get s.procs (head ∷ rest) ≡ Some self
      pub of : IsOf language g Out In self k
      pub waits : language.has_ended self ≡ false

    abbrev Before : ℕ → Type 0
    Before k = (a : ℕ) × (a < length g) × IsEdge g a k × Stuck a

    before : Joins → (k : ℕ) → Stuck k → Before k
    before main k st = at (language.ask st.self) refl ((piped.children st.head st.rest st.self st.is).asks st.waits)
      where
        holder : (c : ChanName) (w : ℕ) → In k c → (p : Place) (y : Proc) → get s.procs p ≡ Some y → 1 ≤ holds language (Writer c w) y → Before k
        holder c w has_in [] y is h =
            let none = main.no_outport c w in
            let here : holds language (Writer c w) y ≡ holds language (Writer c w) piped.main = ap (holds language (Writer c w)) (the_same y piped.main (sym is ∙ piped.is_main)) in
            absurd (omega (arith, none, here, h))
        holder c w has_in (p ∷ q) y is h = go (language.has_ended y) refl
          where
            kid : IsChild language g Out In y
            kid = piped.children p q y is

            go : (b : Bool) → language.has_ended y ≡ b → Before k
            go true e = let none = kid.gives_none e c w in absurd (omega (arith, none, h))
            go false e = (kid.call, kid.is_of.within, edges kid.call k c (kid.is_of.outs c w h) has_in, record { head = p; rest = q; self = y; is = is; of = kid.is_of; waits = e })

        at : (a : Ask Proc) → language.ask st.self ≡ a → ChildAsks language g Out In a → Before k
        at Stop e h = absurd h
        at (Go Nothing f) e h = absurd (cc (unserved (st.head ∷ st.rest) st.self st.is Nothing f e))
        at (Go (New n j) f) e h = absurd h
        at (Go (Children b n) f) e h = absurd (cc (subst (λ k. served language.has_ended s.procs s.chans (st.head ∷ st.rest) (Children b k) ≡ None) h (unserved (st.head ∷ st.rest) st.self st.is (Children b n) f e)))
        at (Go (Event c a) f) e h =
            let ch = event_channel language s owned laws (st.head ∷ st.rest) st.self c a f st.is e in
            let w = waits_at c a ch.0 ch.1 (subst (λ o. served_at {Proc = Proc} a o ≡ None) ch.1 (unserved (st.head ∷ st.rest) st.self st.is (Event c a) f e)) in
            let step : IsLawfulStep language st.self (Event c a) f = subst (IsLawfulAsk language st.self) e (laws.goes st.self) in
            let reads : 1 ≤ holds language (port_of c (Pop w.limits)) st.self = subst (λ a. 1 ≤ holds language (port_of c a) st.self) w.pops step.uses in
            let has_in = st.of.ins c reads in
            elim (open_stands language s owned (Writer c w.writer) w.is_open) [
              | inl held ↦ holder c w.writer has_in held.0 held.1 held.2 held.3
              | inr sent ↦ let none = piped.unsent sent.0 sent.1 (Writer c w.writer) sent.2 in let some = sent.3 in absurd (omega (arith, none, some))
            ]

    -- where nobody can step, main has ended
    pub main_has_ended : language.has_ended piped.main ≡ true
    main_has_ended = go (language.has_ended piped.main) refl
      where
        go : (b : Bool) → language.has_ended piped.main ≡ b → b ≡ true
        go true e = refl
        go false e =
            let main = joins e in
            let kid = piped.children main.head [] main.child_there main.is in
            absurd (nowhere g acyclic Stuck (before main) kid.call (record { head = main.head; rest = []; self = main.child_there; is = main.is; of = kid.is_of; waits = main.waits }))

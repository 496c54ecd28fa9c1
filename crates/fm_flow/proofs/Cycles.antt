-- Calls on a cycle, told by a graph of calls, ports and channels.
use Rattle.std.proofs.Common.{◌≡◌, ℕ, suc, zero, ◌+◌, ◌<◌, ◌≤◌, ◌⊎◌, inl, inr, ⊎_elim, List, [], ◌∷◌, ◌++◌, length, refl, sym, ap, ◌∙◌, subst, arith}
use Rattle.std.specs.Prelude.{Contains}
use Rattle.fm_graph.specs.Graph.{IsEdge, IsWalk, Reaches}
use Rattle.fm_flow_law.specs.Cycles.{IsOnCycle}
use Rattle.fm_graph.proofs.Reach.{reach_edge, reach_join, reach_self}

-- what an edge of an entry leads to
pub data LeadsFrom (sent ins : ℕ → List ℕ) (outs_at ins_at x y : ℕ) : Type 0 where
  to_out : (p : ℕ) → Contains (sent x) p → y ≡ outs_at + p → LeadsFrom sent ins outs_at ins_at x y
  to_in : (p : ℕ) → Contains (ins x) p → y ≡ ins_at + p → LeadsFrom sent ins outs_at ins_at x y

-- a channel from one call to another
pub record IsPipe (sent outs ins : ℕ → List ℕ) (a b : ℕ) : Type 0 where
  pub channel : ℕ
  pub out : ℕ
  pub in_port : ℕ
  pub has_out : Contains (outs channel) out
  pub sent_out : Contains (sent a) out
  pub has_in : Contains (ins channel) in_port
  pub sent_in : Contains (sent b) in_port

-- `sent` are the ports of a call, `outs` and `ins` those of a channel. In g the entries come first, then the ports as outports,
-- then as inports; e has the edges from call to call
pub record IsWired (sent outs ins : ℕ → List ℕ) (count ports : ℕ) (e g : List (List ℕ)) : Type 0 where
  pub entries : (x y : ℕ) → x < count → IsEdge g x y → LeadsFrom sent ins count (count + ports) x y
  pub from_out : (p y : ℕ) → p < ports → IsEdge g (count + p) y → Contains (outs y) p
  pub from_in : (p y : ℕ) → p < ports → IsEdge g (count + ports + p) y → Contains (sent y) p
  pub sends : (x p : ℕ) → Contains (sent x) p → IsEdge g x (count + p)
  pub gets : (x p : ℕ) → Contains (sent x) p → IsEdge g (count + ports + p) x
  pub opens : (x p : ℕ) → Contains (outs x) p → IsEdge g (count + p) x
  pub leads : (x p : ℕ) → Contains (ins x) p → IsEdge g x (count + ports + p)
  pub sent_below : (x p : ℕ) → Contains (sent x) p → p < ports
  pub outs_below : (x p : ℕ) → Contains (outs x) p → p < ports
  pub ins_below : (x p : ℕ) → Contains (ins x) p → p < ports
  pub sent_within : (x p : ℕ) → Contains (sent x) p → x < count
  pub outs_within : (x p : ℕ) → Contains (outs x) p → x < count
  pub not_out : (x p q : ℕ) → Contains (sent x) p → Contains (outs x) q → ⊥
  pub not_in : (x p q : ℕ) → Contains (sent x) p → Contains (ins x) q → ⊥
  pub pipe : (a b : ℕ) → IsEdge e a b → IsPipe sent outs ins a b
  pub piped : (a b : ℕ) → IsPipe sent outs ins a b → IsEdge e a b

module _ (sent outs ins : ℕ → List ℕ) (count ports : ℕ) (e g : List (List ℕ)) (wired : IsWired sent outs ins count ports e g) where
  -- from call to call

  pipe_reaches : (a b : ℕ) → IsPipe sent outs ins a b → (p : ℕ) × Contains (sent a) p × Reaches g (count + p) b
  pipe_reaches a b pipe = (
    pipe.out,
    pipe.sent_out,
    reach_join g (count + pipe.out) pipe.channel b (reach_edge g (count + pipe.out) pipe.channel (wired.opens pipe.channel pipe.out pipe.has_out))
        (reach_join g pipe.channel (count + ports + pipe.in_port) b (reach_edge g pipe.channel (count + ports + pipe.in_port) (wired.leads pipe.channel pipe.in_port pipe.has_in))
        (reach_edge g (count + ports + pipe.in_port) b (wired.gets b pipe.in_port pipe.sent_in))),
  )

  walk_lifts : (n a b : ℕ) → IsWalk e n a b → Reaches g a b
  walk_lifts zero a b walk = subst (λ (k : ℕ). Reaches g a k) walk (reach_self g a)
  walk_lifts (suc n) a b walk =
      let way = pipe_reaches a walk.0 (wired.pipe a walk.0 walk.1) in
      reach_join g a walk.0 b (reach_join g a (count + way.0) walk.0 (reach_edge g a (count + way.0) (wired.sends a way.0 way.1)) way.2) (walk_lifts n walk.0 b walk.2)

  pub from_cycle : (k : ℕ) → IsOnCycle e k → (p : ℕ) × Contains (sent k) p × Reaches g (count + p) k
  from_cycle k cycle =
      let way = pipe_reaches k cycle.0 (wired.pipe k cycle.0 cycle.1) in
      (way.0, way.1, reach_join g (count + way.0) cycle.0 k way.2 (walk_lifts cycle.2.0 cycle.0 k cycle.2.1))

  -- and back: the target is a call

  module _ (k q : ℕ) (is_call : Contains (sent k) q) where
    within : k < count
    within = wired.sent_within k q is_call

    -- from an inport to a call that has it, and on
    record GetsOn (i : ℕ) : Type 0 where
      call : ℕ
      has : Contains (sent call) i
      on : Reaches e call k

    -- from a channel to its inport, and on
    record OpensOn (c : ℕ) : Type 0 where
      in_port : ℕ
      has : Contains (ins c) in_port
      on : GetsOn in_port

    record SendsOn (p : ℕ) : Type 0 where
      channel : ℕ
      has : Contains (outs channel) p
      on : OpensOn channel

    edge_on : (a p : ℕ) → Contains (sent a) p → SendsOn p → Reaches e a k
    edge_on a p has s =
        let c = s.on in
        let b = c.on in
        reach_join e a b.call k
        (reach_edge e a b.call (wired.piped a b.call (record { channel = s.channel; out = p; in_port = c.in_port; has_out = s.has; sent_out = has; has_in = c.has; sent_in = b.has }))) b.on

    mutual
      sends_on : (n p : ℕ) → p < ports → IsWalk g n (count + p) k → SendsOn p
      sends_on zero p less walk = absurd (omega (arith, walk, within))
      sends_on (suc n) p less walk =
          let has = wired.from_out p walk.0 less walk.1 in
          record { channel = walk.0; has = has; on = opens_on n walk.0 p has walk.2 }

      opens_on : (n c p : ℕ) → Contains (outs c) p → IsWalk g n c k → OpensOn c
      opens_on zero c p has walk = absurd (wired.not_out k q p is_call (subst (λ (x : ℕ). Contains (outs x) p) walk has))
      opens_on (suc n) c p has walk = by (wired.entries c walk.0 (wired.outs_within c p has) walk.1) (λ i less rest. gets_on n i less rest)
        where
          by : LeadsFrom sent ins count (count + ports) c walk.0 → ((i : ℕ) → i < ports → IsWalk g n (count + ports + i) k → GetsOn i) → OpensOn c
          by (to_out r sent_r there) further = absurd (wired.not_out c r p sent_r has)
          by (to_in i has_in there) further = record { in_port = i; has = has_in; on = further i (wired.ins_below c i has_in) (subst (λ (x : ℕ). IsWalk g n x k) there walk.2) }

      gets_on : (n i : ℕ) → i < ports → IsWalk g n (count + ports + i) k → GetsOn i
      gets_on zero i less walk = absurd (omega (arith, walk, within))
      gets_on (suc n) i less walk =
          let has = wired.from_in i walk.0 less walk.1 in
          record { call = walk.0; has = has; on = calls_on n walk.0 i has walk.2 }

      calls_on : (n a p : ℕ) → Contains (sent a) p → IsWalk g n a k → Reaches e a k
      calls_on zero a p has walk = subst (λ (x : ℕ). Reaches e a x) walk (reach_self e a)
      calls_on (suc n) a p has walk = by (wired.entries a walk.0 (wired.sent_within a p has) walk.1) (λ r less rest. sends_on n r less rest)
        where
          by : LeadsFrom sent ins count (count + ports) a walk.0 → ((r : ℕ) → r < ports → IsWalk g n (count + r) k → SendsOn r) → Reaches e a k
          by (to_out r sent_r there) further = edge_on a r sent_r (further r (wired.sent_below a r sent_r) (subst (λ (x : ℕ). IsWalk g n x k) there walk.2))
          by (to_in i has_in there) further = absurd (wired.not_in a p i has has_in)

    pub to_cycle : Reaches g (count + q) k → IsOnCycle e k
    to_cycle r =
        let s = sends_on r.0 q (wired.sent_below k q is_call) r.1 in
        let c = s.on in
        let b = c.on in
        (b.call, wired.piped k b.call (record { channel = s.channel; out = q; in_port = c.in_port; has_out = s.has; sent_out = is_call; has_in = c.has; sent_in = b.has }), b.on)

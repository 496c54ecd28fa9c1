-- What stays on the wire where a host starts again, by what was judged of the channels.
use Rattle.std.proofs.Common.{◌≡◌, ◌+◌, ◌<◌, ℕ, zero, suc, arith, get_or, length, Bool, true, false, cond, Option, Some, None, List, [], ◌∷◌, map, filter, take, refl, sym, ap, subst, ◌∙◌}
use Rattle.std.specs.Prelude.{is_some, slice_get, unwrap_or}
use Rattle.std.specs.FinMap.{FinMap, empty, get, get-empty, get-insert, insert}
use Rattle.std.specs.Ordering.{eq_by_cmp}
use Rattle.std.proofs.lemmas.Option.{slice_get_read}
use Rattle.fm_base.specs.PathOrder.{channel_cmp}
use Rattle.fm_base.specs.declared.path.ChanName.{ChanName}
use Rattle.fm_finmap.proofs.Keys.{channel_order, tie, tie_self}
use Rattle.fm_finmap.proofs.Rows.{some_same}
use Rattle.fm_link_law.specs.Hosts as plain
use Rattle.fm_nodes_network.specs.declared.network.Carried.{Carried}
use Rattle.fm_nodes_network.specs.Channels.{linked_chans_of}
use Rattle.fm_nodes_network.specs.Network.{carried_of, hosts_of}
use Rattle.fm_nodes_network.specs.declared.network.Network.{Network}
use Rattle.fm_nodes_procs.specs.Processes.{procs_of}
use Rattle.fm_nodes_procs.specs.declared.processes.Processes.{Processes}
use Rattle.fm_nodes_hosts.specs.Ends.{AreJudged}
use Rattle.fm_nodes_hosts.specs.States.{hosts_in}
use Rattle.fm_nodes_hosts.proofs.Travelling.{with_procs}

-- two tests that agree on the channels of all that is there
pub filtered_alike : (one other : ChanName → Bool) (cs : List Carried) → AreJudged one other cs
    → filter (λ (e : plain.Carried). one e.0) (map carried_of cs) ≡ filter (λ (e : plain.Carried). other e.0) (map carried_of cs)
filtered_alike one other [] all = refl
filtered_alike one other (c ∷ cs) all =
    ap (λ b. cond b (carried_of c ∷ filter (λ (e : plain.Carried). one e.0) (map carried_of cs)) (filter (λ (e : plain.Carried). one e.0) (map carried_of cs))) all.0
    ∙ ap (λ es. cond (other c.channel) (carried_of c ∷ es) es) (filtered_alike one other cs all.1)

-- what was judged of channels so far
abbrev pub Judgements : Type 0
Judgements = FinMap channel_cmp Bool

-- it is so
abbrev pub AreSo : (truth : ChanName → Bool) → Judgements → Type 0
AreSo truth m = (q : ChanName) (b : Bool) → get m q ≡ Some b → b ≡ truth q

-- the channels of all of these things were judged
abbrev pub AreKnown : Judgements → List Carried → Type 0
AreKnown m [] = Unit {0}
AreKnown m (c ∷ cs) = (is_some (get m c.channel) ≡ true) × AreKnown m cs

pub none_so : (truth : ChanName → Bool) (m : Judgements) → m ≡ empty → AreSo truth m
none_so truth m none q b at = absurd (cc (sym (ap (λ (n : Judgements). get n q) none ∙ get-empty {X = Bool} channel_cmp q) ∙ at))

module _ (truth : ChanName → Bool) (m : Judgements) (k : ChanName) (v : Bool) where
  pub so_more : AreSo truth m → v ≡ truth k → AreSo truth (insert m k v)
  so_more so is q b at = go (eq_by_cmp channel_cmp q k) refl (sym (get-insert channel_order.total m k v q) ∙ at)
    where
      go : (t : Bool) → eq_by_cmp channel_cmp q k ≡ t → cond t (Some v) (get m q) ≡ Some b → b ≡ truth q
      go true e have = sym (some_same v b have) ∙ is ∙ ap truth (sym (tie channel_order q k e))
      go false e have = so q b have

module _ (m : Judgements) (k : ChanName) (v : Bool) where
  still_known : (q : ChanName) → is_some (get m q) ≡ true → is_some (get (insert m k v) q) ≡ true
  still_known q known = ap is_some (get-insert channel_order.total m k v q) ∙ go (eq_by_cmp channel_cmp q k)
    where
      go : (t : Bool) → is_some (cond t (Some v) (get m q)) ≡ true
      go true = refl
      go false = known

  now_known : is_some (get (insert m k v) k) ≡ true
  now_known = ap is_some (get-insert channel_order.total m k v k) ∙ go (eq_by_cmp channel_cmp k k) (tie_self channel_order k)
    where
      go : (t : Bool) → t ≡ true → is_some (cond t (Some v) (get m k)) ≡ true
      go true e = refl
      go false e = absurd (cc e)

  pub known_more : (cs : List Carried) (n : ℕ) (c : Carried) → slice_get cs n ≡ Some c → c.channel ≡ k → AreKnown m (take n cs) → AreKnown (insert m k v) (take (suc n) cs)
  known_more [] n c at same all = absurd (cc at)
  known_more (d ∷ ds) zero c at same all = (ap (λ (q : ChanName). is_some (get (insert m k v) q)) (ap (λ (e : Carried). e.channel) (some_same d c at) ∙ same) ∙ now_known, tt)
  known_more (d ∷ ds) (suc n) c at same all = (still_known d.channel all.0, known_more ds n c at same all.1)

-- one channel more was judged
pub judged_more : (truth : ChanName → Bool) (m n : Judgements) (k : ChanName) (v : Bool) (cs : List Carried) (i : ℕ) (c : Carried) → AreSo truth m → AreKnown m (take i cs)
    → n ≡ insert m k v → k ≡ c.channel → v ≡ truth c.channel → i < length cs → c ≡ get_or cs i c → AreSo truth n × AreKnown n (take (i + 1) cs)
judged_more truth m n k v cs i c so known put same is within at =
    let next : suc i ≡ i + 1 = omega arith in
    let more : AreKnown (insert m k v) (take (suc i) cs) = known_more m k v cs i c (slice_get_read cs (length cs) i c refl within at) (sym same) known in (
      subst (AreSo truth) (sym put) (so_more truth m k v so (is ∙ ap truth (sym same))),
      subst (λ (j : Judgements). AreKnown j (take (i + 1) cs)) (sym put) (subst (λ (j : ℕ). AreKnown (insert m k v) (take j cs)) next more),
    )

-- so the judgements agree with the truth on all that was judged
pub judged_so : (truth : ChanName → Bool) (m : Judgements) (cs : List Carried) → AreSo truth m → AreKnown m cs → AreJudged (λ c. unwrap_or (get m c) true) truth cs
judged_so truth m [] so all = tt
judged_so truth m (c ∷ cs) so all = (go (get m c.channel) refl all.0, judged_so truth m cs so all.1)
  where
    go : (o : Option Bool) → get m c.channel ≡ o → is_some o ≡ true → unwrap_or (get m c.channel) true ≡ truth c.channel
    go None at known = absurd (cc known)
    go (Some b) at known = ap (λ (q : Option Bool). unwrap_or q true) at ∙ so c.channel b at

-- in memory: what is on the wire is filtered so
pub restarted_in : {X Proc : Type 0} (seen : X → Proc) (x : Processes X) (old new : Network) (one other : ChanName → Bool) → hosts_of new ≡ plain.restarted (λ e. one e.0) (hosts_of old) → AreJudged one other old.wire.items
    → hosts_in seen x new ≡ plain.restarted (λ e. other e.0) (hosts_in seen x old)
restarted_in seen x old new one other e all =
    ap (with_procs (procs_of seen x)) e
    ∙ ap (λ (es : List plain.Carried). with_procs (procs_of seen x) (record { procs = empty; channels = linked_chans_of old.channels; wire = es })) (filtered_alike one other old.wire.items all)

-- Languages whose processes correspond have machines that step alike.
use Rattle.std.proofs.Common.{◌≡◌, ℕ, zero, suc, Option, Some, None, List, [], ◌∷◌, ◌++◌, Bool, true, false, cond, length, option_map, refl, sym, ap, ap₂, ◌∙◌, subst, arith}
use Rattle.std.specs.FinMap.{get, empty, get-empty, get-insert}
use Rattle.std.specs.Ordering.{eq_by_cmp}
use Rattle.fm_base.specs.PathOrder.{path_cmp}
use Rattle.fm_base.specs.Channels.{Chan, Chans, ChannelOp, is_ready, all_shed}
use Rattle.fm_finmap.specs.Changes.{alter, alters}
use Rattle.fm_finmap.proofs.Keys.{decide}
use Rattle.fm_finmap.proofs.Alters.{alter_here, alter_there, alters_there, alters-append}
use Rattle.fm_sched.specs.Schedule.{Can, next, cost, IsLegal}
use Rattle.fm_sched.specs.Simulation.{IsBisimulation}
use Rattle.fm_sched.proofs.Runs.{next-Some, cost-Some}
use Rattle.fm_sched.proofs.Simulations.{do_the_same}
use Rattle.fm_net.specs.Machine.{Place, Procs, Need, Nothing, Event, New, Children, Reply, Onward, Ask, Stop, Go, State, child, made, chans_after, spilt, reply_with, reply_at, with_child, gathered, served_at, served, start_changes, child_changes, need_changes, changes, going, act, act_of, finished}
use Rattle.fm_net.specs.Language.{Language, language_step}
use Rattle.fm_net.specs.Owned.{main_alone}
use Rattle.fm_net.specs.Starts.{child_places, onward_from, onward_asked, onward_at, starts_by, starts_at, starts_along, starts_of}
use Rattle.fm_net.specs.Correspondence.{BothOrNeither, Pairwise, RepliesCorrespond, OnwardsCorrespond, AsksCorrespond, ComesIn, IsCorrespondence, StandsFor, AreAlike}
use Rattle.fm_net.proofs.Keys.{path_order}
use Rattle.fm_net.proofs.Children.{other_child, off_children, first_gathered, served_children}
use Rattle.fm_net.proofs.Facts.{the_value}

-- ---- lists and options

module _ {P Q : Type 0} (Relates : Q → P → Type 0) where
  pub same_length : (ys : List Q) (xs : List P) → Pairwise Relates ys xs → length ys ≡ length xs
  same_length [] [] h = refl
  same_length [] (x ∷ xs) h = absurd h
  same_length (y ∷ ys) [] h = absurd h
  same_length (y ∷ ys) (x ∷ xs) h = ap suc (same_length ys xs h.1)

module _ {P Q : Type 0} (Corresponds : Q → P → Type 0) where
  abbrev Alike : Option Q → Option P → Type 0
  Alike = BothOrNeither Corresponds

  abbrev AlikeMaps : Procs Q → Procs P → Type 0
  AlikeMaps n m = (q : Place) → Alike (get n q) (get m q)

  -- ---- changes

  alike_altered : (n : Procs Q) (m : Procs P) (k : Place) (g : Option Q → Option Q) (f : Option P → Option P) → AlikeMaps n m → Alike (g (get n k)) (f (get m k)) → AlikeMaps (alter n k g) (alter m k f)
  alike_altered n m k g f all here q = elim (decide path_order q k) [
    | yes e ↦
        subst (λ i. Alike (get (alter n k g) i) (get (alter m k f) i)) (sym e)
        (subst (λ b. Alike b (get (alter m k f) k)) (sym (alter_here path_order n k g)) (subst (Alike (g (get n k))) (sym (alter_here path_order m k f)) here))
    | no off ↦ subst (λ b. Alike b (get (alter m k f) q)) (sym (alter_there path_order n k g q off)) (subst (Alike (get n q)) (sym (alter_there path_order m k f q off)) (all q))
  ]

  alike_starts : (n : Procs Q) (m : Procs P) → AlikeMaps n m → (p : Place) (b i : ℕ) (ys : List Q) (xs : List P) → Pairwise Corresponds ys xs → AlikeMaps (alters (start_changes p b i ys) n) (alters (start_changes p b i xs) m)
  alike_starts n m all p b i [] [] h = all
  alike_starts n m all p b i [] (x ∷ xs) h = absurd h
  alike_starts n m all p b i (y ∷ ys) [] h = absurd h
  alike_starts n m all p b i (y ∷ ys) (x ∷ xs) h = alike_altered (alters (start_changes p b (suc i) ys) n) (alters (start_changes p b (suc i) xs) m) (child p b i) (λ v. Some y) (λ v. Some x) (alike_starts n m all p b (suc i) ys xs h.1) h.0

  module _ (empties : Q → Q) (emptied : P → P) (ended : P → Bool) (keeps : (x : P) (y : Q) → ended x ≡ true → Corresponds y x → Corresponds (empties y) (emptied x)) (n : Procs Q) (m : Procs P) (all : AlikeMaps n m) where
    emptied_alike : (v : Option Q) (w : Option P) (x : P) → w ≡ Some x → ended x ≡ true → Alike v w → Alike (option_map empties v) (option_map emptied w)
    emptied_alike v None x is done h = absurd (cc is)
    emptied_alike None (Some z) x is done h = absurd h
    emptied_alike (Some y) (Some z) x is done h = keeps z y (ap ended (the_value z x is) ∙ done) h

    -- the children that are joined have ended
    alike_children : (p : Place) (b i k : ℕ) (xs : List P) → gathered ended m p b i k ≡ Some xs → AlikeMaps (alters (child_changes empties p b i k) n) (alters (child_changes emptied p b i k) m)
    alike_children p b i zero xs e = all
    alike_children p b i (suc k) xs e =
        let g = first_gathered ended m p b i k xs e in
        let others = alters (child_changes empties p b (suc i) k) n in
        let rest = alters (child_changes emptied p b (suc i) k) m in
        let more = alike_children p b (suc i) k g.tail g.others in
        let at : get rest (child p b i) ≡ Some g.head = alters_there path_order (child_changes emptied p b (suc i) k) m (child p b i) (off_children emptied (child p b i) p b (suc i) k (λ j l h. other_child p b i j (λ e. omega arith))) ∙ g.is in
        alike_altered others rest (child p b i) (option_map empties) (option_map emptied) more (emptied_alike (get others (child p b i)) (get rest (child p b i)) g.head at g.done (more (child p b i)))

    alike_need : (cs : Chans) (p : Place) (need : Need) (r : Reply P) → served ended m cs p need ≡ Some r → AlikeMaps (alters (need_changes empties p need) n) (alters (need_changes emptied p need) m)
    alike_need cs p Nothing r e = all
    alike_need cs p (Event c a) r e = all
    alike_need cs p (New k w) r e = all
    alike_need cs p (Children b k) r e = let g = served_children ended m cs p b k r e in alike_children p b 1 k g.0 g.1

    alike_changes : (cs : Chans) (p : Place) (need : Need) (r : Reply P) → served ended m cs p need ≡ Some r → (k : Onward Q) (o : Onward P) → OnwardsCorrespond Corresponds k o → AlikeMaps (alters (changes empties p need k) n) (alters (changes emptied p need o) m)
    alike_changes cs p need r e k o h =
        alike_altered (alters (start_changes p k.block 1 k.starts ++ need_changes empties p need) n) (alters (start_changes p o.block 1 o.starts ++ need_changes emptied p need) m) p (λ v. Some k.self) (λ v. Some o.self)
        (subst (λ v. AlikeMaps v (alters (start_changes p o.block 1 o.starts ++ need_changes emptied p need) m)) (sym (alters-append path_order (start_changes p k.block 1 k.starts) (need_changes empties p need) n))
        (subst (AlikeMaps (alters (start_changes p k.block 1 k.starts) (alters (need_changes empties p need) n))) (sym (alters-append path_order (start_changes p o.block 1 o.starts) (need_changes emptied p need) m))
        (subst (λ (b : ℕ). AlikeMaps (alters (start_changes p b 1 k.starts) (alters (need_changes empties p need) n)) (alters (start_changes p o.block 1 o.starts) (alters (need_changes emptied p need) m))) (sym h.block)
        (alike_starts (alters (need_changes empties p need) n) (alters (need_changes emptied p need) m) (alike_need cs p need r e) p o.block 1 k.starts o.starts h.starts))))
        h.self

  -- ---- replies

  module _ (ends : Q → Bool) (ended : P → Bool) (same_end : (x : P) (y : Q) → Corresponds y x → ends y ≡ ended x) where
    child_alike : (v : Option Q) (w : Option P) (us : Option (List Q)) (vs : Option (List P)) → Alike v w → BothOrNeither (Pairwise Corresponds) us vs → BothOrNeither (Pairwise Corresponds) (with_child ends v us) (with_child ended w vs)
    child_alike None None us vs h g = tt
    child_alike None (Some x) us vs h g = absurd h
    child_alike (Some y) None us vs h g = absurd h
    child_alike (Some y) (Some x) us vs h g =
        subst (λ b. BothOrNeither (Pairwise Corresponds) (cond b (option_map (λ ys. y ∷ ys) us) None) (cond (ended x) (option_map (λ xs. x ∷ xs) vs) None)) (sym (same_end x y h)) (go (ended x) us vs g)
      where
        go : (c : Bool) (us : Option (List Q)) (vs : Option (List P)) → BothOrNeither (Pairwise Corresponds) us vs → BothOrNeither (Pairwise Corresponds) (cond c (option_map (λ ys. y ∷ ys) us) None) (cond c (option_map (λ xs. x ∷ xs) vs) None)
        go false us vs g = tt
        go true None None g = tt
        go true None (Some xs) g = absurd g
        go true (Some ys) None g = absurd g
        go true (Some ys) (Some xs) g = (h, g)

    gathered_alike : (n : Procs Q) (m : Procs P) → AlikeMaps n m → (p : Place) (b i k : ℕ) → BothOrNeither (Pairwise Corresponds) (gathered ends n p b i k) (gathered ended m p b i k)
    gathered_alike n m all p b i zero = tt
    gathered_alike n m all p b i (suc k) = child_alike (get n (child p b i)) (get m (child p b i)) (gathered ends n p b (suc i) k) (gathered ended m p b (suc i) k) (all (child p b i)) (gathered_alike n m all p b (suc i) k)

    abbrev AlikeReplies : Option (Reply Q) → Option (Reply P) → Type 0
    AlikeReplies = BothOrNeither (RepliesCorrespond Corresponds)

    with_alike : (us : Option (List Q)) (vs : Option (List P)) → BothOrNeither (Pairwise Corresponds) us vs → AlikeReplies (option_map reply_with us) (option_map reply_with vs)
    with_alike None None h = tt
    with_alike None (Some xs) h = absurd h
    with_alike (Some ys) None h = absurd h
    with_alike (Some ys) (Some xs) h = record { message = refl; exceeds = refl; waits = refl; children = h }

    at_alike : (a : ChannelOp) (o : Option Chan) → AlikeReplies (served_at a o) (served_at a o)
    at_alike a None = tt
    at_alike a (Some ch) = go (is_ready a ch)
      where
        go : (c : Bool) → AlikeReplies (cond c (Some (reply_at a ch)) None) (cond c (Some (reply_at a ch)) None)
        go true = record { message = refl; exceeds = refl; waits = refl; children = tt }
        go false = tt

    served_alike : (n : Procs Q) (m : Procs P) → AlikeMaps n m → (cs : Chans) (p : Place) (need : Need) → AlikeReplies (served ends n cs p need) (served ended m cs p need)
    served_alike n m all cs p Nothing = record { message = refl; exceeds = refl; waits = refl; children = tt }
    served_alike n m all cs p (New k w) = record { message = refl; exceeds = refl; waits = refl; children = tt }
    served_alike n m all cs p (Event c a) = at_alike a (get cs c)
    served_alike n m all cs p (Children b k) = with_alike (gathered ends n p b 1 k) (gathered ended m p b 1 k) (gathered_alike n m all p b 1 k)

-- ---- steps

module _ {P Q : Type 0} (first : Language P) (second : Language Q) (Corresponds : Q → P → Type 0) (IsLive : State P → Type 0) (match : IsCorrespondence Corresponds IsLive first second) where
  abbrev Stands : State Q → State P → Type 0
  Stands = StandsFor Corresponds IsLive

  abbrev step : State P → Place → Option (State P × ℕ)
  step = language_step first

  abbrev other : State Q → Place → Option (State Q × ℕ)
  other = language_step second

  module _ (s : State P) (live : IsLive s) (n : Procs Q) (all : AlikeMaps Corresponds n s.procs) (p : Place) where
    -- how both go on
    asked_onward : (b : Ask Q) (a : Ask P) → AsksCorrespond Corresponds (ComesIn first s) p b a
        → BothOrNeither (OnwardsCorrespond Corresponds) (onward_asked second (record { procs = n; chans = s.chans }) p b) (onward_asked first s p a)
    asked_onward Stop Stop h = tt
    asked_onward Stop (Go need f) h = absurd h
    asked_onward (Go k g) Stop h = absurd h
    asked_onward (Go k g) (Go need f) h =
        subst (λ k. BothOrNeither (OnwardsCorrespond Corresponds) (option_map (g (made p k)) (served second.has_ended n s.chans p k)) (option_map (f (made p need)) (served first.has_ended s.procs s.chans p need))) (sym h.0)
        (go (served second.has_ended n s.chans p need) (served first.has_ended s.procs s.chans p need) refl (served_alike Corresponds second.has_ended first.has_ended match.ended n s.procs all s.chans p need))
      where
        go : (u : Option (Reply Q)) (r : Option (Reply P)) → served first.has_ended s.procs s.chans p need ≡ r → BothOrNeither (RepliesCorrespond Corresponds) u r → BothOrNeither (OnwardsCorrespond Corresponds) (option_map (g (made p need)) u) (option_map (f (made p need)) r)
        go None None serves k = tt
        go None (Some r) serves k = absurd k
        go (Some u) None serves k = absurd k
        go (Some u) (Some r) serves k = h.1 u r serves k

    from_onward : (b : Option Q) (a : Option P) → get s.procs p ≡ a → BothOrNeither Corresponds b a
        → BothOrNeither (OnwardsCorrespond Corresponds) (onward_from second (record { procs = n; chans = s.chans }) p b) (onward_from first s p a)
    from_onward None None is h = tt
    from_onward None (Some x) is h = absurd h
    from_onward (Some y) None is h = absurd h
    from_onward (Some y) (Some x) is h = asked_onward (second.ask y) (first.ask x) (match.asks s live p x y is h)

    pub onward_alike : BothOrNeither (OnwardsCorrespond Corresponds) (onward_at second (record { procs = n; chans = s.chans }) p) (onward_at first s p)
    onward_alike = from_onward (get n p) (get s.procs p) refl (all p)

    -- and where both come
    abbrev EndAlike : State Q × ℕ → State P × ℕ → Type 0
    EndAlike b a = (b.0.chans ≡ a.0.chans) × AlikeMaps Corresponds b.0.procs a.0.procs × (b.1 ≡ a.1)

    ends_alike : (need : Need) (r : Reply P) → served first.has_ended s.procs s.chans p need ≡ Some r → (k : Onward Q) (o : Onward P) → OnwardsCorrespond Corresponds k o → EndAlike (finished (going second.emptied n s.chans p need k)) (finished (going first.emptied s.procs s.chans p need o))
    ends_alike need r serves k o h = (
      ap (λ ds. all_shed (ds ++ spilt need s.chans) (chans_after p need s.chans)) h.drops,
      alike_changes Corresponds second.emptied first.emptied first.has_ended match.emptied n s.procs all s.chans p need r serves k o h,
      h.cost,
    )

    asked_ends : (b : Ask Q) (a : Ask P) → AsksCorrespond Corresponds (ComesIn first s) p b a
        → BothOrNeither EndAlike (option_map finished (act second.ask second.has_ended second.emptied n s.chans p b)) (option_map finished (act first.ask first.has_ended first.emptied s.procs s.chans p a))
    asked_ends Stop Stop h = tt
    asked_ends Stop (Go need f) h = absurd h
    asked_ends (Go k g) Stop h = absurd h
    asked_ends (Go k g) (Go need f) h =
        subst (λ k. BothOrNeither EndAlike (option_map finished (option_map (λ u. going second.emptied n s.chans p k (g (made p k) u)) (served second.has_ended n s.chans p k))) (option_map finished (option_map (λ r. going first.emptied s.procs s.chans p need (f (made p need) r)) (served first.has_ended s.procs s.chans p need)))) (sym h.0)
        (go (served second.has_ended n s.chans p need) (served first.has_ended s.procs s.chans p need) refl (served_alike Corresponds second.has_ended first.has_ended match.ended n s.procs all s.chans p need))
      where
        go : (u : Option (Reply Q)) (r : Option (Reply P)) → served first.has_ended s.procs s.chans p need ≡ r → BothOrNeither (RepliesCorrespond Corresponds) u r
            → BothOrNeither EndAlike (option_map finished (option_map (λ u. going second.emptied n s.chans p need (g (made p need) u)) u)) (option_map finished (option_map (λ r. going first.emptied s.procs s.chans p need (f (made p need) r)) r))
        go None None serves k = tt
        go None (Some r) serves k = absurd k
        go (Some u) None serves k = absurd k
        go (Some u) (Some r) serves k = ends_alike need r serves (g (made p need) u) (f (made p need) r) (h.1 u r serves k)

    from_ends : (b : Option Q) (a : Option P) → get s.procs p ≡ a → BothOrNeither Corresponds b a
        → BothOrNeither EndAlike (option_map finished (act_of second.ask second.has_ended second.emptied n s.chans p b)) (option_map finished (act_of first.ask first.has_ended first.emptied s.procs s.chans p a))
    from_ends None None is h = tt
    from_ends None (Some x) is h = absurd h
    from_ends (Some y) None is h = absurd h
    from_ends (Some y) (Some x) is h = asked_ends (second.ask y) (first.ask x) (match.asks s live p x y is h)

    step_alike : BothOrNeither EndAlike (other (record { procs = n; chans = s.chans }) p) (step s p)
    step_alike = from_ends (get n p) (get s.procs p) refl (all p)

  -- ---- states that stand for others

  module _ (s : State P) (t : State Q) (stands : Stands t s) (p : Place) where
    abbrev Ends : State Q × ℕ → State P × ℕ → Type 0
    Ends = EndAlike s stands.live t.procs stands.procs p

    same_state : record { procs = t.procs; chans = s.chans } ≡ t
    same_state = λ i. record { procs = t.procs; chans = sym stands.chans i }

    both_step : BothOrNeither Ends (other t p) (step s p)
    both_step = subst (λ u. BothOrNeither Ends (other u p) (step s p)) same_state (step_alike s stands.live t.procs stands.procs p)

    pub starts_alike : starts_at second t p ≡ starts_at first s p
    starts_alike = ap (λ u. starts_at second u p) (sym same_state) ∙ go (onward_at second (record { procs = t.procs; chans = s.chans }) p) (onward_at first s p) (onward_alike s stands.live t.procs stands.procs p)
      where
        go : (k : Option (Onward Q)) (o : Option (Onward P)) → BothOrNeither (OnwardsCorrespond Corresponds) k o → starts_by p k ≡ starts_by p o
        go None None h = refl
        go None (Some o) h = absurd h
        go (Some k) None h = absurd h
        go (Some k) (Some o) h = ap₂ (λ b n. child_places p b 1 n) h.block (same_length Corresponds k.starts o.starts h.starts)

    forth : (b : Option (State Q × ℕ)) (a : Option (State P × ℕ)) → BothOrNeither Ends b a → (r : State P × ℕ) → a ≡ Some r → (u : State Q × ℕ) × (b ≡ Some u) × Ends u r
    forth None None h r e = absurd (cc e)
    forth None (Some a) h r e = absurd h
    forth (Some b) None h r e = absurd h
    forth (Some b) (Some a) h r e = (b, refl, subst (Ends b) (the_pair a r e) h)
      where
        the_pair : (a r : State P × ℕ) → Some a ≡ Some r → a ≡ r
        the_pair a r e = cc

    back : (b : Option (State Q × ℕ)) (a : Option (State P × ℕ)) → BothOrNeither Ends b a → (u : State Q × ℕ) → b ≡ Some u → (r : State P × ℕ) × (a ≡ Some r)
    back None None h u e = absurd (cc e)
    back None (Some a) h u e = absurd h
    back (Some b) None h u e = absurd h
    back (Some b) (Some a) h u e = (a, refl)

    steps_forth : (can : Can step s p) → (u : State Q × ℕ) × (other t p ≡ Some u) × Ends u can.0
    steps_forth can = forth (other t p) (step s p) both_step can.0 can.1

    stands_next : Can step s p → Stands (next other t p) (next step s p)
    stands_next can =
        let k = steps_forth can in
        let to : next other t p ≡ k.0.0 = next-Some other t p k.0 k.1 in
        let from : next step s p ≡ can.0.0 = next-Some step s p can.0 can.1 in
        record {
          live = match.stays_live s p stands.live can;
          chans = ap (λ (u : State Q). u.chans) to ∙ k.2.0 ∙ sym (ap (λ (u : State P). u.chans) from);
          procs = λ q. subst (λ (u : State Q). BothOrNeither Corresponds (get u.procs q) (get (next step s p).procs q)) (sym to) (subst (λ (u : State P). BothOrNeither Corresponds (get k.0.0.procs q) (get u.procs q)) (sym from) (k.2.1 q));
        }

    same_cost : Can step s p → cost other t p ≡ cost step s p
    same_cost can = let k = steps_forth can in cost-Some other t p k.0 k.1 ∙ k.2.2 ∙ sym (cost-Some step s p can.0 can.1)

  -- the two machines step alike
  pub bisimulation : IsBisimulation step other Stands
  bisimulation = record {
    forth = record {
      can = λ s t p stands can. let k = steps_forth s t stands p can in (k.0, k.1);
      stands = λ s t p stands can. stands_next s t stands p can;
      costs = λ s t p stands can. same_cost s t stands p can;
    };
    back = λ s t p stands can. back s t stands p (other t p) (step s p) (both_step s t stands p) can.0 can.1;
  }

  along_alike : (cs : List Place) (s : State P) (t : State Q) → Stands t s → IsLegal step s cs → starts_along second t cs ≡ starts_along first s cs
  along_alike [] s t stands legal = refl
  along_alike (c ∷ cs) s t stands legal = ap₂ (λ ps qs. ps ++ qs) (starts_alike s t stands c) (along_alike cs (next step s c) (next other t c) (stands_next s t stands c legal.0) legal.1)

  -- and start the same processes in the same order
  pub same_starts : (cs : List Place) (s : State P) (t : State Q) → Stands t s → IsLegal step s cs → starts_of second t cs ≡ starts_of first s cs
  same_starts cs s t stands legal = ap (λ ps. [] ∷ ps) (along_alike cs s t stands legal)

  pub main_stands : (x : P) (y : Q) → Corresponds y x → IsLive (main_alone x) → Stands (main_alone y) (main_alone x)
  main_stands x y h live = record {
    live = live;
    chans = refl;
    procs = λ q.
        subst (λ b. BothOrNeither Corresponds b (get (main_alone x).procs q)) (sym (get-insert path_order.total empty [] y q))
        (subst (BothOrNeither Corresponds (cond (eq_by_cmp path_cmp q []) (Some y) (get empty q))) (sym (get-insert path_order.total empty [] x q)) (go q (eq_by_cmp path_cmp q [])));
  }
    where
      go : (q : Place) (c : Bool) → BothOrNeither Corresponds (cond c (Some y) (get (empty {X = Q} {R = path_cmp}) q)) (cond c (Some x) (get (empty {X = P} {R = path_cmp}) q))
      go q true = h
      go q false = subst (λ b. BothOrNeither Corresponds b (get (empty {X = P} {R = path_cmp}) q)) (sym (get-empty path_cmp q)) (subst (BothOrNeither Corresponds None) (sym (get-empty path_cmp q)) tt)

  pub alike : AreAlike Corresponds IsLive first second
  alike = record {
    begin = main_stands;
    step = bisimulation;
    runs = do_the_same step other Stands bisimulation;
    starts = λ s t stands cs legal. same_starts cs s t stands legal;
  }

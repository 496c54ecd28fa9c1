-- What of the queue each worker has: as it is made, as it follows an entry, and who is taken from it.
use Rattle.std.proofs.Common.{◌≡◌, ◌≢◌, ◌⊎◌, inl, inr, ℕ, zero, suc, ◌+◌, ◌-◌, ◌<◌, ◌≤◌, ◌==◌, Bool, true, false, cond, not, Option, Some, None, List, [], ◌∷◌, ◌++◌, filter, drop, length, replicate, get_or, set, slice_get, append-nil, append_assoc, refl, sym, ap, ◌∙◌, subst, arith, eq-eqb, eqb-true}
use Rattle.std.specs.Prelude.{IfSome, OnOk, Result, Ok, Err}
use Rattle.std.specs.FinMap.{empty, get}
use Rattle.std.proofs.lemmas.Bool.{ne_eqb}
use Rattle.std.proofs.lemmas.List.{drop_all, drop_more, get_or-replicate, get_or-set_other, get_or-set_same, length-set}
use Rattle.fm_base.specs.declared.schedule.Setup.{Setup}
use Rattle.fm_base.specs.declared.schedule.Turn.{Turn}
use Rattle.fm_code.specs.declared.body.Body.{Body}
use Rattle.fm_finmap.proofs.Inserts.{insert_here}
use Rattle.fm_net.specs.Correspondence.{BothOrNeither}
use Rattle.fm_net.specs.Machine.{Place}
use Rattle.fm_net.proofs.Keys.{path_order}
use Rattle.fm_rules.specs.declared.program.Program.{Program}
use Rattle.fm_mean.specs.Machines.{main_nodes}
use Rattle.fm_mean.specs.Process.{Proc}
use Rattle.fm_mean.specs.Steps.{first_proc}
use Rattle.fm_proc_language.specs.Processes.{CodeProc}
use Rattle.fm_procs.specs.Readings.{procs_of}
use Rattle.fm_run_code.specs.Given.{IsBodyAt}
use Rattle.fm_proc_simulation.specs.Corresponds.{BodyAlike, Corresponds}
use Rattle.fm_run.specs.Orders.{Among, EachOnce, others_in}
use Rattle.fm_run.specs.Programs.{Stand}
use Rattle.fm_run.specs.declared.orders.Queue.{Queue}
use Rattle.fm_run.specs.declared.player.Player.{Player}
use Rattle.fm_run.proofs.Numbers.{filter_among, once_filter}
use Rattle.fm_table.specs.Giving.{taken_for}
use Rattle.fm_table.specs.Inside.{AreBehind, AreShares, Compiled, HasEntered, HasShares, HaveLeft, IsLive, IsStanding, shares_of, stand_in, stand_kept}
use Rattle.fm_table.specs.Planned.{first_of, mapped, node_at, worker_at}
use Rattle.fm_table.specs.Told.{IsKept, Out, Told, is_out, ready_in, ready_of, stand_of, stand_with}
use Rattle.fm_table.specs.declared.shares.Shares.{Shares}
use Rattle.fm_table.specs.declared.standing.Standing.{Standing}
use Rattle.fm_table.proofs.Outs.{ready_queued}
use Rattle.fm_table.proofs.Planned.{all_first, filter_swap, first_among, node_is, node_low, nobodys, nobody_there, own_queued, own_share, queue_behind, there, worker_first, worker_low}

-- ---- nodes of processes in memory

the_body : (a b : Body) → Some a ≡ Some b → a ≡ b
the_body a b e = cc

-- the body at a place stands for what runs there
body_there : (program : Program) (player : Player Compiled) (live : IsLive program player) (q : Place) (x : Proc) (b : Body) → get (stand_in program player).state.procs q ≡ Some x
    → ((y : CodeProc) → get (procs_of player.net.stacks.entries) q ≡ Some y → Some b ≡ y.body) → (b.node ≡ x.execution.node) × (b.machine ≡ x.execution.machine)
body_there program player live q x b is of = go (get (procs_of player.net.stacks.entries) q) refl (subst (BothOrNeither (Corresponds program) (get (procs_of player.net.stacks.entries) q)) is (live.sound.stands.procs q))
  where
    by_body : (y : CodeProc) → (o : Option Body) → o ≡ Some b → BodyAlike program y.slots x o → (b.node ≡ x.execution.node) × (b.machine ≡ x.execution.machine)
    by_body y None e alike = absurd (cc e)
    by_body y (Some c) e alike =
        let same = the_body c b e in
        (ap (λ (d : Body). d.node) (sym same) ∙ alike.node, ap (λ (d : Body). d.machine) (sym same) ∙ alike.machine)

    go : (o : Option CodeProc) → get (procs_of player.net.stacks.entries) q ≡ o → BothOrNeither (Corresponds program) o (Some x) → (b.node ≡ x.execution.node) × (b.machine ≡ x.execution.machine)
    go None e both = absurd both
    go (Some y) e both = by_body y y.body (sym (of y e)) both.body

-- the node of one that can step
pub node_of_body : (program : Program) (player : Player Compiled) (live : IsLive program player) (n : ℕ) (b : Body) → Among n player.able.numbers.items
    → IsBodyAt player.net.stacks n (Some b) → b.node ≡ node_at (stand_in program player) n
node_of_body program player live n b h of =
    let a = stand_in program player in
    let t = there program a player.net.history player.used live.played.history live.played.able n h in
    (body_there program player live t.place t.process b t.is (λ y e. of t.place y t.at e)).0 ∙ sym (node_is program a player.net.history player.used live.played.history live.played.able n t)

pub node_within : (program : Program) (player : Player Compiled) (live : IsLive program player) (n : ℕ) (b : Body) → Among n player.able.numbers.items
    → IsBodyAt player.net.stacks n (Some b) → b.node < main_nodes program
node_within program player live n b h of =
    let low = node_low program (stand_in program player) player.net.history player.used live.played.history live.played.able n h in
    let same = node_of_body program player live n b h of in
    omega (arith, low, same)

-- the nodes of main's machine, before the first piece
pub nodes_of_main : (program : Program) (player : Player Compiled) (live : IsLive program player) (b : Body) → player.net.history ≡ []
    → IsBodyAt player.net.stacks 0 (Some b) → b.machine.count ≡ main_nodes program
nodes_of_main program player live b none of =
    let a = stand_in program player in
    let began : a ≡ stand_with program [] player.able.numbers.items = live.stand_is ∙ ap (λ (ts : List Turn). stand_with program ts player.able.numbers.items) none in
    let at : slice_get a.places 0 ≡ Some [] = ap (λ (c : Stand). slice_get c.places 0) began in
    let is : get a.state.procs [] ≡ Some (first_proc program) = ap (λ (c : Stand). get c.state.procs []) began ∙ insert_here path_order empty [] (first_proc program) in
    ap (λ m. m.count) (body_there program player live [] (first_proc program) b is (λ y e. of [] y at e)).1

-- ---- what is known of the workers' shares

-- where nothing is kept of what the workers have
pub none_known : (program : Program) (setup : Setup) (a : Stand) (x : Shares) → x.nodes ≡ main_nodes program → x.lists ≡ None → HasShares program setup a x
none_known program setup a x nodes none = record { nodes_are = nodes; lists_are = subst (λ o. IfSome o (λ lists. AreShares program setup a (shares_of lists.items))) (sym none) tt }

-- one of so many that comes to a worker
module _ (w : ℕ → ℕ) where
  abbrev of : ℕ → List ℕ → List ℕ
  of k = filter (λ n. w n == k)

  -- a list of shares with one more
  pub one_more : (shares : List (List ℕ)) (queue : List ℕ) (i d k m : ℕ) → i < length queue → m ≡ get_or queue i d → k ≡ w m → k < length shares → (j : ℕ) (whole : List ℕ) → get_or shares j [] ++ of j (drop i queue) ≡ whole
      → get_or (set shares k (get_or shares k [] ++ m ∷ [])) j [] ++ of j (drop (i + 1) queue) ≡ whole
  one_more shares queue i d k m low is belongs there j whole so =
      let split : drop i queue ≡ m ∷ drop (i + 1) queue = drop_more queue i d low ∙ ap (λ (n : ℕ). n ∷ drop (i + 1) queue) (sym is) in
      go (j == k) refl (sym (ap (λ (ns : List ℕ). get_or shares j [] ++ of j ns) split) ∙ so)
    where
      rest : List ℕ
      rest = of j (drop (i + 1) queue)

      go : (b : Bool) → (j == k) ≡ b → get_or shares j [] ++ of j (m ∷ drop (i + 1) queue) ≡ whole → get_or (set shares k (get_or shares k [] ++ m ∷ [])) j [] ++ rest ≡ whole
      go true e so' =
          let same : j ≡ k = eqb-true j k e in
          let here : get_or (set shares k (get_or shares k [] ++ m ∷ [])) j [] ≡ get_or shares j [] ++ m ∷ [] =
          ap (λ (n : ℕ). get_or (set shares k (get_or shares k [] ++ m ∷ [])) n []) same ∙ get_or-set_same shares k (get_or shares k [] ++ m ∷ []) [] there ∙ ap (λ (n : ℕ). get_or shares n [] ++ m ∷ []) (sym same) in
          ap (λ (ns : List ℕ). ns ++ rest) here ∙ append_assoc (get_or shares j []) (m ∷ []) rest
          ∙ sym (ap (λ (b : Bool). get_or shares j [] ++ cond b (m ∷ rest) rest) (eq-eqb (w m) j (sym belongs ∙ sym same))) ∙ so'
      go false e so' =
          let differs : j ≢ k = λ f. cc (sym e ∙ eq-eqb j k f) in
          ap (λ (ns : List ℕ). ns ++ rest) (get_or-set_other shares k j (get_or shares k [] ++ m ∷ []) [] differs)
          ∙ sym (ap (λ (b : Bool). get_or shares j [] ++ cond b (m ∷ rest) rest) (ne_eqb (w m) j (λ f. differs (sym f ∙ sym belongs)))) ∙ so'

  -- all came to their workers
  pub all_shared : (shares : List (List ℕ)) (queue : List ℕ) (i j : ℕ) (whole : List ℕ) → length queue ≤ i → get_or shares j [] ++ of j (drop i queue) ≡ whole → get_or shares j [] ≡ whole
  all_shared shares queue i j whole high so = sym (append-nil (get_or shares j [])) ∙ ap (λ (ns : List ℕ). get_or shares j [] ++ of j ns) (sym (drop_all i queue high)) ∙ so

-- shares that begin with nothing
pub shares_made : (program : Program) (setup : Setup) (a : Stand) (none shares : List (List ℕ)) → none ≡ replicate setup.workers [] → length shares ≡ setup.workers
    → ((w : ℕ) → w < setup.workers → get_or shares w [] ≡ get_or none w [] ++ mapped program setup a w a.able) → AreShares program setup a shares
shares_made program setup a none shares is many each = record {
  many = many;
  each = λ w low. each w low ∙ ap (λ (ns : List ℕ). ns ++ mapped program setup a w a.able) (ap (λ (ls : List (List ℕ)). get_or ls w []) is ∙ get_or-replicate setup.workers w [] [] low);
}

-- shares without a process that belongs to this worker
pub left_so : (program : Program) (setup : Setup) (a : Stand) (shares left : List (List ℕ)) (k n : ℕ) → AreShares program setup a shares → k ≡ worker_at program setup a n → k < setup.workers → left ≡ set shares k (others_in n (get_or shares k [])) → HaveLeft program setup a n left
left_so program setup a shares left k n h is low made = record {
  many = ap length made ∙ length-set shares k (others_in n (get_or shares k [])) ∙ h.many;
  each = λ w there. ap (λ (ls : List (List ℕ)). get_or ls w []) made ∙ go w there (w == k) refl;
}
  where
    not_here : (ns : List ℕ) → ((m : ℕ) → Among m ns → m ≢ n) → ns ≡ others_in n ns
    not_here [] none = refl
    not_here (m ∷ ns) none = ap (λ (ms : List ℕ). m ∷ ms) (not_here ns (λ i h. none i (inr h))) ∙ sym (ap (λ (b : Bool). cond (not b) (m ∷ others_in n ns) (others_in n ns)) (ne_eqb m n (none m (inl refl))))

    go : (w : ℕ) → w < setup.workers → (b : Bool) → (w == k) ≡ b → get_or (set shares k (others_in n (get_or shares k []))) w [] ≡ others_in n (mapped program setup a w a.able)
    go w there true e =
        let same : w ≡ k = eqb-true w k e in
        ap (λ (i : ℕ). get_or (set shares k (others_in n (get_or shares k []))) i []) same ∙ get_or-set_same shares k (others_in n (get_or shares k [])) [] (subst (λ (i : ℕ). k < i) (sym h.many) low)
        ∙ ap (others_in n) (ap (λ (i : ℕ). get_or shares i []) (sym same) ∙ h.each w there)
    go w there false e =
        let differs : w ≢ k = λ f. cc (sym e ∙ eq-eqb w k f) in
        get_or-set_other shares k w (others_in n (get_or shares k [])) [] differs ∙ h.each w there
        ∙ not_here (mapped program setup a w a.able) (λ m among same. differs (sym (is ∙ ap (worker_at program setup a) (sym same) ∙ eqb-true (worker_at program setup a m) w (filter_among (λ i. worker_at program setup a i == w) a.able m among))))

-- what a worker has is there once
pub share_once : (program : Program) (setup : Setup) (a : Stand) (shares : List (List ℕ)) (k : ℕ) → AreShares program setup a shares → EachOnce a.able → k < setup.workers → EachOnce (get_or shares k [])
share_once program setup a shares k h once low = subst EachOnce (sym (h.each k low)) (once_filter (λ n. worker_at program setup a n == k) a.able once)

-- behind the entry
pub shares_settled : (program : Program) (setup : Setup) (a b : Stand) (n from : ℕ) (left shares : List (List ℕ)) → HaveLeft program setup a n left → AreBehind program setup a b n from → length shares ≡ setup.workers
    → ((w : ℕ) → w < setup.workers → get_or shares w [] ≡ get_or left w [] ++ mapped program setup b w (drop from b.able)) → AreShares program setup b shares
shares_settled program setup a b n from left shares was behind many each = record {
  many = many;
  each = λ w low. each w low ∙ ap (λ (ns : List ℕ). ns ++ mapped program setup b w (drop from b.able)) (was.each w low) ∙ sym (behind w);
}

-- who is taken from what a worker has
pub taken_from : (program : Program) (setup : Setup) (a : Stand) (shares : List (List ℕ)) (w : ℕ) (out : List Out) → AreShares program setup a shares → w < setup.workers → first_of (ready_in out (get_or shares w [])) (ready_in out a.able) ≡ first_of (mapped program setup a w (ready_in out a.able)) (ready_in out a.able)
taken_from program setup a shares w out h low =
    ap (λ (ns : List ℕ). first_of ns (ready_in out a.able)) (ap (ready_in out) (h.each w low) ∙ filter_swap (λ n. not (is_out out n)) (λ n. worker_at program setup a n == w) a.able)

-- ---- an entry more

pub entry_behind : (program : Program) (old new : Standing) (s : IsStanding program old) (t : Turn) (h : HasEntered program t old new) (setup : Setup) (count : ℕ) → count ≡ length old.player.able.numbers.items
    → AreBehind program setup (stand_kept program old) (stand_kept program new) t.number (count - 1)
entry_behind program old new s t h setup count counted =
    let a = stand_kept program old in
    let b = stand_kept program new in
    let tail = drop (count - 1) b.able in
    own_share program a b t old.player.net.history new.player.net.history _ s.played s.able h.entry h.known setup tail
    (queue_behind program a b t old.player.net.history new.player.net.history _ s.played s.able h.entry h.known count counted h.queue
    (own_queued program a b t old.player.net.history new.player.net.history _ s.played s.able h.entry h.known h.some_steps))

-- ---- who is taken

module _ (a : Told) (kept : IsKept a) where
  -- where one is the first worker's, or is nobody's, it is the first one that is ready
  pub first_taken : (worker : ℕ) → (main_nodes a.program ≡ 1) ⊎ (a.setup.workers ≡ 1) → slice_get (ready_of a) 0 ≡ taken_for worker a
  first_taken worker one =
      sym (all_first (worker_at a.program a.setup (stand_of a)) worker (ready_of a)
      (λ n h. worker_first a.program (stand_of a) a.history _ kept.played kept.able a.setup one n (ready_queued a.out a.queue n h)))

  pub nobody_taken : (worker : ℕ) → a.setup.workers ≤ worker → slice_get (ready_of a) 0 ≡ taken_for worker a
  nobody_taken worker high =
      sym (nobodys (worker_at a.program a.setup (stand_of a)) worker (ready_of a)
      (λ n h. let low = worker_low a.program (stand_of a) a.history _ kept.played kept.able a.setup n (ready_queued a.out a.queue n h) in omega (arith, low, high)))

pub nobody_for : (worker : ℕ) (a : Told) → taken_for worker a ≡ None → ready_of a ≡ []
nobody_for worker a e = nobody_there (λ n. worker_at a.program a.setup (stand_of a) n == worker) (ready_of a) e

pub ready_for : (worker : ℕ) (a : Told) (n : ℕ) → taken_for worker a ≡ Some n → Among n (ready_of a)
ready_for worker a n e = first_among (λ m. worker_at a.program a.setup (stand_of a) m == worker) (ready_of a) n e

-- ---- lists of queues

pub shares_set : (qs : List Queue) (k : ℕ) (q : Queue) → shares_of (set qs k q) ≡ set (shares_of qs) k q.numbers.items
shares_set [] k q = refl
shares_set (x ∷ qs) zero q = refl
shares_set (x ∷ qs) (suc k) q = ap (λ (ls : List (List ℕ)). x.numbers.items ∷ ls) (shares_set qs k q)

pub shares_get : (qs : List Queue) (k : ℕ) (d : Queue) → k < length qs → get_or (shares_of qs) k [] ≡ (get_or qs k d).numbers.items
shares_get [] k d low = absurd (omega (arith, low))
shares_get (x ∷ qs) zero d low = refl
shares_get (x ∷ qs) (suc k) d low = shares_get qs k d (omega (arith, low))

pub shares_counted : (qs : List Queue) → length (shares_of qs) ≡ length qs
shares_counted [] = refl
shares_counted (x ∷ qs) = ap suc (shares_counted qs)

pub shares_push : (qs : List Queue) (q : Queue) → shares_of (qs ++ q ∷ []) ≡ shares_of qs ++ q.numbers.items ∷ []
shares_push [] q = refl
shares_push (x ∷ qs) q = ap (λ (ls : List (List ℕ)). x.numbers.items ∷ ls) (shares_push qs q)

-- one time more
pub times_more : (x : List ℕ) (k : ℕ) → replicate (k + 1) x ≡ replicate k x ++ x ∷ []
times_more x k = ap (λ (n : ℕ). replicate n x) next ∙ go k
  where
    next : k + 1 ≡ suc k
    next = omega arith

    go : (k : ℕ) → replicate (suc k) x ≡ replicate k x ++ x ∷ []
    go zero = refl
    go (suc k) = ap (λ (ls : List (List ℕ)). x ∷ ls) (go k)

pub among_got : (xs : List ℕ) (i d : ℕ) → i < length xs → Among (get_or xs i d) xs
among_got [] i d low = absurd (omega (arith, low))
among_got (x ∷ xs) zero d low = inl refl
among_got (x ∷ xs) (suc i) d low = inr (among_got xs i d (omega (arith, low)))

pub on_ok : {A E : Type 0} {P Q : Type 0} (r : Result A E) → (P → Q) → OnOk r P → OnOk r Q
on_ok (Ok x) f h = f h
on_ok (Err e) f h = tt

-- Who is taken for a worker, and what of the queue the plan maps to each worker, before and behind an entry.
use Rattle.std.proofs.Common.{◌≡◌, ◌≢◌, ◌⊎◌, inl, inr, ℕ, zero, suc, ◌+◌, ◌-◌, ◌*◌, ◌<◌, ◌≤◌, ◌==◌, Bool, true, false, cond, not, Option, Some, None, List, [], ◌∷◌, ◌++◌, filter, drop, length, replicate, slice_get, refl, sym, ap, ap₂, ◌∙◌, subst, arith, eq-eqb, eqb-true}
use Rattle.std.specs.Prelude.{is_some}
use Rattle.std.specs.FinMap.{get}
use Rattle.std.proofs.Math.Nat.{div-lt_iff_lt-mul, mod-lt, mul-le-mul_right}
use Rattle.std.proofs.Math.Seq.{drop-append_seam}
use Rattle.std.proofs.lemmas.Bool.{ne_eqb}
use Rattle.std.proofs.lemmas.List.Elements.{filter-append}
use Rattle.std.proofs.lemmas.Option.{get_or_from_slice_get}
use Rattle.fm_base.specs.declared.schedule.Plan.{Plan}
use Rattle.fm_base.specs.declared.schedule.Plan.TheVariants.{Cyclic, Block}
use Rattle.fm_base.specs.declared.schedule.Setup.{Setup}
use Rattle.fm_base.specs.declared.schedule.Turn.{Turn}
use Rattle.fm_code.specs.declared.body.Body.{Body}
use Rattle.fm_map.specs.Placement.{worker_of}
use Rattle.fm_sched.specs.Schedule.{IsLegal}
use Rattle.fm_net.specs.Machine.{Place, State}
use Rattle.fm_net.specs.Owned.{IsOwned}
use Rattle.fm_net.specs.Starts.{starts_along}
use Rattle.fm_net.proofs.Histories.{longer_at}
use Rattle.fm_net.proofs.Orders.{one_number_each}
use Rattle.fm_rules.specs.declared.program.Program.{Program}
use Rattle.fm_mean.specs.Actions.{action_in}
use Rattle.fm_mean.specs.Machines.{HaveMachines, main_nodes}
use Rattle.fm_net_procs.specs.Waiting.{need_in}
use Rattle.fm_mean.specs.Process.{Phase, Running, Joining, Ended, Faulted, Proc, has_ended, is_ended}
use Rattle.fm_mean.specs.Steps.{ask_for, first_proc, language, step}
use Rattle.fm_mean.proofs.Lawful.{lawful}
use Rattle.fm_mean.proofs.Laws.{owned_along}
use Rattle.fm_mean.proofs.Machines.{machines_along}
use Rattle.fm_proc_simulation.specs.Corresponds.{BodyStands}
use Rattle.fm_proc_language.specs.Slots.{Slots}
use Rattle.fm_run.specs.Orders.{Among, EachOnce, is_new, others_in}
use Rattle.fm_run.specs.Programs.{AreAble, IsEntry, IsPlayedBy, Stand, can_at, can_in, play_of, ready_after}
use Rattle.fm_run.specs.Runs.{place_of, steps_of}
use Rattle.std.specs.List.{range_with_len}
use Rattle.fm_run.proofs.Able.{rests, some_there, steps_there}
use Rattle.fm_run.proofs.Programs.{first_holds, law_of}
use Rattle.fm_run.proofs.Numbers.{filter_among, in_filter, not_own}
use Rattle.fm_run.proofs.Others.{StaysOrEnded, able_along, others_along}
use Rattle.fm_table.specs.Planned.{first_of, mapped, node_at, node_in, process_in, worker_at}
use Rattle.fm_table.specs.Told.{IsBodyOf}

-- ---- workers of nodes

pub below : (plan : Plan) (node nodes workers : ℕ) → node < nodes → 1 ≤ workers → worker_of plan node nodes workers < workers
below Cyclic node nodes workers there some = mod-lt node some
below Block node nodes workers there some =
    let row : suc node * workers ≤ nodes * workers = mul-le-mul_right workers there in
    (div-lt_iff_lt-mul {k = nodes} {x = node * workers} {y = workers} (omega (arith, there))).1 (lower node nodes workers row some)
  where
    lower : (node nodes workers : ℕ) → suc node * workers ≤ nodes * workers → 1 ≤ workers → node * workers < workers * nodes
    lower node nodes workers row some = omega (arith, row, some)

pub one_node : (plan : Plan) (node nodes workers : ℕ) → nodes ≡ 1 → node < nodes → 1 ≤ workers → worker_of plan node nodes workers ≡ 0
one_node plan node nodes workers one there some =
    let first : node ≡ 0 = omega (arith, one, there) in
    ap₂ (λ n m. worker_of plan n m workers) first one ∙ at_first plan
  where
    at_first : (plan : Plan) → worker_of plan 0 1 workers ≡ 0
    at_first Cyclic = omega arith
    at_first Block = omega arith

pub one_worker : (plan : Plan) (node nodes workers : ℕ) → workers ≡ 1 → node < nodes → worker_of plan node nodes workers ≡ 0
one_worker plan node nodes workers one there = let low = below plan node nodes workers there (omega (arith, one)) in omega (arith, low, one)

-- ---- lists

filter_none : (p : ℕ → Bool) (xs : List ℕ) → ((n : ℕ) → Among n xs → p n ≡ false) → filter p xs ≡ []
filter_none p [] none = refl
filter_none p (x ∷ xs) none = ap (λ (b : Bool). cond b (x ∷ filter p xs) (filter p xs)) (none x (inl refl)) ∙ filter_none p xs (λ n h. none n (inr h))

filter_whole : (p : ℕ → Bool) (xs : List ℕ) → ((n : ℕ) → Among n xs → p n ≡ true) → filter p xs ≡ xs
filter_whole p [] all = refl
filter_whole p (x ∷ xs) all = ap (λ (b : Bool). cond b (x ∷ filter p xs) (filter p xs)) (all x (inl refl)) ∙ ap (λ (ns : List ℕ). x ∷ ns) (filter_whole p xs (λ n h. all n (inr h)))

pub filter_alike : (p q : ℕ → Bool) (xs : List ℕ) → ((n : ℕ) → Among n xs → p n ≡ q n) → filter p xs ≡ filter q xs
filter_alike p q [] same = refl
filter_alike p q (x ∷ xs) same = ap₂ (λ (b : Bool) (ns : List ℕ). cond b (x ∷ ns) ns) (same x (inl refl)) (filter_alike p q xs (λ n h. same n (inr h)))

-- which of two tests comes first doesn't matter
pub filter_swap : (p q : ℕ → Bool) (xs : List ℕ) → filter p (filter q xs) ≡ filter q (filter p xs)
filter_swap p q [] = refl
filter_swap p q (x ∷ xs) = go (p x) refl (q x) refl (filter_swap p q xs)
  where
    go : (b : Bool) → p x ≡ b → (d : Bool) → q x ≡ d → filter p (filter q xs) ≡ filter q (filter p xs) → filter p (cond d (x ∷ filter q xs) (filter q xs)) ≡ filter q (cond b (x ∷ filter p xs) (filter p xs))
    go true e true f rest = ap (λ (b : Bool). cond b (x ∷ filter p (filter q xs)) (filter p (filter q xs))) e ∙ ap (λ (ns : List ℕ). x ∷ ns) rest ∙ sym (ap (λ (b : Bool). cond b (x ∷ filter q (filter p xs)) (filter q (filter p xs))) f)
    go true e false f rest = rest ∙ sym (ap (λ (b : Bool). cond b (x ∷ filter q (filter p xs)) (filter q (filter p xs))) f)
    go false e true f rest = ap (λ (b : Bool). cond b (x ∷ filter p (filter q xs)) (filter p (filter q xs))) e ∙ rest
    go false e false f rest = rest

-- none comes exactly where nobody is there
pub nobody_there : (p : ℕ → Bool) (xs : List ℕ) → first_of (filter p xs) xs ≡ None → xs ≡ []
nobody_there p xs e = go (filter p xs) xs e
  where
    go : (own all : List ℕ) → first_of own all ≡ None → all ≡ []
    go (n ∷ own) all e = absurd (cc e)
    go [] [] e = refl
    go [] (n ∷ all) e = absurd (cc e)

pub first_among : (p : ℕ → Bool) (xs : List ℕ) (n : ℕ) → first_of (filter p xs) xs ≡ Some n → Among n xs
first_among p xs n e = go (filter p xs) xs (λ m h. in_filter p xs m h) e
  where
    go : (own all : List ℕ) → ((m : ℕ) → Among m own → Among m all) → first_of own all ≡ Some n → Among n all
    go (m ∷ own) all from e = let same : m ≡ n = cc e in from n (inl (sym same))
    go [] [] from e = absurd (cc e)
    go [] (m ∷ all) from e = let same : m ≡ n = cc e in inl (sym same)

-- where all are its own, or none is, it is the first of all
all_own : (own all : List ℕ) → own ≡ all → first_of own all ≡ slice_get all 0
all_own own [] same = ap (λ (ns : List ℕ). first_of ns []) same
all_own own (n ∷ all) same = ap (λ (ns : List ℕ). first_of ns (n ∷ all)) same

none_own : (own all : List ℕ) → own ≡ [] → first_of own all ≡ slice_get all 0
none_own own all same = ap (λ (ns : List ℕ). first_of ns all) same

-- the first of its own by its place, or else the first of all
pub by_places : (own all : List ℕ) → first_of own all ≡ cond (is_some (slice_get own 0)) (slice_get own 0) (slice_get all 0)
by_places [] all = refl
by_places (n ∷ own) all = refl

-- where all belong to the first worker
pub all_first : (w : ℕ → ℕ) (worker : ℕ) (xs : List ℕ) → ((n : ℕ) → Among n xs → w n ≡ 0) → first_of (filter (λ n. w n == worker) xs) xs ≡ slice_get xs 0
all_first w zero xs first = all_own _ xs (filter_whole (λ n. w n == 0) xs (λ n h. eq-eqb (w n) 0 (first n h)))
all_first w (suc k) xs first = none_own _ xs (filter_none (λ n. w n == suc k) xs (λ n h. ne_eqb (w n) (suc k) (λ e. absurd (cc (sym (first n h) ∙ e)))))

-- where none belongs to this one
pub nobodys : (w : ℕ → ℕ) (worker : ℕ) (xs : List ℕ) → ((n : ℕ) → Among n xs → w n < worker) → first_of (filter (λ n. w n == worker) xs) xs ≡ slice_get xs 0
nobodys w worker xs low = none_own _ xs (filter_none (λ n. w n == worker) xs (λ n h. let less = low n h in ne_eqb (w n) worker (λ e. omega (arith, less, e))))

-- ---- who can step is on a node of main's machine

module _ (program : Program) (a : Stand) (hs : List Turn) (paid : ℕ) (kept : IsPlayedBy program hs a.places a.state paid) (able : AreAble program a.state a.places a.able) where
  pub record There (n : ℕ) : Type 0 where
    pub place : Place
    pub at : slice_get a.places n ≡ Some place
    pub process : Proc
    pub is : get a.state.procs place ≡ Some process
    pub can : is_some (step program a.state place) ≡ true

  pub there : (n : ℕ) → Among n a.able → There n
  there n h = go (slice_get a.places n) refl (able.within n h)
    where
      go : (o : Option Place) → slice_get a.places n ≡ o → can_at program a.state a.places n ≡ true → There n
      go None e can = absurd (cc (sym (ap (can_in program a.state) e) ∙ can))
      go (Some q) e can =
          let steps = sym (ap (can_in program a.state) e) ∙ can in
          let x = steps_there (play_of program) a.state q (get a.state.procs q) refl steps in
          record { place = q; at = e; process = x.0; is = x.1; can = steps }

  pub node_is : (n : ℕ) (h : There n) → node_at a n ≡ h.process.execution.node
  node_is n h = ap (λ (o : Option Place). node_in (process_in a.state o)) h.at ∙ ap node_in h.is

  machines : HaveMachines program a.state
  machines = subst (HaveMachines program) kept.there (machines_along program kept.choices kept.legal)

  pub node_low : (n : ℕ) → Among n a.able → node_at a n < main_nodes program
  node_low n h =
      let t = there n h in
      let m = machines t.place t.process t.is in
      let same = node_is n t in
      omega (arith, m.to, m.within, same)

  module _ (setup : Setup) where
    pub worker_low : (n : ℕ) → Among n a.able → worker_at program setup a n < setup.workers
    worker_low n h = below setup.plan (node_at a n) (main_nodes program) setup.workers (node_low n h) setup.some_workers

    -- with one node, or one worker
    pub worker_first : (main_nodes program ≡ 1) ⊎ (setup.workers ≡ 1) → (n : ℕ) → Among n a.able → worker_at program setup a n ≡ 0
    worker_first (inl one) n h = one_node setup.plan (node_at a n) (main_nodes program) setup.workers one (node_low n h) setup.some_workers
    worker_first (inr one) n h = one_worker setup.plan (node_at a n) (main_nodes program) setup.workers one (node_low n h)

-- ---- an entry leaves others where they are

ended_phase : (phase : Phase) → is_ended phase ≡ true → phase ≡ Ended
ended_phase Running e = absurd (cc e)
ended_phase (Joining block kids) e = absurd (cc e)
ended_phase Ended e = refl
ended_phase (Faulted line fault) e = absurd (cc e)

-- who has ended has no step
ended_rests : (program : Program) (s : State Proc) (q : Place) (x : Proc) → get s.procs q ≡ Some x → has_ended x ≡ true → is_some (step program s q) ≡ false
ended_rests program s q x is e = rests (play_of program) s q x is (ap (λ (phase : Phase). need_in (ask_for program x (action_in program x.execution phase))) (ended_phase x.phase e))

module _ (program : Program) (a b : Stand) (t : Turn) (hs later : List Turn) (paid : ℕ) (kept : IsPlayedBy program hs a.places a.state paid) (able : AreAble program a.state a.places a.able)
    (entry : IsEntry program t a.state a.places hs b.state b.places later) (known : is_some (slice_get a.places t.number) ≡ true) where
  abbrev own : Place
  own = place_of a.places t

  abbrev more : List Place
  more = starts_along (language program) a.state (steps_of a.places t)

  owned : IsOwned (language program) a.state
  owned = subst (IsOwned (language program)) kept.there (owned_along program kept.choices kept.legal)

  at_own : slice_get a.places t.number ≡ Some own
  at_own = go (slice_get a.places t.number) refl known
    where
      go : (o : Option Place) → slice_get a.places t.number ≡ o → is_some o ≡ true → slice_get a.places t.number ≡ Some own
      go None e some = absurd (cc some)
      go (Some q) e some = e ∙ ap Some (sym (get_or_from_slice_get a.places t.number q [] e))

  -- who makes an entry could step
  pub own_queued : 1 ≤ t.steps → Among t.number a.able
  own_queued some = able.whole t.number (ap (can_in program a.state) at_own ∙ go t.steps some entry.can)
    where
      go : (k : ℕ) → 1 ≤ k → IsLegal (step program) a.state (replicate k own) → is_some (step program a.state own) ≡ true
      go zero some legal = absurd (omega (arith, some))
      go (suc k) some legal = ap is_some legal.0.1

  apart : (n : ℕ) (q : Place) → slice_get a.places n ≡ Some q → n ≢ t.number → q ≢ own
  apart n q at differs same =
      differs (one_number_each (language program) (lawful program) (first_proc program) (first_holds program) kept.choices kept.legal n t.number q
      (ap (λ (ps : List Place). slice_get ps n) (sym kept.places_are) ∙ at) (ap (λ (ps : List Place). slice_get ps t.number) (sym kept.places_are) ∙ at_own ∙ ap Some (sym same)))

  pub node_stays : (n : ℕ) → Among n a.able → n ≢ t.number → node_at b n ≡ node_at a n
  node_stays n h differs =
      let k = there program a hs paid kept able n h in
      let later_at : slice_get b.places n ≡ Some k.place = ap (λ (ps : List Place). slice_get ps n) entry.places_are ∙ longer_at a.places more n k.place k.at in
      go k later_at (subst (λ (s : State Proc). StaysOrEnded (play_of program) k.process (get s.procs k.place)) (sym entry.state_is) (others_along (play_of program) (law_of program) own t.steps a.state owned entry.can k.place (apart n k.place k.at differs) k.process k.is))
    where
      go : (k : There program a hs paid kept able n) → slice_get b.places n ≡ Some k.place → StaysOrEnded (play_of program) k.process (get b.state.procs k.place) → node_at b n ≡ node_at a n
      go k at (inl same) = ap (λ (o : Option Place). node_in (process_in b.state o)) at ∙ ap node_in same ∙ sym (node_is program a hs paid kept able n k)
      go k at (inr ended) = absurd (cc (sym k.can ∙ ended_rests program a.state k.place k.process k.is ended.0))

  -- nor does what their bodies stand for
  pub body_stays : (n : ℕ) (start : Body) → Among n a.able → n ≢ t.number → IsBodyOf program a n start → IsBodyOf program b n start
  body_stays n start h differs stood q x at is =
      let k = there program a hs paid kept able n h in
      let later_at : slice_get b.places n ≡ Some k.place = ap (λ (ps : List Place). slice_get ps n) entry.places_are ∙ longer_at a.places more n k.place k.at in
      let same : q ≡ k.place = some_place q k.place (sym at ∙ later_at) in
      go k (subst (λ (r : Place). get b.state.procs r ≡ Some x) same is) (subst (λ (s : State Proc). StaysOrEnded (play_of program) k.process (get s.procs k.place)) (sym entry.state_is) (others_along (play_of program) (law_of program) own t.steps a.state owned entry.can k.place (apart n k.place k.at differs) k.process k.is))
    where
      some_place : (r p : Place) → Some r ≡ Some p → r ≡ p
      some_place r p e = cc

      some_process : (y z : Proc) → Some y ≡ Some z → y ≡ z
      some_process y z e = cc

      go : (k : There program a hs paid kept able n) → get b.state.procs k.place ≡ Some x → StaysOrEnded (play_of program) k.process (get b.state.procs k.place) → (slots : Slots) × BodyStands program slots x start
      go k here (inl same) = subst (λ (y : Proc). (slots : Slots) × BodyStands program slots y start) (some_process k.process x (sym same ∙ here)) (stood k.place k.process k.at k.is)
      go k here (inr ended) = absurd (cc (sym k.can ∙ ended_rests program a.state k.place k.process k.is ended.0))

  pub other_can : (n : ℕ) → Among n a.able → n ≢ t.number → can_at program b.state b.places n ≡ true
  other_can n h differs =
      let k = there program a hs paid kept able n h in
      let later_at : slice_get b.places n ≡ Some k.place = ap (λ (ps : List Place). slice_get ps n) entry.places_are ∙ longer_at a.places more n k.place k.at in
      let still = able_along (play_of program) (law_of program) own t.steps a.state owned entry.can k.place (apart n k.place k.at differs) (some_there (step program a.state k.place) k.can) in
      ap (can_in program b.state) later_at ∙ ap (λ (s : State Proc). is_some (step program s k.place)) entry.state_is ∙ ap is_some still.1

  abbrev others : List ℕ
  others = others_in t.number a.able

  other_differs : (n : ℕ) → Among n others → n ≢ t.number
  other_differs n h e = cc (sym (filter_among (λ m. not (m == t.number)) a.able n h) ∙ ap (λ (m : ℕ). not (m == t.number)) e ∙ not_own t.number)

  others_counted : (own : ℕ) (xs : List ℕ) → Among own xs → EachOnce xs → length (others_in own xs) + 1 ≡ length xs
  others_counted own [] h once = absurd h
  others_counted own (x ∷ xs) (inl e) once =
      ap (λ (b : Bool). length (cond (not b) (x ∷ others_in own xs) (others_in own xs)) + 1) (eq-eqb x own (sym e))
      ∙ ap (λ (ns : List ℕ). length ns + 1) (filter_whole (λ n. not (n == own)) xs (λ n k. ap not (ne_eqb n own (λ f. once.0 (subst (λ (m : ℕ). Among m xs) (f ∙ e) k)))))
      ∙ omega arith
  others_counted own (x ∷ xs) (inr h) once =
      let rest = others_counted own xs h once.1 in
      ap (λ (b : Bool). length (cond (not b) (x ∷ others_in own xs) (others_in own xs)) + 1) (ne_eqb x own (λ e. once.0 (subst (λ (m : ℕ). Among m xs) (sym e) h)))
      ∙ omega (arith, rest)

  -- the others stand before those that come behind them
  pub queue_behind : (count : ℕ) → count ≡ length a.able → b.able ≡ ready_after program b.state b.places a.able t.number → Among t.number a.able → b.able ≡ others ++ drop (count - 1) b.able
  queue_behind count counted is h =
      let can = can_at program b.state b.places in
      let rest = filter (is_new t.number a.able) (range_with_len 0 (length b.places)) ++ t.number ∷ [] in
      let whole : b.able ≡ others ++ filter can rest =
      is ∙ filter-append can others rest ∙ ap (λ (ns : List ℕ). ns ++ filter can rest) (filter_whole can others (λ n k. other_can n (in_filter (λ m. not (m == t.number)) a.able n k) (other_differs n k))) in
      let place : count - 1 ≡ length others = (let one = others_counted t.number a.able h able.once in omega (arith, one, counted)) in
      whole ∙ ap (λ (ns : List ℕ). others ++ ns) (sym (ap₂ (λ (k : ℕ) (ns : List ℕ). drop k ns) place whole ∙ drop-append_seam others (filter can rest)))

  module _ (setup : Setup) (tail : List ℕ) (is : b.able ≡ others ++ tail) where
    same_worker : (n : ℕ) → Among n others → worker_at program setup b n ≡ worker_at program setup a n
    same_worker n h = ap (λ (node : ℕ). worker_of setup.plan node (main_nodes program) setup.workers) (node_stays n (in_filter (λ m. not (m == t.number)) a.able n h) (other_differs n h))

    others_mapped : (w : ℕ) → mapped program setup b w others ≡ others_in t.number (mapped program setup a w a.able)
    others_mapped w =
        filter_alike (λ n. worker_at program setup b n == w) (λ n. worker_at program setup a n == w) others (λ n h. ap (λ (k : ℕ). k == w) (same_worker n h))
        ∙ filter_swap (λ n. worker_at program setup a n == w) (λ n. not (n == t.number)) a.able

    -- what of the queue belongs to the worker of the process that made the entry, and to another one
    pub own_share : (w : ℕ) → mapped program setup b w b.able ≡ others_in t.number (mapped program setup a w a.able) ++ mapped program setup b w tail
    own_share w = ap (mapped program setup b w) is ∙ filter-append (λ n. worker_at program setup b n == w) others tail ∙ ap (λ (ns : List ℕ). ns ++ mapped program setup b w tail) (others_mapped w)

    pub other_share : (w : ℕ) → w ≢ worker_at program setup a t.number → mapped program setup b w b.able ≡ mapped program setup a w a.able ++ mapped program setup b w tail
    other_share w differs =
        own_share w ∙ ap (λ (ns : List ℕ). ns ++ mapped program setup b w tail)
        (filter_whole (λ n. not (n == t.number)) (mapped program setup a w a.able) (λ n h. ap not (ne_eqb n t.number (λ e. differs (sym (ap (worker_at program setup a) (sym e) ∙ eqb-true (worker_at program setup a n) w (filter_among (λ m. worker_at program setup a m == w) a.able n h)))))))

-- Along every schedule of a program that was read, words are of 64 bits, and steps cost little.
use Rattle.std.proofs.Common.{◌≡◌, ◌⊎◌, inl, inr, ℕ, zero, suc, ◌+◌, ◌*◌, ◌<◌, ◌≤◌, Option, Some, None, List, [], ◌∷◌, ◌++◌, replicate, sym, ap, ◌∙◌, subst, arith}
use Rattle.std.specs.FinMap as finite
use Rattle.std.specs.FinMap.{get, get-empty}
use Rattle.fm_base.specs.PathOrder.{channel_cmp, path_cmp}
use Rattle.fm_base.specs.Channels.{Chan, Look, Message, Pop, Push}
use Rattle.fm_base.specs.declared.path.ChanName.{ChanName}
use Rattle.fm_finmap.specs.Changes.{alters}
use Rattle.fm_finmap.proofs.Alters.{alter_here}
use Rattle.fm_finmap.proofs.Inserts.{insert_here, insert_there}
use Rattle.fm_finmap.proofs.Keys.{decide}
use Rattle.fm_sched.specs.Schedule.{IsLegal, Throughout, cost, next, play, used}
use Rattle.fm_sched.proofs.Runs.{cost-Some, next-Some, used-append}
use Rattle.fm_net.specs.Machine as net
use Rattle.fm_net.specs.Machine.{Place, State, Need, Nothing, New, Children, Reply, Onward, Ask, Stop, Go, made, need_changes, start_changes}
use Rattle.fm_net.specs.Typed.{CameFits, IsTyped, IsTypedAsk, IsTypedLanguage, SentFits}
use Rattle.fm_net.proofs.Keys.{path_order}
use Rattle.fm_net.proofs.Taken.{taken}
use Rattle.fm_net.proofs.Typed.{types_throughout}
use Rattle.fm_rules.specs.declared.program.Program.{Program}
use Rattle.fm_mean.specs.Names.{ProgramUnit, main_number, unit_at}
use Rattle.fm_mean.specs.Actions.{Fail, Make, Send, Receive, Probe, Begin, Join, End, Action, Rest, Own, Meets, action_of}
use Rattle.fm_mean.specs.Owed.{HaveShortMessages, IsQuiet, SizesAtMost, owed}
use Rattle.fm_mean.specs.Process.{Proc, emptied}
use Rattle.fm_mean.specs.Steps.{ask, first, first_proc, language, main_by, main_in, proc_of, step}
use Rattle.fm_mean.proofs.Lawful.{lawful}
use Rattle.fm_mean.proofs.Laws.{first_owned}
use Rattle.fm_mean.proofs.StepCosts.{paid_along, quiet_costs, short_along}
use Rattle.fm_cost_law.specs.Steps.{IsOutsideBlocks}
use Rattle.fm_cost_law.specs.Words.{HaveWords, ProcessHasWords, StateHasWords}
use Rattle.fm_cost_law.proofs.Cuts.{few_sizes}
use Rattle.fm_cost_law.proofs.Kept.{all_unset_words}
use Rattle.fm_cost_law.proofs.Walk.{CameWords, CostsFew, IsLoud, IsSmallStep, ProgramIsSmall, SendsWords, SmallAsk, step_small}

-- ---- words

-- channels have no types here
abbrev NoTypes : Type 0
NoTypes = ChanName → Prim.Unit {0}

abbrev WordsIn : NoTypes → Proc → Type 0
WordsIn types x = ProcessHasWords x

abbrev WordsAt : NoTypes → ChanName → Message → Type 0
WordsAt types c m = HaveWords m

module _ (p : Program) (small : ProgramIsSmall p) where
  sent_words : (types : NoTypes) (need : Need) → SendsWords need → SentFits (language p) WordsIn WordsAt types need
  sent_words types Nothing h = tt
  sent_words types (net.Event c (Push w m)) h = h
  sent_words types (net.Event c (Pop limits)) h = tt
  sent_words types (net.Event c Look) h = tt
  sent_words types (New n k) h = tt
  sent_words types (Children b n) h = tt

  came_words : (types : NoTypes) (need : Need) (m : Option Message) → CameFits (language p) WordsIn WordsAt types need m → CameWords need m
  came_words types Nothing m h = tt
  came_words types (net.Event c a) m h = h
  came_words types (New n k) m h = tt
  came_words types (Children b n) m h = tt

  asked_words : (x : Proc) (outside loud quiet : Type 0) (a : Ask Proc) → (ProcessHasWords x → SmallAsk x outside loud quiet a) → IsTypedAsk (language p) WordsIn WordsAt x a
  asked_words x outside loud quiet Stop h = tt
  asked_words x outside loud quiet (Go need f) h = record {
    type_made = tt;
    sends = λ types fine. sent_words types need (h fine).sends;
    goes_on = λ types fine c r made came kids. (h fine).goes_on c r (came_words types need r.message came) kids;
  }

  words_language : IsTypedLanguage (language p) WordsIn WordsAt
  words_language = record {
    goes = λ x. asked_words x (IsOutsideBlocks (action_of p x)) (IsLoud (action_of p x)) (IsQuiet (action_of p x)) (ask p x) (λ fine. step_small p x fine small);
    empties = λ types x fine. tt;
    agrees = λ types others x same fine. fine;
    message_agrees = λ types others c m at same fits. fits;
  }

  main_words : (o : Option ProgramUnit) (n : ℕ) → ProcessHasWords (proc_of (main_in n o))
  main_words None n = tt
  main_words (Some u) n = (record { values = all_unset_words u.names.variables; results = tt; starts = tt; few = omega arith }, tt)

  proc_words : (o : Option ℕ) → ProcessHasWords (proc_of (main_by p o))
  proc_words None = tt
  proc_words (Some n) = main_words (unit_at p n) n

  first_words : (q : Place) (x : Proc) → get (first p).procs q ≡ Some x → ProcessHasWords x
  first_words q x is = elim (decide path_order q []) [
    | yes e ↦ let same : first_proc p ≡ x = cc (sym (insert_here path_order finite.empty [] (first_proc p)) ∙ ap (get (first p).procs) (sym e) ∙ is) in subst (λ (x : Proc). ProcessHasWords x) same (proc_words (main_number p))
    | no n ↦ absurd (cc (sym (insert_there path_order finite.empty [] (first_proc p) q n ∙ get-empty path_cmp q) ∙ is))
  ]

  first_fits : IsTyped (language p) WordsIn WordsAt (first p)
  first_fits = ((λ c. tt), record { each = first_words; queues = λ c ch is. absurd (cc (sym (get-empty {X = Chan} channel_cmp c) ∙ is)) })

  pub words_along : Throughout (step p) StateHasWords (first p)
  words_along cs legal =
      let all = ((types_throughout (language p) WordsIn WordsAt words_language (lawful p) (first p) (first_owned p) first_fits) cs legal).1 in
      record { processes = all.each; messages = all.queues }

  -- ---- one step

  the_proc : (a b : Proc) → Some a ≡ Some b → a ≡ b
  the_proc a b e = cc

  -- the process that steps goes on so
  record Steps (s : State Proc) (q : Place) (t : State Proc × ℕ) (x : Proc) : Type 0 where
    after : Onward Proc
    there : get t.0.procs q ≡ Some after.self
    price : after.cost ≡ t.1
    costs : IsOutsideBlocks (action_of p x) → CostsFew x (IsQuiet (action_of p x)) after
    owes : IsLoud (action_of p x) → (after.cost ≤ 2147483647) × (owed after.self ≤ owed x)

  stepped : (s : State Proc) (q : Place) (t : State Proc × ℕ) (x : Proc) → StateHasWords s → step p s q ≡ Some t → get s.procs q ≡ Some x → Steps s q t x
  stepped s q t x words is there =
      let k = taken (language p) s q t is in
      let b = k.start in
      let o = b.goes (made q b.need) b.reply in
      let rest = alters (start_changes q o.block 1 o.starts ++ need_changes emptied q b.need) s.procs in
      let same : b.self ≡ x = the_proc b.self x (sym b.is ∙ there) in
      let asks : ask p x ≡ Go b.need b.goes = ap (ask p) (sym same) ∙ b.asks in
      let good : IsSmallStep x (IsOutsideBlocks (action_of p x)) (IsLoud (action_of p x)) (IsQuiet (action_of p x)) b.need b.goes =
      subst (SmallAsk x (IsOutsideBlocks (action_of p x)) (IsLoud (action_of p x)) (IsQuiet (action_of p x))) asks (step_small p x (words.processes q x there) small) in
      record {
        after = o;
        there = sym (ap (λ (t : State Proc × ℕ). get t.0.procs q) k.there) ∙ alter_here path_order rest q (λ v. Some o.self);
        price = ap (λ (t : State Proc × ℕ). t.1) k.there;
        costs = λ h. good.costs h (made q b.need) b.reply;
        owes = λ h. good.owes h (made q b.need) b.reply;
      }

  quiet_or_loud : (a : Action) → IsQuiet a ⊎ IsLoud a
  quiet_or_loud Rest = inl tt
  quiet_or_loud (Own after [] drops cost) = inl tt
  quiet_or_loud (Own after (l ∷ ls) drops cost) = inr tt
  quiet_or_loud (Meets (Fail line fault)) = inl tt
  quiet_or_loud (Meets (Make places writers cost next)) = inr tt
  quiet_or_loud (Meets (Send channel writer items next)) = inl tt
  quiet_or_loud (Meets (Receive channel line items iostat at_end next)) = inl tt
  quiet_or_loud (Meets (Probe channel place next)) = inl tt
  quiet_or_loud (Meets Begin) = inl tt
  quiet_or_loud (Meets (Join block kids next)) = inl tt
  quiet_or_loud (Meets End) = inl tt

  -- each SEND has few sized fields
  abbrev sizes : ℕ
  sizes = 1322

  few_fields : SizesAtMost sizes p
  few_fields = few_sizes p small.entries

  -- a step with what its process owes then
  step_paid : (s : State Proc) (q : Place) (t : State Proc × ℕ) (x y : Proc) → StateHasWords s → HaveShortMessages sizes s → step p s q ≡ Some t → get s.procs q ≡ Some x → get t.0.procs q ≡ Some y → t.1 + owed y ≤ 2147483647 + owed x
  step_paid s q t x y words short is there after = go (quiet_or_loud (action_of p x))
    where
      go : IsQuiet (action_of p x) ⊎ IsLoud (action_of p x) → t.1 + owed y ≤ 2147483647 + owed x
      go (inl quiet) = let few = quiet_costs p sizes few_fields s q t x y short is there after quiet in omega (arith, few)
      go (inr loud) =
          let k = stepped s q t x words is there in
          let h = k.owes loud in
          let left : k.after.self ≡ y = the_proc k.after.self y (sym k.there ∙ after) in
          omega (arith, h.0, h.1, k.price, ap owed left)

  step_few : (s : State Proc) (q : Place) (t : State Proc × ℕ) (x : Proc) → StateHasWords s → HaveShortMessages sizes s → step p s q ≡ Some t → get s.procs q ≡ Some x → IsOutsideBlocks (action_of p x) → t.1 ≤ 2147483647
  step_few s q t x words short is there outside = go k (k.costs outside)
    where
      k : Steps s q t x
      k = stepped s q t x words is there

      go : (k : Steps s q t x) → CostsFew x (IsQuiet (action_of p x)) k.after → t.1 ≤ 2147483647
      go k (inl few) = omega (arith, few, k.price)
      go k (inr h) = let few = quiet_costs p sizes few_fields s q t x k.after.self short is there k.there h.0 in omega (arith, few, h.1)

  -- ---- along a schedule

  pub outside_costs : (cs : List Place) → IsLegal (step p) (first p) cs → (q : Place) (t : State Proc × ℕ) (x : Proc) → step p (play (step p) (first p) cs) q ≡ Some t → get (play (step p) (first p) cs).procs q ≡ Some x
      → IsOutsideBlocks (action_of p x) → t.1 < 2147483648
  outside_costs cs legal q t x is there outside = let few = step_few (play (step p) (first p) cs) q t x (words_along cs legal) (short_along sizes p few_fields cs legal) is there outside in omega (arith, few)

  pub any_costs : (cs : List Place) → IsLegal (step p) (first p) cs → (q : Place) (t : State Proc × ℕ) (x y : Proc) → step p (play (step p) (first p) cs) q ≡ Some t → get (play (step p) (first p) cs).procs q ≡ Some x → get t.0.procs q ≡ Some y
      → t.1 + owed y < 2147483648 + owed x
  any_costs cs legal q t x y is there after = let few = step_paid (play (step p) (first p) cs) q t x y (words_along cs legal) (short_along sizes p few_fields cs legal) is there after in omega (arith, few)

  paid_steps : (q : Place) (n : ℕ) (s : State Proc) (x : Proc) → Throughout (step p) StateHasWords s → Throughout (step p) (HaveShortMessages sizes) s → get s.procs q ≡ Some x → IsLegal (step p) s (replicate n q)
      → used (step p) s (replicate n q) ≤ 2147483647 * n + owed x
  paid_steps q zero s x words short there legal = omega arith
  paid_steps q (suc n) s x words short there legal =
      let t = legal.0.0 in
      let is = legal.0.1 in
      let k = stepped s q t x (words [] tt) is there in
      let few : t.1 + owed k.after.self ≤ 2147483647 + owed x = step_paid s q t x k.after.self (words [] tt) (short [] tt) is there k.there in
      let on : next (step p) s q ≡ t.0 = next-Some (step p) s q t is in
      let price : cost (step p) s q ≡ t.1 = cost-Some (step p) s q t is in
      let stays : get (next (step p) s q).procs q ≡ Some k.after.self = ap (λ (u : State Proc). get u.procs q) on ∙ k.there in
      let rest = paid_steps q n (next (step p) s q) k.after.self (λ cs more. words (q ∷ cs) (legal.0, more)) (λ cs more. short (q ∷ cs) (legal.0, more)) stays legal.1 in
      omega (arith, few, price, rest)

  -- what holds along every schedule holds along those that go on behind one
  later : (Fact : State Proc → Type 0) (cs : List Place) (s : State Proc) → Throughout (step p) Fact s → IsLegal (step p) s cs → Throughout (step p) Fact (play (step p) s cs)
  later Fact [] s all legal = all
  later Fact (c ∷ cs) s all legal = later Fact cs (next (step p) s c) (λ ds more. all (c ∷ ds) (legal.0, more)) legal.1

  pub entry_costs : (cs : List Place) → IsLegal (step p) (first p) cs → (q : Place) (n : ℕ) → IsLegal (step p) (play (step p) (first p) cs) (replicate n q)
      → used (step p) (play (step p) (first p) cs) (replicate n q) ≤ 2147483647 * n + used (step p) (first p) cs
  entry_costs cs legal q zero more = omega arith
  entry_costs cs legal q (suc n) more =
      let s = play (step p) (first p) cs in
      let t = more.0.0 in
      let k = taken (language p) s q t more.0.1 in
      let all = paid_steps q (suc n) s k.start.self (later StateHasWords cs (first p) words_along legal) (later (HaveShortMessages sizes) cs (first p) (short_along sizes p few_fields) legal) k.start.is more in
      let owes = paid_along p cs legal q k.start.self k.start.is in
      omega (arith, all, owes)

  pub entry_fits : (cs : List Place) → IsLegal (step p) (first p) cs → (q : Place) (n : ℕ) → IsLegal (step p) (play (step p) (first p) cs) (replicate n q) → used (step p) (first p) cs ≤ 1000000000 → n < 4294967296
      → used (step p) (first p) (cs ++ replicate n q) < 18446744073709551616
  entry_fits cs legal q n more within few =
      let last = entry_costs cs legal q n more in
      let both = used-append (step p) (first p) cs (replicate n q) in
      omega (arith, last, both, within, few)

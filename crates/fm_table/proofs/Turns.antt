-- What an entry, a turn and a piece that is given come to.
use Rattle.std.proofs.Common.{◌≡◌, ◌⊎◌, inl, inr, ℕ, zero, suc, ◌<◌, ◌≤◌, Bool, true, false, cond, not, ◌==◌, List, [], ◌∷◌, ◌++◌, replicate, refl, sym, ap, ◌∙◌, subst, arith, eqb-true}
use Rattle.std.specs.Prelude.{Option, None, Some, is_some, slice_get}
use Rattle.std.proofs.lemmas.Bool.{ne_eqb}
use Rattle.std.proofs.lemmas.List.{map-append}
use Rattle.std.proofs.lemmas.Option.{get_or_from_slice_get}
use Rattle.fm_base.specs.declared.schedule.Setup.{Setup}
use Rattle.fm_base.specs.declared.schedule.Turn.{Turn}
use Rattle.fm_sched.specs.Schedule.{IsLegal}
use Rattle.fm_net.specs.Machine.{Place}
use Rattle.fm_code.specs.declared.body.Body.{Body}
use Rattle.fm_machine.specs.declared.done.Done.{Done}
use Rattle.fm_rules.specs.declared.program.Program.{Program}
use Rattle.fm_mean.specs.Steps.{step}
use Rattle.fm_run.specs.Entries.{turn_of}
use Rattle.fm_run.specs.Orders.{Among, AreMarked, EachOnce, chosen, others_in}
use Rattle.fm_run.specs.Programs.{IsFrontWithin, can_at, can_in}
use Rattle.fm_run.specs.Runs.{place_of}
use Rattle.fm_run.specs.declared.player.Player.{Player}
use Rattle.fm_run.proofs.Numbers.{among_either, among_filter, among_get, among_is, among_left, among_right, filter_among, in_filter, is_among_from, not_own, once_append, once_filter}
use Rattle.fm_table.specs.Giving.{GivesTo, taken}
use Rattle.fm_table.specs.Inside.{Compiled, EntersTo, HasEntered, HasMade, IsAsItWas, IsGivenSo, IsStanding, IsTable, MakesSo, stand_kept, told_in}
use Rattle.fm_table.specs.Told.{HaveStarts, IsBodyOf, IsKept, Out, Told, cost_of, is_out, led_by, numbers_out, ready_in, ready_of, stand_of, stand_with, start_in, with_entry, without}
use Rattle.fm_table.specs.Turning.{TurnsInside, TurnsTo}
use Rattle.fm_table.specs.declared.making.Way.{Way}
use Rattle.fm_table.specs.declared.making.Way.TheVariants as way
use Rattle.fm_table.specs.declared.shares.Shares.{Shares}
use Rattle.fm_table.specs.declared.standing.Standing.{Standing}
use Rattle.fm_table.proofs.Bodies.{one_less, one_more}
use Rattle.fm_table.proofs.Others.{told_entered}
use Rattle.fm_table.proofs.Outs.{numbers_without, ready_free, ready_queued, start_out}
use Rattle.fm_table.proofs.Sharing.{none_known}
use Rattle.fm_table.proofs.Standings.{requeued}
use Rattle.fm_table.proofs.Tables.{some_steps, told_same}
use native.Mathlib.Decide.{ℕ_discrete}

-- an entry, as it is told
pub enters : (program : Program) (setup : Setup) (old new : Standing) (out later : List Out) (w : Way) (n k : ℕ) → IsStanding program old → IsStanding program new → HasEntered program (turn_of n k) old new → MakesSo w program (stand_kept program old) (stand_kept program new) n k → later ≡ without n out
    → EntersTo w n k (told_in program setup old out) (told_in program setup new later)
enters program setup old new out later w n k s s' h so gone = record {
  known = h.known;
  can = h.entry.can;
  so = so;
  used = subst (λ (m : ℕ). m < cost_of (told_in program setup new later)) s.paid_is (subst (λ (m : ℕ). old.used < m) s'.paid_is h.used);
  told = ap (told_in program setup new) gone ∙ told_entered program old new s (turn_of n k) h setup out;
}

-- who can step makes a step
pub some_made : (a : Told) → IsKept a → (n k : ℕ) → Among n a.queue → (k ≡ 0 → can_at a.program (stand_of a).state (stand_of a).places n ≡ false) → 1 ≤ k
some_made a kept n zero h none = absurd (cc (sym (kept.able.within n h) ∙ none refl))
some_made a kept n (suc k) h none = omega arith

-- who is chosen among those that are ready is in the queue
pub chosen_queued : (a : Told) (choice n : ℕ) → chosen (Some choice) (ready_of a) ≡ Some n → Among n a.queue
chosen_queued a choice n who = ready_queued a.out a.queue n (among_get (ready_of a) _ n who)

pub turn_made : (a b : Told) (choice n k : ℕ) (w : Way) → cost_of a ≤ a.setup.turns → chosen (Some choice) (ready_of a) ≡ Some n → w ≡ way.Slice a.setup.slice → EntersTo w n k a b → TurnsTo choice a b
turn_made a b choice n k w going who is h = record {
  going = going;
  entry = turn_of n k;
  who = who;
  full = subst (λ (v : Way). MakesSo v a.program (stand_of a) (stand_of b) n k) is h.so;
  told = h.told;
}

-- who makes steps could step
pub queued_made : (a b : Told) → IsKept a → (n k : ℕ) (w : Way) → 1 ≤ k → EntersTo w n k a b → Among n a.queue
queued_made a b kept n k w some h = kept.able.whole n (go (slice_get (stand_of a).places n) refl h.known)
  where
    first : (q : Place) (m : ℕ) → 1 ≤ m → IsLegal (step a.program) (stand_of a).state (replicate m q) → is_some (step a.program (stand_of a).state q) ≡ true
    first q zero some legal = absurd (omega (arith, some))
    first q (suc m) some legal = ap is_some legal.0.1

    go : (o : Option Place) → slice_get (stand_of a).places n ≡ o → is_some o ≡ true → can_at a.program (stand_of a).state (stand_of a).places n ≡ true
    go None e known = absurd (cc known)
    go (Some q) e known =
        let own : place_of (stand_of a).places (turn_of n k) ≡ q = get_or_from_slice_get (stand_of a).places n q [] e in
        ap (can_in a.program (stand_of a).state) e ∙ first q k some (subst (λ (p : Place). IsLegal (step a.program) (stand_of a).state (replicate k p)) own h.can)

-- and was ready, if it wasn't out
pub ready_made : (a b : Told) → IsKept a → (n k : ℕ) (w : Way) → is_out a.out n ≡ false → 1 ≤ k → EntersTo w n k a b → Among n (ready_of a)
ready_made a b kept n k w inside some h = among_filter (λ m. not (is_out a.out m)) a.queue n (queued_made a b kept n k w some h) (ap not inside)

pub turn_inside : (a b : Told) (n k slice : ℕ) → cost_of a ≤ a.setup.turns → Among n (ready_of a) → a.setup.slice ≤ slice → EntersTo (way.Slice slice) n k a b → TurnsInside a b
turn_inside a b n k slice going who long h = record {
  going = going;
  entry = turn_of n k;
  who = who;
  slice = slice;
  long = long;
  full = h.so;
  told = h.told;
}

-- who is out and was taken with a body is in the queue
pub given_queued : (a : Told) → IsKept a → (d : Done) → start_in a.out d.process ≡ Some d.start.value → Among d.process a.queue
given_queued a kept d own = kept.out_able d.process (start_out a.out d.process d.start.value own)

pub gives_to : (a b : Told) (d : Done) (k : ℕ) → start_in a.out d.process ≡ Some d.start.value → 1 ≤ k → IsGivenSo a.program d (stand_of a) d.process k → b ≡ with_entry a (turn_of d.process k) → GivesTo d a b
gives_to a b d k own some so told = record {
  own = own;
  entry = turn_of d.process k;
  number_is = refl;
  steps_are = so.0;
  some_steps = some;
  full = so.1;
  told = told;
}

-- all steps of an entry were made
pub whole_entry : (program : Program) (t : Turn) (old new : Player Compiled) (done : ℕ) → 1 ≤ t.steps → done ≡ t.steps → (1 ≤ done → HasMade program (turn_of t.number done) old new) → new.net.history ≡ old.net.history ++ t ∷ []
whole_entry program t old new done some all made =
    let h = made (omega (arith, some, all)) in
    h.entry.history_is ∙ ap (λ (n : ℕ). old.net.history ++ turn_of t.number n ∷ []) all

pub some_ne : (n : ℕ) → (n ≡ 0 → ⊥) → 1 ≤ n
some_ne zero h = absurd (h refl)
some_ne (suc n) h = omega arith

pub zero_of : (n : ℕ) → not (n == 0) ≡ false → n ≡ 0
zero_of n e = eqb-true n 0 (is (n == 0) e)
  where
    is : (b : Bool) → not b ≡ false → b ≡ true
    is true e = refl
    is false e = absurd (cc e)

pub some_of : (n : ℕ) → not (n == 0) ≡ true → 1 ≤ n
some_of n e = some_steps n (isnt (n == 0) e)
  where
    isnt : (b : Bool) → not b ≡ true → b ≡ false
    isnt true e = absurd (cc e)
    isnt false e = refl

-- ---- who is taken, and who is put back

-- one that is ready is out
pub table_taken : (program : Program) (setup : Setup) (s : Standing) (out : List Out) (shares : Shares) (n : ℕ) (b : Body) → IsTable program setup s out shares → Among n (ready_in out s.player.able.numbers.items) → IsBodyOf program (stand_kept program s) n b → IsTable program setup s (out ++ record { number = n; start = b } ∷ []) shares
table_taken program setup s out shares n b t ready own = record {
  standing = t.standing;
  front = t.front;
  out_able = λ m h. able (among_either m (numbers_out out) (n ∷ []) (subst (λ (ns : List ℕ). Among m ns) numbers h));
  out_once = subst EachOnce (sym numbers) (once_append (numbers_out out) (n ∷ []) t.out_once ((λ h. h), tt) apart);
  out_start = one_more program (stand_kept program s) out (record { number = n; start = b }) t.out_start own;
  shared = t.shared;
}
  where
    numbers : numbers_out (out ++ record { number = n; start = b } ∷ []) ≡ numbers_out out ++ n ∷ []
    numbers = map-append (λ (o : Out). o.number) out (record { number = n; start = b } ∷ [])

    able : {m : ℕ} → Among m (numbers_out out) ⊎ Among m (n ∷ []) → Among m s.player.able.numbers.items
    able {m} (inl h) = t.out_able m h
    able (inr (inl e)) = subst (λ (k : ℕ). Among k s.player.able.numbers.items) (sym e) (ready_queued out s.player.able.numbers.items n ready)
    able (inr (inr h)) = absurd h

    apart : (m : ℕ) → Among m (numbers_out out) → Among m (n ∷ []) → ⊥
    apart m h (inl e) = cc (sym (is_among_from (numbers_out out) n (subst (λ (k : ℕ). Among k (numbers_out out)) e h)) ∙ ready_free out s.player.able.numbers.items n ready)
    apart m h (inr k) = k

-- what is told then
pub told_taken : (program : Program) (setup : Setup) (old new : Standing) (out later : List Out) (n : ℕ) (b : Body) (a : Told) → told_in program setup old out ≡ a → IsAsItWas old new → later ≡ out ++ record { number = n; start = b } ∷ [] → told_in program setup new later ≡ taken n b a
told_taken program setup old new out later n b a view same is =
    ap (told_in program setup new) is ∙ told_same program setup old new (out ++ record { number = n; start = b } ∷ []) same ∙ ap (taken n b) view

-- whose turn it is doesn't matter to the bodies
have_moved : (program : Program) (old new : Standing) (out : List Out) → new.player.net.history ≡ old.player.net.history → HaveStarts program (stand_kept program old) out → HaveStarts program (stand_kept program new) out
have_moved program old new out history have =
    subst (λ (ts : List Turn). HaveStarts program (stand_with program ts new.player.able.numbers.items) out) (sym history) (same out have)
  where
    same : (os : List Out) → HaveStarts program (stand_kept program old) os → HaveStarts program (stand_with program old.player.net.history new.player.able.numbers.items) os
    same [] h = tt
    same (o ∷ os) h = (h.0, same os h.1)

-- one that was out is ready again
pub table_back : (program : Program) (setup : Setup) (old new : Standing) (out later : List Out) (shares last : Shares) (n : ℕ) → last.nodes ≡ shares.nodes → last.lists ≡ None → IsTable program setup old out shares → new.player.net ≡ old.player.net → new.player.parents ≡ old.player.parents → new.player.used ≡ old.player.used → new.is_live ≡ old.is_live → new.paths ≡ old.paths → new.used ≡ old.used → new.is_ready ≡ old.is_ready
    → (b : Bool) → is_out out n ≡ b → new.player.able.numbers.items ≡ cond b (others_in n old.player.able.numbers.items ++ n ∷ []) old.player.able.numbers.items → later ≡ cond b (without n out) out
    → ((count : ℕ) → AreMarked count old.player.able.marks.items old.player.able.numbers.items → AreMarked count new.player.able.marks.items new.player.able.numbers.items) → IsTable program setup new later last
table_back program setup old new out later shares last n nodes none t net parents paid live paths used ready false free queue is marks = record {
  standing =
      requeued program old new t.standing net parents paid live paths used ready (λ m h. subst (λ (ns : List ℕ). Among m ns) (sym queue) h) (λ m h. subst (λ (ns : List ℕ). Among m ns) queue h)
      (subst EachOnce (sym queue) t.standing.able.once) marks;
  front = subst (λ (ts : List Turn). IsFrontWithin program setup.turns ts (led_by program ts).places) (sym (ap (λ k. k.history) net)) t.front;
  out_able = λ m h. subst (λ (ns : List ℕ). Among m ns) (sym queue) (t.out_able m (subst (λ (os : List Out). Among m (numbers_out os)) is h));
  out_once = subst (λ (os : List Out). EachOnce (numbers_out os)) (sym is) t.out_once;
  out_start = have_moved program old new later (ap (λ k. k.history) net) (subst (HaveStarts program (stand_kept program old)) (sym is) t.out_start);
  shared = none_known program setup (stand_kept program new) last (nodes ∙ t.shared.nodes_are) none;
}
table_back program setup old new out later shares last n nodes none t net parents paid live paths used ready true busy queue is marks =
    let ns = old.player.able.numbers.items in
    let there : Among n ns = t.out_able n (among_is (numbers_out out) n busy) in
    record {
      standing =
          requeued program old new t.standing net parents paid live paths used ready (λ m h. subst (λ (ks : List ℕ). Among m ks) (sym queue) (moved ns m h))
          (λ m h. stayed ns there m (among_either m (others_in n ns) (n ∷ []) (subst (λ (ks : List ℕ). Among m ks) queue h)))
          (subst EachOnce (sym queue) (once_append (others_in n ns) (n ∷ []) (once_filter (λ k. not (k == n)) ns t.standing.able.once) ((λ h. h), tt) (gone ns))) marks;
      front = subst (λ (ts : List Turn). IsFrontWithin program setup.turns ts (led_by program ts).places) (sym (ap (λ k. k.history) net)) t.front;
      out_able = λ m h. subst (λ (ks : List ℕ). Among m ks) (sym queue) (moved ns m (t.out_able m (in_filter (λ k. not (k == n)) (numbers_out out) m (subst (λ (ks : List ℕ). Among m ks) (numbers_without n out) (subst (λ (os : List Out). Among m (numbers_out os)) is h)))));
      out_once = subst (λ (os : List Out). EachOnce (numbers_out os)) (sym is) (subst EachOnce (sym (numbers_without n out)) (once_filter (λ k. not (k == n)) (numbers_out out) t.out_once));
      out_start = have_moved program old new later (ap (λ k. k.history) net) (subst (HaveStarts program (stand_kept program old)) (sym is) (one_less program (stand_kept program old) n out t.out_start));
      shared = none_known program setup (stand_kept program new) last (nodes ∙ t.shared.nodes_are) none;
    }
  where
    moved : (ks : List ℕ) (m : ℕ) → Among m ks → Among m (others_in n ks ++ n ∷ [])
    moved ks m h = elim (ℕ_discrete m n) [
      | yes e ↦ among_right m (others_in n ks) (n ∷ []) (inl e)
      | no d ↦ among_left m (others_in n ks) (n ∷ []) (among_filter (λ k. not (k == n)) ks m h (ap not (ne_eqb m n d)))
    ]

    stayed : (ks : List ℕ) → Among n ks → (m : ℕ) → Among m (others_in n ks) ⊎ Among m (n ∷ []) → Among m ks
    stayed ks there m (inl h) = in_filter (λ k. not (k == n)) ks m h
    stayed ks there m (inr (inl e)) = subst (λ (k : ℕ). Among k ks) (sym e) there
    stayed ks there m (inr (inr h)) = absurd h

    gone : (ks : List ℕ) (m : ℕ) → Among m (others_in n ks) → Among m (n ∷ []) → ⊥
    gone ks m h (inl e) = cc (sym (filter_among (λ k. not (k == n)) ks m h) ∙ ap (λ (k : ℕ). not (k == n)) e ∙ not_own n)
    gone ks m h (inr k) = k

-- Who became able by a piece of a run, and who is noted then.
use Rattle.std.proofs.Common.{◌≡◌, ◌≢◌, ◌⊎◌, inl, inr, ℕ, zero, suc, ◌+◌, ◌<◌, ◌≤◌, Bool, true, false, not, ◌==◌, eq-eqb, Option, Some, None, List, [], ◌∷◌, ◌++◌, length, replicate, refl, sym, ap, ◌∙◌, arith}
use Rattle.std.specs.Prelude.{is_some, Contains, slice_get}
use Rattle.std.proofs.lemmas.Option.{slice_get_within}
use Rattle.std.specs.FinMap.{get}
use Rattle.fm_chan.specs.declared.channels.Channels.{Channels}
use Rattle.fm_chan.specs.Bodies.{chans_of}
use Rattle.fm_chan.specs.Woken.{WakesAll, woken_of}
use Rattle.fm_base.specs.declared.schedule.Turn.{Turn}
use Rattle.fm_sched.specs.Schedule.{IsLegal, play}
use Rattle.fm_net.specs.Machine.{Place, State, child}
use Rattle.fm_net.specs.Owned.{IsOwned}
use Rattle.fm_net.specs.Starts.{child_places}
use Rattle.fm_net.proofs.Children.{pair_snoc}
use Rattle.fm_net.proofs.Histories.{longer_at}
use Rattle.fm_net.proofs.Orders.{all_stand, child_among, one_number_each, place_among}
use Rattle.fm_run.specs.Noted.{AreNoted, AreNotedBut, AreParents, IsNoted}
use Rattle.fm_run.specs.Orders.{Among, can_at, can_in, is_among, is_new, newly, others_in}
use Rattle.fm_run.specs.Runs.{AreAble, IsPlayedBy}
use Rattle.fm_run.proofs.Noting.{IsLastChild, can_still, noted_still, who_became_able}
use Rattle.fm_run.proofs.Others.{Stands}
use Rattle.fm_run.proofs.Numbers.{filter_among, in_filter, is_among_from}
use Rattle.fm_run.proofs.Queueing.{and_left, and_right, not_true}
use native.Mathlib.Decide.{ℕ_discrete}
use Rattle.fm_run.specs.Plays.{IsLawfulPlay, Play, language, step, first_proc, ended_at}

-- ---- numbers and places

-- who stands before the end of a list stands there in a longer one
within_front : {X : Type 0} (xs ys : List X) (n : ℕ) (x : X) → n < length xs → slice_get (xs ++ ys) n ≡ Some x → slice_get xs n ≡ Some x
within_front [] ys n x low is = absurd (omega arith)
within_front (y ∷ xs) ys zero x low is = is
within_front (y ∷ xs) ys (suc n) x low is = within_front xs ys n x (omega arith) is

-- who stands behind a list stands in what was added
behind_front : {X : Type 0} (xs ys : List X) (n : ℕ) (x : X) → length xs ≤ n → slice_get (xs ++ ys) n ≡ Some x → (k : ℕ) × (n ≡ length xs + k) × (slice_get ys k ≡ Some x)
behind_front [] ys n x high is = (n, omega arith, is)
behind_front (y ∷ xs) ys zero x high is = absurd (omega arith)
behind_front (y ∷ xs) ys (suc n) x high is = let k = behind_front xs ys n x (omega arith) is in (k.0, omega (arith, k.1), k.2)

module _ (program : Play) (hs : List Turn) (places : List Place) (s : State program.Proc) (paid : ℕ) (kept : IsPlayedBy program hs places s paid) where
  -- no process has two numbers
  pub one_number : IsLawfulPlay program → (n m : ℕ) (q : Place) → slice_get places n ≡ Some q → slice_get places m ≡ Some q → n ≡ m
  one_number law n m q e f =
      one_number_each (language program) law.lawful (first_proc program) law.free kept.choices kept.legal n m q (ap (λ ps. slice_get ps n) (sym kept.places_are) ∙ e) (ap (λ ps. slice_get ps m) (sym kept.places_are) ∙ f)

  -- who has a number is there
  pub all_there : (n : ℕ) (q : Place) → slice_get places n ≡ Some q → Stands program s.procs q
  all_there n q e =
      let y = all_stand (language program) (first_proc program) kept.choices kept.legal n q (ap (λ ps. slice_get ps n) (sym kept.places_are) ∙ e) in
      (y.0, ap (λ (u : State program.Proc). get u.procs q) (sym kept.there) ∙ y.1)

-- ---- by one piece

module _ (program : Play) (law : IsLawfulPlay program) (s t : State program.Proc) (places : List Place) (own : ℕ) (p : Place) (at : slice_get places own ≡ Some p) (steps : ℕ) (owned : IsOwned (language program) s) (legal : IsLegal (step program) s (replicate steps p))
    (there : play (step program) s (replicate steps p) ≡ t) (old new : Channels) (of_old : chans_of old ≡ s.chans) (of_new : chans_of new ≡ t.chans) (waking : WakesAll old new)
    (unique : (n m : ℕ) (q : Place) → slice_get places n ≡ Some q → slice_get places m ≡ Some q → n ≡ m) (stand : (n : ℕ) (q : Place) → slice_get places n ≡ Some q → Stands program s.procs q) (noted : AreNoted program s old places) where
  pub apart : (n : ℕ) (q : Place) → n ≢ own → slice_get places n ≡ Some q → q ≢ p
  apart n q differs is e = differs (unique n own q is (at ∙ ap Some (sym e)))

  -- who could step before can step
  pub others_still : (n : ℕ) (q : Place) → n ≢ own → slice_get places n ≡ Some q → is_some (step program s q) ≡ true → is_some (step program t q) ≡ true
  others_still n q differs is can = can_still program law s t p steps owned legal there q (apart n q differs is) can

  was_noted : (n : ℕ) (q : Place) → slice_get places n ≡ Some q → (x : program.Proc) → get s.procs q ≡ Some x → is_some (step program s q) ≡ false → IsNoted program old n x
  was_noted n q is x here unable = elim (noted n q x is here unable) [ inl none ↦ absurd none | inr k ↦ k ]

  -- who couldn't step and can was woken, or the one that made the piece was the last of its children
  pub became_able : (n : ℕ) (q : Place) (differs : n ≢ own) (is : slice_get places n ≡ Some q) → is_some (step program s q) ≡ false → is_some (step program t q) ≡ true
      → Contains (woken_of new) n ⊎ IsLastChild program law s t p steps owned legal there q (apart n q differs is)
  became_able n q differs is unable can =
      let x = stand n q is in
      who_became_able program law s t p steps owned legal there q (apart n q differs is) x.0 x.1 unable old new of_old of_new waking n (was_noted n q is x.0 x.1 unable) can

  -- who can't step is noted still, but for the one that made the piece and those that it started
  pub noted_after : (more : List Place) → AreNotedBut program t new (places ++ more) (λ n. (n ≡ own) ⊎ (length places ≤ n))
  noted_after more n q y is here unable = go (low_or_high n (length places))
    where
      low_or_high : (a b : ℕ) → (a < b) ⊎ (b ≤ a)
      low_or_high a b = grind arith

      still : n ≢ own → slice_get places n ≡ Some q → (b : Bool) → is_some (step program s q) ≡ b → IsNoted program new n y
      still differs at_n true can = absurd (cc (sym unable ∙ others_still n q differs at_n can))
      still differs at_n false un =
          let x = stand n q at_n in
          noted_still program law s t p steps owned legal there q (apart n q differs at_n) x.0 x.1 un old new of_old of_new waking n (was_noted n q at_n x.0 x.1 un) y here

      go : (n < length places) ⊎ (length places ≤ n) → ((n ≡ own) ⊎ (length places ≤ n)) ⊎ IsNoted program new n y
      go (inr high) = inl (inr high)
      go (inl low) = elim (ℕ_discrete n own) [
        | yes same ↦ inl (inl same)
        | no differs ↦ inr (still differs (within_front places more n q low is) (is_some (step program s q)) refl)
      ]

  module _ (more : List Place) (parents : List ℕ) (started_by : AreParents (places ++ more) parents) (unique_later : (n m : ℕ) (q : Place) → slice_get (places ++ more) n ≡ Some q → slice_get (places ++ more) m ≡ Some q → n ≡ m) where
    -- it is the one that started it
    parent_is : (n : ℕ) (q : Place) (differs : n ≢ own) (is : slice_get places n ≡ Some q) → IsLastChild program law s t p steps owned legal there q (apart n q differs is) → slice_get parents own ≡ Some n
    parent_is n q differs is last =
        let m = started_by own q last.block last.index (longer_at places more own p at ∙ ap Some last.is_child) in
        m.1 ∙ ap Some (unique_later m.0 n q m.2 (longer_at places more n q is))

    module _ (able : List ℕ) (exact : AreAble program s places able) (candidates : List ℕ)
        (woken_in : (n : ℕ) → Contains (woken_of new) n → Contains candidates n)
        (parent_in : (ended_at program) (get t.procs p) ≡ true → (n : ℕ) → slice_get parents own ≡ Some n → can_at program t (places ++ more) n ≡ true → Contains candidates n)
        (new_in : (n : ℕ) → length places ≤ n → n < length (places ++ more) → Contains candidates n) where
      -- who became able is among the candidates
      pub all_candidates : (n : ℕ) → newly (can_at program t (places ++ more)) own able n ≡ true → Contains candidates n
      all_candidates n new_n = found (slice_get (places ++ more) n) refl (and_right (is_new own able n) (can_at program t (places ++ more) n) new_n)
        where
          fresh : is_new own able n ≡ true
          fresh = and_left (is_new own able n) (can_at program t (places ++ more) n) new_n

          differs : n ≢ own
          differs e = cc (sym (and_left (not (n == own)) (not (is_among able n)) fresh) ∙ ap not (eq-eqb n own e))

          not_able : Among n able → ⊥
          not_able h = cc (sym (and_right (not (n == own)) (not (is_among able n)) fresh) ∙ ap not (is_among_from able n h))

          low_or_high : (a b : ℕ) → (a < b) ⊎ (b ≤ a)
          low_or_high a b = grind arith

          told : (q : Place) (is : slice_get places n ≡ Some q) → Contains (woken_of new) n ⊎ IsLastChild program law s t p steps owned legal there q (apart n q differs is) → Contains candidates n
          told q is (inl woken) = woken_in n woken
          told q is (inr last) = parent_in last.ended n (parent_is n q differs is last) (and_right (is_new own able n) (can_at program t (places ++ more) n) new_n)

          old_one : (q : Place) (is : slice_get places n ≡ Some q) → is_some (step program t q) ≡ true → Contains candidates n
          old_one q is can = told q is (became_able n q differs is (not_true (is_some (step program s q)) (λ could. not_able (exact.whole n (ap (can_in program s) is ∙ could)))) can)

          found : (o : Option Place) → slice_get (places ++ more) n ≡ o → can_in program t (slice_get (places ++ more) n) ≡ true → Contains candidates n
          found None e can = absurd (cc (sym (ap (can_in program t) e) ∙ can))
          found (Some q) e can = elim (low_or_high n (length places)) [
            | inr high ↦ new_in n high (slice_get_within (places ++ more) n q e)
            | inl low ↦ old_one q (within_front places more n q low e) (sym (ap (can_in program t) e) ∙ can)
          ]

  -- each of the others can step still
  pub others_can : (able : List ℕ) → AreAble program s places able → (more : List Place) → (n : ℕ) → Among n (others_in own able) → can_at program t (places ++ more) n ≡ true
  others_can able exact more n h = found (slice_get places n) refl (exact.within n (in_filter (λ m. not (m == own)) able n h))
    where
      differs : n ≢ own
      differs e = cc (sym (filter_among (λ m. not (m == own)) able n h) ∙ ap not (eq-eqb n own e))

      found : (o : Option Place) → slice_get places n ≡ o → can_in program s (slice_get places n) ≡ true → can_at program t (places ++ more) n ≡ true
      found None e can = absurd (cc (sym (ap (can_in program s) e) ∙ can))
      found (Some q) e can = ap (can_in program t) (longer_at places more n q e) ∙ others_still n q differs e (sym (ap (can_in program s) e) ∙ can)

-- ---- before the first piece

-- main alone is there: it is noted, so all are
pub main_noted : (program : Play) (s : State program.Proc) (places : List Place) (channels : Channels) → places ≡ [] ∷ []
    → ((q : Place) (x : program.Proc) → slice_get places 0 ≡ Some q → get s.procs q ≡ Some x → is_some (step program s q) ≡ false → IsNoted program channels 0 x) → AreNoted program s channels places
main_noted program s places channels alone this zero q x at here unable = inr (this q x at here unable)
main_noted program s places channels alone this (suc n) q x at here unable = absurd (cc (sym at ∙ ap (λ (ps : List Place). slice_get ps (suc n)) alone))

-- ---- who started whom

same_place : (p : Place) (b i k n v : ℕ) (q : Place) → slice_get (child_places p b i n) k ≡ Some q → slice_get (replicate n v) k ≡ Some v
same_place p b i k zero v q is = absurd (cc is)
same_place p b i zero (suc n) v q is = refl
same_place p b i (suc k) (suc n) v q is = same_place p b (suc i) k n v q is

behind_get : {X : Type 0} (xs ys : List X) (k : ℕ) → slice_get (xs ++ ys) (length xs + k) ≡ slice_get ys k
behind_get [] ys k = ap (slice_get ys) (omega arith)
behind_get (x ∷ xs) ys k = let next : length (x ∷ xs) + k ≡ suc (length xs + k) = omega arith in ap (slice_get (x ∷ (xs ++ ys))) next ∙ behind_get xs ys k

no_child_of_none : (q : Place) (b i : ℕ) → [] ≡ child q b i → ⊥
no_child_of_none [] b i e = cc e
no_child_of_none (x ∷ q) b i e = cc e

pub main_alone_started : (parents : List ℕ) → AreParents ([] ∷ []) parents
main_alone_started parents zero q b i is = absurd (no_child_of_none q b i (let e : [] ≡ child q b i = cc is in e))
main_alone_started parents (suc o) q b i is = absurd (cc is)

pub parents_more : (places : List Place) (parents : List ℕ) → AreParents places parents → length parents ≡ length places → (own : ℕ) (p : Place) → slice_get places own ≡ Some p → (b n : ℕ)
    → AreParents (places ++ child_places p b 1 n) (parents ++ replicate n own)
parents_more places parents started same own p at b n o q d i is = go (low_or_high o (length places))
  where
    low_or_high : (x y : ℕ) → (x < y) ⊎ (y ≤ x)
    low_or_high x y = grind arith

    go : (o < length places) ⊎ (length places ≤ o) → (m : ℕ) × (slice_get (parents ++ replicate n own) o ≡ Some m) × (slice_get (places ++ child_places p b 1 n) m ≡ Some q)
    go (inl low) =
        let m = started o q d i (within_front places (child_places p b 1 n) o (child q d i) low is) in
        (m.0, longer_at parents (replicate n own) o m.0 m.1, longer_at places (child_places p b 1 n) m.0 q m.2)
    go (inr high) =
        let k = behind_front places (child_places p b 1 n) o (child q d i) high is in
        let c = child_among p (child q d i) b 1 n (place_among (child q d i) (child_places p b 1 n) k.0 k.2) in
        let whose : q ≡ p = pair_snoc q p (d, i) (b, c.0) c.2 in (
          own,
          ap (slice_get (parents ++ replicate n own)) (k.1 ∙ ap (λ (l : ℕ). l + k.0) (sym same)) ∙ behind_get parents (replicate n own) k.0 ∙ same_place p b 1 k.0 n own (child q d i) k.2,
          longer_at places (child_places p b 1 n) own p at ∙ ap Some (sym whose),
        )

pub children_count : (p : Place) (b i n : ℕ) → length (child_places p b i n) ≡ n
children_count p b i zero = refl
children_count p b i (suc n) = ap suc (children_count p b (suc i) n)

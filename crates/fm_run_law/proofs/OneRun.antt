-- Runs under the same turns that follow the same choices are one: each entry is told by those before it, and what ends the one ends the other.
use Rattle.std.proofs.Common.{◌≡◌, ◌⊎◌, inl, inr, ℕ, suc, ◌<◌, true, Option, List, [], ◌∷◌, ◌++◌, refl, sym, ap, ap₂, ◌∙◌, subst, append_assoc, append-nil, arith}
use Rattle.std.specs.Prelude.{is_some, slice_get, slice_index_or}
use Rattle.fm_base.specs.declared.schedule.Turn.{Turn}
use Rattle.fm_sched.specs.Schedule.{IsFinal, play, used}
use Rattle.fm_sched.proofs.Runs.{used-append-le}
use Rattle.fm_net.specs.Machine.{Place}
use Rattle.fm_net.specs.Starts.{choices_of}
use Rattle.fm_net.proofs.Histories.{choices_stay}
use Rattle.fm_run_law.proofs.Halves.{halves}
use Rattle.fm_run.specs.Orders.{places_of}
use Rattle.fm_run.specs.Pieces.{IsFull}
use Rattle.fm_run.specs.Plays.{Play, first, step}
use Rattle.fm_run.specs.Runs.{EndsSo, Follows, FollowsFrom, IsNext, IsRun, Stand, after_entries, after_entry, first_stand, place_of}
use Rattle.fm_run.specs.declared.run.Ending.{Ending}
use Rattle.fm_run.specs.declared.run.Ending.TheVariants.{Ended, Spent}
use Rattle.fm_run.specs.declared.run.Run.{Run}
use Rattle.fm_run.proofs.Playing.{who_is}
use Rattle.fm_run_law.specs.One.{AreOneRun}
use Rattle.fm_run_law.proofs.Along.{at_own, can_own}
use Rattle.fm_run_law.proofs.Fairness.{grown}
use Rattle.fm_run_law.proofs.Pieces.{one_full}
use Rattle.fm_run_law.proofs.Reached.{Reached, reached}

-- the last entry, and those before it
record Last (ts : List Turn) : Type 0 where
  front : List Turn
  last : Turn
  whole : ts ≡ front ++ last ∷ []

last_of : (t : Turn) (ts : List Turn) → Last (t ∷ ts)
last_of t [] = record { front = []; last = t; whole = refl }
last_of t (u ∷ ts) = let k = last_of u ts in record { front = t ∷ k.front; last = k.last; whole = ap (λ (us : List Turn). t ∷ us) k.whole }

entries_append : (program : Play) (a : Stand program.Proc) (ts us : List Turn) → after_entries program a (ts ++ us) ≡ after_entries program (after_entries program a ts) us
entries_append program a [] us = refl
entries_append program a (t ∷ ts) us = entries_append program (after_entry program a t) ts us

module _ (program : Play) (slice : ℕ) (choices : List ℕ) where
  -- ---- entry by entry

  one_entry : (choice : Option ℕ) (a : Stand program.Proc) (t u : Turn) → IsNext program slice choice a t → IsNext program slice choice a u → t ≡ u
  one_entry choice a t u f g =
      let number : t.number ≡ u.number = cc (sym f.who ∙ g.who) in
      let full : IsFull program slice true a.state (place_of a.places t) u.steps =
      subst (λ (n : ℕ). IsFull program slice true a.state (slice_index_or a.places n []) u.steps) (sym number) g.full in
      let steps : t.steps ≡ u.steps = one_full program slice a.state (place_of a.places t) t.steps u.steps f.full full in
      λ j. record { number = number j; steps = steps j }

  -- the second begins with the first
  record GoesOn (a : Stand program.Proc) (ts us : List Turn) : Type 0 where
    more : List Turn
    whole : us ≡ ts ++ more
    count : ℕ
    follows : FollowsFrom program slice choices count (after_entries program a ts) more

  abbrev OneGoesOn : Stand program.Proc → (ts us : List Turn) → Type 0
  OneGoesOn a ts us = GoesOn a ts us ⊎ GoesOn a us ts

  both_longer : (a : Stand program.Proc) (t u : Turn) (ts us : List Turn) → t ≡ u → OneGoesOn (after_entry program a t) ts us → OneGoesOn a (t ∷ ts) (u ∷ us)
  both_longer a t u ts us same (inl k) =
      inl (record { more = k.more; whole = ap₂ (λ (x : Turn) (xs : List Turn). x ∷ xs) (sym same) k.whole; count = k.count; follows = k.follows })
  both_longer a t u ts us same (inr k) = inr (record {
    more = k.more;
    whole = ap₂ (λ (x : Turn) (xs : List Turn). x ∷ xs) same k.whole;
    count = k.count;
    follows = subst (λ (x : Turn). FollowsFrom program slice choices k.count (after_entries program (after_entry program a x) us) k.more) same k.follows;
  })

  compared : (ts us : List Turn) (n : ℕ) (a : Stand program.Proc) → FollowsFrom program slice choices n a ts → FollowsFrom program slice choices n a us → OneGoesOn a ts us
  compared [] us n a f g = inl (record { more = us; whole = refl; count = n; follows = g })
  compared (t ∷ ts) [] n a f g = inr (record { more = t ∷ ts; whole = refl; count = n; follows = f })
  compared (t ∷ ts) (u ∷ us) n a f g =
      let same = one_entry (slice_get choices n) a t u f.0 g.0 in
      let theirs = subst (λ (x : Turn). FollowsFrom program slice choices (suc n) (after_entry program a x) us) (sym same) g.1 in
      both_longer a t u ts us same (compared ts us (suc n) (after_entry program a t) f.1 theirs)

  -- ---- the end

  module _ (turns : ℕ) where
    one_ending : (cs : List Place) (d e : Ending) → EndsSo program turns cs d → EndsSo program turns cs e → d ≡ e
    one_ending cs (Ended o) (Ended p) x y = ap Ended (x.2 ∙ sym y.2)
    one_ending cs (Ended o) Spent x y =
        let over : turns < used (step program) (first program) cs = y in
        absurd (omega (arith, x.1, over))
    one_ending cs Spent (Ended p) x y =
        let over : turns < used (step program) (first program) cs = x in
        absurd (omega (arith, y.1, over))
    one_ending cs Spent Spent x y = refl

    module _ (run : Run) (r : IsRun program turns run) (follows : Follows program slice choices run.history.items) where
      abbrev here : Stand program.Proc
      here = after_entries program (first_stand program) run.history.items

      end : Reached program here r.choices (places_of run.paths.items)
      end = reached program slice choices turns run r follows

      -- where nobody can step, no entry follows
      stops : IsFinal (step program) here.state → (n : ℕ) (t : Turn) (ts : List Turn) → FollowsFrom program slice choices n here (t ∷ ts) → ⊥
      stops final n t ts on =
          let next = slice_get choices n in
          let p = place_of here.places t in
          let can = who_is program here.state here.places t.number (can_own program slice next here end.along t on.0) p (at_own program slice next here end.along t on.0) in
          absurd (cc (sym (ap is_some (final p)) ∙ can))

      module _ (other : Run) (s : IsRun program turns other) (in_turn : Follows program slice choices other.history.items) where
        -- nor where the turns are spent
        spends : (t : Turn) (ts : List Turn) → other.history.items ≡ run.history.items ++ t ∷ ts → turns < used (step program) (first program) r.choices → ⊥
        spends t ts longer over =
            let hs = run.history.items in
            let ps = places_of other.paths.items in
            let l = last_of t ts in
            let whole : other.history.items ≡ (hs ++ l.front) ++ l.last ∷ [] = longer ∙ ap (λ (us : List Turn). hs ++ us) l.whole ∙ sym (append_assoc hs l.front (l.last ∷ [])) in
            let all = halves (hs ++ l.front) (l.last ∷ []) ps s.choices (sym (ap (λ (us : List Turn). choices_of us ps) whole) ∙ s.kept) in
            let own = halves hs l.front ps all.front all.front_is in
            let grow = grown program here (t ∷ ts) in
            let places : ps ≡ places_of run.paths.items ++ grow.0 =
            (reached program slice choices turns other s in_turn).places_are ∙ ap (λ (us : List Turn). (after_entries program (first_stand program) us).places) longer
            ∙ ap (λ (a : Stand program.Proc). a.places) (entries_append program (first_stand program) hs (t ∷ ts)) ∙ grow.1 ∙ ap (λ (qs : List Place). qs ++ grow.0) (sym end.places_are) in
            let same : own.front ≡ r.choices = cc (sym own.front_is ∙ ap (choices_of hs) places ∙ choices_stay hs (places_of run.paths.items) grow.0 r.choices r.kept) in
            let cost : used (step program) (first program) own.front ≡ used (step program) (first program) r.choices = ap (used (step program) (first program)) same in
            let sum : used (step program) (first program) all.front ≡ used (step program) (first program) (own.front ++ own.back) = ap (used (step program) (first program)) own.whole in
            omega (arith, over, s.front_within (hs ++ l.front) l.last all.front whole all.front_is, cost, sum, used-append-le (step program) (first program) own.front own.back)

        ends : (t : Turn) (ts : List Turn) (n : ℕ) → other.history.items ≡ run.history.items ++ t ∷ ts → FollowsFrom program slice choices n here (t ∷ ts) → (e : Ending) → EndsSo program turns r.choices e → ⊥
        ends t ts n longer on (Ended o) so =
            stops (subst (IsFinal (step program)) (ap (play (step program) (first program)) (sym end.choices_are) ∙ end.along.there) so.0) n t ts on
        ends t ts n longer on Spent so = spends t ts longer so

        no_longer : (more : List Turn) (n : ℕ) → other.history.items ≡ run.history.items ++ more → FollowsFrom program slice choices n here more → other.history.items ≡ run.history.items
        no_longer [] n whole on = whole ∙ append-nil run.history.items
        no_longer (t ∷ ts) n whole on = absurd (ends t ts n whole on run.ending r.ends)

    module _ (a b : Run) (r : IsRun program turns a) (s : IsRun program turns b) (f : Follows program slice choices a.history.items) (g : Follows program slice choices b.history.items) where
      one_history : a.history.items ≡ b.history.items
      one_history = go (compared a.history.items b.history.items 0 (first_stand program) f g)
        where
          go : OneGoesOn (first_stand program) a.history.items b.history.items → a.history.items ≡ b.history.items
          go (inl k) = sym (no_longer a r f b s g k.more k.count k.whole k.follows)
          go (inr k) = no_longer b s g a r f k.more k.count k.whole k.follows

      pub one_run : AreOneRun a b
      one_run =
          let places : places_of a.paths.items ≡ places_of b.paths.items =
          (end a r f).places_are ∙ ap (λ (ts : List Turn). (after_entries program (first_stand program) ts).places) one_history ∙ sym (end b s g).places_are in
          let same : r.choices ≡ s.choices = cc (sym r.kept ∙ ap₂ (λ (ts : List Turn) (ps : List Place). choices_of ts ps) one_history places ∙ s.kept) in
          record {
            histories = one_history;
            places = places;
            endings = one_ending r.choices a.ending b.ending r.ends (subst (λ (cs : List Place). EndsSo program turns cs b.ending) (sym same) s.ends);
          }

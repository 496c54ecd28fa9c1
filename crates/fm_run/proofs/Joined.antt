-- Several pieces of one process as one entry.
use Rattle.std.proofs.Common.{◌≡◌, ℕ, ◌+◌, Bool, true, false, inl, inr, Some, List, [], ◌∷◌, ◌++◌, replicate, refl, sym, ap, ap₂, ◌∙◌, subst, append_assoc}
use Rattle.std.specs.Prelude.{slice_get}
use Rattle.std.proofs.lemmas.Option.{get_or_from_slice_get}
use Rattle.fm_base.specs.declared.schedule.Turn.{Turn}
use Rattle.fm_sched.specs.Schedule.{IsLegal, play}
use Rattle.fm_sched.proofs.Runs.{IsLegal-append, play-append}
use Rattle.fm_net.specs.Machine.{Place, State}
use Rattle.fm_net.specs.Starts.{child_places, choices_of, starts_along}
use Rattle.fm_net.proofs.Histories.{longer_at}
use Rattle.fm_net.proofs.Orders.{starts-append}
use Rattle.fm_net_procs.specs.declared.piece.Piece.{Piece}
use Rattle.fm_run.specs.Entries.{EndsWith, MayHaveEntry, MayHavePiece, turn_of, with_piece}
use Rattle.fm_run.specs.Pieces.{IsPiece}
use Rattle.fm_run.specs.Runs.{AreMade, HaveSteps, IsEntry, IsPlayedBy, place_of, steps_of}
use Rattle.fm_run.proofs.EntryLaws.{choices_joined, lengthened_last, replicate-append, steps_joined}
use Rattle.fm_run.proofs.Playing.{kept_more}
use Rattle.fm_run.specs.Plays.{Play, language, step}

module _ (program : Play) where
  -- a piece makes its steps
  pub steps_made : (slice : ℕ) (spare : Bool) (number : ℕ) (s t : State program.Proc) (places later_places : List Place) (p : Place) (r : Piece) → slice_get places number ≡ Some p → IsPiece program slice spare s p r t → later_places ≡ places ++ child_places p r.block 1 r.started
      → AreMade program number r.steps s places t later_places
  steps_made slice spare number s t places later_places p r who piece places_is =
      let place : place_of places (turn_of number r.steps) ≡ p = get_or_from_slice_get places number p [] who in
      record {
        can = subst (λ (q : Place). IsLegal (step program) s (replicate r.steps q)) (sym place) piece.full.can;
        state_is = sym (ap (λ (q : Place). play (step program) s (replicate r.steps q)) place ∙ piece.makes.leads.there);
        places_are = places_is ∙ ap (λ (qs : List Place). places ++ qs) (sym (ap (λ (q : Place). starts_along (language program) s (replicate r.steps q)) place ∙ piece.makes.starts_are));
      }

  -- steps that are an entry of their own
  pub entry_of : (number steps : ℕ) (s t : State program.Proc) (places later_places : List Place) (history later : List Turn) → AreMade program number steps s places t later_places → later ≡ with_piece false history number steps
      → IsEntry program (turn_of number steps) s places history t later_places later
  entry_of number steps s t places later_places history later made is = record { history_is = is; can = made.can; state_is = made.state_is; places_are = made.places_are }

  -- more steps of its process join an entry
  pub entry_joined : (number done more : ℕ) (p : Place) (s t u : State program.Proc) (ps qs rs : List Place) (hs js ks : List Turn) → slice_get ps number ≡ Some p → IsEntry program (turn_of number done) s ps hs t qs js → AreMade program number more t qs u rs
      → ks ≡ with_piece true js number more → IsEntry program (turn_of number (done + more)) s ps hs u rs ks
  entry_joined number done more p s t u ps qs rs hs js ks who entry made ks_is =
      let here : place_of ps (turn_of number done) ≡ p = get_or_from_slice_get ps number p [] who in
      let later : slice_get qs number ≡ Some p = ap (λ (xs : List Place). slice_get xs number) entry.places_are ∙ longer_at ps (starts_along (language program) s (steps_of ps (turn_of number done))) number p who in
      let there : place_of qs (turn_of number more) ≡ p = get_or_from_slice_get qs number p [] later in
      let first : IsLegal (step program) s (replicate done p) = subst (λ (q : Place). IsLegal (step program) s (replicate done q)) here entry.can in
      let led : play (step program) s (replicate done p) ≡ t = ap (λ (q : Place). play (step program) s (replicate done q)) (sym here) ∙ sym entry.state_is in
      let second : IsLegal (step program) t (replicate more p) = subst (λ (q : Place). IsLegal (step program) t (replicate more q)) there made.can in
      let all : replicate (done + more) p ≡ replicate done p ++ replicate more p = replicate-append done more p in
      let starts : starts_along (language program) s (replicate (done + more) p) ≡ starts_along (language program) s (replicate done p) ++ starts_along (language program) t (replicate more p) =
      ap (starts_along (language program) s) all ∙ starts-append (language program) s (replicate done p) (replicate more p) ∙ ap (λ (v : State program.Proc). starts_along (language program) s (replicate done p) ++ starts_along (language program) v (replicate more p)) led in
      record {
        history_is = ks_is ∙ ap (λ (ts : List Turn). with_piece true ts number more) entry.history_is ∙ lengthened_last hs (turn_of number done) more;
        can =
            subst (λ (q : Place). IsLegal (step program) s (replicate (done + more) q)) (sym here)
            (subst (IsLegal (step program) s) (sym all) (IsLegal-append (step program) s (replicate done p) (replicate more p) first (subst (λ (v : State program.Proc). IsLegal (step program) v (replicate more p)) (sym led) second)));
        state_is =
            made.state_is ∙ ap (λ (q : Place). play (step program) t (replicate more q)) there ∙ ap (λ (v : State program.Proc). play (step program) v (replicate more p)) (sym led)
            ∙ sym (play-append (step program) s (replicate done p) (replicate more p)) ∙ ap (play (step program) s) (sym all) ∙ ap (λ (q : Place). play (step program) s (replicate (done + more) q)) (sym here);
        places_are =
            made.places_are ∙ ap₂ (λ (xs : List Place) (q : Place). xs ++ starts_along (language program) t (replicate more q)) entry.places_are there
            ∙ ap (λ (q : Place). (ps ++ starts_along (language program) s (replicate done q)) ++ starts_along (language program) t (replicate more p)) here
            ∙ append_assoc ps (starts_along (language program) s (replicate done p)) (starts_along (language program) t (replicate more p))
            ∙ ap (λ (xs : List Place). ps ++ xs) (sym starts) ∙ ap (λ (q : Place). ps ++ starts_along (language program) s (replicate (done + more) q)) (sym here);
      }

  -- the schedule with a piece leads where the piece does
  pub kept_piece : (hs : List Turn) (ps : List Place) (s : State program.Proc) (paid : ℕ) → IsPlayedBy program hs ps s paid → (number : ℕ) (p : Place) → slice_get ps number ≡ Some p → (slice : ℕ) (spare : Bool) (r : Piece) (t : State program.Proc) → IsPiece program slice spare s p r t
      → (joins : Bool) → (joins ≡ true → EndsWith hs number) → (js : List Turn) → js ≡ with_piece joins hs number r.steps → (qs : List Place) → qs ≡ ps ++ child_places p r.block 1 r.started → (sum : ℕ) → sum ≡ paid + r.cost → IsPlayedBy program js qs t sum
  kept_piece hs ps s paid kept number p who slice spare r t piece false ends js js_is qs qs_is sum sum_is = kept_more program hs ps s paid kept number p who slice spare r t piece js js_is qs qs_is sum sum_is
  kept_piece hs ps s paid kept number p who slice spare r t piece true ends js js_is qs qs_is sum sum_is =
      let k = kept_more program hs ps s paid kept number p who slice spare r t piece (with_piece false hs number r.steps) refl qs qs_is sum sum_is in
      record {
        choices = k.choices;
        kept = ap (λ (ts : List Turn). choices_of ts qs) js_is ∙ choices_joined hs number r.steps qs (ends refl) ∙ k.kept;
        places_are = k.places_are;
        legal = k.legal;
        there = k.there;
        used_is = k.used_is;
        some_steps = subst HaveSteps (sym js_is) (steps_joined hs number r.steps (ends refl) kept.some_steps);
      }

-- where a piece more was, an entry more was; and where it joins, that entry is longer
pub entry_may : (number : ℕ) (old new : List Turn) → MayHavePiece false number old new → MayHaveEntry old new
entry_may number old new (inl same) = inl same
entry_may number old new (inr k) = inr (turn_of number k.0, k.1)

pub entry_may_grow : (number done : ℕ) (old mid new : List Turn) → mid ≡ old ++ turn_of number done ∷ [] → MayHavePiece true number mid new → MayHaveEntry old new
entry_may_grow number done old mid new is (inl same) = inr (turn_of number done, same ∙ is)
entry_may_grow number done old mid new is (inr k) = inr (turn_of number (done + k.0), k.1 ∙ ap (λ (ts : List Turn). with_piece true ts number k.0) is ∙ lengthened_last old (turn_of number done) k.0)

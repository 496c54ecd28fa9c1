-- Runs that follow their choices, entry after entry.
use Rattle.std.proofs.Common.{◌≡◌, ℕ, suc, ◌+◌, Bool, true, Some, List, [], ◌∷◌, ◌++◌, length, replicate, refl, sym, ap, ap₂, ◌∙◌, subst, arith}
use Rattle.std.specs.Prelude.{slice_get}
use Rattle.fm_base.specs.declared.schedule.Turn.{Turn}
use Rattle.fm_sched.specs.Schedule.{IsLegal, play}
use Rattle.fm_net.specs.Machine.{Place, State}
use Rattle.fm_net.specs.Starts.{child_places, starts_along}
use Rattle.std.proofs.lemmas.Option.{get_or_from_slice_get}
use Rattle.fm_net_procs.specs.declared.piece.Piece.{Piece}
use Rattle.fm_run.specs.Orders.{chosen, ready_after}
use Rattle.fm_run.specs.Pieces.{IsFull, IsPiece}
use Rattle.fm_run.specs.Entries.{turn_of}
use Rattle.fm_run.specs.Runs.{Stand, first_stand, place_of, moved, after_entry, after_entries, IsNext, FollowsFrom, Follows, IsEntry}
use Rattle.fm_run.specs.Plays.{Play, language, step}

module _ (program : Play) where
  pub entries_more : (a : Stand program.Proc) (ts : List Turn) (t : Turn) → after_entries program a (ts ++ t ∷ []) ≡ after_entry program (after_entries program a ts) t
  entries_more a [] t = refl
  entries_more a (u ∷ ts) t = entries_more (after_entry program a u) ts t

  -- where an entry led, with those who can step then
  pub moved_is : (a : Stand program.Proc) (t : Turn) (history : List Turn) (b : Stand program.Proc) (later : List Turn) → IsEntry program t a.state a.places history b.state b.places later → b.able ≡ ready_after program b.state b.places a.able t.number → b ≡ after_entry program a t
  moved_is a t history b later more able =
      let one : moved program a t.number b.state b.places ≡ b = ap (λ (ns : List ℕ). record { state = b.state; places = b.places; able = ns }) (sym able) in
      sym one ∙ ap₂ (moved program a t.number) more.state_is more.places_are

module _ (program : Play) (slice : ℕ) (choices : List ℕ) where
  -- an entry more
  pub follows_more : (n : ℕ) (a : Stand program.Proc) (ts : List Turn) (t : Turn) → FollowsFrom program slice choices n a ts → IsNext program slice (slice_get choices (n + length ts)) (after_entries program a ts) t
      → FollowsFrom program slice choices n a (ts ++ t ∷ [])
  follows_more n a [] t follows next =
      let here : n + 0 ≡ n = omega arith in
      (subst (λ (k : ℕ). IsNext program slice (slice_get choices k) a t) here next, tt)
  follows_more n a (u ∷ ts) t follows next =
      let later : n + suc (length ts) ≡ suc n + length ts = omega arith in
      (follows.0, follows_more (suc n) (after_entry program a u) ts t follows.1 (subst (λ (k : ℕ). IsNext program slice (slice_get choices k) (after_entries program (after_entry program a u) ts) t) later next))

-- the history follows its choices, and leads to this stand
pub record IsFollowed (program : Play) (slice : ℕ) (choices : List ℕ) (history : List Turn) (a : Stand program.Proc) : Type 0 where
  pub follows : Follows program slice choices history
  pub stand_is : a ≡ after_entries program (first_stand program) history

module _ (program : Play) (slice : ℕ) (choices : List ℕ) where
  pub followed_first : (history : List Turn) (a : Stand program.Proc) → history ≡ [] → a ≡ first_stand program → IsFollowed program slice choices history a
  followed_first history a none first = subst (λ (ts : List Turn). IsFollowed program slice choices ts a) (sym none) (record { follows = tt; stand_is = first })

  pub followed_more : (history : List Turn) (a : Stand program.Proc) → IsFollowed program slice choices history a → (t : Turn) → chosen (slice_get choices (length history)) a.able ≡ Some t.number → IsFull program slice true a.state (place_of a.places t) t.steps
      → (later : List Turn) (b : Stand program.Proc) → IsEntry program t a.state a.places history b.state b.places later → b.able ≡ ready_after program b.state b.places a.able t.number
      → IsFollowed program slice choices later b
  followed_more history a followed t who full later b more able =
      let there = after_entries program (first_stand program) history in
      let next : IsNext program slice (slice_get choices (length history)) a t = record { who = who; full = full } in
      let here : 0 + length history ≡ length history = omega arith in
      let next_there = subst (λ (k : ℕ). IsNext program slice (slice_get choices k) there t) (sym here) (subst (λ (c : Stand program.Proc). IsNext program slice (slice_get choices (length history)) c t) followed.stand_is next) in
      subst (λ (ts : List Turn). IsFollowed program slice choices ts b) (sym more.history_is) (record {
        follows = follows_more program slice choices 0 (first_stand program) history t followed.follows next_there;
        stand_is = moved_is program a t history b later more able ∙ ap (λ (c : Stand program.Proc). after_entry program c t) followed.stand_is ∙ sym (entries_more program (first_stand program) history t);
      })

-- a piece more is an entry more
pub entry_made : (program : Play) (slice : ℕ) (spare : Bool) (number : ℕ) (s : State program.Proc) (places : List Place) (history : List Turn) (t : State program.Proc) (later_places : List Place) (later : List Turn) (p : Place) (r : Piece)
    → slice_get places number ≡ Some p → IsPiece program slice spare s p r t → later ≡ history ++ turn_of number r.steps ∷ [] → later_places ≡ places ++ child_places p r.block 1 r.started
    → IsEntry program (turn_of number r.steps) s places history t later_places later
entry_made program slice spare number s places history t later_places later p r who piece later_is places_is =
    let place : place_of places (turn_of number r.steps) ≡ p = get_or_from_slice_get places number p [] who in
    record {
      history_is = later_is;
      can = subst (λ (q : Place). IsLegal (step program) s (replicate r.steps q)) (sym place) piece.full.can;
      state_is = sym (ap (λ (q : Place). play (step program) s (replicate r.steps q)) place ∙ piece.makes.leads.there);
      places_are = places_is ∙ ap (λ (qs : List Place). places ++ qs) (sym (ap (λ (q : Place). starts_along (language program) s (replicate r.steps q)) place ∙ piece.makes.starts_are));
    }

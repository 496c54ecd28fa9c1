-- The choices and the processes of a run are those of the stand to which its entries lead.
use Rattle.std.proofs.Common.{◌≡◌, ℕ, suc, Some, List, [], ◌∷◌, ◌++◌, replicate, sym, ap, ◌∙◌, subst, append_assoc, append-nil}
use Rattle.std.specs.Prelude.{slice_get}
use Rattle.fm_base.specs.declared.schedule.Turn.{Turn}
use Rattle.fm_sched.specs.Schedule.{play}
use Rattle.fm_net.specs.Machine.{Place}
use Rattle.fm_net.specs.Starts.{choices_of, starts_along, starts_of}
use Rattle.fm_net.proofs.Histories.{longer_at}
use Rattle.fm_net.proofs.Orders.{starts_more}
use Rattle.fm_run_law.proofs.Halves.{parts}
use Rattle.fm_run.specs.Orders.{places_of}
use Rattle.fm_run.specs.Plays.{IsLawfulPlay, Play, first, language, step}
use Rattle.fm_run.specs.Runs.{Follows, FollowsFrom, IsRun, Stand, after_entries, after_entry, first_stand, place_of, steps_of}
use Rattle.fm_run.specs.declared.run.Run.{Run}
use Rattle.fm_run_law.specs.Fair.{IsFair}
use Rattle.fm_run_law.proofs.Along.{Along, along_first, along_more, at_own, choices_are, first_choices}
use Rattle.fm_run_law.proofs.Fairness.{fair}

-- these choices lead to the stand, whose processes these are
pub record Reached (program : Play) (a : Stand program.Proc) (choices places : List Place) : Type 0 where
  pub along : Along program a
  pub choices_are : along.choices ≡ choices
  pub places_are : places ≡ a.places

module _ (program : Play) (slice : ℕ) (choices : List ℕ) where
  reached_from : (ts : List Turn) (n : ℕ) (a : Stand program.Proc) (along : Along program a) → FollowsFrom program slice choices n a ts → (places ds : List Place) → choices_of ts places ≡ Some ds
      → places ≡ starts_of (language program) (first program) (along.choices ++ ds) → Reached program (after_entries program a ts) (along.choices ++ ds) places
  reached_from [] n a along follows places ds told is =
      let none : [] ≡ ds = cc told in
      let whole : along.choices ≡ along.choices ++ ds = sym (append-nil along.choices) ∙ ap (λ (cs : List Place). along.choices ++ cs) none in
      record { along = along; choices_are = whole; places_are = is ∙ ap (starts_of (language program) (first program)) (sym whole) ∙ sym along.places_are }
  reached_from (t ∷ ts) n a along follows places ds told is =
      let p = place_of a.places t in
      let own = steps_of a.places t in
      let next = slice_get choices n in
      let more = starts_along (language program) (play (step program) (first program) along.choices) ds in
      let later : places ≡ a.places ++ more = is ∙ starts_more (language program) (first program) along.choices ds ∙ ap (λ (ps : List Place). ps ++ more) (sym along.places_are) in
      let who : slice_get places t.number ≡ Some p = ap (λ (ps : List Place). slice_get ps t.number) later ∙ longer_at a.places more t.number p (at_own program slice next a along t follows.0) in
      let k = parts t ts places ds told in
      let same : k.who ≡ p = cc (sym k.who_is ∙ who) in
      let told_so : ds ≡ own ++ k.others = k.whole ∙ ap (λ (q : Place). replicate t.steps q ++ k.others) same in
      let further = along_more program slice next a along t follows.0 in
      let whole : along.choices ++ ds ≡ further.choices ++ k.others =
      ap (λ (cs : List Place). along.choices ++ cs) told_so ∙ sym (append_assoc along.choices own k.others) ∙ ap (λ (cs : List Place). cs ++ k.others) (sym (choices_are program slice next a along t follows.0)) in
      let rest = reached_from ts (suc n) (after_entry program a t) further follows.1 places k.others k.others_are (is ∙ ap (starts_of (language program) (first program)) whole) in
      record { along = rest.along; choices_are = rest.choices_are ∙ sym whole; places_are = rest.places_are }

  pub reached : (turns : ℕ) (run : Run) (r : IsRun program turns run) → Follows program slice choices run.history.items
      → Reached program (after_entries program (first_stand program) run.history.items) r.choices (places_of run.paths.items)
  reached turns run r follows =
      let none : (along_first program).choices ++ r.choices ≡ r.choices = ap (λ (cs : List Place). cs ++ r.choices) (first_choices program) in
      let k = reached_from run.history.items 0 (first_stand program) (along_first program) follows (places_of run.paths.items) r.choices r.kept (r.places ∙ ap (starts_of (language program) (first program)) (sym none)) in
      record { along = k.along; choices_are = k.choices_are ∙ none; places_are = k.places_are }

pub run_is_fair : (program : Play) → IsLawfulPlay program → (slice turns : ℕ) (run : Run) → IsRun program turns run → Follows program slice [] run.history.items → IsFair program run.history.items (places_of run.paths.items)
run_is_fair program law slice turns run r follows =
    subst (λ (ps : List Place). IsFair program run.history.items ps) (sym (reached program slice [] turns run r follows).places_are) (fair program law slice run.history.items follows)

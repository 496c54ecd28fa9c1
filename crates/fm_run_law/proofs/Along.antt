-- Stands to which choices lead, and the one to which an entry more leads.
use Rattle.std.proofs.Common.{◌≡◌, ℕ, ◌<◌, true, Option, Some, List, [], ◌∷◌, ◌++◌, length, inl, refl, sym, ap, ◌∙◌, subst, arith}
use Rattle.std.specs.Prelude.{slice_get}
use Rattle.fm_base.specs.declared.schedule.Turn.{Turn}
use Rattle.fm_sched.specs.Schedule.{IsLegal, play}
use Rattle.fm_sched.proofs.Runs.{IsLegal-append, play-append}
use Rattle.fm_net.specs.Machine.{Place, State}
use Rattle.fm_net.specs.Starts.{starts_along, starts_of}
use Rattle.fm_net.proofs.Orders.{starts_more}
use Rattle.fm_run.specs.Orders.{Among, can_at, in_turn}
use Rattle.fm_run.specs.Plays.{Play, first, language, step}
use Rattle.fm_run.specs.Runs.{AreAble, IsNext, Stand, after_entry, first_stand, place_of, steps_of}
use Rattle.fm_run.proofs.Numbers.{all_in_turn, among_get, once_in_turn}
use Rattle.fm_run.proofs.Playing.{are_able, stands_at}

module _ (program : Play) where
  -- a stand to which choices lead
  pub record Along (a : Stand program.Proc) : Type 0 where
    pub choices : List Place
    pub legal : IsLegal (step program) (first program) choices
    pub there : play (step program) (first program) choices ≡ a.state
    pub places_are : a.places ≡ starts_of (language program) (first program) choices
    pub able : AreAble program a.state a.places a.able

  module _ (slice : ℕ) (choice : Option ℕ) (a : Stand program.Proc) (along : Along a) (t : Turn) (next : IsNext program slice choice a t) where
    pub can_own : can_at program a.state a.places t.number ≡ true
    can_own = along.able.within t.number (among_get a.able _ t.number next.who)

    pub at_own : slice_get a.places t.number ≡ Some (place_of a.places t)
    at_own = stands_at program a.state a.places t.number can_own

    pub along_more : Along (after_entry program a t)
    along_more =
        let ds = steps_of a.places t in
        let later = after_entry program a t in
        record {
          choices = along.choices ++ ds;
          legal = IsLegal-append (step program) (first program) along.choices ds along.legal (subst (λ (u : State program.Proc). IsLegal (step program) u ds) (sym along.there) next.full.can);
          there = play-append (step program) (first program) along.choices ds ∙ ap (λ (u : State program.Proc). play (step program) u ds) along.there;
          places_are =
              ap (λ (ps : List Place). ps ++ starts_along (language program) a.state ds) along.places_are
              ∙ ap (λ (u : State program.Proc). starts_of (language program) (first program) along.choices ++ starts_along (language program) u ds) (sym along.there)
              ∙ sym (starts_more (language program) (first program) along.choices ds);
          able =
              are_able program later.state later.places (in_turn t.number a.able (length later.places)) later.able refl (all_in_turn t.number a.able (length later.places))
              (once_in_turn t.number a.able (length later.places) along.able.once);
        }

    pub choices_are : along_more.choices ≡ along.choices ++ steps_of a.places t
    unfolding along_more
    choices_are = refl

  pub along_first : Along (first_stand program)
  along_first = record {
    choices = [];
    legal = tt;
    there = refl;
    places_are = refl;
    able = are_able program (first program) ([] ∷ []) (0 ∷ []) (first_stand program).able refl (λ n low. only n low) ((λ h. h), tt);
  }
    where
      only : (n : ℕ) → n < 1 → Among n (0 ∷ [])
      only n low = inl (omega arith)

  pub first_choices : along_first.choices ≡ []
  unfolding along_first
  first_choices = refl

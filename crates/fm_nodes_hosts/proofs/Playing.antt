-- One step more in the schedule that a history tells.
use Rattle.std.proofs.Common.{◌≡◌, ℕ, ◌+◌, List, [], ◌∷◌, ◌++◌, Some, refl, sym, ap, subst, ◌∙◌, append-nil, arith}
use Rattle.std.specs.Prelude.{slice_get}
use Rattle.fm_base.specs.declared.schedule.Turn.{Turn}
use Rattle.fm_sched.specs.Schedule.{play, IsReached}
use Rattle.fm_sched.proofs.Runs.{IsLegal-push, play-push, used-push, next-Some, cost-Some}
use Rattle.fm_net.specs.Machine.{Place, State}
use Rattle.fm_net.specs.Language.{Language, language_step}
use Rattle.fm_net.specs.Lawful.{IsLawfulLanguage}
use Rattle.fm_net.specs.Owned.{IsOwned}
use Rattle.fm_net.specs.Starts.{starts_at, starts_along, starts_of}
use Rattle.fm_net.proofs.Histories.{choices_more}
use Rattle.fm_net.proofs.Orders.{starts_more}
use Rattle.fm_link_law.specs.Hosts.{state_of}
use Rattle.fm_link_law.specs.Steps.{IsPlainAt}
use Rattle.fm_link_law.specs.Play.{AsksForWords}
use Rattle.fm_link_law.proofs.Owning.{keeps_to_words}
use Rattle.fm_link_law.proofs.Stepping.{steps_forth}
use Rattle.fm_nodes_hosts.specs.Runs.{Run, HasStepped, one_step_of}
use Rattle.fm_nodes_hosts.specs.Played.{IsPlayedBy, IsSound}

module _ {Proc : Type 0} (language : Language Proc) (start : State Proc) where
  pub played_first : IsPlayedBy language start [] ([] ∷ []) start 0
  played_first = record { choices = []; kept = refl; places_are = refl; legal = tt; there = refl; used_is = refl }

  pub played_reached : (hs : List Turn) (ps : List Place) (s : State Proc) (paid : ℕ) → IsPlayedBy language start hs ps s paid → IsReached (language_step language) start s
  played_reached hs ps s paid played = (played.choices, played.legal, played.there)

  pub played_more : (hs : List Turn) (ps : List Place) (s : State Proc) (paid number : ℕ) (p : Place) (t : State Proc) (more : ℕ) → IsPlayedBy language start hs ps s paid → slice_get ps number ≡ Some p
      → language_step language s p ≡ Some (t, more) → IsPlayedBy language start (hs ++ one_step_of number ∷ []) (ps ++ starts_at language s p) t (paid + more)
  played_more hs ps s paid number p t more played who steps =
      let cs = played.choices in
      let step = language_step language in
      let there : play step start cs ≡ s = played.there in
      let here : step (play step start cs) p ≡ Some (t, more) = ap (λ u. step u p) there ∙ steps in
      record {
        choices = cs ++ p ∷ [];
        kept = choices_more hs ps (starts_at language s p) cs (one_step_of number) p played.kept who;
        places_are =
            ap (λ zs. zs ++ starts_at language s p) played.places_are
            ∙ ap (λ zs. starts_of language start cs ++ zs) (sym (append-nil (starts_at language s p)) ∙ ap (λ u. starts_along language u (p ∷ [])) (sym there))
            ∙ sym (starts_more language start cs (p ∷ []));
        legal = IsLegal-push step start cs p played.legal ((t, more), here);
        there = play-push step start cs p ∙ next-Some step (play step start cs) p (t, more) here;
        used_is = omega (arith, used-push step start cs p, cost-Some step (play step start cs) p (t, more) here, played.used_is);
      }

  module _ (laws : IsLawfulLanguage language) (owned : IsOwned language start) (words : AsksForWords language start) where
    -- what a process asks for next is plain
    pub plain_there : (run : Run Proc) → IsSound language start run → (p : Place) → IsPlainAt language run.hosts p
    plain_there run sound p = keeps_to_words language laws start owned words run.hosts sound.links (played_reached run.history run.order (state_of run.hosts) run.used sound.played) p

    -- behind a step all holds again
    pub sound_step : (p : Place) (old new : Run Proc) → IsSound language start old → HasStepped language p old new → IsSound language start new
    sound_step p old new sound does =
        let alike = steps_forth language old.hosts sound.links p (plain_there old sound p) new.hosts does.cost does.steps in
        let played = played_more old.history old.order (state_of old.hosts) old.used does.number p (state_of new.hosts) does.cost sound.played does.who alike.step in
        record {
          links = alike.stays;
          played =
              subst (λ (hs : List Turn). IsPlayedBy language start hs new.order (state_of new.hosts) new.used) (sym does.history_is)
              (subst (λ (ps : List Place). IsPlayedBy language start (old.history ++ one_step_of does.number ∷ []) ps (state_of new.hosts) new.used) (sym does.order_is)
              (subst (λ (paid : ℕ). IsPlayedBy language start (old.history ++ one_step_of does.number ∷ []) (old.order ++ starts_at language (state_of old.hosts) p) (state_of new.hosts) paid) (sym does.used_is) played));
        }

-- What runs of an image do and show is what its processes of stack code do and show, and they are lawful where it makes sense.
use Rattle.std.proofs.Common.{◌≡◌, ℕ, Option, Some, None, [], refl, sym, ap, ◌∙◌}
use Rattle.std.specs.Prelude.{option_map}
use Rattle.std.specs.FinMap.{get}
use Rattle.fm_finmap.proofs.Maps.{get-map_values}
use Rattle.fm_finmap.proofs.Keys.{same}
use Rattle.fm_net.specs.Correspondence.{AreAlike, BothOrNeither, IsCorrespondence, StandsFor}
use Rattle.fm_net.specs.Machine.{Ask, Go, State, Stop}
use Rattle.fm_net.proofs.Correspondences.{alike}
use Rattle.fm_net.proofs.First.{main_owned}
use Rattle.fm_net.proofs.Keys.{path_order}
use Rattle.fm_net.proofs.Steps.{step_keeps}
use Rattle.fm_net_invariant.specs.Good.{IsGoodAsk}
use Rattle.fm_net_invariant.specs.Kept.{kept_ask}
use Rattle.fm_net_invariant.proofs.Kept.{kept_alike, kept_correspond, kept_lawful}
use Rattle.fm_net_procs.specs.Waiting.{need_in}
use Rattle.fm_object.specs.declared.image.Image.{Image}
use Rattle.fm_proc_language.specs.Needs as code
use Rattle.fm_proc_language.specs.Processes.{CodeProc, code_language}
use Rattle.fm_proc_invariant.specs.Good.{IsGood}
use Rattle.fm_image_typed.specs.Shapes.{shapes_of}
use Rattle.fm_image_typed.specs.Typed.{Typed}
use Rattle.fm_image_law.specs.Image.{first_process}
use Rattle.fm_image_law.proofs.First.{first_holds}
use Rattle.fm_run.specs.declared.run.Run.{Run}
use Rattle.fm_run.specs.Orders.{places_of}
use Rattle.fm_run.specs.Plays.{IsLawfulPlay, first, need_of}
use Rattle.fm_run.specs.Runs.{Follows, IsRun}
use Rattle.fm_run_law.specs.Alike.{FollowsAs, IsFairAs, RunsAs}
use Rattle.fm_run_law.specs.Fair.{IsFair}
use Rattle.fm_run_law.proofs.Reached.{run_is_fair}
use Rattle.fm_execute_image.specs.Play.{Anyway, GoodProc, IsBare, IsLive, account, bare, bare_state, good_main, good_play, good_speaks, image_play}
use Rattle.fm_execute_image.proofs.FairAlike.{fair_alike}
use Rattle.fm_execute_image.proofs.Following.{follows_alike}
use Rattle.fm_execute_image.proofs.Runs.{run_alike}

module _ (i : Image) where
  pub lawful_play : Typed i → IsLawfulPlay (good_play i)
  lawful_play t = record { lawful = kept_lawful code_language (Typed i) (IsGood (shapes_of i)) (account i) t; free = first_holds i t }

  pub plays_alike : AreAlike (IsBare i) (Anyway i) (good_speaks i) code_language
  plays_alike = kept_alike code_language (Typed i) (IsGood (shapes_of i)) (account i)

  -- ---- where it makes sense

  bare_correspond : IsCorrespondence (IsBare i) (Anyway i) (good_speaks i) code_language
  bare_correspond = kept_correspond code_language (Typed i) (IsGood (shapes_of i)) (account i)

  live_correspond : IsCorrespondence (IsBare i) (IsLive i) (good_speaks i) code_language
  live_correspond = record {
    stays_live = λ s p live can. record { typed = live.typed; owned = step_keeps (good_speaks i) (lawful_play live.typed).lawful s p live.owned can };
    asks = λ s live p x y at is. bare_correspond.asks s tt p x y at is;
    ended = bare_correspond.ended;
    emptied = bare_correspond.emptied;
  }

  pub live_alike : AreAlike (IsBare i) (IsLive i) (good_speaks i) code_language
  live_alike = alike (good_speaks i) code_language (IsBare i) (IsLive i) live_correspond

  pub first_live : Typed i → IsLive i (first (good_play i))
  first_live t = record { typed = t; owned = main_owned (good_speaks i) (good_main i) (first_holds i t) }

  pub first_stands : Typed i → StandsFor (IsBare i) (IsLive i) (first (image_play i)) (first (good_play i))
  first_stands t = live_alike.begin (good_main i) (first_process i) refl (first_live t)

  -- ---- what they need and show

  asked : (x : CodeProc) (a : Ask CodeProc) (step : Typed i → IsGoodAsk code_language (IsGood (shapes_of i)) x a)
      → need_in (kept_ask code_language (Typed i) (IsGood (shapes_of i)) x a step) ≡ code.need_in a
  asked x Stop step = refl
  asked x (Go need f) step = refl

  pub needs_alike : (g : GoodProc i) → need_of (good_play i) g ≡ code.need_of g.0
  needs_alike g = asked g.0 (code_language.ask g.0) (λ t. (account i t).goes g.0 (g.1 t))

  module _ (Live : State (GoodProc i) → Type 0) (s : State (GoodProc i)) (t : State CodeProc) (stands : StandsFor (IsBare i) Live t s) where
    read : (o : Option CodeProc) (w : Option (GoodProc i)) → BothOrNeither (IsBare i) o w → option_map (bare i) w ≡ o
    read None None h = refl
    read None (Some g) h = absurd h
    read (Some y) None h = absurd h
    read (Some y) (Some g) h = ap (λ (x : CodeProc). Some x) (sym h)

    procs_same : (bare_state i s).procs ≡ t.procs
    procs_same = same path_order (bare_state i s).procs t.procs (λ q. get-map_values (bare i) s.procs q ∙ read (get t.procs q) (get s.procs q) (stands.procs q))

    states_same : bare_state i s ≡ t
    states_same = λ j. record { procs = procs_same j; chans = sym stands.chans j }

    pub shows_alike : (used : ℕ) → (good_play i).shows used s ≡ (image_play i).shows used t
    shows_alike used = ap ((image_play i).shows used) states_same

  begins : StandsFor (IsBare i) (Anyway i) (first (image_play i)) (first (good_play i))
  begins = plays_alike.begin (good_main i) (first_process i) refl tt

  shows_too : (used : ℕ) (s : State (GoodProc i)) (t : State CodeProc) → StandsFor (IsBare i) (Anyway i) t s → (good_play i).shows used s ≡ (image_play i).shows used t
  shows_too used s t stands = shows_alike (Anyway i) s t stands used

  pub run_of_image : RunsAs (good_play i) (image_play i)
  run_of_image = λ turns run h. run_alike (good_play i) (image_play i) (IsBare i) (Anyway i) plays_alike begins shows_too turns run h

  pub follows_of_image : FollowsAs (good_play i) (image_play i)
  follows_of_image = λ slice choices history h. follows_alike (good_play i) (image_play i) (IsBare i) (Anyway i) plays_alike begins (λ g y is. ap code.is_local is) slice choices history h

  pub fair_of_image : IsFairAs (good_play i) (image_play i)
  fair_of_image = fair_alike (good_play i) (image_play i) (IsBare i) (Anyway i) plays_alike begins

  -- where it makes sense, what is served in turn is fair
  pub turns_are_fair : Typed i → (slice turns : ℕ) (run : Run) → IsRun (good_play i) turns run → Follows (good_play i) slice [] run.history.items → IsFair (image_play i) run.history.items (places_of run.paths.items)
  turns_are_fair t slice turns run r follows = fair_of_image run.history.items (places_of run.paths.items) (run_is_fair (good_play i) (lawful_play t) slice turns run r follows)

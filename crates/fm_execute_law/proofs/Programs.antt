-- A run of the image of a program is a run of the program.
use Rattle.std.proofs.Common.{◌≡◌, ℕ, List, [], Some, sym, subst, ◌∙◌}
use Rattle.std.specs.FinMap.{get}
use Rattle.fm_net.specs.Correspondence.{StandsFor}
use Rattle.fm_net.specs.Machine.{Place, State}
use Rattle.fm_net.specs.Owned.{main_alone}
use Rattle.fm_rules.specs.declared.program.Program.{Program}
use Rattle.fm_mean.specs.Process.{Proc}
use Rattle.fm_object.specs.declared.image.Image.{Image}
use Rattle.fm_object.specs.Texts.{IsObjectText}
use Rattle.fm_object.proofs.MalformedLaws.{one_object_text}
use Rattle.fm_image.specs.ImageOf.{image_of}
use Rattle.fm_gen.specs.Programs.{code_of}
use Rattle.fm_proc_language.specs.Processes.{CodeProc}
use Rattle.fm_proc_simulation.specs.Corresponds.{Corresponds, IsLive}
use Rattle.fm_proc_simulation.proofs.Alike.{machines_alike}
use Rattle.fm_proc_simulation.proofs.Asking.{local_alike}
use Rattle.fm_proc_simulation.proofs.FirstState.{first_stands}
use Rattle.fm_proc_simulation.proofs.Shows.{shows_alike}
use Rattle.fm_run.specs.Plays.{Play, first}
use Rattle.fm_run.specs.Programs.{play_of}
use Rattle.fm_run.proofs.Programs.{law_of}
use Rattle.fm_run_law.specs.Alike.{FollowsAs, RunsAs}
use Rattle.fm_run_law.specs.Fair.{IsRunInTurn}
use Rattle.fm_run_law.proofs.Reached.{run_is_fair}
use Rattle.fm_execute_image.specs.Play.{image_play}
use Rattle.fm_compile_law.proofs.Makes.{makes_sense}
use Rattle.fm_execute_law.specs.Compiled.{ExecutesAs, IsTextOf}
use Rattle.fm_execute_law.proofs.Back.{run_back}
use Rattle.fm_execute_law.proofs.Firsts.{first_same}
use Rattle.fm_execute_law.proofs.SameTexts.{same_object}
use Rattle.fm_execute_law.proofs.Shown.{outcome_same}
use Rattle.fm_execute_law.proofs.Turns.{follows_back}

module _ (p : Program) where
  abbrev plays : Play
  plays = image_play (image_of p (code_of p))

  begins : StandsFor (Corresponds p) (IsLive p) (first plays) (first (play_of p))
  begins =
      subst (λ (y : CodeProc). StandsFor (Corresponds p) (IsLive p) (main_alone y) (first (play_of p))) (sym (first_same p)) (first_stands p)

  shows : (used : ℕ) (s : State Proc) (t : State CodeProc) → StandsFor (Corresponds p) (IsLive p) t s → (play_of p).shows used s ≡ plays.shows used t
  shows used s t stands = sym (outcome_same p used t ∙ shows_alike p s t stands used)

  pub run_of_program : RunsAs plays (play_of p)
  run_of_program = λ turns run h. run_back (play_of p) plays (Corresponds p) (IsLive p) (machines_alike p) begins shows turns run h

  -- ---- in which order

  local : (s : State Proc) → IsLive p s → (c : Place) (x : Proc) (y : CodeProc) → get s.procs c ≡ Some x → Corresponds p y x → plays.is_local y ≡ (play_of p).is_local x
  local s live c x y is corresponds = local_alike p s live c x is y corresponds

  pub follows_program : FollowsAs plays (play_of p)
  follows_program = λ slice choices history h. follows_back (play_of p) plays (Corresponds p) (IsLive p) (machines_alike p) begins local slice choices history h

  -- ---- of its text

  pub object_executes : (bytes : List ℕ) → IsObjectText bytes (image_of p (code_of p)) → ExecutesAs bytes p
  object_executes bytes object = λ turns run h.
      let own : IsRunInTurn plays 1000 turns run = subst (λ (i : Image). IsRunInTurn (image_play i) 1000 turns run) (one_object_text bytes h.image (image_of p (code_of p)) h.object object) h.of_image in
      let runs = run_of_program turns run own.runs in
      let in_turn = follows_program 1000 [] run.history.items own.in_turn in
      record { runs = runs; in_turn = in_turn; fair = run_is_fair (play_of p) (law_of p) 1000 turns run runs in_turn }

  -- what is executed fits, and so the image is that of the program
  pub text_executes : (bytes : List ℕ) → IsTextOf p bytes → ExecutesAs bytes p
  text_executes bytes text = λ turns run h.
      object_executes bytes (same_object bytes (image_of p (code_of p)) h.image (makes_sense p text.named) text.object h.object) turns run h

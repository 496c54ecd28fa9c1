-- An image as what is run: its own machine, and the same over processes that are good where the image makes sense, which is lawful there.
-- Source: this profile; the Fortran M report (processes, channels, process blocks).
use Rattle.fm_finmap.specs.Map.{map_values}
use Rattle.fm_net.specs.Language.{Language}
use Rattle.fm_net.specs.Machine.{State}
use Rattle.fm_net.specs.Owned.{IsOwned}
use Rattle.fm_net_invariant.specs.Good.{IsLawfulWhere}
use Rattle.fm_net_invariant.specs.Kept as kept
use Rattle.fm_net_invariant.specs.Kept.{Kept, kept_language}
use Rattle.fm_object.specs.declared.image.Image.{Image}
use Rattle.fm_proc_language.specs.Needs.{is_local}
use Rattle.fm_proc_language.specs.Processes.{CodeProc, code_language}
use Rattle.fm_proc_invariant.specs.Good.{IsGood}
use Rattle.fm_proc_invariant.proofs.Lawful.{lawful_where}
use Rattle.fm_procs.specs.Readings.{awaits}
use Rattle.fm_image_typed.specs.Shapes.{shapes_of}
use Rattle.fm_image_typed.specs.Typed.{Typed}
use Rattle.fm_image_law.specs.Image.{first_process}
use Rattle.fm_image_law.proofs.First.{first_good}
use Rattle.fm_run.specs.Plays.{Play}
use Rattle.fm_execute_image.specs.Outcome.{outcome_of}

module _ (i : Image) where
  -- the PROGRAM alone, as a process of the image's code, and what stack code does then
  abbrev pub image_play : Play
  image_play = record {
    Proc = CodeProc;
    speaks = code_language;
    main = first_process i;
    awaits = awaits;
    is_local = is_local;
    shows = outcome_of i;
  }

  -- a process of stack code, and that it is good where the image makes sense
  abbrev pub GoodProc : Type 0
  GoodProc = Kept (Typed i) (IsGood (shapes_of i))

  abbrev pub account : Typed i → IsLawfulWhere code_language (IsGood (shapes_of i))
  account t = lawful_where (shapes_of i)

  abbrev pub good_speaks : Language GoodProc
  good_speaks = kept_language code_language (Typed i) (IsGood (shapes_of i)) account

  -- the process itself
  abbrev pub bare : GoodProc → CodeProc
  bare g = g.0

  -- a state as one of stack code
  abbrev pub bare_state : State GoodProc → State CodeProc
  bare_state s = record { procs = map_values bare s.procs; chans = s.chans }

  abbrev pub good_main : GoodProc
  good_main = (first_process i, λ t. first_good i t)

  abbrev pub good_play : Play
  good_play = record {
    Proc = GoodProc;
    speaks = good_speaks;
    main = good_main;
    awaits = λ g. awaits g.0;
    is_local = λ g. is_local g.0;
    shows = λ used s. outcome_of i used (bare_state s);
  }

  -- a process of stack code corresponds to the good one that it is
  abbrev pub IsBare : CodeProc → GoodProc → Type 0
  IsBare = kept.IsBare code_language (Typed i) (IsGood (shapes_of i))

  -- the image makes sense, and each port stands somewhere once
  pub record IsLive (s : State GoodProc) : Type 0 where
    pub typed : Typed i
    pub owned : IsOwned good_speaks s

  -- whatever it is
  abbrev pub Anyway : State GoodProc → Type 0
  Anyway s = Unit {0}

-- A piece of stack code leads from processes that stand for those of what is run to such.
use Rattle.std.proofs.Common.{◌≡◌, ℕ, Bool, true, false, Some, List, [], ◌++◌, replicate, refl, sym, ap, subst, ◌∙◌}
use Rattle.std.specs.Prelude.{slice_get}
use Rattle.fm_base.specs.declared.schedule.Turn.{Turn}
use Rattle.fm_net.specs.Correspondence.{StandsFor}
use Rattle.fm_net.specs.Machine.{Place, State}
use Rattle.fm_net.specs.Starts.{child_places, choices_of}
use Rattle.fm_proc_language.specs.Processes.{CodeProc}
use Rattle.fm_procs.specs.Kept.{AreKept}
use Rattle.fm_procs.specs.Pieces as code
use Rattle.fm_procs.specs.Readings.{CodeProcs, order_of, state_of}
use Rattle.fm_net_procs.specs.declared.piece.Piece.{Piece}
use Rattle.fm_run.specs.Entries.{EndsWith, with_piece}
use Rattle.fm_run.specs.Pieces as run
use Rattle.fm_run.specs.Plays.{Play, first}
use Rattle.fm_run.proofs.EntryLaws.{choices_joined}
use Rattle.fm_run_code.specs.Coded.{IsCoded}
use Rattle.fm_run_code.specs.Played.{played}
use Rattle.fm_run_code.specs.Sound.{IsSound}
use Rattle.fm_run_code.proofs.Pieces.{piece_alike, piece_stands}
use Rattle.fm_run_code.proofs.Histories.{named_more, played_are, played_more, played_none}

-- ---- before the first piece

pub sound_first : (p : Play) (Corresponds : CodeProc → p.Proc → Type 0) (IsLive : State p.Proc → Type 0) (stacks : CodeProcs)
    → StandsFor Corresponds IsLive (state_of stacks) (first p) → AreKept stacks.entries → IsSound p Corresponds IsLive stacks []
sound_first p Corresponds IsLive stacks begins kept = record {
  kept = kept;
  choices = [];
  named = refl;
  stands = subst (λ (s : State p.Proc). StandsFor Corresponds IsLive (state_of stacks) s) (sym (played_none p (order_of stacks.entries))) begins;
}

-- ---- a piece more

module _ (p : Play) (Corresponds : CodeProc → p.Proc → Type 0) (IsLive : State p.Proc → Type 0) (coded : IsCoded p Corresponds IsLive) (stacks : CodeProcs) (hs : List Turn) (sound : IsSound p Corresponds IsLive stacks hs) (number : ℕ) (q : Place) (who : slice_get (order_of stacks.entries) number ≡ Some q) (slice : ℕ) (spare : Bool) (r : Piece)
    (later : CodeProcs) (kept : AreKept later.entries) (piece : code.IsPiece slice spare (state_of stacks) q r (state_of later)) (order_is : order_of later.entries ≡ order_of stacks.entries ++ child_places q r.block 1 r.started)
    (joins : Bool) (ends : joins ≡ true → EndsWith hs number) (js : List Turn) (js_is : js ≡ with_piece joins hs number r.steps) where
  abbrev s : State p.Proc
  s = played p hs (order_of stacks.entries)

  -- the schedule with the piece as an entry of its own
  abbrev apart : List Turn
  apart = with_piece false hs number r.steps

  abbrev more : List Place
  more = sound.choices ++ replicate r.steps q

  apart_named : choices_of apart (order_of later.entries) ≡ Some more
  apart_named = named_more p hs (order_of stacks.entries) sound.choices sound.named number r.steps q who apart refl (child_places q r.block 1 r.started) (order_of later.entries) order_is

  all_named : choices_of js (order_of later.entries) ≡ Some more
  all_named = ap (λ (ts : List Turn). choices_of ts (order_of later.entries)) js_is ∙ go joins ends ∙ apart_named
    where
      go : (b : Bool) → (b ≡ true → EndsWith hs number) → choices_of (with_piece b hs number r.steps) (order_of later.entries) ≡ choices_of apart (order_of later.entries)
      go false e = refl
      go true e = choices_joined hs number r.steps (order_of later.entries) (e refl)

  leads : played p js (order_of later.entries) ≡ run.after_steps p s q r.steps
  leads =
      played_are p js (order_of later.entries) more all_named ∙ sym (played_are p apart (order_of later.entries) more apart_named)
      ∙ played_more p hs (order_of stacks.entries) sound.choices sound.named number r.steps q who apart refl (child_places q r.block 1 r.started) (order_of later.entries) order_is

  pub sound_after : IsSound p Corresponds IsLive later js
  sound_after = record {
    kept = kept;
    choices = more;
    named = all_named;
    stands =
        subst (λ (u : State p.Proc). StandsFor Corresponds IsLive (state_of later) u) (sym leads)
        (piece_stands p Corresponds IsLive coded s (state_of stacks) sound.stands q slice spare r (state_of later) piece);
  }

  pub piece_made : (w : Piece) → w ≡ record { steps = r.steps; cost = r.cost; block = r.block; started = r.started } → run.IsPiece p slice spare s q w (played p js (order_of later.entries))
  piece_made w w_is = piece_alike p Corresponds IsLive coded s (state_of stacks) sound.stands q slice spare r (state_of later) piece (played p js (order_of later.entries)) leads w w_is

-- A good process ends with its own frame, and what is kept there.
use Rattle.std.proofs.Common.{◌≡◌, ℕ, ◌+◌, ℤ, List, [], ◌∷◌, length, slice_get, sym, ap, subst, ◌∙◌, arith}
use Rattle.std.specs.List.{AllByRecursion}
use Rattle.fm_code.specs.declared.body.Body.{Body}
use Rattle.fm_code.specs.declared.body.Frame.{Frame}
use Rattle.fm_code.specs.declared.code.Span.{Span}
use Rattle.fm_code.specs.Passing.{ports_in}
use Rattle.fm_code.specs.Statements.{ports_of, start_ports, unit_at}
use Rattle.fm_code_kinds.specs.declared.sorts.Shapes.{Shapes}
use Rattle.fm_code_kinds.specs.Effects.{cells_of}
use Rattle.fm_code_preserves.specs.Rooms.{AreLaid, IsLaidCode, cells_at, is_port_word, port_spans}
use Rattle.fm_code_preserves.specs.Standing.{BelowStand, HasWords}
use Rattle.fm_code_preserves.specs.Weights.{masked, weight}
use Rattle.fm_code_preserves.proofs.Keeps.{frame_in, frames_in, starts_in}
use Rattle.fm_code_preserves.proofs.Masks.{weight-append}
use Rattle.fm_code_preserves.proofs.Sorted.{frame_weighs}
use Rattle.fm_proc_language.specs.Frames.{kept}
use Rattle.fm_proc_language.specs.Processes.{ended_frame, formals_in}
use Rattle.fm_proc_invariant.specs.Held.{KeepsSome}
use Rattle.fm_proc_invariant.proofs.Kept.{all_masked, keeps_some}

module _ (ss : Shapes) (b : Body) (laid : IsLaidCode ss b.code) where
  -- the last frame, and the port words that are let go
  pub record EndsSo (m : Frame) (below : List Frame) (e : Frame × List ℤ) : Type 0 where
    pub words : HasWords ss e.0
    pub weighs : (g : ℤ → ℕ) → weight g (frame_in b.code e.0) + weight g e.1 ≡ weight g (frame_in b.code m) + weight g (frames_in b.code below)

  frame_parts : (n : Frame) → HasWords ss n → (g : ℤ → ℕ) → weight g (frame_in b.code n) ≡ masked (is_port_word (cells_at ss n.unit)) g 0 n.words + weight g (starts_in b.code n.starts)
  frame_parts n has g =
      weight-append g (ports_in (ports_of (slice_get b.code.units n.unit)) n.words) (starts_in b.code n.starts)
      ∙ ap (λ k. k + weight g (starts_in b.code n.starts)) (frame_weighs ss b laid n.unit has.unit has.there n.words has.words g)

  -- the words of a frame of its own
  module _ (m : Frame) (has : HasWords ss m) where
    abbrev spans : List Span
    spans = ports_of (unit_at b m.unit)

    cells : cells_at ss m.unit ≡ has.unit.cells
    cells = ap cells_of has.there

    spans_are : spans ≡ port_spans (cells_at ss m.unit)
    spans_are =
        let c = laid.typed.unit m.unit has.unit has.there in
        ap ports_of c.1 ∙ (laid.units m.unit has.unit c.0 has.there c.1).ports ∙ ap port_spans (sym cells)

    cells_laid : AreLaid 0 (cells_at ss m.unit)
    cells_laid =
        let c = laid.typed.unit m.unit has.unit has.there in
        subst (AreLaid 0) (sym cells) (laid.units m.unit has.unit c.0 has.there c.1).laid

    pub some_kept : KeepsSome (is_port_word (cells_at ss m.unit)) m.words (kept (formals_in (unit_at b m.unit)) spans m.words)
    some_kept =
        subst (λ (l : List Span). KeepsSome (is_port_word (cells_at ss m.unit)) m.words (kept (formals_in (unit_at b m.unit)) l m.words)) (sym spans_are)
        (keeps_some (is_port_word (cells_at ss m.unit)) (formals_in (unit_at b m.unit)) (port_spans (cells_at ss m.unit)) m.words (all_masked (cells_at ss m.unit) (length m.words) cells_laid (omega (arith, has.words))))

  -- that all frames below have their words
  pub below_words : (m : Frame) (below : List Frame) → BelowStand ss b.code m below → AllByRecursion (HasWords ss) below
  below_words m [] h = tt
  below_words m (c ∷ below) h = (h.1, below_words c below h.3)

  pub ends_so : (below : List Frame) (m : Frame) → HasWords ss m → AllByRecursion (HasWords ss) below → EndsSo m below (ended_frame b m below)
  ends_so [] m has all =
      let k = kept (formals_in (unit_at b m.unit)) (ports_of (unit_at b m.unit)) m.words in
      let some = some_kept m has in
      let last : Frame = record m { words = k.0; results = []; starts = [] } in
      let words : HasWords ss last = record { unit = has.unit; there = has.there; words = some.same_count ∙ has.words; starts = tt } in
      record {
        words = words;
        weighs = λ g. omega (arith, frame_parts last words g, frame_parts m has g, some.weighs g, weight-append g k.1 (start_ports b m.starts));
      }
  ends_so (n ∷ below) m has all =
      let rest = ends_so below n all.0 all.1 in
      record {
        words = rest.words;
        weighs = λ g. omega (
          arith,
          rest.weighs g,
          weight-append g (frame_in b.code m) (ended_frame b n below).1,
          weight-append g (frame_in b.code n) (frames_in b.code below),
        );
      }

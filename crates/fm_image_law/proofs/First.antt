-- The process with which an image begins is good, and holds no port.
use Rattle.std.proofs.Common.{◌≡◌, ℕ, ◌+◌, ℤ, pos, Option, Some, None, List, [], ◌∷◌, ◌++◌, map, slice_get, refl, sym, ap, ◌∙◌, arith}
use Rattle.std.proofs.lemmas.List.{length-replicate}
use Rattle.fm_code.specs.declared.body.Body.{Body}
use Rattle.fm_code.specs.declared.body.Trips.{Trips}
use Rattle.fm_code.specs.Passing.{nulls, ports_in}
use Rattle.fm_code.specs.Statements.{ports_of, unit_at}
use Rattle.fm_code_kinds.specs.Effects.{cells_of}
use Rattle.fm_code_kinds.specs.Shapes.{words_of}
use Rattle.fm_object.specs.declared.image.Image.{Image}
use Rattle.fm_object.specs.declared.image.UnitImage.{UnitImage}
use Rattle.fm_image_typed.specs.Codes.{code_of, unit_of}
use Rattle.fm_image_typed.specs.Shapes.{shape_of, shapes_of}
use Rattle.fm_image_typed.specs.Typed.{Typed}
use Rattle.fm_code_preserves.specs.Rooms.{cells_at, is_port_word}
use Rattle.fm_code_preserves.specs.Standing.{HasWords, IsStanding}
use Rattle.fm_code_preserves.specs.Weights.{body_ports, weight}
use Rattle.fm_code_preserves.proofs.Masks.{masked_small, nulls_weigh, weight-append}
use Rattle.fm_code_preserves.proofs.Sorted.{frame_weighs}
use Rattle.fm_proc_language.specs.Slots.{no_slots, port_in}
use Rattle.fm_proc_language.specs.Processes.{Running, held}
use Rattle.fm_proc_invariant.specs.Moves.{same_word}
use Rattle.fm_proc_invariant.proofs.Children.{none_used}
use Rattle.fm_proc_invariant.specs.Good.{BodyIsGood, HasGoodBody, IsGood}
use Rattle.fm_image_law.specs.Image.{body_by, body_in, first_body, first_process, main_from}
use Rattle.fm_image_law.proofs.Laid.{code_laid, there}

module _ (i : Image) (t : Typed i) where
  module _ (n : ℕ) (u : UnitImage) (at : slice_get i.units n ≡ Some u) where
    shape_there : slice_get (shapes_of i).units n ≡ Some (shape_of u)
    shape_there = there shape_of i.units n u at

    unit_there : slice_get (code_of i).units n ≡ Some (unit_of u)
    unit_there = there unit_of i.units n u at

    cells : cells_at (shapes_of i) n ≡ (shape_of u).cells
    cells = ap cells_of shape_there

    abbrev b : Body
    b = first_body i n u

    abbrev no_trips : Option Trips
    no_trips = None

    standing : IsStanding (shapes_of i) (code_of i) 0 b.frame
    standing =
        let laid = code_laid i t in
        let kinds = laid.typed.kinds n (shape_of u) (unit_of u) shape_there unit_there in
        record {
          unit = shape_of u;
          there = shape_there;
          own = unit_of u;
          own_there = unit_there;
          lists = kinds.0;
          kinds = kinds.1;
          done = 0;
          inside = omega (arith, (laid.units n (shape_of u) (unit_of u) shape_there unit_there).begins);
          list = kinds.1.first;
          enough = omega arith;
          counts = omega (arith, length-replicate (unit_of u).loops no_trips);
        }

    has : HasWords (shapes_of i) b.frame
    has = record { unit = shape_of u; there = shape_there; words = length-replicate (unit_of u).words (pos 0) ∙ ap words_of (sym cells); starts = tt }

    -- nothing is in its words
    pub nothing_weighs : (g : ℤ → ℕ) → weight g (body_ports b) ≡ 0
    nothing_weighs g =
        let words = nulls (unit_of u).words in
        omega (
          arith,
          weight-append g (ports_in (ports_of (unit_at b n)) words ++ []) [],
          weight-append g (ports_in (ports_of (unit_at b n)) words) [],
          frame_weighs (shapes_of i) b (code_laid i t) n (shape_of u) shape_there words has.words g,
          masked_small (is_port_word (cells_at (shapes_of i) n)) g 0 words,
          nulls_weigh g (unit_of u).words,
        )

    body_good : BodyIsGood (shapes_of i) Running no_slots b
    body_good = record {
      laid = code_laid i t;
      words = has;
      fits = record { code = code_laid i t; frame = standing; words = has; below = tt };
      used = record { slots = none_used.slots; once = λ w. omega (arith, nothing_weighs (same_word w)) };
    }

  unit_good : (n : ℕ) (o : Option UnitImage) → slice_get i.units n ≡ o → HasGoodBody (shapes_of i) Running no_slots (body_in i n o)
  unit_good n None e = tt
  unit_good n (Some u) e = body_good n u e

  main_good : (o : Option ℕ) → HasGoodBody (shapes_of i) Running no_slots (body_by i o)
  main_good None = tt
  main_good (Some n) = unit_good n (slice_get i.units n) refl

  pub first_good : IsGood (shapes_of i) (first_process i)
  first_good = record { body = main_good (main_from 0 i.units) }

  -- a list that weighs nothing is empty
  empty_of : (ws : List ℤ) → ((g : ℤ → ℕ) → weight g ws ≡ 0) → ws ≡ []
  empty_of [] h = refl
  empty_of (w ∷ ws) h = absurd (omega (arith, h (λ v. 1)))

  pub first_holds : held (first_process i) ≡ []
  first_holds = go (main_from 0 i.units)
    where
      unit : (n : ℕ) (o : Option UnitImage) → slice_get i.units n ≡ o → held (record (first_process i) { body = body_in i n o }) ≡ []
      unit n None e = refl
      unit n (Some u) e = ap (map (port_in no_slots)) (empty_of (body_ports (first_body i n u)) (nothing_weighs n u e))

      go : (o : Option ℕ) → held (record (first_process i) { body = body_by i o }) ≡ []
      go None = refl
      go (Some n) = unit n (slice_get i.units n) refl

-- The process with which an image begins is its PROGRAM as a process of its code.
use Rattle.std.proofs.Common.{◌≡◌, ℕ, ◌*◌, Option, Some, None, unwrap_or, List, [], ◌∷◌, length, refl, sym, ap, ◌∙◌, arith}
use Rattle.std.specs.Prelude.{option_map, slice_get}
use Rattle.std.proofs.lemmas.Option.{slice_get-map, slice_get_past}
use Rattle.fm_code.specs.declared.body.Body.{Body}
use Rattle.fm_code.specs.Passing.{nulls}
use Rattle.fm_code.specs.Statements.{new_frame}
use Rattle.fm_net.specs.Owned.{main_alone}
use Rattle.fm_mean.specs.Steps.{nodes_of}
use Rattle.fm_object.specs.declared.image.Image.{Image}
use Rattle.fm_object.specs.declared.image.UnitImage.{UnitImage}
use Rattle.fm_image_typed.specs.Codes.{code_of, unit_of}
use Rattle.fm_image_typed.specs.Typed.{nodes}
use Rattle.fm_image_law.specs.Image.{body_by, body_in, first, main_from}
use Rattle.fm_shown.specs.First.{begun_in, first_process_of, process_of}

same_nodes : (es : List ℕ) → nodes es ≡ nodes_of es
same_nodes [] = refl
same_nodes (e ∷ []) = refl
same_nodes (e ∷ f ∷ es) = ap (λ (n : ℕ). e * n) (same_nodes (f ∷ es))

module _ (i : Image) where
  -- the unit on so many nodes
  abbrev begun_on : ℕ → UnitImage → ℕ → Option Body
  begun_on n u count = Some (record {
    code = code_of i;
    machine = record { first = 0; count = count };
    node = 0;
    frame = new_frame n (unit_of u) (nulls (unit_of u).words) [];
    below = [];
  })

  unit_begun : (n : ℕ) (o : Option UnitImage) → begun_in (code_of i) n (option_map unit_of o) ≡ body_in i n o
  unit_begun n None = refl
  unit_begun n (Some u) = ap (begun_on n u) (sym (same_nodes u.extents))

  -- the unit with the number, or no body where that is behind all units
  main_begun : (o : Option ℕ) → begun_in (code_of i) (unwrap_or o (length i.units)) (slice_get (code_of i).units (unwrap_or o (length i.units))) ≡ body_by i o
  main_begun None = ap (begun_in (code_of i) (length i.units)) (slice_get-map unit_of i.units (length i.units) ∙ ap (option_map unit_of) (slice_get_past i.units (length i.units) (omega arith)))
  main_begun (Some n) = ap (begun_in (code_of i) n) (slice_get-map unit_of i.units n) ∙ unit_begun n (slice_get i.units n)

  pub first_made : main_alone (first_process_of (code_of i) (unwrap_or (main_from 0 i.units) (length i.units))) ≡ first i
  first_made = ap (λ (b : Option Body). main_alone (process_of b)) (main_begun (main_from 0 i.units))

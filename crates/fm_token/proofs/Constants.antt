-- A constant is read as it is written.
use Rattle.std.proofs.Common.{◌≡◌, ◌↔◌, ℕ, Bool, true, false, cond, Option, Some, None, List, [], ◌∷◌, ◌++◌, refl, sym, ap, subst, ◌∙◌}
use Rattle.std.proofs.Math.Dec.{eqb}
use Rattle.std.proofs.lemmas.Bool.{eqb-true}
use Rattle.std.specs.List.{flat_map}
use Rattle.fm_base.specs.Tokens.{doubled, constant_text}
use Rattle.fm_token.proofs.Cuts.{front_split, from_empty}
use Rattle.fm_token.specs.Steps.{behind_items, constant_bytes}

written : List ℕ → List ℕ
written bytes = flat_map doubled bytes ++ 39 ∷ []

-- the three ways a byte may stand
step_plain : (b : ℕ) (bs : List ℕ) → eqb b 39 ≡ false → constant_bytes false (b ∷ bs) ≡ behind_items (b ∷ []) (constant_bytes false bs)
step_plain b bs e = rw e refl

step_first : (b : ℕ) (bs : List ℕ) → eqb b 39 ≡ true → constant_bytes false (b ∷ bs) ≡ behind_items [] (constant_bytes true bs)
step_first b bs e = rw e refl

step_second : (b : ℕ) (bs : List ℕ) → eqb b 39 ≡ true → constant_bytes true (b ∷ bs) ≡ behind_items (b ∷ []) (constant_bytes false bs)
step_second b bs e = rw e refl

step_stop : (b : ℕ) (bs : List ℕ) → eqb b 39 ≡ false → constant_bytes true (b ∷ bs) ≡ None
step_stop b bs e = rw e refl

doubled_plain : (b : ℕ) → eqb b 39 ≡ false → doubled b ≡ b ∷ []
doubled_plain b e = rw e refl

reads : (bytes : List ℕ) → constant_bytes false (written bytes) ≡ Some bytes
unfolding written
reads [] = refl
reads (b ∷ bs) =
    elim (eqb b 39) as (λ t. eqb b 39 ≡ t → constant_bytes false ((doubled b ++ flat_map doubled bs) ++ 39 ∷ []) ≡ Some (b ∷ bs)) [
      | true ↦ λ e. let is : b ≡ 39 = eqb-true b 39 e in
          subst (λ (x : ℕ). constant_bytes false ((doubled x ++ flat_map doubled bs) ++ 39 ∷ []) ≡ Some (x ∷ bs)) (sym is)
          (ap (λ (o : Option (List ℕ)). behind_items [] (behind_items (39 ∷ []) o)) (reads bs))
      | false ↦ λ e.
          ap (λ (d : List ℕ). constant_bytes false ((d ++ flat_map doubled bs) ++ 39 ∷ [])) (doubled_plain b e)
          ∙ step_plain b (flat_map doubled bs ++ 39 ∷ []) e ∙ ap (behind_items (b ∷ [])) (reads bs)
    ] refl

-- what was read, an apostrophe that waits included
read : Bool → List ℕ → List ℕ
read waiting bs = cond waiting (39 ∷ bs) bs

is_written : (bs : List ℕ) (waiting : Bool) (bytes : List ℕ) → constant_bytes waiting bs ≡ Some bytes → read waiting bs ≡ written bytes
unfolding read written
is_written [] true bytes e = let is : [] ≡ bytes = cc in ap written is
is_written [] false bytes e = cc
is_written (b ∷ bs) true bytes e =
    elim (eqb b 39) as (λ t. eqb b 39 ≡ t → 39 ∷ b ∷ bs ≡ written bytes) [
      | true ↦ λ m.
          let f = front_split b (constant_bytes false bs) bytes (sym (step_second b bs m) ∙ e) in
          let is : b ≡ 39 = eqb-true b 39 m in
          ap (λ (x : ℕ). 39 ∷ x ∷ bs) is ∙ ap (λ (x : List ℕ). 39 ∷ 39 ∷ x) (is_written bs false f.0 f.1)
          ∙ sym (ap written (f.2 ∙ ap (λ (x : ℕ). x ∷ f.0) is))
      | false ↦ λ m. let clash : None ≡ Some bytes = sym (step_stop b bs m) ∙ e in cc
    ] refl
is_written (b ∷ bs) false bytes e =
    elim (eqb b 39) as (λ t. eqb b 39 ≡ t → b ∷ bs ≡ written bytes) [
      | true ↦ λ m.
          ap (λ (x : ℕ). x ∷ bs) (eqb-true b 39 m) ∙ is_written bs true bytes (from_empty [] bytes (constant_bytes true bs) refl (sym (step_first b bs m) ∙ e))
      | false ↦ λ m.
          let f = front_split b (constant_bytes false bs) bytes (sym (step_plain b bs m) ∙ e) in
          ap (λ (x : List ℕ). b ∷ x) (is_written bs false f.0 f.1)
          ∙ sym (ap written f.2 ∙ ap (λ (d : List ℕ). (d ++ flat_map doubled f.0) ++ 39 ∷ []) (doubled_plain b m))
    ] refl

pub as_written : (behind bytes : List ℕ) → (constant_bytes false behind ≡ Some bytes) ↔ (39 ∷ behind ≡ constant_text bytes)
unfolding written read
as_written behind bytes = (
  λ e. ap (λ (x : List ℕ). 39 ∷ x) (is_written behind false bytes e),
  λ e. let is : behind ≡ written bytes = cc in ap (constant_bytes false) is ∙ reads bytes,
)

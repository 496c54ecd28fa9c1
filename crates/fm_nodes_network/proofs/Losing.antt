-- A thing that is lost.
use Rattle.std.proofs.Common.{◌≡◌, ℕ, zero, suc, ◌<◌, List, [], ◌∷◌, map, length, slice_get, Some, option_map, refl, sym, ap, ◌∙◌, arith}
use Rattle.std.specs.List.{remove}
use Rattle.fm_link_law.specs.Hosts.{Hosts, Carried, lost, without_at}

removed : {X Y : Type 0} (f : X → Y) (xs : List X) (k : ℕ) → map f (remove xs k) ≡ without_at (map f xs) k
removed f [] zero = refl
removed f [] (suc k) = refl
removed f (x ∷ xs) zero = refl
removed f (x ∷ xs) (suc k) = ap (λ ys. f x ∷ ys) (removed f xs k)

there : {X Y : Type 0} (f : X → Y) (xs : List X) (k : ℕ) → k < length xs → (y : Y) × (slice_get (map f xs) k ≡ Some y)
there f [] k within = absurd (omega (arith, within))
there f (x ∷ xs) zero within = (f x, refl)
there f (x ∷ xs) (suc k) within = there f xs k (omega (arith, within))

module _ {X Proc : Type 0} (f : X → Carried) (h : Hosts Proc) (xs ys : List X) (k : ℕ) (wire : h.wire ≡ map f xs) where
  pub loses : k < length xs → ys ≡ remove xs k → lost h k ≡ Some (record { procs = h.procs; channels = h.channels; wire = map f ys })
  loses within is =
      let at = there f xs k within in
      ap (λ o. option_map (λ (e : Carried). record { procs = h.procs; channels = h.channels; wire = without_at h.wire k }) o) (ap (λ w. slice_get w k) wire ∙ at.1)
      ∙ ap (λ w. Some (record { procs = h.procs; channels = h.channels; wire = w })) (ap (λ w. without_at w k) wire ∙ sym (removed f xs k) ∙ ap (map f) (sym is))

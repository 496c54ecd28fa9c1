-- Ports that leave slots to which no other port comes: the slots hold what they hold where they are noted as free.
use Rattle.std.proofs.Common.{◌≡◌, ℕ, zero, suc, ℤ, Option, Some, None, List, [], ◌∷◌, slice_get, slice_set, refl, ap}
use Rattle.fm_base.specs.declared.port.PortValue.{PortValue}
use Rattle.fm_net.specs.Typed.{AllIn}
use Rattle.fm_proc_language.specs.Slots.{Slots, before, left, all_left, drained, all_drained}

same_ports : (zs : List ℤ) (s t : Slots) → s.ports ≡ t.ports → (all_drained s zs).ports ≡ (all_left t zs).ports
same_ports [] s t e = e
same_ports (z ∷ zs) s t e = same_ports zs (drained s z) (left t z) (ap (λ (l : List (Option PortValue)). slice_set l (before z) None) e)

pub drained_ports : (zs : List ℤ) (s : Slots) → (all_drained s zs).ports ≡ (all_left s zs).ports
drained_ports zs s = same_ports zs s s refl

-- where nothing stood, nothing stands
none_there : (ports : List (Option PortValue)) (k j : ℕ) → slice_get ports j ≡ Some None → slice_get (slice_set ports k None) j ≡ Some None
none_there [] k j e = absurd (cc)
none_there (x ∷ ports) zero zero e = refl
none_there (x ∷ ports) zero (suc j) e = e
none_there (x ∷ ports) (suc k) zero e = e
none_there (x ∷ ports) (suc k) (suc j) e = none_there ports k j e

pub still_free : (ports : List (Option PortValue)) (k : ℕ) (js : List ℕ) → AllIn (λ (j : ℕ). slice_get ports j ≡ Some None) js → AllIn (λ (j : ℕ). slice_get (slice_set ports k None) j ≡ Some None) js
still_free ports k [] all = tt
still_free ports k (j ∷ js) all = (none_there ports k j all.0, still_free ports k js all.1)

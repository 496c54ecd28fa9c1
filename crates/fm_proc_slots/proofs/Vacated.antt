-- Ports that leave one after the other: they depend on the ports that stand there, and not on the free slots.
use Rattle.std.proofs.Common.{◌≡◌, refl, ℤ, List, [], ◌∷◌, ◌++◌, option_to_list, ap, ap₂, sym, append_assoc, ◌∙◌}
use Rattle.std.proofs.lemmas.List.Elements.{filter-append}
use Rattle.fm_base.specs.declared.port.PortValue.{PortValue}
use Rattle.fm_code.specs.Passing.{is_port, live}
use Rattle.fm_proc_language.specs.Slots.{Slots, all_left, in_slot, left, vacated}
use Rattle.fm_proc_slots.specs.Joins.{SamePorts}
use Rattle.fm_proc_slots.proofs.Alike.{same_in_slot, same_left}

pub same_vacated : (zs : List ℤ) (s t : Slots) → SamePorts s t → vacated s zs ≡ vacated t zs
same_vacated [] s t e = refl
same_vacated (z ∷ zs) s t e =
    ap₂ (λ (o l : List PortValue). o ++ l) (ap option_to_list (same_in_slot s t z e)) (same_vacated zs (left s z) (left t z) (same_left s t z e))

pub same_all_left : (zs : List ℤ) (s t : Slots) → SamePorts s t → SamePorts (all_left s zs) (all_left t zs)
same_all_left [] s t e = e
same_all_left (z ∷ zs) s t e = same_all_left zs (left s z) (left t z) (same_left s t z e)

pub vacated-append : (ys zs : List ℤ) (s : Slots) → vacated s (ys ++ zs) ≡ vacated s ys ++ vacated (all_left s ys) zs
vacated-append [] zs s = refl
vacated-append (y ∷ ys) zs s =
    ap (λ (l : List PortValue). option_to_list (in_slot s y) ++ l) (vacated-append ys zs (left s y)) ∙ sym (append_assoc (option_to_list (in_slot s y)) (vacated (left s y) ys) (vacated (all_left (left s y) ys) zs))

pub all_left-append : (ys zs : List ℤ) (s : Slots) → all_left s (ys ++ zs) ≡ all_left (all_left s ys) zs
all_left-append [] zs s = refl
all_left-append (y ∷ ys) zs s = all_left-append ys zs (left s y)

-- what leaves from here, and the ports that stay
pub record LeavesOn (s : Slots) (out : List PortValue) (zs : List ℤ) (all : List PortValue) (end : Slots) : Type 0 where
  pub drops : out ++ vacated s (live zs) ≡ all
  pub slots : SamePorts end (all_left s (live zs))

pub left_one : (s t end : Slots) (out out' all : List PortValue) (rest zs : List ℤ) (y z : ℤ) → rest ≡ z ∷ zs → y ≡ z → out' ≡ out ++ vacated s (live (y ∷ [])) → SamePorts (all_left s (live (y ∷ []))) t →
    out ++ vacated s (live rest) ≡ all → SamePorts end (all_left s (live rest)) → LeavesOn t out' zs all end
left_one s t end out out' all rest zs y z e k f g h i =
    let one = live (y ∷ []) in
    let first : rest ≡ y ∷ zs = e ∙ ap (λ (x : ℤ). x ∷ zs) (sym k) in
    let parts : live rest ≡ one ++ live zs = ap live first ∙ filter-append is_port (y ∷ []) zs in
    let mid = all_left s one in
    record {
      drops = ap₂ (λ (o l : List PortValue). o ++ l) f (sym (same_vacated (live zs) mid t g))
          ∙ (append_assoc out (vacated s one) (vacated mid (live zs))
          ∙ (ap (λ (l : List PortValue). out ++ l) (sym (vacated-append one (live zs) s)) ∙ (ap (λ (l : List ℤ). out ++ vacated s l) (sym parts) ∙ h)));
      slots = i ∙ (ap (λ (l : List ℤ). (all_left s l).ports) parts ∙ (ap (λ (x : Slots). x.ports) (all_left-append one (live zs) s) ∙ same_all_left (live zs) mid t g));
    }

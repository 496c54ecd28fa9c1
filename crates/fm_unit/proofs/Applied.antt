-- Names with a list in parentheses, one after the other.
use Rattle.std.proofs.Common.{◌≡◌, ◌+◌, true, false, cond, List, [], ◌∷◌, ◌++◌, sym, ◌∙◌, append_assoc}
use Rattle.std.proofs.lemmas.List.{append-nil}
use Rattle.std.specs.Prelude.{if◌then◌else◌}
use Rattle.fm_tree.specs.Tree.{Tree}
use Rattle.fm_tree.specs.References.{applied_name, places_where}
use Rattle.fm_rules.specs.Applied.{visited}
use Rattle.fm_unit.specs.Finding.{with_name}
use Rattle.fm_rules.specs.UnitTitles.{is_function_named}
use Rattle.fm_unit.specs.declared.references.Finding.{Finding}

-- those that are references of functions stand behind what was found
pub places_found : (found : Finding) (ts : List Tree)
    → (visited (λ v n t. with_name v n) found ts).places ≡ found.places ++ places_where (is_function_named found.titles.now) found.next ts
places_found found [] = sym (append-nil found.places)
places_found found (t ∷ ts) =
    let test = is_function_named found.titles.now in
    let next = found.next in
    elim (test (applied_name t)) as (λ b. (visited (λ v n t. with_name v n) (record found { next = next + 1; places = if b then found.places ++ next ∷ [] else found.places }) ts).places
    ≡ found.places ++ cond b (next ∷ places_where test (next + 1) ts) (places_where test (next + 1) ts)) [
      | true ↦ places_found (record found { next = next + 1; places = found.places ++ next ∷ [] }) ts ∙ append_assoc found.places (next ∷ []) (places_where test (next + 1) ts)
      | false ↦ places_found (record found { next = next + 1; places = found.places }) ts
    ]

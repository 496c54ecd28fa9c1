-- The statements of an unfinished unit, put before the units to come.
use Rattle.std.proofs.Common.{append_assoc, ◌≡◌, Bool, true, false, List, [], ◌∷◌, ◌++◌, refl, sym, ◌∙◌, ap}
use Rattle.std.specs.Prelude.{if◌then◌else◌}
use Rattle.fm_tree.specs.declared.program_unit.Placed.{Placed}
use Rattle.fm_tree.specs.Structure.{form_of, is_end}
use Rattle.fm_tree.specs.Units.{cut_of, put_first}

abbrev pub join : List Placed → List (List Placed) → List (List Placed)
join [] us = us
join (p ∷ ps) us = put_first p (join ps us)

pub join_unit : (ps u : List Placed) (us : List (List Placed)) → join ps (u ∷ us) ≡ (ps ++ u) ∷ us
join_unit [] u us = refl
join_unit (p ∷ ps) u us = ap (put_first p) (join_unit ps u us)

pub join_push : (ps : List Placed) (p : Placed) (us : List (List Placed)) → join (ps ++ p ∷ []) us ≡ join ps (put_first p us)
join_push [] p us = refl
join_push (q ∷ ps) p us = ap (put_first q) (join_push ps p us)

pub join_rest : (p : Placed) (ps : List Placed) → join (p ∷ ps) [] ≡ (p ∷ ps) ∷ []
join_rest p [] = refl
join_rest p (q ∷ ps) = ap (put_first p) (join_rest q ps)

-- a statement that ends no unit
pub join_stays : (units : List (List Placed)) (unit : List Placed) (p : Placed) (rest : List Placed) → is_end (form_of p.stmt) ≡ false
    → units ++ join (unit ++ p ∷ []) (cut_of rest) ≡ units ++ join unit (cut_of (p ∷ rest))
join_stays units unit p rest e =
    ap (λ us. units ++ us) (join_push unit p (cut_of rest) ∙ ap (λ (b : Bool). join unit (if b then (p ∷ []) ∷ cut_of rest else put_first p (cut_of rest))) (sym e))

-- a statement that ends a unit
pub join_ends : (units : List (List Placed)) (unit : List Placed) (p : Placed) (rest : List Placed) → is_end (form_of p.stmt) ≡ true
    → (units ++ (unit ++ p ∷ []) ∷ []) ++ cut_of rest ≡ units ++ join unit (cut_of (p ∷ rest))
join_ends units unit p rest e =
    append_assoc units ((unit ++ p ∷ []) ∷ []) (cut_of rest)
    ∙ ap (λ us. units ++ us) (sym (join_unit unit (p ∷ []) (cut_of rest)) ∙ ap (λ (b : Bool). join unit (if b then (p ∷ []) ∷ cut_of rest else put_first p (cut_of rest))) (sym e))

-- what is left at the end
pub join_last : (unit : List Placed) → (unit ≡ [] → ⊥) → join unit [] ≡ unit ∷ []
join_last [] ne = absurd (ne refl)
join_last (p ∷ ps) ne = join_rest p ps

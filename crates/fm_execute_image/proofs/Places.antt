-- One more formal, behind those of the places before.
use Rattle.std.proofs.Common.{◌≡◌, ℕ, zero, suc, ◌+◌, List, ◌++◌, sym, ap, ◌∙◌, arith}
use Rattle.std.proofs.lemmas.List.{append-nil, append_assoc}
use Rattle.fm_code.specs.declared.code.Formal.{Formal}
use Rattle.fm_code_kinds.specs.declared.sorts.Cell.{Cell}
use Rattle.fm_code_kinds.specs.Shapes.{formal_at}
use Rattle.fm_image_typed.specs.Codes.{formal_in, formals_from}

one_more : (cs : List Cell) (place many : ℕ) → formals_from cs place (suc many) ≡ formals_from cs place many ++ formal_in (formal_at cs (many + place))
one_more cs place zero =
    let same : place ≡ 0 + place = omega arith in
    append-nil (formal_in (formal_at cs place)) ∙ ap (λ (m : ℕ). formal_in (formal_at cs m)) same
one_more cs place (suc n) =
    let here = formal_in (formal_at cs place) in
    let same : n + suc place ≡ suc n + place = omega arith in
    ap (λ (fs : List Formal). here ++ fs) (one_more cs (suc place) n)
    ∙ sym (append_assoc here (formals_from cs (suc place) n) (formal_in (formal_at cs (n + suc place))))
    ∙ ap (λ (m : ℕ). (here ++ formals_from cs (suc place) n) ++ formal_in (formal_at cs m)) same

pub next_formal : (cs : List Cell) (before : ℕ) (old new : List Formal) → old ≡ formals_from cs 1 before → new ≡ old ++ formal_in (formal_at cs (before + 1)) → new ≡ formals_from cs 1 (before + 1)
next_formal cs before old new is added =
    let up : suc before ≡ before + 1 = omega arith in
    added ∙ ap (λ (fs : List Formal). fs ++ formal_in (formal_at cs (before + 1))) is
    ∙ sym (one_more cs 1 before) ∙ ap (formals_from cs 1) up

-- The items of a message as they are cut, one behind the other.
use Rattle.std.proofs.Common.{◌≡◌, List, [], ◌∷◌, ◌++◌, length, Result, Ok, Err, refl, sym, ap, ◌∙◌, append_assoc, append-nil, arith}
use Rattle.fm_base.specs.declared.fault.Fault.{Fault}
use Rattle.fm_tree.specs.PortFields.{PortFields, NoFields, FieldThen}
use Rattle.fm_mean.specs.Operands.{◌>>=◌}
use Rattle.fm_mean.specs.declared.place.Actual.{Actual}
use Rattle.fm_mean.specs.Actions.{cut_item, cut_items}
use Rattle.fm_plain.specs.Cutting.{behind_cut, first_size, later_fields}

-- the first item, and then the others
next_cut : (done : List Actual) (fields : PortFields) (a : Actual) (more : List Actual)
    → cut_items done fields (a ∷ more) ≡ (cut_item done (first_size fields) a >>= λ i. cut_items (done ++ i ∷ []) (later_fields fields) more >>= λ is. Ok (i ∷ is))
next_cut done NoFields a more = refl
next_cut done (FieldThen kind name bounds rest) a more = refl

one_more : (done : List Actual) (i : Actual) (m : Result (List Actual) Fault) → behind_cut done (m >>= λ is. Ok (i ∷ is)) ≡ behind_cut (done ++ i ∷ []) m
one_more done i (Ok is) = ap Ok (sym (append_assoc done (i ∷ []) is))
one_more done i (Err fault) = refl

pub cuts_next : (done after : List Actual) (fields later : PortFields) (a i : Actual) (old more : List Actual) (all : Result (List Actual) Fault)
    → old ≡ a ∷ more → Ok i ≡ cut_item done (first_size fields) a → later ≡ later_fields fields → after ≡ done ++ i ∷ []
    → behind_cut done (cut_items done fields old) ≡ all → behind_cut after (cut_items after later more) ≡ all
cuts_next done after fields later a i old more all items cut behind put is =
    ap (λ (l : List Actual). behind_cut l (cut_items l later more)) put
    ∙ ap (λ (l : PortFields). behind_cut (done ++ i ∷ []) (cut_items (done ++ i ∷ []) l more)) behind
    ∙ sym (one_more done i (cut_items (done ++ i ∷ []) (later_fields fields) more))
    ∙ ap (λ (r : Result Actual Fault). behind_cut done (r >>= λ j. cut_items (done ++ j ∷ []) (later_fields fields) more >>= λ is. Ok (j ∷ is))) cut
    ∙ ap (behind_cut done) (sym (next_cut done fields a more))
    ∙ ap (λ (l : List Actual). behind_cut done (cut_items done fields l)) (sym items)
    ∙ is

nothing_left : (done : List Actual) (fields : PortFields) → behind_cut done (cut_items done fields []) ≡ Ok done
nothing_left done NoFields = ap Ok (append-nil done)
nothing_left done (FieldThen kind name bounds rest) = ap Ok (append-nil done)

pub cuts_all : (done : List Actual) (fields : PortFields) (old : List Actual) (all : Result (List Actual) Fault) → length old ≡ 0 → behind_cut done (cut_items done fields old) ≡ all → all ≡ Ok done
cuts_all done rest [] all none is = sym is ∙ nothing_left done rest
cuts_all done rest (a ∷ more) all none is = absurd (omega (arith, none))

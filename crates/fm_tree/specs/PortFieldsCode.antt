-- A code of types of ports: the marks of their postfix order.
-- Source: the postfix order of a tree, as usual.
use Rattle.std.specs.Prelude.{◌≡◌, ℕ, ◌==◌, if◌then◌else◌, Option, None, List, [], ◌∷◌, ◌++◌, refl}
use Rattle.std.specs.Coded.{Coded, code_by, coded_list, coded_option, coded×, coded_ℕ}
use Rattle.std.proofs.Common.{ap, sym, ◌∙◌, append_assoc}
use Rattle.std.proofs.lemmas.List.{append-nil}
use Rattle.fm_tree.specs.Tree.{Tree}
use Rattle.fm_tree.specs.TreeCode.{tree_code}
use Rattle.fm_tree.specs.declared.port_type.Bound.{Bound}
use Rattle.fm_tree.specs.PortFields.{PortFields, FieldKind, NoFields, FieldThen, Integer, Logical, In, Out}

abbrev pub bound_code : Coded Bound
bound_code =
    code_by (Option Tree × Tree) (coded× (coded_option tree_code) tree_code) (λ b. (b.low, b.high)) (λ p. record { low = p.0; high = p.1 }) (λ _. refl)

-- what is put together, and the name and the bounds of a field; where there are none, any
abbrev Mark : Type 0
Mark = ℕ × (Option (List ℕ) × List Bound)

abbrev mark : ℕ → Mark
mark kind = (kind, (None, []))

abbrev mutual
  postfix : PortFields → List Mark
  postfix NoFields = mark 0 ∷ []
  postfix (FieldThen kind name bounds rest) = kind_postfix kind ++ (postfix rest ++ (1, (name, bounds)) ∷ [])

  kind_postfix : FieldKind → List Mark
  kind_postfix Integer = mark 2 ∷ []
  kind_postfix Logical = mark 3 ∷ []
  kind_postfix (In fields) = postfix fields
  kind_postfix (Out fields) = postfix fields ++ mark 4 ∷ []

-- on the stack a list of fields stands as the kind of an inport
abbrev fields_of : FieldKind → PortFields
fields_of Integer = NoFields
fields_of Logical = NoFields
fields_of (In fields) = fields
fields_of (Out fields) = fields

abbrev turned : List FieldKind → List FieldKind
turned [] = []
turned (k ∷ st) = Out (fields_of k) ∷ st

abbrev joined : Option (List ℕ) → List Bound → List FieldKind → List FieldKind
joined name bounds [] = []
joined name bounds (rest ∷ []) = []
joined name bounds (rest ∷ kind ∷ st) = In (FieldThen kind name bounds (fields_of rest)) ∷ st

abbrev put : ℕ → Option (List ℕ) → List Bound → List FieldKind → List FieldKind
put k name bounds st =
    if k == 0 then In NoFields ∷ st
    else if k == 1 then joined name bounds st
    else if k == 2 then Integer ∷ st
    else if k == 3 then Logical ∷ st
    else turned st

abbrev run : List Mark → List FieldKind → List FieldKind
run [] st = st
run (m ∷ ms) st = run ms (put m.0 m.1.0 m.1.1 st)

abbrev top : List FieldKind → PortFields
top [] = NoFields
top (k ∷ ks) = fields_of k

mutual
  runs : (p : PortFields) (ms : List Mark) (st : List FieldKind) → run (postfix p ++ ms) st ≡ run ms (In p ∷ st)
  runs NoFields ms st = refl
  runs (FieldThen kind name bounds rest) ms st =
      ap (λ l. run l st) (append_assoc (kind_postfix kind) (postfix rest ++ (1, (name, bounds)) ∷ []) ms)
      ∙ kind_runs kind ((postfix rest ++ (1, (name, bounds)) ∷ []) ++ ms) st
      ∙ ap (λ l. run l (kind ∷ st)) (append_assoc (postfix rest) ((1, (name, bounds)) ∷ []) ms)
      ∙ runs rest ((1, (name, bounds)) ∷ ms) (kind ∷ st)

  kind_runs : (k : FieldKind) (ms : List Mark) (st : List FieldKind) → run (kind_postfix k ++ ms) st ≡ run ms (k ∷ st)
  kind_runs Integer ms st = refl
  kind_runs Logical ms st = refl
  kind_runs (In fields) ms st = runs fields ms st
  kind_runs (Out fields) ms st = ap (λ l. run l st) (append_assoc (postfix fields) (mark 4 ∷ []) ms) ∙ runs fields (mark 4 ∷ ms) st

pub back : (p : PortFields) → top (run (postfix p) []) ≡ p
back p = ap (λ l. top (run l [])) (sym (append-nil (postfix p))) ∙ ap top (runs p [] [])

abbrev pub port_fields_code : Coded PortFields
port_fields_code =
    code_by (List Mark) (coded_list (coded× coded_ℕ (coded× (coded_option (coded_list coded_ℕ)) (coded_list bound_code)))) postfix (λ ms. top (run ms [])) back

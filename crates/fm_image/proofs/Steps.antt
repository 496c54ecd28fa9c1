-- Steps of going over fields, variables and units: what is made so far, and what the rest still makes of it.
use Rattle.std.proofs.Common.{◌≡◌, ℕ, zero, suc, ◌+◌, ◌<◌, ◌≤◌, Option, Some, None, Result, Ok, Err, List, [], ◌∷◌, ◌++◌, length, drop, slice_get, slice_index_or, refl, sym, ap, subst, ◌∙◌, append_assoc, drop-cons, arith}
use Rattle.std.specs.Prelude.{IfOk, OnOk}
use Rattle.std.proofs.lemmas.List.{append-nil}
use Rattle.fm_base.specs.declared.memory.NoMemory.{NoMemory}
use Rattle.fm_tree.specs.PortFields.{PortFields}
use Rattle.fm_tree.specs.PortReading.{fields_of, kind_of}
use Rattle.fm_tree.specs.declared.port_type.Field.{Field}
use Rattle.fm_tree.specs.declared.program_unit.Unit as tree
use Rattle.fm_symbols.specs.declared.names.UnitNames.{UnitNames}
use Rattle.fm_symbols.specs.declared.names.Variable.{Variable}
use Rattle.fm_rules.specs.PortTypes.{sizing_place}
use Rattle.fm_code.specs.declared.code.Unit as code_unit
use Rattle.fm_object.specs.declared.image.Cell.{Cell}
use Rattle.fm_object.specs.declared.image.FieldImage.{FieldImage}
use Rattle.fm_object.specs.declared.image.UnitImage.{UnitImage}
use Rattle.fm_image.specs.ImageOf.{cell_image, cells_image, units_image}
use Rattle.fm_image.specs.Made.{unit_by, unit_with}
use Rattle.fm_image.specs.Types.{field_with, fields_image, needed_all, needed_among, needed_by, needed_in, number_of, type_number, with_type}
use Rattle.fm_image.proofs.Needed.{Extends, all_extends, among_extends, by_found, in_extends, kind_stays, number_named}

abbrev Types : Type 0
Types = List (List FieldImage)

-- from a place on
pub at_place : {X : Type 0} (xs : List X) (i : ℕ) (x : X) → i < length xs → x ≡ slice_index_or xs i x → drop i xs ≡ x ∷ drop (i + 1) xs
at_place xs i x less e =
    let one : suc i ≡ i + 1 = omega arith in
    drop-cons xs i x less ∙ (λ j. sym e j ∷ drop (one j) xs)

-- ---- fields

pub record FieldsGo (was now : Types) (images : List FieldImage) (rest all : List Field) : Type 0 where
  pub types : needed_in now (fields_of rest) ≡ needed_in was (fields_of all)
  pub fields : images ++ fields_image (needed_in was (fields_of all)) (fields_of rest) ≡ fields_image (needed_in was (fields_of all)) (fields_of all)

pub fields_begin : (was : Types) (all : List Field) → FieldsGo was was [] all all
fields_begin was all = record { types = refl; fields = refl }

fields_next : (was now ts : Types) (images : List FieldImage) (f : Field) (rest all : List Field) (image : FieldImage) → FieldsGo was now images (f ∷ rest) all → ts ≡ needed_by now (kind_of f.kind)
    → image ≡ field_with (kind_of f.kind) (type_number ts (kind_of f.kind)) f.bounds (sizing_place f.bounds) → FieldsGo was ts (images ++ image ∷ []) rest all
fields_next was now ts images f rest all image h t e =
    let k = kind_of f.kind in
    let last = needed_in was (fields_of all) in
    let ends : Extends (needed_by now k) last = subst (Extends (needed_by now k)) h.types (in_extends (needed_by now k) (fields_of rest)) in
    let stays = (kind_stays (needed_by now k) last k ends (by_found now k)).0 in
    let same : image ≡ field_with k (type_number last k) f.bounds (sizing_place f.bounds) = e ∙ ap (λ (n : ℕ). field_with k n f.bounds (sizing_place f.bounds)) (ap (λ (x : Types). type_number x k) t ∙ sym stays) in
    record {
      types = ap (λ (x : Types). needed_in x (fields_of rest)) t ∙ h.types;
      fields = append_assoc images (image ∷ []) (fields_image last (fields_of rest)) ∙ ap (λ (x : FieldImage). images ++ x ∷ fields_image last (fields_of rest)) same ∙ h.fields;
    }

pub fields_at : (was now ts : Types) (images : List FieldImage) (f : Field) (here rest all : List Field) (image : FieldImage) → here ≡ f ∷ rest → FieldsGo was now images here all → ts ≡ needed_by now (kind_of f.kind)
    → image ≡ field_with (kind_of f.kind) (type_number ts (kind_of f.kind)) f.bounds (sizing_place f.bounds) → FieldsGo was ts (images ++ image ∷ []) rest all
fields_at was now ts images f here rest all image is h t e = fields_next was now ts images f rest all image (subst (λ (l : List Field). FieldsGo was now images l all) is h) t e

-- a port's type behind those that it needs, and its number
pub put_port : (was now last : Types) (p : PortFields) (fs : List FieldImage) → now ≡ needed_in was p → fs ≡ fields_image now p → last ≡ with_type now fs → last ≡ with_type (needed_in was p) (fields_image (needed_in was p) p)
put_port was now last p fs t e l = l ∙ ap (λ (x : Types). with_type x fs) t ∙ ap (with_type (needed_in was p)) (e ∙ ap (λ (x : Types). fields_image x p) t)

pub put_number : (was now last : Types) (p : PortFields) (fs : List FieldImage) (n : ℕ) → now ≡ needed_in was p → fs ≡ fields_image now p → last ≡ with_type now fs → n ≡ number_of last fs → n ≡ number_of last (fields_image last p)
put_number was now last p fs n t e l m =
    let us = needed_in was p in
    let is = put_port was now last p fs t e l in
    let same : fs ≡ fields_image us p = e ∙ ap (λ (x : Types). fields_image x p) t in
    m ∙ ap (number_of last) same ∙ ap (λ (x : Types). number_of x (fields_image us p)) is ∙ number_named was p ∙ ap (λ (x : Types). number_of x (fields_image x p)) (sym is)

pub port_named : (was now last : Types) (p : PortFields) (fs : List FieldImage) (r : Result ℕ NoMemory) → now ≡ needed_in was p → fs ≡ fields_image now p → OnOk r (last ≡ with_type now fs) → IfOk r (λ (n : ℕ). n ≡ number_of last fs)
    → IfOk r (λ (n : ℕ). n ≡ number_of last (fields_image last p))
port_named was now last p fs (Ok n) t e l m = put_number was now last p fs n t e l m
port_named was now last p fs (Err x) t e l m = tt

-- ---- variables

pub record CellsGo (was now : Types) (cells : List Cell) (rest all : List Variable) : Type 0 where
  pub types : needed_among now rest ≡ needed_among was all
  pub made : cells ++ cells_image (needed_among was all) rest ≡ cells_image (needed_among was all) all

pub cells_begin : (was : Types) (all : List Variable) → CellsGo was was [] all all
cells_begin was all = record { types = refl; made = refl }

cell_stays : (ts us : Types) (v : Variable) → type_number us (kind_of v.kind) ≡ type_number ts (kind_of v.kind) → cell_image us v ≡ cell_image ts v
cell_stays ts us v e = λ i. record (cell_image ts v) { of = e i }

cells_next : (was now ts : Types) (cells : List Cell) (v : Variable) (rest all : List Variable) (cell : Cell) → CellsGo was now cells (v ∷ rest) all → ts ≡ needed_by now (kind_of v.kind) → cell ≡ cell_image ts v → CellsGo was ts (cells ++ cell ∷ []) rest all
cells_next was now ts cells v rest all cell h t e =
    let k = kind_of v.kind in
    let last = needed_among was all in
    let ends : Extends (needed_by now k) last = subst (Extends (needed_by now k)) h.types (among_extends (needed_by now k) rest) in
    let stays = (kind_stays (needed_by now k) last k ends (by_found now k)).0 in
    let same : cell ≡ cell_image last v = e ∙ ap (λ (x : Types). cell_image x v) t ∙ sym (cell_stays (needed_by now k) last v stays) in
    record {
      types = ap (λ (x : Types). needed_among x rest) t ∙ h.types;
      made = append_assoc cells (cell ∷ []) (cells_image last rest) ∙ ap (λ (x : Cell). cells ++ x ∷ cells_image last rest) same ∙ h.made;
    }

pub cells_at : (was now ts : Types) (cells : List Cell) (v : Variable) (here rest all : List Variable) (cell : Cell) → here ≡ v ∷ rest → CellsGo was now cells here all → ts ≡ needed_by now (kind_of v.kind) → cell ≡ cell_image ts v
    → CellsGo was ts (cells ++ cell ∷ []) rest all
cells_at was now ts cells v here rest all cell is h t e = cells_next was now ts cells v rest all cell (subst (λ (l : List Variable). CellsGo was now cells l all) is h) t e

-- the cells of variables whose types are there stay as they are
among_stays : (was us : Types) (vs : List Variable) → Extends (needed_among was vs) us → cells_image us vs ≡ cells_image (needed_among was vs) vs
among_stays was us [] x = refl
among_stays was us (v ∷ vs) x =
    let k = kind_of v.kind in
    let now = needed_by was k in
    let last = needed_among now vs in
    let found = kind_stays now last k (among_extends now vs) (by_found was k) in
    let stays = kind_stays last us k x found.1 in
    λ i. cell_stays last us v stays.0 i ∷ among_stays now us vs x i

-- ---- units

pub record UnitsGo (was now : Types) (units : List UnitImage) (us : List tree.Unit) (ns : List UnitNames) (cs : List code_unit.Unit) (trees : List tree.Unit) (names : List UnitNames) (code : List code_unit.Unit) : Type 0 where
  pub types : needed_all now ns ≡ needed_all was names
  pub made : units ++ units_image (needed_all was names) us ns cs ≡ units_image (needed_all was names) trees names code

pub units_begin : (was : Types) (us : List tree.Unit) (ns : List UnitNames) (cs : List code_unit.Unit) → UnitsGo was was [] us ns cs us ns cs
units_begin was us ns cs = record { types = refl; made = refl }

no_code : (ts : Types) (us : List tree.Unit) (ns : List UnitNames) → units_image ts us ns [] ≡ []
no_code ts [] ns = refl
no_code ts (u ∷ us) [] = refl
no_code ts (u ∷ us) (n ∷ ns) = refl

none_made : (cells : List Cell) (u : Option tree.Unit) (n : UnitNames) → unit_by cells u n None ≡ []
none_made cells None n = refl
none_made cells (Some u) n = refl

one_more : (ts : Types) (cells : List Cell) (us : List tree.Unit) (n : UnitNames) (ns : List UnitNames) (cs : List code_unit.Unit) (i : ℕ) → cells ≡ cells_image ts n.variables
    → unit_by cells (slice_get us i) n (slice_get cs i) ++ units_image ts (drop (suc i) us) ns (drop (suc i) cs) ≡ units_image ts (drop i us) (n ∷ ns) (drop i cs)
one_more ts cells [] n ns cs zero e = refl
one_more ts cells (u ∷ us) n ns [] zero e = no_code ts us ns
one_more ts cells (u ∷ us) n ns (c ∷ cs) zero e = ap (λ (l : List Cell). unit_with l u n c ∷ units_image ts us ns cs) e
one_more ts cells [] n ns cs (suc i) e = refl
one_more ts cells (u ∷ us) n ns [] (suc i) e = ap (λ (l : List UnitImage). l ++ units_image ts (drop (suc i) us) ns []) (none_made cells (slice_get us i) n) ∙ no_code ts (drop (suc i) us) ns ∙ sym (no_code ts (drop i us) (n ∷ ns))
one_more ts cells (u ∷ us) n ns (c ∷ cs) (suc i) e = one_more ts cells us n ns cs i e

pub units_at : (was now ts : Types) (units more : List UnitImage) (cells : List Cell) (n : UnitNames) (here rest : List UnitNames) (i : ℕ) (trees : List tree.Unit) (names : List UnitNames) (code : List code_unit.Unit) → here ≡ n ∷ rest
    → UnitsGo was now units (drop i trees) here (drop i code) trees names code → ts ≡ needed_among now n.variables → cells ≡ cells_image ts n.variables → more ≡ units ++ unit_by cells (slice_get trees i) n (slice_get code i)
    → UnitsGo was ts more (drop (suc i) trees) rest (drop (suc i) code) trees names code
units_at was now ts units more cells n here rest i trees names code is g t e m =
    let h = subst (λ (l : List UnitNames). UnitsGo was now units (drop i trees) l (drop i code) trees names code) is g in
    let last = needed_all was names in
    let then = needed_among now n.variables in
    let ends : Extends then last = subst (Extends then) h.types (all_extends then rest) in
    let same : cells ≡ cells_image last n.variables = e ∙ ap (λ (x : Types). cells_image x n.variables) t ∙ sym (among_stays now last n.variables ends) in
    let here_made = unit_by cells (slice_get trees i) n (slice_get code i) in
    let behind = units_image last (drop (suc i) trees) rest (drop (suc i) code) in
    record {
      types = ap (λ (x : Types). needed_all x rest) t ∙ h.types;
      made = ap (λ (l : List UnitImage). l ++ behind) m ∙ append_assoc units here_made behind ∙ ap (λ (l : List UnitImage). units ++ l) (one_more last cells trees n rest code i same) ∙ h.made;
    }

pub units_step : (was now ts : Types) (units more : List UnitImage) (cells : List Cell) (n : UnitNames) (i : ℕ) (trees : List tree.Unit) (names : List UnitNames) (code : List code_unit.Unit) → i < length names → n ≡ slice_index_or names i n
    → UnitsGo was now units (drop i trees) (drop i names) (drop i code) trees names code → ts ≡ needed_among now n.variables → cells ≡ cells_image ts n.variables → more ≡ units ++ unit_by cells (slice_get trees i) n (slice_get code i)
    → UnitsGo was ts more (drop (i + 1) trees) (drop (i + 1) names) (drop (i + 1) code) trees names code
units_step was now ts units more cells n i trees names code less here g t e m =
    let one : suc i ≡ i + 1 = omega arith in
    subst (λ (j : ℕ). UnitsGo was ts more (drop j trees) (drop (i + 1) names) (drop j code) trees names code) one
    (units_at was now ts units more cells n (drop i names) (drop (i + 1) names) i trees names code (at_place names i n less here) g t e m)

past : {X : Type 0} (xs : List X) (i : ℕ) → length xs ≤ i → drop i xs ≡ []
past [] zero le = refl
past [] (suc i) le = refl
past (x ∷ xs) zero le = absurd (omega (arith, le))
past (x ∷ xs) (suc i) le = past xs i (omega (arith, le))

no_names : (ts : Types) (us : List tree.Unit) (cs : List code_unit.Unit) → units_image ts us [] cs ≡ []
no_names ts [] cs = refl
no_names ts (u ∷ us) cs = refl

pub units_end : (was now : Types) (units : List UnitImage) (i : ℕ) (trees : List tree.Unit) (names : List UnitNames) (code : List code_unit.Unit) → length names ≤ i → UnitsGo was now units (drop i trees) (drop i names) (drop i code) trees names code
    → units ≡ units_image now trees names code
units_end was now units i trees names code le g =
    let h = subst (λ (l : List UnitNames). UnitsGo was now units (drop i trees) l (drop i code) trees names code) (past names i le) g in
    let last = needed_all was names in
    sym (append-nil units) ∙ ap (λ (l : List UnitImage). units ++ l) (sym (no_names last (drop i trees) (drop i code))) ∙ h.made ∙ ap (λ (x : Types). units_image x trees names code) (sym h.types)

-- A unit's sheet in memory breaks the rules that the sheet breaks, and it is the sheet where no rule is broken.
use Rattle.std.proofs.Common.{◌≡◌, ℕ, ℤ, ◌+◌, Bool, ◌&&◌, ◌||◌, Option, Some, None, unwrap_or, List, [], ◌∷◌, ◌++◌, map, refl, sym, ap, ◌∙◌, arith}
use Rattle.std.specs.Prelude.{nat_lt, not}
use Rattle.std.specs.FinMap.{get}
use Rattle.std.specs.List.{flat_map}
use Rattle.std.specs.Option.{option_map}
use Rattle.std.proofs.lemmas.Bool.Decides.{nat_tests}
use Rattle.fm_base.specs.Verdict.{least_from, place, when}
use Rattle.fm_base.specs.declared.rule.Refusal.{Refusal}
use Rattle.fm_base.specs.declared.rule.Rule.TheVariants.{E31, E34}
use Rattle.fm_tree.specs.PortFields.{PortFields}
use Rattle.fm_tree.specs.declared.port_type.Bound.{Bound}
use Rattle.fm_tree.specs.declared.port_type.Kind.{Kind}
use Rattle.fm_tree.specs.declared.port_type.Kind.TheVariants as kind
use Rattle.fm_tree.specs.declared.program_unit.Placed.{Placed}
use Rattle.fm_tree.specs.declared.program_unit.Unit as program
use Rattle.fm_tree.specs.declared.statement.Decl.{Decl}
use Rattle.fm_tree.specs.declared.statement.Stmt.{Stmt}
use Rattle.fm_tree.specs.declared.statement.Stmt.TheVariants as stmt
use Rattle.fm_symbols.specs.ByName.{ByName, first_of_each}
use Rattle.fm_rules.specs.Arrays.{is_array}
use Rattle.fm_rules.specs.Bounds.{bounds_of}
use Rattle.fm_rules.specs.BrokenConstants.{broken_bounds, broken_decl, broken_decls, broken_definitions, broken_from, broken_machine, broken_message, broken_statement}
use Rattle.fm_rules.specs.BrokenNames.{broken_in, broken_with, has_type, is_long, untyped_at, untyped_in}
use Rattle.fm_rules.specs.ConstantParts.{decls_of, definitions_in, machine_in, port_type_in}
use Rattle.fm_rules.specs.Constants.{constants_of}
use Rattle.fm_rules.specs.Declarations.{declared_twice_in}
use Rattle.fm_rules.specs.FunctionTitles.{is_other_function}
use Rattle.fm_rules.specs.Names.{unit_names, unit_names_with}
use Rattle.fm_rules.specs.NameTypes.{begins_integer, types_of}
use Rattle.fm_rules.specs.Occurrences.{first_occurrences, occurrences}
use Rattle.fm_rules.specs.Sheets.{decl_shapes, kind_entries, kind_in, kinds_at, kinds_from, own_kind, shape_entries, shapes_from, sheet_of}
use Rattle.fm_rules.specs.Variables.{all_words, variables_among, words_by, words_of}
use Rattle.fm_rules.specs.declared.constants.Known.{Known}
use Rattle.fm_rules.specs.declared.constants.Types.{Types}
use Rattle.fm_rules.specs.declared.sheet.ArrayShape.{ArrayShape}
use Rattle.fm_rules.specs.declared.sheet.Occurrence.{Occurrence}
use Rattle.fm_rules.specs.declared.sheet.Sheet.{Sheet}
use Rattle.fm_rules.proofs.Empty.{left_empty, right_empty}
use Rattle.fm_names_constants.specs.Kept.{kept, kept_field_kind}
use Rattle.fm_names_constants.proofs.Kept.{elements_kept, type_kept}
use Rattle.fm_names.specs.KeptSheets.{kept_array, kept_sheet, with_values}
use Rattle.fm_names.specs.Layouts.{names_unless}
use Rattle.fm_names.proofs.Broken.{stays_some}
use Rattle.fm_names.proofs.KeptMaps.{same_names, values_changed, with_values_append}

-- ---- numbers

one_more : (a b x y : ℕ) → b ≡ kept a → kept x ≡ kept y → kept (b + x) ≡ kept (a + y)
one_more a b x y is h = omega (arith, is, h)

both_over : (x y : ℕ) → kept x ≡ kept y → nat_lt 65536 x ≡ nat_lt 65536 y
both_over x y h = grind (arith, nat_tests)

one_kept : 1 ≡ kept 1
one_kept = omega arith

-- ---- the sheet in memory breaks what the sheet breaks

module _ (u : program.Unit) where
  words_kept : (name : List ℕ) → words_of (kept_sheet u) name ≡ kept (words_of (sheet_of u) name)
  words_kept name = ap words_by (values_changed kept_array (shapes_from (constants_of u.specs) 0 u.specs) name) ∙ by (get (sheet_of u).arrays name)
    where
      by : (o : Option ArrayShape) → words_by (option_map kept_array o) ≡ kept (words_by o)
      by None = one_kept
      by (Some a) = refl

  sum_kept : (os : List Occurrence) → kept (all_words (kept_sheet u) os) ≡ kept (all_words (sheet_of u) os)
  sum_kept [] = refl
  sum_kept (o ∷ os) =
      one_more (words_of (sheet_of u) o.name) (words_of (kept_sheet u) o.name) (all_words (kept_sheet u) os) (all_words (sheet_of u) os) (words_kept o.name) (sum_kept os)

  same_type : (name : List ℕ) → has_type (kept_sheet u) name ≡ has_type (sheet_of u) name
  same_type name =
      ap (λ b. b || ((sheet_of u).types.implicit && begins_integer name)) (same_names kept_field_kind (own_kind u.heading.stmt ++ kinds_from (constants_of u.specs) 0 u.specs) name)

  same_untyped : (titles : ByName Bool) (heading : Stmt) (os : List Occurrence) → flat_map (untyped_at titles heading (kept_sheet u)) os ≡ flat_map (untyped_at titles heading (sheet_of u)) os
  same_untyped titles heading [] = refl
  same_untyped titles heading (o ∷ os) =
      ap (λ b. when (not (b || is_other_function titles heading o.name)) (place o.line.0 E31) ++ flat_map (untyped_at titles heading (kept_sheet u)) os) (same_type o.name)
      ∙ ap (λ l. untyped_at titles heading (sheet_of u) o ++ l) (same_untyped titles heading os)

  -- the names stand first where they do
  pub same_first : (arrays : ByName ArrayShape) → arrays ≡ (kept_sheet u).arrays → first_occurrences (occurrences (is_array arrays) u) ≡ (sheet_of u).first
  same_first arrays is =
      ap (λ (test : List ℕ → Bool). first_occurrences (occurrences test u)) (ap is_array is ∙ (λ i name. same_names kept_array (shapes_from (constants_of u.specs) 0 u.specs) name i))

  pub same_broken : (titles : ByName Bool) → broken_with titles u (kept_sheet u) ≡ broken_in titles u
  same_broken titles =
      let s = sheet_of u in
      let heading = u.heading.stmt in
      let twice = declared_twice_in titles u in
      let constants = broken_from s.known s.types 0 u.specs in
      let variables = variables_among titles heading s s.first in
      ap (λ l. twice ++ constants ++ l ++ when (is_long titles heading (kept_sheet u)) (place u.heading.line.0 E34)) (same_untyped titles heading s.first)
      ∙ ap (λ b. twice ++ constants ++ untyped_in titles heading s ++ when b (place u.heading.line.0 E34))
      (both_over (all_words (kept_sheet u) variables) (all_words s variables) (sum_kept variables))

-- ---- where no rule is broken it is the sheet

module _ (known : ByName Known) (types : Types) (at : ℕ) (p : Placed) (fine : broken_statement known types at p ≡ []) where
  bounds_told : List Refusal
  bounds_told = broken_decls known at p.line.0 (decls_of p.stmt)

  message_told : List Refusal
  message_told = broken_message known at p.line.0 (port_type_in p.stmt)

  definitions_told : List Refusal
  definitions_told = broken_definitions known types at p.line.0 0 (definitions_in p.stmt)

  first_two : bounds_told ++ message_told ≡ []
  unfolding bounds_told message_told definitions_told
  first_two =
      left_empty (bounds_told ++ message_told) definitions_told
      (left_empty (bounds_told ++ message_told ++ definitions_told) (broken_machine known at p.line.0 (machine_in p.stmt)) fine)

  decls_fine : broken_decls known at p.line.0 (decls_of p.stmt) ≡ []
  unfolding bounds_told
  decls_fine = left_empty bounds_told message_told first_two

  message_fine : broken_message known at p.line.0 (port_type_in p.stmt) ≡ []
  unfolding message_told
  message_fine = right_empty bounds_told message_told first_two

kind_kept : (known : ByName Known) (at line : ℕ) (s : Stmt) → broken_message known at line (port_type_in s) ≡ [] → option_map kept_field_kind (kind_in known at s) ≡ kind_in known at s
unfolding kind_in port_type_in
kind_kept known at line (stmt.Inport t decls) e = ap (λ (p : PortFields). Some (kind.In p)) (type_kept known at line t e)
kind_kept known at line (stmt.Outport t decls) e = ap (λ (p : PortFields). Some (kind.Out p)) (type_kept known at line t e)
kind_kept known at line s e = refl

pub kinds_with_values : (o : Option Kind) (ds : List Decl) → with_values kept_field_kind (kind_entries o ds) ≡ kind_entries (option_map kept_field_kind o) ds
kinds_with_values None ds = refl
kinds_with_values (Some k) ds = go ds
  where
    go : (ds : List Decl) → with_values kept_field_kind (map (λ (d : Decl). (d.name, k)) ds) ≡ map (λ (d : Decl). (d.name, kept_field_kind k)) ds
    go [] = refl
    go (d ∷ ds) = ap (λ l. (d.name, kept_field_kind k) ∷ l) (go ds)

kinds_kept : (known : ByName Known) (types : Types) (at : ℕ) (ps : List Placed) → broken_from known types at ps ≡ [] → with_values kept_field_kind (kinds_from known at ps) ≡ kinds_from known at ps
kinds_kept known types at [] e = refl
kinds_kept known types at (p ∷ ps) e =
    let here = left_empty (broken_statement known types at p) (broken_from known types (at + 1) ps) e in
    let more = right_empty (broken_statement known types at p) (broken_from known types (at + 1) ps) e in
    with_values_append kept_field_kind (kinds_at known at p) (kinds_from known (at + 1) ps)
    ∙ ap (λ l. l ++ with_values kept_field_kind (kinds_from known (at + 1) ps))
    (kinds_with_values (kind_in known at p.stmt) (decls_of p.stmt) ∙ ap (λ o. kind_entries o (decls_of p.stmt)) (kind_kept known at p.line.0 p.stmt (message_fine known types at p here)))
    ∙ ap (λ l. kinds_at known at p ++ l) (kinds_kept known types (at + 1) ps more)

pub own_kept : (s : Stmt) → with_values kept_field_kind (own_kind s) ≡ own_kind s
unfolding own_kind
own_kept (stmt.IntegerFunction name formals) = refl
own_kept (stmt.LogicalFunction name formals) = refl
own_kept s = refl

shape_kept : (known : ByName Known) (at line : ℕ) (name : List ℕ) (bounds : List Bound) → broken_bounds known at line bounds ≡ [] → with_values kept_array (shape_entries known at name bounds) ≡ shape_entries known at name bounds
shape_kept known at line name [] e = refl
shape_kept known at line name (b ∷ bs) e =
    ap (λ n. (name, array (unwrap_or (bounds_of known at (b ∷ bs)) []) n) ∷ []) (elements_kept known at line (b ∷ bs) e)
  where
    array : List (ℤ × ℤ) → ℕ → ArrayShape
    array bounds n = record { bounds = bounds; words = n }

decls_kept : (known : ByName Known) (at line : ℕ) (ds : List Decl) → broken_decls known at line ds ≡ [] → with_values kept_array (flat_map (decl_shapes known at) ds) ≡ flat_map (decl_shapes known at) ds
decls_kept known at line [] e = refl
decls_kept known at line (d ∷ ds) e =
    with_values_append kept_array (decl_shapes known at d) (flat_map (decl_shapes known at) ds)
    ∙ ap (λ l. l ++ with_values kept_array (flat_map (decl_shapes known at) ds)) (shape_kept known at line d.name d.bounds (left_empty (broken_decl known at line d) (broken_decls known at line ds) e))
    ∙ ap (λ l. decl_shapes known at d ++ l) (decls_kept known at line ds (right_empty (broken_decl known at line d) (broken_decls known at line ds) e))

shapes_kept : (known : ByName Known) (types : Types) (at : ℕ) (ps : List Placed) → broken_from known types at ps ≡ [] → with_values kept_array (shapes_from known at ps) ≡ shapes_from known at ps
shapes_kept known types at [] e = refl
shapes_kept known types at (p ∷ ps) e =
    let here = left_empty (broken_statement known types at p) (broken_from known types (at + 1) ps) e in
    let more = right_empty (broken_statement known types at p) (broken_from known types (at + 1) ps) e in
    let its = flat_map (decl_shapes known at) (decls_of p.stmt) in
    with_values_append kept_array its (shapes_from known (at + 1) ps)
    ∙ ap (λ l. l ++ with_values kept_array (shapes_from known (at + 1) ps)) (decls_kept known at p.line.0 (decls_of p.stmt) (decls_fine known types at p here))
    ∙ ap (λ l. its ++ l) (shapes_kept known types (at + 1) ps more)

module _ (u : program.Unit) where
  made : ByName Kind → ByName ArrayShape → Sheet
  made kinds arrays = record {
    known = (sheet_of u).known;
    types = (sheet_of u).types;
    kinds = kinds;
    arrays = arrays;
    inputs = (sheet_of u).inputs;
    formals = (sheet_of u).formals;
    first = (sheet_of u).first;
  }

  sheet_kept : broken_from (constants_of u.specs) (types_of u.specs) 0 u.specs ≡ [] → kept_sheet u ≡ sheet_of u
  unfolding made
  sheet_kept e =
      let known = constants_of u.specs in
      let own = own_kind u.heading.stmt in
      let kinds : with_values kept_field_kind (own ++ kinds_from known 0 u.specs) ≡ own ++ kinds_from known 0 u.specs =
      with_values_append kept_field_kind own (kinds_from known 0 u.specs)
      ∙ ap (λ l. l ++ with_values kept_field_kind (kinds_from known 0 u.specs)) (own_kept u.heading.stmt)
      ∙ ap (λ l. own ++ l) (kinds_kept known (types_of u.specs) 0 u.specs e) in
      ap (λ (es : List (List ℕ × Kind)). made (first_of_each es) (kept_sheet u).arrays) kinds
      ∙ ap (λ (es : List (List ℕ × ArrayShape)). made (sheet_of u).kinds (first_of_each es)) (shapes_kept known (types_of u.specs) 0 u.specs e)

-- nothing is broken where nothing is told
none_told : (best : Option Refusal) (qs : List Refusal) → least_from best qs ≡ None → qs ≡ []
none_told best [] e = refl
none_told None (q ∷ qs) e = absurd (stays_some q qs e)
none_told (Some p) (q ∷ qs) e = absurd (stays_some p (q ∷ qs) e)

pub same_named : (titles : ByName Bool) (u : program.Unit) (old new : Option Refusal) → new ≡ least_from old (broken_in titles u)
    → names_unless new (unit_names_with titles u (kept_sheet u)) ≡ names_unless new (unit_names titles u)
same_named titles u old (Some q) least = refl
same_named titles u old None least =
    let s = sheet_of u in
    let twice = declared_twice_in titles u in
    let constants = broken_from s.known s.types 0 u.specs in
    let untyped = untyped_in titles u.heading.stmt s in
    let long = when (is_long titles u.heading.stmt s) (place u.heading.line.0 E34) in
    let none = right_empty twice constants (left_empty (twice ++ constants) untyped (left_empty (twice ++ constants ++ untyped) long (none_told old (broken_in titles u) (sym least)))) in
    ap (λ (s : Sheet). unit_names_with titles u s ∷ []) (sheet_kept u none)

-- What holds of plain kinds, and of the kind of each port that is declared without breaking a rule, holds of the kind of each variable.
use Rattle.std.proofs.Common.{◌≡◌, ℕ, ◌+◌, Bool, true, false, cond, Option, Some, None, unwrap_or, List, [], ◌∷◌, ◌++◌, map, slice_get, sym, subst}
use Rattle.std.specs.FinMap.{get}
use Rattle.fm_base.specs.Verdict.{place, when}
use Rattle.fm_base.specs.declared.rule.Rule.TheVariants.{E34}
use Rattle.fm_tree.specs.PortFields.{PortFields, FieldKind, Integer, Logical, In, Out}
use Rattle.fm_tree.specs.PortReading.{kind_of}
use Rattle.fm_tree.specs.declared.port_type.Kind.{Kind}
use Rattle.fm_tree.specs.declared.port_type.Kind.TheVariants as kind
use Rattle.fm_tree.specs.declared.program_unit.Placed.{Placed}
use Rattle.fm_tree.specs.declared.program_unit.Unit as tree
use Rattle.fm_tree.specs.declared.statement.Decl.{Decl}
use Rattle.fm_tree.specs.declared.statement.Stmt.{Stmt}
use Rattle.fm_tree.specs.declared.statement.Stmt.TheVariants as stmt
use Rattle.fm_symbols.specs.ByName.{ByName}
use Rattle.fm_symbols.specs.declared.names.UnitNames.{UnitNames}
use Rattle.fm_symbols.specs.declared.names.Variable.{Variable}
use Rattle.fm_rules.specs.BrokenConstants.{broken_decls, broken_definitions, broken_from, broken_machine, broken_message, broken_statement}
use Rattle.fm_rules.specs.BrokenNames.{broken_in, is_long, untyped_in}
use Rattle.fm_rules.specs.ConstantParts.{decls_of, definitions_in, machine_in, port_type_in}
use Rattle.fm_rules.specs.Declarations.{declared_twice_in}
use Rattle.fm_rules.specs.FunctionTitles.{titles_of}
use Rattle.fm_rules.specs.NameTypes.{types_of}
use Rattle.fm_rules.specs.Names.{unit_names}
use Rattle.fm_rules.specs.PortTypes.{normal_type}
use Rattle.fm_rules.specs.Sheets.{kind_in, kind_entries, kinds_at, kinds_from, own_kind, sheet_of}
use Rattle.fm_rules.specs.Variables.{laid_out, variables_among, words_of}
use Rattle.fm_rules.specs.declared.constants.Known.{Known}
use Rattle.fm_rules.specs.declared.constants.Types.{Types}
use Rattle.fm_rules.specs.declared.sheet.Occurrence.{Occurrence}
use Rattle.fm_rules.specs.declared.sheet.Sheet.{Sheet}
use Rattle.fm_rules.specs.declared.program.Program.{Program}
use Rattle.fm_net.specs.Typed.{AllIn}
use Rattle.fm_mean.specs.Names.{ProgramUnit, same_name, unit_at}
use Rattle.fm_mean.proofs.FirstEntries.{first_entry, first_there}
use Rattle.fm_mean.proofs.Sizes.{all_append, in_all, parts_of, the_names}
use Rattle.fm_mean.proofs.Unbroken.{Unbroken, from_rules, left_empty, right_empty, each_empty}

module _ (P : FieldKind → Type 0) (integer : P Integer) (logical : P Logical)
    (ports : (known : ByName Known) (at line : ℕ) (t : PortFields) → broken_message known at line (Some t) ≡ [] → P (In (normal_type known at t)) × P (Out (normal_type known at t))) where
  abbrev Holds : Option Kind → Type 0
  Holds None = Unit {0}
  Holds (Some k) = P (kind_of k)

  kind_holds : (known : ByName Known) (at line : ℕ) (s : Stmt) → broken_message known at line (port_type_in s) ≡ [] → Holds (kind_in known at s)
  unfolding kind_in port_type_in
  kind_holds known at line (stmt.Integer decls) e = integer
  kind_holds known at line (stmt.Logical decls) e = logical
  kind_holds known at line (stmt.Inport t decls) e = (ports known at line t e).0
  kind_holds known at line (stmt.Outport t decls) e = (ports known at line t e).1
  kind_holds known at line s e = tt

  abbrev EntryHolds : List ℕ × Kind → Type 0
  EntryHolds e = P (kind_of e.1)

  entries_hold : (o : Option Kind) (ds : List Decl) → Holds o → AllIn EntryHolds (kind_entries o ds)
  entries_hold None ds h = tt
  entries_hold (Some k) ds h = go ds
    where
      go : (ds : List Decl) → AllIn EntryHolds (map (λ (d : Decl). (d.name, k)) ds)
      go [] = tt
      go (d ∷ ds) = (h, go ds)

  kinds_hold : (known : ByName Known) (types : Types) (at : ℕ) (ps : List Placed) → broken_from known types at ps ≡ [] → AllIn EntryHolds (kinds_from known at ps)
  kinds_hold known types at [] e = tt
  kinds_hold known types at (p ∷ ps) e =
      let here = left_empty (broken_statement known types at p) (broken_from known types (at + 1) ps) e in
      let ds = broken_decls known at p.line.0 (decls_of p.stmt) in
      let message = broken_message known at p.line.0 (port_type_in p.stmt) in
      let definitions = broken_definitions known types at p.line.0 0 (definitions_in p.stmt) in
      let told = right_empty ds message (left_empty (ds ++ message) definitions (left_empty (ds ++ message ++ definitions) (broken_machine known at p.line.0 (machine_in p.stmt)) here)) in
      all_append EntryHolds (kinds_at known at p) (kinds_from known (at + 1) ps) (entries_hold (kind_in known at p.stmt) (decls_of p.stmt) (kind_holds known at p.line.0 p.stmt told))
      (kinds_hold known types (at + 1) ps (right_empty (broken_statement known types at p) (broken_from known types (at + 1) ps) e))

  own_holds : (s : Stmt) → AllIn EntryHolds (own_kind s)
  unfolding own_kind
  own_holds (stmt.IntegerFunction name formals) = (integer, tt)
  own_holds (stmt.LogicalFunction name formals) = (logical, tt)
  own_holds s = tt

  entry_holds : (es : List (List ℕ × Kind)) (name : List ℕ) → AllIn EntryHolds es → Holds (first_entry es name)
  entry_holds [] name h = tt
  entry_holds (e ∷ es) name h = go (same_name name e.0) (entry_holds es name h.1)
    where
      go : (b : Bool) → Holds (first_entry es name) → Holds (cond b (Some e.1) (first_entry es name))
      go true rest = h.0
      go false rest = rest

  abbrev VariableHolds : Variable → Type 0
  VariableHolds v = P (kind_of v.kind)

  kind_or : (o : Option Kind) → Holds o → P (kind_of (unwrap_or o kind.Integer))
  kind_or None h = integer
  kind_or (Some k) h = h

  laid_hold : (s : Sheet) (first : ℕ) (os : List Occurrence) → ((name : List ℕ) → Holds (get s.kinds name)) → AllIn VariableHolds (laid_out s first os)
  laid_hold s first [] h = tt
  laid_hold s first (o ∷ os) h = (kind_or (get s.kinds o.name) (h o.name), laid_hold s (first + words_of s o.name) os h)

  names_hold : (titles : ByName Bool) (u : tree.Unit) → broken_in titles u ≡ [] → AllIn VariableHolds (unit_names titles u).variables
  names_hold titles u e =
      let s = sheet_of u in
      let twice = declared_twice_in titles u in
      let bounds = broken_from s.known (types_of u.specs) 0 u.specs in
      let untyped = untyped_in titles u.heading.stmt s in
      let long = when (is_long titles u.heading.stmt s) (place u.heading.line.0 E34) in
      let none = right_empty twice bounds (left_empty (twice ++ bounds) untyped (left_empty (twice ++ bounds ++ untyped) long e)) in
      let es = own_kind u.heading.stmt ++ kinds_from s.known 0 u.specs in
      let all = all_append EntryHolds (own_kind u.heading.stmt) (kinds_from s.known 0 u.specs) (own_holds u.heading.stmt) (kinds_hold s.known (types_of u.specs) 0 u.specs none) in
      laid_hold s 0 (variables_among titles u.heading.stmt s s.first) (λ name. subst Holds (sym (first_there es name)) (entry_holds es name all))

  hold_there : (us : List tree.Unit) (ns : List UnitNames) (k : ℕ) (n : UnitNames) → Unbroken us ns → slice_get ns k ≡ Some n → AllIn VariableHolds n.variables
  hold_there us ns k n h is =
      let t = titles_of us in
      let at = the_names t us k n (subst (λ (l : List UnitNames). slice_get l k ≡ Some n) h.names_are is) in
      subst (λ (n : UnitNames). AllIn VariableHolds n.variables) at.2 (names_hold t at.0 (each_empty (broken_in t) us k at.0 h.names at.1))

  pub variable_holds : ((r : FieldKind) → IsProp (P r)) → (p : Program) (n : ℕ) (u : ProgramUnit) (i : ℕ) (v : Variable) → unit_at p n ≡ Some u → slice_get u.names.variables i ≡ Some v → P (kind_of v.kind)
  variable_holds prop p n u i v is there =
      from_rules p (P (kind_of v.kind)) (prop (kind_of v.kind)) (λ h. in_all VariableHolds u.names.variables i v (hold_there p.units.units p.names.units n u.names h (parts_of p n u is).1) there)

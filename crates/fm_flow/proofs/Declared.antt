-- The declarations that make wide ports.
use Rattle.std.proofs.Common.{◌≡◌, ◌≢◌, ℕ, ◌⊎◌, inl, inr, ⊎_elim, Bool, true, false, cond, ◌||◌, ◌&&◌, is_some, Option, Some, None, List, [], ◌∷◌, refl, sym, ap, ◌∙◌, subst}
use Rattle.std.specs.Prelude.{Contains}
use Rattle.std.specs.FinMap.{contains_key, empty, get-empty, insert}
use Rattle.std.specs.Ordering.{nat_cmp}
use Rattle.std.specs.Cmp.Lexicographic.{slice_cmp}
use Rattle.fm_base.specs.declared.name.Line.{Line}
use Rattle.fm_finmap.proofs.Inserts.{insert_here, insert_there}
use Rattle.fm_finmap.proofs.Keys.{nat_list_order}
use Rattle.fm_tree.specs.declared.program_unit.Placed.{Placed}
use Rattle.fm_tree.specs.declared.statement.Decl.{Decl}
use Rattle.fm_tree.specs.declared.statement.Stmt.{Stmt}
use Rattle.fm_tree.specs.declared.statement.Stmt.TheVariants as stmt
use Rattle.fm_symbols.specs.ByName.{ByName}
use Rattle.fm_symbols.specs.declared.names.Variable.{Variable}
use Rattle.fm_rules.proofs.Lists.{at_head, behind_head, head_or_behind, not_in_none}
use Rattle.fm_call_graph.specs.Least.{lower_if}
use Rattle.fm_call_graph.proofs.Lowest.{IsLowest, lowest_if, lowest_same}
use Rattle.fm_mean.specs.Names.{ProgramUnit, same_name}
use Rattle.fm_mean.proofs.Members.{name_is, same_names}
use Rattle.fm_flow_law.specs.Flow.{DeclaresWidePort, any_bounded, any_port, is_port, is_wide, names_port, sends_ports}
use Rattle.fm_flow.specs.Walks.{any_key, is_wide_by, ports_from, wide_from, with_port}

inserted : (ports : ByName Bool) (key name : List ℕ) → contains_key (insert ports key true) name ≡ (same_name key name || contains_key ports name)
inserted ports key name = go (same_name key name) refl
  where
    go : (b : Bool) → same_name key name ≡ b → contains_key (insert ports key true) name ≡ (b || contains_key ports name)
    go true is =
        let same : key ≡ name = name_is key name is in
        ap (λ (n : List ℕ). contains_key (insert ports key true) n) (sym same) ∙ ap is_some (insert_here nat_list_order ports key true)
    go false is = ap is_some (insert_there nat_list_order ports key true name (λ e. other e))
      where
        other : name ≡ key → ⊥
        other e = let yes : same_name key name ≡ true = same_names key name (sym e) in let no : false ≡ true = sym is ∙ yes in absurd (cc)

port_more : (ports : ByName Bool) (v : Variable) (name : List ℕ) → contains_key (with_port ports v) name ≡ ((same_name v.name name && is_port v.kind) || contains_key ports name)
port_more ports v name = go (is_port v.kind)
  where
    and_true : (a : Bool) → a ≡ (a && true)
    and_true true = refl
    and_true false = refl

    and_false : (a : Bool) → false ≡ (a && false)
    and_false true = refl
    and_false false = refl

    go : (b : Bool) → contains_key (cond b (insert ports v.name true) ports) name ≡ ((same_name v.name name && b) || contains_key ports name)
    go true = inserted ports v.name name ∙ ap (λ (b : Bool). b || contains_key ports name) (and_true (same_name v.name name))
    go false = ap (λ (b : Bool). b || contains_key ports name) (and_false (same_name v.name name))

or_turn : (a b c : Bool) → (a || (b || c)) ≡ ((b || a) || c)
or_turn true true c = refl
or_turn true false c = refl
or_turn false true c = refl
or_turn false false c = refl

ports_more : (ports : ByName Bool) (vs : List Variable) (name : List ℕ) → contains_key (ports_from ports vs) name ≡ (names_port vs name || contains_key ports name)
ports_more ports [] name = refl
ports_more ports (v ∷ vs) name =
    ports_more (with_port ports v) vs name ∙ ap (λ (b : Bool). names_port vs name || b) (port_more ports v name)
    ∙ or_turn (names_port vs name) (same_name v.name name && is_port v.kind) (contains_key ports name)

or_false : (a : Bool) → (a || false) ≡ a
or_false true = refl
or_false false = refl

none_there : (name : List ℕ) → contains_key (empty {X = Bool} {R = slice_cmp nat_cmp}) name ≡ false
none_there name = ap is_some (get-empty (slice_cmp nat_cmp) name)

ports_told : (vs : List Variable) (name : List ℕ) → contains_key (ports_from empty vs) name ≡ names_port vs name
ports_told vs name = ports_more empty vs name ∙ ap (λ (b : Bool). names_port vs name || b) (none_there name) ∙ or_false (names_port vs name)

keys_told : (vs : List Variable) (ds : List Decl) → any_key (ports_from empty vs) ds ≡ any_port vs ds
keys_told vs [] = refl
keys_told vs (d ∷ ds) = ap (λ (b : Bool). b || any_key (ports_from empty vs) ds) (ports_told vs d.name) ∙ ap (λ (b : Bool). names_port vs d.name || b) (keys_told vs ds)

module _ (u : ProgramUnit) where
  abbrev ports : ByName Bool
  ports = ports_from empty u.names.variables

  wide_told : (s : Stmt) → is_wide_by ports s ≡ is_wide u s
  unfolding is_wide is_wide_by
  wide_told (stmt.Inport t ds) = refl
  wide_told (stmt.Outport t ds) = refl
  wide_told (stmt.Dimension ds) = keys_told u.names.variables ds
  wide_told s = refl

  abbrev Among : List Placed → ℕ → Type 0
  Among ds line = (d : Placed) × Contains ds d × (is_wide u d.stmt ≡ true) × (line ≡ d.line.0)

  abbrev Here : (ℕ → Type 0) → Placed → ℕ → Type 0
  Here P d line = P line ⊎ ((is_wide_by ports d.stmt ≡ true) × (d.line.0 ≡ line))

  to_all : (P : ℕ → Type 0) (d : Placed) (ds : List Placed) (line : ℕ) → Here P d line ⊎ Among ds line → P line ⊎ Among (d ∷ ds) line
  to_all P d ds line (inl (inl p)) = inl p
  to_all P d ds line (inl (inr y)) = inr (d, at_head d ds, sym (wide_told d.stmt) ∙ y.0, sym y.1)
  to_all P d ds line (inr h) = inr (h.0, behind_head d h.0 ds h.1, h.2, h.3)

  from_all : (P : ℕ → Type 0) (d : Placed) (ds : List Placed) (line : ℕ) → P line ⊎ Among (d ∷ ds) line → Here P d line ⊎ Among ds line
  from_all P d ds line (inl p) = inl (inl p)
  from_all P d ds line (inr h) =
      ⊎_elim (λ (same : d ≡ h.0). inl (inr (wide_told d.stmt ∙ ap (λ (x : Placed). is_wide u x.stmt) same ∙ h.2, ap (λ (x : Placed). x.line.0) same ∙ sym h.3))) (λ (c : Contains ds h.0). inr (h.0, c, h.2, h.3)) (head_or_behind d h.0 ds h.1)

  wide_lowest : (P : ℕ → Type 0) (best : Option Line) (ds : List Placed) → IsLowest P best → IsLowest (λ line. P line ⊎ Among ds line) (wide_from ports best ds)
  wide_lowest P best [] h = lowest_same P (λ line. P line ⊎ Among [] line) (λ line x. inl x) (λ line x. ⊎_elim (λ (p : P line). p) (λ (y : Among [] line). absurd (not_in_none y.0 y.1)) x) best h
  wide_lowest P best (d ∷ ds) h =
      lowest_same (λ line. Here P d line ⊎ Among ds line) (λ line. P line ⊎ Among (d ∷ ds) line) (to_all P d ds) (from_all P d ds) (wide_from ports (lower_if (is_wide_by ports d.stmt) best d.line) ds)
      (wide_lowest (Here P d) (lower_if (is_wide_by ports d.stmt) best d.line) ds (lowest_if P (is_wide_by ports d.stmt) best d.line h))

  pub wide_found : IsLowest (DeclaresWidePort u) (wide_from ports None u.tree.specs)
  wide_found =
      lowest_same (λ line. ⊥ ⊎ Among u.tree.specs line) (DeclaresWidePort u) (λ line x. ⊎_elim (λ (no : ⊥). absurd no) (λ (y : Among u.tree.specs line). y) x) (λ line y. inr y) (wide_from ports None u.tree.specs)
      (wide_lowest (λ line. ⊥) None u.tree.specs (λ line x. x))

-- A MERGER that may not have several writers makes a channel of one.
use Rattle.std.proofs.Common.{◌≡◌, ◌≤◌, ℕ, zero, suc, ℤ, Bool, true, false, Option, Some, None, List, [], ◌∷◌, ◌++◌, length, slice_get, Result, Ok, Err, refl, ap, sym, subst, ◌∙◌, arith}
use Rattle.std.specs.Prelude.{◌&&◌}
use Rattle.std.specs.FinMap.{get}
use Rattle.fm_base.specs.declared.fault.Fault.{Fault}
use Rattle.fm_tree.specs.Tree.{Tree, Trees, NoTrees, More, trees_from}
use Rattle.fm_tree.specs.declared.port_type.Kind.{Kind}
use Rattle.fm_tree.specs.declared.port_type.Kind.TheVariants as kind
use Rattle.fm_tree.specs.declared.statement.Var.{Var}
use Rattle.fm_values.specs.Places.{element_place, size}
use Rattle.fm_symbols.specs.Context.{symbol_by, symbols_of}
use Rattle.fm_symbols.specs.declared.context.Scope as symbols
use Rattle.fm_symbols.specs.declared.names.Variable.{Variable}
use Rattle.fm_rules.specs.Race.{are_several, is_array_symbol, is_whole_array, names_array}
use Rattle.fm_rules.specs.VariableTypes.{is_bare}
use Rattle.fm_rules.specs.declared.program.Program.{Program}
use Rattle.fm_rules.proofs.Lists.{some_same}
use Rattle.fm_mean.specs.Operands.{◌>>=◌}
use Rattle.fm_mean.specs.Names.{context, unit_at, variable_of}
use Rattle.fm_mean.specs.declared.place.Span.{Span}
use Rattle.fm_mean.specs.Evaluate.{Scope, is_array, numbers_of, place_of, places_of, refs_in_var, single, spans_by, whole}
use Rattle.fm_mean.specs.Actions.{elements_from, elements_of, merger_places}
use Rattle.fm_mean.proofs.FunctionFormals.{scope_here}
use Rattle.fm_mean.proofs.JudgedValues.{Stands, stands_none, stands_constant, stands_variable, stands}
use Rattle.fm_mean.proofs.Sizes.{variable_sized}

-- ---- a name that is no array's has one element

array_symbol : (kd : Kind) (bs : List (ℤ × ℤ)) (words place : ℕ) → is_array_symbol (Some (symbol_by kd bs words place)) ≡ is_array bs
array_symbol kind.Integer [] words place = refl
array_symbol kind.Integer (b ∷ bs) words place = refl
array_symbol kind.Logical [] words place = refl
array_symbol kind.Logical (b ∷ bs) words place = refl
array_symbol (kind.In t) [] words place = refl
array_symbol (kind.In t) (b ∷ bs) words place = refl
array_symbol (kind.Out t) [] words place = refl
array_symbol (kind.Out t) (b ∷ bs) words place = refl

no_bounds : (bs : List (ℤ × ℤ)) → is_array bs ≡ false → bs ≡ []
no_bounds [] e = refl
no_bounds (b ∷ bs) e = absurd (cc e)

second_false : (a b : Bool) → a ≡ true → (a && b) ≡ false → b ≡ false
second_false true b on e = e
second_false false b on e = absurd (cc on)

bare : (ts : List Tree) → trees_from ts ≡ NoTrees → is_bare ts ≡ true
bare [] e = refl
bare (t ∷ ts) e = absurd (cc e)

module _ (p : Program) (n : ℕ) (s : Scope) (is_unit : unit_at p n ≡ Some s.unit) where
  abbrev here : Option symbols.Scope
  here = slice_get (context p).scopes n

  one_word : (name : List ℕ) (w : ℕ × Variable) → variable_of s.unit name ≡ Some w → names_array here name ≡ false → w.1.words ≡ 1
  one_word name w is no_array = go (stands s.unit name)
    where
      is_none : is_array_symbol (get (symbols_of s.unit.names) name) ≡ false
      is_none = sym (ap (λ (o : Option symbols.Scope). names_array o name) (scope_here p n s.unit is_unit)) ∙ no_array

      go : Stands s.unit name (get (symbols_of s.unit.names) name) → w.1.words ≡ 1
      go (stands_none at none) = absurd (cc (sym none ∙ is))
      go (stands_constant c at none there) = absurd (cc (sym none ∙ is))
      go (stands_variable k v at there held) =
          let same : (k, v) ≡ w = some_same (k, v) w (sym there ∙ is) in
          let none : is_array v.bounds ≡ false = sym (array_symbol v.kind v.bounds v.words k) ∙ sym (ap is_array_symbol at) ∙ is_none in
          ap (λ (x : ℕ × Variable). x.1.words) (sym same) ∙ variable_sized p n s.unit k v is_unit held ∙ ap size (no_bounds v.bounds none)

  -- ---- so has an element

  element_one : (i : ℕ) (bounds : List (ℤ × ℤ)) (ks : Result (List ℤ) Fault) (x : Span) → (ks >>= λ xs. element_place bounds xs >>= λ k. Ok (single i k)) ≡ Ok x → x.count ≤ 1
  element_one i bounds (Err fault) x e = absurd (cc e)
  element_one i bounds (Ok xs) x e = go (element_place bounds xs) e
    where
      go : (r : Result ℕ Fault) → (r >>= λ k. Ok (single i k)) ≡ Ok x → x.count ≤ 1
      go (Err fault) e' = absurd (cc e')
      go (Ok k) e' =
          let same : single i k ≡ x = cc e' in
          subst (λ (y : Span). y.count ≤ 1) same (omega arith)

  spans_one : (o : Option (ℕ × Variable)) (ts : Trees) (ks : Result (List ℤ) Fault) (x : Span) → (ts ≡ NoTrees → (w : ℕ × Variable) → o ≡ Some w → w.1.words ≡ 1) → spans_by o ts ks ≡ Ok x → x.count ≤ 1
  spans_one None ts ks x one e =
      let same : single 0 0 ≡ x = cc e in
      subst (λ (y : Span). y.count ≤ 1) same (omega arith)
  spans_one (Some w) NoTrees ks x one e =
      let same : whole w.0 w.1 ≡ x = cc e in
      let h = one refl w refl in
      subst (λ (y : Span). y.count ≤ 1) same (omega (arith, h))
  spans_one (Some w) (More t ts) ks x one e = element_one w.0 w.1.bounds ks x e

  one_place : (v : Var) (k : ℕ) (x : Span) → is_whole_array here v ≡ false → place_of s v k ≡ Ok x → x.count ≤ 1
  one_place v k x single_one =
      spans_one (variable_of s.unit v.name) (trees_from v.subscripts) (numbers_of s (trees_from v.subscripts) k) x
      (λ none w is. one_word v.name w is (second_false (is_bare v.subscripts) (names_array here v.name) (bare v.subscripts none) single_one))

  -- ---- the outports of a MERGER

  short : (i k m : ℕ) → m ≤ 1 → length (elements_from i k m ++ []) ≤ 1
  short i k zero h = omega arith
  short i k (suc zero) h = omega arith
  short i k (suc (suc m)) h = absurd (omega (arith, h))

  few_outports : (os : List Var) (k : ℕ) (xs : List Span) → are_several here os ≡ false → places_of s os k ≡ Ok xs → length (elements_of xs) ≤ 1
  few_outports [] k xs one e =
      let same : [] ≡ xs = cc e in
      subst (λ (ys : List Span). length (elements_of ys) ≤ 1) same (omega arith)
  few_outports (v ∷ []) k xs one e = go (place_of s v k) refl e
    where
      go : (r : Result Span Fault) → place_of s v k ≡ r → (r >>= λ x. Ok (x ∷ [])) ≡ Ok xs → length (elements_of xs) ≤ 1
      go (Err fault) at e' = absurd (cc e')
      go (Ok x) at e' =
          let same : x ∷ [] ≡ xs = cc e' in
          subst (λ (ys : List Span). length (elements_of ys) ≤ 1) same (short x.variable x.first x.count (one_place v k x one at))
  few_outports (v ∷ w ∷ vs) k xs one e = absurd (cc one)

  pub one_writer : (i : Var) (os : List Var) (r : Span × List Span) → are_several here os ≡ false → merger_places s i os ≡ Ok r → length (elements_of r.1) ≤ 1
  one_writer i os r one e = go (place_of s i 0) e
    where
      outports : (x : Span) (ys : Result (List Span) Fault) → places_of s os (refs_in_var s i) ≡ ys → (ys >>= λ xs. Ok (x, xs)) ≡ Ok r → length (elements_of r.1) ≤ 1
      outports x (Err fault) at e' = absurd (cc e')
      outports x (Ok xs) at e' =
          let same : (x, xs) ≡ r = cc e' in
          subst (λ (q : Span × List Span). length (elements_of q.1) ≤ 1) same (few_outports os (refs_in_var s i) xs one at)

      go : (x : Result Span Fault) → (x >>= λ y. places_of s os (refs_in_var s i) >>= λ xs. Ok (y, xs)) ≡ Ok r → length (elements_of r.1) ≤ 1
      go (Err fault) e' = absurd (cc e')
      go (Ok x) e' = outports x (places_of s os (refs_in_var s i)) refl e'

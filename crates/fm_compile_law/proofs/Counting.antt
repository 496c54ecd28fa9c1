-- In a checked program each name with a list has as many subscripts or arguments as it takes.
use Rattle.std.proofs.Common.{◌≡◌, ℕ, ℤ, suc, ◌+◌, Bool, true, false, cond, ◌&&◌, not, Option, Some, None, List, [], ◌∷◌, length, slice_get, refl, sym, ap, ◌∙◌, subst}
use Rattle.std.specs.Prelude.{if◌then◌else◌, nat_eq}
use Rattle.std.specs.Cmp.{second_so}
use Rattle.std.specs.FinMap.{get}
use Rattle.std.proofs.lemmas.Bool.Decides.{Decides-eqb}
use Rattle.fm_net.specs.Typed.{AllIn}
use Rattle.fm_values.specs.declared.intrinsic.Intrinsic.{Intrinsic}
use Rattle.fm_values.specs.Intrinsics.{intrinsic_named, takes}
use Rattle.fm_tree.specs.Tree.{Tree, Trees, NoTrees, More, Ref, trees_from}
use Rattle.fm_tree.specs.References.{applied, applied_in}
use Rattle.fm_tree.specs.declared.port_type.Kind.{Kind}
use Rattle.fm_tree.specs.declared.port_type.Kind.TheVariants as kind
use Rattle.fm_tree.specs.declared.program_unit.Entry.{Entry}
use Rattle.fm_tree.specs.declared.statement.Extra.{Extra}
use Rattle.fm_tree.specs.declared.statement.Extra.TheVariants as extra
use Rattle.fm_tree.specs.declared.statement.Simple.{Simple}
use Rattle.fm_tree.specs.declared.statement.Simple.TheVariants as simple
use Rattle.fm_tree.specs.declared.statement.Stmt.{Stmt}
use Rattle.fm_tree.specs.declared.statement.Stmt.TheVariants as stmt
use Rattle.fm_tree.specs.declared.statement.Var.{Var}
use Rattle.fm_symbols.specs.Context.{constant_symbol, function_named, scope_of, symbol_by, symbol_in, symbol_of, symbols_of}
use Rattle.fm_symbols.specs.Headings.{is_function}
use Rattle.fm_symbols.specs.declared.context.Scope as symbols
use Rattle.fm_symbols.specs.declared.names.Constant.{Constant}
use Rattle.fm_symbols.specs.declared.names.Constant.TheVariants as constant
use Rattle.fm_symbols.specs.declared.names.Variable.{Variable}
use Rattle.fm_symbols.specs.declared.symbol.Scalar.{Scalar}
use Rattle.fm_symbols.specs.declared.symbol.Scalar.TheVariants as scalar
use Rattle.fm_symbols.specs.declared.symbol.Symbol.{Symbol}
use Rattle.fm_rules.specs.declared.typing.Arguments.{Arguments}
use Rattle.fm_rules.specs.declared.typing.Judgement.{Judgement}
use Rattle.fm_rules.specs.declared.typing.Referent.{Referent}
use Rattle.fm_rules.specs.declared.typing.Referent.TheVariants as referent
use Rattle.fm_rules.specs.Flags.{both, e41, e42, e46}
use Rattle.fm_rules.specs.Typing.{needed, operand, plain, symbol_type}
use Rattle.fm_rules.specs.Expressions.{array_or, arguments_judged, function_referent, intrinsic_or, judged, reference_judged, referent_of}
use Rattle.fm_rules.specs.VariableTypes.{element_of, is_bare, subscripted, target_judged, target_named}
use Rattle.fm_rules.specs.TypeStatements.{changes_formal, expr_flags, extra_flags, in_any, port_flags, simple_flags, target_flags, typed_flags, value_for}
use Rattle.fm_rules.specs.declared.program.Program.{Program}
use Rattle.fm_mean.specs.Names.{ProgramUnit, context, kind_of, unit_at, unit_named, variable_of}
use Rattle.fm_mean.specs.Evaluate.{Reference, Element, Call, Built, Unknown, function_by, is_array, reference_of}
use Rattle.fm_mean.specs.Evaluate as mean
use Rattle.fm_mean.specs.Referring.{names_in}
use Rattle.fm_mean.proofs.Unflagged.{IsUnflagged, left_unflagged, right_unflagged}
use Rattle.fm_mean.proofs.JudgedItems.{all_unflagged}
use Rattle.fm_mean.proofs.JudgedPrograms.{arrays_in}
use Rattle.fm_mean.proofs.JudgedReferences.{Sound}
use Rattle.fm_mean.proofs.JudgedValues.{Stands, stands, stands_constant, stands_none, stands_variable}
use Rattle.fm_mean.proofs.ProgramMeanings.{meanings}
use Rattle.fm_mean.proofs.Sizes.{in_all}
use Rattle.fm_mean.proofs.SoundTrees.{parts, statement_parts}
use Rattle.fm_gen_relation.proofs.EntryFlags.{entry_unflagged}
use Rattle.fm_gen_operands.specs.Code.{trees_count}
use Rattle.fm_compile_law.specs.Counted.{FitsCount, IsCounted, AreCounted, VariableFits, VarFits, ExtraFits, VariablesFit, IsCountedEntry}

never : true ≡ false → ⊥
never e = absurd (cc)

not_false : (b : Bool) → not b ≡ false → b ≡ true
not_false true e = refl
not_false false e = absurd (cc)

count_so : (a : Arguments) (n : ℕ) → IsUnflagged (both a.flags (e41 (not (a.fit && nat_eq a.count n)))) → a.count ≡ n
count_so a n h =
    let fits = a.fit && nat_eq a.count n in
    (Decides-eqb a.count n).0 (second_so a.fit (nat_eq a.count n) (not_false fits (right_unflagged a.flags (e41 (not fits)) h).e41))

else_unflagged : (b : Bool) (x y : Judgement) → IsUnflagged (if b then x else y).flags → b ≡ false → IsUnflagged y.flags
else_unflagged true x y h e = absurd (never e)
else_unflagged false x y h e = h

module _ (p : Program) (u : ProgramUnit) where
  abbrev sc : symbols.Scope
  sc = scope_of u.tree u.names

  arguments_counted : (r : Referent) (l : Trees) (i : ℕ) → (arguments_judged (context p) sc r i l).count ≡ trees_count l
  arguments_counted r NoTrees i = refl
  arguments_counted r (More t l) i = ap suc (arguments_counted r l (i + 1))

  -- ---- names with a list in expressions

  abbrev FitsAs : Arguments → Referent → Reference → Type 0
  FitsAs a r m = IsUnflagged (reference_judged (context p) r a).flags → FitsCount m a.count

  no_array : (a : Arguments) (j : ℕ) (v : Variable) (r : Referent) (m : Reference) → v.bounds ≡ [] → FitsAs a r m → FitsAs a r (mean.array_or (Some (j, v)) m)
  no_array a j v r m none rest h = subst (λ (bs : List (ℤ × ℤ)). FitsCount (cond (is_array bs) (Element j v) m) a.count) (sym none) (rest h)

  an_array : (j : ℕ) (v : Variable) (b : ℤ × ℤ) (bs : List (ℤ × ℤ)) (m : Reference) (n : ℕ) → v.bounds ≡ b ∷ bs → n ≡ length (b ∷ bs) → FitsCount (mean.array_or (Some (j, v)) m) n
  an_array j v b bs m n some same = subst (λ (l : List (ℤ × ℤ)). FitsCount (cond (is_array l) (Element j v) m) n) (sym some) (same ∙ ap length (sym some))

  array_fits : (a : Arguments) (j : ℕ) (v : Variable) (q : Kind) (bs : List (ℤ × ℤ)) (words : ℕ) (r : Referent) (m : Reference) → v.bounds ≡ bs → FitsAs a r m
      → FitsAs a (array_or (Some (symbol_by q bs words j)) r) (mean.array_or (Some (j, v)) m)
  array_fits a j v kind.Integer [] words r m is rest h = no_array a j v r m is rest h
  array_fits a j v kind.Logical [] words r m is rest h = no_array a j v r m is rest h
  array_fits a j v (kind.In t) [] words r m is rest h = no_array a j v r m is rest h
  array_fits a j v (kind.Out t) [] words r m is rest h = no_array a j v r m is rest h
  array_fits a j v kind.Integer (b ∷ bs) words r m is rest h = an_array j v b bs m a.count is (count_so a (length (b ∷ bs)) h)
  array_fits a j v kind.Logical (b ∷ bs) words r m is rest h = an_array j v b bs m a.count is (count_so a (length (b ∷ bs)) h)
  array_fits a j v (kind.In t) (b ∷ bs) words r m is rest h = an_array j v b bs m a.count is (count_so a (length (b ∷ bs)) h)
  array_fits a j v (kind.Out t) (b ∷ bs) words r m is rest h = an_array j v b bs m a.count is (count_so a (length (b ∷ bs)) h)

  constant_fits : (a : Arguments) (x : Constant) (r : Referent) (m : Reference) → FitsAs a r m → FitsAs a (array_or (Some (constant_symbol x)) r) m
  constant_fits a (constant.Integer n) r m rest = rest
  constant_fits a (constant.Logical b) r m rest = rest

  intrinsic_fits : (a : Arguments) (o : Option Intrinsic) (r : Referent) (m : Reference) → FitsAs a r m → FitsAs a (intrinsic_or o r) (mean.intrinsic_or o m)
  intrinsic_fits a None r m rest h = rest h
  intrinsic_fits a (Some f) r m rest h =
      let fits = a.fit && takes f a.count in
      second_so a.fit (takes f a.count) (not_false fits (right_unflagged a.flags (e42 (not fits)) h).e42)

  function_fits : (o : Option (ℕ × ProgramUnit)) (n : ℕ) → FitsCount (function_by o) n
  function_fits None n = tt
  function_fits (Some v) n = go (is_function (kind_of v.1))
    where
      go : (b : Bool) → FitsCount (cond b (Call v.0 v.1) Unknown) n
      go true = tt
      go false = tt

  abbrev rest_judged : List ℕ → Referent
  rest_judged name = intrinsic_or (intrinsic_named name) (function_referent (function_named (context p) name))

  abbrev rest_meant : List ℕ → Reference
  rest_meant name = mean.intrinsic_or (intrinsic_named name) (function_by (unit_named p name))

  named_fits : (a : Arguments) (name : List ℕ) → FitsAs a (referent_of (context p) sc name) (reference_of (names_in p u) name)
  named_fits a name = go (stands u name)
    where
      rest : FitsAs a (rest_judged name) (rest_meant name)
      rest = intrinsic_fits a (intrinsic_named name) (function_referent (function_named (context p) name)) (function_by (unit_named p name)) (λ h. function_fits (unit_named p name) a.count)

      both_ways : (o : Option Symbol) (w : Option (ℕ × Variable)) → get (symbols_of u.names) name ≡ o → variable_of u name ≡ w → FitsAs a (array_or o (rest_judged name)) (mean.array_or w (rest_meant name))
          → FitsAs a (referent_of (context p) sc name) (reference_of (names_in p u) name)
      both_ways o w at there h =
          subst (λ (o : Option Symbol). FitsAs a (array_or o (rest_judged name)) (reference_of (names_in p u) name)) (sym at)
          (subst (λ (w : Option (ℕ × Variable)). FitsAs a (array_or o (rest_judged name)) (mean.array_or w (rest_meant name))) (sym there) h)

      go : Stands u name (get (symbols_of u.names) name) → FitsAs a (referent_of (context p) sc name) (reference_of (names_in p u) name)
      go (stands_none at none) = both_ways None None at none rest
      go (stands_constant c at none there) = both_ways (Some (constant_symbol c)) None at none (constant_fits a c (rest_judged name) (rest_meant name) rest)
      go (stands_variable k v at there here) = both_ways (Some (symbol_of k v)) (Some (k, v)) at there (array_fits a k v v.kind v.bounds v.words (rest_judged name) (rest_meant name) refl rest)

  counted : (t : Tree) → Sound p (arrays_in u) u t → IsCounted p u t
  counted (Ref name args) s =
      let r = referent_of (context p) sc name in
      subst (FitsCount (reference_of (names_in p u) name)) (arguments_counted r args 0) (named_fits (arguments_judged (context p) sc r 0 args) name s.flags)
  counted t s = tt

  all_counted : (l : List Tree) → AllIn (Sound p (arrays_in u) u) l → AreCounted p u l
  all_counted [] h = tt
  all_counted (t ∷ l) h = (counted t h.0, all_counted l h.1)

  -- ---- variables with subscripts

  symbol_fits : (v : Variable) (q : Kind) (bs : List (ℤ × ℤ)) (words k : ℕ) (a : Arguments) → v.bounds ≡ bs → IsUnflagged (subscripted (context p) (array_or (Some (symbol_by q bs words k)) referent.Unknown) a).flags → a.count ≡ length v.bounds
  symbol_fits v kind.Integer [] words k a is h = absurd (never (right_unflagged a.flags (e41 true) h).e41)
  symbol_fits v kind.Logical [] words k a is h = absurd (never (right_unflagged a.flags (e41 true) h).e41)
  symbol_fits v (kind.In t) [] words k a is h = absurd (never (right_unflagged a.flags (e41 true) h).e41)
  symbol_fits v (kind.Out t) [] words k a is h = absurd (never (right_unflagged a.flags (e41 true) h).e41)
  symbol_fits v kind.Integer (b ∷ bs) words k a is h = count_so a (length (b ∷ bs)) h ∙ ap length (sym is)
  symbol_fits v kind.Logical (b ∷ bs) words k a is h = count_so a (length (b ∷ bs)) h ∙ ap length (sym is)
  symbol_fits v (kind.In t) (b ∷ bs) words k a is h = count_so a (length (b ∷ bs)) h ∙ ap length (sym is)
  symbol_fits v (kind.Out t) (b ∷ bs) words k a is h = count_so a (length (b ∷ bs)) h ∙ ap length (sym is)

  bare_fits : (o : Option (ℕ × Variable)) → VariableFits o NoTrees
  bare_fits None = tt
  bare_fits (Some v) = tt

  -- the list behind a variable, by what its name stands for
  abbrev listed_by : List Tree → Option Symbol → Arguments
  listed_by l o = arguments_judged (context p) sc (array_or o referent.Unknown) 0 (trees_from l)

  some_fits : (name : List ℕ) (t : Tree) (l : List Tree) → IsUnflagged (subscripted (context p) (array_or (get (symbols_of u.names) name) referent.Unknown) (listed_by (t ∷ l) (get (symbols_of u.names) name))).flags
      → VariableFits (variable_of u name) (trees_from (t ∷ l))
  some_fits name t l h = go (stands u name)
    where
      nothing : variable_of u name ≡ None → VariableFits (variable_of u name) (trees_from (t ∷ l))
      nothing none = subst (λ (o : Option (ℕ × Variable)). VariableFits o (trees_from (t ∷ l))) (sym none) tt

      go : Stands u name (get (symbols_of u.names) name) → VariableFits (variable_of u name) (trees_from (t ∷ l))
      go (stands_none at none) = nothing none
      go (stands_constant c at none there) = nothing none
      go (stands_variable k w at there here) =
          let o : Option Symbol = Some (symbol_of k w) in
          subst (λ (x : Option (ℕ × Variable)). VariableFits x (trees_from (t ∷ l))) (sym there)
          (sym (arguments_counted (array_or o referent.Unknown) (trees_from (t ∷ l)) 0)
          ∙ symbol_fits w w.kind w.bounds w.words k (listed_by (t ∷ l) o) refl (subst (λ (o : Option Symbol). IsUnflagged (subscripted (context p) (array_or o referent.Unknown) (listed_by (t ∷ l) o)).flags) at h))

  var_fits : (v : Var) → (is_bare v.subscripts ≡ false → IsUnflagged (element_of (context p) sc v).flags) → VarFits u v
  var_fits v h = go v.subscripts refl
    where
      go : (l : List Tree) → v.subscripts ≡ l → VarFits u v
      go [] is = subst (λ (l : List Tree). VariableFits (variable_of u v.name) (trees_from l)) (sym is) (bare_fits (variable_of u v.name))
      go (t ∷ l) is =
          let o = get (symbols_of u.names) v.name in
          subst (λ (l : List Tree). VariableFits (variable_of u v.name) (trees_from l)) (sym is)
          (some_fits v.name t l (subst (λ (l : List Tree). IsUnflagged (subscripted (context p) (array_or o referent.Unknown) (listed_by l o)).flags) is (h (ap is_bare is))))

  port_fits : (v : Var) → IsUnflagged (port_flags (context p) sc v) → VarFits u v
  port_fits v h = var_fits v (else_unflagged (is_bare v.subscripts) (plain (symbol_type (symbol_in (context p) sc v.name))) (element_of (context p) sc v) h)

  target_fits : (v : Var) → IsUnflagged (target_judged (context p) sc v).flags → VarFits u v
  target_fits v h = var_fits v (else_unflagged (is_bare v.subscripts) (target_named (context p) (symbol_in (context p) sc v.name)) (element_of (context p) sc v) h)

  ports_fit : (vs : List Var) → AllIn (λ v. IsUnflagged (port_flags (context p) sc v)) vs → AllIn (VarFits u) vs
  ports_fit [] h = tt
  ports_fit (v ∷ vs) h = (port_fits v h.0, ports_fit vs h.1)

  targets_fit : (vs : List Var) → AllIn (λ v. IsUnflagged (target_flags (context p) sc v)) vs → AllIn (VarFits u) vs
  targets_fit [] h = tt
  targets_fit (v ∷ vs) h = (target_fits v h.0, targets_fit vs h.1)

  operand_fits : (q : Scalar) (v : Var) → IsUnflagged (operand q (target_judged (context p) sc v)) → VarFits u v
  operand_fits q v h = target_fits v (left_unflagged (target_judged (context p) sc v).flags (needed q (target_judged (context p) sc v).expr_type) h)

  extras_fit : (es : List Extra) → AllIn (λ e. IsUnflagged (extra_flags (context p) sc e)) es → AllIn (ExtraFits u) es
  extras_fit [] h = tt
  extras_fit (extra.End l ∷ es) h = (tt, extras_fit es h.1)
  extras_fit (extra.Iostat v ∷ es) h = (operand_fits scalar.Integer v h.0, extras_fit es h.1)

  two_fit : (v w : Var) → IsUnflagged (both (port_flags (context p) sc v) (port_flags (context p) sc w)) → VarFits u v × VarFits u w
  two_fit v w h = (port_fits v (left_unflagged (port_flags (context p) sc v) (port_flags (context p) sc w) h), port_fits w (right_unflagged (port_flags (context p) sc v) (port_flags (context p) sc w) h))

  variables_fit : (k : Simple) → IsUnflagged (simple_flags (context p) sc u.names.variables k) → VariablesFit u k
  unfolding simple_flags
  variables_fit (simple.Assignment v t) h =
      let target = (target_judged (context p) sc v).flags in
      let changes = e46 (changes_formal sc u.names.variables v.name) in
      target_fits v (left_unflagged target changes (left_unflagged (both target changes) (value_for (target_judged (context p) sc v).expr_type (judged (context p) sc t)) h))
  variables_fit (simple.Goto l) h = tt
  variables_fit simple.Continue h = tt
  variables_fit simple.Return h = tt
  variables_fit simple.Stop h = tt
  variables_fit (simple.Call name args) h = tt
  variables_fit (simple.Print items) h = tt
  variables_fit (simple.Write unit items) h = tt
  variables_fit (simple.Channel in_first i o) h = two_fit i o h
  variables_fit (simple.Merger i os) h =
      let others = in_any (port_flags (context p) sc) os in
      (port_fits i (left_unflagged (port_flags (context p) sc i) others h), ports_fit os (all_unflagged (port_flags (context p) sc) os (right_unflagged (port_flags (context p) sc i) others h)))
  variables_fit (simple.Send named q items) h = port_fits q (left_unflagged (port_flags (context p) sc q) (in_any (expr_flags (context p) sc) items) h)
  variables_fit (simple.Receive named q extras items) h =
      let port = port_flags (context p) sc q in
      let more = in_any (extra_flags (context p) sc) extras in
      let last = in_any (target_flags (context p) sc) items in
      let first = left_unflagged (both port more) last h in
      (port_fits q (left_unflagged port more first), extras_fit extras (all_unflagged (extra_flags (context p) sc) extras (right_unflagged port more first)), targets_fit items (all_unflagged (target_flags (context p) sc) items (right_unflagged (both port more) last h)))
  variables_fit (simple.EndChannel named q) h = port_fits q h
  variables_fit (simple.MovePort from to) h = two_fit from to h
  variables_fit (simple.Probe named q empty) h =
      let value = operand scalar.Logical (target_judged (context p) sc empty) in
      (port_fits q (left_unflagged (port_flags (context p) sc q) value h), operand_fits scalar.Logical empty (right_unflagged (port_flags (context p) sc q) value h))

-- ---- entries

simple_unflagged : (p : Program) (u : ProgramUnit) (k : Simple) → IsUnflagged (typed_flags (context p) (scope_of u.tree u.names) u.names.variables (stmt.Simple k)) → IsUnflagged (simple_flags (context p) (scope_of u.tree u.names) u.names.variables k)
unfolding typed_flags
simple_unflagged p u k h = h

pub counted_entry : (p : Program) (number : ℕ) (u : ProgramUnit) (i : ℕ) (e : Entry) → unit_at p number ≡ Some u → slice_get u.tree.body i ≡ Some e → IsCountedEntry p u e
counted_entry p number u i e is at =
    let m = meanings p in
    let flags = entry_unflagged p number u is i e at in
    let all = statement_parts p (arrays_in u) u e.stmt (m.alone number u i e is at) flags (m.names number u i e is at) in
    record {
      trees = all_counted p u (applied_in e.stmt) all;
      parts = λ k t there. let s = in_all (Sound p (arrays_in u) u) (applied_in e.stmt) k t all there in all_counted p u (applied t) (parts p (arrays_in u) u t s.flags s.names);
      variables = λ k same. variables_fit p u k (simple_unflagged p u k (subst (λ (t : Stmt). IsUnflagged (typed_flags (context p) (scope_of u.tree u.names) u.names.variables t)) same flags));
    }

-- References are done: where those of an entry have their results, so have those of each part of its statement.
use Rattle.std.proofs.Common.{◌≡◌, ℕ, zero, suc, ◌+◌, ◌-◌, ◌<◌, ◌≤◌, ℤ, Bool, true, false, cond, Option, Some, None, List, [], ◌∷◌, ◌++◌, length, map, take, slice_get, refl, sym, ap, ◌∙◌, subst, arith, append_assoc, length-append}
use Rattle.std.specs.Option.{option_map, option_and_then}
use Rattle.std.specs.List.{flat_map}
use Rattle.std.proofs.lemmas.List.{append-nil, length-take-le}
use Rattle.std.proofs.lemmas.List.Elements.{filter-append}
use Rattle.std.proofs.lemmas.Option.{slice_get-map, slice_get_within}
use Rattle.fm_tree.specs.Tree.{Tree, Trees, Number, Truth, Named, Ref, Paren, Signed, Not, Binary, NoTrees, More, trees_from}
use Rattle.fm_tree.specs.References.{applied, applied_each, in_exprs, in_optional, in_var, in_vars, in_item, in_extra, in_place, in_arguments, in_call, in_loop, in_channel, in_simple, applied_in, reference_at}
use Rattle.fm_tree.specs.declared.program_unit.Entry.{Entry}
use Rattle.fm_tree.specs.declared.statement.Var.{Var}
use Rattle.fm_tree.specs.declared.statement.LoopHead.{LoopHead}
use Rattle.fm_tree.specs.declared.statement.Item.{Item}
use Rattle.fm_tree.specs.declared.statement.Item.TheVariants as item
use Rattle.fm_tree.specs.declared.statement.Extra.{Extra}
use Rattle.fm_tree.specs.declared.statement.Extra.TheVariants as extra
use Rattle.fm_tree.specs.declared.statement.Where.{Where}
use Rattle.fm_tree.specs.declared.statement.Where.TheVariants as place
use Rattle.fm_tree.specs.declared.statement.CallPart.{CallPart}
use Rattle.fm_tree.specs.declared.statement.Simple.{Simple}
use Rattle.fm_tree.specs.declared.statement.Simple.TheVariants as simple
use Rattle.fm_tree.specs.declared.statement.Stmt.{Stmt}
use Rattle.fm_tree.specs.declared.statement.Stmt.TheVariants as stmt
use Rattle.fm_values.specs.Intrinsics.{intrinsic_named}
use Rattle.fm_rules.specs.declared.program.Program.{Program}
use Rattle.fm_mean.specs.Names.{ProgramUnit, unit_named, variable_of}
use Rattle.fm_mean.specs.Evaluate.{Scope, Reference, Element, Call, Built, Unknown, array_or, intrinsic_or, function_by, reference_of, counts_one, refs_in, refs_in_all, refs_in_var, refs_in_vars}
use Rattle.fm_mean.specs.Actions.{trees_in, arguments_in, where_in, next_reference}
use Rattle.fm_mean.specs.TypedTrees.{IsIn}
use Rattle.fm_mean.specs.Referring.{names_in, calls_one, is_call, calls_among}
use Rattle.fm_gen_relation.specs.Standing.{IsDone, AreDone, AreAllDone}
use Rattle.fm_gen_relation.specs.Frames.{IsResultBy, AreResults}
use Rattle.fm_gen_relation.specs.Calls.{HasItsResult, DoneFrom, OptionDone, VarDone, VarsDone, ItemsDone, refs_in_extras, ExtrasDone, WhereDone, BoundsDone, PairDone, ChannelDone, SimpleDone, StatementDone}

-- ---- lists

the_tree : (a b : Tree) → Some a ≡ Some b → a ≡ b
the_tree a b e = cc

-- what is taken from a list stands in it, in front
taken : (n : ℕ) (ts : List Tree) (i : ℕ) (t : Tree) → slice_get (take n ts) i ≡ Some t → (i < n) × (slice_get ts i ≡ Some t)
taken zero ts i t e = absurd (cc e)
taken (suc n) [] i t e = absurd (cc e)
taken (suc n) (x ∷ ts) zero t e = (omega arith, e)
taken (suc n) (x ∷ ts) (suc i) t e = let h = taken n ts i t e in (omega (arith, h.0), h.1)

there : (ws : List ℤ) (i : ℕ) → i < length ws → (w : ℤ) × (slice_get ws i ≡ Some w)
there [] i h = absurd (omega (arith, h))
there (w ∷ ws) zero h = (w, refl)
there (w ∷ ws) (suc i) h = there ws i (omega (arith, h))

none_behind : (ts : List Tree) (i : ℕ) → slice_get ts i ≡ None → length ts ≤ i
none_behind [] i e = omega arith
none_behind (t ∷ ts) zero e = absurd (cc e)
none_behind (t ∷ ts) (suc i) e = omega (arith, none_behind ts i e)

trees_each : (ts : List Tree) → in_exprs ts ≡ applied_each (trees_from ts)
trees_each [] = refl
trees_each (t ∷ ts) = ap (λ l. applied t ++ l) (trees_each ts)

module _ (p : Program) (u : ProgramUnit) where
  among_both : (xs ys : List Tree) → calls_among p u (xs ++ ys) ≡ calls_among p u xs ++ calls_among p u ys
  among_both xs ys = filter-append (is_call p u) xs ys

  pub count_both : (xs ys : List Tree) → length (calls_among p u (xs ++ ys)) ≡ length (calls_among p u xs) + length (calls_among p u ys)
  count_both xs ys = ap length (among_both xs ys) ∙ length-append (calls_among p u xs) (calls_among p u ys)

  -- ---- results in a row

  pub done_both : (rs : List ℤ) (xs ys : List Tree) (n : ℕ) → DoneFrom p u rs (xs ++ ys) n → DoneFrom p u rs xs n × DoneFrom p u rs ys (n + length xs)
  done_both rs [] ys n h = (tt, subst (DoneFrom p u rs ys) (omega arith) h)
  done_both rs (x ∷ xs) ys n h =
      let more = done_both rs xs ys (suc n) h.1 in
      ((h.0, more.0), subst (DoneFrom p u rs ys) (omega arith) more.1)

  pub done_parts : (rs : List ℤ) (xs ys : List Tree) (n : ℕ) → DoneFrom p u rs (calls_among p u (xs ++ ys)) n
      → DoneFrom p u rs (calls_among p u xs) n × DoneFrom p u rs (calls_among p u ys) (n + length (calls_among p u xs))
  done_parts rs xs ys n h = done_both rs (calls_among p u xs) (calls_among p u ys) n (subst (λ l. DoneFrom p u rs l n) (among_both xs ys) h)

  pub done_first : (rs : List ℤ) (xs ys : List Tree) (n : ℕ) → DoneFrom p u rs (calls_among p u (xs ++ ys)) n → DoneFrom p u rs (calls_among p u xs) n
  done_first rs xs ys n h = (done_parts rs xs ys n h).0

  -- with the number of the first behind
  pub done_behind : (rs : List ℤ) (xs ys : List Tree) (n k m : ℕ) → k ≡ length (calls_among p u xs) → n + k ≡ m → DoneFrom p u rs (calls_among p u (xs ++ ys)) n → DoneFrom p u rs (calls_among p u ys) m
  done_behind rs xs ys n k m count e h = subst (DoneFrom p u rs (calls_among p u ys)) (omega (arith, count, e)) (done_parts rs xs ys n h).1

  done_by : (rs : List ℤ) (ts : List Tree) (n : ℕ) → ((i : ℕ) (t : Tree) → slice_get ts i ≡ Some t → HasItsResult p u rs t (n + i)) → DoneFrom p u rs ts n
  done_by rs [] n known = tt
  done_by rs (t ∷ ts) n known =
      (subst (HasItsResult p u rs t) (omega arith) (known 0 t refl), done_by rs ts (suc n) (λ i x e. subst (HasItsResult p u rs x) (omega arith) (known (suc i) x e)))

  -- ---- the calls of its arguments stand right before a reference

  abbrev StandBefore : List Tree → Tree → Type 0
  StandBefore before (Number n) = Unit {0}
  StandBefore before (Truth b) = Unit {0}
  StandBefore before (Named name) = Unit {0}
  StandBefore before (Ref name args) = (front : List Tree) × (before ≡ front ++ calls_among p u (applied_each args))
  StandBefore before (Paren e) = Unit {0}
  StandBefore before (Signed op e) = Unit {0}
  StandBefore before (Not e) = Unit {0}
  StandBefore before (Binary op a b) = Unit {0}

  -- so it is with each of these, where others stand before them
  abbrev ArrangedBehind : List Tree → List Tree → Type 0
  ArrangedBehind before [] = Unit {0}
  ArrangedBehind before (t ∷ ts) = StandBefore before t × ArrangedBehind (before ++ t ∷ []) ts

  abbrev IsArranged : List Tree → Type 0
  IsArranged ts = ArrangedBehind [] (calls_among p u ts)

  stand_further : (more before : List Tree) (t : Tree) → StandBefore before t → StandBefore (more ++ before) t
  stand_further more before (Number n) h = tt
  stand_further more before (Truth b) h = tt
  stand_further more before (Named name) h = tt
  stand_further more before (Ref name args) h = (more ++ h.0, ap (λ l. more ++ l) h.1 ∙ sym (append_assoc more h.0 (calls_among p u (applied_each args))))
  stand_further more before (Paren e) h = tt
  stand_further more before (Signed op e) h = tt
  stand_further more before (Not e) h = tt
  stand_further more before (Binary op a b) h = tt

  arranged_further : (more before ts : List Tree) → ArrangedBehind before ts → ArrangedBehind (more ++ before) ts
  arranged_further more before [] h = tt
  arranged_further more before (t ∷ ts) h =
      (stand_further more before t h.0, subst (λ l. ArrangedBehind l ts) (sym (append_assoc more before (t ∷ []))) (arranged_further more (before ++ t ∷ []) ts h.1))

  arranged_then : (before xs ys : List Tree) → ArrangedBehind before xs → ArrangedBehind (before ++ xs) ys → ArrangedBehind before (xs ++ ys)
  arranged_then before [] ys h k = subst (λ l. ArrangedBehind l ys) (append-nil before) k
  arranged_then before (x ∷ xs) ys h k = (h.0, arranged_then (before ++ x ∷ []) xs ys h.1 (subst (λ l. ArrangedBehind l ys) (sym (append_assoc before (x ∷ []) xs)) k))

  arranged_both : (xs ys : List Tree) → IsArranged xs → IsArranged ys → IsArranged (xs ++ ys)
  arranged_both xs ys h k =
      let x = calls_among p u xs in
      let y = calls_among p u ys in
      subst (ArrangedBehind []) (sym (among_both xs ys)) (arranged_then [] x y h (subst (λ l. ArrangedBehind l y) (append-nil x) (arranged_further x [] y k)))

  arranged_last : (name : List ℕ) (args : Trees) (b : Bool) → ArrangedBehind (calls_among p u (applied_each args)) (cond b (Ref name args ∷ []) [])
  arranged_last name args true = (([], refl), tt)
  arranged_last name args false = tt

  mutual
    arranged : (t : Tree) → IsArranged (applied t)
    arranged (Number n) = tt
    arranged (Truth b) = tt
    arranged (Named name) = tt
    arranged (Ref name args) =
        subst (ArrangedBehind []) (sym (among_both (applied_each args) (Ref name args ∷ [])))
        (arranged_then [] (calls_among p u (applied_each args)) (calls_among p u (Ref name args ∷ [])) (arranged_each args) (arranged_last name args (is_call p u (Ref name args))))
    arranged (Paren e) = arranged e
    arranged (Signed op e) = arranged e
    arranged (Not e) = arranged e
    arranged (Binary op a b) = arranged_both (applied a) (applied b) (arranged a) (arranged b)

    arranged_each : (ts : Trees) → IsArranged (applied_each ts)
    arranged_each NoTrees = tt
    arranged_each (More t ts) = arranged_both (applied t) (applied_each ts) (arranged t) (arranged_each ts)

  arranged_all : {X : Type 0} (f : X → List Tree) → ((x : X) → IsArranged (f x)) → (xs : List X) → IsArranged (flat_map f xs)
  arranged_all f each [] = tt
  arranged_all f each (x ∷ xs) = arranged_both (f x) (flat_map f xs) (each x) (arranged_all f each xs)

  arranged_exprs : (ts : List Tree) → IsArranged (in_exprs ts)
  arranged_exprs ts = arranged_all applied arranged ts

  arranged_optional : (o : Option Tree) → IsArranged (in_optional o)
  arranged_optional None = tt
  arranged_optional (Some t) = arranged t

  arranged_var : (v : Var) → IsArranged (in_var v)
  arranged_var v = arranged_exprs v.subscripts

  arranged_item : (i : Item) → IsArranged (in_item i)
  arranged_item (item.Expr e) = arranged e
  arranged_item (item.Constant bytes) = tt

  arranged_extra : (x : Extra) → IsArranged (in_extra x)
  arranged_extra (extra.End l) = tt
  arranged_extra (extra.Iostat v) = arranged_var v

  arranged_place : (o : Option Where) → IsArranged (in_place o)
  arranged_place None = tt
  arranged_place (Some (place.Location ks)) = arranged_exprs ks
  arranged_place (Some (place.Submachine a b)) = arranged_both (applied a) (applied b) (arranged a) (arranged b)

  arranged_arguments : (o : Option (List Tree)) → IsArranged (in_arguments o)
  arranged_arguments None = tt
  arranged_arguments (Some ts) = arranged_exprs ts

  arranged_call : (o : Option CallPart) → IsArranged (in_call o)
  arranged_call None = tt
  arranged_call (Some c) = arranged_both (in_exprs c.arguments) (in_place c.place) (arranged_exprs c.arguments) (arranged_place c.place)

  arranged_loop : (h : LoopHead) → IsArranged (in_loop h)
  arranged_loop h =
      arranged_both (applied h.from ++ applied h.to) (in_optional h.step) (arranged_both (applied h.from) (applied h.to) (arranged h.from) (arranged h.to)) (arranged_optional h.step)

  arranged_pair : (v w : Var) → IsArranged (in_var v ++ in_var w)
  arranged_pair v w = arranged_both (in_var v) (in_var w) (arranged_var v) (arranged_var w)

  arranged_channel : (b : Bool) (i o : Var) → IsArranged (in_channel b i o)
  arranged_channel true i o = arranged_pair i o
  arranged_channel false i o = arranged_pair o i

  arranged_simple : (k : Simple) → IsArranged (in_simple k)
  unfolding in_simple
  arranged_simple (simple.Assignment v t) = arranged_both (in_var v) (applied t) (arranged_var v) (arranged t)
  arranged_simple (simple.Goto l) = tt
  arranged_simple simple.Continue = tt
  arranged_simple simple.Return = tt
  arranged_simple simple.Stop = tt
  arranged_simple (simple.Call name args) = arranged_arguments args
  arranged_simple (simple.Print items) = arranged_all in_item arranged_item items
  arranged_simple (simple.Write unit items) = arranged_all in_item arranged_item items
  arranged_simple (simple.Channel in_first i o) = arranged_channel in_first i o
  arranged_simple (simple.Merger i os) = arranged_both (in_var i) (in_vars os) (arranged_var i) (arranged_all in_var arranged_var os)
  arranged_simple (simple.Send named q items) = arranged_both (in_var q) (in_exprs items) (arranged_var q) (arranged_exprs items)
  arranged_simple (simple.Receive named q extras items) =
      arranged_both (in_var q ++ flat_map in_extra extras) (in_vars items)
      (arranged_both (in_var q) (flat_map in_extra extras) (arranged_var q) (arranged_all in_extra arranged_extra extras)) (arranged_all in_var arranged_var items)
  arranged_simple (simple.EndChannel named q) = arranged_var q
  arranged_simple (simple.MovePort from to) = arranged_pair from to
  arranged_simple (simple.Probe named q empty) = arranged_pair q empty

  arranged_in : (k : Stmt) → IsArranged (applied_in k)
  unfolding applied_in
  arranged_in (stmt.Simple k) = arranged_simple k
  arranged_in (stmt.LogicalIf t k) = arranged_both (applied t) (in_simple k) (arranged t) (arranged_simple k)
  arranged_in (stmt.BlockIf t) = arranged t
  arranged_in (stmt.ElseIf t) = arranged t
  arranged_in (stmt.Do h) = arranged_loop h
  arranged_in (stmt.DoWhile t) = arranged t
  arranged_in (stmt.ProcessCall name part) = arranged_call part
  arranged_in (stmt.ProcessDo h) = arranged_loop h
  arranged_in other = tt

  -- those of its arguments, as the last before a reference at its place
  arranged_at : (before ts : List Tree) (n : ℕ) (name : List ℕ) (args : Trees) → ArrangedBehind before ts → slice_get ts n ≡ Some (Ref name args)
      → (front : List Tree) × (before ++ take n ts ≡ front ++ calls_among p u (applied_each args))
  arranged_at before [] n name args h e = absurd (cc e)
  arranged_at before (t ∷ ts) zero name args h e =
      let last : StandBefore before (Ref name args) = subst (StandBefore before) (the_tree t (Ref name args) e) h.0 in
      (last.0, append-nil before ∙ last.1)
  arranged_at before (t ∷ ts) (suc n) name args h e =
      let more = arranged_at (before ++ t ∷ []) ts n name args h.1 e in
      (more.0, sym (append_assoc before (t ∷ []) (take n ts)) ∙ more.1)

  -- ---- at an entry

  module _ (e : Entry) (references : map (reference_at e.stmt) e.refs ≡ map Some (calls_among p u (applied_in e.stmt))) where
    both_in : (o : Option ℕ) (t : Option Tree) → option_map (reference_at e.stmt) o ≡ option_map Some t → option_and_then (reference_at e.stmt) o ≡ t
    both_in None None h = refl
    both_in None (Some t) h = absurd (cc h)
    both_in (Some i) None h = absurd (cc h)
    both_in (Some i) (Some t) h = the_option (reference_at e.stmt i) (Some t) h
      where
        the_option : (a b : Option Tree) → Some a ≡ Some b → a ≡ b
        the_option a b h = cc

    -- the reference that comes next is the call with its number
    pub next_call : (n : ℕ) → next_reference e n ≡ slice_get (calls_among p u (applied_in e.stmt)) n
    next_call n =
        both_in (slice_get e.refs n) (slice_get (calls_among p u (applied_in e.stmt)) n)
        (sym (slice_get-map (reference_at e.stmt) e.refs n) ∙ ap (λ l. slice_get l n) references ∙ slice_get-map Some (calls_among p u (applied_in e.stmt)) n)

    module _ (rs : List ℤ) (results : AreResults p u e rs) where
      has_result : (i : ℕ) (t : Tree) → i < length rs → slice_get (calls_among p u (applied_in e.stmt)) i ≡ Some t → HasItsResult p u rs t i
      has_result i t less is =
          let w = there rs i less in
          (w.0, w.1, results i t w.0 (next_call i ∙ is) w.1)

      -- where no reference comes next, all have their results
      pub all_done : next_reference e (length rs) ≡ None → DoneFrom p u rs (calls_among p u (applied_in e.stmt)) 0
      all_done none =
          let cs = calls_among p u (applied_in e.stmt) in
          let few : length cs ≤ length rs = none_behind cs (length rs) (sym (next_call (length rs)) ∙ none) in
          done_by rs cs 0 (λ i t is. let less : i < length cs = slice_get_within cs i t is in subst (HasItsResult p u rs t) (omega arith) (has_result i t (omega arith) is))

      -- where one comes next, those of its arguments have theirs, and are the last
      pub arguments_done : (name : List ℕ) (args : Trees) → next_reference e (length rs) ≡ Some (Ref name args)
          → (n : ℕ) × (n + length (calls_among p u (applied_each args)) ≡ length rs) × DoneFrom p u rs (calls_among p u (applied_each args)) n
      arguments_done name args next =
          let cs = calls_among p u (applied_in e.stmt) in
          let n = length rs in
          let is : slice_get cs n ≡ Some (Ref name args) = sym (next_call n) ∙ next in
          let within : n < length cs = slice_get_within cs n (Ref name args) is in
          let last = arranged_at [] cs n name args (arranged_in e.stmt) is in
          let ends : take n cs ≡ last.0 ++ calls_among p u (applied_each args) = last.1 in
          let before : DoneFrom p u rs (take n cs) 0 = done_by rs (take n cs) 0 (λ i t h. let k = taken n cs i t h in subst (HasItsResult p u rs t) (omega arith) (has_result i t k.0 k.1)) in
          let parts = done_both rs last.0 (calls_among p u (applied_each args)) 0 (subst (λ l. DoneFrom p u rs l 0) ends before) in
          (0 + length last.0, omega (arith, length-take-le n cs (omega arith), ap length ends, length-append last.0 (calls_among p u (applied_each args))), parts.1)

-- ---- in a scope

module _ (p : Program) (u : ProgramUnit) (s : Scope) (inside : IsIn p u s) where
  pub same_reference : (name : List ℕ) → reference_of s name ≡ reference_of (names_in p u) name
  same_reference name = λ i. array_or (variable_of (inside.unit i) name) (intrinsic_or (intrinsic_named name) (function_by (unit_named (inside.program i) name)))

  -- ---- how many they are

  count_one : (g : Reference) (t : Tree) → counts_one g ≡ length (cond (calls_one g) (t ∷ []) [])
  count_one (Element i v) t = refl
  count_one (Call k callee) t = refl
  count_one (Built f) t = refl
  count_one Unknown t = refl

  mutual
    pub refs_count : (t : Tree) → refs_in s t ≡ length (calls_among p u (applied t))
    refs_count (Number n) = refl
    refs_count (Truth b) = refl
    refs_count (Named name) = refl
    refs_count (Ref name args) =
        ap (λ k. k + counts_one (reference_of s name)) (refs_all_count args)
        ∙ ap (λ k. length (calls_among p u (applied_each args)) + k) (ap counts_one (same_reference name) ∙ count_one (reference_of (names_in p u) name) (Ref name args))
        ∙ sym (count_both p u (applied_each args) (Ref name args ∷ []))
    refs_count (Paren e) = refs_count e
    refs_count (Signed op e) = refs_count e
    refs_count (Not e) = refs_count e
    refs_count (Binary op a b) = (λ i. refs_count a i + refs_count b i) ∙ sym (count_both p u (applied a) (applied b))

    pub refs_all_count : (ts : Trees) → refs_in_all s ts ≡ length (calls_among p u (applied_each ts))
    refs_all_count NoTrees = refl
    refs_all_count (More t ts) = (λ i. refs_count t i + refs_all_count ts i) ∙ sym (count_both p u (applied t) (applied_each ts))

  pub refs_exprs_count : (ts : List Tree) → refs_in_all s (trees_from ts) ≡ length (calls_among p u (in_exprs ts))
  refs_exprs_count ts = refs_all_count (trees_from ts) ∙ ap (λ l. length (calls_among p u l)) (sym (trees_each ts))

  pub refs_var_count : (v : Var) → refs_in_var s v ≡ length (calls_among p u (in_var v))
  refs_var_count v = refs_exprs_count v.subscripts

  pub refs_vars_count : (vs : List Var) → refs_in_vars s vs ≡ length (calls_among p u (in_vars vs))
  refs_vars_count [] = refl
  refs_vars_count (v ∷ vs) = (λ i. refs_var_count v i + refs_vars_count vs i) ∙ sym (count_both p u (in_var v) (in_vars vs))

  pub refs_extras_count : (es : List Extra) → refs_in_extras s es ≡ length (calls_among p u (flat_map in_extra es))
  refs_extras_count [] = refl
  refs_extras_count (extra.End l ∷ es) = refs_extras_count es
  refs_extras_count (extra.Iostat v ∷ es) = (λ i. refs_var_count v i + refs_extras_count es i) ∙ sym (count_both p u (in_var v) (flat_map in_extra es))

  -- ---- what is done of them in a row is done in the trees

  is_done : (g : Reference) (w : ℤ) (k : ℕ) → slice_get s.results k ≡ Some w → IsResultBy g w → IsDone s g k
  is_done (Element i v) w k e h = tt
  is_done (Call j callee) w k e h = (w, e, h)
  is_done (Built f) w k e h = tt
  is_done Unknown w k e h = tt

  last_done : (g : Reference) (name : List ℕ) (args : Trees) (n : ℕ) → reference_of (names_in p u) name ≡ g → DoneFrom p u s.results (cond (calls_one g) (Ref name args ∷ []) []) n → IsDone s g n
  last_done (Element i v) name args n e h = tt
  last_done (Call j callee) name args n e h = is_done (Call j callee) h.0.0 n h.0.1 (subst (λ g. IsResultBy g h.0.0) e h.0.2)
  last_done (Built f) name args n e h = tt
  last_done Unknown name args n e h = tt

  abbrev RowDone : List Tree → ℕ → Type 0
  RowDone ts n = DoneFrom p u s.results (calls_among p u ts) n

  first : (xs ys : List Tree) (n : ℕ) → RowDone (xs ++ ys) n → RowDone xs n
  first xs ys n h = done_first p u s.results xs ys n h

  behind : (xs ys : List Tree) (n k : ℕ) → k ≡ length (calls_among p u xs) → RowDone (xs ++ ys) n → RowDone ys (n + k)
  behind xs ys n k count h = done_behind p u s.results xs ys n k (n + k) count refl h

  start : (xs ys : List Tree) (k : ℕ) → k ≡ length (calls_among p u xs) → RowDone (xs ++ ys) 0 → RowDone ys k
  start xs ys k count h = done_behind p u s.results xs ys 0 k k count (omega arith) h

  mutual
    pub tree_done : (t : Tree) (n : ℕ) → DoneFrom p u s.results (calls_among p u (applied t)) n → AreDone s t n
    tree_done (Number k) n h = tt
    tree_done (Truth b) n h = tt
    tree_done (Named name) n h = tt
    tree_done (Ref name args) n h =
        let g = reference_of (names_in p u) name in (
          trees_done args n (first (applied_each args) (Ref name args ∷ []) n h),
          subst (λ g. IsDone s g (n + refs_in_all s args)) (sym (same_reference name))
              (last_done g name args (n + refs_in_all s args) refl
              (behind (applied_each args) (Ref name args ∷ []) n (refs_in_all s args) (refs_all_count args) h)),
        )
    tree_done (Paren e) n h = tree_done e n h
    tree_done (Signed op e) n h = tree_done e n h
    tree_done (Not e) n h = tree_done e n h
    tree_done (Binary op a b) n h =
        (tree_done a n (first (applied a) (applied b) n h), tree_done b (n + refs_in s a) (behind (applied a) (applied b) n (refs_in s a) (refs_count a) h))

    pub trees_done : (ts : Trees) (n : ℕ) → DoneFrom p u s.results (calls_among p u (applied_each ts)) n → AreAllDone s ts n
    trees_done NoTrees n h = tt
    trees_done (More t ts) n h =
        (tree_done t n (first (applied t) (applied_each ts) n h), trees_done ts (n + refs_in s t) (behind (applied t) (applied_each ts) n (refs_in s t) (refs_count t) h))

  pub exprs_done : (ts : List Tree) (n : ℕ) → DoneFrom p u s.results (calls_among p u (in_exprs ts)) n → AreAllDone s (trees_from ts) n
  exprs_done ts n h = trees_done (trees_from ts) n (subst (λ l. RowDone l n) (trees_each ts) h)

  pub optional_done : (o : Option Tree) (n : ℕ) → DoneFrom p u s.results (calls_among p u (in_optional o)) n → OptionDone s o n
  optional_done None n h = tt
  optional_done (Some t) n h = tree_done t n h

  pub var_done : (v : Var) (n : ℕ) → DoneFrom p u s.results (calls_among p u (in_var v)) n → VarDone s v n
  var_done v n h = exprs_done v.subscripts n h

  pub vars_done : (vs : List Var) (n : ℕ) → DoneFrom p u s.results (calls_among p u (in_vars vs)) n → VarsDone s vs n
  vars_done [] n h = tt
  vars_done (v ∷ vs) n h =
      (var_done v n (first (in_var v) (in_vars vs) n h), vars_done vs (n + refs_in_var s v) (behind (in_var v) (in_vars vs) n (refs_in_var s v) (refs_var_count v) h))

  pub items_done : (is : List Item) (n : ℕ) → DoneFrom p u s.results (calls_among p u (flat_map in_item is)) n → ItemsDone s is n
  items_done [] n h = tt
  items_done (item.Constant bytes ∷ is) n h = items_done is n h
  items_done (item.Expr e ∷ is) n h =
      (tree_done e n (first (applied e) (flat_map in_item is) n h), items_done is (n + refs_in s e) (behind (applied e) (flat_map in_item is) n (refs_in s e) (refs_count e) h))

  pub extras_done : (es : List Extra) (n : ℕ) → DoneFrom p u s.results (calls_among p u (flat_map in_extra es)) n → ExtrasDone s es n
  extras_done [] n h = tt
  extras_done (extra.End l ∷ es) n h = extras_done es n h
  extras_done (extra.Iostat v ∷ es) n h =
      (var_done v n (first (in_var v) (flat_map in_extra es) n h), extras_done es (n + refs_in_var s v) (behind (in_var v) (flat_map in_extra es) n (refs_in_var s v) (refs_var_count v) h))

  pub place_done : (o : Option Where) (n : ℕ) → DoneFrom p u s.results (calls_among p u (in_place o)) n → WhereDone s o n
  place_done None n h = tt
  place_done (Some (place.Location ks)) n h = exprs_done ks n h
  place_done (Some (place.Submachine a b)) n h =
      (tree_done a n (first (applied a) (applied b) n h), tree_done b (n + refs_in s a) (behind (applied a) (applied b) n (refs_in s a) (refs_count a) h))

  pub pair_done : (v w : Var) → DoneFrom p u s.results (calls_among p u (in_var v ++ in_var w)) 0 → PairDone s v w
  pair_done v w h =
      (var_done v 0 (first (in_var v) (in_var w) 0 h), var_done w (refs_in_var s v) (start (in_var v) (in_var w) (refs_in_var s v) (refs_var_count v) h))

  pub channel_done : (b : Bool) (i o : Var) → DoneFrom p u s.results (calls_among p u (in_channel b i o)) 0 → ChannelDone s b i o
  channel_done true i o h = pair_done i o h
  channel_done false i o h = pair_done o i h

  pub bounds_done : (l : LoopHead) → DoneFrom p u s.results (calls_among p u (in_loop l)) 0 → BoundsDone s l
  bounds_done l h =
      let both = first (applied l.from ++ applied l.to) (in_optional l.step) 0 h in
      let count : refs_in s l.from + refs_in s l.to ≡ length (calls_among p u (applied l.from ++ applied l.to)) =
      (λ i. refs_count l.from i + refs_count l.to i) ∙ sym (count_both p u (applied l.from) (applied l.to)) in (
        tree_done l.from 0 (first (applied l.from) (applied l.to) 0 both),
        tree_done l.to (refs_in s l.from) (start (applied l.from) (applied l.to) (refs_in s l.from) (refs_count l.from) both),
        optional_done l.step (refs_in s l.from + refs_in s l.to)
            (start (applied l.from ++ applied l.to) (in_optional l.step) (refs_in s l.from + refs_in s l.to) count h),
      )

  arguments_in_done : (o : Option (List Tree)) (n : ℕ) → RowDone (in_arguments o) n → AreAllDone s (trees_in o) n
  arguments_in_done None n h = tt
  arguments_in_done (Some ts) n h = exprs_done ts n h

  call_done : (o : Option CallPart) → RowDone (in_call o) 0 → AreAllDone s (trees_from (arguments_in o)) 0 × WhereDone s (where_in o) (refs_in_all s (trees_from (arguments_in o)))
  call_done None h = (tt, tt)
  call_done (Some c) h =
      let k = refs_in_all s (trees_from c.arguments) in
      (exprs_done c.arguments 0 (first (in_exprs c.arguments) (in_place c.place) 0 h), place_done c.place k (start (in_exprs c.arguments) (in_place c.place) k (refs_exprs_count c.arguments) h))

  pub simple_done : (k : Simple) → DoneFrom p u s.results (calls_among p u (in_simple k)) 0 → SimpleDone s k
  unfolding in_simple
  simple_done (simple.Assignment v t) h =
      (var_done v 0 (first (in_var v) (applied t) 0 h), tree_done t (refs_in_var s v) (start (in_var v) (applied t) (refs_in_var s v) (refs_var_count v) h))
  simple_done (simple.Goto l) h = tt
  simple_done simple.Continue h = tt
  simple_done simple.Return h = tt
  simple_done simple.Stop h = tt
  simple_done (simple.Call name args) h = arguments_in_done args 0 h
  simple_done (simple.Print items) h = items_done items 0 h
  simple_done (simple.Write unit items) h = items_done items 0 h
  simple_done (simple.Channel in_first i o) h = channel_done in_first i o h
  simple_done (simple.Merger i os) h =
      (var_done i 0 (first (in_var i) (in_vars os) 0 h), vars_done os (refs_in_var s i) (start (in_var i) (in_vars os) (refs_in_var s i) (refs_var_count i) h))
  simple_done (simple.Send named q items) h =
      (var_done q 0 (first (in_var q) (in_exprs items) 0 h), exprs_done items (refs_in_var s q) (start (in_var q) (in_exprs items) (refs_in_var s q) (refs_var_count q) h))
  simple_done (simple.Receive named q extras items) h =
      let front = in_var q ++ flat_map in_extra extras in
      let both = first front (in_vars items) 0 h in
      let k = refs_in_var s q + refs_in_extras s extras in
      let count : k ≡ length (calls_among p u front) = (λ i. refs_var_count q i + refs_extras_count extras i) ∙ sym (count_both p u (in_var q) (flat_map in_extra extras)) in (
        var_done q 0 (first (in_var q) (flat_map in_extra extras) 0 both),
        extras_done extras (refs_in_var s q) (start (in_var q) (flat_map in_extra extras) (refs_in_var s q) (refs_var_count q) both),
        vars_done items k (start front (in_vars items) k count h),
      )
  simple_done (simple.EndChannel named q) h = var_done q 0 h
  simple_done (simple.MovePort from to) h = pair_done from to h
  simple_done (simple.Probe named q empty) h = pair_done q empty h

  -- what a statement reads has its result where all of its references have theirs
  pub statement_done : (k : Stmt) → DoneFrom p u s.results (calls_among p u (applied_in k)) 0 → StatementDone s k
  unfolding applied_in
  statement_done (stmt.Simple k) h = simple_done k h
  statement_done (stmt.LogicalIf t k) h = tree_done t 0 (first (applied t) (in_simple k) 0 h)
  statement_done (stmt.BlockIf t) h = tree_done t 0 h
  statement_done (stmt.ElseIf t) h = tree_done t 0 h
  statement_done (stmt.Do l) h = bounds_done l h
  statement_done (stmt.DoWhile t) h = tree_done t 0 h
  statement_done (stmt.ProcessCall name part) h = call_done part h
  statement_done (stmt.ProcessDo l) h = bounds_done l h
  statement_done other h = tt

  -- ---- at an entry

  module _ (e : Entry) (references : map (reference_at e.stmt) e.refs ≡ map Some (calls_among p u (applied_in e.stmt))) (results : AreResults p u e s.results) where
    pub entry_done : next_reference e (length s.results) ≡ None → StatementDone s e.stmt
    entry_done none = statement_done e.stmt (all_done p u e references s.results results none)

    pub reference_done : (name : List ℕ) (args : Trees) → next_reference e (length s.results) ≡ Some (Ref name args)
        → AreAllDone s args (length s.results - refs_in_all s args) × (refs_in_all s args ≤ length s.results)
    reference_done name args next =
        let h = arguments_done p u e references s.results results name args next in
        let count : refs_in_all s args ≡ length (calls_among p u (applied_each args)) = refs_all_count args in
        (subst (AreAllDone s args) (omega (arith, h.1, count)) (trees_done args h.0 h.2), omega (arith, h.1, count))

-- Each statement of a checked program is walked through; those that send, receive or end a channel by what is given.
use Rattle.std.proofs.Common.{◌≡◌, ℕ, zero, suc, ◌+◌, ◌<◌, ◌≤◌, Bool, true, false, cond, Option, Some, None, List, [], ◌∷◌, ◌++◌, length, refl, sym, ap, subst, ◌∙◌, arith}
use Rattle.std.specs.Prelude.{slice_get}
use Rattle.std.specs.Option.{option_map}
use Rattle.std.specs.List.{flat_map}
use Rattle.std.specs.FinMap.{get}
use Rattle.fm_net.specs.Typed.{AllIn}
use Rattle.fm_tree.specs.Tree.{Tree, trees_from}
use Rattle.fm_tree.specs.References.{applied, applied_each, applied_in, in_exprs, in_optional, in_var, in_vars, in_item, in_place, in_arguments, in_call, in_loop, in_simple}
use Rattle.fm_tree.specs.PortFields.{FieldKind, Integer, Out}
use Rattle.fm_tree.specs.PortReading as reading
use Rattle.fm_tree.specs.declared.port_type.Kind.{Kind}
use Rattle.fm_tree.specs.declared.port_type.Kind.TheVariants as kind
use Rattle.fm_tree.specs.declared.program_unit.Entry.{Entry}
use Rattle.fm_tree.specs.declared.statement.CallPart.{CallPart}
use Rattle.fm_tree.specs.declared.statement.Item.{Item}
use Rattle.fm_tree.specs.declared.statement.Item.TheVariants as item
use Rattle.fm_tree.specs.declared.statement.LoopHead.{LoopHead}
use Rattle.fm_tree.specs.declared.statement.Simple.{Simple}
use Rattle.fm_tree.specs.declared.statement.Simple.TheVariants as simple
use Rattle.fm_tree.specs.declared.statement.Stmt.{Stmt}
use Rattle.fm_tree.specs.declared.statement.Stmt.TheVariants as stmt
use Rattle.fm_tree.specs.declared.statement.Var.{Var}
use Rattle.fm_tree.specs.declared.statement.Where.{Where}
use Rattle.fm_tree.specs.declared.statement.Where.TheVariants as put_at
use Rattle.fm_symbols.specs.Context.{unit_numbers}
use Rattle.fm_symbols.specs.declared.names.Variable.{Variable}
use Rattle.fm_rules.specs.Links.{links_of}
use Rattle.fm_rules.specs.declared.program.Program.{Program}
use Rattle.fm_mean.specs.Names.{ProgramUnit, Point, kind_of, numbered, point_at, unit_at, unit_named}
use Rattle.fm_mean.specs.Actions.{Loop, Counted, While, NoLoop, loop_of, trees_in, arguments_in, where_in}
use Rattle.fm_mean.specs.Evaluate.{Scope, refs_in_all, refs_in_var}
use Rattle.fm_mean.specs.Leads.{IsPoint, SimpleLeads, IsALoop, LoopLeads, Both, StatementLeads}
use Rattle.fm_mean.specs.Referring.{names_in, calls_among}
use Rattle.fm_mean.specs.TypedTrees.{IsIn, SimpleHasTypes, StatementHasTypes}
use Rattle.fm_mean.specs.Typing.{sort_of, LoopFits}
use Rattle.fm_mean.proofs.JudgedItems.{all_left, all_right}
use Rattle.fm_mean.proofs.Leading.{all_lead}
use Rattle.fm_code.specs.declared.instr.Instr.{Instr}
use Rattle.fm_code_kinds.specs.Effects.{only_results, results_in, is_port_sort}
use Rattle.fm_code_kinds.specs.Shapes as shapes
use Rattle.fm_gen_relation.specs.Sound.{IsSoundUnit, IsVariable, IsSoundSimple, IsSoundStatement, is_word}
use Rattle.fm_gen_relation.specs.Frames.{counts_trips, opens_counted, loop_number}
use Rattle.fm_gen_relation.proofs.Done.{count_both, refs_count, refs_exprs_count, refs_var_count, refs_vars_count}
use Rattle.fm_gen_relation.proofs.Entries.{sound_entry}
use Rattle.fm_gen_relation.proofs.Units.{sound_unit}
use Rattle.fm_gen_operands.specs.Code.{expression_code}
use Rattle.fm_gen.specs.Statements.{do_code, test_code, jump_code, assigned_code, call_by, start_by, end_code, loop_end_code, again_code, simple_code, statement_code}
use Rattle.fm_gen.specs.Entries.{address_of, entry_code}
use Rattle.fm_gen.specs.Units.{loop_count}
use Rattle.fm_gen.proofs.Ends.{IsEnded}
use Rattle.fm_gen.proofs.UnitLaws.{entry_there, statement_ended}
use Rattle.fm_object.specs.declared.image.FieldImage.{FieldImage}
use Rattle.fm_compile_law.specs.Counted.{IsCounted, AreCounted, VariableFits, VariablesFit}
use Rattle.fm_image.specs.Types.{types_of}
use Rattle.fm_compile_law.specs.Types.{sort_by}
use Rattle.fm_compile_law.specs.Units.{shape_by, shapes_of}
use Rattle.fm_compile_law.specs.Walks.{IsNotEmpty, Walks}
use Rattle.fm_compile_law.proofs.Expressions.{Kinds}
use Rattle.fm_compile_law.proofs.Places.{there, each_of}
use Rattle.fm_compile_law.proofs.Arguments.{IsWordType, word_of_tree}
use Rattle.fm_compile_law.proofs.Seats.{refs_in_place}
use Rattle.fm_compile_law.proofs.Walks.{some_behind}
use Rattle.fm_compile_law.proofs.Control.{sorted, goto_ends, test_ends, return_ends, stop_ends, block_ends, again_ends, refs_in_step, do_ends, refs_in_items, print_ends, assigned_ends}
use Rattle.fm_compile_law.proofs.Calling.{call_ends, start_ends}
use Rattle.fm_compile_law.proofs.Asking.{channel_ends, move_ends, probe_ends, merger_ends}
use Rattle.fm_compile_law.proofs.Counting.{counted_entry}
use Rattle.fm_compile_law.proofs.Entries.{IsStart, entry_walks}
use Rattle.fm_compile_law.proofs.Referring.{references_counted, is_reference}

-- ---- sorts

word_kind_of : (q : Kind) → IsWordType (Some (reading.kind_of q)) → is_word q ≡ true
word_kind_of kind.Integer h = refl
word_kind_of kind.Logical h = refl
word_kind_of (kind.In t) h = absurd h
word_kind_of (kind.Out t) h = absurd h

word_sort : (ts : List (List FieldImage)) (q : Kind) → is_word q ≡ true → shapes.is_word (sort_by ts (reading.kind_of q)) ≡ true
word_sort ts kind.Integer e = refl
word_sort ts kind.Logical e = refl
word_sort ts (kind.In t) e = absurd cc
word_sort ts (kind.Out t) e = absurd cc

port_sort : (ts : List (List FieldImage)) (q : Kind) → is_word q ≡ false → is_port_sort (Some (sort_by ts (reading.kind_of q))) ≡ true
port_sort ts kind.Integer e = absurd cc
port_sort ts kind.Logical e = absurd cc
port_sort ts (kind.In t) e = refl
port_sort ts (kind.Out t) e = refl

the_variable : (v w : ℕ × Variable) → Some v ≡ Some w → v ≡ w
the_variable v w e = cc

named_all : (u : ProgramUnit) (r : FieldKind) (vs : List Var) → AllIn (λ (v : Var). sort_of u v.name ≡ Some r) vs → AllIn (λ (v : Var). IsVariable u v.name) vs
named_all u r [] h = tt
named_all u r (v ∷ vs) h = let w = sorted u v.name r h.0 in ((w.0, w.1), named_all u r vs h.1)

-- ---- units by their names

named_unit : (p : Program) (name : List ℕ) (v : ℕ × ProgramUnit) → unit_named p name ≡ Some v → unit_at p v.0 ≡ Some v.1
named_unit p name v e = go (get (unit_numbers p.units.units) name) e
  where
    the_pair : (a b : ℕ × ProgramUnit) → Some a ≡ Some b → a ≡ b
    the_pair a b e = cc

    by_unit : (k : ℕ) (o : Option ProgramUnit) → unit_at p k ≡ o → option_map {U = ℕ × ProgramUnit} (λ u. (k, u)) o ≡ Some v → unit_at p v.0 ≡ Some v.1
    by_unit k None is e = absurd cc
    by_unit k (Some w) is e =
        let same = the_pair (k, w) v e in
        sym (ap (λ (x : ℕ × ProgramUnit). unit_at p x.0) same) ∙ is ∙ ap (λ (x : ℕ × ProgramUnit). Some x.1) same

    go : (o : Option ℕ) → numbered p o ≡ Some v → unit_at p v.0 ≡ Some v.1
    go None e = absurd cc
    go (Some k) e = by_unit k (unit_at p k) refl e

-- ---- numbers of loops

loop_less : (es : List Entry) (k : ℕ) (x : Entry) → slice_get es k ≡ Some x → opens_counted x ≡ true → loop_number es k < loop_number es (length es)
loop_less [] k x e h = absurd cc
loop_less (y ∷ es) zero x e h = go (opens_counted y) (ap opens_counted (the_entry y x e) ∙ h)
  where
    the_entry : (a b : Entry) → Some a ≡ Some b → a ≡ b
    the_entry a b e = cc

    go : (b : Bool) → b ≡ true → 0 < cond b (suc (loop_number es (length es))) (loop_number es (length es))
    go true e = omega arith
    go false e = absurd cc
loop_less (y ∷ es) (suc k) x e h = go (opens_counted y) (loop_less es k x e h)
  where
    go : (b : Bool) → loop_number es k < loop_number es (length es) → cond b (suc (loop_number es k)) (loop_number es k) < cond b (suc (loop_number es (length es))) (loop_number es (length es))
    go true less = omega arith
    go false less = less

-- statements that are walked through elsewhere
abbrev pub IsLater : Simple → Type 0
IsLater (simple.Assignment v t) = ⊥
IsLater (simple.Goto l) = ⊥
IsLater simple.Continue = ⊥
IsLater simple.Return = ⊥
IsLater simple.Stop = ⊥
IsLater (simple.Call name args) = ⊥
IsLater (simple.Print items) = ⊥
IsLater (simple.Write unit items) = ⊥
IsLater (simple.Channel in_first i o) = ⊥
IsLater (simple.Merger i os) = ⊥
IsLater (simple.Send named q items) = Unit {0}
IsLater (simple.Receive named q extras items) = Unit {0}
IsLater (simple.EndChannel named q) = Unit {0}
IsLater (simple.MovePort from to) = ⊥
IsLater (simple.Probe named q empty) = ⊥

module _ (p : Program) (number : ℕ) (u : ProgramUnit) (here : unit_at p number ≡ Some u) where
  abbrev pub n : ℕ
  n = loop_count u.tree.body

  sound : IsSoundUnit u
  sound = sound_unit p number u here

  abbrev now : Scope
  now = names_in p u

  inside : IsIn p u (names_in p u)
  inside = record { unit = refl; program = refl }

  abbrev pub Good : ℕ → Type 0
  Good a = IsStart p u a

  abbrev pub Ends : ℕ → List Instr → Kinds → Type 0
  Ends at is ks = Walks (IsStart p u) (shapes_of p) (shape_by (types_of p) u) n at is ks []

  abbrev count : List Tree → ℕ
  count l = length (calls_among p u l)

  abbrev address : ℕ → ℕ
  address k = address_of p u k

  started : (k : ℕ) → IsPoint u k → Good (address k)
  started k x = record { number = k; point = x.0; there = x.1; is = refl }

  items_count : (is : List Item) → refs_in_items p u (sound_unit p number u here) (types_of p) n (shapes_of p) Good is ≡ count (flat_map in_item is)
  items_count [] = refl
  items_count (item.Constant bytes ∷ is) =
      let rest = refs_in_items p u (sound_unit p number u here) (types_of p) n (shapes_of p) Good is in
      let none : 0 + rest ≡ rest = omega arith in
      none ∙ items_count is
  items_count (item.Expr t ∷ is) = (λ i. refs_count p u now inside t i + items_count is i) ∙ sym (count_both p u (applied t) (flat_map in_item is))

  arguments_count : (args : Option (List Tree)) → refs_in_all now (trees_in args) ≡ count (in_arguments args)
  arguments_count None = refl
  arguments_count (Some l) = refs_exprs_count p u now inside l

  arguments_counted : (args : Option (List Tree)) → AreCounted p u (in_arguments args) → AreCounted p u (applied_each (trees_in args))
  arguments_counted None h = tt
  arguments_counted (Some l) h = rw each_of h

  seat_count : (o : Option Where) → refs_in_place now o ≡ count (in_place o)
  seat_count None = refl
  seat_count (Some (put_at.Location l)) = refs_exprs_count p u now inside l
  seat_count (Some (put_at.Submachine a b)) = (λ i. refs_count p u now inside a i + refs_count p u now inside b i) ∙ sym (count_both p u (applied a) (applied b))

  -- what stands in a process call
  abbrev part_trees : Option CallPart → List Tree
  part_trees part = in_exprs (arguments_in part) ++ in_place (where_in part)

  part_is : (part : Option CallPart) → in_call part ≡ part_trees part
  part_is None = refl
  part_is (Some c) = refl

  module _ (k : ℕ) (e : Point) (at : point_at u k ≡ Some e) (later : (s : Simple) → IsLater s → e.entry.stmt ≡ stmt.Simple s → (a : ℕ) (ks : Kinds) → only_results ks ≡ true → length (calls_among p u (in_simple s)) ≤ results_in ks
      → Ends a (simple_code p u (address_of p u) e s) ks) where
    abbrev after : ℕ
    after = e.entry.after

    simple_walks : (s : Simple) → e.entry.stmt ≡ stmt.Simple s → SimpleHasTypes p u s → IsSoundSimple p u s → SimpleLeads p u e s → VariablesFit u s → AreCounted p u (in_simple s)
        → (a : ℕ) (ks : Kinds) → only_results ks ≡ true → count (in_simple s) ≤ results_in ks → Ends a (simple_code p u (address_of p u) e s) ks
    unfolding in_simple
    simple_walks (simple.Assignment v t) same types meant leads fits trees a ks only done =
        let r = types.0 in
        let w = sorted u v.name r types.1 in
        let typed : IsWordType (Some r) = subst IsWordType (types.2 now inside) (word_of_tree now t) in
        let holds : is_word w.0.1.kind ≡ true = word_kind_of w.0.1.kind (subst (λ (r : FieldKind). IsWordType (Some r)) (sym w.2) typed) in
        let l = trees_from v.subscripts in
        let value = expression_code p u t (refs_in_var now v) in
        subst (λ (o : Option (ℕ × Variable)). Ends a (assigned_code p u o l value (address after)) ks) (sym w.1)
        (assigned_ends p u sound (types_of p) n (shapes_of p) Good a w.0 (there p u sound (types_of p) n v.name w.0 w.1) holds l t (address after) ks only (subst (λ (o : Option (ℕ × Variable)). VariableFits o l) w.1 fits)
        (omega (arith, done, count_both p u (in_var v) (applied t), refs_var_count p u now inside v, refs_count p u now inside t))
        (rw each_of (all_left (IsCounted p u) (in_var v) (applied t) trees)) (all_right (IsCounted p u) (in_var v) (applied t) trees) (started after leads))
    simple_walks (simple.Goto l) same types meant leads fits trees a ks only done =
        subst (λ (o : Option ℕ). Ends a (jump_code (address_of p u) o) ks) (sym leads.1) (goto_ends p u sound (types_of p) n (shapes_of p) Good a (address leads.0) ks only (started leads.0 leads.2))
    simple_walks simple.Continue same types meant leads fits trees a ks only done = goto_ends p u sound (types_of p) n (shapes_of p) Good a (address after) ks only (started after leads)
    simple_walks simple.Return same types meant leads fits trees a ks only done = return_ends p u sound (types_of p) n (shapes_of p) Good a (kind_of u) refl ks only
    simple_walks simple.Stop same types meant leads fits trees a ks only done = stop_ends p u sound (types_of p) n (shapes_of p) Good a ks only
    simple_walks (simple.Call name args) same types meant leads fits trees a ks only done =
        let v = leads.0.0 in
        let named = leads.0.1 in
        let kinds = meant v named in
        subst (λ (o : Option (ℕ × ProgramUnit)). Ends a (call_by p u o (trees_in args) (address after)) ks) (sym named)
        (call_ends p u sound n Good a v.0 v.1 (named_unit p name v named) kinds.0 (trees_in args) (address after) ks only (omega (arith, done, arguments_count args)) (arguments_counted args trees) (types v now named inside) kinds.1 (started after leads.1))
    simple_walks (simple.Print items) same types meant leads fits trees a ks only done =
        print_ends p u sound (types_of p) n (shapes_of p) Good a items (address after) ks only (omega (arith, done, items_count items)) trees (started after leads)
    simple_walks (simple.Write unit items) same types meant leads fits trees a ks only done =
        print_ends p u sound (types_of p) n (shapes_of p) Good a items (address after) ks only (omega (arith, done, items_count items)) trees (started after leads)
    simple_walks (simple.Channel true i o) same types meant leads fits trees a ks only done =
        channel_ends p u sound (types_of p) n (shapes_of p) Good a true i o types.0 (address after) types.1 types.2.0 fits.0 fits.1 (started after leads) ks only
        (omega (arith, done, count_both p u (in_var i) (in_var o), refs_var_count p u now inside i, refs_var_count p u now inside o)) (all_left (IsCounted p u) (in_var i) (in_var o) trees) (all_right (IsCounted p u) (in_var i) (in_var o) trees)
    simple_walks (simple.Channel false i o) same types meant leads fits trees a ks only done =
        channel_ends p u sound (types_of p) n (shapes_of p) Good a false i o types.0 (address after) types.1 types.2.0 fits.0 fits.1 (started after leads) ks only
        (omega (arith, done, count_both p u (in_var o) (in_var i), refs_var_count p u now inside i, refs_var_count p u now inside o)) (all_right (IsCounted p u) (in_var o) (in_var i) trees) (all_left (IsCounted p u) (in_var o) (in_var i) trees)
    simple_walks (simple.Merger i os) same types meant leads fits trees a ks only done =
        merger_ends p u sound (types_of p) n (shapes_of p) Good a i os types.0 (address after) types.1 types.2 (named_all u (Out types.0) os types.2) fits.0 fits.1 (started after leads) ks only
        (omega (arith, done, count_both p u (in_var i) (in_vars os), refs_var_count p u now inside i, refs_vars_count p u now inside os)) (all_left (IsCounted p u) (in_var i) (in_vars os) trees) (all_right (IsCounted p u) (in_var i) (in_vars os) trees)
    simple_walks (simple.Send named q items) same types meant leads fits trees a ks only done = later (simple.Send named q items) tt same a ks only done
    simple_walks (simple.Receive named q extras items) same types meant leads fits trees a ks only done = later (simple.Receive named q extras items) tt same a ks only done
    simple_walks (simple.EndChannel named q) same types meant leads fits trees a ks only done = later (simple.EndChannel named q) tt same a ks only done
    simple_walks (simple.MovePort from to) same types meant leads fits trees a ks only done =
        let r = types.0 in
        let w = sorted u from.name r types.1 in
        let same_one : meant.0.0 ≡ w.0 = the_variable meant.0.0 w.0 (sym meant.0.1 ∙ w.1) in
        let port : is_word w.0.1.kind ≡ false = ap (λ (x : ℕ × Variable). is_word x.1.kind) (sym same_one) ∙ meant.0.2 in
        let ports : is_port_sort (Some (sort_by (types_of p) r)) ≡ true = ap (λ (q : FieldKind). is_port_sort (Some (sort_by (types_of p) q))) (sym w.2) ∙ port_sort (types_of p) w.0.1.kind port in
        move_ends p u sound (types_of p) n (shapes_of p) Good a from to r (address after) types.1 types.2 ports fits.0 fits.1 (started after leads) ks only
        (omega (arith, done, count_both p u (in_var from) (in_var to), refs_var_count p u now inside from, refs_var_count p u now inside to)) (all_left (IsCounted p u) (in_var from) (in_var to) trees) (all_right (IsCounted p u) (in_var from) (in_var to) trees)
    simple_walks (simple.Probe named q empty) same types meant leads fits trees a ks only done =
        let w = meant.1 in
        let sort : sort_of u empty.name ≡ Some (reading.kind_of w.0.1.kind) = ap (λ (o : Option (ℕ × Variable)). option_map (λ (v : ℕ × Variable). reading.kind_of v.1.kind) o) w.1 in
        probe_ends p u sound (types_of p) n (shapes_of p) Good a q empty meant.0.0 (reading.kind_of w.0.1.kind) (address after) meant.0.1 sort (word_sort (types_of p) w.0.1.kind w.2) fits.0 fits.1 (started after leads) ks only
        (omega (arith, done, count_both p u (in_var q) (in_var empty), refs_var_count p u now inside q, refs_var_count p u now inside empty)) (all_left (IsCounted p u) (in_var q) (in_var empty) trees) (all_right (IsCounted p u) (in_var q) (in_var empty) trees)

    -- ---- the ends of loops

    again_walks : (opener : ℕ) (opens : Entry) → slice_get u.tree.body opener ≡ Some opens → (l : Loop) → loop_of opens.stmt ≡ l → IsALoop l → IsPoint u opener → IsPoint u opens.after → IsPoint u after
        → (a : ℕ) (ks : Kinds) → only_results ks ≡ true → Ends a (again_code u opener l (address opens.after) (address after) (address opener)) ks
    again_walks opener opens entry (Counted name) is loop again body behind a ks only =
        let counted : opens_counted opens ≡ true = ap counts_trips is in
        let fits : sort_of u name ≡ Some Integer = subst (LoopFits u) is (sound_entry p number u opener opens here entry).types.loop in
        again_ends p u sound (types_of p) n (shapes_of p) Good a (loop_number u.tree.body opener) name (address opens.after) (address after) ks only (loop_less u.tree.body opener opens entry counted) fits (started opens.after body) (started after behind)
    again_walks opener opens entry While is loop again body behind a ks only = goto_ends p u sound (types_of p) n (shapes_of p) Good a (address opener) ks only (started opener again)
    again_walks opener opens entry NoLoop is loop again body behind a ks only = absurd loop

    loop_end_walks : LoopLeads u e → (a : ℕ) (ks : Kinds) → only_results ks ≡ true → Ends a (loop_end_code u (address_of p u) (address after) e.entry.mate) ks
    loop_end_walks h a ks only =
        subst (λ (o : Option ℕ). Ends a (loop_end_code u (address_of p u) (address after) o) ks) (sym h.mate)
        (subst (λ (o : Option Entry). Ends a (end_code u (address_of p u) (address after) h.opener o) ks) (sym h.there)
        (again_walks h.opener h.opens h.there (loop_of h.opens.stmt) refl h.loop h.again h.inside h.behind a ks only))

    entry_is : slice_get u.tree.body k ≡ Some e.entry
    entry_is = entry_there (slice_get u.tree.body k) (slice_get (links_of u.tree.body) k) e at

    -- a loop that begins
    do_walks : (h : LoopHead) → opens_counted e.entry ≡ true → sort_of u h.variable ≡ Some Integer → Both u e → AreCounted p u (in_loop h) → (a : ℕ) (ks : Kinds) → only_results ks ≡ true → count (in_loop h) ≤ results_in ks
        → Ends a (do_code p u h (loop_number u.tree.body k) (address after) (address e.links.other)) ks
    do_walks h counted is leads trees a ks only done =
        do_ends p u sound (types_of p) n (shapes_of p) Good a h (loop_number u.tree.body k) (address after) (address e.links.other) ks only
        (omega (arith, done, count_both p u (applied h.from ++ applied h.to) (in_optional h.step), count_both p u (applied h.from) (applied h.to), refs_count p u now inside h.from, refs_count p u now inside h.to, step_count h.step)) trees
        (loop_less u.tree.body k e.entry entry_is counted) is (started after leads.0) (started e.links.other leads.1)
      where
        step_count : (o : Option Tree) → refs_in_step p u sound (types_of p) n (shapes_of p) Good o ≡ count (in_optional o)
        step_count None = refl
        step_count (Some t) = refs_count p u now inside t

    test_walks : (t : Tree) → Both u e → AreCounted p u (applied t) → (a : ℕ) (ks : Kinds) → only_results ks ≡ true → count (applied t) ≤ results_in ks
        → Ends a (test_code p u t (address after) (address e.links.other)) ks
    test_walks t leads trees a ks only done =
        test_ends p u sound (types_of p) n (shapes_of p) Good a t (address after) (address e.links.other) ks only (omega (arith, done, refs_count p u now inside t)) trees (started after leads.0) (started e.links.other leads.1)

    statement_walks : (s : Stmt) → e.entry.stmt ≡ s → StatementHasTypes p u s → IsSoundStatement p u s → StatementLeads p u e s → ((s' : Simple) → e.entry.stmt ≡ stmt.Simple s' → VariablesFit u s') → AreCounted p u (applied_in s)
        → (a : ℕ) (ks : Kinds) → only_results ks ≡ true → count (applied_in s) ≤ results_in ks → Ends a (statement_code p u (address_of p u) a k e s) ks
    unfolding applied_in
    statement_walks (stmt.Simple s) same types meant leads fits trees a ks only done = simple_walks s same types meant leads (fits s same) trees a ks only done
    statement_walks (stmt.LogicalIf t s) same types meant leads fits trees a ks only done =
        test_walks t leads (all_left (IsCounted p u) (applied t) (in_simple s) trees) a ks only (omega (arith, done, count_both p u (applied t) (in_simple s)))
    statement_walks (stmt.BlockIf t) same types meant leads fits trees a ks only done = test_walks t leads trees a ks only done
    statement_walks (stmt.ElseIf t) same types meant leads fits trees a ks only done = test_walks t leads trees a ks only done
    statement_walks stmt.Else same types meant leads fits trees a ks only done = goto_ends p u sound (types_of p) n (shapes_of p) Good a (address after) ks only (started after leads)
    statement_walks stmt.EndIf same types meant leads fits trees a ks only done = goto_ends p u sound (types_of p) n (shapes_of p) Good a (address after) ks only (started after leads)
    statement_walks (stmt.Do h) same types meant leads fits trees a ks only done = do_walks h (ap (λ (s : Stmt). counts_trips (loop_of s)) same) types leads trees a ks only done
    statement_walks (stmt.ProcessDo h) same types meant leads fits trees a ks only done = do_walks h (ap (λ (s : Stmt). counts_trips (loop_of s)) same) types leads trees a ks only done
    statement_walks (stmt.DoWhile t) same types meant leads fits trees a ks only done = test_walks t leads trees a ks only done
    statement_walks stmt.EndDo same types meant leads fits trees a ks only done = loop_end_walks leads a ks only
    statement_walks stmt.EndProcessDo same types meant leads fits trees a ks only done = loop_end_walks leads a ks only
    statement_walks stmt.LoopEnd same types meant leads fits trees a ks only done = loop_end_walks leads a ks only
    statement_walks stmt.End same types meant leads fits trees a ks only done = return_ends p u sound (types_of p) n (shapes_of p) Good a (kind_of u) refl ks only
    statement_walks stmt.Processes same types meant leads fits trees a ks only done = goto_ends p u sound (types_of p) n (shapes_of p) Good a (address after) ks only (started after leads)
    statement_walks stmt.EndProcesses same types meant leads fits trees a ks only done = block_ends p u sound (types_of p) n (shapes_of p) Good a (address after) ks only (started after leads)
    statement_walks (stmt.ProcessCall name part) same types meant leads fits trees a ks only done =
        let v = leads.0.0 in
        let named = leads.0.1 in
        let kinds = meant v named in
        let l = arguments_in part in
        let each : AreCounted p u (part_trees part) = subst (AreCounted p u) (part_is part) trees in
        let long : count (part_trees part) ≤ results_in ks = subst (λ (x : List Tree). count x ≤ results_in ks) (part_is part) done in
        subst (λ (o : Option (ℕ × ProgramUnit)). Ends a (start_by p u o part (address after)) ks) (sym named)
        (start_ends p u sound n Good a v.0 v.1 (named_unit p name v named) kinds.0 part (address after) ks only
        (omega (arith, long, count_both p u (in_exprs l) (in_place (where_in part)), refs_exprs_count p u now inside l, seat_count (where_in part)))
        (rw each_of (all_left (IsCounted p u) (in_exprs l) (in_place (where_in part)) each)) (all_right (IsCounted p u) (in_exprs l) (in_place (where_in part)) each) (types v now named inside) kinds.1 (started after leads.1))
    statement_walks other same types meant leads fits trees a ks only done = absurd leads

    pub entry_kinded : Walks (IsStart p u) (shapes_of p) (shape_by (types_of p) u) n (address_of p u k) (entry_code p u (address_of p u) k (Some e)) [] []
    entry_kinded =
        let s = sound_entry p number u k e.entry here entry_is in
        let c = counted_entry p number u k e.entry here entry_is in
        let leads = all_lead p number u k e here at in
        let counts = references_counted p number u k e.entry here entry_is in
        entry_walks p u sound n k e
        (record {
          some = λ a none. not_empty (statement_code p u (address_of p u) a k e e.entry.stmt) (statement_ended p u (address_of p u) e a k e.entry.stmt) none;
          walks = λ a ks only done. statement_walks e.entry.stmt refl s.types.statement s.statement leads.statement c.variables c.trees a ks only done;
        })
        (omega (arith, counts)) (is_reference p number u k e.entry here entry_is)
      where
        not_empty : (code : List Instr) → IsEnded code → IsNotEmpty code
        not_empty code h none = some_behind h.before (h.last ∷ []) (λ x. absurd cc) (sym h.is ∙ none)

-- each entry is walked through, where those statements are walked through too
pub entry_walked : (p : Program) (number : ℕ) (u : ProgramUnit) (here : unit_at p number ≡ Some u)
    → ((k : ℕ) (e : Point) → point_at u k ≡ Some e → (s : Simple) → IsLater s → e.entry.stmt ≡ stmt.Simple s → (a : ℕ) (ks : Kinds) → only_results ks ≡ true → length (calls_among p u (in_simple s)) ≤ results_in ks
    → Walks (IsStart p u) (shapes_of p) (shape_by (types_of p) u) (loop_count u.tree.body) a (simple_code p u (address_of p u) e s) ks [])
    → (k : ℕ) (e : Point) → point_at u k ≡ Some e → Walks (IsStart p u) (shapes_of p) (shape_by (types_of p) u) (loop_count u.tree.body) (address_of p u k) (entry_code p u (address_of p u) k (Some e)) [] []
entry_walked p number u here later k e at = entry_kinded p number u here k e at (later k e at)

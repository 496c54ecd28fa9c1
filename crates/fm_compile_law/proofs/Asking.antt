-- Statements on channels and ports: the places that they name are those of ports of the right direction and type.
use Rattle.std.proofs.Common.{◌≡◌, ℕ, ◌+◌, ◌≤◌, Bool, true, false, cond, ◌&&◌, ◌==◌, Option, Some, None, List, [], ◌∷◌, ◌++◌, reverse, refl, sym, ap, subst, ◌∙◌, arith, append_assoc}
use Rattle.std.proofs.lemmas.Bool.{eq-eqb}
use Rattle.std.proofs.lemmas.List.{reverse-reverse}
use Rattle.fm_net.specs.Typed.{AllIn}
use Rattle.fm_tree.specs.Tree.{trees_from}
use Rattle.fm_tree.specs.References.{in_var, in_vars}
use Rattle.fm_tree.specs.PortFields.{PortFields, FieldKind, Integer, Logical, In, Out}
use Rattle.fm_tree.specs.PortReading as reading
use Rattle.fm_tree.specs.declared.statement.Var.{Var}
use Rattle.fm_symbols.specs.declared.names.Variable.{Variable}
use Rattle.fm_rules.specs.declared.program.Program.{Program}
use Rattle.fm_mean.specs.Names.{ProgramUnit}
use Rattle.fm_mean.specs.Evaluate.{Scope, refs_in_var, refs_in_vars}
use Rattle.fm_mean.specs.Referring.{names_in}
use Rattle.fm_mean.specs.Typing.{sort_of}
use Rattle.fm_code.specs.declared.code.Span.{Span}
use Rattle.fm_code.specs.declared.instr.Instr.{Instr}
use Rattle.fm_code.specs.declared.instr.Instr.TheVariants as instr
use Rattle.fm_code.specs.declared.instr.Meet.TheVariants as meet
use Rattle.fm_code_kinds.specs.declared.kinds.Kind.TheVariants.{Word}
use Rattle.fm_code_kinds.specs.declared.kinds.Passed.{Passed}
use Rattle.fm_code_kinds.specs.declared.kinds.Passed.TheVariants as pass
use Rattle.fm_code_kinds.specs.declared.sorts.Cell.{Cell}
use Rattle.fm_code_kinds.specs.declared.sorts.Shape.{Shape}
use Rattle.fm_code_kinds.specs.declared.sorts.Shapes.{Shapes}
use Rattle.fm_code_kinds.specs.declared.sorts.Sort.{Sort}
use Rattle.fm_code_kinds.specs.declared.sorts.Sort.TheVariants as sort
use Rattle.fm_code_kinds.specs.Shapes.{is_word, sort_at, same_sort, has_sort}
use Rattle.fm_code_kinds.specs.Effects.{Effect, Over, Ill, Taken, only_results, results_in, operands_over, is_port_sort, sized, fits_room, is_outport, all_outports, sorted, at_port, at_two, if_in, if_out, effect}
use Rattle.fm_gen_relation.specs.Sound.{IsSoundUnit, IsVariable}
use Rattle.fm_gen_relation.specs.Targets.{target_words}
use Rattle.fm_gen_operands.specs.Places.{var_code, targets_code}
use Rattle.fm_gen.specs.Statements.{channel_code, merger_code, close_code, two_code}
use Rattle.fm_object.specs.declared.image.FieldImage.{FieldImage}
use Rattle.fm_compile_law.specs.Along.{LeavesPlace}
use Rattle.fm_compile_law.specs.Counted.{AreCounted, VarFits}
use Rattle.fm_compile_law.specs.Passed.{AreTargets}
use Rattle.fm_image.specs.Types.{number_in}
use Rattle.fm_compile_law.specs.Types.{sort_by}
use Rattle.fm_compile_law.specs.Units.{shape_by}
use Rattle.fm_compile_law.specs.Walks.{Walks}
use Rattle.fm_compile_law.proofs.Straight.{then_more}
use Rattle.fm_compile_law.proofs.Expressions.{Kinds, cs}
use Rattle.fm_compile_law.proofs.Places.{var_leaves}
use Rattle.fm_compile_law.proofs.Arguments.{targets_leave}
use Rattle.fm_compile_law.proofs.Control.{sorted as of_sort}
use Rattle.fm_compile_law.proofs.Calling.{taken_over}
use Rattle.fm_compile_law.proofs.Walks.{IsApart, closes}

self : (m : ℕ) → (m == m) ≡ true
self m = eq-eqb m m refl

module _ (all : List Cell) where
  -- what is done at a port
  pub at_port_is : (f : Sort → Effect) (x : Span) (s : Sort) (ks : Kinds) → sort_at all x ≡ Some s → only_results ks ≡ true → at_port all (Word (Some x) ∷ ks) f ≡ f s
  at_port_is f x s ks is only = ap (λ o. sorted o (λ t. cond (only_results ks) (f t) Ill)) is ∙ ap (λ b. cond b (f s) Ill) only

  -- and at two places, the first of which lies deeper
  at_two_is : (f : Sort → Sort → Effect) (x y : Span) (s t : Sort) (ks : Kinds) → sort_at all x ≡ Some s → sort_at all y ≡ Some t → only_results ks ≡ true → at_two all (Word (Some y) ∷ Word (Some x) ∷ ks) f ≡ f s t
  at_two_is f x y s t ks first second only = ap (λ o. sorted o (λ t. at_port all (Word (Some x) ∷ ks) (λ r. f r t))) second ∙ at_port_is (λ r. f r t) x s ks first only

  -- ---- outports

  has_same : (o : Option Sort) (n k m : ℕ) → sized n k o (sort.Out m) ≡ true → has_sort o (sort.Out m) ≡ true
  has_same None n k m e = absurd cc
  has_same (Some t) n k m e = go (n == k) e
    where
      go : (b : Bool) → (b && same_sort t (sort.Out m)) ≡ true → same_sort t (sort.Out m) ≡ true
      go true e = e
      go false e = absurd cc

  outport : (o : Passed) (words m : ℕ) → fits_room all (sort.Out m) words o ≡ true → is_outport all m o ≡ true
  outport pass.Value words m e = absurd cc
  outport (pass.Words s) words m e = absurd cc
  outport (pass.Ports s) words m e = has_same (sort_at all s) s.count words m e
  outport (pass.WordIn s) words m e = absurd cc
  outport (pass.PortIn s) words m e = has_same (sort_at all s) 1 words m e
  outport (pass.Sized k) words m e = absurd cc

pub same_place : (v w : ℕ × Variable) → Some v ≡ Some w → v ≡ w
same_place v w e = cc

module _ (p : Program) (u : ProgramUnit) (sound : IsSoundUnit u) (ts : List (List FieldImage)) (n : ℕ) (ss : Shapes) (Good : ℕ → Type 0) where
  abbrev me : Shape
  me = shape_by ts u

  abbrev all : List Cell
  all = cs p u sound ts n

  abbrev now : Scope
  now = names_in p u

  abbrev Ends : ℕ → List Instr → Kinds → Type 0
  Ends at is ks = Walks Good ss me n at is ks []

  abbrev over : List ℕ → Bool → Effect
  over to b = cond b (Over to 0) Ill

  -- the place of a variable of a sort
  pub sorted_leaves : (v : Var) (r : FieldKind) → sort_of u v.name ≡ Some r → VarFits u v → (k : ℕ) (ks : Kinds) → k + refs_in_var now v ≤ results_in ks → AreCounted p u (in_var v) → LeavesPlace all n (sort_by ts r) (var_code p u v k) ks
  sorted_leaves v r is fits k ks done h =
      let w = of_sort u v.name r is in
      let x = var_leaves p u sound ts n v w.0 w.1 k ks fits done h in
      record { among = x.among; leaves = x.leaves; of = x.of ∙ ap (λ (q : FieldKind). Some (sort_by ts q)) w.2 }

  -- two places, one after the other, and what is done at them
  two_ends : (at : ℕ) (a b : Var) (q r : FieldKind) → sort_of u a.name ≡ Some q → sort_of u b.name ≡ Some r → VarFits u a → VarFits u b → (i : Instr) (f : Sort → Sort → Effect) (to : List ℕ)
      → ((c : ℕ) (ms : Kinds) → effect ss me n c i ms ≡ at_two all ms f) → f (sort_by ts q) (sort_by ts r) ≡ Over to 0 → AllIn Good to → IsApart i → (ks : Kinds) → only_results ks ≡ true
      → refs_in_var now a + refs_in_var now b ≤ results_in ks → AreCounted p u (in_var a) → AreCounted p u (in_var b) → Ends at (two_code p u a b i) ks
  two_ends at a b q r first second fits more i f to does leads good apart ks only done h g =
      let k = refs_in_var now a in
      let x = sorted_leaves a q first fits 0 ks (omega (arith, done)) h in
      let y = sorted_leaves b r second more k (Word (Some x.among) ∷ ks) (omega (arith, done)) g in
      let ms : Kinds = Word (Some y.among) ∷ Word (Some x.among) ∷ ks in
      subst (λ (c : List Instr). Ends at c ks) (append_assoc (var_code p u a 0) (var_code p u b k) (i ∷ []))
      (closes Good ss me n at (var_code p u a 0 ++ var_code p u b k) i ks ms to
      (then_more all n (var_code p u a 0) (var_code p u b k) ks (Word (Some x.among) ∷ ks) ms x.leaves y.leaves)
      (λ c. does c ms ∙ at_two_is all f x.among y.among (sort_by ts q) (sort_by ts r) ks x.of y.of only ∙ leads) good apart)

  pub channel_ends : (at : ℕ) (in_first : Bool) (i o : Var) (t : PortFields) (next : ℕ) → sort_of u i.name ≡ Some (In t) → sort_of u o.name ≡ Some (Out t) → VarFits u i → VarFits u o → Good next → (ks : Kinds) → only_results ks ≡ true
      → refs_in_var now i + refs_in_var now o ≤ results_in ks → AreCounted p u (in_var i) → AreCounted p u (in_var o) → Ends at (channel_code p u in_first i o next) ks
  channel_ends at true i o t next first second fits more good ks only done h g =
      two_ends at i o (In t) (Out t) first second fits more (instr.Meet (meet.Channel next)) (λ a b. if_in a (λ type. over (next ∷ []) (same_sort b (sort.Out type)))) (next ∷ []) (λ c ms. refl)
      (ap (over (next ∷ [])) (self (number_in ts t))) (good, tt) (record { join = refl; begin = refl }) ks only done h g
  channel_ends at false i o t next first second fits more good ks only done h g =
      two_ends at o i (Out t) (In t) second first more fits (instr.Meet (meet.ChannelFrom next)) (λ b a. if_in a (λ type. over (next ∷ []) (same_sort b (sort.Out type)))) (next ∷ []) (λ c ms. refl)
      (ap (over (next ∷ [])) (self (number_in ts t))) (good, tt) (record { join = refl; begin = refl }) ks only (omega (arith, done)) g h

  -- ports of one kind and type
  moves : (q : FieldKind) (next : ℕ) → is_port_sort (Some (sort_by ts q)) ≡ true → over (next ∷ []) (same_sort (sort_by ts q) (sort_by ts q) && is_port_sort (Some (sort_by ts q))) ≡ Over (next ∷ []) 0
  moves Integer next e = absurd cc
  moves Logical next e = absurd cc
  moves (In t) next e = ap (λ b. over (next ∷ []) (b && true)) (self (number_in ts t))
  moves (Out t) next e = ap (λ b. over (next ∷ []) (b && true)) (self (number_in ts t))

  pub move_ends : (at : ℕ) (from into : Var) (q : FieldKind) (next : ℕ) → sort_of u from.name ≡ Some q → sort_of u into.name ≡ Some q → is_port_sort (Some (sort_by ts q)) ≡ true → VarFits u from → VarFits u into → Good next → (ks : Kinds)
      → only_results ks ≡ true → refs_in_var now from + refs_in_var now into ≤ results_in ks → AreCounted p u (in_var from) → AreCounted p u (in_var into) → Ends at (two_code p u from into (instr.Meet (meet.MovePort next))) ks
  move_ends at from into q next first second port fits more good ks only done h g =
      two_ends at from into q q first second fits more (instr.Meet (meet.MovePort next)) (λ a b. over (next ∷ []) (same_sort a b && is_port_sort (Some a))) (next ∷ []) (λ c ms. refl) (moves q next port) (good, tt) (record { join = refl; begin = refl }) ks only done h g

  pub probe_ends : (at : ℕ) (q empty : Var) (t : PortFields) (r : FieldKind) (next : ℕ) → sort_of u q.name ≡ Some (In t) → sort_of u empty.name ≡ Some r → is_word (sort_by ts r) ≡ true → VarFits u q → VarFits u empty → Good next → (ks : Kinds)
      → only_results ks ≡ true → refs_in_var now q + refs_in_var now empty ≤ results_in ks → AreCounted p u (in_var q) → AreCounted p u (in_var empty) → Ends at (two_code p u q empty (instr.Meet (meet.Probe next))) ks
  probe_ends at q empty t r next first second holds fits more good ks only done h g =
      two_ends at q empty (In t) r first second fits more (instr.Meet (meet.Probe next)) (λ a b. if_in a (λ type. over (next ∷ []) (is_word b))) (next ∷ []) (λ c ms. refl) (ap (over (next ∷ [])) holds) (good, tt) (record { join = refl; begin = refl }) ks only done h g

  pub close_ends : (at : ℕ) (q : Var) (t : PortFields) (next : ℕ) → sort_of u q.name ≡ Some (Out t) → VarFits u q → Good next → (ks : Kinds) → only_results ks ≡ true → refs_in_var now q ≤ results_in ks → AreCounted p u (in_var q) → Ends at (close_code p u q next) ks
  close_ends at q t next is fits good ks only done h =
      let x = sorted_leaves q (Out t) is fits 0 ks (omega (arith, done)) h in
      closes Good ss me n at (var_code p u q 0) (instr.Meet (meet.EndChannel next)) ks (Word (Some x.among) ∷ ks) (next ∷ []) x.leaves
      (λ c. at_port_is all (λ s. if_out s (λ type. Over (next ∷ []) 0)) x.among (sort.Out (number_in ts t)) ks x.of only) (good, tt) (record { join = refl; begin = refl })

  -- ---- mergers

  outports_so : (t : PortFields) (vs : List Var) (os : List Passed) → AreTargets ts all u vs os → AllIn (λ (v : Var). sort_of u v.name ≡ Some (Out t)) vs → all_outports all (number_in ts t) os ≡ true
  outports_so t [] [] are of = refl
  outports_so t [] (o ∷ os) are of = absurd are
  outports_so t (v ∷ vs) [] are of = absurd are
  outports_so t (v ∷ vs) (o ∷ os) are of =
      let x = are.0 in
      let w = of_sort u v.name (Out t) of.0 in
      let same : x.variable ≡ w.0 = same_place x.variable w.0 (sym x.named ∙ w.1) in
      let is : reading.kind_of x.variable.1.kind ≡ Out t = ap (λ (y : ℕ × Variable). reading.kind_of y.1.kind) same ∙ w.2 in
      let words = target_words x.variable.1 (trees_from v.subscripts) in
      let room : fits_room all (sort.Out (number_in ts t)) words o ≡ true = sym (ap (λ (q : FieldKind). fits_room all (sort_by ts q) words o) is) ∙ x.is.fits in
      (λ i. outport all o words (number_in ts t) room i && all_outports all (number_in ts t) os) ∙ outports_so t vs os are.1 of.1

  pub merger_ends : (at : ℕ) (i : Var) (os : List Var) (t : PortFields) (next : ℕ) → sort_of u i.name ≡ Some (In t) → AllIn (λ (v : Var). sort_of u v.name ≡ Some (Out t)) os → AllIn (λ (v : Var). IsVariable u v.name) os → VarFits u i
      → AllIn (VarFits u) os → Good next → (ks : Kinds) → only_results ks ≡ true → refs_in_var now i + refs_in_vars now os ≤ results_in ks → AreCounted p u (in_var i) → AreCounted p u (in_vars os) → Ends at (merger_code p u i os next) ks
  merger_ends at i os t next first others named fits more good ks only done h g =
      let k = refs_in_var now i in
      let m = number_in ts t in
      let last = instr.Meet (meet.Merger next) in
      let x = sorted_leaves i (In t) first fits 0 ks (omega (arith, done)) h in
      let under : Kinds = Word (Some x.among) ∷ ks in
      let y = targets_leave p u sound ts n os named more k under (omega (arith, done)) g in
      let ms = operands_over (reverse y.operands) under in
      let to = next ∷ [] in
      let does : Taken → Effect = λ taken. at_port all taken.rest (λ s. if_in s (λ type. over to (all_outports all type (reverse taken.operands)))) in
      let all_so : all_outports all m (reverse (reverse y.operands)) ≡ true = ap (all_outports all m) (reverse-reverse y.operands) ∙ outports_so t os y.operands y.are others in
      subst (λ (c : List Instr). Ends at c ks) (append_assoc (var_code p u i 0) (targets_code p u os k) (last ∷ []))
      (closes Good ss me n at (var_code p u i 0 ++ targets_code p u os k) last ks ms to
      (then_more all n (var_code p u i 0) (targets_code p u os k) ks under ms x.leaves y.leaves)
      (λ c. ap does (taken_over (reverse y.operands) under refl)
      ∙ at_port_is all (λ s. if_in s (λ type. over to (all_outports all type (reverse (reverse y.operands))))) x.among (sort.In m) ks x.of only
      ∙ ap (over to) all_so)
      (good, tt) (record { join = refl; begin = refl }))

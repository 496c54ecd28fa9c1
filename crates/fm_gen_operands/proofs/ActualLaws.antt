-- The laws of arguments, of items of a message and of places that are to be filled: their code builds the operands that they
-- are, or fails as they do.
use Rattle.std.proofs.Common.{◌≡◌, ℕ, zero, suc, ◌+◌, ◌<◌, ◌≤◌, ℤ, pos, true, cond, Option, Some, None, List, [], ◌∷◌, ◌++◌, length, map, refl, sym, ap, ◌∙◌, arith, append_assoc, Ok}
use Rattle.std.specs.Prelude.{slice_get, nat_lt}
use Rattle.std.proofs.lemmas.Bool.Decides.{nat_tests}
use Rattle.std.proofs.lemmas.List.{append-nil}
use Rattle.fm_net.specs.Typed.{AllIn}
use Rattle.fm_tree.specs.Tree.{Tree, Trees, Number, Truth, Named, Ref, Paren, Signed, Not, Binary, NoTrees, More, trees_from}
use Rattle.fm_tree.specs.declared.port_type.Kind.{Kind}
use Rattle.fm_tree.specs.declared.port_type.Kind.TheVariants as kind
use Rattle.fm_tree.specs.declared.statement.Var.{Var}
use Rattle.fm_symbols.specs.declared.names.Variable.{Variable}
use Rattle.fm_rules.specs.declared.program.Program.{Program}
use Rattle.fm_mean.specs.Names.{ProgramUnit, unit_at, variable_of}
use Rattle.fm_mean.specs.declared.place.Actual.{Actual}
use Rattle.fm_mean.specs.declared.place.Span.{Span}
use Rattle.fm_mean.specs.Evaluate.{Scope, Reference, Element, Call, Built, Unknown, reference_of, refs_in, refs_in_var, single, whole, value_of, numbers_of, value_alone, actual_at, named_actual, ref_actual, actual_of, actuals_of, spans_by, place_of, places_of}
use Rattle.fm_code.specs.declared.ask.Operand.{Operand}
use Rattle.fm_code.specs.declared.ask.Operand.TheVariants as operand
use Rattle.fm_code.specs.declared.body.Frame.{Frame}
use Rattle.fm_code.specs.declared.code.Span as code
use Rattle.fm_code.specs.declared.instr.Instr.{Instr}
use Rattle.fm_code.specs.declared.scratch.Scratch.{Scratch}
use Rattle.fm_code.specs.Acts.{StatementEnd, On, Over, Stuck, found, has_span, passed, then_work, work}
use Rattle.fm_code.specs.Acts as acts
use Rattle.fm_mean.specs.Referring.{names_in}
use Rattle.fm_gen_relation.specs.Sound.{is_word, IsVariable, IsSoundUnit}
use Rattle.fm_gen_relation.specs.Standing.{Slots, scope_in, IsFrame, AreDone, AreAllDone}
use Rattle.fm_gen_relation.specs.Operands.{first_of, holds_words, code_span, target_of, operand_of}
use Rattle.fm_gen_relation.specs.Calls.{VarsDone}
use Rattle.fm_gen_relation.proofs.PortWords.{first_there}
use Rattle.fm_gen_operands.specs.Code.{expression_code}
use Rattle.fm_gen_operands.specs.Places.{whole_span, pass_whole, pass_at, pass_value, named_argument, value_argument, reference_argument, argument_code, arguments_code, target_by, target_code, targets_code}
use Rattle.fm_gen_operands.specs.Keeps.{then, with_operands, KeepsActuals, KeepsTargets}
use Rattle.fm_gen_operands.proofs.DimensionLaws.{array_some}
use Rattle.fm_gen_operands.proofs.Follows.{IsAt, IsReferenceAt, named_at, reference_at, refs_same, all_refs_same, then_chain, keeps}
use Rattle.fm_gen_operands.proofs.PlaceLaws.{variable_there, located_follows}

abbrev CodeSpan : Type 0
CodeSpan = code.Span

-- What stands at a place, as an operand.

-- words or ports
abbrev operand_at : Kind → CodeSpan → Operand
operand_at q x = cond (is_word q) (operand.Words x) (operand.Ports x)

actual_operand : (s : Scope) (vs : List Variable) (q : Kind) (x : Span) → operand_of vs (actual_at s q x) ≡ operand_at q (code_span vs x)
actual_operand s vs kind.Integer x = refl
actual_operand s vs kind.Logical x = refl
actual_operand s vs (kind.In t) x = refl
actual_operand s vs (kind.Out t) x = refl

holds_there : (vs : List Variable) (i : ℕ) (v : Variable) → slice_get vs i ≡ Some v → holds_words vs i ≡ is_word v.kind
holds_there [] i v e = absurd (cc)
holds_there (w ∷ vs) zero v e = ap (λ (x : Variable). is_word x.kind) (same w v e)
  where
    same : (v w : Variable) → Some v ≡ Some w → v ≡ w
    same v w e = cc
holds_there (w ∷ vs) (suc i) v e = holds_there vs i v e

target_operand : (vs : List Variable) (i : ℕ) (v : Variable) (x : Span) → x.variable ≡ i → slice_get vs i ≡ Some v → target_of vs x ≡ operand_at v.kind (code_span vs x)
target_operand vs i v x is at = ap (λ c. cond c (operand.Words (code_span vs x)) (operand.Ports (code_span vs x))) (ap (holds_words vs) is ∙ holds_there vs i v at)

spans_same : (a b n : ℕ) → a ≡ b → ◌≡◌ {A = CodeSpan} (record { first = a; count = n }) (record { first = b; count = n })
spans_same a b n e = ap (λ (x : ℕ). let c : CodeSpan = record { first = x; count = n } in c) e

whole_same : (vs : List Variable) (i : ℕ) (v : Variable) → slice_get vs i ≡ Some v → whole_span v ≡ code_span vs (whole i v)
whole_same vs i v at = spans_same v.first (first_of vs i + 0) v.words (omega (arith, first_there vs i v at))

single_same : (vs : List Variable) (i k : ℕ) (v : Variable) → slice_get vs i ≡ Some v → acts.single (v.first + k) ≡ code_span vs (single i k)
single_same vs i k v at = spans_same (v.first + k) (first_of vs i + k) 1 (omega (arith, first_there vs i v at))

module _ (m : Frame) where
  passes_words : (x : CodeSpan) (o : Operand) → has_span (length m.words) x ≡ true → (is : List Instr) (s : List ℤ) (b : Scratch)
      → then_work (acts.spanned m x (λ ws. On s (passed b o))) (λ s b. work is s b m) ≡ work is s (passed b o) m
  passes_words x o e is s b = ap (λ c. then_work (cond c (On s (passed b o)) (Over Stuck)) (λ s b. work is s b m)) e

  passes_at : (j : ℕ) (o : Operand) → j < length m.words → (f : ℕ → Operand) → f j ≡ o → (is : List Instr) (s : List ℤ) (b : Scratch)
      → then_work (acts.at_word m (pos j) (λ k. On s (passed b (f k)))) (λ s b. work is s b m) ≡ work is s (passed b o) m
  passes_at j o less f e is s b =
      let inside : nat_lt j (length m.words) ≡ true = grind (arith, nat_tests) in
      ap (λ c. then_work (found (cond c (Some j) None) (λ k. On s (passed b (f k)))) (λ s b. work is s b m)) inside ∙ ap (λ o. work is s (passed b o) m) e

  -- all words of a span that the frame has
  whole_passes : (q : Kind) (x : CodeSpan) → x.first + x.count ≤ length m.words → (is : List Instr) (s : List ℤ) (b : Scratch)
      → work (pass_whole q x ∷ is) s b m ≡ work is s (passed b (operand_at q x)) m
  whole_passes q x le is s b = go q
    where
      inside : has_span (length m.words) x ≡ true
      inside = grind (arith, nat_tests)

      go : (q : Kind) → work (pass_whole q x ∷ is) s b m ≡ work is s (passed b (operand_at q x)) m
      go kind.Integer = passes_words x (operand.Words x) inside is s b
      go kind.Logical = passes_words x (operand.Words x) inside is s b
      go (kind.In t) = passes_words x (operand.Ports x) inside is s b
      go (kind.Out t) = passes_words x (operand.Ports x) inside is s b

  -- one word by its number
  word_passes : (q : Kind) (j : ℕ) → j < length m.words → (is : List Instr) (s : List ℤ) (b : Scratch)
      → work (pass_at q ∷ is) (pos j ∷ s) b m ≡ work is s (passed b (operand_at q (acts.single j))) m
  word_passes kind.Integer j less is s b = passes_at j (operand.Words (acts.single j)) less (λ k. operand.Words (acts.single k)) refl is s b
  word_passes kind.Logical j less is s b = passes_at j (operand.Words (acts.single j)) less (λ k. operand.Words (acts.single k)) refl is s b
  word_passes (kind.In t) j less is s b = passes_at j (operand.Ports (acts.single j)) less (λ k. operand.Ports (acts.single k)) refl is s b
  word_passes (kind.Out t) j less is s b = passes_at j (operand.Ports (acts.single j)) less (λ k. operand.Ports (acts.single k)) refl is s b

  -- operands one after the other
  none_more : (is : List Instr) (s : List ℤ) (b : Scratch) → work is s b m ≡ work is s (with_operands b []) m
  none_more is s b = ap (λ os. work is s (record b { operands = os }) m) (sym (append-nil b.operands))

  one_more : (o : Operand) (os : List Operand) (is : List Instr) (s : List ℤ) (b : Scratch) → work is s (with_operands (passed b o) os) m ≡ work is s (with_operands b (o ∷ os)) m
  one_more o os is s b = ap (λ l. work is s (record b { operands = l }) m) (append_assoc b.operands (o ∷ []) os)

module _ (p : Program) (number : ℕ) (u : ProgramUnit) (sound : IsSoundUnit u) (here : unit_at p number ≡ Some u) (slots : Slots) (m : Frame) (frame : IsFrame u slots m) where
  abbrev vars : List Variable
  vars = u.names.variables

  abbrev scope : Scope
  scope = scope_in p u slots m

  -- a variable whole, and an element, are operands
  whole_follows : (i : ℕ) (v : Variable) → slice_get vars i ≡ Some v → (is : List Instr) (s : List ℤ) (b : Scratch)
      → work (pass_whole v.kind (whole_span v) ∷ is) s b m ≡ work is s (passed b (operand_at v.kind (code_span vars (whole i v)))) m
  whole_follows i v at is s b =
      whole_passes m v.kind (whole_span v) (variable_there p number u sound here slots m frame i v at) is s b
      ∙ ap (λ x. work is s (passed b (operand_at v.kind x)) m) (whole_same vars i v at)

  element_follows : (i k : ℕ) (v : Variable) → slice_get vars i ≡ Some v → v.first + k < length m.words → (is : List Instr) (s : List ℤ) (b : Scratch)
      → work (pass_at v.kind ∷ is) (pos (v.first + k) ∷ s) b m ≡ work is s (passed b (operand_at v.kind (code_span vars (single i k)))) m
  element_follows i k v at less is s b =
      word_passes m v.kind (v.first + k) less is s b ∙ ap (λ x. work is s (passed b (operand_at v.kind x)) m) (single_same vars i k v at)

  -- Arguments.

  abbrev with_actual : List Instr → List ℤ → Scratch → Actual → StatementEnd
  with_actual is s b a = work is s (passed b (operand_of vars a)) m

  value_follows : (t : Tree) (n : ℕ) → AreDone scope t n → (is : List Instr) (s : List ℤ) (b : Scratch)
      → work (value_argument p u t n ++ is) s b m ≡ then (value_alone (value_of scope t n)) (with_actual is s b)
  value_follows t n done is s b =
      ap (λ c. work c s b m) (append_assoc (expression_code p u t n) (pass_value ∷ []) is)
      ∙ keeps p number u t n here slots m frame done (pass_value ∷ is) s b
      ∙ then_chain (value_of scope t n) _ _ _ (λ x. refl)

  named_follows : (name : List ℕ) (o : Option (ℕ × Variable)) → IsAt vars o → (is : List Instr) (s : List ℤ) (b : Scratch)
      → work (named_argument u name o ++ is) s b m ≡ with_actual is s b (named_actual scope name o)
  named_follows name None at is s b = refl
  named_follows name (Some v) at is s b =
      whole_follows v.0 v.1 at is s b ∙ ap (λ o. work is s (passed b o) m) (sym (actual_operand scope vars v.1.kind (whole v.0 v.1)))

  reference_follows : (name : List ℕ) (ts : Trees) (n : ℕ) (r : Reference) → IsReferenceAt vars r → AreDone scope (Ref name ts) n → (is : List Instr) (s : List ℤ) (b : Scratch)
      → work (reference_argument p u r name ts n ++ is) s b m ≡ then (ref_actual scope r (numbers_of scope ts n) (value_of scope (Ref name ts) n)) (with_actual is s b)
  reference_follows name ts n (Element i v) at done is s b =
      located_follows p number u sound here slots m frame i v at.0 ts n (λ none z. array_some v.bounds at.1 none) done.0 (λ k. Ok (actual_at scope v.kind (single i k))) (with_actual is s b) (pass_at v.kind ∷ []) is s b
      (λ k less inside. element_follows i k v at.0 inside is s b ∙ ap (λ o. work is s (passed b o) m) (sym (actual_operand scope vars v.kind (single i k))))
  reference_follows name ts n (Call k callee) at done is s b = value_follows (Ref name ts) n done is s b
  reference_follows name ts n (Built f) at done is s b = value_follows (Ref name ts) n done is s b
  reference_follows name ts n Unknown at done is s b = value_follows (Ref name ts) n done is s b

  argument_follows : (t : Tree) (n : ℕ) → AreDone scope t n → (is : List Instr) (s : List ℤ) (b : Scratch)
      → work (argument_code p u t n ++ is) s b m ≡ then (actual_of scope t n) (with_actual is s b)
  argument_follows (Number k) n done is s b = value_follows (Number k) n done is s b
  argument_follows (Truth t) n done is s b = value_follows (Truth t) n done is s b
  argument_follows (Named name) n done is s b = named_follows name (variable_of u name) (named_at p u name) is s b
  argument_follows (Ref name ts) n done is s b = reference_follows name ts n (reference_of (names_in p u) name) (reference_at p u name) done is s b
  argument_follows (Paren e) n done is s b = value_follows (Paren e) n done is s b
  argument_follows (Signed o e) n done is s b = value_follows (Signed o e) n done is s b
  argument_follows (Not e) n done is s b = value_follows (Not e) n done is s b
  argument_follows (Binary o l r) n done is s b = value_follows (Binary o l r) n done is s b

  arguments_follow : (ts : Trees) (n : ℕ) → AreAllDone scope ts n → (is : List Instr) (s : List ℤ) (b : Scratch)
      → work (arguments_code p u ts n ++ is) s b m ≡ then (actuals_of scope ts n) (λ xs. work is s (with_operands b (map (operand_of vars) xs)) m)
  arguments_follow NoTrees n done is s b = none_more m is s b
  arguments_follow (More t ts) n done is s b =
      ap (λ c. work c s b m) (append_assoc (argument_code p u t n) (arguments_code p u ts (n + refs_in (names_in p u) t)) is)
      ∙ argument_follows t n done.0 (arguments_code p u ts (n + refs_in (names_in p u) t) ++ is) s b
      ∙ then_chain (actual_of scope t n) _ _ _ (λ x.
      ap (λ k. work (arguments_code p u ts (n + k) ++ is) s (passed b (operand_of vars x)) m) (sym (refs_same p u slots m t))
      ∙ arguments_follow ts (n + refs_in scope t) done.1 is s (passed b (operand_of vars x))
      ∙ then_chain (actuals_of scope ts (n + refs_in scope t)) _ _ _ (λ xs. one_more m (operand_of vars x) (map (operand_of vars) xs) is s b))

  -- Places that are to be filled.

  abbrev with_target : List Instr → List ℤ → Scratch → Span → StatementEnd
  with_target is s b q = work is s (passed b (target_of vars q)) m

  target_follows : (w : ℕ × Variable) → IsAt vars (Some w) → (ts : Trees) (n : ℕ) → AreAllDone scope ts n → (is : List Instr) (s : List ℤ) (b : Scratch)
      → work (target_by p u (Some w) ts n ++ is) s b m ≡ then (spans_by (Some w) ts (numbers_of scope ts n)) (with_target is s b)
  target_follows w at NoTrees n done is s b =
      whole_follows w.0 w.1 at is s b ∙ ap (λ o. work is s (passed b o) m) (sym (target_operand vars w.0 w.1 (whole w.0 w.1) refl at))
  target_follows w at (More t ts) n done is s b =
      located_follows p number u sound here slots m frame w.0 w.1 at (More t ts) n (λ none z. absurd (omega (arith, z))) done (λ k. Ok (single w.0 k)) (with_target is s b) (pass_at w.1.kind ∷ []) is s b
      (λ k less inside. element_follows w.0 k w.1 at inside is s b ∙ ap (λ o. work is s (passed b o) m) (sym (target_operand vars w.0 w.1 (single w.0 k) refl at)))

  -- the name of a variable has one
  variable_follows : (o : Option (ℕ × Variable)) → IsAt vars o → (w : ℕ × Variable) → o ≡ Some w → (ts : Trees) (n : ℕ) → AreAllDone scope ts n → (is : List Instr) (s : List ℤ) (b : Scratch)
      → work (target_by p u o ts n ++ is) s b m ≡ then (spans_by o ts (numbers_of scope ts n)) (with_target is s b)
  variable_follows None at w e ts n done is s b = absurd (cc)
  variable_follows (Some x) at w e ts n done is s b = target_follows x at ts n done is s b

  targets_follow : (vs : List Var) (n : ℕ) → AllIn (λ (v : Var). IsVariable u v.name) vs → VarsDone scope vs n → (is : List Instr) (s : List ℤ) (b : Scratch)
      → work (targets_code p u vs n ++ is) s b m ≡ then (places_of scope vs n) (λ qs. work is s (with_operands b (map (target_of vars) qs)) m)
  targets_follow [] n known done is s b = none_more m is s b
  targets_follow (v ∷ vs) n known done is s b =
      ap (λ c. work c s b m) (append_assoc (target_code p u v n) (targets_code p u vs (n + refs_in_var (names_in p u) v)) is)
      ∙ variable_follows (variable_of u v.name) (named_at p u v.name) known.0.0 known.0.1 (trees_from v.subscripts) n done.0 (targets_code p u vs (n + refs_in_var (names_in p u) v) ++ is) s b
      ∙ then_chain (place_of scope v n) _ _ _ (λ x.
      ap (λ k. work (targets_code p u vs (n + k) ++ is) s (passed b (target_of vars x)) m) (sym (all_refs_same p u slots m (trees_from v.subscripts)))
      ∙ targets_follow vs (n + refs_in_var scope v) known.1 done.1 is s (passed b (target_of vars x))
      ∙ then_chain (places_of scope vs (n + refs_in_var scope v)) _ _ _ (λ xs. one_more m (target_of vars x) (map (target_of vars) xs) is s b))

-- in each frame of a unit of a program
pub keeps_actuals : (p : Program) (number : ℕ) (u : ProgramUnit) → IsSoundUnit u → unit_at p number ≡ Some u → (ts : Trees) (n : ℕ) → KeepsActuals p u ts n (arguments_code p u ts n)
keeps_actuals p number u sound here ts n slots m frame done is s b = arguments_follow p number u sound here slots m frame ts n done is s b

pub keeps_targets : (p : Program) (number : ℕ) (u : ProgramUnit) → IsSoundUnit u → unit_at p number ≡ Some u → (vs : List Var) (n : ℕ) → AllIn (λ (v : Var). IsVariable u v.name) vs
    → KeepsTargets p u vs n (targets_code p u vs n)
keeps_targets p number u sound here vs n known slots m frame done is s b = targets_follow p number u sound here slots m frame vs n known done is s b

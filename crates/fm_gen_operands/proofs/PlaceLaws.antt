-- The law of places: their code leaves the number of their first word on the stack, or fails as their subscripts do.
use Rattle.std.proofs.Common.{◌≡◌, ℕ, ◌+◌, ◌<◌, ◌≤◌, ℤ, pos, Option, Some, None, List, [], ◌∷◌, ◌++◌, length, sym, ap, ◌∙◌, arith, append_assoc, Result, Ok}
use Rattle.std.specs.Prelude.{slice_get}
use Rattle.fm_base.specs.declared.fault.Fault.{Fault}
use Rattle.fm_tree.specs.Tree.{Trees, NoTrees, More, trees_from}
use Rattle.fm_tree.specs.declared.statement.Var.{Var}
use Rattle.fm_values.specs.Places.{size, element_place}
use Rattle.fm_symbols.specs.declared.names.Variable.{Variable}
use Rattle.fm_rules.specs.declared.program.Program.{Program}
use Rattle.fm_mean.specs.Operands.{◌>>=◌}
use Rattle.fm_mean.specs.Names.{ProgramUnit, unit_at, variable_of}
use Rattle.fm_mean.specs.declared.place.Span.{Span}
use Rattle.fm_mean.specs.Evaluate.{Scope, single, spans_by, numbers_of}
use Rattle.fm_mean.proofs.Sizes.{in_all, variables_sized, variables_small}
use Rattle.fm_code.specs.declared.body.Frame.{Frame}
use Rattle.fm_code.specs.declared.instr.Instr.{Instr}
use Rattle.fm_code.specs.declared.scratch.Scratch.{Scratch}
use Rattle.fm_code.specs.Acts.{StatementEnd, On, gives, then_work, work}
use Rattle.fm_gen_relation.specs.Sound.{IsSoundUnit}
use Rattle.fm_gen_relation.specs.Standing.{Slots, scope_in, IsFrame, AreAllDone}
use Rattle.fm_gen_relation.specs.Operands.{first_of, word_number}
use Rattle.fm_gen_relation.proofs.FrameWords.{number_in_range}
use Rattle.fm_gen_relation.proofs.Passing.{variable_within}
use Rattle.fm_gen_relation.proofs.PortWords.{first_there}
use Rattle.fm_gen_operands.specs.Code.{place_code, trees_count, expressions_code}
use Rattle.fm_gen_operands.specs.Places.{locate, located_code, place_by, var_code}
use Rattle.fm_gen_operands.specs.Keeps.{then, KeepsPlace}
use Rattle.fm_gen_operands.proofs.DimensionLaws.{within_place, place_follows}
use Rattle.fm_gen_operands.proofs.Follows.{IsAt, then_with, named_at, numbers_count, keeps_all}

module _ (p : Program) (number : ℕ) (u : ProgramUnit) (sound : IsSoundUnit u) (here : unit_at p number ≡ Some u) (slots : Slots) (m : Frame) (frame : IsFrame u slots m) where
  abbrev vars : List Variable
  vars = u.names.variables

  abbrev scope : Scope
  scope = scope_in p u slots m

  -- the words of a variable are among those of the frame
  pub variable_there : (i : ℕ) (v : Variable) → slice_get vars i ≡ Some v → v.first + v.words ≤ length m.words
  variable_there i v at = omega (arith, variable_within u i v sound at, frame.sized)

  locates : (f k : ℕ) → f + k < length m.words → (is : List Instr) (s : List ℤ) (b : Scratch) → work (locate f ∷ is) (pos k ∷ s) b m ≡ work is (pos (f + k) ∷ s) b m
  locates f k less is s b = ap (λ r. then_work (gives r (λ x. On (x ∷ s) b)) (λ s b. work is s b m)) (number_in_range (f + k) (omega (arith, less, frame.numbered)))

  -- an element of an array by the number of its word, and what is done with it; it stands in the frame
  pub located_follows : (i : ℕ) (v : Variable) → slice_get vars i ≡ Some v → (ts : Trees) (n : ℕ) → (v.bounds ≡ [] → trees_count ts ≡ 0 → ⊥) → AreAllDone scope ts n
      → {A : Type 0} (found : ℕ → Result A Fault) (h : A → StatementEnd) (then_do is : List Instr) (s : List ℤ) (b : Scratch)
      → ((k : ℕ) → k < v.words → v.first + k < length m.words → work (then_do ++ is) (pos (v.first + k) ∷ s) b m ≡ then (found k) h)
      → work (located_code p u v ts n then_do ++ is) s b m ≡ then (numbers_of scope ts n >>= λ xs. element_place v.bounds xs >>= found) h
  located_follows i v at ts n array done found h then_do is s b goes =
      let some = in_all (λ v. v.words ≡ size v.bounds) vars i v (variables_sized p number u here) at in
      let few = in_all (λ v. size v.bounds ≤ 65536) vars i v (variables_small p number u here) at in
      ap (λ c. work c s b m) (append_assoc (expressions_code p u ts n) (place_code v (trees_count ts) (locate v.first ∷ then_do)) is)
      ∙ keeps_all p number u ts n here slots m frame done (place_code v (trees_count ts) (locate v.first ∷ then_do) ++ is) s b
      ∙ then_with (numbers_of scope ts n) _ _ _ (λ xs e.
      place_follows m b v (trees_count ts) xs array some few (numbers_count scope ts n xs e) (locate v.first ∷ then_do) is s
      ∙ then_with (element_place v.bounds xs) _ _ _ (λ k f.
      let less : k < v.words = omega (arith, within_place v.bounds xs k f, some) in
      let inside : v.first + k < length m.words = omega (arith, less, variable_there i v at) in
      locates v.first k inside (then_do ++ is) s b ∙ goes k less inside))

  abbrev goes_on : List Instr → List ℤ → Scratch → Span → StatementEnd
  goes_on is s b q = work is (pos (word_number vars q) ∷ s) b m

  spans_follow : (o : Option (ℕ × Variable)) → IsAt vars o → (ts : Trees) (n : ℕ) → AreAllDone scope ts n → (is : List Instr) (s : List ℤ) (b : Scratch)
      → work (place_by p u o ts n ++ is) s b m ≡ then (spans_by o ts (numbers_of scope ts n)) (goes_on is s b)
  spans_follow None at ts n done is s b = let first : first_of vars 0 ≡ first_of vars 0 + 0 = omega arith in ap (λ k. work is (pos k ∷ s) b m) first
  spans_follow (Some v) at NoTrees n done is s b =
      let first : v.1.first ≡ first_of vars v.0 + 0 = omega (arith, first_there vars v.0 v.1 at) in
      ap (λ k. work is (pos k ∷ s) b m) first
  spans_follow (Some v) at (More t ts) n done is s b =
      located_follows v.0 v.1 at (More t ts) n (λ none z. absurd (omega (arith, z))) done (λ k. Ok (single v.0 k)) (goes_on is s b) [] is s b
      (λ k less inside. ap (λ f. work is (pos (f + k) ∷ s) b m) (sym (first_there vars v.0 v.1 at)))

-- in each frame of a unit of a program
pub keeps_place : (p : Program) (number : ℕ) (u : ProgramUnit) → IsSoundUnit u → unit_at p number ≡ Some u → (v : Var) (n : ℕ) → KeepsPlace p u v n (var_code p u v n)
keeps_place p number u sound here v n slots m frame done is s b =
    spans_follow p number u sound here slots m frame (variable_of u v.name) (named_at p u v.name) (trees_from v.subscripts) n done is s b

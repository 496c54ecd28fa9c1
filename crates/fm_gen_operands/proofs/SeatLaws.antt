-- The code of a seat leaves the numbers that tell where a process is put.
use Rattle.std.proofs.Common.{◌≡◌, ℕ, ◌+◌, ◌≤◌, ℤ, true, cond, Option, Some, None, List, [], ◌∷◌, ◌++◌, length, take, drop, reverse, length-append, refl, sym, ap, ◌∙◌, arith, append_assoc}
use Rattle.std.specs.Prelude.{nat_le}
use Rattle.std.proofs.lemmas.Bool.Decides.{nat_tests}
use Rattle.std.proofs.lemmas.List.{reverse-reverse, length-reverse}
use Rattle.std.proofs.Math.Seq.{take-append_seam, drop-append_seam}
use Rattle.fm_tree.specs.Tree.{Tree, trees_from}
use Rattle.fm_tree.specs.declared.statement.Where.{Where}
use Rattle.fm_tree.specs.declared.statement.Where.TheVariants as put_at
use Rattle.fm_rules.specs.declared.program.Program.{Program}
use Rattle.fm_mean.specs.Names.{ProgramUnit, unit_at}
use Rattle.fm_mean.specs.Evaluate.{Scope, refs_in, number_of, numbers_of, value_of}
use Rattle.fm_mean.specs.Referring.{names_in}
use Rattle.fm_code.specs.declared.body.Frame.{Frame}
use Rattle.fm_code.specs.declared.instr.Instr.{Instr}
use Rattle.fm_code.specs.declared.instr.Instr.TheVariants as instr
use Rattle.fm_code.specs.declared.instr.Build.TheVariants as build
use Rattle.fm_code.specs.declared.scratch.Place.TheVariants as place
use Rattle.fm_code.specs.declared.scratch.Scratch.{Scratch}
use Rattle.fm_code.specs.Acts as acts
use Rattle.fm_code.specs.Acts.{On, Over, with_words, then_work, work}
use Rattle.fm_gen_relation.specs.Standing.{Slots, scope_in, IsFrame, AreDone}
use Rattle.fm_gen_operands.specs.Code.{trees_count, expression_code, expressions_code}
use Rattle.fm_gen_operands.specs.Places.{seat_code}
use Rattle.fm_gen_operands.specs.Keeps.{then, with_place, KeepsSeat}
use Rattle.fm_gen_operands.proofs.Follows.{then_chain, then_with, refs_same, numbers_count, keeps, keeps_all}

-- so many numbers on the stack, the first of which was pushed first, are those of a location
located : (m : Frame) (n : ℕ) (xs : List ℤ) → n ≡ length xs → (is : List Instr) (s : List ℤ) (b : Scratch)
    → work (instr.Build (build.Location n) ∷ is) (reverse xs ++ s) b m ≡ work is s (with_place b (place.Location xs)) m
located m n xs e is s b =
    let rs = reverse xs in
    let count : n ≡ length rs = e ∙ sym (length-reverse xs) in
    let bound : length rs ≤ length (rs ++ s) = omega (arith, length-append rs s) in
    let enough : nat_le (length rs) (length (rs ++ s)) ≡ true = grind (arith, nat_tests) in
    let put = λ (xs : List ℤ) (s : List ℤ). On s (with_place b (place.Location xs)) in
    ap (λ k. then_work (with_words k (rs ++ s) put) (λ s b. work is s b m)) count
    ∙ ap (λ c. then_work (cond c (put (reverse (take (length rs) (rs ++ s))) (drop (length rs) (rs ++ s))) (Over acts.Stuck)) (λ s b. work is s b m)) enough
    ∙ (λ i. work is (drop-append_seam rs s i) (with_place b (place.Location (reverse (take-append_seam rs s i)))) m)
    ∙ ap (λ l. work is s (with_place b (place.Location l)) m) (reverse-reverse xs)

module _ (p : Program) (number : ℕ) (u : ProgramUnit) (here : unit_at p number ≡ Some u) (slots : Slots) (m : Frame) (frame : IsFrame u slots m) where
  abbrev scope : Scope
  scope = scope_in p u slots m

  number_left : (t : Tree) (n : ℕ) → AreDone scope t n → (is : List Instr) (s : List ℤ) (b : Scratch)
      → work (expression_code p u t n ++ is) s b m ≡ then (number_of scope t n) (λ x. work is (x ∷ s) b m)
  number_left t n done is s b = keeps p number u t n here slots m frame done is s b ∙ then_chain (value_of scope t n) _ _ _ (λ x. refl)

pub keeps_seat : (p : Program) (number : ℕ) (u : ProgramUnit) (o : Option Where) (n : ℕ) → unit_at p number ≡ Some u → KeepsSeat p u o n (seat_code p u o n)
keeps_seat p number u None n here slots m frame done is s b = refl
keeps_seat p number u (Some (put_at.Location ks)) n here slots m frame done is s b =
    let ts = trees_from ks in
    let last = instr.Build (build.Location (trees_count ts)) ∷ [] in
    ap (λ c. work c s b m) (append_assoc (expressions_code p u ts n) last is)
    ∙ keeps_all p number u ts n here slots m frame done (last ++ is) s b
    ∙ then_with (numbers_of (scope_in p u slots m) ts n) _ _ _ (λ xs e. located m (trees_count ts) xs (numbers_count (scope_in p u slots m) ts n xs e) is s b)
keeps_seat p number u (Some (put_at.Submachine low high)) n here slots m frame done is s b =
    let now = scope_in p u slots m in
    let last = instr.Build build.Submachine ∷ [] in
    let more = expression_code p u high (n + refs_in (names_in p u) low) in
    ap (λ c. work c s b m) (append_assoc (expression_code p u low n) (more ++ last) is)
    ∙ number_left p number u here slots m frame low n done.0 ((more ++ last) ++ is) s b
    ∙ then_chain (number_of now low n) _ _ _ (λ x.
    ap (λ c. work c (x ∷ s) b m) (append_assoc more last is)
    ∙ ap (λ k. work (expression_code p u high (n + k) ++ (last ++ is)) (x ∷ s) b m) (sym (refs_same p u slots m low))
    ∙ number_left p number u here slots m frame high (n + refs_in now low) done.1 (last ++ is) (x ∷ s) b
    ∙ then_chain (number_of now high (n + refs_in now low)) _ _ _ (λ y. refl))

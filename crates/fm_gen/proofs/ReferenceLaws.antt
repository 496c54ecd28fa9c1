-- The code of an entry's references: each one ends its statement, and begins behind those before it.
use Rattle.std.proofs.Common.{◌≡◌, ℕ, zero, suc, ◌+◌, ◌≤◌, Option, Some, None, List, [], ◌∷◌, ◌++◌, length, take, refl, sym, ap, ◌∙◌, arith, append_assoc, length-append}
use Rattle.std.specs.Prelude.{slice_get}
use Rattle.std.proofs.lemmas.List.{take_all}
use Rattle.fm_tree.specs.References.{reference_at}
use Rattle.fm_tree.specs.Tree.{Tree, Number, Truth, Named, Ref, Paren, Signed, Not, Binary}
use Rattle.fm_tree.specs.declared.program_unit.Entry.{Entry}
use Rattle.fm_tree.specs.declared.statement.Stmt.{Stmt}
use Rattle.fm_rules.specs.declared.program.Program.{Program}
use Rattle.fm_mean.specs.Names.{ProgramUnit, Point}
use Rattle.fm_mean.specs.Evaluate.{Reference, Element, Call, Built, Unknown, reference_of}
use Rattle.fm_mean.specs.Referring.{names_in}
use Rattle.fm_code.specs.declared.instr.Instr.{Instr}
use Rattle.fm_gen.specs.Statements.{Addresses, refer, reference_operands, reference_end, statement_code}
use Rattle.fm_gen.specs.Entries.{reference_code, references_code, references_length, entry_code}
use Rattle.fm_gen.proofs.Ends.{IsEnd, IsEnded, Stores, Refers, closing}

refer_ends : (r : Reference) (next : ℕ) → IsEnd (refer r next)
refer_ends (Element i v) next = Stores 0 0
refer_ends (Call n callee) next = Refers n next
refer_ends (Built f) next = Stores 0 0
refer_ends Unknown next = Stores 0 0

same_place : (a b : ℕ) → Some a ≡ Some b → a ≡ b
same_place a b e = cc

module _ (p : Program) (u : ProgramUnit) where
  end_ends : (o : Option Tree) (next : ℕ) → IsEnd (reference_end p u o next)
  end_ends None next = Stores 0 0
  end_ends (Some (Number n)) next = Stores 0 0
  end_ends (Some (Truth b)) next = Stores 0 0
  end_ends (Some (Named name)) next = Stores 0 0
  end_ends (Some (Ref name args)) next = refer_ends (reference_of (names_in p u) name) next
  end_ends (Some (Paren e)) next = Stores 0 0
  end_ends (Some (Signed o e)) next = Stores 0 0
  end_ends (Some (Not e)) next = Stores 0 0
  end_ends (Some (Binary o a b)) next = Stores 0 0

  module _ (s : Stmt) where
    abbrev operands : (j r : ℕ) → List Instr
    operands j r = reference_operands p u j (reference_at s r)

    pub reference_ended : (h j r : ℕ) → IsEnded (reference_code p u s h j r)
    reference_ended h j r =
        let next = h + suc (length (operands j r)) in
        closing (operands j r) (reference_end p u (reference_at s r) next) (end_ends (reference_at s r) next)

    -- an instruction more than its operands
    pub reference_long : (h j r : ℕ) → length (reference_code p u s h j r) ≡ suc (length (operands j r))
    reference_long h j r =
        let long = length-append (operands j r) (reference_end p u (reference_at s r) (h + suc (length (operands j r))) ∷ []) in
        omega (arith, long)

    pub references_same : (h i j : ℕ) (rs : List ℕ) → length (references_code p u s h j rs) ≡ length (references_code p u s i j rs)
    references_same h i j [] = refl
    references_same h i j (r ∷ rs) =
        let mine = reference_code p u s h j r in
        let theirs = reference_code p u s i j r in
        length-append mine (references_code p u s (h + length mine) (suc j) rs)
        ∙ (λ t. (reference_long h j r ∙ sym (reference_long i j r)) t + references_same (h + length mine) (i + length theirs) (suc j) rs t)
        ∙ sym (length-append theirs (references_code p u s (i + length theirs) (suc j) rs))

    -- those before a reference, and itself
    pub references_at : (h j n : ℕ) (rs : List ℕ) (r : ℕ) → slice_get rs n ≡ Some r
        → (rest : List Instr) × (references_code p u s h j rs ≡ references_code p u s h j (take n rs) ++ (reference_code p u s (h + length (references_code p u s h j (take n rs))) (j + n) r ++ rest))
    references_at h j n [] r is = absurd (cc)
    references_at h j zero (x ∷ rs) r is =
        let here : h ≡ h + 0 = omega arith in
        let number : j ≡ j + 0 = omega arith in
        let rest = references_code p u s (h + length (reference_code p u s h j x)) (suc j) rs in
        (rest, λ i. reference_code p u s (here i) (number i) (same_place x r is i) ++ rest)
    references_at h j (suc n) (x ∷ rs) r is =
        let first = reference_code p u s h j x in
        let before = references_code p u s (h + length first) (suc j) (take n rs) in
        let found = references_at (h + length first) (suc j) n rs r is in
        let long = length-append first before in
        let here : h + length first + length before ≡ h + length (first ++ before) = omega (arith, long) in
        let number : suc j + n ≡ j + suc n = omega arith in (
          found.0,
          ap (λ l. first ++ l) found.1
              ∙ sym (append_assoc first before (reference_code p u s (h + length first + length before) (suc j + n) r ++ found.0))
              ∙ (λ i. (first ++ before) ++ (reference_code p u s (here i) (number i) r ++ found.0)),
        )

    -- one more
    pub references_next : (h i j n : ℕ) (rs : List ℕ) (r : ℕ) → slice_get rs n ≡ Some r
        → length (references_code p u s h j (take (suc n) rs)) ≡ length (references_code p u s h j (take n rs)) + length (reference_code p u s i (j + n) r)
    references_next h i j n [] r is = absurd (cc)
    references_next h i j zero (x ∷ rs) r is =
        let number : j ≡ j + 0 = omega arith in
        let one : length (reference_code p u s h j x) ≡ length (reference_code p u s i (j + 0) r) =
        reference_long h j x ∙ (λ t. suc (length (operands (number t) (same_place x r is t)))) ∙ sym (reference_long i (j + 0) r) in
        let long = length-append (reference_code p u s h j x) [] in
        omega (arith, one, long)
    references_next h i j (suc n) (x ∷ rs) r is =
        let first = reference_code p u s h j x in
        let number : suc j + n ≡ j + suc n = omega arith in
        let same : length (reference_code p u s i (suc j + n) r) ≡ length (reference_code p u s i (j + suc n) r) = ap (λ m. length (reference_code p u s i m r)) number in
        let more = references_next (h + length first) i (suc j) n rs r is in
        let long = length-append first (references_code p u s (h + length first) (suc j) (take (suc n) rs)) in
        let short = length-append first (references_code p u s (h + length first) (suc j) (take n rs)) in
        omega (arith, same, more, long, short)

    pub references_front : (h j n : ℕ) (rs : List ℕ) → length (references_code p u s h j (take n rs)) ≤ length (references_code p u s h j rs)
    references_front h j zero [] = omega arith
    references_front h j (suc n) [] = omega arith
    references_front h j zero (x ∷ rs) = omega arith
    references_front h j (suc n) (x ∷ rs) =
        let first = reference_code p u s h j x in
        let more = references_front (h + length first) (suc j) n rs in
        let long = length-append first (references_code p u s (h + length first) (suc j) rs) in
        let short = length-append first (references_code p u s (h + length first) (suc j) (take n rs)) in
        omega (arith, more, long, short)

  pub all_references : (e : Entry) (n : ℕ) → length e.refs ≤ n → references_length p u e n ≡ length (references_code p u e.stmt 0 0 e.refs)
  all_references e n le = ap (λ rs. length (references_code p u e.stmt 0 0 rs)) (take_all n e.refs le)

  -- an entry's code: that of its references, and that of its statement
  pub entry_added : (address : Addresses) (k begin here : ℕ) (e : Point) (o : Option Point) (rs : List ℕ) (old middle new : List Instr) → Some e ≡ o → rs ≡ e.entry.refs → begin ≡ address k
      → middle ≡ old ++ references_code p u e.entry.stmt begin 0 rs → here ≡ begin + length (references_code p u e.entry.stmt begin 0 rs) → new ≡ middle ++ statement_code p u address here k e e.entry.stmt
      → new ≡ old ++ entry_code p u address k o
  entry_added address k begin here e o rs old middle new is listed begun first behind added =
      let s = e.entry.stmt in
      let front = references_code p u s (address k) 0 e.entry.refs in
      let mine : references_code p u s begin 0 rs ≡ front = λ i. references_code p u s (begun i) 0 (listed i) in
      let all = all_references e.entry (length e.entry.refs) (omega arith) in
      let same = references_same s (address k) 0 0 e.entry.refs in
      let long = ap length mine in
      let last : here ≡ address k + references_length p u e.entry (length e.entry.refs) = omega (arith, behind, begun, long, same, all) in
      added
      ∙ (λ i. (first ∙ ap (λ l. old ++ l) mine) i ++ statement_code p u address (last i) k e s)
      ∙ append_assoc old front (statement_code p u address (address k + references_length p u e.entry (length e.entry.refs)) k e s)
      ∙ ap (λ q. old ++ entry_code p u address k q) is

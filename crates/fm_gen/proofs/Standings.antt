-- What stands where in the code of a unit.
use Rattle.std.proofs.Common.{◌≡◌, ℕ, suc, ◌+◌, ◌<◌, ◌≤◌, Option, Some, None, List, [], ◌∷◌, ◌++◌, length, drop, take, sym, ap, subst, refl, ◌∙◌, arith, append_assoc, length-append}
use Rattle.std.specs.Prelude.{slice_get}
use Rattle.std.proofs.Math.Seq.{drop-append_seam}
use Rattle.std.proofs.lemmas.List.{append-nil}
use Rattle.std.proofs.lemmas.Option.{slice_get_within}
use Rattle.fm_rules.specs.Links.{links_of}
use Rattle.fm_tree.specs.References.{reference_at}
use Rattle.fm_tree.specs.declared.statement.Stmt.{Stmt}
use Rattle.fm_tree.specs.declared.statement.Stmt.TheVariants as stmt
use Rattle.fm_rules.specs.declared.program.Program.{Program}
use Rattle.fm_mean.specs.Names.{ProgramUnit, Point, point_at}
use Rattle.fm_code.specs.declared.instr.Instr.{Instr}
use Rattle.fm_code.specs.declared.instr.Instr.TheVariants as instr
use Rattle.fm_code.specs.declared.instr.Meet.TheVariants as meet
use Rattle.fm_gen.specs.Statements.{Addresses, reference_operands, statement_code}
use Rattle.fm_gen.specs.Entries.{reference_code, references_code, references_length, entry_code, entries_code, address_of, statement_in, statement_address, join_in, join_address, unit_code}
use Rattle.fm_gen.proofs.ReferenceLaws.{reference_long, references_same, references_at, references_next, all_references}
use Rattle.fm_gen.proofs.UnitLaws.{entry_there, entries_length, standing}

-- a part of code, and where it begins
pub record Standing (code : List Instr) (n : ℕ) (part : List Instr) : Type 0 where
  pub front : List Instr
  pub rest : List Instr
  pub is : code ≡ front ++ (part ++ rest)
  pub begins : n ≡ length front

dropped : (code : List Instr) (n : ℕ) (part : List Instr) → Standing code n part → (rest : List Instr) × (drop n code ≡ part ++ rest)
dropped code n part s = (s.rest, (λ i. drop (s.begins i) (s.is i)) ∙ drop-append_seam s.front (part ++ s.rest))

-- a part of a part
part_stands : (code : List Instr) (n m : ℕ) (a b c : List Instr) → Standing code n (a ++ (b ++ c)) → m ≡ n + length a → Standing code m b
part_stands code n m a b c s e = record {
  front = s.front ++ a;
  rest = c ++ s.rest;
  is =
      s.is
      ∙ ap (λ l. s.front ++ l) (append_assoc a (b ++ c) s.rest ∙ ap (λ l. a ++ l) (append_assoc b c s.rest))
      ∙ sym (append_assoc s.front a (b ++ (c ++ s.rest)));
  begins = let long = length-append s.front a in omega (arith, e, s.begins, long);
}

module _ (p : Program) (u : ProgramUnit) where
  first_in : (a : ℕ) (o : Option Point) → statement_in p u a o 0 ≡ a
  first_in a None = refl
  first_in a (Some e) = omega arith

  -- an entry begins with its first statement
  pub first_statement : (k : ℕ) → statement_address p u k 0 ≡ address_of p u k
  first_statement k = first_in (address_of p u k) (point_at u k)

  module _ (k : ℕ) (e : Point) (at : point_at u k ≡ Some e) where
    abbrev body : Stmt
    body = e.entry.stmt

    abbrev refs : List ℕ
    refs = e.entry.refs

    abbrev begin : Addresses
    begin = address_of p u

    abbrev before : (n : ℕ) → List Instr
    before n = references_code p u body (begin k) 0 (take n refs)

    abbrev last : ℕ
    last = begin k + references_length p u e.entry (length refs)

    abbrev statement : List Instr
    statement = statement_code p u begin last k e body

    pub within : k < length u.tree.body
    within = slice_get_within u.tree.body k e.entry (entry_there (slice_get u.tree.body k) (slice_get (links_of u.tree.body) k) e at)

    pub entry_stands : Standing (unit_code p u) (begin k) (entry_code p u begin k (Some e))
    entry_stands =
        let found = standing p u begin (length u.tree.body) k within in
        subst (λ o. Standing (unit_code p u) (begin k) (entry_code p u begin k o)) at
        (record { front = entries_code p u begin k; rest = found.0; is = found.1; begins = entries_length p u (λ j. 0) begin k })

    pub statement_at : (n : ℕ) → statement_address p u k n ≡ begin k + references_length p u e.entry n
    statement_at n = ap (λ o. statement_in p u (begin k) o n) at

    pub join_at : join_address p u k ≡ suc last
    join_at = ap (λ o. join_in p u (begin k) o) at

    -- the statement of a reference stands behind those before it
    pub reference_stands : (n r : ℕ) → slice_get refs n ≡ Some r
        → (rest : List Instr) × (drop (statement_address p u k n) (unit_code p u) ≡ reference_code p u body (statement_address p u k n) n r ++ rest)
    reference_stands n r is =
        let found = references_at p u body (begin k) 0 n refs r is in
        let same = references_same p u body (begin k) 0 0 (take n refs) in
        let place = statement_at n in
        let here : begin k + length (before n) ≡ statement_address p u k n = omega (arith, place, same) in
        let number : 0 + n ≡ n = omega arith in
        let one = reference_code p u body (begin k + length (before n)) (0 + n) r in
        let whole : entry_code p u begin k (Some e) ≡ before n ++ (reference_code p u body (statement_address p u k n) n r ++ (found.0 ++ statement)) =
        ap (λ l. l ++ statement) found.1
        ∙ append_assoc (before n) (one ++ found.0) statement
        ∙ ap (λ l. before n ++ l) (append_assoc one found.0 statement)
        ∙ (λ i. before n ++ (reference_code p u body (here i) (number i) r ++ (found.0 ++ statement))) in
        dropped (unit_code p u) (statement_address p u k n) (reference_code p u body (statement_address p u k n) n r)
        (part_stands (unit_code p u) (begin k) (statement_address p u k n) (before n) (reference_code p u body (statement_address p u k n) n r) (found.0 ++ statement)
        (subst (Standing (unit_code p u) (begin k)) whole entry_stands) (sym here))

    -- and the next one behind it
    pub reference_next : (n r : ℕ) → slice_get refs n ≡ Some r
        → statement_address p u k (suc n) ≡ statement_address p u k n + length (reference_code p u body (statement_address p u k n) n r)
    reference_next n r is =
        let here = statement_address p u k n in
        let number : 0 + n ≡ n = omega arith in
        let same : length (reference_code p u body here (0 + n) r) ≡ length (reference_code p u body here n r) = ap (λ m. length (reference_code p u body here m r)) number in
        let more = references_next p u body 0 here 0 n refs r is in
        omega (arith, same, more, statement_at n, statement_at (suc n))

    -- where a reference leads to
    pub reference_leads : (n r : ℕ) → slice_get refs n ≡ Some r
        → statement_address p u k n + suc (length (reference_operands p u n (reference_at body r))) ≡ statement_address p u k (suc n)
    reference_leads n r is =
        ap (λ m. statement_address p u k n + m) (sym (reference_long p u body (statement_address p u k n) n r)) ∙ sym (reference_next n r is)

    last_at : (n : ℕ) → length refs ≤ n → last ≡ statement_address p u k n
    last_at n le =
        let all = all_references p u e.entry n le in
        let some = all_references p u e.entry (length refs) (omega arith) in
        omega (arith, all, some, statement_at n)

    begins_last : last ≡ begin k + length (references_code p u body (begin k) 0 refs)
    begins_last =
        let all = all_references p u e.entry (length refs) (omega arith) in
        let same = references_same p u body (begin k) 0 0 refs in
        omega (arith, all, same)

    -- the statement stands behind all references
    pub statement_stands : (n : ℕ) → length refs ≤ n
        → (rest : List Instr) × (drop (statement_address p u k n) (unit_code p u) ≡ statement_code p u begin (statement_address p u k n) k e body ++ rest)
    statement_stands n le =
        let here = statement_address p u k n in
        let front = references_code p u body (begin k) 0 refs in
        let whole : entry_code p u begin k (Some e) ≡ front ++ (statement_code p u begin here k e body ++ []) =
        (λ i. front ++ statement_code p u begin (last_at n le i) k e body) ∙ ap (λ l. front ++ l) (sym (append-nil (statement_code p u begin here k e body))) in
        dropped (unit_code p u) here (statement_code p u begin here k e body)
        (part_stands (unit_code p u) (begin k) here front (statement_code p u begin here k e body) []
        (subst (Standing (unit_code p u) (begin k)) whole entry_stands) (sym (last_at n le) ∙ begins_last))

    -- the join of a block stands behind its begin
    pub join_stands : body ≡ stmt.EndProcesses
        → (rest : List Instr) × (drop (join_address p u k) (unit_code p u) ≡ instr.Meet (meet.Join (begin e.entry.after)) ∷ rest)
    join_stands is =
        let front = references_code p u body (begin k) 0 refs in
        let first = instr.Meet (meet.Begin (suc last)) ∷ [] in
        let join = instr.Meet (meet.Join (begin e.entry.after)) ∷ [] in
        let whole : entry_code p u begin k (Some e) ≡ (front ++ first) ++ (join ++ []) =
        ap (λ s. front ++ statement_code p u begin last k e s) is ∙ sym (append_assoc front first join) in
        let long = length-append front first in
        let place : join_address p u k ≡ begin k + length (front ++ first) = omega (arith, join_at, begins_last, long) in
        dropped (unit_code p u) (join_address p u k) join
        (part_stands (unit_code p u) (begin k) (join_address p u k) (front ++ first) join [] (subst (Standing (unit_code p u) (begin k)) whole entry_stands) place)

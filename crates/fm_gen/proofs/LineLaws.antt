-- Entries begin one behind the other, and the line of each stands at its address.
use Rattle.std.proofs.Common.{◌≡◌, ℕ, zero, suc, ◌+◌, ◌<◌, ◌≤◌, Bool, true, false, cond, Option, Some, None, List, [], ◌∷◌, length, refl, ap, ◌∙◌, arith, length-append, reverse, ⊎_elim}
use Rattle.std.specs.Prelude.{slice_get, nat_le}
use Rattle.std.specs.List.{find}
use Rattle.std.specs.Option.{option_or}
use Rattle.std.proofs.lemmas.Bool.{le-leb, lt-leb, cases_lt}
use Rattle.std.proofs.lemmas.List.{reverse-append}
use Rattle.std.proofs.lemmas.List.Folds.{find-append}
use Rattle.fm_rules.specs.Links.{links_of}
use Rattle.fm_tree.specs.declared.program_unit.Entry as tree
use Rattle.fm_tree.specs.declared.statement.Stmt.TheVariants as stmt
use Rattle.fm_rules.specs.declared.program.Program.{Program}
use Rattle.fm_mean.specs.Names.{ProgramUnit, Point, point_at, line_of}
use Rattle.fm_code.specs.declared.code.Entry.{Entry}
use Rattle.fm_code.specs.declared.instr.Instr.{Instr}
use Rattle.fm_code.specs.Statements.{line_in, line_at}
use Rattle.fm_gen.specs.Statements.{Addresses, statement_code}
use Rattle.fm_gen.specs.Entries.{references_code, references_length, entry_code, entries_code, address_of, statement_address, join_address}
use Rattle.fm_gen.specs.Units.{entries_at, TellsLines, AddressesRise}
use Rattle.fm_gen.proofs.Ends.{IsEnded}
use Rattle.fm_gen.proofs.ReferenceLaws.{all_references, references_front}
use Rattle.fm_gen.proofs.Standings.{join_at, statement_at}
use Rattle.fm_gen.proofs.UnitLaws.{entry_there, statement_ended}

-- Addresses.

not_empty : (code : List Instr) → IsEnded code → 0 < length code
not_empty code h = let long : length code ≡ length h.before + 1 = ap length h.is ∙ length-append h.before (h.last ∷ []) in omega (arith, long)

module _ (p : Program) (u : ProgramUnit) where
  abbrev code_at : ℕ → List Instr
  code_at k = entry_code p u (λ j. 0) k (point_at u k)

  next_address : (k : ℕ) → address_of p u (suc k) ≡ address_of p u k + length (code_at k)
  next_address k = length-append (entries_code p u (λ j. 0) k) (code_at k)

  later : (k n : ℕ) → k ≤ n → address_of p u k ≤ address_of p u n
  later k zero le = let same : k ≡ 0 = omega (arith, le) in let here : address_of p u k ≡ address_of p u 0 = ap (address_of p u) same in omega (arith, here)
  later k (suc n) le = ⊎_elim
      (λ (l : k < suc n). omega (arith, later k n (omega (arith, l)), next_address n))
      (λ (l : suc n ≤ k).
      let same : k ≡ suc n = omega (arith, l, le) in
      let here : address_of p u k ≡ address_of p u (suc n) = ap (address_of p u) same in
      omega (arith, here))
      (cases_lt k (suc n))

  module _ (k : ℕ) (e : Point) (at : point_at u k ≡ Some e) where
    abbrev last : ℕ
    last = 0 + references_length p u e.entry (length e.entry.refs)

    abbrev references : List Instr
    references = references_code p u e.entry.stmt 0 0 e.entry.refs

    -- the next entry begins behind the references and the statement
    entry_long : address_of p u (suc k) ≡ address_of p u k + (length references + length (statement_code p u (λ j. 0) last k e e.entry.stmt))
    entry_long =
        next_address k
        ∙ ap (λ o. address_of p u k + length (entry_code p u (λ j. 0) k o)) at
        ∙ ap (λ n. address_of p u k + n) (length-append references (statement_code p u (λ j. 0) last k e e.entry.stmt))

    statement_within : (n : ℕ) → statement_address p u k n < address_of p u (suc k)
    statement_within n =
        let has = not_empty (statement_code p u (λ j. 0) last k e e.entry.stmt) (statement_ended p u (λ j. 0) e last k e.entry.stmt) in
        let front = references_front p u e.entry.stmt 0 0 n e.entry.refs in
        omega (arith, has, front, entry_long, statement_at p u k e at n)

    join_within : e.entry.stmt ≡ stmt.EndProcesses → join_address p u k < address_of p u (suc k)
    join_within is =
        let two : length (statement_code p u (λ j. 0) last k e e.entry.stmt) ≡ 2 = ap (λ s. length (statement_code p u (λ j. 0) last k e s)) is in
        let all = all_references p u e.entry (length e.entry.refs) (omega arith) in
        omega (arith, two, all, entry_long, join_at p u k e at)

    behind_entry : (n : ℕ) → k < n → address_of p u k < address_of p u n
    behind_entry n less =
        let more = statement_within 0 in
        let from = later (suc k) n (omega (arith, less)) in
        omega (arith, more, from, statement_at p u k e at 0)

  pub addresses_rise : AddressesRise p u
  addresses_rise = record { first = refl; rise = λ k n e at. behind_entry k e at n }

-- Lines.

module _ (address : Addresses) (a : ℕ) where
  abbrev begun : Entry → Bool
  begun e = nat_le e.address a

  abbrev told : ℕ → tree.Entry → Entry
  told k e = record { line = e.line; address = address k }

  -- the last entry of all counts first
  found_in : (k : ℕ) (e : tree.Entry) (es : List tree.Entry)
      → find begun (reverse (entries_at address k (e ∷ es))) ≡ option_or (find begun (reverse (entries_at address (suc k) es))) (find begun (told k e ∷ []))
  found_in k e es =
      ap (find begun) (reverse-append (told k e ∷ []) (entries_at address (suc k) es))
      ∙ find-append begun (reverse (entries_at address (suc k) es)) (told k e ∷ [])

  found_one : (k : ℕ) (e : tree.Entry) (b : Bool) → nat_le (address k) a ≡ b → find begun (told k e ∷ []) ≡ cond b (Some (told k e)) None
  found_one k e b is = ap (λ c. cond c (Some (told k e)) None) is

  none_begun : (k : ℕ) (es : List tree.Entry) → ((n : ℕ) → k ≤ n → a < address n) → find begun (reverse (entries_at address k es)) ≡ None
  none_begun k [] h = refl
  none_begun k (e ∷ es) h =
      found_in k e es
      ∙ (λ i. option_or (none_begun (suc k) es (λ n l. h n (omega (arith, l))) i) (found_one k e false (lt-leb (address k) a (h k (omega arith))) i))

  one_begun : (k d n : ℕ) (es : List tree.Entry) (e : tree.Entry) → slice_get es d ≡ Some e → n ≡ k + d → address n ≤ a → ((j : ℕ) → n < j → a < address j)
      → find begun (reverse (entries_at address k es)) ≡ Some (told n e)
  one_begun k d n [] e at is here h = absurd (cc)
  one_begun k zero n (x ∷ es) e at is here h =
      let same : k ≡ n = omega (arith, is) in
      let begin : address k ≡ address n = ap address same in
      let below : address k ≤ a = omega (arith, here, begin) in
      found_in k x es
      ∙ (λ i. option_or (none_begun (suc k) es (λ j l. h j (omega (arith, l, is))) i) (found_one k x true (le-leb (address k) a below) i))
      ∙ (λ i. option_map_told (same i) (at i))
    where
      option_map_told : ℕ → Option tree.Entry → Option Entry
      option_map_told j None = None
      option_map_told j (Some y) = Some (told j y)
  one_begun k (suc d) n (x ∷ es) e at is here h =
      found_in k x es
      ∙ ap (λ o. option_or o (find begun (told k x ∷ []))) (one_begun (suc k) d n es e at (omega (arith, is)) here h)

module _ (p : Program) (u : ProgramUnit) where
  -- all addresses of an entry are told its line
  line_within : (k a : ℕ) (e : Point) → point_at u k ≡ Some e → address_of p u k ≤ a → a < address_of p u (suc k) → line_at (entries_at (address_of p u) 0 u.tree.body) a ≡ line_of e
  line_within k a e at from to =
      ap line_in (one_begun (address_of p u) a 0 k k u.tree.body e.entry (entry_there (slice_get u.tree.body k) (slice_get (links_of u.tree.body) k) e at) (omega arith) from
      (λ n l. let more = later p u (suc k) n (omega (arith, l)) in omega (arith, to, more)))

  pub tells_lines : TellsLines p u (entries_at (address_of p u) 0 u.tree.body)
  tells_lines = record {
    statements = λ k e at n. line_within k (statement_address p u k n) e at (omega (arith, statement_at p u k e at n)) (statement_within p u k e at n);
    joins = λ k e at is. line_within k (join_address p u k) e at (omega (arith, join_at p u k e at)) (join_within p u k e at is);
  }

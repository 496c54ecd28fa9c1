-- The instructions of entries, those of their references first, and where they begin.
-- Source: this profile.
use Rattle.std.specs.Prelude.{ℕ, zero, suc, ◌+◌, Option, Some, None, List, [], ◌∷◌, ◌++◌, length, take}
use Rattle.fm_tree.specs.References.{reference_at}
use Rattle.fm_tree.specs.declared.program_unit.Entry.{Entry}
use Rattle.fm_tree.specs.declared.statement.Stmt.{Stmt}
use Rattle.fm_rules.specs.declared.program.Program.{Program}
use Rattle.fm_mean.specs.Names.{ProgramUnit, Point, point_at}
use Rattle.fm_code.specs.declared.instr.Instr.{Instr}
use Rattle.fm_gen.specs.Statements.{Addresses, statement_code, reference_operands, reference_end}

-- References.

-- one of the statement's references is a statement of its own, which begins here
abbrev pub reference_code : Program → ProgramUnit → Stmt → (here number place : ℕ) → List Instr
reference_code p u s here j r =
    let operands = reference_operands p u j (reference_at s r) in
    operands ++ reference_end p u (reference_at s r) (here + suc (length operands)) ∷ []

-- those of these places, the first of which has this number
abbrev pub references_code : Program → ProgramUnit → Stmt → (here number : ℕ) → (places : List ℕ) → List Instr
references_code p u s here j [] = []
references_code p u s here j (r ∷ rs) = reference_code p u s here j r ++ references_code p u s (here + length (reference_code p u s here j r)) (suc j) rs

-- Units.

-- how far the statement behind so many of an entry's references lies behind the first one
abbrev pub references_length : Program → ProgramUnit → Entry → (done : ℕ) → ℕ
references_length p u e n = length (references_code p u e.stmt 0 0 (take n e.refs))

-- the references of an entry come first, and then its statement
abbrev pub entry_code : Program → ProgramUnit → Addresses → (number : ℕ) → Option Point → List Instr
entry_code p u address k None = []
entry_code p u address k (Some e) =
    references_code p u e.entry.stmt (address k) 0 e.entry.refs
    ++ statement_code p u address (address k + references_length p u e.entry (length e.entry.refs)) k e e.entry.stmt

-- of so many entries
abbrev pub entries_code : Program → ProgramUnit → Addresses → ℕ → List Instr
entries_code p u address zero = []
entries_code p u address (suc k) = entries_code p u address k ++ entry_code p u address k (point_at u k)

-- an entry begins behind the instructions of those before it; how many they are doesn't depend on where entries begin
abbrev pub address_of : Program → ProgramUnit → Addresses
address_of p u k = length (entries_code p u (λ j. 0) k)

-- where the statement begins that comes when so many references of the entry are done
abbrev pub statement_in : Program → ProgramUnit → (begin : ℕ) → Option Point → (done : ℕ) → ℕ
statement_in p u a None n = a
statement_in p u a (Some e) n = a + references_length p u e.entry n

abbrev pub statement_address : Program → ProgramUnit → (entry done : ℕ) → ℕ
statement_address p u k n = statement_in p u (address_of p u k) (point_at u k) n

-- where the join of a block begins that ends with this entry
abbrev pub join_in : Program → ProgramUnit → (begin : ℕ) → Option Point → ℕ
join_in p u a None = a
join_in p u a (Some e) = suc (a + references_length p u e.entry (length e.entry.refs))

abbrev pub join_address : Program → ProgramUnit → (entry : ℕ) → ℕ
join_address p u k = join_in p u (address_of p u k) (point_at u k)

abbrev pub unit_code : Program → ProgramUnit → List Instr
unit_code p u = entries_code p u (address_of p u) (length u.tree.body)

-- where each of so many entries begins
abbrev pub starts_of : Program → ProgramUnit → Addresses → ℕ → List ℕ
starts_of p u address zero = []
starts_of p u address (suc k) = starts_of p u address k ++ length (entries_code p u address k) ∷ []

-- What code tells of a unit besides its instructions: where its statements begin, and what is in the words of its frame.
-- Source: this profile.
use Rattle.std.specs.Prelude.{◌≡◌, ◌<◌, ℕ, suc, Some, List, [], ◌∷◌, length}
use Rattle.fm_tree.specs.declared.program_unit.Entry as tree
use Rattle.fm_tree.specs.declared.statement.Stmt.TheVariants as stmt
use Rattle.fm_rules.specs.declared.program.Program.{Program}
use Rattle.fm_mean.specs.Names.{ProgramUnit, Point, point_at, line_of}
use Rattle.fm_code.specs.declared.code.Entry.{Entry}
use Rattle.fm_code.specs.declared.code.Unit as code
use Rattle.fm_code.specs.Statements.{line_at}
use Rattle.fm_gen.specs.Statements.{Addresses}
use Rattle.fm_gen.specs.Entries.{address_of, join_address, statement_address, unit_code}
use Rattle.fm_gen_relation.specs.Frames.{loop_number}
use Rattle.fm_gen_relation.specs.Formals.{ports_of, formals_of}

-- the lines of entries and where they begin; the first one has this number
abbrev pub entries_at : Addresses → (number : ℕ) → List tree.Entry → List Entry
entries_at address k [] = []
entries_at address k (e ∷ es) = record { line = e.line; address = address k } ∷ entries_at address (suc k) es

-- how many counted loops a unit has
abbrev pub loop_count : List tree.Entry → ℕ
loop_count body = loop_number body (length body)

-- the code of a unit
abbrev pub unit_of_code : Program → ProgramUnit → code.Unit
unit_of_code p u = record {
  code = unit_code p u;
  entries = entries_at (address_of p u) 0 u.tree.body;
  words = u.names.words;
  ports = ports_of u.names.variables;
  formals = formals_of u.names.variables;
  loops = loop_count u.tree.body;
  extents = u.names.extents;
}

-- at the address of each statement stands the line of its entry, at that of a join the line of the block's end
pub record TellsLines (p : Program) (u : ProgramUnit) (entries : List Entry) : Type 0 where
  pub statements : (k : ℕ) (e : Point) → point_at u k ≡ Some e → (n : ℕ) → line_at entries (statement_address p u k n) ≡ line_of e
  pub joins : (k : ℕ) (e : Point) → point_at u k ≡ Some e → e.entry.stmt ≡ stmt.EndProcesses → line_at entries (join_address p u k) ≡ line_of e

-- the first entry begins at 0, and each one behind the entries before it
pub record AddressesRise (p : Program) (u : ProgramUnit) : Type 0 where
  pub first : address_of p u 0 ≡ 0
  pub rise : (k n : ℕ) (e : Point) → point_at u k ≡ Some e → k < n → address_of p u k < address_of p u n

-- What the entries of a body are made of: one statement, or two of a logical IF.
-- Source: this profile; ANSI X3.9-1978, section 11.5, for the logical IF.
use Rattle.std.specs.Prelude.{Bool, true, false, if◌then◌else◌, Option, Some, None, List, [], ◌∷◌}
use Rattle.std.specs.List.{flat_map}
use Rattle.fm_tree.specs.declared.program_unit.Placed.{Placed}
use Rattle.fm_tree.specs.declared.statement.Simple.TheVariants as simple
use Rattle.fm_tree.specs.declared.statement.Stmt.{Stmt}
use Rattle.fm_tree.specs.declared.statement.Stmt.TheVariants as stmt
use Rattle.fm_tree.specs.declared.form.Form.{Form}
use Rattle.fm_tree.specs.declared.form.Form.TheVariants as form
use Rattle.fm_tree.specs.Structure.{form_of, is_executable}
use Rattle.fm_tree.specs.Units.{before_body}

unfoldable pub pieces_of : Stmt → List Stmt
pieces_of (stmt.LogicalIf e s) = stmt.LogicalIf e simple.Continue ∷ stmt.Simple s ∷ []
pieces_of stmt.LoopEnd = []
pieces_of s = s ∷ []

abbrev pub pieces_in : List Placed → List Stmt
pieces_in ps = flat_map (λ p. pieces_of p.stmt) ps

-- the statements from the first executable one on
abbrev pub body_in : List Placed → List Placed
body_in [] = []
body_in (p ∷ ps) = if is_executable (form_of p.stmt) then p ∷ ps else body_in ps

-- the same of what is left, where the first executable statement has come, or not
abbrev pub before_left : Bool → List Placed → List Placed
before_left true ps = []
before_left false ps = before_body ps

abbrev pub body_left : Bool → List Placed → List Placed
body_left true ps = ps
body_left false ps = body_in ps

-- the statement of an entry that is no statement of the source
unfoldable pub made : Form → Option Stmt
made form.Wrap = Some stmt.Processes
made form.EndWrap = Some stmt.EndProcesses
made (form.LoopEnd t) = Some stmt.LoopEnd
made f = None

-- the statement of the next entry, and what is left for the others
abbrev pub piece : Option Stmt → List Stmt → Stmt
piece (Some s) ss = s
piece None [] = stmt.LoopEnd
piece None (s ∷ ss) = s

abbrev pub pieces_left : Option Stmt → List Stmt → List Stmt
pieces_left (Some s) ss = ss
pieces_left None [] = []
pieces_left None (s ∷ ss) = ss

-- The parts of specification statements.
-- Source: ANSI X3.9-1978, sections 8.1 (DIMENSION), 8.4 (type statements), 8.5 (IMPLICIT) and 8.6 (PARAMETER); the Fortran M
-- report for ports and PROCESSORS.
use Rattle.std.specs.Prelude.{Bool, true, false, Option, Some, None, List, []}
use Rattle.fm_tree.specs.PortFields.{PortFields}
use Rattle.fm_tree.specs.Tree.{Tree}
use Rattle.fm_tree.specs.declared.statement.Decl.{Decl}
use Rattle.fm_tree.specs.declared.statement.Defined.{Defined}
use Rattle.fm_tree.specs.declared.statement.Stmt.{Stmt}
use Rattle.fm_tree.specs.declared.statement.Stmt.TheVariants as stmt
use Rattle.fm_symbols.specs.declared.symbol.Scalar.{Scalar}
use Rattle.fm_symbols.specs.declared.symbol.Scalar.TheVariants.{Integer, Logical}

-- the names that a statement declares, with the bounds behind them
unfoldable pub decls_of : Stmt → List Decl
decls_of (stmt.Integer decls) = decls
decls_of (stmt.Logical decls) = decls
decls_of (stmt.Dimension decls) = decls
decls_of (stmt.Inport p decls) = decls
decls_of (stmt.Outport p decls) = decls
decls_of s = []

-- the type of values that it gives them
unfoldable pub scalar_in : Stmt → Option Scalar
scalar_in (stmt.Integer decls) = Some Integer
scalar_in (stmt.Logical decls) = Some Logical
scalar_in s = None

-- the type of messages that it gives them
unfoldable pub port_type_in : Stmt → Option PortFields
port_type_in (stmt.Inport p decls) = Some p
port_type_in (stmt.Outport p decls) = Some p
port_type_in s = None

-- the constants that it defines
unfoldable pub definitions_in : Stmt → List Defined
definitions_in (stmt.Parameter definitions) = definitions
definitions_in s = []

-- the extents of the machine
unfoldable pub machine_in : Stmt → List Tree
machine_in (stmt.Processors extents) = extents
machine_in s = []

unfoldable pub is_implicit_none : Stmt → Bool
is_implicit_none stmt.ImplicitNone = true
is_implicit_none s = false

use Rattle.fm_stmt_parts.proofs.Exact.{exact_name, exact_label, exact_constant, exact_expr}
use Rattle.fm_stmt_parts.proofs.ExactParts.{exact_var, exact_bound, exact_decl, exact_array, exact_defined, exact_way, exact_loop, exact_item, exact_unit, exact_port, exact_extra, exact_extras, exact_call_part}
use Rattle.fm_stmt_parts.proofs.ExactFields.{exact_port_type}
use Rattle.fm_stmt_parts.proofs.parts_are_exact.Goals as goal

pub returns-clause-names : goal.returns-clause-names
returns-clause-names c = exact_name

pub returns-clause-labels : goal.returns-clause-labels
returns-clause-labels c = exact_label

pub returns-clause-constants : goal.returns-clause-constants
returns-clause-constants c = exact_constant

pub returns-clause-expressions : goal.returns-clause-expressions
returns-clause-expressions c = exact_expr

pub returns-clause-variables : goal.returns-clause-variables
returns-clause-variables c = exact_var

pub returns-clause-bounds : goal.returns-clause-bounds
returns-clause-bounds c = exact_bound

pub returns-clause-declarations : goal.returns-clause-declarations
returns-clause-declarations c = exact_decl

pub returns-clause-arrays : goal.returns-clause-arrays
returns-clause-arrays c = exact_array

pub returns-clause-definitions : goal.returns-clause-definitions
returns-clause-definitions c = exact_defined

pub returns-clause-ways : goal.returns-clause-ways
returns-clause-ways c = exact_way

pub returns-clause-loops : goal.returns-clause-loops
returns-clause-loops c = exact_loop

pub returns-clause-items : goal.returns-clause-items
returns-clause-items c = exact_item

pub returns-clause-units : goal.returns-clause-units
returns-clause-units c = exact_unit

pub returns-clause-ports : goal.returns-clause-ports
returns-clause-ports c = exact_port

pub returns-clause-extra : goal.returns-clause-extra
returns-clause-extra c = exact_extra

pub returns-clause-extras : goal.returns-clause-extras
returns-clause-extras c = exact_extras

pub returns-clause-calls : goal.returns-clause-calls
returns-clause-calls c = exact_call_part

pub returns-clause-port_types : goal.returns-clause-port_types
returns-clause-port_types c = exact_port_type

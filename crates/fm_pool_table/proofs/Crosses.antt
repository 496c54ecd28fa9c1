-- A table may go to another thread, and so may its pieces.
--     program_send, program_sync      a program may go, and be shared by threads: each part of it, from expressions up
--     path_send, path_sync            a path may, as a link of its chain may
--     channels_send, code_procs_send  what stands in channels may go, and the processes of code
--     table_send, piece_send          so a table may, and a piece of it
-- Each lemma finds those of its parts in its set: a search through all parts at once would be too long, and a type that holds itself has no such lemma made for it, but its knot.
use denote.RattleType.{RattleType}
use denote.Struct.Field.{Field}
use mathlib.Core.List.{List, [], ◌∷◌}
use Prim.Native.Nat.{ℕ, zero, suc}
use denote.Param.Send.{IsSend, IsSync, sendable, view_send}
use denote.Param.SendFields.{as_row_send, as_row_sync, declared_send, declared_sync, variants_send, variants_sync, VariantsHave}
use Rattle.std.proofs.Crossing.{crosses}
use Rattle.std_collections.proofs.btree_set.BTreeSet.TheSendSync as set
use Rattle.fm_base.proofs.chain.Link.TheLaws.TheKnot as link
use Rattle.fm_base.proofs.name.Label.TheSendSync as label
use Rattle.fm_base.proofs.name.Line.TheSendSync as line
use Rattle.fm_base.proofs.name.Name.TheSendSync as name
use Rattle.fm_base.proofs.schedule.Setup.TheSendSync as setup
use Rattle.fm_base.proofs.seq.Seq.TheSendSync as seq
use Rattle.fm_base.proofs.token.Op.TheSendSync as op
use Rattle.fm_base.specs.contracts.path.ChanName as channel_name
use Rattle.fm_base.specs.contracts.path.Path as path
use Rattle.fm_base.specs.contracts.port.PortValue as port_value
use Rattle.fm_finmap.proofs.map.Map.TheSendSync as map
use Rattle.fm_symbols.proofs.context.Context.TheSendSync as context
use Rattle.fm_symbols.proofs.names.Constant.TheSendSync as constant
use Rattle.fm_symbols.specs.contracts.names.Names as names
use Rattle.fm_symbols.specs.contracts.names.UnitNames as unit_names
use Rattle.fm_symbols.specs.contracts.names.Variable as known_variable
use Rattle.fm_tree.proofs.expression.Expr.TheLaws.TheKnot as expressions
use Rattle.fm_tree.proofs.port_type.PortType.TheLaws.TheKnot as types
use Rattle.fm_tree.specs.contracts.expression.Expr as expr
use Rattle.fm_tree.specs.contracts.port_type.Bound as bound
use Rattle.fm_tree.specs.contracts.port_type.Kind as kind
use Rattle.fm_tree.specs.contracts.port_type.PortType as port_type
use Rattle.fm_tree.specs.contracts.program_unit.Entry as entry
use Rattle.fm_tree.specs.contracts.program_unit.Placed as placed
use Rattle.fm_tree.specs.contracts.program_unit.Unit as unit
use Rattle.fm_tree.specs.contracts.program_unit.Units as units
use Rattle.fm_tree.specs.contracts.statement.CallPart as call_part
use Rattle.fm_tree.specs.contracts.statement.Decl as decl
use Rattle.fm_tree.specs.contracts.statement.Defined as defined
use Rattle.fm_tree.specs.contracts.statement.Extra as extra
use Rattle.fm_tree.specs.contracts.statement.Item as item
use Rattle.fm_tree.specs.contracts.statement.LoopHead as loop_head
use Rattle.fm_tree.specs.contracts.statement.Simple as simple
use Rattle.fm_tree.specs.contracts.statement.Stmt as statement
use Rattle.fm_tree.specs.contracts.statement.Var as variable
use Rattle.fm_tree.specs.contracts.statement.Where as place
use Rattle.fm_rules.proofs.entry_links.EntryLinks.TheSendSync as links
use Rattle.fm_rules.specs.contracts.program.Program as program
use Rattle.fm_chan.proofs.discarding.Chain.TheLaws.TheKnot as rests
use Rattle.fm_chan.specs.contracts.body.Body as channel
use Rattle.fm_chan.specs.contracts.body.Inport as inport
use Rattle.fm_chan.specs.contracts.channels.Channels as channels
use Rattle.fm_chan.specs.contracts.discarding.Chain as chain
use Rattle.fm_chan.specs.contracts.discarding.Rest as rest
use Rattle.fm_chan.specs.contracts.message.Content as content
use Rattle.fm_chan.specs.contracts.message.Item as message_item
use Rattle.fm_chan.specs.contracts.message.Message as message
use Rattle.fm_chan.specs.contracts.message.Message.TheInside as inside_message
use Rattle.fm_chan.specs.contracts.port.Port as port
use Rattle.fm_chan.specs.contracts.port.Port.TheInside as inside_port
use Rattle.fm_code.proofs.body.Body.TheSendSync as body
use Rattle.fm_code.proofs.rare.Rare.TheSendSync as rare
use Rattle.fm_machine_calls.proofs.looking.Look.TheSendSync as look
use Rattle.fm_machine_calls.specs.contracts.looking.Look as looked
use Rattle.fm_machine_instr.proofs.work.Work.TheSendSync as work
use Rattle.fm_machine_instr.specs.contracts.work.Work as worked
use Rattle.fm_proc_slots.specs.contracts.slots.Slots as slots
use Rattle.fm_proc_events.proofs.process.Phase.TheSendSync as phase
use Rattle.fm_proc_events.specs.contracts.process.Process as process
use Rattle.fm_net_procs.specs.contracts.entries.Entries as entries
use Rattle.fm_net_procs.specs.contracts.entries.Entry as kept
use Rattle.fm_net_procs.specs.contracts.processes.Processes as processes
use Rattle.fm_procs.specs.contracts.process.CodeProcess as code_process
use Rattle.fm_run.proofs.history.History.TheSendSync as history
use Rattle.fm_run_code.specs.contracts.net.CodeNet as net
use Rattle.fm_table.proofs.outside.Taken.TheSendSync as taken
use Rattle.fm_table.proofs.shares.Shares.TheSendSync as shares
use Rattle.fm_table.specs.contracts.piece.Piece as piece
use Rattle.fm_table.specs.contracts.programs.Programs as programs
use Rattle.fm_table.specs.contracts.standing.Standing as standing
use Rattle.fm_table.specs.contracts.table.Table as table
use Rattle.fm_table.specs.contracts.table.Table.TheInside as inside_table

-- what all parts have in common
ruleset may_send = (sendable, crosses, as_row_send, seq.the_send, name.the_send, label.the_send, line.the_send, constant.the_send, links.the_send, context.the_send)

ruleset may_sync = (sendable, crosses, as_row_sync, seq.the_sync, name.the_sync, label.the_sync, line.the_sync, constant.the_sync, links.the_sync, context.the_sync)

-- a law of the first variants, and of those behind them
abbrev first : ℕ → List (List Field) → List (List Field)
first zero Fss = []
first (suc n) [] = []
first (suc n) (Fs ∷ Fss) = Fs ∷ first n Fss

abbrev behind : ℕ → List (List Field) → List (List Field)
behind zero Fss = Fss
behind (suc n) [] = []
behind (suc n) (Fs ∷ Fss) = behind n Fss

joined : (H : RattleType → Type 0) (n : ℕ) (Fss : List (List Field)) → VariantsHave H (first n Fss) → VariantsHave H (behind n Fss) → VariantsHave H Fss
joined H zero Fss a b = b
joined H (suc n) [] a b = tt
joined H (suc n) (Fs ∷ Fss) a b = (a.0, joined H n Fss a.1 b)

-- ---- programs

expr_send : IsSend expr.the_row
expr_send = search (expressions.send-Expr, may_send, op.the_send) depth 20

expr_sync : IsSync expr.the_row
expr_sync = search (expressions.sync-Expr, may_sync, op.the_sync) depth 20

bound_send : IsSend bound.the_row
bound_send = search (may_send, expr_send) depth 20

bound_sync : IsSync bound.the_row
bound_sync = search (may_sync, expr_sync) depth 20

port_type_send : IsSend port_type.the_row
port_type_send = search (types.both_send-PortType, may_send, may_sync, bound_send, bound_sync) depth 20

port_type_sync : IsSync port_type.the_row
port_type_sync = search (types.both_sync-PortType, may_send, may_sync, bound_send, bound_sync) depth 20

variable_send : IsSend variable.the_row
variable_send = search (may_send, expr_send) depth 20

variable_sync : IsSync variable.the_row
variable_sync = search (may_sync, expr_sync) depth 20

decl_send : IsSend decl.the_row
decl_send = search (may_send, bound_send) depth 20

decl_sync : IsSync decl.the_row
decl_sync = search (may_sync, bound_sync) depth 20

defined_send : IsSend defined.the_row
defined_send = search (may_send, expr_send) depth 20

defined_sync : IsSync defined.the_row
defined_sync = search (may_sync, expr_sync) depth 20

loop_head_send : IsSend loop_head.the_row
loop_head_send = search (may_send, expr_send) depth 20

loop_head_sync : IsSync loop_head.the_row
loop_head_sync = search (may_sync, expr_sync) depth 20

item_send : IsSend item.the_row
item_send = search (may_send, expr_send) depth 20

item_sync : IsSync item.the_row
item_sync = search (may_sync, expr_sync) depth 20

extra_send : IsSend extra.the_row
extra_send = variants_send extra.enum (search (may_send, expr_send) depth 12)

extra_sync : IsSync extra.the_row
extra_sync = variants_sync extra.enum (search (may_sync, expr_sync) depth 12)

place_send : IsSend place.the_row
place_send = search (may_send, expr_send) depth 20

place_sync : IsSync place.the_row
place_sync = search (may_sync, expr_sync) depth 20

call_part_send : IsSend call_part.the_row
call_part_send = search (may_send, expr_send, place_send) depth 20

call_part_sync : IsSync call_part.the_row
call_part_sync = search (may_sync, expr_sync, place_sync) depth 20

ruleset in_simple_send = (may_send, expr_send, variable_send, item_send, extra_send)

simple_send : IsSend simple.the_row
simple_send = variants_send simple.enum (search in_simple_send depth 12)

ruleset in_simple_sync = (may_sync, expr_sync, variable_sync, item_sync, extra_sync)

simple_sync : IsSync simple.the_row
simple_sync = variants_sync simple.enum (search in_simple_sync depth 12)

ruleset in_statement_send = (may_send, expr_send, port_type_send, decl_send, defined_send, loop_head_send, call_part_send, simple_send)

statement_send : IsSend statement.the_row
statement_send = variants_send statement.enum (joined IsSend 6 statement.enum.parts (search in_statement_send depth 12) (joined IsSend 6 (behind 6 statement.enum.parts) (search in_statement_send depth 12) (joined IsSend 6 (behind 12 statement.enum.parts) (search in_statement_send depth 12) (joined IsSend 6 (behind 18 statement.enum.parts) (search in_statement_send depth 12) (search in_statement_send depth 12)))))

ruleset in_statement_sync = (may_sync, expr_sync, port_type_sync, decl_sync, defined_sync, loop_head_sync, call_part_sync, simple_sync)

statement_sync : IsSync statement.the_row
statement_sync = variants_sync statement.enum (joined IsSync 6 statement.enum.parts (search in_statement_sync depth 12) (joined IsSync 6 (behind 6 statement.enum.parts) (search in_statement_sync depth 12) (joined IsSync 6 (behind 12 statement.enum.parts) (search in_statement_sync depth 12) (joined IsSync 6 (behind 18 statement.enum.parts) (search in_statement_sync depth 12) (search in_statement_sync depth 12)))))

placed_send : IsSend placed.the_row
placed_send = declared_send placed.the_type (search (may_send, statement_send) depth 12)

placed_sync : IsSync placed.the_row
placed_sync = declared_sync placed.the_type (search (may_sync, statement_sync) depth 12)

entry_send : IsSend entry.the_row
entry_send = declared_send entry.the_type (search (may_send, statement_send) depth 12)

entry_sync : IsSync entry.the_row
entry_sync = declared_sync entry.the_type (search (may_sync, statement_sync) depth 12)

unit_send : IsSend unit.the_row
unit_send = declared_send unit.the_type (search (may_send, placed_send, entry_send) depth 12)

unit_sync : IsSync unit.the_row
unit_sync = declared_sync unit.the_type (search (may_sync, placed_sync, entry_sync) depth 12)

units_send : IsSend units.the_row
units_send = declared_send units.the_type (search (may_send, unit_send) depth 12)

units_sync : IsSync units.the_row
units_sync = declared_sync units.the_type (search (may_sync, unit_sync) depth 12)

kind_send : IsSend kind.the_row
kind_send = variants_send kind.enum (search (may_send, port_type_send) depth 12)

kind_sync : IsSync kind.the_row
kind_sync = variants_sync kind.enum (search (may_sync, port_type_sync) depth 12)

known_variable_send : IsSend known_variable.the_row
known_variable_send = declared_send known_variable.the_type (search (may_send, kind_send) depth 12)

known_variable_sync : IsSync known_variable.the_row
known_variable_sync = declared_sync known_variable.the_type (search (may_sync, kind_sync) depth 12)

unit_names_send : IsSend unit_names.the_row
unit_names_send = declared_send unit_names.the_type (search (may_send, known_variable_send) depth 12)

unit_names_sync : IsSync unit_names.the_row
unit_names_sync = declared_sync unit_names.the_type (search (may_sync, known_variable_sync) depth 12)

names_send : IsSend names.the_row
names_send = declared_send names.the_type (search (may_send, unit_names_send) depth 12)

names_sync : IsSync names.the_row
names_sync = declared_sync names.the_type (search (may_sync, unit_names_sync) depth 12)

program_send : IsSend program.the_row
program_send = declared_send program.the_type (search (may_send, units_send, names_send) depth 12)

program_sync : IsSync program.the_row
program_sync = declared_sync program.the_type (search (may_sync, units_sync, names_sync) depth 12)

-- ---- paths, and what stands in channels

path_send : IsSend path.the_row
path_send = search (sendable, crosses, link.both_send-Link, link.both_sync-Link) depth 20

path_sync : IsSync path.the_row
path_sync = search (sendable, crosses, link.both_send-Link, link.both_sync-Link) depth 20

channel_name_send : IsSend channel_name.the_row
channel_name_send = search (sendable, crosses, path_send) depth 20

port_value_send : IsSend port_value.the_row
port_value_send = variants_send port_value.enum ((channel_name_send, (search (sendable, as_row_send), tt)), ((channel_name_send, tt), tt))

inside_port_send : IsSend inside_port.the_row
inside_port_send = declared_send inside_port.the_type (port_value_send, tt)

port_send : IsSend port.the_row
port_send = view_send _ _ _ _ _ inside_port_send

message_item_send : IsSend message_item.the_row
message_item_send = search (sendable, crosses, seq.the_send, port_send) depth 20

content_send : IsSend content.the_row
content_send = search (sendable, crosses, seq.the_send, message_item_send) depth 20

inside_message_send : IsSend inside_message.the_row
inside_message_send = declared_send inside_message.the_type (content_send, tt)

message_send : IsSend message.the_row
message_send = view_send _ _ _ _ _ inside_message_send

rest_send : IsSend rest.the_row
rest_send = search (sendable, crosses, port_send, message_item_send, message_send) depth 20

rest_field_send : IsSend (rest.the_field).row
rest_field_send = search (sendable, crosses, port_send, message_item_send, message_send) depth 20

chain_send : IsSend chain.the_row
chain_send = as_row_send chain.the_field (rests.send-Chain rest_field_send (λ h s. search (crosses, s)))

inport_send : IsSend inport.the_row
inport_send = search (sendable, crosses, message_send, chain_send) depth 20

channel_send : IsSend channel.the_row
channel_send = search (sendable, crosses, set.the_send, inport_send) depth 20

channels_send : IsSend channels.the_row
channels_send = search (sendable, crosses, map.the_send, channel_name_send, channel_send) depth 20

-- ---- processes of code

slots_send : IsSend slots.the_row
slots_send = search (sendable, crosses, port_send) depth 20

process_send : IsSend process.the_row
process_send = declared_send process.the_type (search (may_send, phase.the_send, body.the_send, slots_send, rare.the_send) depth 12)

code_process_send : IsSend code_process.the_row
code_process_send = declared_send code_process.the_type (search (may_send, process_send) depth 12)

-- the types of the table of processes are generic: each has its lemma at the process of code, what it does next and its memory
kept_send : IsSend (kept.the_row code_process.the_row looked.the_row)
kept_send = declared_send (kept.the_type code_process.the_row looked.the_row) (search (may_send, look.the_send, code_process_send) depth 12)

entries_send : IsSend (entries.the_row code_process.the_row looked.the_row)
entries_send = search (sendable, crosses, path_send, path_sync, kept_send) depth 20

code_procs_send : IsSend (processes.the_row code_process.the_row looked.the_row worked.the_row)
code_procs_send = declared_send (processes.the_type code_process.the_row looked.the_row worked.the_row) (search (may_send, entries_send, channels_send, work.the_send) depth 12)

net_send : IsSend (net.the_row programs.the_row)
net_send = declared_send (net.the_type programs.the_row) (search (may_send, code_procs_send, history.the_send) depth 12)

-- ---- the table, and its pieces

standing_send : IsSend standing.the_row
standing_send = search (sendable, crosses, net_send, path_send, path_sync) depth 20

inside_table_send : IsSend inside_table.the_row
inside_table_send = declared_send inside_table.the_type (search (may_send, program_send, program_sync, setup.the_send, standing_send, taken.the_send, shares.the_send) depth 12)

pub table_send : IsSend table.the_row
table_send = view_send _ _ _ _ _ inside_table_send

pub piece_send : IsSend piece.the_row
piece_send = search (sendable, crosses, path_send, path_sync, body.the_send, body.the_sync) depth 20

-- Small units, laid out and linked.
use Rattle.std.proofs.Common.{ℕ, ◌≡◌, refl, true, false, Some, None, List, [], ◌∷◌, map}
use Rattle.fm_tree.specs.Tree.{Truth}
use Rattle.fm_tree.specs.declared.program_unit.Placed.{Placed}
use Rattle.fm_tree.specs.declared.statement.LoopHead.{LoopHead}
use Rattle.fm_tree.specs.declared.statement.Simple.TheVariants as simple
use Rattle.fm_tree.specs.declared.statement.Stmt.{Stmt}
use Rattle.fm_tree.specs.declared.statement.Stmt.TheVariants as stmt
use Rattle.fm_tree.specs.declared.form.Form.{Form}
use Rattle.fm_tree.specs.declared.form.Form.TheVariants as form
use Rattle.fm_tree.specs.declared.form.Terminal.TheVariants as terminal
use Rattle.fm_tree.specs.declared.entry_mark.EntryMark.{EntryMark}
use Rattle.fm_tree.specs.Structure.{bracket_of, form_of, simple_form_of, contained_form, terminal_of}
use Rattle.fm_tree.specs.Blocks.{end_list}
use Rattle.fm_tree.specs.Layout.{laid_out}
use Rattle.fm_tree.specs.Labels.{target}
use Rattle.fm_tree.specs.Units.{after_of, branch_of, other_end, parent_of}

plain : Stmt → Placed
plain s = record { line = record { 0 = 1 }; label = None; stmt = s }

forms : List EntryMark → List Form
forms entries = map (λ e. e.form) entries

-- an IF-block with an ELSE IF, in whose branch stands an IF-block of one empty branch and an ELSE
nested : List EntryMark
nested = laid_out (
    plain (stmt.BlockIf (Truth true))
    ∷ plain (stmt.Simple simple.Continue)
    ∷ plain (stmt.ElseIf (Truth true))
    ∷ plain (stmt.BlockIf (Truth true))
    ∷ plain stmt.Else
    ∷ plain stmt.EndIf
    ∷ plain stmt.Else
    ∷ plain (stmt.Simple simple.Continue)
    ∷ plain stmt.EndIf
    ∷ plain stmt.End ∷ [])

nested_mates : end_list false nested ≡ Some 8 ∷ Some 8 ∷ Some 8 ∷ Some 5 ∷ Some 5 ∷ Some 8 ∷ Some 8 ∷ Some 8 ∷ None ∷ None ∷ []
unfolding nested plain form_of simple_form_of contained_form terminal_of bracket_of
nested_mates = refl

nested_ends : end_list true nested ≡ Some 2 ∷ Some 2 ∷ Some 6 ∷ Some 4 ∷ Some 5 ∷ Some 6 ∷ Some 8 ∷ Some 8 ∷ None ∷ None ∷ []
unfolding nested plain form_of simple_form_of contained_form terminal_of bracket_of
nested_ends = refl

labelled : ℕ → Stmt → Placed
labelled n s = record { line = record { 0 = 1 }; label = Some (record { 0 = n }); stmt = s }

loop : ℕ → LoopHead
loop n = record { label = Some (record { label = record { 0 = n }; comma = false }); variable = []; from = Truth true; to = Truth true; step = None }

alone : LoopHead
alone = record { label = None; variable = []; from = Truth true; to = Truth true; step = None }

-- two DO-loops that share a terminal statement
shared : List EntryMark
shared = laid_out (plain (stmt.Do (loop 10)) ∷ plain (stmt.Do (loop 10)) ∷ labelled 10 (stmt.Simple simple.Continue) ∷ plain stmt.End ∷ [])

shared_forms : forms shared ≡
    form.Do (Some (record { 0 = 10 })) ∷ form.Do (Some (record { 0 = 10 })) ∷ form.Continue ∷ form.LoopEnd terminal.Continue
    ∷ form.LoopEnd terminal.Continue ∷ form.End ∷ []
unfolding forms shared plain labelled loop form_of simple_form_of contained_form terminal_of bracket_of
shared_forms = refl

shared_mates : end_list false shared ≡ Some 4 ∷ Some 3 ∷ Some 3 ∷ Some 4 ∷ None ∷ None ∷ []
unfolding shared plain labelled loop form_of simple_form_of contained_form terminal_of bracket_of
shared_mates = refl

-- a jump to the label goes to the terminal statement, inside the inner loop
shared_target : target shared (record { 0 = 10 }) ≡ Some 2
unfolding shared plain labelled loop form_of simple_form_of contained_form terminal_of bracket_of
shared_target = refl

-- a PROCESSDO outside process blocks, in a DO with the same terminal statement
wrapped_loop : List EntryMark
wrapped_loop = laid_out (
    plain (stmt.Do (loop 10))
    ∷ plain (stmt.ProcessDo (loop 10))
    ∷ plain (stmt.ProcessCall [] None)
    ∷ labelled 10 (stmt.Simple simple.Continue)
    ∷ plain stmt.End ∷ [])

wrapped_forms : forms wrapped_loop ≡
    form.Do (Some (record { 0 = 10 })) ∷ form.Wrap ∷ form.ProcessDo (Some (record { 0 = 10 })) ∷ form.ProcessCall ∷ form.Continue
    ∷ form.LoopEnd terminal.Continue ∷ form.EndWrap ∷ form.LoopEnd terminal.Continue ∷ form.End ∷ []
unfolding forms wrapped_loop plain labelled loop form_of simple_form_of contained_form terminal_of bracket_of
wrapped_forms = refl

wrapped_mates : end_list false wrapped_loop ≡ Some 7 ∷ Some 6 ∷ Some 5 ∷ Some 5 ∷ Some 5 ∷ Some 6 ∷ Some 7 ∷ None ∷ None ∷ []
unfolding wrapped_loop plain labelled loop form_of simple_form_of contained_form terminal_of bracket_of
wrapped_mates = refl

-- one in a process block, with its own end
inner_loop : List EntryMark
inner_loop = laid_out (plain stmt.Processes ∷ labelled 5 (stmt.ProcessDo alone) ∷ plain stmt.EndProcessDo ∷ plain stmt.EndProcesses ∷ [])

inner_forms : forms inner_loop ≡ form.Processes ∷ form.ProcessDo None ∷ form.EndProcessDo ∷ form.EndProcesses ∷ []
unfolding forms inner_loop plain labelled alone form_of simple_form_of contained_form terminal_of bracket_of
inner_forms = refl

-- an ELSE behind an ELSE parts nothing; a logical IF is two entries
twice : List EntryMark
twice = laid_out (
    plain (stmt.BlockIf (Truth true))
    ∷ plain stmt.Else
    ∷ plain stmt.Else
    ∷ plain (stmt.LogicalIf (Truth true) (simple.Goto (record { 0 = 10 })))
    ∷ plain stmt.EndIf ∷ [])

twice_forms : forms twice ≡ form.BlockIf ∷ form.Else true ∷ form.Else false ∷ form.Test ∷ form.Goto (record { 0 = 10 }) ∷ form.EndIf ∷ []
unfolding forms twice plain form_of simple_form_of contained_form terminal_of bracket_of
twice_forms = refl

-- the links of the nested IF-blocks: opener and branch round the inner IF, behind whose empty branch the inner END IF comes
nested_parent : parent_of nested 3 ≡ Some 0
unfolding nested plain form_of simple_form_of contained_form terminal_of bracket_of
nested_parent = refl

nested_branch : branch_of nested 7 ≡ 2
unfolding nested plain form_of simple_form_of contained_form terminal_of bracket_of
nested_branch = refl

nested_outside : parent_of nested 8 ≡ None
unfolding nested plain form_of simple_form_of contained_form terminal_of bracket_of
nested_outside = refl

nested_after : after_of nested 3 ≡ 5
unfolding nested plain form_of simple_form_of contained_form terminal_of bracket_of
nested_after = refl

nested_pair : other_end nested 5 ≡ Some 3
unfolding nested plain form_of simple_form_of contained_form terminal_of bracket_of
nested_pair = refl

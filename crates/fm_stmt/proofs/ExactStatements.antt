-- What is read is spelled so, and what is spelled so is read: statements.
use Rattle.std.proofs.Common.{◌≡◌, true, Option, Some, None, List, [], ◌∷◌, ◌++◌, refl, sym, ◌∙◌, ap, subst}
use Rattle.std.proofs.lemmas.List.{append-nil}
use Rattle.fm_base.specs.declared.token.Class.{Class}
use Rattle.fm_base.specs.declared.token.Class.TheVariants as class
use Rattle.fm_base.specs.declared.token.Token.{Token}
use Rattle.fm_base.specs.declared.token.Token.TheVariants as token
use Rattle.fm_tree.specs.declared.statement.Simple.{Simple}
use Rattle.fm_tree.specs.declared.statement.Simple.TheVariants as simple
use Rattle.fm_tree.specs.declared.statement.Stmt.{Stmt}
use Rattle.fm_tree.specs.declared.statement.Stmt.TheVariants as stmt
use Rattle.fm_tree.specs.Forms.{Form}
use Rattle.fm_tree.specs.Statements.{simple_form, simple_spelling, IsWellShapedSimple, spelling_of, IsWellShapedStatement}
use Rattle.fm_stmt_parts.specs.declared.mark.Mark.TheVariants as mark
use Rattle.fm_stmt_parts.specs.declared.mark.Mark.TheVariants.{Open, Close, Comma, Equals, Star}
use Rattle.fm_stmt_parts.specs.declared.mark.Word.{Word}
use Rattle.fm_stmt_parts.specs.declared.mark.Word.TheVariants as word
use Rattle.fm_stmt_parts.specs.Reading.{Part, Ends, no_token, opens, is_word_token, name, label, expr, behind, before, parens, assigned, pair, optional_behind, swapped, more, some_of, listed, whole}
use Rattle.fm_stmt_parts.specs.Parts.{var_part, decl_part, array_part, defined_part, way_part, loop_part, item_part, unit_part, port_part, extras_part, call_part_part}
use Rattle.fm_stmt_parts.specs.Fields.{port_type_part}
use Rattle.fm_stmt.specs.Statements.{heading_part, function_part, declaration_part, dimension_part, parameter_part, ports_part, intent_part, processors_part, assignment_part, then_part, call_part, print_part, write_part, channel_part, merger_part, send_part, receive_part, end_channel_part, move_port_part, probe_part, process_call_part, made, all, alone, keyed_simple, simple_at, simple_part, logical_if_part, keyed_statement, statement_at}
use Rattle.fm_stmt_parts.specs.Exact.{IsExact}
use Rattle.fm_stmt_parts.proofs.Exact.{Begins, Leads, bind_some, same_value, ends_any, exact_name, exact_label, exact_expr, exact_behind, exact_before, exact_pair, exact_optional_behind, whole_sound, whole_complete}
use Rattle.fm_stmt_parts.proofs.ExactLists.{exact_more, exact_some, exact_listed, exact_parens, exact_swapped}
use Rattle.fm_stmt_parts.proofs.ExactParts.{exact_named, exact_var, exact_decl, exact_array, exact_defined, exact_way, exact_loop, exact_item, item_opens, expr_opens, exact_unit, exact_port, exact_extras, exact_call_part}
use Rattle.fm_stmt_parts.proofs.ExactFields.{exact_port_type}

name_opens : Begins opens true name
name_opens n rest s = refl

var_opens : Begins opens true var_part
var_opens v rest s = refl

exact_assigned : {X : Type 0} (w : Word) (g : Part X) → IsExact g → IsExact (assigned w g)
exact_assigned w g x = exact_behind (mark.Word w) (behind Equals g) (exact_behind Equals g x)

exact_listed_before : {X : Type 0} (g : Part X) → IsExact g → g.stop token.Comma ≡ true → g.stop token.Close ≡ true → Begins opens true g → IsExact (before (listed g) Close)
exact_listed_before g x k c b = exact_before (listed g) Close (exact_listed g x k c b) refl

exact_heading : IsExact heading_part
exact_heading = exact_named (optional_behind Open (before (listed name) Close)) (exact_optional_behind Open (before (listed name) Close) (exact_listed_before name exact_name refl refl name_opens))

exact_function : IsExact function_part
exact_function = exact_named (parens (listed name)) (exact_parens (listed name) (exact_listed name exact_name refl refl name_opens) refl)

exact_declaration : IsExact declaration_part
exact_declaration = exact_some decl_part exact_decl refl

exact_dimension : IsExact dimension_part
exact_dimension = exact_some array_part exact_array refl

exact_parameter : IsExact parameter_part
exact_parameter = exact_parens (some_of defined_part) (exact_some defined_part exact_defined refl) refl

exact_ports : IsExact ports_part
exact_ports = exact_pair port_type_part (some_of decl_part) exact_port_type exact_declaration (λ z rest s e. ends_any _)

exact_intent : IsExact intent_part
exact_intent = exact_pair (parens way_part) (some_of name) (exact_parens way_part exact_way refl) (exact_some name exact_name refl) (λ z rest s e. ends_any _)

exact_processors : IsExact processors_part
exact_processors = exact_parens (some_of expr) (exact_some expr exact_expr refl) refl

exact_assignment : IsExact assignment_part
exact_assignment = exact_pair var_part (behind Equals expr) exact_var (exact_behind Equals expr exact_expr) (λ z rest s e. refl)

exact_condition : IsExact (parens expr)
exact_condition = exact_parens expr exact_expr refl

exact_then : IsExact then_part
exact_then = exact_before (parens expr) (mark.Word word.Then) exact_condition refl

exact_call : IsExact call_part
exact_call = exact_named (optional_behind Open (before (listed expr) Close)) (exact_optional_behind Open (before (listed expr) Close) (exact_listed_before expr exact_expr refl refl expr_opens))

exact_print : IsExact print_part
exact_print = exact_behind Star (more item_part) (exact_more item_part exact_item refl)

exact_write : IsExact write_part
exact_write =
    exact_pair (parens (before (before unit_part Comma) Star)) (listed item_part)
    (exact_parens (before (before unit_part Comma) Star) (exact_before (before unit_part Comma) Star (exact_before unit_part Comma exact_unit refl) refl) refl)
    (exact_listed item_part exact_item refl refl item_opens)
    (λ z rest s e. ends_any _)

exact_in : IsExact (assigned word.In var_part)
exact_in = exact_assigned word.In var_part exact_var

exact_out : IsExact (assigned word.Out var_part)
exact_out = exact_assigned word.Out var_part exact_var

exact_channel : IsExact channel_part
exact_channel =
    exact_parens (swapped (is_word_token word.In) (assigned word.In var_part) (assigned word.Out var_part))
    (exact_swapped (is_word_token word.In) (assigned word.In var_part) (assigned word.Out var_part) exact_in exact_out refl refl (λ v rest s. refl) (λ v rest s. refl)) refl

exact_merger : IsExact merger_part
exact_merger =
    exact_parens (pair (assigned word.In var_part) (behind Comma (some_of (assigned word.Out var_part))))
    (exact_pair (assigned word.In var_part) (behind Comma (some_of (assigned word.Out var_part))) exact_in
    (exact_behind Comma (some_of (assigned word.Out var_part)) (exact_some (assigned word.Out var_part) exact_out refl)) (λ z rest s e. refl)) refl

exact_send : IsExact send_part
exact_send = exact_pair (parens port_part) (listed expr) (exact_parens port_part exact_port refl) (exact_listed expr exact_expr refl refl expr_opens) (λ z rest s e. ends_any _)

exact_receive : IsExact receive_part
exact_receive =
    exact_pair (parens (pair port_part extras_part)) (listed var_part)
    (exact_parens (pair port_part extras_part) (exact_pair port_part extras_part exact_port exact_extras leads) refl)
    (exact_listed var_part exact_var refl refl var_opens)
    (λ z rest s e. ends_any _)
  where
    at_close : (ts : List Token) → Ends extras_part.stop ts → Ends port_part.stop ts
    at_close [] e = tt
    at_close (token.Close ∷ ts) e = refl
    at_close (t ∷ ts) e = cc

    leads : Leads port_part extras_part
    leads [] rest s e = at_close rest e
    leads (x ∷ xs) rest s e = refl

exact_end_channel : IsExact end_channel_part
exact_end_channel = exact_parens port_part exact_port refl

exact_move_port : IsExact move_port_part
exact_move_port =
    exact_parens (pair (assigned word.From var_part) (behind Comma (assigned word.To var_part)))
    (exact_pair (assigned word.From var_part) (behind Comma (assigned word.To var_part)) (exact_assigned word.From var_part exact_var)
    (exact_behind Comma (assigned word.To var_part) (exact_assigned word.To var_part exact_var)) (λ z rest s e. refl)) refl

exact_probe : IsExact probe_part
exact_probe =
    exact_parens (pair port_part (behind Comma (assigned word.Empty var_part)))
    (exact_pair port_part (behind Comma (assigned word.Empty var_part)) exact_port
    (exact_behind Comma (assigned word.Empty var_part) (exact_assigned word.Empty var_part exact_var)) (λ z rest s e. refl)) refl

exact_process_call : IsExact process_call_part
exact_process_call = exact_named (optional_behind Open call_part_part) (exact_optional_behind Open call_part_part exact_call_part)

-- what was made is made of a value
made_sound : {X S : Type 0} (f : X → S) (o : Option X) (s : S) → made f o ≡ Some s → (x : X) × (o ≡ Some x) × (f x ≡ s)
made_sound f None s e = cc
made_sound f (Some x) s e = (x, refl, cc e)

-- of a form over statements, one statement's form behind its keyword
keyed_sound : {X S : Type 0} (F : Form S) (c : Class) (g : Part X) → IsExact g → (f : X → S) → ((x : X) → F.spelled (f x) ≡ token.Key c ∷ g.form.spelled x) → ((x : X) → g.form.Shape x → F.Shape (f x))
    → (ts : List Token) (s : S) → all f g ts ≡ Some s → F.Shape s × (token.Key c ∷ ts ≡ F.spelled s)
keyed_sound {X} {S} F c g x f spelled shape ts s e =
    let o = made_sound f (whole g.read ts) s e in
    let w = whole_sound g x ts o.0 o.1 in
    let P : S → Type 0 = λ z. F.Shape z × (token.Key c ∷ ts ≡ F.spelled z) in
    subst P o.2 (shape o.0 w.0, ap (λ (r : List Token). token.Key c ∷ r) w.1 ∙ sym (spelled o.0))

alone_sound : {S : Type 0} (F : Form S) (c : Class) (z : S) → F.spelled z ≡ token.Key c ∷ [] → F.Shape z → (ts : List Token) (s : S) → alone z ts ≡ Some s → F.Shape s × (token.Key c ∷ ts ≡ F.spelled s)
alone_sound {S} F c z spelled shape [] s e = let q : z ≡ s = cc e in let P : S → Type 0 = λ y. F.Shape y × (token.Key c ∷ [] ≡ F.spelled y) in subst P q (shape, sym spelled)
alone_sound F c z spelled shape (t ∷ ts) s e = cc

simple_sound_key : (c : Class) (ts : List Token) (s : Simple) → keyed_simple c ts ≡ Some s → IsWellShapedSimple s × (token.Key c ∷ ts ≡ simple_spelling s)
simple_sound_key class.Goto ts s e = keyed_sound simple_form class.Goto label exact_label simple.Goto (λ x. refl) (λ x h. h) ts s e
simple_sound_key class.Continue ts s e = alone_sound simple_form class.Continue simple.Continue refl tt ts s e
simple_sound_key class.Return ts s e = alone_sound simple_form class.Return simple.Return refl tt ts s e
simple_sound_key class.Stop ts s e = alone_sound simple_form class.Stop simple.Stop refl tt ts s e
simple_sound_key class.Call ts s e = keyed_sound simple_form class.Call call_part exact_call (λ p. simple.Call p.0 p.1) (λ x. refl) (λ x h. h) ts s e
simple_sound_key class.Print ts s e = keyed_sound simple_form class.Print print_part exact_print simple.Print (λ x. refl) (λ x h. h) ts s e
simple_sound_key class.Write ts s e = keyed_sound simple_form class.Write write_part exact_write (λ p. simple.Write p.0 p.1) (λ x. refl) (λ x h. h) ts s e
simple_sound_key class.Channel ts s e = keyed_sound simple_form class.Channel channel_part exact_channel (λ p. simple.Channel p.0 p.1.0 p.1.1) (λ x. refl) (λ x h. h) ts s e
simple_sound_key class.Merger ts s e = keyed_sound simple_form class.Merger merger_part exact_merger (λ p. simple.Merger p.0 p.1) (λ x. refl) (λ x h. h) ts s e
simple_sound_key class.Send ts s e = keyed_sound simple_form class.Send send_part exact_send (λ p. simple.Send p.0.0 p.0.1 p.1) (λ x. refl) (λ x h. h) ts s e
simple_sound_key class.Receive ts s e = keyed_sound simple_form class.Receive receive_part exact_receive (λ p. simple.Receive p.0.0.0 p.0.0.1 p.0.1 p.1) (λ x. refl) (λ x h. h) ts s e
simple_sound_key class.EndChannel ts s e = keyed_sound simple_form class.EndChannel end_channel_part exact_end_channel (λ p. simple.EndChannel p.0 p.1) (λ x. refl) (λ x h. h) ts s e
simple_sound_key class.MovePort ts s e = keyed_sound simple_form class.MovePort move_port_part exact_move_port (λ p. simple.MovePort p.0 p.1) (λ x. refl) (λ x h. h) ts s e
simple_sound_key class.Probe ts s e = keyed_sound simple_form class.Probe probe_part exact_probe (λ p. simple.Probe p.0.0 p.0.1 p.1) (λ x. refl) (λ x h. h) ts s e
simple_sound_key c ts s e = cc

pub simple_sound : (ts : List Token) (s : Simple) → simple_at ts ≡ Some s → IsWellShapedSimple s × (ts ≡ simple_spelling s)
simple_sound ts s e = of_tokens ts s e
  where
    assignment : (ts : List Token) (s : Simple) → all (λ p. simple.Assignment p.0 p.1) assignment_part ts ≡ Some s → IsWellShapedSimple s × (ts ≡ simple_spelling s)
    assignment ts s e =
        let o = made_sound (λ p. simple.Assignment p.0 p.1) (whole assignment_part.read ts) s e in
        let P : Simple → Type 0 = λ z. IsWellShapedSimple z × (ts ≡ simple_spelling z) in
        subst P o.2 (whole_sound assignment_part exact_assignment ts o.0 o.1)

    of_tokens : (ts : List Token) (s : Simple) → simple_at ts ≡ Some s → IsWellShapedSimple s × (ts ≡ simple_spelling s)
    of_tokens [] s e = assignment [] s e
    of_tokens (token.Key c ∷ ts) s e = simple_sound_key c ts s e
    of_tokens (t ∷ ts) s e = assignment (t ∷ ts) s e

pub simple_complete : (s : Simple) → IsWellShapedSimple s → simple_at (simple_spelling s) ≡ Some s
simple_complete (simple.Assignment v e) h = rw (whole_complete assignment_part exact_assignment (v, e) h) refl
simple_complete (simple.Goto l) h = rw (whole_complete label exact_label l h) refl
simple_complete simple.Continue h = refl
simple_complete simple.Return h = refl
simple_complete simple.Stop h = refl
simple_complete (simple.Call n arguments) h = rw (whole_complete call_part exact_call (n, arguments) h) refl
simple_complete (simple.Print items) h = rw (whole_complete print_part exact_print items h) refl
simple_complete (simple.Write u items) h = rw (whole_complete write_part exact_write (u, items) h) refl
simple_complete (simple.Channel in_first inport outport) h = rw (whole_complete channel_part exact_channel (in_first, (inport, outport)) h) refl
simple_complete (simple.Merger inport outports) h = rw (whole_complete merger_part exact_merger (inport, outports) h) refl
simple_complete (simple.Send named port items) h = rw (whole_complete send_part exact_send ((named, port), items) h) refl
simple_complete (simple.Receive named port extras items) h = rw (whole_complete receive_part exact_receive (((named, port), extras), items) h) refl
simple_complete (simple.EndChannel named port) h = rw (whole_complete end_channel_part exact_end_channel (named, port) h) refl
simple_complete (simple.MovePort from to) h = rw (whole_complete move_port_part exact_move_port (from, to) h) refl
simple_complete (simple.Probe named port empty) h = rw (whole_complete probe_part exact_probe ((named, port), empty) h) refl

exact_simple : IsExact simple_part
exact_simple = record {
  sound = λ ts s rest e.
      let b = bind_some (simple_at ts) (λ z. Some (z, [])) (s, rest) e in
      let q = same_value b.0 s [] rest b.2 in
      let w = simple_sound ts b.0 b.1 in
      (subst IsWellShapedSimple q.0 w.0, w.1 ∙ sym (append-nil (simple_spelling b.0)) ∙ (let f : simple_spelling b.0 ++ [] ≡ simple_spelling s ++ rest = cc (q.0, q.1) in f));
  complete = complete;
}
  where
    complete : (s : Simple) (rest : List Token) → IsWellShapedSimple s → Ends no_token rest → simple_part.read (simple_spelling s ++ rest) ≡ Some (s, rest)
    complete s [] h e = ap (λ (r : List Token). simple_part.read r) (append-nil (simple_spelling s)) ∙ rw (simple_complete s h) refl
    complete s (t ∷ ts) h e = cc

exact_logical_if : IsExact logical_if_part
exact_logical_if = exact_pair (parens expr) simple_part exact_condition exact_simple (λ z rest s e. ends_any _)

statement_form : Form Stmt
statement_form = record { spelled = spelling_of; Shape = IsWellShapedStatement }

statement_sound_key : (c : Class) (ts : List Token) (s : Stmt) → keyed_statement c ts ≡ Some s → IsWellShapedStatement s × (token.Key c ∷ ts ≡ spelling_of s)
unfolding statement_form
statement_sound_key class.Program ts s e = keyed_sound statement_form class.Program name exact_name stmt.Program (λ x. refl) (λ x h. h) ts s e
statement_sound_key class.Process ts s e = keyed_sound statement_form class.Process heading_part exact_heading (λ p. stmt.Process p.0 p.1) (λ x. refl) (λ x h. h) ts s e
statement_sound_key class.Subroutine ts s e = keyed_sound statement_form class.Subroutine heading_part exact_heading (λ p. stmt.Subroutine p.0 p.1) (λ x. refl) (λ x h. h) ts s e
statement_sound_key class.Function ts s e = keyed_sound statement_form class.Function function_part exact_function (λ p. stmt.Function p.0 p.1) (λ x. refl) (λ x h. h) ts s e
statement_sound_key class.IntegerFunction ts s e = keyed_sound statement_form class.IntegerFunction function_part exact_function (λ p. stmt.IntegerFunction p.0 p.1) (λ x. refl) (λ x h. h) ts s e
statement_sound_key class.LogicalFunction ts s e = keyed_sound statement_form class.LogicalFunction function_part exact_function (λ p. stmt.LogicalFunction p.0 p.1) (λ x. refl) (λ x h. h) ts s e
statement_sound_key class.ImplicitNone ts s e = alone_sound statement_form class.ImplicitNone stmt.ImplicitNone refl tt ts s e
statement_sound_key class.Integer ts s e = keyed_sound statement_form class.Integer declaration_part exact_declaration stmt.Integer (λ x. refl) (λ x h. h) ts s e
statement_sound_key class.Logical ts s e = keyed_sound statement_form class.Logical declaration_part exact_declaration stmt.Logical (λ x. refl) (λ x h. h) ts s e
statement_sound_key class.Dimension ts s e = keyed_sound statement_form class.Dimension dimension_part exact_dimension stmt.Dimension (λ x. refl) (λ x h. h) ts s e
statement_sound_key class.Parameter ts s e = keyed_sound statement_form class.Parameter parameter_part exact_parameter stmt.Parameter (λ x. refl) (λ x h. h) ts s e
statement_sound_key class.Inport ts s e = keyed_sound statement_form class.Inport ports_part exact_ports (λ p. stmt.Inport p.0 p.1) (λ x. refl) (λ x h. h) ts s e
statement_sound_key class.Outport ts s e = keyed_sound statement_form class.Outport ports_part exact_ports (λ p. stmt.Outport p.0 p.1) (λ x. refl) (λ x h. h) ts s e
statement_sound_key class.Intent ts s e = keyed_sound statement_form class.Intent intent_part exact_intent (λ p. stmt.Intent p.0 p.1) (λ x. refl) (λ x h. h) ts s e
statement_sound_key class.Processors ts s e = keyed_sound statement_form class.Processors processors_part exact_processors stmt.Processors (λ x. refl) (λ x h. h) ts s e
statement_sound_key class.LogicalIf ts s e = keyed_sound statement_form class.LogicalIf logical_if_part exact_logical_if (λ p. stmt.LogicalIf p.0 p.1) (λ x. refl) (λ x h. h) ts s e
statement_sound_key class.BlockIf ts s e = keyed_sound statement_form class.BlockIf then_part exact_then stmt.BlockIf (λ x. refl) (λ x h. h) ts s e
statement_sound_key class.ElseIf ts s e = keyed_sound statement_form class.ElseIf then_part exact_then stmt.ElseIf (λ x. refl) (λ x h. h) ts s e
statement_sound_key class.Else ts s e = alone_sound statement_form class.Else stmt.Else refl tt ts s e
statement_sound_key class.EndIf ts s e = alone_sound statement_form class.EndIf stmt.EndIf refl tt ts s e
statement_sound_key class.Do ts s e = keyed_sound statement_form class.Do loop_part exact_loop stmt.Do (λ x. refl) (λ x h. h) ts s e
statement_sound_key class.DoWhile ts s e = keyed_sound statement_form class.DoWhile (parens expr) exact_condition stmt.DoWhile (λ x. refl) (λ x h. h) ts s e
statement_sound_key class.EndDo ts s e = alone_sound statement_form class.EndDo stmt.EndDo refl tt ts s e
statement_sound_key class.End ts s e = alone_sound statement_form class.End stmt.End refl tt ts s e
statement_sound_key class.Processes ts s e = alone_sound statement_form class.Processes stmt.Processes refl tt ts s e
statement_sound_key class.EndProcesses ts s e = alone_sound statement_form class.EndProcesses stmt.EndProcesses refl tt ts s e
statement_sound_key class.ProcessCall ts s e = keyed_sound statement_form class.ProcessCall process_call_part exact_process_call (λ p. stmt.ProcessCall p.0 p.1) (λ x. refl) (λ x h. h) ts s e
statement_sound_key class.ProcessDo ts s e = keyed_sound statement_form class.ProcessDo loop_part exact_loop stmt.ProcessDo (λ x. refl) (λ x h. h) ts s e
statement_sound_key class.EndProcessDo ts s e = alone_sound statement_form class.EndProcessDo stmt.EndProcessDo refl tt ts s e
statement_sound_key c ts s e =
    let o = made_sound stmt.Simple (keyed_simple c ts) s e in
    let w = simple_sound_key c ts o.0 o.1 in
    let P : Stmt → Type 0 = λ z. IsWellShapedStatement z × (token.Key c ∷ ts ≡ spelling_of z) in
    subst P o.2 w

pub statement_sound : (ts : List Token) (s : Stmt) → statement_at ts ≡ Some s → IsWellShapedStatement s × (ts ≡ spelling_of s)
statement_sound ts s e = of_tokens ts s e
  where
    of_simple : (ts : List Token) (s : Stmt) → made stmt.Simple (simple_at ts) ≡ Some s → IsWellShapedStatement s × (ts ≡ spelling_of s)
    of_simple ts s e =
        let o = made_sound stmt.Simple (simple_at ts) s e in
        let P : Stmt → Type 0 = λ z. IsWellShapedStatement z × (ts ≡ spelling_of z) in
        subst P o.2 (simple_sound ts o.0 o.1)

    of_tokens : (ts : List Token) (s : Stmt) → statement_at ts ≡ Some s → IsWellShapedStatement s × (ts ≡ spelling_of s)
    of_tokens [] s e = of_simple [] s e
    of_tokens (token.Key c ∷ ts) s e = statement_sound_key c ts s e
    of_tokens (t ∷ ts) s e = of_simple (t ∷ ts) s e

-- a simple statement is read as a statement
of_simple_complete : (s : Simple) → IsWellShapedSimple s → statement_at (simple_spelling s) ≡ Some (stmt.Simple s)
of_simple_complete (simple.Assignment v e) h = rw (whole_complete assignment_part exact_assignment (v, e) h) refl
of_simple_complete (simple.Goto l) h = ap (made stmt.Simple) (simple_complete (simple.Goto l) h)
of_simple_complete simple.Continue h = refl
of_simple_complete simple.Return h = refl
of_simple_complete simple.Stop h = refl
of_simple_complete (simple.Call n arguments) h = ap (made stmt.Simple) (simple_complete (simple.Call n arguments) h)
of_simple_complete (simple.Print items) h = ap (made stmt.Simple) (simple_complete (simple.Print items) h)
of_simple_complete (simple.Write u items) h = ap (made stmt.Simple) (simple_complete (simple.Write u items) h)
of_simple_complete (simple.Channel in_first inport outport) h = ap (made stmt.Simple) (simple_complete (simple.Channel in_first inport outport) h)
of_simple_complete (simple.Merger inport outports) h = ap (made stmt.Simple) (simple_complete (simple.Merger inport outports) h)
of_simple_complete (simple.Send named port items) h = ap (made stmt.Simple) (simple_complete (simple.Send named port items) h)
of_simple_complete (simple.Receive named port extras items) h = ap (made stmt.Simple) (simple_complete (simple.Receive named port extras items) h)
of_simple_complete (simple.EndChannel named port) h = ap (made stmt.Simple) (simple_complete (simple.EndChannel named port) h)
of_simple_complete (simple.MovePort from to) h = ap (made stmt.Simple) (simple_complete (simple.MovePort from to) h)
of_simple_complete (simple.Probe named port empty) h = ap (made stmt.Simple) (simple_complete (simple.Probe named port empty) h)

pub statement_complete : (s : Stmt) → IsWellShapedStatement s → statement_at (spelling_of s) ≡ Some s
statement_complete (stmt.Program n) h = refl
statement_complete (stmt.Process n formals) h = rw (whole_complete heading_part exact_heading (n, formals) h) refl
statement_complete (stmt.Subroutine n formals) h = rw (whole_complete heading_part exact_heading (n, formals) h) refl
statement_complete (stmt.Function n formals) h = rw (whole_complete function_part exact_function (n, formals) h) refl
statement_complete (stmt.IntegerFunction n formals) h = rw (whole_complete function_part exact_function (n, formals) h) refl
statement_complete (stmt.LogicalFunction n formals) h = rw (whole_complete function_part exact_function (n, formals) h) refl
statement_complete stmt.ImplicitNone h = refl
statement_complete (stmt.Integer decls) h = rw (whole_complete declaration_part exact_declaration decls h) refl
statement_complete (stmt.Logical decls) h = rw (whole_complete declaration_part exact_declaration decls h) refl
statement_complete (stmt.Dimension decls) h = rw (whole_complete dimension_part exact_dimension decls h) refl
statement_complete (stmt.Parameter constants) h = rw (whole_complete parameter_part exact_parameter constants h) refl
statement_complete (stmt.Inport fields decls) h = rw (whole_complete ports_part exact_ports (fields, decls) h) refl
statement_complete (stmt.Outport fields decls) h = rw (whole_complete ports_part exact_ports (fields, decls) h) refl
statement_complete (stmt.Intent w names) h = rw (whole_complete intent_part exact_intent (w, names) h) refl
statement_complete (stmt.Processors sizes) h = rw (whole_complete processors_part exact_processors sizes h) refl
statement_complete (stmt.Simple s) h = of_simple_complete s h
statement_complete (stmt.LogicalIf e s) h = rw (whole_complete logical_if_part exact_logical_if (e, s) h) refl
statement_complete (stmt.BlockIf e) h = rw (whole_complete then_part exact_then e h) refl
statement_complete (stmt.ElseIf e) h = rw (whole_complete then_part exact_then e h) refl
statement_complete stmt.Else h = refl
statement_complete stmt.EndIf h = refl
statement_complete (stmt.Do head) h = rw (whole_complete loop_part exact_loop head h) refl
statement_complete (stmt.DoWhile e) h = rw (whole_complete (parens expr) exact_condition e h) refl
statement_complete stmt.EndDo h = refl
statement_complete stmt.End h = refl
statement_complete stmt.Processes h = refl
statement_complete stmt.EndProcesses h = refl
statement_complete (stmt.ProcessCall n part) h = rw (whole_complete process_call_part exact_process_call (n, part) h) refl
statement_complete (stmt.ProcessDo head) h = rw (whole_complete loop_part exact_loop head h) refl
statement_complete stmt.EndProcessDo h = refl
statement_complete stmt.LoopEnd h = absurd h

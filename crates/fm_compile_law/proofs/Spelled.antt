-- The names that stand in a statement are names of the language where those in its spelling are.
use Rattle.std.proofs.Common.{ℕ, Bool, true, false, Option, Some, None, List, [], ◌∷◌, ◌++◌}
use Rattle.std.specs.Prelude.{codes}
use Rattle.std.specs.List.{flat_map}
use Rattle.fm_base.specs.declared.token.Op.TheVariants as op
use Rattle.fm_base.specs.declared.token.Token.{Token}
use Rattle.fm_base.specs.declared.token.Token.TheVariants as token
use Rattle.fm_net.specs.Typed.{AllIn}
use Rattle.fm_mean.proofs.JudgedItems.{all_left, all_right}
use Rattle.fm_mean.proofs.Sizes.{all_append}
use Rattle.fm_tree.specs.Tree.{Tree, Trees, Number, Truth, Named, Ref, Paren, Signed, Not, Binary, NoTrees, More}
use Rattle.fm_tree.specs.Spelling.{spelling, list_spelling, tail_spelling}
use Rattle.fm_tree.specs.Forms.{Form, before, expr, listed, name, assigned, bracketed_spelled, list_spelled, more_spelled, optional_behind_spelled, optional_keyword_spelled, optional_spelled, swapped_spelled}
use Rattle.fm_tree.specs.Parts.{array_form, bound_form, call_part_form, decl_form, defined_form, extra_form, fields_spelled, item_form, kind_spelled, loop_form, loop_label_form, more_fields_spelled, name_tokens, unit_form, var_form, where_form}
use Rattle.fm_tree.specs.PortFields.{PortFields, FieldKind, NoFields, FieldThen, Integer, Logical, In, Out}
use Rattle.fm_tree.specs.Statements.{simple_spelling, spelling_of}
use Rattle.fm_tree.specs.declared.port_type.Bound.{Bound}
use Rattle.fm_tree.specs.declared.statement.Decl.{Decl}
use Rattle.fm_tree.specs.declared.statement.Var.{Var}
use Rattle.fm_tree.specs.declared.statement.Defined.{Defined}
use Rattle.fm_tree.specs.declared.statement.LoopHead.{LoopHead}
use Rattle.fm_tree.specs.declared.statement.Item.{Item}
use Rattle.fm_tree.specs.declared.statement.Item.TheVariants as item
use Rattle.fm_tree.specs.declared.statement.Extra.{Extra}
use Rattle.fm_tree.specs.declared.statement.Extra.TheVariants as extra
use Rattle.fm_tree.specs.declared.statement.Where.{Where}
use Rattle.fm_tree.specs.declared.statement.Where.TheVariants as place
use Rattle.fm_tree.specs.declared.statement.CallPart.{CallPart}
use Rattle.fm_tree.specs.declared.statement.Simple.{Simple}
use Rattle.fm_tree.specs.declared.statement.Simple.TheVariants as simple
use Rattle.fm_tree.specs.declared.statement.Stmt.{Stmt}
use Rattle.fm_tree.specs.declared.statement.Stmt.TheVariants as stmt
use Rattle.fm_rules.specs.Occurrences.{Names, in_bound, in_call_part, in_channel, in_decl, in_defined, in_extent, in_extra, in_fields, in_item, in_kind, in_loop, in_simple, in_tree, in_trees, in_var, in_where, one_name, optional, stands_in, subscripted}
use Rattle.fm_rules.specs.SizedFields.{Sizes, size_given, sized_by}
use Rattle.fm_object.specs.Texts.{IsName}
use Rattle.fm_compile_law.proofs.Cuts.{AreGood, IsGood}

abbrev pub AreNames : Names → Type 0
AreNames ns = AllIn IsName ns

left : (xs ys : List Token) → AreGood (xs ++ ys) → AreGood xs
left xs ys h = all_left IsGood xs ys h

right : (xs ys : List Token) → AreGood (xs ++ ys) → AreGood ys
right xs ys h = all_right IsGood xs ys h

both : (ms ns : Names) → AreNames ms → AreNames ns → AreNames (ms ++ ns)
both ms ns h k = all_append IsName ms ns h k

-- ---- lists of a form

module _ {X : Type 0} (g : Form X) (f : X → Names) (each : (x : X) → AreGood (g.spelled x) → AreNames (f x)) where
  more_names : (xs : List X) → AreGood (more_spelled g xs) → AreNames (flat_map f xs)
  more_names [] h = tt
  more_names (x ∷ xs) h = both (f x) (flat_map f xs) (each x (left (g.spelled x) (more_spelled g xs) h.1)) (more_names xs (right (g.spelled x) (more_spelled g xs) h.1))

  list_names : (xs : List X) → AreGood (list_spelled g xs) → AreNames (flat_map f xs)
  list_names [] h = tt
  list_names (x ∷ xs) h = both (f x) (flat_map f xs) (each x (left (g.spelled x) (more_spelled g xs) h)) (more_names xs (right (g.spelled x) (more_spelled g xs) h))

  bracketed_names : (xs : List X) → AreGood (bracketed_spelled g xs) → AreNames (flat_map f xs)
  bracketed_names [] h = tt
  bracketed_names (x ∷ xs) h =
      let behind = more_spelled g xs ++ token.Close ∷ [] in
      both (f x) (flat_map f xs) (each x (left (g.spelled x) behind h.1)) (more_names xs (left (more_spelled g xs) (token.Close ∷ []) (right (g.spelled x) behind h.1)))

-- ( list ) behind what opens it
closed : {X : Type 0} (g : Form X) (xs : List X) → AreGood (list_spelled g xs ++ token.Close ∷ []) → AreGood (list_spelled g xs)
closed g xs h = left (list_spelled g xs) (token.Close ∷ []) h

one : (n : List ℕ) → AreGood (name.spelled n) → AreNames (one_name n)
one n h = (h.0, tt)

-- ---- expressions

module _ (array : List ℕ → Bool) where
  once : (b : Bool) (n : List ℕ) → IsName n → AreNames (subscripted b n)
  once true n h = (h, tt)
  once false n h = tt

  mutual
    tree : (t : Tree) → AreGood (spelling t) → AreNames (in_tree array t)
    tree (Number n) h = tt
    tree (Truth b) h = tt
    tree (Named n) h = (h.0, tt)
    tree (Ref n args) h = both (subscripted (array n) n) (in_trees array args) (once (array n) n h.0) (trees args (left (list_spelling args) (token.Close ∷ []) h.1.1))
    tree (Paren e) h = tree e (left (spelling e) (token.Close ∷ []) h.1)
    tree (Signed o e) h = tree e h.1
    tree (Not e) h = tree e h.1
    tree (Binary o a b) h = both (in_tree array a) (in_tree array b) (tree a (left (spelling a) (token.Sign o ∷ spelling b) h)) (tree b (right (spelling a) (token.Sign o ∷ spelling b) h).1)

    trees : (ts : Trees) → AreGood (list_spelling ts) → AreNames (in_trees array ts)
    trees NoTrees h = tt
    trees (More t ts) h = both (in_tree array t) (in_trees array ts) (tree t (left (spelling t) (tail_spelling ts) h)) (tails ts (right (spelling t) (tail_spelling ts) h))

    tails : (ts : Trees) → AreGood (tail_spelling ts) → AreNames (in_trees array ts)
    tails NoTrees h = tt
    tails (More t ts) h = both (in_tree array t) (in_trees array ts) (tree t (left (spelling t) (tail_spelling ts) h.1)) (tails ts (right (spelling t) (tail_spelling ts) h.1))

  exprs : (es : List Tree) → AreGood (list_spelled expr es) → AreNames (flat_map (in_tree array) es)
  exprs es h = list_names expr (in_tree array) tree es h

  -- ---- parts

  var : (v : Var) → AreGood (var_form.spelled v) → AreNames (in_var array v)
  var v h = (h.0, bracketed_names expr (in_tree array) tree v.subscripts h.1)

  vars : (vs : List Var) → AreGood (list_spelled var_form vs) → AreNames (flat_map (in_var array) vs)
  vars vs h = list_names var_form (in_var array) var vs h

  bound : (b : Bound) → AreGood (bound_form.spelled b) → AreNames (in_bound array b)
  bound b h = go b.low b.high h
    where
      go : (low : Option Tree) (high : Tree) → AreGood (bound_form.spelled (record { low = low; high = high })) → AreNames (in_bound array (record { low = low; high = high }))
      go None high h = tree high (left (spelling high) [] h)
      go (Some low) high h = both (in_tree array low) (in_tree array high) (tree low (left (spelling low) (token.Colon ∷ spelling high) h)) (tree high (right (spelling low) (token.Colon ∷ spelling high) h).1)

  decl : (d : Decl) → AreGood (decl_form.spelled d) → AreNames (in_decl array d)
  decl d h = (h.0, bracketed_names bound_form (in_bound array) bound d.bounds h.1)

  decls : (ds : List Decl) → AreGood (list_spelled decl_form ds) → AreNames (flat_map (in_decl array) ds)
  decls ds h = list_names decl_form (in_decl array) decl ds h

  shape : (d : Decl) → AreGood (array_form.spelled d) → AreNames (in_decl array d)
  shape d h = (h.0, list_names bound_form (in_bound array) bound d.bounds (closed bound_form d.bounds h.1.1))

  defined : (d : Defined) → AreGood (defined_form.spelled d) → AreNames (in_defined array d)
  defined d h = (h.0, tree d.value h.1.1)

  extent : (size : Option ℕ) (bounds : List Bound) → AreGood (bracketed_spelled bound_form bounds) → AreNames (in_extent array size bounds)
  extent None bounds h = bracketed_names bound_form (in_bound array) bound bounds h
  extent (Some i) bounds h = tt

  mutual
    kind : (k : FieldKind) (n : Option (List ℕ)) → AreGood (kind_spelled k n) → AreNames (in_kind array k)
    kind Integer n h = tt
    kind Logical n h = tt
    kind (In p) n h = fields [] p (left (fields_spelled p) (token.Close ∷ name_tokens n) h.1.1)
    kind (Out p) n h = fields [] p (left (fields_spelled p) (token.Close ∷ name_tokens n) h.1.1)

    fields : (earlier : Sizes) (p : PortFields) → AreGood (fields_spelled p) → AreNames (in_fields array earlier p)
    fields earlier NoFields h = tt
    fields earlier (FieldThen k n bounds rest) h =
        let behind = bracketed_spelled bound_form bounds ++ more_fields_spelled rest in
        let after = right (kind_spelled k n) behind h in
        let here = in_extent array (sized_by earlier k bounds) bounds in
        both (in_kind array k ++ here) (in_fields array (size_given k n bounds ∷ earlier) rest)
        (both (in_kind array k) here (kind k n (left (kind_spelled k n) behind h)) (extent (sized_by earlier k bounds) bounds (left (bracketed_spelled bound_form bounds) (more_fields_spelled rest) after)))
        (more_fields (size_given k n bounds ∷ earlier) rest (right (bracketed_spelled bound_form bounds) (more_fields_spelled rest) after))

    more_fields : (earlier : Sizes) (p : PortFields) → AreGood (more_fields_spelled p) → AreNames (in_fields array earlier p)
    more_fields earlier NoFields h = tt
    more_fields earlier (FieldThen k n bounds rest) h =
        let behind = bracketed_spelled bound_form bounds ++ more_fields_spelled rest in
        let after = right (kind_spelled k n) behind h.1 in
        let here = in_extent array (sized_by earlier k bounds) bounds in
        both (in_kind array k ++ here) (in_fields array (size_given k n bounds ∷ earlier) rest)
        (both (in_kind array k) here (kind k n (left (kind_spelled k n) behind h.1)) (extent (sized_by earlier k bounds) bounds (left (bracketed_spelled bound_form bounds) (more_fields_spelled rest) after)))
        (more_fields (size_given k n bounds ∷ earlier) rest (right (bracketed_spelled bound_form bounds) (more_fields_spelled rest) after))

  step : (o : Option Tree) → AreGood (optional_behind_spelled token.Comma expr o) → AreNames (optional (in_tree array) o)
  step None h = tt
  step (Some e) h = tree e h.1

  loop : (l : LoopHead) → AreGood (loop_form.spelled l) → AreNames (in_loop array l)
  loop l h =
      let last = optional_behind_spelled token.Comma expr l.step in
      let head = right (optional_spelled loop_label_form l.label) (token.Named l.variable ∷ token.Equals ∷ (spelling l.from ++ token.Comma ∷ (spelling l.to ++ last))) h in
      let from = spelling l.from in
      let to = spelling l.to in
      let behind = right from (token.Comma ∷ (to ++ last)) head.1.1 in (
        head.0,
        both (in_tree array l.from) (in_tree array l.to ++ optional (in_tree array) l.step) (tree l.from (left from (token.Comma ∷ (to ++ last)) head.1.1))
            (both (in_tree array l.to) (optional (in_tree array) l.step) (tree l.to (left to last behind.1)) (step l.step (right to last behind.1))),
      )

  one_item : (i : Item) → AreGood (item_form.spelled i) → AreNames (in_item array i)
  one_item (item.Expr e) h = tree e h
  one_item (item.Constant bytes) h = tt

  one_extra : (e : Extra) → AreGood (extra_form.spelled e) → AreNames (in_extra array e)
  one_extra (extra.End l) h = tt
  one_extra (extra.Iostat v) h = var v h.1.1

  where_names : (w : Where) → AreGood (where_form.spelled w) → AreNames (in_where array w)
  where_names (place.Location es) h = exprs es (closed expr es h.1.1)
  where_names (place.Submachine a b) h =
      let pair = left (spelling a ++ token.Colon ∷ spelling b) (token.Close ∷ []) h.1.1 in
      both (in_tree array a) (in_tree array b) (tree a (left (spelling a) (token.Colon ∷ spelling b) pair)) (tree b (right (spelling a) (token.Colon ∷ spelling b) pair).1)

  where_maybe : (o : Option Where) → AreGood (optional_spelled where_form o) → AreNames (optional (in_where array) o)
  where_maybe None h = tt
  where_maybe (Some w) h = where_names w h

  call_part : (c : CallPart) → AreGood (call_part_form.spelled c) → AreNames (in_call_part array c)
  call_part c h =
      let list = list_spelled expr c.arguments ++ token.Close ∷ [] in
      let put = optional_spelled where_form c.place in
      both (flat_map (in_tree array) c.arguments) (optional (in_where array) c.place) (exprs c.arguments (closed expr c.arguments (left list put h))) (where_maybe c.place (right list put h))

  port : (b : Bool) (v : Var) → AreGood (optional_keyword_spelled (codes "PORT") var_form b v) → AreNames (in_var array v)
  port true v h = var v h.1.1
  port false v h = var v h

  arguments : (o : Option (List Tree)) → AreGood (optional_behind_spelled token.Open (before (listed expr) token.Close) o) → AreNames (optional (flat_map (in_tree array)) o)
  arguments None h = tt
  arguments (Some es) h = exprs es (closed expr es h.1)

  formals : (o : Option (List (List ℕ))) → AreGood (optional_behind_spelled token.Open (before (listed name) token.Close) o) → AreNames (optional (flat_map one_name) o)
  formals None h = tt
  formals (Some ns) h = list_names name one_name one ns (closed name ns h.1)

  channel : (b : Bool) (i o : Var) → AreGood (swapped_spelled (assigned (codes "IN") var_form) (assigned (codes "OUT") var_form) b i o) → AreNames (in_channel array b i o)
  channel true i o h =
      let first = (assigned (codes "IN") var_form).spelled i in
      let last = token.Comma ∷ (assigned (codes "OUT") var_form).spelled o in
      both (in_var array i) (in_var array o) (var i (left first last h).1.1) (var o (right first last h).1.1.1)
  channel false i o h =
      let first = (assigned (codes "OUT") var_form).spelled o in
      let last = token.Comma ∷ (assigned (codes "IN") var_form).spelled i in
      both (in_var array o) (in_var array i) (var o (left first last h).1.1) (var i (right first last h).1.1.1)

  out_var : (v : Var) → AreGood ((assigned (codes "OUT") var_form).spelled v) → AreNames (in_var array v)
  out_var v h = var v h.1.1

  -- ---- statements

  named : (s : Simple) → AreGood (simple_spelling s) → AreNames (in_simple array s)
  unfolding in_simple
  named (simple.Assignment v e) h =
      let first = var_form.spelled v in
      both (in_var array v) (in_tree array e) (var v (left first (token.Equals ∷ spelling e) h)) (tree e (right first (token.Equals ∷ spelling e) h).1)
  named (simple.Goto l) h = tt
  named simple.Continue h = tt
  named simple.Return h = tt
  named simple.Stop h = tt
  named (simple.Call n o) h = arguments o h.1.1
  named (simple.Print items) h = more_names item_form (in_item array) one_item items h.1.1
  named (simple.Write u items) h =
      let unit = token.Open ∷ ((unit_form.spelled u ++ token.Comma ∷ []) ++ token.Sign op.Mul ∷ []) ++ token.Close ∷ [] in
      list_names item_form (in_item array) one_item items (right unit (list_spelled item_form items) h.1)
  named (simple.Channel b i o) h = channel b i o (left (swapped_spelled (assigned (codes "IN") var_form) (assigned (codes "OUT") var_form) b i o) (token.Close ∷ []) h.1.1)
  named (simple.Merger i os) h =
      let first = (assigned (codes "IN") var_form).spelled i in
      let last = token.Comma ∷ list_spelled (assigned (codes "OUT") var_form) os in
      let all = left (first ++ last) (token.Close ∷ []) h.1.1 in
      both (in_var array i) (flat_map (in_var array) os) (var i (left first last all).1.1) (list_names (assigned (codes "OUT") var_form) (in_var array) out_var os (right first last all).1)
  named (simple.Send b v es) h =
      let one = optional_keyword_spelled (codes "PORT") var_form b v in
      let first = token.Open ∷ (one ++ token.Close ∷ []) in
      let items = list_spelled expr es in
      both (in_var array v) (flat_map (in_tree array) es) (port b v (left one (token.Close ∷ []) (left first items h.1).1)) (exprs es (right first items h.1))
  named (simple.Receive b v extras items) h =
      let one = optional_keyword_spelled (codes "PORT") var_form b v in
      let more = more_spelled extra_form extras in
      let first = token.Open ∷ ((one ++ more) ++ token.Close ∷ []) in
      let list = list_spelled var_form items in
      let head = left (one ++ more) (token.Close ∷ []) (left first list h.1).1 in
      both (in_var array v) (flat_map (in_extra array) extras ++ flat_map (in_var array) items) (port b v (left one more head))
      (both (flat_map (in_extra array) extras) (flat_map (in_var array) items) (more_names extra_form (in_extra array) one_extra extras (right one more head)) (vars items (right first list h.1)))
  named (simple.EndChannel b v) h = port b v (left (optional_keyword_spelled (codes "PORT") var_form b v) (token.Close ∷ []) h.1.1)
  named (simple.MovePort from to) h =
      let first = (assigned (codes "FROM") var_form).spelled from in
      let last = token.Comma ∷ (assigned (codes "TO") var_form).spelled to in
      let all = left (first ++ last) (token.Close ∷ []) h.1.1 in
      both (in_var array from) (in_var array to) (var from (left first last all).1.1) (var to (right first last all).1.1.1)
  named (simple.Probe b v e) h =
      let first = optional_keyword_spelled (codes "PORT") var_form b v in
      let last = token.Comma ∷ (assigned (codes "EMPTY") var_form).spelled e in
      let all = left (first ++ last) (token.Close ∷ []) h.1.1 in
      both (in_var array v) (in_var array e) (port b v (left first last all)) (var e (right first last all).1.1.1)

  test : (e : Tree) (behind : List Token) → AreGood ((token.Open ∷ (spelling e ++ token.Close ∷ [])) ++ behind) → AreNames (in_tree array e)
  test e behind h = tree e (left (spelling e) (token.Close ∷ []) (left (token.Open ∷ (spelling e ++ token.Close ∷ [])) behind h).1)

  part : (o : Option CallPart) → AreGood (optional_behind_spelled token.Open call_part_form o) → AreNames (optional (in_call_part array) o)
  part None h = tt
  part (Some c) h = call_part c h.1

  ports : (p : PortFields) (ds : List Decl) → AreGood ((token.Open ∷ (fields_spelled p ++ token.Close ∷ [])) ++ list_spelled decl_form ds) → AreNames (in_fields array [] p ++ flat_map (in_decl array) ds)
  ports p ds h =
      let type = token.Open ∷ (fields_spelled p ++ token.Close ∷ []) in
      both (in_fields array [] p) (flat_map (in_decl array) ds) (fields [] p (left (fields_spelled p) (token.Close ∷ []) (left type (list_spelled decl_form ds) h).1)) (decls ds (right type (list_spelled decl_form ds) h))

  pub stands_named : (s : Stmt) → AreGood (spelling_of s) → AreNames (stands_in array s)
  unfolding stands_in
  stands_named (stmt.Program n) h = tt
  stands_named (stmt.Process n o) h = formals o h.1.1
  stands_named (stmt.Subroutine n o) h = formals o h.1.1
  stands_named (stmt.Function n ns) h = (h.1.0, list_names name one_name one ns (closed name ns h.1.1.1))
  stands_named (stmt.IntegerFunction n ns) h = (h.1.0, list_names name one_name one ns (closed name ns h.1.1.1))
  stands_named (stmt.LogicalFunction n ns) h = (h.1.0, list_names name one_name one ns (closed name ns h.1.1.1))
  stands_named stmt.ImplicitNone h = tt
  stands_named (stmt.Integer ds) h = decls ds h.1
  stands_named (stmt.Logical ds) h = decls ds h.1
  stands_named (stmt.Dimension ds) h = list_names array_form (in_decl array) shape ds h.1
  stands_named (stmt.Parameter cs) h = list_names defined_form (in_defined array) defined cs (closed defined_form cs h.1.1)
  stands_named (stmt.Inport p ds) h = ports p ds h.1
  stands_named (stmt.Outport p ds) h = ports p ds h.1
  stands_named (stmt.Intent w ns) h = list_names name one_name one ns h.1.1.1.1
  stands_named (stmt.Processors es) h = exprs es (closed expr es h.1.1)
  stands_named (stmt.Simple s) h = named s h
  stands_named (stmt.LogicalIf e s) h =
      let head = token.Open ∷ (spelling e ++ token.Close ∷ []) in
      both (in_tree array e) (in_simple array s) (test e (simple_spelling s) h.1) (named s (right head (simple_spelling s) h.1))
  stands_named (stmt.BlockIf e) h = test e (token.Named (codes "THEN") ∷ []) h.1
  stands_named (stmt.ElseIf e) h = test e (token.Named (codes "THEN") ∷ []) h.1
  stands_named stmt.Else h = tt
  stands_named stmt.EndIf h = tt
  stands_named (stmt.Do l) h = loop l h.1
  stands_named (stmt.DoWhile e) h = tree e (left (spelling e) (token.Close ∷ []) h.1.1)
  stands_named stmt.EndDo h = tt
  stands_named stmt.End h = tt
  stands_named stmt.Processes h = tt
  stands_named stmt.EndProcesses h = tt
  stands_named (stmt.ProcessCall n o) h = part o h.1.1
  stands_named (stmt.ProcessDo l) h = loop l h.1
  stands_named stmt.EndProcessDo h = tt
  stands_named stmt.LoopEnd h = tt

-- the test of a logical IF, and the statement in it
pub test_good : (e : Tree) (s : Simple) → AreGood (spelling_of (stmt.LogicalIf e s)) → AreGood (spelling_of (stmt.LogicalIf e simple.Continue))
test_good e s h =
    let head = token.Open ∷ (spelling e ++ token.Close ∷ []) in
    (tt, all_append IsGood head (simple_spelling simple.Continue) (left head (simple_spelling s) h.1) (tt, tt))

pub contained_good : (e : Tree) (s : Simple) → AreGood (spelling_of (stmt.LogicalIf e s)) → AreGood (simple_spelling s)
contained_good e s h = right (token.Open ∷ (spelling e ++ token.Close ∷ [])) (simple_spelling s) h.1

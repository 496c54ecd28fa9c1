-- Tokens whose numbers are words, and whose characters are few: the parts of what they spell.
use Rattle.std.proofs.Common.{◌≡◌, ℕ, ◌+◌, ◌≤◌, Bool, true, false, Option, Some, None, List, [], ◌∷◌, ◌++◌, length, refl, subst, arith}
use Rattle.std.specs.Prelude.{codes}
use Rattle.std.specs.List.{flat_map}
use Rattle.fm_base.specs.declared.token.Token.{Token}
use Rattle.fm_base.specs.declared.token.Token.TheVariants as token
use Rattle.fm_tree.specs.Tree.{Tree, Trees, Number, Truth, Named, Ref, Paren, Signed, Not, Binary, NoTrees, More, trees_from}
use Rattle.fm_tree.specs.Spelling.{spelling, list_spelling, tail_spelling}
use Rattle.fm_tree.specs.References.{applied, applied_each, in_optional, in_var, in_vars, in_item, in_extra, in_where, in_place, in_simple, applied_in}
use Rattle.fm_tree.specs.Forms.{Form, expr, assigned, more_spelled, list_spelled, bracketed_spelled, optional_spelled, optional_behind_spelled, optional_keyword_spelled}
use Rattle.fm_tree.specs.Parts.{var_form, item_form, extra_form, where_form, loop_form, loop_label_form, defined_form}
use Rattle.fm_tree.specs.Statements.{simple_spelling, spelling_of}
use Rattle.fm_tree.specs.declared.statement.Var.{Var}
use Rattle.fm_tree.specs.declared.statement.Item.{Item}
use Rattle.fm_tree.specs.declared.statement.Item.TheVariants as item
use Rattle.fm_tree.specs.declared.statement.Defined.{Defined}
use Rattle.fm_tree.specs.declared.statement.Extra.{Extra}
use Rattle.fm_tree.specs.declared.statement.Extra.TheVariants as extra
use Rattle.fm_tree.specs.declared.statement.Where.{Where}
use Rattle.fm_tree.specs.declared.statement.Where.TheVariants as put_at
use Rattle.fm_tree.specs.declared.statement.CallPart.{CallPart}
use Rattle.fm_tree.specs.declared.statement.LoopHead.{LoopHead}
use Rattle.fm_tree.specs.declared.statement.Simple.{Simple}
use Rattle.fm_tree.specs.declared.statement.Simple.TheVariants as simple
use Rattle.fm_tree.specs.declared.statement.Stmt.{Stmt}
use Rattle.fm_tree.specs.declared.statement.Stmt.TheVariants as stmt
use Rattle.fm_net.specs.Typed.{AllIn}
use Rattle.fm_rules.specs.ConstantParts.{definitions_in}
use Rattle.fm_mean.specs.Actions.{trees_in, arguments_in}
use Rattle.fm_cost_law.specs.Words.{IsWord}
use Rattle.fm_cost_law.proofs.Lists.{all_joined, all_left, all_right, all_flat}

-- ---- tokens

-- one for each token, and one for each byte of a constant
abbrev pub token_weight : Token → ℕ
token_weight (token.Constant bytes) = 1 + length bytes
token_weight t = 1

abbrev pub weight : List Token → ℕ
weight [] = 0
weight (t ∷ ts) = token_weight t + weight ts

abbrev pub TokenHasWord : Token → Type 0
TokenHasWord (token.Number n) = IsWord n
TokenHasWord t = Unit {0}

pub record IsSmall (ts : List Token) : Type 0 where
  pub words : AllIn TokenHasWord ts
  pub few : weight ts ≤ 1321

pub weight_joined : (xs ys : List Token) → weight (xs ++ ys) ≡ weight xs + weight ys
weight_joined [] ys = omega arith
weight_joined (x ∷ xs) ys = omega (arith, weight_joined xs ys)

pub left_small : (xs ys : List Token) → IsSmall (xs ++ ys) → IsSmall xs
left_small xs ys h = record { words = all_left TokenHasWord xs ys h.words; few = omega (arith, weight_joined xs ys, h.few) }

pub right_small : (xs ys : List Token) → IsSmall (xs ++ ys) → IsSmall ys
right_small xs ys h = record { words = all_right TokenHasWord xs ys h.words; few = omega (arith, weight_joined xs ys, h.few) }

pub behind_small : (t : Token) (ts : List Token) → IsSmall (t ∷ ts) → IsSmall ts
behind_small t ts h = record { words = h.words.1; few = omega (arith, h.few) }

-- ---- expressions

abbrev pub TreeIsSmall : Tree → Type 0
TreeIsSmall t = IsSmall (spelling t)

abbrev pub TreesAreSmall : Trees → Type 0
TreesAreSmall NoTrees = Unit {0}
TreesAreSmall (More t ts) = TreeIsSmall t × TreesAreSmall ts

tail_small : (ts : Trees) → IsSmall (tail_spelling ts) → TreesAreSmall ts
tail_small NoTrees h = tt
tail_small (More t ts) h = let on = behind_small token.Comma (spelling t ++ tail_spelling ts) h in (left_small (spelling t) (tail_spelling ts) on, tail_small ts (right_small (spelling t) (tail_spelling ts) on))

listed_small : (ts : Trees) → IsSmall (list_spelling ts) → TreesAreSmall ts
listed_small NoTrees h = tt
listed_small (More t ts) h = (left_small (spelling t) (tail_spelling ts) h, tail_small ts (right_small (spelling t) (tail_spelling ts) h))

pub arguments_small : (name : List ℕ) (args : Trees) → TreeIsSmall (Ref name args) → TreesAreSmall args
arguments_small name args h =
    listed_small args (left_small (list_spelling args) (token.Close ∷ []) (behind_small token.Open (list_spelling args ++ token.Close ∷ []) (behind_small (token.Named name) (token.Open ∷ (list_spelling args ++ token.Close ∷ [])) h)))

mutual
  pub applied_small : (t : Tree) → TreeIsSmall t → AllIn TreeIsSmall (applied t)
  applied_small (Number n) h = tt
  applied_small (Truth b) h = tt
  applied_small (Named name) h = tt
  applied_small (Ref name args) h = all_joined TreeIsSmall (applied_each args) (Ref name args ∷ []) (each_small args (arguments_small name args h)) (h, tt)
  applied_small (Paren e) h = applied_small e (left_small (spelling e) (token.Close ∷ []) (behind_small token.Open (spelling e ++ token.Close ∷ []) h))
  applied_small (Signed op e) h = applied_small e (behind_small (token.Sign op) (spelling e) h)
  applied_small (Not e) h = applied_small e (behind_small _ (spelling e) h)
  applied_small (Binary op a b) h =
      all_joined TreeIsSmall (applied a) (applied b) (applied_small a (left_small (spelling a) (token.Sign op ∷ spelling b) h))
      (applied_small b (behind_small (token.Sign op) (spelling b) (right_small (spelling a) (token.Sign op ∷ spelling b) h)))

  pub each_small : (ts : Trees) → TreesAreSmall ts → AllIn TreeIsSmall (applied_each ts)
  each_small NoTrees h = tt
  each_small (More t ts) h = all_joined TreeIsSmall (applied t) (applied_each ts) (applied_small t h.0) (each_small ts h.1)

-- ---- lists

-- each of them
abbrev pub EachIsSmall : {X : Type 0} → Form X → List X → Type 0
EachIsSmall g xs = AllIn (λ x. IsSmall (g.spelled x)) xs

pub more_small : {X : Type 0} (g : Form X) (xs : List X) → IsSmall (more_spelled g xs) → EachIsSmall g xs
more_small g [] h = tt
more_small g (x ∷ xs) h =
    let on = behind_small token.Comma (g.spelled x ++ more_spelled g xs) h in
    (left_small (g.spelled x) (more_spelled g xs) on, more_small g xs (right_small (g.spelled x) (more_spelled g xs) on))

pub some_small : {X : Type 0} (g : Form X) (xs : List X) → IsSmall (list_spelled g xs) → EachIsSmall g xs
some_small g [] h = tt
some_small g (x ∷ xs) h = (left_small (g.spelled x) (more_spelled g xs) h, more_small g xs (right_small (g.spelled x) (more_spelled g xs) h))

bracketed_small : {X : Type 0} (g : Form X) (xs : List X) → IsSmall (bracketed_spelled g xs) → EachIsSmall g xs
bracketed_small g [] h = tt
bracketed_small g (x ∷ xs) h =
    let on = behind_small token.Open (g.spelled x ++ (more_spelled g xs ++ token.Close ∷ [])) h in (
      left_small (g.spelled x) (more_spelled g xs ++ token.Close ∷ []) on,
      more_small g xs (left_small (more_spelled g xs) (token.Close ∷ []) (right_small (g.spelled x) (more_spelled g xs ++ token.Close ∷ []) on)),
    )

pub trees_small : (es : List Tree) → EachIsSmall expr es → TreesAreSmall (trees_from es)
trees_small [] h = tt
trees_small (e ∷ es) h = (h.0, trees_small es h.1)

-- ---- parts

abbrev pub VarIsSmall : Var → Type 0
VarIsSmall v = IsSmall (var_form.spelled v)

-- the references in the subscripts
var_applied : (v : Var) → VarIsSmall v → AllIn TreeIsSmall (in_var v)
var_applied v h = all_flat TreeIsSmall TreeIsSmall applied applied_small v.subscripts (bracketed_small expr v.subscripts (behind_small (token.Named v.name) (bracketed_spelled expr v.subscripts) h))

vars_applied : (vs : List Var) → AllIn VarIsSmall vs → AllIn TreeIsSmall (in_vars vs)
vars_applied vs h = all_flat TreeIsSmall VarIsSmall in_var var_applied vs h

exprs_applied : (es : List Tree) → EachIsSmall expr es → AllIn TreeIsSmall (flat_map applied es)
exprs_applied es h = all_flat TreeIsSmall TreeIsSmall applied applied_small es h

abbrev pub ItemIsSmall : Item → Type 0
ItemIsSmall i = IsSmall (item_form.spelled i)

item_applied : (i : Item) → ItemIsSmall i → AllIn TreeIsSmall (in_item i)
item_applied (item.Expr e) h = applied_small e h
item_applied (item.Constant bytes) h = tt

abbrev ExtraIsSmall : Extra → Type 0
ExtraIsSmall e = IsSmall (extra_form.spelled e)

extra_applied : (e : Extra) → ExtraIsSmall e → AllIn TreeIsSmall (in_extra e)
extra_applied (extra.End l) h = tt
extra_applied (extra.Iostat v) h = var_applied v (behind_small _ _ (behind_small _ _ h))

where_applied : (w : Where) → IsSmall (where_form.spelled w) → AllIn TreeIsSmall (in_where w)
where_applied (put_at.Location es) h = exprs_applied es (some_small expr es (left_small (list_spelled expr es) (token.Close ∷ []) (behind_small _ _ (behind_small _ _ h))))
where_applied (put_at.Submachine a b) h =
    let on = left_small (spelling a ++ token.Colon ∷ spelling b) (token.Close ∷ []) (behind_small _ _ (behind_small _ _ h)) in
    all_joined TreeIsSmall (applied a) (applied b) (applied_small a (left_small (spelling a) (token.Colon ∷ spelling b) on)) (applied_small b (behind_small token.Colon (spelling b) (right_small (spelling a) (token.Colon ∷ spelling b) on)))

-- a port, with or without its keyword
port_small : (named : Bool) (v : Var) → IsSmall (optional_keyword_spelled (codes "PORT") var_form named v) → VarIsSmall v
port_small true v h = behind_small _ _ (behind_small _ _ h)
port_small false v h = h

-- ---- statements

assigned_parts : (v : Var) (e : Tree) → IsSmall (simple_spelling (simple.Assignment v e)) → VarIsSmall v × TreeIsSmall e
assigned_parts v e h = (left_small (var_form.spelled v) (token.Equals ∷ spelling e) h, behind_small token.Equals (spelling e) (right_small (var_form.spelled v) (token.Equals ∷ spelling e) h))

-- the value of an assignment
pub assigned_small : (v : Var) (e : Tree) → IsSmall (simple_spelling (simple.Assignment v e)) → TreeIsSmall e
assigned_small v e h = (assigned_parts v e h).1

called_each : (name : List ℕ) (es : List Tree) → IsSmall (simple_spelling (simple.Call name (Some es))) → EachIsSmall expr es
called_each name es h = some_small expr es (left_small (list_spelled expr es) (token.Close ∷ []) (behind_small _ _ (behind_small _ _ (behind_small _ _ h))))

-- the arguments of a CALL
pub call_small : (name : List ℕ) (args : Option (List Tree)) → IsSmall (simple_spelling (simple.Call name args)) → TreesAreSmall (trees_in args)
call_small name None h = tt
call_small name (Some es) h = trees_small es (called_each name es h)

-- the items of PRINT and WRITE
pub print_small : (items : List Item) → IsSmall (simple_spelling (simple.Print items)) → IsSmall (more_spelled item_form items)
print_small items h = behind_small _ _ (behind_small _ _ h)

pub write_small : (u : _) (items : List Item) → IsSmall (simple_spelling (simple.Write u items)) → IsSmall (list_spelled item_form items)
write_small u items h = behind_small _ _ (behind_small _ _ (behind_small _ _ (behind_small _ _ (behind_small _ _ (behind_small _ _ h)))))

merged_parts : (i : Var) (os : List Var) → IsSmall (simple_spelling (simple.Merger i os)) → VarIsSmall i × IsSmall (list_spelled (assigned (codes "OUT") var_form) os)
merged_parts i os h =
    let all = left_small ((token.Named (codes "IN") ∷ token.Equals ∷ var_form.spelled i) ++ token.Comma ∷ list_spelled (assigned (codes "OUT") var_form) os) (token.Close ∷ []) (behind_small _ _ (behind_small _ _ h)) in
    let inport = left_small (token.Named (codes "IN") ∷ token.Equals ∷ var_form.spelled i) (token.Comma ∷ list_spelled (assigned (codes "OUT") var_form) os) all in
    (behind_small _ _ (behind_small _ _ inport), behind_small _ _ (right_small (token.Named (codes "IN") ∷ token.Equals ∷ var_form.spelled i) (token.Comma ∷ list_spelled (assigned (codes "OUT") var_form) os) all))

-- the outports of a MERGER
pub merged_small : (i : Var) (os : List Var) → IsSmall (simple_spelling (simple.Merger i os)) → IsSmall (list_spelled (assigned (codes "OUT") var_form) os)
merged_small i os h = (merged_parts i os h).1

outports_small : (os : List Var) → EachIsSmall (assigned (codes "OUT") var_form) os → AllIn VarIsSmall os
outports_small [] h = tt
outports_small (o ∷ os) h = (behind_small _ _ (behind_small _ _ h.0), outports_small os h.1)

sent_parts : (named : Bool) (q : Var) (es : List Tree) → IsSmall (simple_spelling (simple.Send named q es)) → VarIsSmall q × EachIsSmall expr es
sent_parts named q es h =
    let port = token.Open ∷ (optional_keyword_spelled (codes "PORT") var_form named q ++ token.Close ∷ []) in
    let all = behind_small _ (port ++ list_spelled expr es) h in (
      port_small named q (left_small (optional_keyword_spelled (codes "PORT") var_form named q) (token.Close ∷ []) (behind_small _ _ (left_small port (list_spelled expr es) all))),
      some_small expr es (right_small port (list_spelled expr es) all),
    )

-- the items of a SEND, as the statement spells them
pub sent_listed : (named : Bool) (q : Var) (es : List Tree) → IsSmall (simple_spelling (simple.Send named q es)) → IsSmall (list_spelled expr es)
sent_listed named q es h =
    let port = token.Open ∷ (optional_keyword_spelled (codes "PORT") var_form named q ++ token.Close ∷ []) in
    right_small port (list_spelled expr es) (behind_small _ (port ++ list_spelled expr es) h)

-- and each of them
pub send_small : (named : Bool) (q : Var) (es : List Tree) → IsSmall (simple_spelling (simple.Send named q es)) → TreesAreSmall (trees_from es)
send_small named q es h = trees_small es (sent_parts named q es h).1

simple_applied : (k : Simple) → IsSmall (simple_spelling k) → AllIn TreeIsSmall (in_simple k)
unfolding in_simple
simple_applied (simple.Assignment v e) h = let on = assigned_parts v e h in all_joined TreeIsSmall (in_var v) (applied e) (var_applied v on.0) (applied_small e on.1)
simple_applied (simple.Goto l) h = tt
simple_applied simple.Continue h = tt
simple_applied simple.Return h = tt
simple_applied simple.Stop h = tt
simple_applied (simple.Call name None) h = tt
simple_applied (simple.Call name (Some es)) h = exprs_applied es (called_each name es h)
simple_applied (simple.Print items) h = all_flat TreeIsSmall ItemIsSmall in_item item_applied items (more_small item_form items (print_small items h))
simple_applied (simple.Write u items) h = all_flat TreeIsSmall ItemIsSmall in_item item_applied items (some_small item_form items (write_small u items h))
simple_applied (simple.Channel true i o) h =
    let ins = token.Named (codes "IN") ∷ token.Equals ∷ var_form.spelled i in
    let outs = token.Named (codes "OUT") ∷ token.Equals ∷ var_form.spelled o in
    let all = left_small (ins ++ token.Comma ∷ outs) (token.Close ∷ []) (behind_small _ _ (behind_small _ _ h)) in
    all_joined TreeIsSmall (in_var i) (in_var o) (var_applied i (behind_small _ _ (behind_small _ _ (left_small ins (token.Comma ∷ outs) all))))
    (var_applied o (behind_small _ _ (behind_small _ _ (behind_small _ _ (right_small ins (token.Comma ∷ outs) all)))))
simple_applied (simple.Channel false i o) h =
    let ins = token.Named (codes "IN") ∷ token.Equals ∷ var_form.spelled i in
    let outs = token.Named (codes "OUT") ∷ token.Equals ∷ var_form.spelled o in
    let all = left_small (outs ++ token.Comma ∷ ins) (token.Close ∷ []) (behind_small _ _ (behind_small _ _ h)) in
    all_joined TreeIsSmall (in_var o) (in_var i) (var_applied o (behind_small _ _ (behind_small _ _ (left_small outs (token.Comma ∷ ins) all))))
    (var_applied i (behind_small _ _ (behind_small _ _ (behind_small _ _ (right_small outs (token.Comma ∷ ins) all)))))
simple_applied (simple.Merger i os) h =
    let on = merged_parts i os h in
    all_joined TreeIsSmall (in_var i) (in_vars os) (var_applied i on.0) (vars_applied os (outports_small os (some_small (assigned (codes "OUT") var_form) os on.1)))
simple_applied (simple.Send named q es) h = let on = sent_parts named q es h in all_joined TreeIsSmall (in_var q) (flat_map applied es) (var_applied q on.0) (exprs_applied es on.1)
simple_applied (simple.Receive named q extras items) h =
    let port = optional_keyword_spelled (codes "PORT") var_form named q in
    let inner = port ++ more_spelled extra_form extras in
    let head = token.Open ∷ (inner ++ token.Close ∷ []) in
    let all = behind_small _ (head ++ list_spelled var_form items) h in
    let within = left_small inner (token.Close ∷ []) (behind_small _ _ (left_small head (list_spelled var_form items) all)) in
    all_joined TreeIsSmall (in_var q ++ flat_map in_extra extras) (in_vars items)
    (all_joined TreeIsSmall (in_var q) (flat_map in_extra extras) (var_applied q (port_small named q (left_small port (more_spelled extra_form extras) within)))
    (all_flat TreeIsSmall ExtraIsSmall in_extra extra_applied extras (more_small extra_form extras (right_small port (more_spelled extra_form extras) within))))
    (vars_applied items (some_small var_form items (right_small head (list_spelled var_form items) all)))
simple_applied (simple.EndChannel named q) h = var_applied q (port_small named q (left_small (optional_keyword_spelled (codes "PORT") var_form named q) (token.Close ∷ []) (behind_small _ _ (behind_small _ _ h))))
simple_applied (simple.MovePort from to) h =
    let one = token.Named (codes "FROM") ∷ token.Equals ∷ var_form.spelled from in
    let two = token.Named (codes "TO") ∷ token.Equals ∷ var_form.spelled to in
    let all = left_small (one ++ token.Comma ∷ two) (token.Close ∷ []) (behind_small _ _ (behind_small _ _ h)) in
    all_joined TreeIsSmall (in_var from) (in_var to) (var_applied from (behind_small _ _ (behind_small _ _ (left_small one (token.Comma ∷ two) all))))
    (var_applied to (behind_small _ _ (behind_small _ _ (behind_small _ _ (right_small one (token.Comma ∷ two) all)))))
simple_applied (simple.Probe named q place) h =
    let port = optional_keyword_spelled (codes "PORT") var_form named q in
    let two = token.Named (codes "EMPTY") ∷ token.Equals ∷ var_form.spelled place in
    let all = left_small (port ++ token.Comma ∷ two) (token.Close ∷ []) (behind_small _ _ (behind_small _ _ h)) in
    all_joined TreeIsSmall (in_var q) (in_var place) (var_applied q (port_small named q (left_small port (token.Comma ∷ two) all)))
    (var_applied place (behind_small _ _ (behind_small _ _ (behind_small _ _ (right_small port (token.Comma ∷ two) all)))))

-- a statement of the source; of a logical IF its test and the statement in it, which are entries of their own
abbrev pub StatementIsSmall : Stmt → Type 0
StatementIsSmall (stmt.LogicalIf e k) = TreeIsSmall e × IsSmall (simple_spelling k)
StatementIsSmall s = IsSmall (spelling_of s)

pub read_small : (s : Stmt) → IsSmall (spelling_of s) → StatementIsSmall s
read_small (stmt.LogicalIf e k) h =
    let test = token.Open ∷ (spelling e ++ token.Close ∷ []) in
    let all = behind_small _ (test ++ simple_spelling k) h in
    (left_small (spelling e) (token.Close ∷ []) (behind_small _ _ (left_small test (simple_spelling k) all)), right_small test (simple_spelling k) all)
read_small s h = h

pub record LoopIsSmall (h : LoopHead) : Type 0 where
  pub from : TreeIsSmall h.from
  pub to : TreeIsSmall h.to
  pub step : (e : Tree) → h.step ≡ Some e → TreeIsSmall e

abbrev pub loop_spelled : LoopHead → List Token
loop_spelled h = loop_form.spelled h

pub loop_parts : (h : LoopHead) → IsSmall (loop_spelled h) → LoopIsSmall h
loop_parts h all =
    let step = optional_behind_spelled token.Comma expr h.step in
    let to = token.Comma ∷ spelling h.to in
    let from = token.Equals ∷ spelling h.from in
    let name = token.Named h.variable ∷ [] in
    let label = optional_spelled loop_label_form h.label in
    let a = right_small label (name ++ (from ++ (to ++ step))) all in
    let b = right_small name (from ++ (to ++ step)) a in
    let c = right_small from (to ++ step) b in
    record {
      from = behind_small _ _ (left_small from (to ++ step) b);
      to = behind_small _ _ (left_small to step c);
      step = by_step h.step (right_small to step c);
    }
  where
    by_step : (o : Option Tree) → IsSmall (optional_behind_spelled token.Comma expr o) → (e : Tree) → o ≡ Some e → TreeIsSmall e
    by_step None s e is = absurd (cc is)
    by_step (Some t) s e is = subst TreeIsSmall (the_tree t e is) (behind_small _ _ s)
      where
        the_tree : (a b : Tree) → Some a ≡ Some b → a ≡ b
        the_tree a b e = cc

loop_applied : (h : LoopHead) → LoopIsSmall h → AllIn TreeIsSmall (applied h.from ++ applied h.to ++ in_optional h.step)
loop_applied h s =
    all_joined TreeIsSmall (applied h.from ++ applied h.to) (in_optional h.step) (all_joined TreeIsSmall (applied h.from) (applied h.to) (applied_small h.from s.from) (applied_small h.to s.to)) (by_step h.step s.step)
  where
    by_step : (o : Option Tree) → ((e : Tree) → o ≡ Some e → TreeIsSmall e) → AllIn TreeIsSmall (in_optional o)
    by_step None f = tt
    by_step (Some e) f = applied_small e (f e refl)

called_parts : (name : List ℕ) (c : CallPart) → IsSmall (spelling_of (stmt.ProcessCall name (Some c))) → EachIsSmall expr c.arguments × IsSmall (optional_spelled where_form c.place)
called_parts name c h =
    let args = list_spelled expr c.arguments ++ token.Close ∷ [] in
    let all = behind_small token.Open (args ++ optional_spelled where_form c.place) (behind_small _ _ (behind_small _ _ h)) in
    (some_small expr c.arguments (left_small (list_spelled expr c.arguments) (token.Close ∷ []) (left_small args (optional_spelled where_form c.place) all)), right_small args (optional_spelled where_form c.place) all)

-- the arguments of a process call
pub start_small : (name : List ℕ) (part : Option CallPart) → IsSmall (spelling_of (stmt.ProcessCall name part)) → TreesAreSmall (trees_from (arguments_in part))
start_small name None h = tt
start_small name (Some c) h = trees_small c.arguments (called_parts name c h).0

place_applied : (o : Option Where) → IsSmall (optional_spelled where_form o) → AllIn TreeIsSmall (in_place o)
place_applied None h = tt
place_applied (Some w) h = where_applied w h

test_small : (e : Tree) (ts : List Token) → IsSmall (token.Open ∷ (spelling e ++ token.Close ∷ []) ++ ts) → TreeIsSmall e
test_small e ts h = left_small (spelling e) (token.Close ∷ []) (behind_small _ _ (left_small (token.Open ∷ (spelling e ++ token.Close ∷ [])) ts h))

-- each name with a list in parentheses
pub statement_applied : (s : Stmt) → StatementIsSmall s → AllIn TreeIsSmall (applied_in s)
unfolding applied_in
statement_applied (stmt.Simple k) h = simple_applied k h
statement_applied (stmt.LogicalIf e k) h = all_joined TreeIsSmall (applied e) (in_simple k) (applied_small e h.0) (simple_applied k h.1)
statement_applied (stmt.BlockIf e) h = applied_small e (test_small e (token.Named (codes "THEN") ∷ []) (behind_small _ _ h))
statement_applied (stmt.ElseIf e) h = applied_small e (test_small e (token.Named (codes "THEN") ∷ []) (behind_small _ _ h))
statement_applied (stmt.Do head) h = loop_applied head (loop_parts head (behind_small _ _ h))
statement_applied (stmt.DoWhile e) h = applied_small e (left_small (spelling e) (token.Close ∷ []) (behind_small _ _ (behind_small _ _ h)))
statement_applied (stmt.ProcessCall name None) h = tt
statement_applied (stmt.ProcessCall name (Some c)) h = let on = called_parts name c h in all_joined TreeIsSmall (flat_map applied c.arguments) (in_place c.place) (exprs_applied c.arguments on.0) (place_applied c.place on.1)
statement_applied (stmt.ProcessDo head) h = loop_applied head (loop_parts head (behind_small _ _ h))
statement_applied s h = tt

-- ---- constants

definitions_small : (ds : List Defined) → EachIsSmall defined_form ds → AllIn (λ (d : Defined). TreeIsSmall d.value) ds
definitions_small [] h = tt
definitions_small (d ∷ ds) h = (behind_small _ _ (behind_small _ _ h.0), definitions_small ds h.1)

-- the values of PARAMETER
pub defined_small : (s : Stmt) → StatementIsSmall s → AllIn (λ (d : Defined). TreeIsSmall d.value) (definitions_in s)
unfolding definitions_in
defined_small (stmt.Parameter ds) h = definitions_small ds (some_small defined_form ds (left_small (list_spelled defined_form ds) (token.Close ∷ []) (behind_small _ _ (behind_small _ _ h))))
defined_small s h = tt

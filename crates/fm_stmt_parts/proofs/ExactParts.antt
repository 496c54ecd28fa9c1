-- What is read is spelled so, and what is spelled so is read: the parts of statements.
use Rattle.std.proofs.Common.{◌≡◌, ℕ, Bool, true, false, not, cond, Option, Some, None, ◌⊎◌, List, [], ◌∷◌, ◌++◌, refl, sym, ◌∙◌, ap, append_assoc, inl, inr, codes}
use Rattle.std.proofs.lemmas.Bool.{le-leb, leb-true, eqb-true}
use Rattle.std.proofs.Math.Dec.{leb, eqb}
use Rattle.std.specs.Cmp.Lexicographic.{same_text}
use Rattle.std.specs.Prelude.{pos, negsuc, ◌&&◌}
use Rattle.fm_base.specs.declared.token.Op.TheVariants as op
use Rattle.fm_base.specs.declared.token.Token.{Token}
use Rattle.fm_base.specs.declared.token.Token.TheVariants as token
use Rattle.fm_tree.specs.Tree.{Tree, Number, Truth, Named, Ref, Paren, Signed, Not, Binary}
use Rattle.fm_tree.specs.Spelling.{spelling}
use Rattle.fm_tree.specs.declared.port_type.Bound.{Bound}
use Rattle.fm_tree.specs.declared.statement.Var.{Var}
use Rattle.fm_tree.specs.declared.statement.Way.{Way}
use Rattle.fm_tree.specs.declared.statement.Way.TheVariants as way
use Rattle.fm_tree.specs.declared.statement.Item.{Item}
use Rattle.fm_tree.specs.declared.statement.Item.TheVariants as item
use Rattle.fm_tree.specs.declared.statement.WriteUnit.{WriteUnit}
use Rattle.fm_tree.specs.declared.statement.WriteUnit.TheVariants as unit
use Rattle.fm_tree.specs.declared.statement.Extra.{Extra}
use Rattle.fm_tree.specs.declared.statement.Extra.TheVariants as extra
use Rattle.fm_tree.specs.declared.statement.Where.{Where}
use Rattle.fm_tree.specs.declared.statement.Where.TheVariants as place
use Rattle.fm_tree.specs.Parts as forms
use Rattle.fm_stmt_parts.specs.declared.mark.Mark.TheVariants as mark
use Rattle.fm_stmt_parts.specs.declared.mark.Mark.TheVariants.{Open, Close, Comma, Equals, Colon}
use Rattle.fm_stmt_parts.specs.declared.mark.Word.{Word}
use Rattle.fm_stmt_parts.specs.declared.mark.Word.TheVariants as word
use Rattle.fm_stmt_parts.specs.Reading.{Part, Ends, starts, word_text, is_same_text, is_word_token, is_open, is_equals, any_token, opens, name, label, expr, constant, behind, before, parens, assigned, pair, either, optional, optional_behind, optional_token, more, some_of, listed, bracketed, such_that, mark_at, assigned_at, ◌>>=◌}
use Rattle.fm_stmt_parts.specs.Parts.{var_part, var_of, bound_part, bound_of, decl_part, decl_of, array_part, defined_part, defined_of, way_part, way_of, way_at, is_number, loop_label_part, loop_label_of, loop_part, loop_of, item_part, item_of, no_constant, unit_part, unit_at, unit_of, number_unit, port_part, extra_part, extra_of, are_each_once, extras_part, location_part, submachine_part, where_part, where_of, call_part_part, call_part_of}
use Rattle.fm_stmt_parts.specs.Exact.{IsExact}
use Rattle.fm_stmt_parts.proofs.Exact.{Begins, bind_some, same_value, both, not_true, ends_any, exact_name, exact_label, exact_constant, exact_expr, exact_behind, exact_before, exact_pair, exact_over, exact_either, exact_optional, exact_optional_behind, exact_optional_token, leads_optional_behind}
use Rattle.fm_stmt_parts.proofs.ExactLists.{exact_more, exact_some, exact_listed, exact_parens, exact_bracketed, exact_such_that, exact_until, exact_optional_keyword, Unassigned}

-- a name comes first, and any token may stand behind it
pub exact_named : {Y : Type 0} (h : Part Y) → IsExact h → IsExact (pair name h)
exact_named h y = exact_pair name h exact_name y (λ z rest s e. ends_any _)

pub exact_var : IsExact var_part
exact_var = exact_over forms.var_parts var_of (pair name (bracketed expr)) (exact_named (bracketed expr) (exact_bracketed expr exact_expr refl refl)) (λ p. refl) (λ v. refl)

pub exact_bound : IsExact bound_part
exact_bound =
    exact_over forms.bound_parts bound_of (pair expr (optional_behind Colon expr))
    (exact_pair expr (optional_behind Colon expr) exact_expr (exact_optional_behind Colon expr exact_expr) (leads_optional_behind expr Colon expr (λ t e. e) refl))
    (λ p. there p.0 p.1) back
  where
    there : (e : Tree) (o : Option Tree) → forms.bound_parts (bound_of (e, o)) ≡ (e, o)
    there e None = refl
    there e (Some x) = refl

    back : (b : Bound) → bound_of (forms.bound_parts b) ≡ b
    back b = (elim b.low as (λ o. bound_of (forms.bound_ends o b.high) ≡ record { low = o; high = b.high }) [ None ↦ refl | Some x ↦ refl ])

pub exact_decl : IsExact decl_part
exact_decl = exact_over forms.decl_parts decl_of (pair name (bracketed bound_part)) (exact_named (bracketed bound_part) (exact_bracketed bound_part exact_bound refl refl)) (λ p. refl) (λ d. refl)

pub exact_array : IsExact array_part
exact_array =
    exact_over forms.decl_parts decl_of (pair name (parens (some_of bound_part)))
    (exact_named (parens (some_of bound_part)) (exact_parens (some_of bound_part) (exact_some bound_part exact_bound refl) refl))
    (λ p. refl) (λ d. refl)

pub exact_defined : IsExact defined_part
exact_defined = exact_over forms.defined_parts defined_of (pair name (behind Equals expr)) (exact_named (behind Equals expr) (exact_behind Equals expr exact_expr)) (λ p. refl) (λ d. refl)

pub exact_way : IsExact way_part
exact_way = record {
  sound = sound;
  complete = λ w rest s e. again w rest;
}
  where
    again : (w : Way) (rest : List Token) → way_at (token.Named (forms.way_text w) ∷ rest) ≡ Some (w, rest)
    again way.In rest = refl
    again way.Out rest = refl
    again way.InOut rest = refl

    text_of : (n : List ℕ) (w : Way) → way_of n ≡ Some w → n ≡ forms.way_text w
    text_of n w e =
        (elim (is_same_text n (codes "IN")) as (λ b. is_same_text n (codes "IN") ≡ b → cond b (Some way.In) (cond (is_same_text n (codes "OUT")) (Some way.Out) (cond (is_same_text n (codes "INOUT")) (Some way.InOut) None)) ≡ Some w → n ≡ forms.way_text w) [
          | true ↦ λ h f. let q : way.In ≡ w = cc f in same_text n (codes "IN") (sym h) ∙ ap forms.way_text q
          | false ↦ λ h f.
              (elim (is_same_text n (codes "OUT")) as (λ b. is_same_text n (codes "OUT") ≡ b → cond b (Some way.Out) (cond (is_same_text n (codes "INOUT")) (Some way.InOut) None) ≡ Some w → n ≡ forms.way_text w) [
                | true ↦ λ h f. let q : way.Out ≡ w = cc f in same_text n (codes "OUT") (sym h) ∙ ap forms.way_text q
                | false ↦ λ h f.
                    (elim (is_same_text n (codes "INOUT")) as (λ b. is_same_text n (codes "INOUT") ≡ b → cond b (Some way.InOut) None ≡ Some w → n ≡ forms.way_text w) [
                      | true ↦ λ h f. let q : way.InOut ≡ w = cc f in same_text n (codes "INOUT") (sym h) ∙ ap forms.way_text q
                      | false ↦ λ h f. cc
                    ]) refl f
              ]) refl f
        ]) refl e

    sound : (ts : List Token) (w : Way) (rest : List Token) → way_at ts ≡ Some (w, rest) → Unit {0} × (ts ≡ token.Named (forms.way_text w) ∷ rest)
    sound [] w rest e = cc
    sound (token.Named n ∷ ts) w rest e =
        let b = bind_some (way_of n) (λ v. Some (v, ts)) (w, rest) e in
        let q = same_value b.0 w ts rest b.2 in
        let k : n ≡ forms.way_text w = text_of n b.0 b.1 ∙ ap forms.way_text q.0 in
        (tt, cc (k, q.1))
    sound (t ∷ ts) w rest e = cc

exact_loop_label : IsExact loop_label_part
exact_loop_label =
    exact_over forms.loop_label_parts loop_label_of (pair label (optional_token Comma))
    (exact_pair label (optional_token Comma) exact_label (exact_optional_token Comma) (λ z rest s e. ends_any _))
    (λ p. refl) (λ l. refl)

pub exact_loop : IsExact loop_part
exact_loop =
    exact_over forms.loop_parts loop_of
    (pair (optional is_number loop_label_part) (pair name (pair (behind Equals expr) (pair (behind Comma expr) (optional_behind Comma expr)))))
    (exact_pair (optional is_number loop_label_part) (pair name (pair (behind Equals expr) (pair (behind Comma expr) (optional_behind Comma expr))))
    (exact_optional is_number loop_label_part exact_loop_label (λ l rest s. refl))
    (exact_named (pair (behind Equals expr) (pair (behind Comma expr) (optional_behind Comma expr)))
    (exact_pair (behind Equals expr) (pair (behind Comma expr) (optional_behind Comma expr)) (exact_behind Equals expr exact_expr)
    (exact_pair (behind Comma expr) (optional_behind Comma expr) (exact_behind Comma expr exact_expr) (exact_optional_behind Comma expr exact_expr) (leads_optional_behind (behind Comma expr) Comma expr (λ t e. e) refl))
    (λ z rest s e. refl)))
    (λ z rest s e. refl))
    (λ p. refl) (λ h. refl)

-- no expression begins with a closing parenthesis or a character constant
is_begin : Token → Bool
is_begin (token.Named n) = true
is_begin (token.Number n) = true
is_begin token.True = true
is_begin token.False = true
is_begin token.Open = true
is_begin (token.Sign o) = true
is_begin t = false

expr_begins : (t : Tree) (rest : List Token) → starts is_begin (spelling t ++ rest) ≡ true
unfolding is_begin
expr_begins (Number n) rest = refl
expr_begins (Truth true) rest = refl
expr_begins (Truth false) rest = refl
expr_begins (Named n) rest = refl
expr_begins (Ref n args) rest = refl
expr_begins (Paren e) rest = refl
expr_begins (Signed o e) rest = refl
expr_begins (Not e) rest = refl
expr_begins (Binary o a b) rest = ap (starts is_begin) (append_assoc (spelling a) (token.Sign o ∷ spelling b) rest) ∙ expr_begins a (token.Sign o ∷ (spelling b ++ rest))

begins_weaker : (test : Token → Bool) → ((t : Token) → is_begin t ≡ true → test t ≡ true) → (ts : List Token) → starts is_begin ts ≡ true → starts test ts ≡ true
begins_weaker test w [] e = cc
begins_weaker test w (t ∷ ts) e = w t e

begin_opens : (t : Token) → is_begin t ≡ true → opens t ≡ true
unfolding is_begin
begin_opens token.Close e = cc
begin_opens t e = refl

begin_no_constant : (t : Token) → is_begin t ≡ true → no_constant t ≡ true
unfolding is_begin
begin_no_constant (token.Constant bytes) e = cc
begin_no_constant t e = refl

pub expr_opens : Begins opens true expr
expr_opens t rest s = begins_weaker opens begin_opens (spelling t ++ rest) (expr_begins t rest)

expr_no_constant : Begins no_constant true expr
expr_no_constant t rest s = begins_weaker no_constant begin_no_constant (spelling t ++ rest) (expr_begins t rest)

pub exact_item : IsExact item_part
exact_item =
    exact_over forms.item_parts item_of (either no_constant expr constant)
    (exact_either no_constant expr constant exact_expr exact_constant expr_no_constant (λ bytes rest s. refl))
    there back
  where
    there : (x : Tree ⊎ List ℕ) → forms.item_parts (item_of x) ≡ x
    there (inl e) = refl
    there (inr bytes) = refl

    back : (x : Item) → item_of (forms.item_parts x) ≡ x
    back (item.Expr e) = refl
    back (item.Constant bytes) = refl

pub item_opens : Begins opens true item_part
item_opens (item.Expr e) rest s = expr_opens e rest s
item_opens (item.Constant bytes) rest s = refl

pub exact_unit : IsExact unit_part
exact_unit = record {
  sound = sound;
  complete = λ u rest s e. again u rest;
}
  where
    again : (u : WriteUnit) (rest : List Token) → unit_at (forms.unit_token u ∷ rest) ≡ Some (u, rest)
    again unit.Star rest = refl
    again unit.Six rest = refl

    six : (n : ℕ) (u : WriteUnit) → number_unit (pos n) ≡ Some u → token.Number (pos n) ≡ forms.unit_token u
    six n u e =
        (elim (eqb n 6) as (λ b. eqb n 6 ≡ b → cond b (Some unit.Six) None ≡ Some u → token.Number (pos n) ≡ forms.unit_token u) [
          | true ↦ λ h f. let q : unit.Six ≡ u = cc f in ap (λ (k : ℕ). token.Number (pos k)) (eqb-true n 6 h) ∙ ap forms.unit_token q
          | false ↦ λ h f. cc
        ]) refl e

    token_is : (t : Token) (u : WriteUnit) → unit_of t ≡ Some u → t ≡ forms.unit_token u
    token_is (token.Sign op.Mul) u e = let q : unit.Star ≡ u = cc e in ap forms.unit_token q
    token_is (token.Number (pos n)) u e = six n u e
    token_is (token.Number (negsuc n)) u e = cc
    token_is t u e = cc

    sound : (ts : List Token) (u : WriteUnit) (rest : List Token) → unit_at ts ≡ Some (u, rest) → Unit {0} × (ts ≡ forms.unit_token u ∷ rest)
    sound [] u rest e = cc
    sound (t ∷ ts) u rest e =
        let b = bind_some (unit_of t) (λ v. Some (v, ts)) (u, rest) e in
        let q = same_value b.0 u ts rest b.2 in
        let k : t ≡ forms.unit_token u = token_is t b.0 b.1 ∙ ap forms.unit_token q.0 in
        (tt, cc (k, q.1))

-- a variable is not followed by an equals sign
var_unassigned : (w : Word) → Unassigned w var_part
var_unassigned w v rest s e = there v.name (forms.var_form.spelled v) v.subscripts refl
  where
    no_equals : (ts : List Token) → Ends (λ t. not (is_equals t) && not (is_open t)) ts → mark_at mark.Equals ts ≡ None
    no_equals [] e = refl
    no_equals (t ∷ ts) e = rw (not_true (is_equals t) (both (not (is_equals t)) (not (is_open t)) e).0) refl

    after_name : (n : List ℕ) (ts : List Token) → mark_at mark.Equals ts ≡ None → assigned_at w (token.Named n ∷ ts) ≡ None
    after_name n ts h =
        (elim (is_same_text n (word_text w)) as (λ b. (cond b (Some ts) None >>= mark_at mark.Equals) ≡ None) [ true ↦ h | false ↦ refl ])

    there : (n : List ℕ) (ts : List Token) (subscripts : List Tree) → ts ≡ token.Named n ∷ (bracketed expr).form.spelled subscripts → assigned_at w (ts ++ rest) ≡ None
    there n ts [] q = ap (λ (r : List Token). assigned_at w (r ++ rest)) q ∙ after_name n rest (no_equals rest e)
    there n ts (x ∷ xs) q = ap (λ (r : List Token). assigned_at w (r ++ rest)) q ∙ after_name n _ refl

pub exact_port : IsExact port_part
exact_port = exact_optional_keyword word.Port var_part exact_var (var_unassigned word.Port)

pub exact_extra : IsExact extra_part
exact_extra =
    exact_over forms.extra_parts extra_of (either (is_word_token word.End) (assigned word.End label) (assigned word.Iostat var_part))
    (exact_either (is_word_token word.End) (assigned word.End label) (assigned word.Iostat var_part) (exact_assigned word.End label exact_label) (exact_assigned word.Iostat var_part exact_var) (λ l rest s. refl) (λ v rest s. refl))
    there back
  where
    exact_assigned : {X : Type 0} (w : Word) (g : Part X) → IsExact g → IsExact (assigned w g)
    exact_assigned w g x = exact_behind (mark.Word w) (behind Equals g) (exact_behind Equals g x)

    there : (x : _ ⊎ Var) → forms.extra_parts (extra_of x) ≡ x
    there (inl l) = refl
    there (inr v) = refl

    back : (x : Extra) → extra_of (forms.extra_parts x) ≡ x
    back (extra.End l) = refl
    back (extra.Iostat v) = refl

pub exact_extras : IsExact extras_part
exact_extras =
    exact_until Close (such_that (more extra_part) forms.IsEachOnce are_each_once)
    (exact_such_that (more extra_part) forms.IsEachOnce are_each_once (exact_more extra_part exact_extra refl) holds passes) refl
  where
    holds : (es : List Extra) → are_each_once es ≡ true → forms.IsEachOnce es
    holds es e =
        let b = both (leb (forms.ends_in es) 1) (leb (forms.iostats_in es) 1) e in
        (leb-true (forms.ends_in es) 1 b.0, leb-true (forms.iostats_in es) 1 b.1)

    passes : (es : List Extra) → forms.IsEachOnce es → are_each_once es ≡ true
    passes es h = rw (le-leb (forms.ends_in es) 1 h.0, le-leb (forms.iostats_in es) 1 h.1) refl

exact_where : IsExact where_part
exact_where =
    exact_over forms.where_parts where_of (either (is_word_token word.Location) location_part submachine_part)
    (exact_either (is_word_token word.Location) location_part submachine_part
    (exact_behind (mark.Word word.Location) (parens (some_of expr)) (exact_parens (some_of expr) (exact_some expr exact_expr refl) refl))
    (exact_behind (mark.Word word.Submachine) (parens (pair expr (behind Colon expr)))
    (exact_parens (pair expr (behind Colon expr)) (exact_pair expr (behind Colon expr) exact_expr (exact_behind Colon expr exact_expr) (λ z rest s e. refl)) refl))
    (λ l rest s. refl) (λ v rest s. refl))
    there back
  where
    there : (x : List Tree ⊎ (Tree × Tree)) → forms.where_parts (where_of x) ≡ x
    there (inl l) = refl
    there (inr v) = refl

    back : (x : Where) → where_of (forms.where_parts x) ≡ x
    back (place.Location l) = refl
    back (place.Submachine a b) = refl

pub exact_call_part : IsExact call_part_part
exact_call_part =
    exact_over forms.call_parts call_part_of (pair (before (listed expr) Close) (optional any_token where_part))
    (exact_pair (before (listed expr) Close) (optional any_token where_part)
    (exact_before (listed expr) Close (exact_listed expr exact_expr refl refl expr_opens) refl)
    (exact_optional any_token where_part exact_where where_begins)
    (λ z rest s e. ends_any _))
    (λ p. refl) (λ c. refl)
  where
    where_begins : Begins any_token true where_part
    where_begins (place.Location l) rest s = refl
    where_begins (place.Submachine a b) rest s = refl

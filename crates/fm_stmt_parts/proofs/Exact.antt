-- What is read is spelled so, and what is spelled so is read: single parts, and parts joined to others.
use Rattle.std.proofs.Common.{◌≡◌, ℕ, ◌≤◌, Bool, true, false, not, cond, Option, Some, None, ◌⊎◌, List, [], ◌∷◌, ◌++◌, take, drop, refl, sym, ◌∙◌, ap, subst, append_assoc, inl, inr}
use Rattle.std.proofs.lemmas.List.{append-nil, take-append-drop}
use Rattle.std.proofs.lemmas.Bool.{le-leb, leb-true}
use Rattle.std.proofs.Math.Dec.{leb}
use Rattle.std.proofs.Math.Seq.{drop-append_seam}
use Rattle.std.proofs.lemmas.Cmp.{nat_list_eq_equiv}
use Rattle.std.specs.Cmp.Lexicographic.{same_text}
use Rattle.std.specs.Prelude.{pos, negsuc, ◌&&◌}
use Rattle.fm_base.specs.declared.name.Label.{Label}
use Rattle.fm_base.specs.declared.token.Op.TheVariants as op
use Rattle.fm_base.specs.declared.token.Token.{Token}
use Rattle.fm_base.specs.declared.token.Token.TheVariants as token
use Rattle.fm_tree.specs.Spelling.{spelling}
use Rattle.fm_tree.specs.Shape.{IsWellShaped}
use Rattle.fm_tree.specs.Forms.{either_spelled, EitherShape, optional_spelled, OptionalShape, optional_token_spelled}
use Rattle.fm_expr.specs.Longest.{IsExpressionAt, IsLongestExpression, StopsExpression, expr_at}
use Rattle.fm_expr.proofs.Laws.{expr_at_longest, expr_at_whole}
use Rattle.fm_stmt_parts.specs.Exact.{IsExact}
use Rattle.fm_stmt_parts.specs.declared.mark.Mark.{Mark}
use Rattle.fm_stmt_parts.specs.declared.mark.Mark.TheVariants as mark
use Rattle.fm_stmt_parts.specs.declared.mark.Word.{Word}
use Rattle.fm_stmt_parts.specs.Reading.{Part, Read, Ends, starts, token_of, word_text, is, is_word_token, any_token, name, label, constant, expr, stops_expr, mark_at, behind, before, pair, over, over_read, either, optional, optional_behind, optional_token, whole, nothing_left, ◌>>=◌}

-- what a part begins with
abbrev pub Begins : {X : Type 0} → (Token → Bool) → Bool → Part X → Type 0
Begins {X} test b g = (x : X) (rest : List Token) → g.form.Shape x → starts test (g.form.spelled x ++ rest) ≡ b

-- what a part begins with may stand behind another
abbrev pub Leads : {X Y : Type 0} → Part X → Part Y → Type 0
Leads {X} {Y} g h = (y : Y) (rest : List Token) → h.form.Shape y → Ends h.stop rest → Ends g.stop (h.form.spelled y ++ rest)

pub bind_some : {A B : Type 0} (r : Option A) (f : A → Option B) (y : B) → (r >>= f) ≡ Some y → (x : A) × (r ≡ Some x) × (f x ≡ Some y)
bind_some (Some x) f y e = (x, refl, e)
bind_some None f y e = cc

-- the parts of a value and a rest
pub same_value : {X : Type 0} (a b : X) (s t : List Token) → ◌≡◌ {A = Read X} (Some (a, s)) (Some (b, t)) → (a ≡ b) × (s ≡ t)
same_value {X} a b s t e = (ap (value_or a) e, ap (rest_or s) e)
  where
    value_or : {X : Type 0} → X → Read X → X
    value_or d None = d
    value_or d (Some p) = p.0

    rest_or : {X : Type 0} → List Token → Read X → List Token
    rest_or d None = d
    rest_or d (Some p) = p.1

-- the value that another was made of
pub made_of : {X Y : Type 0} (make : X → Y) (g : List Token → Read X) (ts : List Token) (y : Y) (rest : List Token) → over_read make g ts ≡ Some (y, rest)
    → (x : X) × (g ts ≡ Some (x, rest)) × (make x ≡ y)
made_of make g ts y rest e =
    let b = bind_some (g ts) (λ a. Some (make a.0, a.1)) (y, rest) e in
    let q = same_value (make b.0.0) y b.0.1 rest b.2 in
    (b.0.0, b.1 ∙ ap (λ (r : List Token). Some (b.0.0, r)) q.1, q.0)

pub both : (a b : Bool) → (a && b) ≡ true → (a ≡ true) × (b ≡ true)
both true true e = (refl, refl)
both true false e = cc
both false b e = cc

pub not_true : (b : Bool) → not b ≡ true → b ≡ false
not_true true e = cc
not_true false e = refl

pub ends_any : (ts : List Token) → Ends any_token ts
ends_any [] = tt
ends_any (t ∷ ts) = refl

pub ends_left : (p q : Token → Bool) (ts : List Token) → Ends (λ t. p t && q t) ts → Ends p ts
ends_left p q [] e = tt
ends_left p q (t ∷ ts) e = (both (p t) (q t) e).0

pub ends_right : (p q : Token → Bool) (ts : List Token) → Ends (λ t. p t && q t) ts → Ends q ts
ends_right p q [] e = tt
ends_right p q (t ∷ ts) e = (both (p t) (q t) e).1

pub not_started : (p : Token → Bool) (ts : List Token) → Ends (λ t. not (p t)) ts → starts p ts ≡ false
not_started p [] e = refl
not_started p (t ∷ ts) e = not_true (p t) e

-- fixed tokens

word_token_is : (w : Word) (t : Token) → is_word_token w t ≡ true → t ≡ token.Named (word_text w)
word_token_is w (token.Named n) e = ap token.Named (same_text n (word_text w) (sym e))
word_token_is w t e = cc

pub is_token : (m : Mark) (t : Token) → is m t ≡ true → t ≡ token_of m
is_token mark.Open token.Open e = refl
is_token mark.Open t e = cc
is_token mark.Close token.Close e = refl
is_token mark.Close t e = cc
is_token mark.Comma token.Comma e = refl
is_token mark.Comma t e = cc
is_token mark.Equals token.Equals e = refl
is_token mark.Equals t e = cc
is_token mark.Colon token.Colon e = refl
is_token mark.Colon t e = cc
is_token mark.Star (token.Sign op.Mul) e = refl
is_token mark.Star t e = cc
is_token (mark.Word w) t e = word_token_is w t e

pub is_itself : (m : Mark) → is m (token_of m) ≡ true
is_itself mark.Open = refl
is_itself mark.Close = refl
is_itself mark.Comma = refl
is_itself mark.Equals = refl
is_itself mark.Colon = refl
is_itself mark.Star = refl
is_itself (mark.Word w) = nat_list_eq_equiv.refl (word_text w)

pub mark_sound : (m : Mark) (ts rest : List Token) → mark_at m ts ≡ Some rest → ts ≡ token_of m ∷ rest
mark_sound m [] rest e = cc
mark_sound m (t ∷ ts) rest e =
    (elim (is m t) as (λ b. is m t ≡ b → cond b (Some ts) None ≡ Some rest → t ∷ ts ≡ token_of m ∷ rest) [
      | true ↦ λ h f. cc (is_token m t h, f)
      | false ↦ λ h f. cc
    ]) refl e

pub mark_complete : (m : Mark) (rest : List Token) → mark_at m (token_of m ∷ rest) ≡ Some rest
mark_complete m rest = rw (is_itself m) refl

-- single parts

pub exact_name : IsExact name
exact_name = record {
  sound = sound;
  complete = λ x rest s e. refl;
}
  where
    sound : (ts : List Token) (x : List ℕ) (rest : List Token) → name.read ts ≡ Some (x, rest) → Unit {0} × (ts ≡ token.Named x ∷ rest)
    sound [] x rest e = cc
    sound (token.Named n ∷ ts) x rest e = let q = same_value n x ts rest e in (tt, cc (q.0, q.1))
    sound (t ∷ ts) x rest e = cc

pub exact_constant : IsExact constant
exact_constant = record {
  sound = sound;
  complete = λ x rest s e. refl;
}
  where
    sound : (ts : List Token) (x : List ℕ) (rest : List Token) → constant.read ts ≡ Some (x, rest) → Unit {0} × (ts ≡ token.Constant x ∷ rest)
    sound [] x rest e = cc
    sound (token.Constant n ∷ ts) x rest e = let q = same_value n x ts rest e in (tt, cc (q.0, q.1))
    sound (t ∷ ts) x rest e = cc

-- the parts of the expression
pub exact_expr : IsExact expr
exact_expr = record {
  sound = λ ts t rest e.
      let b = bind_some (expr_at ts) (λ p. Some (p.0, drop p.1 ts)) (t, rest) e in
      let f : IsLongestExpression ts b.0.0 b.0.1 = subst (IsExpressionAt ts) b.1 (expr_at_longest ts) in
      let q = same_value b.0.0 t (drop b.0.1 ts) rest b.2 in
      (subst IsWellShaped q.0 f.shaped, sym (take-append-drop b.0.1 ts) ∙ (let w : take b.0.1 ts ++ drop b.0.1 ts ≡ spelling t ++ rest = cc (q.0, q.1, f.spelled) in w));
  complete = λ t rest s e.
      rw (expr_at_whole t rest s (stops rest e), drop-append_seam (spelling t) rest) refl;
}
  where
    stops : (ts : List Token) → Ends stops_expr ts → StopsExpression ts
    stops [] e = tt
    stops (token.Close ∷ ts) e = tt
    stops (token.Comma ∷ ts) e = tt
    stops (token.Equals ∷ ts) e = tt
    stops (token.Colon ∷ ts) e = tt
    stops (t ∷ ts) e = cc

pub exact_label : IsExact label
exact_label = record {
  sound = sound;
  complete = λ n rest s e. rw (le-leb 1 n.0 s.0, le-leb n.0 99999 s.1) refl;
}
  where
    in_range : (n : ℕ) (ts : List Token) (x : Label) (rest : List Token) (b : Bool) → (leb 1 n && leb n 99999) ≡ b → ◌≡◌ {A = Read Label} (cond b (Some (record { 0 = n }, ts)) None) (Some (x, rest))
        → ((1 ≤ x.0) × (x.0 ≤ 99999)) × (token.Number (pos n) ∷ ts ≡ token.Number (pos x.0) ∷ rest)
    in_range n ts x rest true h e =
        let q = same_value (record { 0 = n }) x ts rest e in
        let k : n ≡ x.0 = ap (λ (l : Label). l.0) q.0 in
        let r = both (leb 1 n) (leb n 99999) h in
        (subst (λ (k : ℕ). (1 ≤ k) × (k ≤ 99999)) k (leb-true 1 n r.0, leb-true n 99999 r.1), cc (k, q.1))
    in_range n ts x rest false h e = cc

    sound : (ts : List Token) (x : Label) (rest : List Token) → label.read ts ≡ Some (x, rest) → ((1 ≤ x.0) × (x.0 ≤ 99999)) × (ts ≡ token.Number (pos x.0) ∷ rest)
    sound [] x rest e = cc
    sound (token.Number (pos n) ∷ ts) x rest e = in_range n ts x rest (leb 1 n && leb n 99999) refl e
    sound (token.Number (negsuc n) ∷ ts) x rest e = cc
    sound (t ∷ ts) x rest e = cc

-- parts joined to others

pub exact_behind : {X : Type 0} (m : Mark) (g : Part X) → IsExact g → IsExact (behind m g)
exact_behind {X} m g x = record {
  sound = λ ts y rest e.
      let b = bind_some (mark_at m ts) g.read (y, rest) e in
      let s = x.sound b.0 y rest b.2 in
      (s.0, mark_sound m ts b.0 b.1 ∙ ap (λ (r : List Token). token_of m ∷ r) s.1);
  complete = λ y rest s e. rw (mark_complete m (g.form.spelled y ++ rest)) (x.complete y rest s e);
}

pub exact_before : {X : Type 0} (g : Part X) (m : Mark) → IsExact g → g.stop (token_of m) ≡ true → IsExact (before g m)
exact_before {X} g m x k = record {
  sound = λ ts y rest e.
      let b = bind_some (g.read ts) (λ a. mark_at m a.1 >>= λ r. Some (a.0, r)) (y, rest) e in
      let d = bind_some (mark_at m b.0.1) (λ r. Some (b.0.0, r)) (y, rest) b.2 in
      let q = same_value b.0.0 y d.0 rest d.2 in
      let s = x.sound ts b.0.0 b.0.1 b.1 in (
        subst g.form.Shape q.0 s.0,
        s.1 ∙ ap (λ (r : List Token). g.form.spelled b.0.0 ++ r) (mark_sound m b.0.1 d.0 d.1)
            ∙ (let f : g.form.spelled b.0.0 ++ token_of m ∷ d.0 ≡ g.form.spelled y ++ token_of m ∷ rest = cc (q.0, q.1) in f)
            ∙ sym (append_assoc (g.form.spelled y) (token_of m ∷ []) rest),
      );
  complete = λ y rest s e.
      rw (append_assoc (g.form.spelled y) (token_of m ∷ []) rest, x.complete y (token_of m ∷ rest) s k, mark_complete m rest) refl;
}

pub exact_pair : {X Y : Type 0} (g : Part X) (h : Part Y) → IsExact g → IsExact h → Leads g h → IsExact (pair g h)
exact_pair {X} {Y} g h x y l = record {
  sound = λ ts p rest e.
      let b = bind_some (g.read ts) (λ a. h.read a.1 >>= λ c. Some ((a.0, c.0), c.1)) (p, rest) e in
      let d = bind_some (h.read b.0.1) (λ c. Some ((b.0.0, c.0), c.1)) (p, rest) b.2 in
      let q = same_value (b.0.0, d.0.0) p d.0.1 rest d.2 in
      let s = x.sound ts b.0.0 b.0.1 b.1 in
      let t = y.sound b.0.1 d.0.0 d.0.1 d.1 in (
        subst (λ (z : X × Y). g.form.Shape z.0 × h.form.Shape z.1) q.0 (s.0, t.0),
        s.1 ∙ ap (λ (r : List Token). g.form.spelled b.0.0 ++ r) t.1 ∙ sym (append_assoc (g.form.spelled b.0.0) (h.form.spelled d.0.0) d.0.1)
            ∙ ap (λ (z : X × Y). (g.form.spelled z.0 ++ h.form.spelled z.1) ++ d.0.1) q.0 ∙ ap (λ (r : List Token). (g.form.spelled p.0 ++ h.form.spelled p.1) ++ r) q.1,
      );
  complete = λ p rest s e.
      rw (append_assoc (g.form.spelled p.0) (h.form.spelled p.1) rest, x.complete p.0 (h.form.spelled p.1 ++ rest) s.0 (l p.1 rest s.1 e), y.complete p.1 rest s.1 e) refl;
}

pub exact_over : {X Y : Type 0} (parts : Y → X) (make : X → Y) (g : Part X) → IsExact g → ((x : X) → parts (make x) ≡ x) → ((y : Y) → make (parts y) ≡ y) → IsExact (over parts make g)
exact_over {X} {Y} parts make g x there back = record {
  sound = λ ts y rest e.
      let o = made_of make g.read ts y rest e in
      let q : o.0 ≡ parts y = sym (there o.0) ∙ ap parts o.2 in
      subst (λ (z : X). g.form.Shape z × (ts ≡ g.form.spelled z ++ rest)) q (x.sound ts o.0 rest o.1);
  complete = λ y rest s e. rw (x.complete (parts y) rest s e) (ap (λ (z : Y). Some (z, rest)) (back y));
}

pub exact_either : {X Y : Type 0} (test : Token → Bool) (g : Part X) (h : Part Y) → IsExact g → IsExact h → Begins test true g → Begins test false h → IsExact (either test g h)
exact_either {X} {Y} test g h x y yes_g no_h = record {
  sound = λ ts z rest e.
      let P : X ⊎ Y → Type 0 = λ w. EitherShape g.form h.form w × (ts ≡ either_spelled g.form h.form w ++ rest) in
      (elim (starts test ts) as (λ b. ◌≡◌ {A = Read (X ⊎ Y)} (cond b (over_read inl g.read ts) (over_read inr h.read ts)) (Some (z, rest)) → P z) [
        | true ↦ λ f. let o = made_of inl g.read ts z rest f in subst P o.2 (x.sound ts o.0 rest o.1)
        | false ↦ λ f. let o = made_of inr h.read ts z rest f in subst P o.2 (y.sound ts o.0 rest o.1)
      ]) e;
  complete = complete;
}
  where
    complete : (z : X ⊎ Y) (rest : List Token) → EitherShape g.form h.form z → Ends (λ t. g.stop t && h.stop t) rest
        → (either test g h).read (either_spelled g.form h.form z ++ rest) ≡ Some (z, rest)
    complete (inl a) rest s e = rw (yes_g a rest s, x.complete a rest s (ends_left g.stop h.stop rest e)) refl
    complete (inr b) rest s e = rw (no_h b rest s, y.complete b rest s (ends_right g.stop h.stop rest e)) refl

pub exact_optional : {X : Type 0} (test : Token → Bool) (g : Part X) → IsExact g → Begins test true g → IsExact (optional test g)
exact_optional {X} test g x begins = record {
  sound = λ ts z rest e.
      let P : Option X → Type 0 = λ w. OptionalShape g.form w × (ts ≡ optional_spelled g.form w ++ rest) in
      (elim (starts test ts) as (λ b. ◌≡◌ {A = Read (Option X)} (cond b (over_read Some g.read ts) (Some (None, ts))) (Some (z, rest)) → P z) [
        | true ↦ λ f. let o = made_of Some g.read ts z rest f in subst P o.2 (x.sound ts o.0 rest o.1)
        | false ↦ λ f. let q = same_value None z ts rest f in subst P q.0 (tt, q.1)
      ]) e;
  complete = complete;
}
  where
    complete : (z : Option X) (rest : List Token) → OptionalShape g.form z → Ends (optional test g).stop rest → (optional test g).read (optional_spelled g.form z ++ rest) ≡ Some (z, rest)
    complete None rest s e = rw (not_started test rest (ends_left (λ t. not (test t)) g.stop rest e)) refl
    complete (Some a) rest s e = rw (begins a rest s, x.complete a rest s (ends_right (λ t. not (test t)) g.stop rest e)) refl

pub exact_optional_behind : {X : Type 0} (m : Mark) (g : Part X) → IsExact g → IsExact (optional_behind m g)
exact_optional_behind {X} m g x = record {
  sound = λ ts z rest e. there ts z rest (px.sound ts z rest e);
  complete = complete;
}
  where
    px : IsExact (optional (is m) (behind m g))
    px = exact_optional (is m) (behind m g) (exact_behind m g x) (λ y rest s. is_itself m)

    there : (ts : List Token) (z : Option X) (rest : List Token) → (optional (is m) (behind m g)).form.Shape z × (ts ≡ (optional (is m) (behind m g)).form.spelled z ++ rest)
        → (optional_behind m g).form.Shape z × (ts ≡ (optional_behind m g).form.spelled z ++ rest)
    there ts None rest w = w
    there ts (Some y) rest w = w

    complete : (z : Option X) (rest : List Token) → (optional_behind m g).form.Shape z → Ends (optional_behind m g).stop rest → (optional_behind m g).read ((optional_behind m g).form.spelled z ++ rest) ≡ Some (z, rest)
    complete None rest s e = px.complete None rest s e
    complete (Some y) rest s e = px.complete (Some y) rest s e

pub exact_optional_token : (m : Mark) → IsExact (optional_token m)
exact_optional_token m = record {
  sound = sound;
  complete = complete;
}
  where
    P : List Token → List Token → Bool → Type 0
    P ts rest z = Unit {0} × (ts ≡ optional_token_spelled (token_of m) z ++ rest)

    sound : (ts : List Token) (z : Bool) (rest : List Token) → (optional_token m).read ts ≡ Some (z, rest) → Unit {0} × (ts ≡ optional_token_spelled (token_of m) z ++ rest)
    sound [] z rest e = let q = same_value false z [] rest e in subst (λ (w : Bool). Unit {0} × ([] ≡ optional_token_spelled (token_of m) w ++ rest)) q.0 (tt, q.1)
    sound (t ∷ ts) z rest e =
        (elim (is m t) as (λ b. is m t ≡ b → ◌≡◌ {A = Read Bool} (cond b (Some (true, ts)) (Some (false, t ∷ ts))) (Some (z, rest)) → Unit {0} × (t ∷ ts ≡ optional_token_spelled (token_of m) z ++ rest)) [
          | true ↦ λ h f.
              let q = same_value true z ts rest f in
              subst (λ (w : Bool). Unit {0} × (t ∷ ts ≡ optional_token_spelled (token_of m) w ++ rest)) q.0 (tt, cc (is_token m t h, q.1))
          | false ↦ λ h f.
              let q = same_value false z (t ∷ ts) rest f in
              subst (λ (w : Bool). Unit {0} × (t ∷ ts ≡ optional_token_spelled (token_of m) w ++ rest)) q.0 (tt, q.1)
        ]) refl e

    complete : (z : Bool) (rest : List Token) → Unit {0} → Ends (optional_token m).stop rest → (optional_token m).read (optional_token_spelled (token_of m) z ++ rest) ≡ Some (z, rest)
    complete true rest s e = rw (is_itself m) refl
    complete false [] s e = refl
    complete false (t ∷ ts) s e = rw (not_true (is m t) e) refl

-- a form that is all of the tokens
pub whole_sound : {X : Type 0} (g : Part X) → IsExact g → (ts : List Token) (x : X) → whole g.read ts ≡ Some x → g.form.Shape x × (ts ≡ g.form.spelled x)
whole_sound {X} g x ts y e =
    let b = bind_some (g.read ts) (λ a. nothing_left a.1 >>= λ u. Some a.0) y e in
    let s = x.sound ts b.0.0 b.0.1 b.1 in
    at_end b.0.1 b.0.0 s.0 s.1 b.2
  where
    at_end : (rest : List Token) (z : X) → g.form.Shape z → ts ≡ g.form.spelled z ++ rest → (nothing_left rest >>= λ u. Some z) ≡ Some y → g.form.Shape y × (ts ≡ g.form.spelled y)
    at_end [] z s e f = let q : z ≡ y = cc f in (subst g.form.Shape q s, e ∙ append-nil (g.form.spelled z) ∙ ap g.form.spelled q)
    at_end (t ∷ ts) z s e f = cc f

pub whole_complete : {X : Type 0} (g : Part X) → IsExact g → (x : X) → g.form.Shape x → whole g.read (g.form.spelled x) ≡ Some x
whole_complete g x y s = ap (λ (r : List Token). whole g.read r) (sym (append-nil (g.form.spelled y))) ∙ rw (x.complete y [] s tt) refl

-- a part that may be absent: what it begins with, and what stands behind it, may stand behind the one before it
pub leads_optional : {X Y : Type 0} (g : Part X) (test : Token → Bool) (h : Part Y) → ((t : Token) → h.stop t ≡ true → g.stop t ≡ true) → Leads g h → Leads g (optional test h)
leads_optional {X} {Y} g test h l k None [] s e = tt
leads_optional {X} {Y} g test h l k None (t ∷ ts) s e = l t (both (not (test t)) (h.stop t) e).1
leads_optional {X} {Y} g test h l k (Some y) rest s e = k y rest s (ends_right (λ t. not (test t)) h.stop rest e)

pub leads_optional_behind : {X Y : Type 0} (g : Part X) (m : Mark) (h : Part Y) → ((t : Token) → h.stop t ≡ true → g.stop t ≡ true) → g.stop (token_of m) ≡ true → Leads g (optional_behind m h)
leads_optional_behind {X} {Y} g m h l k None [] s e = tt
leads_optional_behind {X} {Y} g m h l k None (t ∷ ts) s e = l t (both (not (is m t)) (h.stop t) e).1
leads_optional_behind {X} {Y} g m h l k (Some y) rest s e = k

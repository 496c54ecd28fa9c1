-- What the reader does along the spelling of a tree.
use Rattle.std.proofs.Common.{◌≡◌, ℕ, ◌+◌, ◌<◌, ◌≤◌, true, false, Some, None, List, [], ◌∷◌, ◌++◌, length, refl, ◌∙◌, ap, append_assoc, length-append, arith, inl, inr}
use Rattle.std.proofs.lemmas.Bool.{le-leb, le-ltb, lt-ltb, cases_lt}
use Rattle.fm_base.specs.declared.token.Op.{Op}
use Rattle.fm_base.specs.declared.token.Op.TheVariants as ops
use Rattle.fm_base.specs.declared.token.Token.{Token}
use Rattle.fm_base.specs.declared.token.Token.TheVariants as tokens
use Rattle.fm_tree.specs.Tree.{Tree, Trees, Number, Truth, Named, Ref, Paren, Signed, Not, Binary, NoTrees, More, trees_from, list_of}
use Rattle.fm_tree.specs.Spelling.{spelling, tail_spelling}
use Rattle.fm_tree.specs.Shape.{Levels, levels, from_left, relation, grade, IsSignOp, IsWellShaped, AreWellShaped}
use Rattle.fm_expr.specs.declared.reader.Frame.{Frame}
use Rattle.fm_expr.specs.declared.reader.Frame.TheVariants.{Joins, Negates, Signs, Opens, Calls}
use Rattle.fm_expr.specs.Reading.{need, demand, reduction, operator_step, close_step, comma_step, prefix_step, onward, last_whole, run}

-- what holds of each row of the table of levels
pub record IsRow (x : Levels) : Type 0 where
  pub low : x.own ≤ 8
  pub left : x.own ≤ x.left
  pub right : x.own ≤ x.right
  pub strict : 8 ≤ x.own → 9 ≤ x.left
  pub above : x.own < 8 → x.own < x.right
  pub positive : 0 < x.right
  pub right_low : x.right ≤ 9

left_row : (n k : ℕ) → n ≤ 7 → n < k → k ≤ 9 → IsRow (from_left n k)
left_row n k a b c = record {
  low = omega arith;
  left = omega arith;
  right = omega arith;
  strict = λ h. omega arith;
  above = λ h. b;
  positive = omega arith;
  right_low = c;
}

relation_row : IsRow relation
relation_row = record {
  low = omega arith;
  left = omega arith;
  right = omega arith;
  strict = λ h. omega arith;
  above = λ h. omega arith;
  positive = omega arith;
  right_low = omega arith;
}

pub table : (op : Op) → IsRow (levels op)
table ops.Eqv = left_row 1 2 (omega arith) (omega arith) (omega arith)
table ops.Neqv = left_row 1 2 (omega arith) (omega arith) (omega arith)
table ops.Or = left_row 2 3 (omega arith) (omega arith) (omega arith)
table ops.And = left_row 3 4 (omega arith) (omega arith) (omega arith)
table ops.Not = record {
  low = omega arith;
  left = omega arith;
  right = omega arith;
  strict = λ h. omega arith;
  above = λ h. omega arith;
  positive = omega arith;
  right_low = omega arith;
}
table ops.Eq = relation_row
table ops.Ne = relation_row
table ops.Lt = relation_row
table ops.Le = relation_row
table ops.Gt = relation_row
table ops.Ge = relation_row
table ops.Add = left_row 6 7 (omega arith) (omega arith) (omega arith)
table ops.Sub = left_row 6 7 (omega arith) (omega arith) (omega arith)
table ops.Mul = left_row 7 8 (omega arith) (omega arith) (omega arith)
table ops.Div = left_row 7 8 (omega arith) (omega arith) (omega arith)
table ops.Pow = record {
  low = omega arith;
  left = omega arith;
  right = omega arith;
  strict = λ h. omega arith;
  above = λ h. omega arith;
  positive = omega arith;
  right_low = omega arith;
}

pub grade_low : (t : Tree) → grade t ≤ 9
grade_low (Number n) = omega arith
grade_low (Truth b) = omega arith
grade_low (Named name) = omega arith
grade_low (Ref name args) = omega arith
grade_low (Paren e) = omega arith
grade_low (Signed op e) = omega arith
grade_low (Not e) = omega arith
grade_low (Binary op a b) = omega (arith, (table op).low)

-- the least level of the last operand of a tree
abbrev pub right_of : Tree → ℕ
right_of (Binary op a b) = (levels op).right
right_of (Not e) = 5
right_of (Signed op e) = 7
right_of t = 10

grade_right : (t : Tree) → grade t ≤ right_of t
grade_right (Number n) = omega arith
grade_right (Truth b) = omega arith
grade_right (Named name) = omega arith
grade_right (Ref name args) = omega arith
grade_right (Paren e) = omega arith
grade_right (Signed op e) = omega arith
grade_right (Not e) = omega arith
grade_right (Binary op a b) = (table op).right

pub right_positive : (t : Tree) → 0 < right_of t
right_positive (Number n) = omega arith
right_positive (Truth b) = omega arith
right_positive (Named name) = omega arith
right_positive (Ref name args) = omega arith
right_positive (Paren e) = omega arith
right_positive (Signed op e) = omega arith
right_positive (Not e) = omega arith
right_positive (Binary op a b) = (table op).positive

row_ends : (x y : Levels) → IsRow x → IsRow y → x.left ≤ y.own → x.own < y.right
row_ends x y r s h =
    elim (cases_lt y.own 8) [
      | inl a ↦ omega (arith, s.above a)
      | inr a ↦ elim (cases_lt x.own 8) [ inl b ↦ omega arith | inr b ↦ omega (arith, r.strict b) ]
    ]

-- an operator that takes a tree as its left operand ends each operator in it
left_ends : (op : Op) (t : Tree) → (levels op).left ≤ grade t → (levels op).own < right_of t
left_ends op (Number n) h = omega (arith, (table op).low)
left_ends op (Truth b) h = omega (arith, (table op).low)
left_ends op (Named name) h = omega (arith, (table op).low)
left_ends op (Ref name args) h = omega (arith, (table op).low)
left_ends op (Paren e) h = omega (arith, (table op).low)
left_ends op (Signed in_op e) h = omega (arith, (table op).left)
left_ends op (Not e) h = omega (arith, (table op).left)
left_ends op (Binary in_op a b) h = row_ends (levels op) (levels in_op) (table op) (table in_op) h

-- what stands open after the spelling of a tree that begins at place n, and its last operand
abbrev pub spine : Tree → ℕ → List Frame → List Frame
spine (Binary op a b) n fs = spine b (n + length (spelling a) + 1) (Joins a op (n + length (spelling a)) ∷ fs)
spine (Not e) n fs = spine e (n + 1) (Negates ∷ fs)
spine (Signed op e) n fs = spine e (n + 1) (Signs op ∷ fs)
spine t n fs = fs

abbrev pub last : Tree → Tree
last (Binary op a b) = last b
last (Not e) = last e
last (Signed op e) = last e
last t = t

pub stays : (m : ℕ) (fs : List Frame) (t : Tree) → demand fs ≤ m → reduction m fs t ≡ (fs, t)
stays m [] t h = refl
stays m (f ∷ fs) t h = rw (le-ltb m (need f) h) refl

pub closes : (t : Tree) → IsWellShaped t → (m n : ℕ) (fs : List Frame) → m < right_of t → reduction m (spine t n fs) (last t) ≡ reduction m fs t
closes (Number x) w m n fs h = refl
closes (Truth b) w m n fs h = refl
closes (Named name) w m n fs h = refl
closes (Ref name args) w m n fs h = refl
closes (Paren e) w m n fs h = refl
closes (Signed op e) w m n fs h =
    closes e w.2 m _ (Signs op ∷ fs) (omega (arith, w.1, grade_right e)) ∙ rw (lt-ltb m 7 h) refl
closes (Not e) w m n fs h =
    closes e w.1 m _ (Negates ∷ fs) (omega (arith, w.0, grade_right e)) ∙ rw (lt-ltb m 5 h) refl
closes (Binary op a b) w m n fs h =
    closes b w.3 m _ (Joins a op (n + length (spelling a)) ∷ fs) (omega (arith, w.2, grade_right b)) ∙ rw (lt-ltb m (levels op).right h) refl

-- and what was the whole is the whole again
pub encloses : (t : Tree) (n k : ℕ) (fs : List Frame) → last_whole (spine t n fs) (Some (last t, k)) ≡ last_whole fs (Some (t, k))
encloses (Number x) n k fs = refl
encloses (Truth b) n k fs = refl
encloses (Named name) n k fs = refl
encloses (Ref name args) n k fs = refl
encloses (Paren e) n k fs = refl
encloses (Signed op e) n k fs = encloses e _ k (Signs op ∷ fs)
encloses (Not e) n k fs = encloses e _ k (Negates ∷ fs)
encloses (Binary op a b) n k fs = encloses b _ k (Joins a op (n + length (spelling a)) ∷ fs)

sign_opens : (op : Op) (fs : List Frame) → IsSignOp op → demand fs ≤ 6 → prefix_step op fs ≡ (true, Signs op ∷ fs, None)
sign_opens op fs (inl e) d = rw (e, le-leb (demand fs) 6 d) refl
sign_opens op fs (inr e) d = rw (e, le-leb (demand fs) 6 d) refl

from_list_of : (ts : Trees) → trees_from (list_of ts) ≡ ts
from_list_of NoTrees = refl
from_list_of (More t ts) = ap (More t) (from_list_of ts)

mutual
  pub reads : (t : Tree) → IsWellShaped t → (ts : List Token) (fs : List Frame) (n k : ℕ) → demand fs ≤ grade t → k ≡ n + length (spelling t)
      → run (spelling t ++ ts) fs None n ≡ run ts (spine t n fs) (Some (last t)) k
  reads (Number x) w ts fs n k d e = let f : n + 1 ≡ k = omega arith in ap (run ts fs (Some (Number x))) f
  reads (Truth true) w ts fs n k d e = let f : n + 1 ≡ k = omega arith in ap (run ts fs (Some (Truth true))) f
  reads (Truth false) w ts fs n k d e = let f : n + 1 ≡ k = omega arith in ap (run ts fs (Some (Truth false))) f
  reads (Named name) w ts fs n k d e = let f : n + 1 ≡ k = omega arith in ap (run ts fs (Some (Named name))) f
  reads (Ref name NoTrees) w ts fs n k d e =
      let f : n + 1 + 1 + 1 ≡ k = omega arith in ap (run ts fs (Some (Ref name NoTrees))) f
  reads (Ref name (More t us)) w ts fs n k d e =
      ap (λ (xs : List Token). run xs (Calls name [] (n + 1) ∷ fs) None (n + 1 + 1)) (append_assoc (spelling t ++ tail_spelling us) (tokens.Close ∷ []) ts ∙ append_assoc (spelling t) (tail_spelling us) (tokens.Close ∷ ts))
      ∙ reads t w.0 (tail_spelling us ++ tokens.Close ∷ ts) (Calls name [] (n + 1) ∷ fs) (n + 1 + 1) (n + 1 + 1 + length (spelling t)) (omega arith) refl
      ∙ reads_tail us w.1 t w.0 name [] (n + 1) fs ts (n + 1 + 1) (n + 1 + 1 + length (spelling t)) k
      (omega (arith, length-append (spelling t ++ tail_spelling us) (tokens.Close ∷ []), length-append (spelling t) (tail_spelling us)))
      ∙ ap (λ (vs : Trees). run ts fs (Some (Ref name (More t vs))) k) (from_list_of us)
  reads (Paren e) w ts fs n k d q =
      ap (λ (xs : List Token). run xs (Opens ∷ fs) None (n + 1)) (append_assoc (spelling e) (tokens.Close ∷ []) ts)
      ∙ reads e w (tokens.Close ∷ ts) (Opens ∷ fs) (n + 1) (n + 1 + length (spelling e)) (omega arith) refl
      ∙ ap (λ (r : List Frame × Tree). onward (close_step r.0 r.1) (λ gs u. run ts gs u (n + 1 + length (spelling e) + 1)) (n + 1 + length (spelling e))) (closes e w 0 (n + 1) (Opens ∷ fs) (right_positive e))
      ∙ (let f : n + 1 + length (spelling e) + 1 ≡ k = omega (arith, length-append (spelling e) (tokens.Close ∷ [])) in ap (run ts fs (Some (Paren e))) f)
  reads (Signed op e) w ts fs n k d q =
      rw (sign_opens op fs w.0 d) (reads e w.2 ts (Signs op ∷ fs) (n + 1) k w.1 (omega arith))
  reads (Not e) w ts fs n k d q =
      rw (le-leb (demand fs) 4 d) (reads e w.1 ts (Negates ∷ fs) (n + 1) k w.0 (omega arith))
  reads (Binary op a b) w ts fs n k d q =
      let j : ℕ = n + length (spelling a) in
      ap (λ (xs : List Token). run xs fs None n) (append_assoc (spelling a) (tokens.Sign op ∷ spelling b) ts)
      ∙ reads a w.1 (tokens.Sign op ∷ (spelling b ++ ts)) fs n j (omega (arith, w.0, (table op).left)) refl
      ∙ ap (λ (r : List Frame × Tree). onward (operator_step op r j) (λ gs u. run (spelling b ++ ts) gs u (j + 1)) j)
      (closes a w.1 (levels op).own n fs (left_ends op a w.0) ∙ stays (levels op).own fs a d)
      ∙ rw (le-leb (levels op).left (grade a) w.0) (reads b w.3 ts (Joins a op j ∷ fs) (j + 1) k w.2 (omega (arith, length-append (spelling a) (tokens.Sign op ∷ spelling b))))

  pub reads_tail : (us : Trees) → AreWellShaped us → (t : Tree) → IsWellShaped t → (name : List ℕ) (acc : List Tree) (at : ℕ) (fs : List Frame) (ts : List Token) (m n k : ℕ)
      → k ≡ n + length (tail_spelling us) + 1
      → run (tail_spelling us ++ tokens.Close ∷ ts) (spine t m (Calls name acc at ∷ fs)) (Some (last t)) n ≡ run ts fs (Some (Ref name (trees_from (acc ++ t ∷ list_of us)))) k
  reads_tail NoTrees v t w name acc at fs ts m n k e =
      ap (λ (r : List Frame × Tree). onward (close_step r.0 r.1) (λ gs u. run ts gs u (n + 1)) n) (closes t w 0 m (Calls name acc at ∷ fs) (right_positive t))
      ∙ (let f : n + 1 ≡ k = omega arith in ap (run ts fs (Some (Ref name (trees_from (acc ++ t ∷ []))))) f)
  reads_tail (More u us) v t w name acc at fs ts m n k e =
      ap (λ (r : List Frame × Tree). onward (comma_step r.0 r.1) (λ gs x. run ((spelling u ++ tail_spelling us) ++ tokens.Close ∷ ts) gs x (n + 1)) n) (closes t w 0 m (Calls name acc at ∷ fs) (right_positive t))
      ∙ ap (λ (xs : List Token). run xs (Calls name (acc ++ t ∷ []) at ∷ fs) None (n + 1)) (append_assoc (spelling u) (tail_spelling us) (tokens.Close ∷ ts))
      ∙ reads u v.0 (tail_spelling us ++ tokens.Close ∷ ts) (Calls name (acc ++ t ∷ []) at ∷ fs) (n + 1) (n + 1 + length (spelling u)) (omega arith) refl
      ∙ reads_tail us v.1 u v.0 name (acc ++ t ∷ []) at fs ts (n + 1) (n + 1 + length (spelling u)) k
      (omega (arith, length-append (spelling u) (tail_spelling us)))
      ∙ ap (λ (xs : List Tree). run ts fs (Some (Ref name (trees_from xs))) k) (append_assoc acc (t ∷ []) (u ∷ list_of us))

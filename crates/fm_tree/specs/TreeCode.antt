-- A code of trees: the marks of their postfix order.
-- Source: the postfix order of a tree, as usual.
use Rattle.std.specs.Prelude.{◌≡◌, ℕ, ℤ, pos, true, false, ◌==◌, if◌then◌else◌, List, [], ◌∷◌, ◌++◌, refl}
use Rattle.std.specs.Coded.{Coded, code_by, coded_list, coded×, coded_ℕ, coded_ℤ}
use Rattle.std.proofs.Common.{ap, sym, ◌∙◌, append_assoc}
use Rattle.std.proofs.lemmas.List.{append-nil}
use Rattle.fm_base.specs.declared.token.Op.{Op}
use Rattle.fm_base.specs.declared.token.Op.TheVariants as op
use Rattle.fm_tree.specs.Tree.{Tree, Trees, Number, Truth, Named, Ref, Paren, Signed, Not, Binary, NoTrees, More}

abbrev pub op_number : Op → ℕ
op_number op.Eqv = 0
op_number op.Neqv = 1
op_number op.Or = 2
op_number op.And = 3
op_number op.Not = 4
op_number op.Eq = 5
op_number op.Ne = 6
op_number op.Lt = 7
op_number op.Le = 8
op_number op.Gt = 9
op_number op.Ge = 10
op_number op.Add = 11
op_number op.Sub = 12
op_number op.Mul = 13
op_number op.Div = 14
op_number op.Pow = 15

abbrev pub op_at : ℕ → Op
op_at n =
    if n == 0 then op.Eqv else if n == 1 then op.Neqv else if n == 2 then op.Or else if n == 3 then op.And
    else if n == 4 then op.Not else if n == 5 then op.Eq else if n == 6 then op.Ne else if n == 7 then op.Lt
    else if n == 8 then op.Le else if n == 9 then op.Gt else if n == 10 then op.Ge else if n == 11 then op.Add
    else if n == 12 then op.Sub else if n == 13 then op.Mul else if n == 14 then op.Div else op.Pow

pub op_back : (o : Op) → op_at (op_number o) ≡ o
op_back op.Eqv = refl
op_back op.Neqv = refl
op_back op.Or = refl
op_back op.And = refl
op_back op.Not = refl
op_back op.Eq = refl
op_back op.Ne = refl
op_back op.Lt = refl
op_back op.Le = refl
op_back op.Gt = refl
op_back op.Ge = refl
op_back op.Add = refl
op_back op.Sub = refl
op_back op.Mul = refl
op_back op.Div = refl
op_back op.Pow = refl

-- which node it is, and its operator, number and name; where it has none, any
abbrev Mark : Type 0
Mark = ℕ × (ℕ × (ℤ × List ℕ))

abbrev mark : ℕ → Mark
mark kind = (kind, (0, (pos 0, [])))

abbrev op_mark : ℕ → Op → Mark
op_mark kind o = (kind, (op_number o, (pos 0, [])))

abbrev name_mark : ℕ → List ℕ → Mark
name_mark kind name = (kind, (0, (pos 0, name)))

abbrev mutual
  postfix : Tree → List Mark
  postfix (Number n) = (0, (0, (n, []))) ∷ []
  postfix (Truth true) = mark 1 ∷ []
  postfix (Truth false) = mark 2 ∷ []
  postfix (Named name) = name_mark 3 name ∷ []
  postfix (Ref name args) = list_postfix args ++ name_mark 4 name ∷ []
  postfix (Paren e) = postfix e ++ mark 5 ∷ []
  postfix (Signed o e) = postfix e ++ op_mark 6 o ∷ []
  postfix (Not e) = postfix e ++ mark 7 ∷ []
  postfix (Binary o a b) = postfix a ++ (postfix b ++ op_mark 8 o ∷ [])

  list_postfix : Trees → List Mark
  list_postfix NoTrees = mark 9 ∷ []
  list_postfix (More t ts) = postfix t ++ (list_postfix ts ++ mark 10 ∷ [])

-- on the stack a list of trees stands as the arguments of a reference without a name
abbrev args_of : Tree → Trees
args_of (Ref name args) = args
args_of t = NoTrees

abbrev on_one : (Tree → Tree) → List Tree → List Tree
on_one f [] = []
on_one f (a ∷ st) = f a ∷ st

abbrev on_two : (Tree → Tree → Tree) → List Tree → List Tree
on_two f [] = []
on_two f (b ∷ []) = []
on_two f (b ∷ a ∷ st) = f a b ∷ st

abbrev put : ℕ → ℕ → ℤ → List ℕ → List Tree → List Tree
put k o n name st =
    if k == 0 then Number n ∷ st
    else if k == 1 then Truth true ∷ st
    else if k == 2 then Truth false ∷ st
    else if k == 3 then Named name ∷ st
    else if k == 4 then on_one (λ a. Ref name (args_of a)) st
    else if k == 5 then on_one Paren st
    else if k == 6 then on_one (Signed (op_at o)) st
    else if k == 7 then on_one Not st
    else if k == 8 then on_two (Binary (op_at o)) st
    else if k == 9 then Ref [] NoTrees ∷ st
    else on_two (λ a b. Ref [] (More a (args_of b))) st

abbrev run : List Mark → List Tree → List Tree
run [] st = st
run (m ∷ ms) st = run ms (put m.0 m.1.0 m.1.1.0 m.1.1.1 st)

abbrev top : List Tree → Tree
top [] = Number (pos 0)
top (t ∷ ts) = t

mutual
  runs : (t : Tree) (ms : List Mark) (st : List Tree) → run (postfix t ++ ms) st ≡ run ms (t ∷ st)
  runs (Number n) ms st = refl
  runs (Truth true) ms st = refl
  runs (Truth false) ms st = refl
  runs (Named name) ms st = refl
  runs (Ref name args) ms st = ap (λ l. run l st) (append_assoc (list_postfix args) (name_mark 4 name ∷ []) ms) ∙ list_runs args (name_mark 4 name ∷ ms) st
  runs (Paren e) ms st = ap (λ l. run l st) (append_assoc (postfix e) (mark 5 ∷ []) ms) ∙ runs e (mark 5 ∷ ms) st
  runs (Signed o e) ms st =
      ap (λ l. run l st) (append_assoc (postfix e) (op_mark 6 o ∷ []) ms) ∙ runs e (op_mark 6 o ∷ ms) st
      ∙ ap (λ p. run ms (Signed p e ∷ st)) (op_back o)
  runs (Not e) ms st = ap (λ l. run l st) (append_assoc (postfix e) (mark 7 ∷ []) ms) ∙ runs e (mark 7 ∷ ms) st
  runs (Binary o a b) ms st =
      ap (λ l. run l st) (append_assoc (postfix a) (postfix b ++ op_mark 8 o ∷ []) ms) ∙ runs a ((postfix b ++ op_mark 8 o ∷ []) ++ ms) st
      ∙ ap (λ l. run l (a ∷ st)) (append_assoc (postfix b) (op_mark 8 o ∷ []) ms) ∙ runs b (op_mark 8 o ∷ ms) (a ∷ st)
      ∙ ap (λ p. run ms (Binary p a b ∷ st)) (op_back o)

  list_runs : (ts : Trees) (ms : List Mark) (st : List Tree) → run (list_postfix ts ++ ms) st ≡ run ms (Ref [] ts ∷ st)
  list_runs NoTrees ms st = refl
  list_runs (More t ts) ms st =
      ap (λ l. run l st) (append_assoc (postfix t) (list_postfix ts ++ mark 10 ∷ []) ms) ∙ runs t ((list_postfix ts ++ mark 10 ∷ []) ++ ms) st
      ∙ ap (λ l. run l (t ∷ st)) (append_assoc (list_postfix ts) (mark 10 ∷ []) ms) ∙ list_runs ts (mark 10 ∷ ms) (t ∷ st)

pub back : (t : Tree) → top (run (postfix t) []) ≡ t
back t = ap (λ l. top (run l [])) (sym (append-nil (postfix t))) ∙ ap top (runs t [] [])

abbrev pub tree_code : Coded Tree
tree_code =
    code_by (List Mark) (coded_list (coded× coded_ℕ (coded× coded_ℕ (coded× coded_ℤ (coded_list coded_ℕ))))) postfix (λ ms. top (run ms [])) back

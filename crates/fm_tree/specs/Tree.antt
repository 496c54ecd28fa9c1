-- An expression as plain data.
-- Source: ANSI X3.9-1978, section 6.
use Rattle.std.specs.Prelude.{ℕ, ℤ, Bool, List, [], ◌∷◌, ◌+◌}
use Rattle.fm_base.specs.declared.token.Op.{Op}

-- an expression without where it lies in memory, and a list of them
mutual
  pub data Tree : Type 0 where
    Number : (n : ℤ) → Tree
    Truth : (b : Bool) → Tree
    Named : (name : List ℕ) → Tree
    Ref : (name : List ℕ) → (args : Trees) → Tree
    Paren : (inner : Tree) → Tree
    Signed : (op : Op) → (inner : Tree) → Tree
    Not : (inner : Tree) → Tree
    Binary : (op : Op) → (left right : Tree) → Tree

  pub data Trees : Type 0 where
    NoTrees : Trees
    More : (first : Tree) → (rest : Trees) → Trees

abbrev pub trees_from : List Tree → Trees
trees_from [] = NoTrees
trees_from (t ∷ ts) = More t (trees_from ts)

abbrev pub list_of : Trees → List Tree
list_of NoTrees = []
list_of (More t ts) = t ∷ list_of ts

-- the number of nodes, of an expression and of a list, with one for each place of the list
abbrev mutual
  pub node_count : Tree → ℕ
  node_count (Number n) = 1
  node_count (Truth b) = 1
  node_count (Named name) = 1
  node_count (Ref name args) = node_counts args + 1
  node_count (Paren e) = node_count e + 1
  node_count (Signed op e) = node_count e + 1
  node_count (Not e) = node_count e + 1
  node_count (Binary op a b) = node_count a + node_count b + 1

  pub node_counts : Trees → ℕ
  node_counts NoTrees = 0
  node_counts (More t ts) = node_count t + node_counts ts + 1

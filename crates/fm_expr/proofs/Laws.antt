-- The longest expression, and one tree for a spelling.
use Rattle.std.proofs.Common.{◌≡◌, ℕ, ◌+◌, Option, Some, None, List, [], ◌∷◌, ◌++◌, length, take, refl, sym, ◌∙◌, ap, subst, length-append, arith}
use Rattle.std.proofs.Math.Seq.{take-append_seam}
use Rattle.fm_base.specs.declared.token.Token.{Token}
use Rattle.fm_base.specs.declared.token.Token.TheVariants as tokens
use Rattle.fm_tree.specs.Tree.{Tree}
use Rattle.fm_tree.specs.Spelling.{spelling}
use Rattle.fm_tree.specs.Shape.{IsWellShaped}
use Rattle.fm_expr.specs.declared.reader.Frame.{Frame}
use Rattle.fm_expr.specs.Reading.{onward, close_step, comma_step, last_whole, run}
use Rattle.fm_expr.specs.Longest.{IsLongestExpression, BeginsNoExpression, StopsExpression, OneExpression, IsExpressionAt, expr_at, expr_at-run}
use Rattle.fm_expr.proofs.Steps.{reads, spine, last, closes, encloses, right_positive}
use Rattle.fm_expr.proofs.Found.{IsFound, run_found}
use Rattle.fm_expr.proofs.AtLeast.{AtLeast, run_lasts}

-- behind a well-shaped tree at the front
begins : (u : Tree) (more : List Token) → IsWellShaped u → AtLeast (length (spelling u)) (run (spelling u ++ more) [] None 0)
begins u more w =
    let n : ℕ = length (spelling u) in
    let at_end : AtLeast n (last_whole (spine u 0 []) (Some (last u, n))) = subst (AtLeast n) (sym (encloses u 0 n [])) (omega arith) in
    subst (AtLeast n) (sym (reads u w more [] 0 n (omega arith) (omega arith))) (run_lasts more (spine u 0 []) (Some (last u)) n n (omega arith) at_end)

pub found_longest : (all : List Token) (t : Tree) (n : ℕ) → run all [] None 0 ≡ Some (t, n) → IsLongestExpression all t n
found_longest all t n e =
    let f : IsFound all (t, n) = run_found all [] None 0 tt tt refl (t, n) e in
    record {
      shaped = f.shaped;
      spelled = sym (ap (λ (k : ℕ). take k all) f.ends ∙ ap (take (length (spelling t))) f.spelled ∙ take-append_seam (spelling t) f.more);
      within = omega (arith, f.ends, ap length f.spelled, length-append (spelling t) f.more);
      longest = λ u more w q.
          let a : AtLeast (length (spelling u)) (run all [] None 0) = subst (λ (s : List Token). AtLeast (length (spelling u)) (run s [] None 0)) (sym q) (begins u more w) in
          subst (AtLeast (length (spelling u))) e a;
    }

pub none_begins : (all : List Token) → run all [] None 0 ≡ None → BeginsNoExpression all
none_begins all e u more w q =
    let a : AtLeast (length (spelling u)) (run all [] None 0) = subst (λ (s : List Token). AtLeast (length (spelling u)) (run s [] None 0)) (sym q) (begins u more w) in
    subst (AtLeast (length (spelling u))) e a

-- a tree before a token that ends it
stops_there : (more : List Token) (t : Tree) (n k : ℕ) → IsWellShaped t → StopsExpression more → run more (spine t n []) (Some (last t)) k ≡ Some (t, k)
stops_there [] t n k w s = encloses t n k []
stops_there (tokens.Close ∷ more) t n k w s = ap (λ (r : List Frame × Tree). onward (close_step r.0 r.1) (λ gs u. run more gs u (k + 1)) k) (closes t w 0 n [] (right_positive t))
stops_there (tokens.Comma ∷ more) t n k w s = ap (λ (r : List Frame × Tree). onward (comma_step r.0 r.1) (λ gs u. run more gs u (k + 1)) k) (closes t w 0 n [] (right_positive t))
stops_there (tokens.Equals ∷ more) t n k w s = encloses t n k []
stops_there (tokens.Colon ∷ more) t n k w s = encloses t n k []
stops_there (token ∷ more) t n k w s = elim s [ ]

pub reads_whole : (t : Tree) (more : List Token) → IsWellShaped t → StopsExpression more → run (spelling t ++ more) [] None 0 ≡ Some (t, length (spelling t))
reads_whole t more w s =
    reads t w more [] 0 (length (spelling t)) (omega arith) (omega arith) ∙ stops_there more t 0 (length (spelling t)) w s

abbrev tree_or : Tree → Option (Tree × ℕ) → Tree
tree_or t None = t
tree_or t (Some x) = x.0

pub one_expression_law : OneExpression
one_expression_law a b v w e =
    let p : run (spelling a ++ []) [] None 0 ≡ Some (a, length (spelling a)) = reads_whole a [] v tt in
    let q : run (spelling b ++ []) [] None 0 ≡ Some (b, length (spelling b)) = reads_whole b [] w tt in
    let r : Some (a, length (spelling a)) ≡ Some (b, length (spelling b)) = sym p ∙ ap (λ (s : List Token). run (s ++ []) [] None 0) e ∙ q in
    ap (tree_or a) r

-- what is read, where a whole tree stands at the front
pub reads_the_whole : (all : List Token) (o : Option (Tree × ℕ)) → o ≡ run all [] None 0 → (t : Tree) (more : List Token) → IsWellShaped t → StopsExpression more → all ≡ spelling t ++ more
    → o ≡ Some (t, length (spelling t))
reads_the_whole all o e t more w s q = e ∙ ap (λ (xs : List Token). run xs [] None 0) q ∙ reads_whole t more w s

pub its_tree : (x y : Tree × ℕ) → Some x ≡ Some y → (x.0 ≡ y.0) × (x.1 ≡ y.1)
its_tree x y e = let q : x ≡ y = cc in (ap (λ (p : Tree × ℕ). p.0) q, ap (λ (p : Tree × ℕ). p.1) q)

is_expression : (all : List Token) (o : Option (Tree × ℕ)) → run all [] None 0 ≡ o → IsExpressionAt all o
is_expression all None e = none_begins all e
is_expression all (Some x) e = found_longest all x.0 x.1 e

pub expr_at_longest : (all : List Token) → IsExpressionAt all (expr_at all)
expr_at_longest all = is_expression all (expr_at all) (expr_at-run all)

pub expr_at_whole : (t : Tree) (more : List Token) → IsWellShaped t → StopsExpression more → expr_at (spelling t ++ more) ≡ Some (t, length (spelling t))
expr_at_whole t more w s = sym (expr_at-run (spelling t ++ more)) ∙ reads_whole t more w s

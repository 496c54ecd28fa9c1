-- The marks of nodes, after one is written and when a component is closed.
use Rattle.std.proofs.Common.{◌≡◌, ℕ, suc, zero, ◌+◌, ◌<◌, ◌≤◌, ⊎_elim, List, [], ◌∷◌, length, get_or, set, map, take, min, ◌++◌, true, refl, sym, ap, ◌∙◌, arith, leb}
use Rattle.std.proofs.lemmas.Bool.{cases_eq, cases_lt, le-leb, lt-leb, cond-true, cond-false}
use Rattle.std.proofs.lemmas.List.{get_or_default, get_or_past, get_or-set_same, get_or-set_other, get_or-take, get_or_push, length-set, length-map, length-take, length_push, same_lists, take-take, take_at}
use Rattle.fm_graph.specs.declared.search.Mark.{Mark}
use Rattle.fm_graph.specs.declared.search.Mark.TheVariants.{Unseen, OnPath, Done}
use Rattle.fm_graph.specs.Search.{IsKnown, IsPlaced, closed, is_seen, mark_at, weight, weight_of}

pub on_path_same : (p q : ℕ) → OnPath p ≡ OnPath q → p ≡ q
on_path_same p q e = cc

pub done_same : (p q : ℕ) → Done p ≡ Done q → p ≡ q
done_same p q e = cc

pub mark_past : (ms : List Mark) (v : ℕ) → length ms ≤ v → mark_at ms v ≡ Done v
mark_past ms v l = get_or_past ms v (Done v) l

pub unseen_within : (ms : List Mark) (v : ℕ) → mark_at ms v ≡ Unseen → v < length ms
unseen_within ms v e = ⊎_elim (λ x. x) (λ x. let p = mark_past ms v x in absurd (cc)) (cases_lt v (length ms))

pub on_path_within : (ms : List Mark) (v p : ℕ) → mark_at ms v ≡ OnPath p → v < length ms
on_path_within ms v p e = ⊎_elim (λ x. x) (λ x. let q = mark_past ms v x in absurd (cc)) (cases_lt v (length ms))

pub mark_written : (ms : List Mark) (v : ℕ) (k : Mark) → v < length ms → mark_at (set ms v k) v ≡ k
mark_written ms v k l = get_or-set_same ms v k (Done v) l

pub mark_kept : (ms : List Mark) (v w : ℕ) (k : Mark) → (w ≡ v → ⊥) → mark_at (set ms v k) w ≡ mark_at ms w
mark_kept ms v w k n = get_or-set_other ms v w k (Done w) n

get_or_map : (f : Mark → Mark) (ms : List Mark) (v : ℕ) (d : Mark) → f d ≡ d → get_or (map f ms) v d ≡ f (get_or ms v d)
get_or_map f [] v d e = sym e
get_or_map f (m ∷ ms) zero d e = refl
get_or_map f (m ∷ ms) (suc v) d e = get_or_map f ms v d e

pub mark_closed : (node start : ℕ) (ms : List Mark) (v : ℕ) → mark_at (map (closed node start) ms) v ≡ closed node start (mark_at ms v)
mark_closed node start ms v = get_or_map (closed node start) ms v (Done v) refl

pub closed_behind : (node start p : ℕ) → start ≤ p → closed node start (OnPath p) ≡ Done node
closed_behind node start p l = cond-true (leb start p) (Done node) (OnPath p) (le-leb start p l)

pub closed_before : (node start p : ℕ) → p < start → closed node start (OnPath p) ≡ OnPath p
closed_before node start p l = cond-false (leb start p) (Done node) (OnPath p) (lt-leb start p l)

-- the weight of what isn't seen

weight_seen : (k : Mark) (es : ℕ) → is_seen k ≡ true → weight_of k es ≡ 0
weight_seen Unseen es e = absurd (cc)
weight_seen (OnPath p) es e = refl
weight_seen (Done c) es e = refl

pub weight_visited : (ms : List Mark) (g : List (List ℕ)) (v p : ℕ) → length ms ≡ length g → v < length ms → get_or ms v (Done v) ≡ Unseen
    → weight (set ms v (OnPath p)) g + length (get_or g v []) + 2 ≡ weight ms g
weight_visited ms g v p same within is = at ms g v (Done v) same within is
  where
    at : (ms : List Mark) (g : List (List ℕ)) (v : ℕ) (d : Mark) → length ms ≡ length g → v < length ms → get_or ms v d ≡ Unseen
        → weight (set ms v (OnPath p)) g + length (get_or g v []) + 2 ≡ weight ms g
    at [] g v d e l is = absurd (omega (arith, l))
    at (m ∷ ms) [] v d e l is = absurd (omega (arith, e))
    at (m ∷ ms) (es ∷ g) zero d e l is =
        let w : weight_of m (length es) ≡ length es + 2 = ap (λ k. weight_of k (length es)) is in
        omega (arith, w)
    at (m ∷ ms) (es ∷ g) (suc v) d e l is =
        let r = at ms g v d (omega (arith, e)) (omega (arith, l)) is in
        omega (arith, r)

weight_of_closed : (node start : ℕ) (k : Mark) (es : ℕ) → weight_of (closed node start k) es ≡ weight_of k es
weight_of_closed node start Unseen es = refl
weight_of_closed node start (OnPath p) es =
    ⊎_elim (λ (l : p < start). ap (λ k. weight_of k es) (closed_before node start p l)) (λ (l : start ≤ p). ap (λ k. weight_of k es) (closed_behind node start p l)) (cases_lt p start)
weight_of_closed node start (Done c) es = refl

pub weight_closed : (node start : ℕ) (ms : List Mark) (g : List (List ℕ)) → weight (map (closed node start) ms) g ≡ weight ms g
weight_closed node start [] g = refl
weight_closed node start (m ∷ ms) [] = refl
weight_closed node start (m ∷ ms) (es ∷ g) =
    let a = weight_of_closed node start m (length es) in let b = weight_closed node start ms g in omega (arith, a, b)

pub seen_closed : (node start : ℕ) (k : Mark) → is_seen k ≡ true → is_seen (closed node start k) ≡ true
seen_closed node start Unseen e = e
seen_closed node start (OnPath p) e =
    ⊎_elim (λ (l : p < start). ap is_seen (closed_before node start p l)) (λ (l : start ≤ p). ap is_seen (closed_behind node start p l)) (cases_lt p start)
seen_closed node start (Done c) e = e

pub data ClosedPath (k : Mark) (start p : ℕ) : Type 0 where
  stays : k ≡ OnPath p → p < start → ClosedPath k start p

pub data ClosedDone (k : Mark) (node start c : ℕ) : Type 0 where
  before : k ≡ Done c → ClosedDone k node start c
  now : (p : ℕ) → k ≡ OnPath p → start ≤ p → node ≡ c → ClosedDone k node start c

-- what stays on the path, and what is done
pub closed_path : (node start : ℕ) (k : Mark) (p : ℕ) → closed node start k ≡ OnPath p → ClosedPath k start p
closed_path node start Unseen p e = absurd (cc)
closed_path node start (OnPath q) p e =
    ⊎_elim (λ (l : q < start). let f : q ≡ p = on_path_same q p (sym (closed_before node start q l) ∙ e) in stays (ap OnPath f) (omega (arith, f, l)))
    (λ (l : start ≤ q). let f : Done node ≡ OnPath p = sym (closed_behind node start q l) ∙ e in absurd (cc)) (cases_lt q start)
closed_path node start (Done c) p e = absurd (cc)

pub closed_done : (node start : ℕ) (k : Mark) (c : ℕ) → closed node start k ≡ Done c → ClosedDone k node start c
closed_done node start Unseen c e = absurd (cc)
closed_done node start (OnPath q) c e =
    ⊎_elim (λ (l : q < start). let f : OnPath q ≡ Done c = sym (closed_before node start q l) ∙ e in absurd (cc))
    (λ (l : start ≤ q). now q refl l (done_same node c (sym (closed_behind node start q l) ∙ e))) (cases_lt q start)
closed_done node start (Done d) c e = before e

-- A component is closed from the end of the path on.

marks_same : (xs ys : List Mark) → length xs ≡ length ys → ((v : ℕ) → mark_at xs v ≡ mark_at ys v) → xs ≡ ys
marks_same xs ys l h =
    same_lists xs ys l (λ k d w. get_or_default xs k d (Done k) w ∙ h k ∙ get_or_default ys k (Done k) d (omega (arith, l, w)))

pub none_closed : (node : ℕ) (ms : List Mark) (path : List ℕ) → IsKnown ms path → ms ≡ map (closed node (length path)) ms
none_closed node ms path known =
    marks_same ms (map (closed node (length path)) ms) (sym (length-map ms (closed node (length path)))) (λ v. sym (mark_closed node (length path) ms v ∙ each v (mark_at ms v) refl))
  where
    each : (v : ℕ) (k : Mark) → mark_at ms v ≡ k → closed node (length path) k ≡ k
    each v Unseen e = refl
    each v (OnPath p) e = closed_before node (length path) p (known v p e).0
    each v (Done c) e = refl

pub data Popped (path path' : List ℕ) (node : ℕ) : Type 0 where
  popped : path' ≡ take (length path') path → length path' < length path → get_or path (length path') node ≡ node → Popped path path' node

pub node_popped : (path old path' : List ℕ) (node : ℕ) → old ≡ take (length old) path → old ≡ path' ++ node ∷ [] → Popped path path' node
node_popped path old path' node e f =
    let n : length old ≡ length path' + 1 = ap length f ∙ length_push path' node in
    let t : old ≡ take (length path' + 1) path = e ∙ ap (λ k. take k path) n in
    let m : length old ≡ min (length path' + 1) (length path) = ap length t ∙ length-take (length path' + 1) path in
    popped
    (sym (take_at path' (node ∷ []) (length path') refl) ∙ ap (take (length path')) (sym f ∙ t) ∙ take-take (length path') (length path' + 1) path (omega arith))
    (omega (arith, n, m))
    (sym (get_or-take (length path' + 1) path (length path') node (omega arith)) ∙ ap (λ xs. get_or xs (length path') node) (sym t ∙ f) ∙ get_or_push path' node node (length path') refl)

pub one_closed : (node : ℕ) (ms : List Mark) (path : List ℕ) (v at : ℕ) → IsKnown ms path → IsPlaced ms path → at < length path → get_or path at v ≡ v
    → set (map (closed node (at + 1)) ms) v (Done node) ≡ map (closed node at) ms
one_closed node ms path v at known placed l here =
    marks_same (set (map (closed node (at + 1)) ms) v (Done node)) (map (closed node at) ms)
    (length-set (map (closed node (at + 1)) ms) v (Done node) ∙ length-map ms (closed node (at + 1)) ∙ sym (length-map ms (closed node at)))
    (λ w. ⊎_elim (λ (e : w ≡ v). ap (mark_at (set (map (closed node (at + 1)) ms) v (Done node))) e
    ∙ mark_written (map (closed node (at + 1)) ms) v (Done node) within
    ∙ sym (closed_behind node at at (omega arith)) ∙ ap (closed node at) (sym is) ∙ sym (mark_closed node at ms v) ∙ ap (mark_at (map (closed node at) ms)) (sym e))
    (λ (n : w ≡ v → ⊥). mark_kept (map (closed node (at + 1)) ms) v w (Done node) n ∙ mark_closed node (at + 1) ms w ∙ each w n (mark_at ms w) refl ∙ sym (mark_closed node at ms w)) (cases_eq w v))
  where
    is : mark_at ms v ≡ OnPath at
    is = placed at v l here

    within : v < length (map (closed node (at + 1)) ms)
    within = let a = on_path_within ms v at is in let b = length-map ms (closed node (at + 1)) in omega (arith, a, b)

    each : (w : ℕ) → (w ≡ v → ⊥) → (k : Mark) → mark_at ms w ≡ k → closed node (at + 1) k ≡ closed node at k
    each w n Unseen e = refl
    each w n (OnPath p) e =
        ⊎_elim (λ (x : p < at). closed_before node (at + 1) p (omega (arith, x)) ∙ sym (closed_before node at p x))
        (λ (x : at ≤ p). ⊎_elim (λ (y : p ≡ at). absurd (n (sym (known w p e).1 ∙ get_or_default path p w v (known w p e).0 ∙ ap (λ k. get_or path k v) y ∙ here)))
        (λ (y : p ≡ at → ⊥). closed_behind node (at + 1) p (omega (arith, x, y)) ∙ sym (closed_behind node at p x)) (cases_eq p at)) (cases_lt p at)
    each w n (Done c) e = refl

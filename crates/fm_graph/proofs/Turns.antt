-- The steps of the search: a node is visited, an edge leads back or to what is done, a segment is finished.
use Rattle.std.proofs.Common.{◌≡◌, ℕ, ◌+◌, ◌-◌, ◌<◌, ◌≤◌, ◌⊎◌, inl, inr, ⊎_elim, List, [], ◌∷◌, ◌++◌, length, get_or, set, map, take, reverse, Option, Some, None, refl, sym, ap, ◌∙◌, subst, arith}
use Rattle.std.proofs.lemmas.Bool.{cases_eq, cases_lt}
use Rattle.std.proofs.lemmas.List.{get_or_append_left, get_or_push, get_or-append_right, get_or-append-add, get_or-take, length_push, length-append, length-set, length-map, length-take-le, reverse-append}
use Rattle.std.specs.Option.{MatchOption, option_to_list}
use Rattle.fm_graph.specs.declared.search.Mark.{Mark}
use Rattle.fm_graph.specs.declared.search.Mark.TheVariants.{Unseen, OnPath, Done}
use Rattle.fm_graph.specs.declared.search.Segment.{Segment}
use Rattle.fm_graph.specs.Graph.{IsEdge, Reaches, edges_of}
use Rattle.fm_graph.specs.Search.{IsAbove, IsDoneSet, IsKnown, IsPath, IsPlaced, IsRest, IsSearch, IsSegment, IsTurn, KeepsSeen, Settled, done, on_path, waits, closed, head_of, is_seen, mark_at, merged, work}
use Rattle.fm_graph.proofs.Reach.{reach_closed, reach_edge, reach_self}
use Rattle.fm_graph.proofs.Marks.{ClosedDone, ClosedPath, before, closed_before, closed_behind, closed_done, closed_path, mark_closed, mark_kept, mark_written, now, on_path_same, seen_closed, stays, unseen_within, weight_closed, weight_visited}
use Rattle.fm_graph.proofs.Paths.{IsStart, merged_fewer, merged_rest, merged_start, path_kept, path_merged}

done_set_kept : (g : List (List ℕ)) (ms ms' : List Mark) → length ms' ≡ length ms
    → ((w c : ℕ) → mark_at ms' w ≡ Done c → mark_at ms w ≡ Done c) → ((w c : ℕ) → mark_at ms w ≡ Done c → mark_at ms' w ≡ Done c) → IsDoneSet g ms → IsDoneSet g ms'
done_set_kept g ms ms' len back fore h = record {
  shut = λ w x c e s. let d = h.shut w x c (back w c e) s in (d.0, fore x d.0 d.1);
  to_name = λ w c e. h.to_name w c (back w c e);
  from_name = λ w c e. h.from_name w c (back w c e);
  same = λ v w c d l e f a b. h.same v w c d (omega (arith, l, len)) (back v c e) (back w d f) a b;
}

at_end : (xs : List ℕ) (v k x : ℕ) → k < length (xs ++ v ∷ []) → get_or (xs ++ v ∷ []) k x ≡ x
    → ((k < length xs) × (get_or xs k x ≡ x)) ⊎ ((k ≡ length xs) × (v ≡ x))
at_end xs v k x l e =
    ⊎_elim (λ (y : k < length xs). inl (y, sym (get_or_append_left xs (v ∷ []) x k y) ∙ e))
    (λ (y : length xs ≤ k). let n = length_push xs v in let z : k ≡ length xs = omega (arith, l, n, y) in inr (z, sym (get_or_push xs v x k (sym z)) ∙ e)) (cases_lt k (length xs))

-- A node that wasn't seen is put on the path.
module _ (g : List (List ℕ)) (ms : List Mark) (path : List ℕ) (segments : List Segment) (pending : List ℕ) (v : ℕ) where
  abbrev ms' : List Mark
  ms' = set ms v (OnPath (length path))

  abbrev path' : List ℕ
  path' = path ++ v ∷ []

  abbrev pending' : List ℕ
  pending' = pending ++ edges_of g v

  abbrev segment : Segment
  segment = record { node = v; start = length path; rest = length pending }

  here : mark_at ms v ≡ Unseen → mark_at ms' v ≡ OnPath (length path)
  here u = mark_written ms v (OnPath (length path)) (unseen_within ms v u)

  kept : (w : ℕ) → (w ≡ v → ⊥) → mark_at ms' w ≡ mark_at ms w
  kept w n = mark_kept ms v w (OnPath (length path)) n

  done_fore : mark_at ms v ≡ Unseen → (w c : ℕ) → mark_at ms w ≡ Done c → mark_at ms' w ≡ Done c
  done_fore u w c e = kept w (λ f. let x : mark_at ms v ≡ Done c = ap (mark_at ms) (sym f) ∙ e in absurd (cc)) ∙ e

  path_fore : mark_at ms v ≡ Unseen → (w p : ℕ) → mark_at ms w ≡ OnPath p → mark_at ms' w ≡ OnPath p
  path_fore u w p e = kept w (λ f. let x : mark_at ms v ≡ OnPath p = ap (mark_at ms) (sym f) ∙ e in absurd (cc)) ∙ e

  done_back : mark_at ms v ≡ Unseen → (w c : ℕ) → mark_at ms' w ≡ Done c → mark_at ms w ≡ Done c
  done_back u w c e =
      ⊎_elim (λ (f : w ≡ v). let x : OnPath (length path) ≡ Done c = sym (here u) ∙ ap (mark_at ms') (sym f) ∙ e in absurd (cc)) (λ f. sym (kept w f) ∙ e) (cases_eq w v)

  path_back : mark_at ms v ≡ Unseen → (w p : ℕ) → mark_at ms' w ≡ OnPath p → ((w ≡ v) × (p ≡ length path)) ⊎ (mark_at ms w ≡ OnPath p)
  path_back u w p e =
      ⊎_elim (λ (f : w ≡ v). inl (f, sym (on_path_same (length path) p (sym (here u) ∙ ap (mark_at ms') (sym f) ∙ e)))) (λ f. inr (sym (kept w f) ∙ e)) (cases_eq w v)

  visited_known : mark_at ms v ≡ Unseen → IsKnown ms path → IsKnown ms' path'
  visited_known u known w p e =
      let n = length_push path v in
      ⊎_elim (λ (f : (w ≡ v) × (p ≡ length path)). let a = f.1 in (omega (arith, n, a), get_or_push path v w p (sym f.1) ∙ sym f.0))
      (λ (f : mark_at ms w ≡ OnPath p). let k = known w p f in let l = k.0 in (omega (arith, n, l), get_or_append_left path (v ∷ []) w p k.0 ∙ k.1)) (path_back u w p e)

  visited_placed : mark_at ms v ≡ Unseen → IsPlaced ms path → IsPlaced ms' path'
  visited_placed u placed k w l e =
      ⊎_elim (λ (x : (k < length path) × (get_or path k w ≡ w)). path_fore u w k (placed k w x.0 x.1))
      (λ (x : (k ≡ length path) × (v ≡ w)). ap (mark_at ms') (sym x.1) ∙ here u ∙ ap OnPath (sym x.0)) (at_end path v k w l e)

  only : mark_at ms v ≡ Unseen → IsKnown ms path
      → (w p : ℕ) → mark_at ms' w ≡ OnPath p → length path ≤ p → v ≡ w
  only u known w p e l =
      ⊎_elim (λ (f : (w ≡ v) × (p ≡ length path)). sym f.0) (λ (f : mark_at ms w ≡ OnPath p). let k = (known w p f).0 in absurd (omega (arith, k, l))) (path_back u w p e)

  visited_segment : mark_at ms v ≡ Unseen → IsKnown ms path
      → IsSegment g (mark_at ms') pending' segment (length path') (length pending')
  visited_segment u known =
      let n = length_push path v in
      let a = length-append pending (edges_of g v) in
      record {
        some = omega (arith, n);
        order = omega (arith, a);
        to_node = λ w p e l h. subst (λ (x : ℕ). Reaches g x v) (only u known w p e l) (reach_self g v);
        from_node = λ w p e l h. subst (λ (x : ℕ). Reaches g v x) (only u known w p e l) (reach_self g v);
        waiting = λ k x l h b e. reach_edge g v x (k - length pending, omega (arith, a, l, b), sym (get_or-append_right pending (edges_of g v) (length pending) k x refl l) ∙ e);
        settled = λ w p x e l h s. behind x (subst (λ (y : ℕ). IsEdge g y x) (sym (only u known w p e l)) s);
      }
    where
      behind : (x : ℕ) → IsEdge g v x → Settled (mark_at ms') pending' (length path) (length pending) x
      behind x s =
          let a = length-append pending (edges_of g v) in
          let l = s.1 in
          waits (length pending + s.0) (omega arith) (omega (arith, a, l)) (get_or-append-add pending (edges_of g v) s.0 x ∙ s.2)

  visited_search : mark_at ms v ≡ Unseen → length ms ≡ length g → IsKnown ms path
      → IsPlaced ms path → IsDoneSet g ms → IsAbove g segments v → IsPath g (mark_at ms') pending' segments (length path) (length pending)
      → IsSearch g ms' path' (segment ∷ segments) pending'
  visited_search u sized known placed finished above old = record {
    sized = length-set ms v (OnPath (length path)) ∙ sized;
    known = visited_known u known;
    placed = visited_placed u placed;
    finished = done_set_kept g ms ms' (length-set ms v (OnPath (length path))) (done_back u) (done_fore u) finished;
    segmented = (visited_segment u known, above, old);
  }

  pub visited_kept : mark_at ms v ≡ Unseen → KeepsSeen ms ms'
  visited_kept u w e = ⊎_elim (λ (f : w ≡ v). ap (λ x. is_seen (mark_at ms' x)) f ∙ ap is_seen (here u)) (λ f. ap is_seen (kept w f) ∙ e) (cases_eq w v)

  visited_settles : mark_at ms v ≡ Unseen → (start rest x : ℕ) → start ≤ length path → Settled (mark_at ms) (pending ++ v ∷ []) start rest x → Settled (mark_at ms') pending' start rest x
  visited_settles u start rest x l (done c e) = done c (done_fore u x c e)
  visited_settles u start rest x l (on_path q e b) = on_path q (path_fore u x q e) b
  visited_settles u start rest x l (waits k b w e) =
      let a = length-append pending (edges_of g v) in
      ⊎_elim (λ (y : (k < length pending) × (get_or pending k x ≡ x)). let z = y.0 in waits k b (omega (arith, a, z)) (get_or_append_left pending (edges_of g v) x k y.0 ∙ y.1))
      (λ (y : (k ≡ length pending) × (v ≡ x)). on_path (length path) (ap (mark_at ms') (sym y.1) ∙ here u) l) (at_end pending v k x w e)

  visited_less : mark_at ms v ≡ Unseen → length ms ≡ length g → work ms' g (segment ∷ segments) pending' < work ms g segments (pending ++ v ∷ [])
  visited_less u sized =
      let w = weight_visited ms g v (length path) sized (unseen_within ms v u) u in
      let a = length-append pending (edges_of g v) in
      let n = length_push pending v in
      omega (arith, w, a, n)

pub visited_root : (g : List (List ℕ)) (ms : List Mark) (path pending : List ℕ) (v : ℕ) → mark_at ms v ≡ Unseen → IsSearch g ms path [] pending
    → IsSearch g (set ms v (OnPath (length path))) (path ++ v ∷ []) (record { node = v; start = length path; rest = length pending } ∷ []) (pending ++ edges_of g v)
visited_root g ms path pending v u h = visited_search g ms path [] pending v u h.sized h.known h.placed h.finished tt h.segmented

-- what the last segment's edges that are pending lead to
pub reaches_pending : (g : List (List ℕ)) (m : ℕ → Mark) (pending : List ℕ) (v : ℕ) (segments : List Segment) (limit : ℕ)
    → IsPath g m (pending ++ v ∷ []) segments limit (length (pending ++ v ∷ [])) → IsRest segments (length pending) → IsAbove g segments v
reaches_pending g m pending v [] limit h r = tt
reaches_pending g m pending v (s ∷ ss) limit h r =
    let n = length_push pending v in
    h.0.waiting (length pending) v r (omega (arith, n)) (omega (arith, n)) (get_or_push pending v v (length pending) refl)

starts : (g : List (List ℕ)) (m : ℕ → Mark) (pending : List ℕ) (segments : List Segment) (limit rest : ℕ) → IsPath g m pending segments limit rest → IsStart segments limit
starts g m pending [] limit rest h = tt
starts g m pending (s ∷ ss) limit rest h = let l = h.0.some in omega (arith, l)

pub visited_edge : (g : List (List ℕ)) (ms : List Mark) (path : List ℕ) (segments : List Segment) (pending : List ℕ) (v : ℕ)
    → mark_at ms v ≡ Unseen → IsSearch g ms path segments (pending ++ v ∷ []) → IsRest segments (length pending)
    → IsTurn g ms (set ms v (OnPath (length path))) (path ++ v ∷ []) segments (record { node = v; start = length path; rest = length pending } ∷ segments) (pending ++ v ∷ []) (pending ++ edges_of g v)
visited_edge g ms path segments pending v u h r =
    let n = length_push pending v in
    let old = path_kept g (mark_at ms) (mark_at (set ms v (OnPath (length path)))) (pending ++ v ∷ []) (pending ++ edges_of g v) (length path) (length path)
    (λ w p e l. ⊎_elim (λ (f : (w ≡ v) × (p ≡ length path)). let z = f.1 in absurd (omega (arith, z, l))) (λ f. f) (path_back g ms path segments pending v u w p e))
    (visited_settles g ms path segments pending v u)
    segments (length path) (length (pending ++ v ∷ [])) (length pending)
    (λ k x l b e. (omega (arith, n, l), get_or_append_left pending (v ∷ []) x k l ∙ sym (get_or_append_left pending (edges_of g v) x k l) ∙ e))
    (omega arith) (omega (arith, n)) (starts g (mark_at ms) (pending ++ v ∷ []) segments (length path) (length (pending ++ v ∷ [])) h.segmented) r h.segmented in
    record {
      search = visited_search g ms path segments pending v u h.sized h.known h.placed h.finished (reaches_pending g (mark_at ms) pending v segments (length path) h.segmented r) old;
      less = visited_less g ms path segments pending v u h.sized;
      kept = visited_kept g ms path segments pending v u;
    }

-- An edge whose end is known is not pending any more.
module _ (g : List (List ℕ)) (ms : List Mark) (path : List ℕ) (segments segments' : List Segment) (pending : List ℕ) (v upto : ℕ) where
  popped : ((start rest : ℕ) → start ≤ upto → Settled (mark_at ms) pending start rest v) → IsSearch g ms path segments (pending ++ v ∷ [])
      → IsPath g (mark_at ms) (pending ++ v ∷ []) segments' (length path) (length (pending ++ v ∷ [])) → IsStart segments' upto → IsRest segments' (length pending) → length segments' ≤ length segments
      → IsTurn g ms ms path segments segments' (pending ++ v ∷ []) pending
  popped settles h old s r fewer =
      let n = length_push pending v in
      record {
        search = record {
          sized = h.sized;
          known = h.known;
          placed = h.placed;
          finished = h.finished;
          segmented = path_kept g (mark_at ms) (mark_at ms) (pending ++ v ∷ []) pending (length path) upto (λ w p e l. e) all segments' (length path) (length (pending ++ v ∷ [])) (length pending)
              (λ k x l b e. (omega (arith, n, l), get_or_append_left pending (v ∷ []) x k l ∙ e)) (omega arith) (omega (arith, n)) s r old;
        };
        less = omega (arith, n, fewer);
        kept = λ w e. e;
      }
    where
      all : (start rest x : ℕ) → start ≤ upto → Settled (mark_at ms) (pending ++ v ∷ []) start rest x → Settled (mark_at ms) pending start rest x
      all start rest x l (done c e) = done c e
      all start rest x l (on_path q e b) = on_path q e b
      all start rest x l (waits k b w e) =
          ⊎_elim (λ (y : (k < length pending) × (get_or pending k x ≡ x)). waits k b y.0 y.1)
          (λ (y : (k ≡ length pending) × (v ≡ x)). subst (λ (z : ℕ). Settled (mark_at ms) pending start rest z) y.1 (settles start rest l)) (at_end pending v k x w e)

pub followed_done : (g : List (List ℕ)) (ms : List Mark) (path : List ℕ) (segments : List Segment) (pending : List ℕ) (v c : ℕ)
    → mark_at ms v ≡ Done c → IsSearch g ms path segments (pending ++ v ∷ []) → IsRest segments (length pending)
    → IsTurn g ms ms path segments segments (pending ++ v ∷ []) pending
followed_done g ms path segments pending v c is h r =
    popped g ms path segments segments pending v (length path) (λ start rest l. done c is) h h.segmented (starts g (mark_at ms) (pending ++ v ∷ []) segments (length path) (length (pending ++ v ∷ [])) h.segmented) r (omega arith)

pub followed_back : (g : List (List ℕ)) (ms : List Mark) (path : List ℕ) (segments : List Segment) (pending : List ℕ) (v q : ℕ)
    → mark_at ms v ≡ OnPath q → IsSearch g ms path segments (pending ++ v ∷ []) → IsRest segments (length pending)
    → IsTurn g ms ms path segments (merged q segments) (pending ++ v ∷ []) pending
followed_back g ms path [] pending v q is h r =
    let l = (h.known v q is).0 in let z = h.segmented in absurd (omega (arith, l, z))
followed_back g ms path (s ∷ ss) pending v q is h r =
    popped g ms path (s ∷ ss) (merged q (s ∷ ss)) pending v q (λ start rest l. on_path q is l) h
    (path_merged g (mark_at ms) (pending ++ v ∷ []) s ss (length path) (length (pending ++ v ∷ [])) v q h.segmented is (h.known v q is).0
    (reaches_pending g (mark_at ms) pending v (s ∷ ss) (length path) h.segmented r))
    (merged_start q (s ∷ ss))
    (merged_rest g (mark_at ms) (pending ++ v ∷ []) q (s ∷ ss) (length path) (length (pending ++ v ∷ [])) (length pending) h.segmented r) (merged_fewer q (s ∷ ss))

-- The last segment is finished.
module _ (g : List (List ℕ)) (ms : List Mark) (path : List ℕ) (s : Segment) (ss : List Segment) (pending : List ℕ) where
  abbrev after : List Mark
  after = map (closed s.node s.start) ms

  turned : (w : ℕ) (k : Mark) → mark_at ms w ≡ k → mark_at after w ≡ closed s.node s.start k
  turned w k e = mark_closed s.node s.start ms w ∙ ap (closed s.node s.start) e

  was : (w : ℕ) (k : Mark) → mark_at after w ≡ k → closed s.node s.start (mark_at ms w) ≡ k
  was w k e = sym (mark_closed s.node s.start ms w) ∙ e

  finished_done : IsSearch g ms path (s ∷ ss) pending → length pending ≤ s.rest → IsDoneSet g after
  finished_done h last = record {
    shut = λ w x c e t. shut w x c t (closed_done s.node s.start (mark_at ms w) c (was w (Done c) e));
    to_name = λ w c e. to_name w c (closed_done s.node s.start (mark_at ms w) c (was w (Done c) e));
    from_name = λ w c e. from_name w c (closed_done s.node s.start (mark_at ms w) c (was w (Done c) e));
    same = λ v w c d l e f a b. same v w c d (let n = length-map ms (closed s.node s.start) in omega (arith, n, l)) a b
        (closed_done s.node s.start (mark_at ms v) c (was v (Done c) e)) (closed_done s.node s.start (mark_at ms w) d (was w (Done d) f));
  }
    where
      ended : (x : ℕ) → Settled (mark_at ms) pending s.start s.rest x → (d : ℕ) × (mark_at after x ≡ Done d)
      ended x (done c e) = (c, turned x (Done c) e)
      ended x (on_path q e l) = (s.node, turned x (OnPath q) e ∙ closed_behind s.node s.start q l)
      ended x (waits k l w e) = absurd (omega (arith, l, w, last))

      shut : (w x c : ℕ) → IsEdge g w x → ClosedDone (mark_at ms w) s.node s.start c → (d : ℕ) × (mark_at after x ≡ Done d)
      shut w x c t (before e) = let d = h.finished.shut w x c e t in (d.0, turned x (Done d.0) d.1)
      shut w x c t (now p e l n) = ended x (h.segmented.0.settled w p x e l (h.known w p e).0 t)

      to_name : (w c : ℕ) → ClosedDone (mark_at ms w) s.node s.start c → Reaches g w c
      to_name w c (before e) = h.finished.to_name w c e
      to_name w c (now p e l n) = subst (λ (x : ℕ). Reaches g w x) n (h.segmented.0.to_node w p e l (h.known w p e).0)

      from_name : (w c : ℕ) → ClosedDone (mark_at ms w) s.node s.start c → Reaches g c w
      from_name w c (before e) = h.finished.from_name w c e
      from_name w c (now p e l n) = subst (λ (x : ℕ). Reaches g x w) n (h.segmented.0.from_node w p e l (h.known w p e).0)

      stays_done : (v w c p : ℕ) → mark_at ms v ≡ Done c → Reaches g v w → mark_at ms w ≡ OnPath p → ⊥
      stays_done v w c p e r f =
          let d = reach_closed g (λ x. (d : ℕ) × (mark_at ms x ≡ Done d)) (λ x y b t. h.finished.shut x y b.0 b.1 t) v w r (c, e) in
          let z : Done d.0 ≡ OnPath p = sym d.1 ∙ f in
          absurd (cc)

      same : (v w c d : ℕ) → v < length ms → Reaches g v w → Reaches g w v → ClosedDone (mark_at ms v) s.node s.start c → ClosedDone (mark_at ms w) s.node s.start d → c ≡ d
      same v w c d l a b (before e) (before f) = h.finished.same v w c d l e f a b
      same v w c d l a b (before e) (now p f y n) = absurd (stays_done v w c p e a f)
      same v w c d l a b (now p e x n) (before f) = absurd (stays_done w v d p f b e)
      same v w c d l a b (now p e x n) (now q f y o) = sym n ∙ o

  pub finished : IsSearch g ms path (s ∷ ss) pending → length pending ≤ s.rest → IsTurn g ms after (take s.start path) (s ∷ ss) ss pending pending
  finished h last =
      let start : s.start < length path = h.segmented.0.some in
      let cut : length (take s.start path) ≡ s.start = length-take-le s.start path (omega (arith, start)) in
      let order : s.rest ≤ length pending = h.segmented.0.order in
      let rest : s.rest ≡ length pending = omega (arith, order, last) in
      let w = weight_closed s.node s.start ms g in
      record {
        search = record {
          sized = length-map ms (closed s.node s.start) ∙ h.sized;
          known = λ w p e. known w p cut (closed_path s.node s.start (mark_at ms w) p (was w (OnPath p) e));
          placed = λ k w l e. let b : k < s.start = omega (arith, l, cut) in
              turned w (OnPath k) (h.placed k w (omega (arith, b, start)) (sym (get_or-take s.start path k w b) ∙ e)) ∙ closed_before s.node s.start k b;
          finished = finished_done h last;
          segmented = subst (λ (n : ℕ). IsPath g (mark_at after) pending ss n (length pending)) (sym cut)
              (subst (λ (n : ℕ). IsPath g (mark_at after) pending ss s.start n) rest
              (path_kept g (mark_at ms) (mark_at after) pending pending s.start s.start (λ w p e l. left w p (closed_path s.node s.start (mark_at ms w) p (was w (OnPath p) e)))
              settles ss s.start s.rest s.rest (λ k x l b e. (b, e)) (omega arith) (omega arith)
              (starts g (mark_at ms) pending ss s.start s.rest h.segmented.2) (rests ss h.segmented.2) h.segmented.2));
        };
        less = omega (arith, w);
        kept = λ w e. ap is_seen (mark_closed s.node s.start ms w) ∙ seen_closed s.node s.start (mark_at ms w) e;
      }
    where
      known : (w p : ℕ) → length (take s.start path) ≡ s.start → ClosedPath (mark_at ms w) s.start p → (p < length (take s.start path)) × (get_or (take s.start path) p w ≡ w)
      known w p cut (stays e l) = let k = h.known w p e in (omega (arith, cut, l), get_or-take s.start path p w l ∙ k.1)

      left : (w p : ℕ) → ClosedPath (mark_at ms w) s.start p → mark_at ms w ≡ OnPath p
      left w p (stays e l) = e

      settles : (start rest x : ℕ) → start ≤ s.start → Settled (mark_at ms) pending start rest x → Settled (mark_at after) pending start rest x
      settles start rest x l (done c e) = done c (turned x (Done c) e)
      settles start rest x l (on_path q e b) =
          ⊎_elim (λ (y : q < s.start). on_path q (turned x (OnPath q) e ∙ closed_before s.node s.start q y) b)
          (λ (y : s.start ≤ q). done s.node (turned x (OnPath q) e ∙ closed_behind s.node s.start q y)) (cases_lt q s.start)
      settles start rest x l (waits k b w e) = waits k b w e

      rests : (qs : List Segment) → IsPath g (mark_at ms) pending qs s.start s.rest → IsRest qs s.rest
      rests [] k = tt
      rests (q ∷ qs) k = k.0.order

pub turn_same : {g : List (List ℕ)} {ms ms' ms'' : List Mark} {path' path'' : List ℕ} {ss ss' ss'' : List Segment} {pending pending' pending'' : List ℕ}
    → ms'' ≡ ms' → path'' ≡ path' → ss'' ≡ ss' → pending'' ≡ pending' → IsTurn g ms ms' path' ss ss' pending pending' → IsTurn g ms ms'' path'' ss ss'' pending pending''
turn_same {g} {ms} {ms'} {ms''} {path'} {path''} {ss} {ss'} {ss''} {pending} {pending'} {pending''} a b c d t =
    subst (λ (x : List Mark). IsTurn g ms x path'' ss ss'' pending pending'') (sym a)
    (subst (λ (x : List ℕ). IsTurn g ms ms' x ss ss'' pending pending'') (sym b)
    (subst (λ (x : List Segment). IsTurn g ms ms' path' ss x pending pending'') (sym c)
    (subst (λ (x : List ℕ). IsTurn g ms ms' path' ss ss' pending x) (sym d) t)))

pub search_same : {g : List (List ℕ)} {ms ms' : List Mark} {path path' : List ℕ} {ss ss' : List Segment} {pending pending' : List ℕ}
    → ms' ≡ ms → path' ≡ path → ss' ≡ ss → pending' ≡ pending → IsSearch g ms path ss pending → IsSearch g ms' path' ss' pending'
search_same {g} {ms} {ms'} {path} {path'} {ss} {ss'} {pending} {pending'} a b c d t =
    subst (λ (x : List Mark). IsSearch g x path' ss' pending') (sym a)
    (subst (λ (x : List ℕ). IsSearch g ms x ss' pending') (sym b)
    (subst (λ (x : List Segment). IsSearch g ms path x pending') (sym c)
    (subst (λ (x : List ℕ). IsSearch g ms path ss x) (sym d) t)))

pub finished_same : (g : List (List ℕ)) (ms ms' : List Mark) (path path' : List ℕ) (ss : List Segment) (s : Segment) (ss' : List Segment) (pending : List ℕ)
    → ss ≡ s ∷ ss' → ms' ≡ map (closed s.node s.start) ms → path' ≡ take s.start path → length pending ≤ s.rest → IsSearch g ms path ss pending → IsTurn g ms ms' path' ss ss' pending pending
finished_same g ms ms' path path' ss s ss' pending e a b last h =
    subst (λ (x : List Segment). IsTurn g ms ms' path' x ss' pending pending) (sym e)
    (turn_same a b refl refl (finished g ms path s ss' pending (subst (λ (x : List Segment). IsSearch g ms path x pending) e h) last))

pub last_popped : (old new : List Segment) (r : Option Segment) (n k : ℕ) (last : Segment) → old ≡ new ++ option_to_list r → MatchOption r ((n ≡ 0) × (k ≡ 0)) (λ x. k + 1 ≡ n) → n ≡ length old
    → head_of (reverse old) ≡ Some last → reverse old ≡ last ∷ reverse new
last_popped [] new None n k last e m l h = absurd (cc)
last_popped (x ∷ old) new None n k last e m l h = let z = m.0 in absurd (omega (arith, z, l))
last_popped old new (Some x) n k last e m l h =
    let f : reverse old ≡ x ∷ reverse new = ap reverse e ∙ reverse-append new (x ∷ []) in
    let g : Some x ≡ Some last = sym (ap head_of f) ∙ h in
    let i : x ≡ last = cc in
    f ∙ ap (λ y. y ∷ reverse new) i

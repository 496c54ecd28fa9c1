-- The search for strong components: a path of segments, each strongly connected, from each of which an edge leads to the
-- next. An edge that leads back into the path makes one segment of those that it spans; a segment whose edges have all
-- been followed is a component.
-- Source: P. Purdom and E. Munro, as in H. Gabow, Path-based depth-first search for strong and biconnected components,
-- Information Processing Letters 74 (2000).
use Rattle.std.specs.Prelude.{◌≡◌, ℕ, ◌+◌, ◌<◌, ◌≤◌, Bool, true, false, if◌then◌else◌, nat_le, nat_lt, Option, Some, None, List, [], ◌∷◌, ◌++◌, length, reverse, slice_index_or}
use Rattle.fm_graph.specs.Graph.{IsEdge, Reaches}
use Rattle.fm_graph.specs.declared.search.Mark.{Mark}
use Rattle.fm_graph.specs.declared.search.Mark.TheVariants.{Unseen, OnPath, Done}
use Rattle.fm_graph.specs.declared.search.Segment.{Segment}
use Rattle.fm_graph.specs.declared.search.Search.{Search}

-- a node past the end is a component of its own
abbrev pub mark_at : List Mark → ℕ → Mark
mark_at marks v = slice_index_or marks v (Done v)

abbrev pub is_seen : Mark → Bool
is_seen Unseen = false
is_seen (OnPath p) = true
is_seen (Done c) = true

abbrev pub head_of : {X : Type 0} → List X → Option X
head_of [] = None
head_of (x ∷ xs) = Some x

-- whether the first of these segments begins behind a place
abbrev pub begins_behind : ℕ → List Segment → Bool
begins_behind q [] = false
begins_behind q (s ∷ ss) = nat_lt q s.start

-- the segments, the last one first, without those that begin behind a place
abbrev pub merged : ℕ → List Segment → List Segment
merged q [] = []
merged q (s ∷ ss) = if nat_lt q s.start then merged q ss else s ∷ ss

-- the mark when the path from a place on is a component
abbrev pub closed : (node start : ℕ) → Mark → Mark
closed node start Unseen = Unseen
closed node start (OnPath p) = if nat_le start p then Done node else OnPath p
closed node start (Done c) = Done c

-- the component that a node is in at the end
abbrev pub name_of : Mark → ℕ
name_of Unseen = 0
name_of (OnPath p) = p
name_of (Done c) = c

-- the edges of nodes that aren't seen yet, and two for each such node
abbrev pub weight_of : Mark → ℕ → ℕ
weight_of Unseen edges = edges + 2
weight_of (OnPath p) edges = 0
weight_of (Done c) edges = 0

abbrev pub weight : List Mark → List (List ℕ) → ℕ
weight [] g = 0
weight (m ∷ ms) [] = 0
weight (m ∷ ms) (es ∷ g) = weight_of m (length es) + weight ms g

-- what is left to do
abbrev pub work : List Mark → List (List ℕ) → List Segment → List ℕ → ℕ
work marks g segments pending = weight marks g + length segments + length pending

-- the end of an edge of a segment's node: done, or on the path no earlier than the segment, or pending with it
pub data Settled (m : ℕ → Mark) (pending : List ℕ) (start rest x : ℕ) : Type 0 where
  done : (c : ℕ) → m x ≡ Done c → Settled m pending start rest x
  on_path : (q : ℕ) → m x ≡ OnPath q → start ≤ q → Settled m pending start rest x
  waits : (k : ℕ) → rest ≤ k → k < length pending → slice_index_or pending k x ≡ x → Settled m pending start rest x

-- a segment that ends before a place, and whose pending edges end before another one
pub record IsSegment (g : List (List ℕ)) (m : ℕ → Mark) (pending : List ℕ) (s : Segment) (limit rest : ℕ) : Type 0 where
  pub some : s.start < limit
  pub order : s.rest ≤ rest
  pub to_node : (v p : ℕ) → m v ≡ OnPath p → s.start ≤ p → p < limit → Reaches g v s.node
  pub from_node : (v p : ℕ) → m v ≡ OnPath p → s.start ≤ p → p < limit → Reaches g s.node v
  pub waiting : (k x : ℕ) → s.rest ≤ k → k < rest → k < length pending → slice_index_or pending k x ≡ x → Reaches g s.node x
  pub settled : (v p x : ℕ) → m v ≡ OnPath p → s.start ≤ p → p < limit → IsEdge g v x → Settled m pending s.start s.rest x

abbrev pub IsAbove : List (List ℕ) → List Segment → ℕ → Type 0
IsAbove g [] v = Unit {0}
IsAbove g (s ∷ ss) v = Reaches g s.node v

-- the path, the last segment first
abbrev pub IsPath : List (List ℕ) → (ℕ → Mark) → List ℕ → List Segment → (limit rest : ℕ) → Type 0
IsPath g m pending [] limit rest = limit ≡ 0
IsPath g m pending (s ∷ ss) limit rest = IsSegment g m pending s limit rest × IsAbove g ss s.node × IsPath g m pending ss s.start s.rest

-- what is done leads to nothing else, and falls into components
pub record IsDoneSet (g : List (List ℕ)) (marks : List Mark) : Type 0 where
  pub shut : (v x c : ℕ) → mark_at marks v ≡ Done c → IsEdge g v x → (d : ℕ) × (mark_at marks x ≡ Done d)
  pub to_name : (v c : ℕ) → mark_at marks v ≡ Done c → Reaches g v c
  pub from_name : (v c : ℕ) → mark_at marks v ≡ Done c → Reaches g c v
  pub same : (v w c d : ℕ) → v < length marks → mark_at marks v ≡ Done c → mark_at marks w ≡ Done d → Reaches g v w → Reaches g w v → c ≡ d

-- the nodes of the path have the marks that tell where they are, and others have none
abbrev pub IsPlaced : List Mark → List ℕ → Type 0
IsPlaced marks path = (k v : ℕ) → k < length path → slice_index_or path k v ≡ v → mark_at marks v ≡ OnPath k

abbrev pub IsKnown : List Mark → List ℕ → Type 0
IsKnown marks path = (v p : ℕ) → mark_at marks v ≡ OnPath p → (p < length path) × (slice_index_or path p v ≡ v)

pub record IsSearch (g : List (List ℕ)) (marks : List Mark) (path : List ℕ) (segments : List Segment) (pending : List ℕ) : Type 0 where
  pub sized : length marks ≡ length g
  pub known : IsKnown marks path
  pub placed : IsPlaced marks path
  pub finished : IsDoneSet g marks
  pub segmented : IsPath g (mark_at marks) pending segments (length path) (length pending)

-- what was seen stays seen
abbrev pub KeepsSeen : List Mark → List Mark → Type 0
KeepsSeen before after = (v : ℕ) → is_seen (mark_at before v) ≡ true → is_seen (mark_at after v) ≡ true

-- the edges of the last segment begin no later than the pending ones end
abbrev pub IsRest : List Segment → ℕ → Type 0
IsRest [] rest = Unit {0}
IsRest (s ∷ ss) rest = s.rest ≤ rest

-- a step of the search
pub record IsTurn (g : List (List ℕ)) (marks marks' : List Mark) (path' : List ℕ) (segments segments' : List Segment) (pending pending' : List ℕ) : Type 0 where
  pub search : IsSearch g marks' path' segments' pending'
  pub less : work marks' g segments' pending' < work marks g segments pending
  pub kept : KeepsSeen marks marks'

abbrev pub IsSearchOf : List (List ℕ) → Search → Type 0
IsSearchOf g s = IsSearch g s.marks.items s.path.items (reverse s.segments.items) s.pending.items

abbrev pub IsTurnOf : List (List ℕ) → Search → Search → Type 0
IsTurnOf g s t = IsTurn g s.marks.items t.marks.items t.path.items (reverse s.segments.items) (reverse t.segments.items) s.pending.items t.pending.items

-- the same, where an edge's end has been taken from those that are pending
abbrev pub IsTurnFrom : List (List ℕ) → ℕ → Search → Search → Type 0
IsTurnFrom g node s t =
    IsTurn g s.marks.items t.marks.items t.path.items (reverse s.segments.items) (reverse t.segments.items) (s.pending.items ++ node ∷ []) t.pending.items

-- What a worker took from lanes, and what it hands on.
use Rattle.std.proofs.Common.{◌≡◌, ◌≢◌, ℕ, zero, suc, ◌+◌, ◌<◌, ◌≤◌, List, [], ◌∷◌, ◌++◌, length, get_or, set, Option, Some, None, refl, ap, sym, ◌∙◌, append_assoc, length-append, inl, inr, ⊎_elim, arith}
use Rattle.std.specs.Option.{IfNone}
use Rattle.std.specs.List.{slice_get}
use Rattle.std.proofs.Math.Nat.{eq-or-lt_of_le}
use Rattle.std.proofs.lemmas.List.Sums.{sum_by-set, sum_by_push}
use Rattle.std.proofs.lemmas.Option.{same_Some, slice_get_read, slice_get_within}
use Rattle.fm_pool.specs.declared.desk.Next.{Next}
use Rattle.fm_pool.specs.declared.desk.Next.TheVariants.{Runs}
use Rattle.fm_steal.specs.Lanes.{FoundEmpty, got_list, loot_list}
use Rattle.fm_steal.specs.declared.handles.Thief.{Thief}
use Rattle.fm_steal_pool.specs.Workers.{ArePieces, Hands, HandsOn, HasPutNothing, IsSameWorker, SameElsewhere, WasEmptyAt, WereEmpty, given_out, loot_weight, weight}
use Rattle.fm_steal_pool.specs.declared.crew.Worker.{Worker}

-- a write at one place leaves the others
pub set_elsewhere : {X : Type 0} (xs : List X) (i k : ℕ) (x : X) → k ≢ i → slice_get (set xs i x) k ≡ slice_get xs k
set_elsewhere [] i k x ne = refl
set_elsewhere (y ∷ ys) zero zero x ne = absurd (ne refl)
set_elsewhere (y ∷ ys) zero (suc k) x ne = refl
set_elsewhere (y ∷ ys) (suc i) zero x ne = refl
set_elsewhere (y ∷ ys) (suc i) (suc k) x ne = set_elsewhere ys i k x (λ (e : k ≡ i). ne (ap suc e))

module _ {P : Type 0} where
  -- a piece that was stolen is what the thieves together took more
  pub one_stolen : (h : P → ℕ) (others : List (Thief P)) (place : ℕ) (old new : Thief P) (pair : ℕ × P) → place < length others → old ≡ get_or others place old
      → loot_list new ≡ loot_list old ++ pair ∷ [] → loot_weight h (set others place new) ≡ loot_weight h others + h pair.1
  one_stolen h others place old new pair lt at more =
      let f : Thief P → ℕ = λ t. weight h (loot_list t) in
      let all = sum_by-set f others place new old lt in
      let was : f (get_or others place old) ≡ f old = ap f (sym at) in
      let now : f new ≡ f old + h pair.1 = ap (weight h) more ∙ sum_by_push (λ (p : ℕ × P). h p.1) (loot_list old) pair in
      omega (arith, all, was, now)

  -- where nothing was stolen, they took nothing more
  pub none_stolen : (h : P → ℕ) (others : List (Thief P)) (place : ℕ) (old new : Thief P) → place < length others → old ≡ get_or others place old
      → loot_list new ≡ loot_list old → loot_weight h (set others place new) ≡ loot_weight h others
  none_stolen h others place old new lt at same =
      let f : Thief P → ℕ = λ t. weight h (loot_list t) in
      let all = sum_by-set f others place new old lt in
      let was : f (get_or others place old) ≡ f old = ap f (sym at) in
      let now : f new ≡ f old = ap (weight h) same in
      omega (arith, all, was, now)

  -- a pair that was popped is what the owner took more
  pub one_popped : (h : P → ℕ) (old new : List (ℕ × P)) (pair : ℕ × P) → new ≡ old ++ pair ∷ [] → weight h new ≡ weight h old + h pair.1
  one_popped h old new pair more = ap (weight h) more ∙ sum_by_push (λ (p : ℕ × P). h p.1) old pair

  -- what is handed on behind a step that hands on nothing
  pub hands_on : (a b c : Worker P) (handed : Option P) → HandsOn a b None → HandsOn b c handed → HandsOn a c handed
  hands_on a b c handed first then h =
      let p = first h in
      let q = then h in
      omega (arith, p, q)

  pub hands_then : (a b c : Worker P) (handed : Option P) → HandsOn a b None → Hands b c handed → Hands a c handed
  hands_then a b c handed first then = ⊎_elim (λ (h : HandsOn b c handed). inl (hands_on a b c handed first h)) (λ (h : HandsOn b c None). inr (hands_on a b c None first h)) then

  pub hands_none : (a b : Worker P) → Hands a b None → HandsOn a b None
  hands_none a b h = ⊎_elim (λ (x : HandsOn a b None). x) (λ (x : HandsOn a b None). x) h

  pub same_worker : (a b c : Worker P) → IsSameWorker a b → IsSameWorker b c → IsSameWorker a c
  same_worker a b c first then = (then.0 ∙ first.0, then.1 ∙ first.1)

  pub put_nothing : (a b c : Worker P) → HasPutNothing a b → HasPutNothing b c → HasPutNothing a c
  put_nothing a b c first then = (then.0 ∙ first.0, same_worker a b c first.1 then.1)

  -- a piece that is put comes behind those that were given out before
  pub one_put : (old mid new given : List P) (piece : P) → mid ≡ old ++ given → new ≡ mid ++ piece ∷ [] → new ≡ old ++ (given ++ piece ∷ [])
  one_put old mid new given piece so put = put ∙ (ap (λ (l : List P). l ++ piece ∷ []) so ∙ append_assoc old given (piece ∷ []))

  -- one more answer gave a piece out
  pub pieces_more : (answers : List (Next P)) (piece : P) → ArePieces answers → ArePieces (Runs piece ∷ answers)
  pieces_more answers piece pieces = let more = length-append (given_out answers) (piece ∷ []) in omega (arith, more, pieces)

  -- one that the lane refuses comes back behind them
  pub one_back : (old mid new given : List P) (piece back : P) → mid ≡ old ++ given → new ≡ mid → back ≡ piece → new ++ back ∷ [] ≡ old ++ (given ++ piece ∷ [])
  one_back old mid new given piece back so same is =
      ap (λ (l : List P). l ++ back ∷ []) (same ∙ so) ∙ (ap (λ (x : P). (old ++ given) ++ x ∷ []) is ∙ append_assoc old given (piece ∷ []))

  -- a worker whose lane and ways are as they were has taken nothing more
  pub took_nothing : (old new : Worker P) → got_list new.lane ≡ got_list old.lane → new.others ≡ old.others → HandsOn old new None
  took_nothing old new got others h =
      let a : weight h (got_list new.lane) ≡ weight h (got_list old.lane) = ap (weight h) got in
      let b : loot_weight h new.others.items ≡ loot_weight h old.others.items = ap (λ v. loot_weight h v.items) others in
      omega (arith, a, b)

  -- what holds anyway holds where there is no piece
  pub if_none : (handed : Option P) (R : Type 0) → R → IfNone handed R
  if_none None R r = r
  if_none (Some piece) R r = tt

  -- a thief that found its lane empty is the one at its place
  pub was_empty : (others : List (Thief P)) (place : ℕ) (old : Thief P) → place < length others → old ≡ get_or others place old
      → FoundEmpty old → WasEmptyAt place others
  was_empty others place old lt at empty = λ t is.
      let e : old ≡ t = same_Some old t (sym (slice_get_read others (length others) place old refl lt at) ∙ is) in
      rw e at empty

  -- the thieves before this place found their lanes empty, and the others are as they were
  abbrev pub HaveTried : ℕ → (old new : List (Thief P)) → Type 0
  HaveTried place old new =
      ((k : ℕ) → place ≤ k → slice_get new k ≡ slice_get old k) × ((k : ℕ) → k < place → WasEmptyAt k old)

  pub tried_none : (all : List (Thief P)) → HaveTried 0 all all
  tried_none all = (λ k le. refl, λ k lt. absurd (omega (arith, lt)))

  pub tried_more : (place : ℕ) (old mid new : List (Thief P)) → HaveTried place old mid
      → SameElsewhere place mid new → WasEmptyAt place mid → HaveTried (place + 1) old new
  tried_more place old mid new h others empty =
      let here : slice_get mid place ≡ slice_get old place = h.0 place (omega arith) in (
        λ (k : ℕ) (le : place + 1 ≤ k). others k (λ (e : k ≡ place). omega (arith, le, e)) ∙ h.0 k (omega (arith, le)),
        λ (k : ℕ) (lt : k < place + 1) (t : Thief P) (is : slice_get old k ≡ Some t).
            ⊎_elim (λ (e : k ≡ place). empty t (here ∙ (ap (slice_get old) (sym e) ∙ is))) (λ (b : k < place). h.1 k b t is)
            (eq-or-lt_of_le (omega (arith, lt))),
      )

  pub tried_all : (place : ℕ) (old new : List (Thief P)) → length old ≤ place → HaveTried place old new → WereEmpty old
  tried_all place old new le h = λ k t is. let within = slice_get_within old k t is in h.1 k (omega (arith, le, within)) t is

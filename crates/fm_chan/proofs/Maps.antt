-- Bodies kept by name, and the finite map of channels that they stand for.
use Rattle.std.proofs.Common.{◌≡◌, ◌≢◌, ◌⊎◌, ◌+◌, ◌≤◌, ℕ, inl, inr, true, ◌++◌, List, Option, Some, None, refl, sym, ap, subst, arith, ◌∙◌}
use Rattle.std.specs.Prelude.{IsSome, is_some, Result, Ok, Err, OnOk, OnErr}
use Rattle.std.specs.Option.{option_map}
use Rattle.std.specs.FinMap as map
use Rattle.fm_base.specs.declared.path.ChanName.{ChanName}
use Rattle.fm_base.specs.declared.port.PortValue.{PortValue}
use Rattle.fm_base.specs.PathOrder.{channel_cmp}
use Rattle.fm_base.specs.Channels.{Chan, channel_of, discarded, freed, shut, shut_at}
use Rattle.fm_finmap.specs.Changes.{adjust}
use Rattle.fm_finmap.specs.Map.{map_of, map_values}
use Rattle.fm_finmap.specs.Sums.{total, value_or_zero}
use Rattle.fm_finmap.proofs.Keys.{channel_order, decide}
use Rattle.fm_finmap.proofs.Adjusts.{adjust_absent}
use Rattle.fm_finmap.proofs.Inserts.{insert_here, insert_there}
use Rattle.fm_finmap.proofs.Maps.{get-map_values, map_values-empty, map_values-insert, map_values-adjust, map_values-same}
use Rattle.fm_finmap.proofs.Sums.{total-insert, total-empty, total-le, total-ones}
use Rattle.fm_chan.specs.declared.body.Body.{Body}
use Rattle.fm_chan.specs.Kept.{Named, chan_of, chans_in}
use Rattle.fm_chan.specs.Rooms.{IsRoomy, RoomAt, HasRoomIn, KeepsRoomIn, KeepsOthersRoomIn}
use Rattle.fm_chan.specs.Readers.{reader_of, reader_in, reader_at, WakesHere, WakesOne, count_of, noted_in}

abbrev pub by_name : Named → map.FinMap channel_cmp Body
by_name bodies = map_of channel_cmp bodies

pub chans_in-empty : (bodies : Named) → by_name bodies ≡ map.empty → chans_in bodies ≡ map.empty
unfolding chans_in
chans_in-empty bodies e = ap (map_values chan_of) e ∙ map_values-empty chan_of

pub get-chans_in : (bodies : Named) (q : ChanName) → map.get (chans_in bodies) q ≡ option_map chan_of (map.get (by_name bodies) q)
unfolding chans_in
get-chans_in bodies q = get-map_values chan_of (by_name bodies) q

-- what is found at a name
pub chan_found : (bodies : Named) (q : ChanName) (o : Option Body) → o ≡ map.get (by_name bodies) q → map.get (chans_in bodies) q ≡ option_map chan_of o
chan_found bodies q o is = get-chans_in bodies q ∙ ap (option_map chan_of) (sym is)

pub found_of : (bodies : Named) (q : ChanName) (x : PortValue) → q ≡ channel_of x → (o : Option Body) → o ≡ map.get (by_name bodies) q → map.get (chans_in bodies) (channel_of x) ≡ option_map chan_of o
found_of bodies q x name o is = ap (map.get (chans_in bodies)) (sym name) ∙ chan_found bodies q o is

some_mapped : (o : Option Body) → is_some o ≡ is_some (option_map chan_of o)
some_mapped None = refl
some_mapped (Some b) = refl

pub contains-chans_in : (bodies : Named) (q : ChanName) → map.contains_key (by_name bodies) q ≡ map.contains_key (chans_in bodies) q
contains-chans_in bodies q = some_mapped (map.get (by_name bodies) q) ∙ ap is_some (sym (get-chans_in bodies q))

pub not_there : (bodies : Named) (q : ChanName) → map.contains_key (chans_in bodies) q ≡ true → None ≡ map.get (by_name bodies) q → ⊥
not_there bodies q there is = cc (sym there ∙ sym (contains-chans_in bodies q) ∙ ap is_some (sym is))

no_body : (o : Option Body) → option_map chan_of o ≡ None → o ≡ None
no_body None e = refl
no_body (Some b) e = absurd (cc e)

pub some_is : {X : Type 0} (o : Option X) (x : X) → Some x ≡ o → IsSome o
some_is o x e = subst (λ (p : Option _). IsSome p) e refl

-- ---- how many readers are noted

abbrev noted : Body → ℕ
noted b = count_of b.reader

pub noted_in-empty : (bodies : Named) → by_name bodies ≡ map.empty → noted_in bodies ≡ 0
unfolding noted_in
noted_in-empty bodies e = ap (total noted) e ∙ total-empty channel_cmp noted

at_most_one : (o : Option ℕ) → count_of o ≤ 1
at_most_one None = omega arith
at_most_one (Some n) = omega arith

-- no more than there are channels
pub noted_in-le : (bodies : Named) → noted_in bodies ≤ map.len (by_name bodies)
unfolding noted_in
noted_in-le bodies = omega (arith, total-le channel_order noted (λ b. 1) (by_name bodies) (λ c b is. at_most_one b.reader), total-ones (by_name bodies))

-- ---- one more body

module _ (old new : Named) (q : ChanName) (b : Body) (e : by_name new ≡ map.insert (by_name old) q b) where
  pub chans_in-insert : (ch : Chan) → chan_of b ≡ ch → chans_in new ≡ map.insert (chans_in old) q ch
  unfolding chans_in
  chans_in-insert ch is = ap (map_values chan_of) e ∙ map_values-insert chan_of channel_order (by_name old) q b ∙ ap (map.insert (map_values chan_of (by_name old)) q) is

  pub others_keep : KeepsOthersRoomIn q old new
  unfolding HasRoomIn
  others_keep d apart room = subst (λ (o : Option Body). RoomAt o) (sym (ap (λ m. map.get m d) e ∙ insert_there channel_order (by_name old) q b d apart)) room

  pub found_new : map.get (by_name new) q ≡ Some b
  found_new = ap (λ m. map.get m q) e ∙ insert_here channel_order (by_name old) q b

  pub chan_new : map.get (chans_in new) q ≡ Some (chan_of b)
  chan_new = chan_found new q (Some b) (sym found_new)

  -- who waits elsewhere waits still
  pub reader_elsewhere : (c : ChanName) → (c ≢ q) → reader_at new c ≡ reader_at old c
  unfolding reader_at
  reader_elsewhere c apart = ap reader_in (ap (λ m. map.get m c) e ∙ insert_there channel_order (by_name old) q b c apart)

  pub reader_new : reader_at new q ≡ reader_of b
  unfolding reader_at
  reader_new = ap reader_in found_new

  pub noted_more : noted_in new + value_or_zero noted (map.get (by_name old) q) ≡ noted_in old + noted b
  unfolding noted_in
  noted_more = ap (λ m. total noted m + value_or_zero noted (map.get (by_name old) q)) e ∙ total-insert channel_order noted (by_name old) q b

  -- where there was none, nobody waited
  module _ (absent : map.get (chans_in old) q ≡ None) where
    none_found : map.get (by_name old) q ≡ None
    none_found = no_body (map.get (by_name old) q) (sym (get-chans_in old q) ∙ absent)

    nobody : (n : ℕ) → reader_at old q ≡ Some n → ⊥
    unfolding reader_at
    nobody n is = cc (sym is ∙ ap reader_in none_found)

    pub one_more_wakes : (Fact : Option Chan → Type 0) → WakesOne Fact old new None
    one_more_wakes Fact c n is = go (decide channel_order c q)
      where
        go : Dec (c ≡ q) → (reader_at new c ≡ Some n) ⊎ ((None ≡ Some n) × Fact (map.get (chans_in new) c))
        go (yes same) = absurd (nobody n (ap (reader_at old) (sym same) ∙ is))
        go (no apart) = inl (reader_elsewhere c apart ∙ is)

    pub one_more_noted : b.reader ≡ None → noted_in new ≡ noted_in old
    one_more_noted none = omega (arith, noted_more, ap (value_or_zero noted) none_found, ap count_of none)

pub maybe_more_noted : {T E : Type 0} (r : Result T E) (old new : Named) (q : ChanName) (b : Body) → OnOk r (by_name new ≡ map.insert (by_name old) q b) → OnErr r (new ≡ old)
    → map.get (chans_in old) q ≡ None → b.reader ≡ None → noted_in new ≡ noted_in old
maybe_more_noted (Ok x) old new q b more same absent none = one_more_noted old new q b more absent none
maybe_more_noted (Err x) old new q b more same absent none = ap noted_in same

-- what has room at its name has room
pub room_there : (bodies : Named) (q : ChanName) (b : Body) → Some b ≡ map.get (by_name bodies) q → HasRoomIn bodies q → IsRoomy b
unfolding HasRoomIn
room_there bodies q b is room = subst (λ (o : Option Body). RoomAt o) (sym is) room

-- ---- a body that is there is changed

module _ (old new : Named) (q : ChanName) (b d : Body) (is : Some b ≡ map.get (by_name old) q) (holds : IsSome (map.get (by_name old) q) → by_name new ≡ map.insert (by_name old) q d) where
  change : by_name new ≡ map.insert (by_name old) q d
  change = holds (some_is _ b is)

  pub adjusted_at : (f : Chan → Chan) → chan_of d ≡ f (chan_of b) → chans_in new ≡ adjust (chans_in old) q f
  unfolding chans_in
  adjusted_at f e = ap (map_values chan_of) change ∙ map_values-adjust channel_order chan_of (by_name old) q f b d is e

  pub unchanged_at : chan_of d ≡ chan_of b → chans_in new ≡ chans_in old
  unfolding chans_in
  unchanged_at e = ap (map_values chan_of) change ∙ map_values-same channel_order chan_of (by_name old) q b d is e

  pub room_was : HasRoomIn old q → IsRoomy b
  unfolding HasRoomIn
  room_was room = subst (λ (o : Option Body). RoomAt o) (sym is) room

  pub room_is : IsRoomy d → HasRoomIn new q
  unfolding HasRoomIn
  room_is room = subst (λ (o : Option Body). RoomAt o) (sym (found_new old new q d change)) room

  pub others_keep_room : KeepsOthersRoomIn q old new
  others_keep_room = others_keep old new q d change

  pub keep_room : (IsRoomy b → IsRoomy d) → KeepsRoomIn old new
  keep_room stays c room = go (decide channel_order c q)
    where
      go : Dec (c ≡ q) → HasRoomIn new c
      go (yes e) = subst (λ (k : ChanName). HasRoomIn new k) (sym e) (room_is (stays (room_was (subst (λ (k : ChanName). HasRoomIn old k) e room))))
      go (no n) = others_keep_room c n room

  -- ---- who waited there

  pub reader_was : reader_at old q ≡ reader_of b
  unfolding reader_at
  reader_was = ap reader_in (sym is)

  pub reader_is : reader_at new q ≡ reader_of d
  reader_is = reader_new old new q d change

  pub reader_there : (c : ChanName) → (c ≢ q) → reader_at new c ≡ reader_at old c
  reader_there = reader_elsewhere old new q d change

  module _ (Fact : Option Chan → Type 0) (woken : Option ℕ) (here : WakesHere Fact b d woken) where
    at_name : (n : ℕ) → (reader_of d ≡ Some n) ⊎ ((woken ≡ Some n) × Fact (Some (chan_of d))) → (reader_at new q ≡ Some n) ⊎ ((woken ≡ Some n) × Fact (map.get (chans_in new) q))
    at_name n (inl e) = inl (reader_is ∙ e)
    at_name n (inr w) = inr (w.0, subst Fact (sym (chan_new old new q d change)) w.1)

    pub wakes_one : WakesOne Fact old new woken
    wakes_one c n waits = go (decide channel_order c q)
      where
        go : Dec (c ≡ q) → (reader_at new c ≡ Some n) ⊎ ((woken ≡ Some n) × Fact (map.get (chans_in new) c))
        go (yes e) = subst (λ (k : ChanName). (reader_at new k ≡ Some n) ⊎ ((woken ≡ Some n) × Fact (map.get (chans_in new) k))) (sym e)
            (at_name n (here n (sym reader_was ∙ ap (reader_at old) (sym e) ∙ waits)))
        go (no apart) = inl (reader_there c apart ∙ waits)

  pub noted_at : noted_in new + noted b ≡ noted_in old + noted d
  noted_at = ap (λ o. noted_in new + value_or_zero noted o) is ∙ noted_more old new q d change

  pub noted_out : (woken : Option ℕ) → count_of d.reader + count_of woken ≡ count_of b.reader → noted_in new + count_of woken ≡ noted_in old
  noted_out woken e = omega (arith, noted_at, e)

  pub noted_same : d.reader ≡ b.reader → noted_in new ≡ noted_in old
  noted_same e = omega (arith, noted_at, ap count_of e)

-- and of the channel of a port

module _ (old new : Named) (q : ChanName) (x : PortValue) (name : q ≡ channel_of x) (b d : Body) (is : Some b ≡ map.get (by_name old) q) (holds : IsSome (map.get (by_name old) q) → by_name new ≡ map.insert (by_name old) q d) where
  found_at : map.get (chans_in old) (channel_of x) ≡ Some (chan_of b)
  found_at = ap (map.get (chans_in old)) (sym name) ∙ chan_found old q (Some b) is

  pub shut_there : chan_of d ≡ discarded x (chan_of b) → chans_in new ≡ shut x (chans_in old)
  shut_there e =
      chans_in-insert old new q d (holds (some_is _ b is)) (discarded x (chan_of b)) e
      ∙ ap (λ k. map.insert (chans_in old) k (discarded x (chan_of b))) name
      ∙ sym (ap (shut_at x (chans_in old)) found_at)

  pub freed_there : (ps qs : List PortValue) → ps ≡ freed x (Some (chan_of b)) ++ qs → ps ≡ freed x (map.get (chans_in old) (channel_of x)) ++ qs
  freed_there ps qs e = e ∙ ap (λ o. freed x o ++ qs) (sym found_at)

-- ---- none is there

module _ (old new : Named) (q : ChanName) (same : new ≡ old) (is : None ≡ map.get (by_name old) q) where
  pub same_chans : chans_in new ≡ chans_in old
  same_chans = ap chans_in same

  pub adjusted_absent : (f : Chan → Chan) → chans_in new ≡ adjust (chans_in old) q f
  adjusted_absent f = same_chans ∙ sym (adjust_absent channel_order (chans_in old) q f (chan_found old q None is))

  pub shut_absent : (x : PortValue) → q ≡ channel_of x → chans_in new ≡ shut x (chans_in old)
  shut_absent x e = same_chans ∙ sym (ap (shut_at x (chans_in old)) (ap (map.get (chans_in old)) (sym e) ∙ chan_found old q None is))

  pub freed_absent : (x : PortValue) → q ≡ channel_of x → (ps : List PortValue) → ps ≡ freed x (map.get (chans_in old) (channel_of x)) ++ ps
  freed_absent x e ps = sym (ap (λ o. freed x o ++ ps) (ap (map.get (chans_in old)) (sym e) ∙ chan_found old q None is))

  pub keep_room_absent : KeepsRoomIn old new
  keep_room_absent c room = subst (λ (bodies : Named). HasRoomIn bodies c) (sym same) room

  pub room_absent : HasRoomIn new q
  unfolding HasRoomIn
  room_absent = subst (λ (o : Option Body). RoomAt o) (is ∙ ap (λ bodies. map.get (by_name bodies) q) (sym same)) tt

  pub wakes_absent : (Fact : Option Chan → Type 0) (woken : Option ℕ) → WakesOne Fact old new woken
  wakes_absent Fact woken c n waits = inl (ap (λ bodies. reader_at bodies c) same ∙ waits)

  pub noted_absent : noted_in new ≡ noted_in old
  noted_absent = ap noted_in same

-- Children that are joined: the room for them, and what becomes of the processes.
use Rattle.std.proofs.Common.{◌≡◌, ℕ, zero, suc, ◌+◌, ◌<◌, Some, List, [], ◌∷◌, ◌++◌, map, refl, sym, ap, ap₂, subst, ◌∙◌, arith}
use Rattle.std.specs.Prelude.{Option, Result, Ok, Err, IfOk, OnErr, option_map}
use Rattle.std.specs.FinMap.{get, insert}
use Rattle.fm_finmap.specs.Changes.{alter, alters}
use Rattle.fm_finmap.proofs.Alters.{alters_past}
use Rattle.fm_finmap.proofs.Inserts.{insert_here, insert_there, put_again}
use Rattle.fm_code.specs.declared.body.Body.{Body}
use Rattle.fm_net.specs.Machine.{Place, Procs, child, with_child, gathered, child_changes}
use Rattle.fm_net.proofs.Children.{first_gathered, not_own_child, off_children}
use Rattle.fm_net.proofs.Keys.{path_order}
use Rattle.fm_proc_language.specs.Processes.{CodeProc, emptied, has_ended}
use Rattle.fm_proc_language.specs.Slots.{Slots}
use Rattle.fm_procs.specs.declared.opening.OpenJoin.{OpenJoin}
use Rattle.fm_procs.specs.Joinings.{HasRoomToJoin}
use Rattle.fm_procs.specs.declared.opening.Left.{Left}
use Rattle.fm_procs.specs.Lefts.{left_by, left_of}
use Rattle.fm_procs.specs.Rooms.{left_room, lefts_room}
use Rattle.fm_procs.proofs.Joinings.{less_room}
use Rattle.fm_net.specs.declared.kids.Family.{Family}
use Rattle.fm_procs.specs.Blocks.{HasRoomFrom}
use Rattle.fm_procs.specs.Kept.{AreChildren}
use Rattle.fm_procs.specs.Readings.{Entries, order_of, procs_of}
use Rattle.fm_procs.proofs.Doing.{still_there}
use Rattle.fm_net_procs.proofs.Family.{child_as_before}

-- ---- the process itself

-- the children of a process stay where itself changes alone
pub gathered_past : (p : Place) (b i n : ℕ) (m : Procs CodeProc) (z : CodeProc) → gathered has_ended (insert m p z) p b i n ≡ gathered has_ended m p b i n
gathered_past p b i zero m z = refl
gathered_past p b i (suc n) m z = ap₂ (with_child has_ended) (insert_there path_order m p z (child p b i) (λ e. not_own_child p (b, i) (sym e))) (gathered_past p b (suc i) n m z)

-- what it was meanwhile isn't seen any more
pub meanwhile : (p : Place) (b n : ℕ) (m : Procs CodeProc) (z after : CodeProc) → insert (alters (child_changes emptied p b 1 n) (insert m p z)) p after ≡ insert (alters (child_changes emptied p b 1 n) m) p after
unfolding alter
meanwhile p b n m z after =
    let ws = child_changes emptied p b 1 n in
    sym (ap (λ k. insert k p after) (alters_past path_order ws m p (λ o. Some z) (off_children emptied p p b 1 n (λ j low high. not_own_child p (b, j)))))
    ∙ put_again path_order (alters ws m) p (Some z) (Some after)

-- it stands there while its children come
pub stands_meanwhile : (p : Place) (b n : ℕ) (old now later : Procs CodeProc) (z : CodeProc) → now ≡ insert old p z → later ≡ alters (child_changes emptied p b 1 n) now → get later p ≡ Some z
stands_meanwhile p b n old now later z opened taken =
    ap (λ m. get m p) taken ∙ still_there p b n now ∙ ap (λ m. get m p) opened ∙ insert_here path_order old p z

-- ---- room

pub room_more : (xs : List CodeProc) (x : CodeProc) → lefts_room (map left_by (xs ++ x ∷ [])) ≡ lefts_room (map left_by xs) + left_room x.body
room_more [] x = omega arith
room_more (y ∷ xs) x = let more = room_more xs x in omega (arith, more)

-- the child that is next, and the room for it and for those behind it
pub record NextChild (x : Entries) (f : Family) (n : ℕ) (j : OpenJoin) : Type 0 where
  pub place : Place
  pub block : ℕ
  pub stand : AreChildren (order_of x) f.first place block f.count
  pub head : CodeProc
  pub is : get (procs_of x) (child place block (n + 1)) ≡ Some head
  pub room : HasRoomToJoin j (left_room head.body)
  pub on : (j' : OpenJoin) → ((ports : ℕ) → HasRoomToJoin j (left_room head.body + ports) → HasRoomToJoin j' ports) → HasRoomFrom x f (n + 1) j'

next_of : (x : Entries) (f : Family) (n : ℕ) (j : OpenJoin) (place : Place) (block others : ℕ) (children : List CodeProc) → n < f.count → n + others ≡ f.count → AreChildren (order_of x) f.first place block f.count →
    gathered has_ended (procs_of x) place block (n + 1) others ≡ Some children → HasRoomToJoin j (lefts_room (map left_by children)) → NextChild x f n j
next_of x f n j place block zero children low all stand ended room = absurd (omega (arith, low, all))
next_of x f n j place block (suc others) children low all stand ended room =
    let g = first_gathered has_ended (procs_of x) place block (n + 1) others children ended in
    let whole : HasRoomToJoin j (left_room g.head.body + lefts_room (map left_by g.tail)) = subst (λ (zs : List CodeProc). HasRoomToJoin j (lefts_room (map left_by zs))) (sym g.all) room in
    let next : suc (n + 1) ≡ (n + 1) + 1 = omega arith in
    record {
      place = place;
      block = block;
      stand = stand;
      head = g.head;
      is = g.is;
      room = less_room j (left_room g.head.body + lefts_room (map left_by g.tail)) (left_room g.head.body) (omega arith) whole;
      on = λ j' leaves. record {
        place = place;
        block = block;
        others = others;
        children = g.tail;
        all = omega (arith, all);
        stand = stand;
        ended = ap (λ (i : ℕ). gathered has_ended (procs_of x) place block i others) (sym next) ∙ g.others;
        room = leaves (lefts_room (map left_by g.tail)) whole;
      };
    }

pub next_child : (x : Entries) (f : Family) (n : ℕ) (j : OpenJoin) → n < f.count → HasRoomFrom x f n j → NextChild x f n j
next_child x f n j low r = next_of x f n j r.place r.block r.others r.children low r.all r.stand r.ended r.room

-- what the child that is next left
pub next_left : (x : Entries) (f : Family) (n : ℕ) (j : OpenJoin) (c : NextChild x f n j) (now : Procs CodeProc) (o : Option Left) →
    option_map left_of o ≡ option_map left_by (get now (child c.place c.block (n + 1))) → now ≡ alters (child_changes emptied c.place c.block 1 n) (procs_of x) → option_map left_of o ≡ Some (left_by c.head)
next_left x f n j c now o left is =
    left ∙ ap (λ m. option_map left_by (get m (child c.place c.block (n + 1)))) is
    ∙ ap (option_map left_by) (child_as_before emptied c.place c.block n (procs_of x) ∙ c.is)

inside : {X : Type 0} (x y : X) → Some x ≡ Some y → x ≡ y
inside x y e = cc e

pub body_left : (l : Left) (y : CodeProc) → option_map left_of (Some l) ≡ Some (left_by y) → y.body ≡ l.body
body_left l y e = sym (ap (λ (z : Option Body × Slots). z.0) (inside (left_of l) (left_by y) e))

-- ---- either way

pub either_way : {T E : Type 0} {A Q : Type 0} {P : T → Type 0} (r : Result T E) → ((x : T) → P x → A) → (Q → A) → IfOk r P → OnErr r Q → A
either_way (Ok x) f g done failed = f x done
either_way (Err e) f g done failed = g failed

pub when_err : {T E : Type 0} {A Q : Type 0} (r : Result T E) → (Q → A) → OnErr r Q → OnErr r A
when_err (Ok x) g failed = tt
when_err (Err e) g failed = g failed

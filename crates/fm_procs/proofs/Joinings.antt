-- What children left, one after the other, and the join as the machine sees it.
use Rattle.std.proofs.Common.{◌≡◌, ℕ, ℤ, ◌+◌, ◌*◌, ◌≤◌, ◌==◌, zero, suc, drop, Option, Some, None, List, [], ◌∷◌, ◌++◌, length, map, refl, sym, ap, ap₂, arith, append-nil, vec_len, vec_capacity, ◌∙◌}
use Rattle.std.specs.Prelude.{option_map}
use Rattle.std.specs.Global.{Vec}
use Rattle.std.specs.List.{flat_map}
use Rattle.fm_base.specs.Channels.{Chans, all_shed}
use Rattle.fm_base.specs.declared.port.PortValue.{PortValue}
use Rattle.fm_code.specs.declared.ask.Ask.TheVariants as ask
use Rattle.fm_code.specs.declared.body.Back.{Back}
use Rattle.fm_code.specs.declared.body.Body.{Body}
use Rattle.fm_code.specs.Passing.{back_words}
use Rattle.fm_code.specs.Statements.{at_statement, left_ports, with_words}
use Rattle.fm_machine_calls.specs.declared.looking.Look.TheVariants.{Asks}
use Rattle.fm_net.specs.Machine.{Place}
use Rattle.fm_proc_language.specs.Slots.{Slots, vacated}
use Rattle.fm_proc_language.specs.Frames.{Held, Joined}
use Rattle.fm_proc_language.specs.Processes.{CodeProc, Kid, Running, given_back, rest_dropped, kid_back, kids_back, joining_words, joined, holding, frame_words}
use Rattle.fm_proc_slots.specs.declared.joining.Gains.{Gains}
use Rattle.fm_proc_slots.specs.declared.joining.Child.{Child}
use Rattle.fm_proc_slots.specs.Helds.{held}
use Rattle.fm_proc_slots.specs.Joins as by
use Rattle.fm_proc_slots.specs.Joins.{GivesAlike, GivesSo, HasRoomFor, LeavesRoomFor}
use Rattle.fm_proc_slots.specs.Rooms.{slots_in}
use Rattle.fm_proc_slots.proofs.RoomLaws.{fewer}
use Rattle.fm_proc_slots.proofs.Roomy.{room_within}
use Rattle.fm_proc_slots.proofs.Vacated.{same_vacated}
use Rattle.fm_procs.specs.declared.opening.OpenJoin.{OpenJoin}
use Rattle.fm_procs.specs.Lefts.{left_by}
use Rattle.fm_proc_events.specs.Performs.{Joins}
use Rattle.fm_procs.specs.Gains.{alone, gained, mine_of, first_kid, other_kids, lefts_back}
use Rattle.fm_procs.specs.Joinings.{HasJoined, HasRoomToJoin, kids_of}
use Rattle.fm_proc_events.proofs.Asked.{asks_joining}

-- What the parent has doesn't depend on the child before.

same_kid : (j j' : Joined) (k : Kid) (s : Slots) (o : Option Body) → mine_of j ≡ mine_of j' → mine_of (kid_back j k s o) ≡ mine_of (kid_back j' k s o)
same_kid j j' k s None e = e
same_kid j j' k s (Some b) e =
    ap (λ (m : Held × List PortValue). mine_of (rest_dropped b (given_back (b.frame.unit == k.unit) (record { mine = m.0; theirs = record { words = b.frame.words; slots = s }; drops = m.1 }) k.backs))) e

same_lefts : (j j' : Joined) (kids : List Kid) (xs : List (Option Body × Slots)) → mine_of j ≡ mine_of j' → mine_of (lefts_back j kids xs) ≡ mine_of (lefts_back j' kids xs)
same_lefts j j' kids [] e = e
same_lefts j j' kids (x ∷ xs) e = same_lefts (kid_back j (first_kid kids) x.1 x.0) (kid_back j' (first_kid kids) x.1 x.0) (other_kids kids) xs (same_kid j j' (first_kid kids) x.1 x.0 e)

-- the kids behind so many
others_behind : (n : ℕ) (kids : List Kid) → other_kids (drop n kids) ≡ drop (suc n) kids
others_behind zero [] = refl
others_behind zero (k ∷ ks) = refl
others_behind (suc n) [] = refl
others_behind (suc n) (k ∷ ks) = others_behind n ks

behind_first : (n : ℕ) (kids : List Kid) → drop n (other_kids kids) ≡ drop (suc n) kids
behind_first zero [] = refl
behind_first (suc n) [] = refl
behind_first n (k ∷ ks) = refl

one_longer : {X : Type 0} (xs : List X) (x : X) → suc (length xs) ≡ length (xs ++ x ∷ [])
one_longer [] x = refl
one_longer (y ∷ xs) x = ap suc (one_longer xs x)

-- by what one child more left
lefts_more : (j : Joined) (kids : List Kid) (xs : List (Option Body × Slots)) (x : Option Body × Slots) → lefts_back j kids (xs ++ x ∷ []) ≡ kid_back (lefts_back j kids xs) (first_kid (drop (length xs) kids)) x.1 x.0
lefts_more j kids [] x = refl
lefts_more j kids (y ∷ xs) x =
    let k = kid_back j (first_kid kids) y.1 y.0 in
    lefts_more k (other_kids kids) xs x
    ∙ ap (λ (l : List Kid). kid_back (lefts_back k (other_kids kids) xs) (first_kid l) x.1 x.0) (behind_first (length xs) kids)

pub one_joined : (y z : CodeProc) (lefts : List (Option Body × Slots)) (x : Option Body × Slots) (j j' : OpenJoin) → HasJoined y lefts z j → j'.next ≡ j.next → j'.cost ≡ j.cost → kids_of j' ≡ other_kids (kids_of j) →
    mine_of (kid_back (gained j.gains) (first_kid (kids_of j)) x.1 x.0) ≡ mine_of (gained j'.gains) → HasJoined y (lefts ++ x ∷ []) z j'
one_joined y z lefts x j j' h next cost others came =
    let start : Joined = alone (holding y h.body) [] in
    record {
      block = h.block;
      kids = h.kids;
      body = h.body;
      rest = h.rest;
      phase_is = h.phase_is;
      body_is = h.body_is;
      looks = h.looks ∙ ap (λ (n : ℕ). Asks (ask.Join n)) (sym next);
      stays = h.stays;
      gains =
          ap mine_of (lefts_more start h.kids lefts x)
          ∙ (same_kid (lefts_back start h.kids lefts) (gained j.gains) (first_kid (drop (length lefts) h.kids)) x.1 x.0 h.gains
          ∙ (ap (λ (l : List Kid). mine_of (kid_back (gained j.gains) (first_kid l) x.1 x.0)) (sym h.others) ∙ came));
      others = others ∙ (ap other_kids h.others ∙ (others_behind (length lefts) h.kids ∙ ap (λ (n : ℕ). drop n h.kids) (one_longer lefts x)));
      cost_is = cost ∙ h.cost_is;
    }

-- A child that was there.

pub rest_back : (b : Body) (j k : Joined) (drops : List PortValue) → GivesAlike j k → drops ≡ k.drops ++ vacated k.theirs.slots (left_ports b k.theirs.words ++ flat_map (frame_words b) b.below) → mine_of (rest_dropped b j) ≡ (k.mine, drops)
rest_back b j k drops e is =
    let rest : List ℤ → List ℤ = λ ws. left_ports b ws ++ flat_map (frame_words b) b.below in
    ap₂ (λ (m : Held) (l : List PortValue). (m, l)) e.mine
    (ap (λ (l : List PortValue). l ++ vacated j.theirs.slots (rest j.theirs.words)) e.drops
    ∙ (ap (λ (l : List PortValue). k.drops ++ l) (same_vacated (rest j.theirs.words) j.theirs.slots k.theirs.slots e.slots ∙ ap (λ (ws : List ℤ). vacated k.theirs.slots (rest ws)) e.words)
    ∙ sym is))

pub child_back : (g h : Gains) (c : Child) (b : Body) (slots : Slots) (words : List ℤ) (unit : ℕ) (backs : List Back) (drops : List PortValue) → words ≡ b.frame.words →
    GivesSo (given_back (b.frame.unit == unit) (record { mine = held g.words.items (slots_in g.slots); theirs = record { words = words; slots = slots }; drops = g.drops.items }) backs) h c →
    drops ≡ h.drops.items ++ vacated c.slots (left_ports b c.words ++ flat_map (frame_words b) b.below) →
    mine_of (kid_back (gained g) (record { unit = unit; backs = backs }) slots (Some b)) ≡ (held h.words.items (slots_in h.slots), drops)
child_back g h c b slots words unit backs drops e gives is =
    let mid : List ℤ → Joined = λ ws. given_back (b.frame.unit == unit) (record { mine = held g.words.items (slots_in g.slots); theirs = record { words = ws; slots = slots }; drops = g.drops.items }) backs in
    sym (ap (λ (ws : List ℤ). mine_of (rest_dropped b (mid ws))) e) ∙ rest_back b (mid words) (by.joined h c) drops gives is

-- Room.

pub room_stays : (g : Gains) (used : ℕ) → LeavesRoomFor used g g
room_stays g used = λ n h. fewer g (used + n) n (omega arith) h

pub room_dropped : (g h : Gains) (drops : Vec PortValue) (backs rest : ℕ) → LeavesRoomFor backs g h → vec_len drops ≤ vec_len h.drops + rest → vec_capacity h.drops ≤ vec_capacity drops → LeavesRoomFor (backs + rest) g (record h { drops = drops })
room_dropped g h drops backs rest gives more most = λ n r.
    let left : HasRoomFor h (rest + n) = gives (rest + n) (fewer g ((backs + rest) + n) (backs + (rest + n)) (omega arith) r) in
    record {
      words = omega (arith, left.words);
      slots = room_within h.slots (2 * (rest + n)) (2 * n) (omega arith) left.slots;
      drops = omega (arith, left.drops);
    }

pub room_for_rest : (g h : Gains) (backs rest : ℕ) → LeavesRoomFor backs g h → HasRoomFor g (backs + rest) → vec_len h.drops + rest ≤ vec_capacity h.drops
room_for_rest g h backs rest gives r = (gives rest r).drops

words_first : (kids : List Kid) → joining_words kids ≡ back_words (first_kid kids).backs + joining_words (other_kids kids)
words_first [] = refl
words_first (k ∷ ks) = refl

-- room for the child that is next
pub room_first : (g : Gains) (kid : Kid) (kids : List Kid) (used : ℕ) → kid ≡ first_kid kids → HasRoomFor g (joining_words kids + used) → HasRoomFor g (back_words kid.backs + used)
room_first g kid kids used first r =
    let all = words_first kids in
    let same : back_words kid.backs ≡ back_words (first_kid kids).backs = ap (λ (k : Kid). back_words k.backs) first in
    fewer g (joining_words kids + used) (back_words kid.backs + used) (omega (arith, all, same)) r

-- room for the children behind it
pub room_behind : (g h : Gains) (kid : Kid) (kids others : List Kid) (used : ℕ) → kid ≡ first_kid kids → others ≡ other_kids kids → LeavesRoomFor (back_words kid.backs + used) g h →
    (n : ℕ) → HasRoomFor g (joining_words kids + (used + n)) → HasRoomFor h (joining_words others + n)
room_behind g h kid kids others used first rest gives n r =
    let all = words_first kids in
    let same : back_words kid.backs ≡ back_words (first_kid kids).backs = ap (λ (k : Kid). back_words k.backs) first in
    let behind : joining_words others ≡ joining_words (other_kids kids) = ap joining_words rest in
    gives (joining_words others + n) (fewer g (joining_words kids + (used + n)) ((back_words kid.backs + used) + (joining_words others + n)) (omega (arith, all, same, behind)) r)

pub less_room : (j : OpenJoin) (most ports : ℕ) → ports ≤ most → HasRoomToJoin j most → HasRoomToJoin j ports
less_room j most ports low r = fewer j.gains (joining_words (kids_of j) + most) (joining_words (kids_of j) + ports) (omega (arith, low)) r

-- The join.

by_lefts : (j : Joined) (kids : List Kid) (zs : List CodeProc) → kids_back j kids zs ≡ lefts_back j kids (map left_by zs)
by_lefts j kids [] = refl
by_lefts j [] (z ∷ zs) = by_lefts (kid_back j (record { unit = 0; backs = [] }) z.slots z.body) [] zs
by_lefts j (k ∷ kids) (z ∷ zs) = by_lefts (kid_back j k z.slots z.body) kids zs

abbrev joins_as : CodeProc → Body → ℕ → Held → CodeProc
joins_as y b next h = record y { phase = Running; body = Some (record b { frame = at_statement (record b.frame { words = h.words }) next }); slots = h.slots }

-- who has joined all its children goes on
pub joins_so : (p : Place) (y z : CodeProc) (children : List CodeProc) (cs after : Chans) (j : OpenJoin) (body : Option Body) (slots : Slots) (cost : ℕ) → HasJoined y (map left_by children) z j →
    body ≡ option_map (λ (b : Body). with_words b j.next j.gains.words.items) z.body → slots ≡ slots_in j.gains.slots → after ≡ all_shed j.gains.drops.items cs → cost ≡ j.cost → Joins p y children cs (record z { body = body; slots = slots }) after cost
joins_so p y z children cs after j body slots cost h e f shed paid =
    let start : Joined = alone (holding y h.body) [] in
    let mine : mine_of (gained j.gains) ≡ mine_of (kids_back start h.kids children) = sym h.gains ∙ ap mine_of (sym (by_lefts start h.kids children)) in
    let put : CodeProc → CodeProc = λ v. record v { body = option_map (λ (b : Body). with_words b j.next j.gains.words.items) v.body; slots = slots } in
    record {
      block = h.block;
      count = length h.kids;
      goes = λ c r. joined y h.body j.next h.kids r.children;
      asks_so = asks_joining y h.body h.block h.kids (ask.Join j.next) h.looks refl h.body_is h.phase_is;
      on = record {
        self =
            ap (λ x. record z { body = x; slots = slots }) e
            ∙ (ap put h.stays
            ∙ (ap (λ x. joins_as y h.body j.next (record { words = j.gains.words.items; slots = x })) f
            ∙ ap (λ (m : Held × List PortValue). joins_as y h.body j.next m.0) mine));
        block = refl;
        starts_are = refl;
        chans = shed ∙ ap (λ l. all_shed l cs) (ap (λ (m : Held × List PortValue). m.1) mine ∙ sym (append-nil _));
        cost_is = paid ∙ h.cost_is;
      };
    }

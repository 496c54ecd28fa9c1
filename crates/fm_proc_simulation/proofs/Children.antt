-- The words of a start come to a child: its ports leave the slots of the parent for slots of its own, and stand for the same values.
use Rattle.std.proofs.Common.{◌≡◌, ℕ, suc, ◌+◌, ◌≤◌, ℤ, pos, Bool, true, false, not, cond, Option, Some, None, List, [], ◌∷◌, ◌++◌, length, map, take, drop, refl, sym, ap, ◌∙◌, subst, arith, append_assoc}
use Rattle.std.specs.List.{flat_map}
use Rattle.std.specs.Ordering.{int_eq}
use Rattle.std.proofs.lemmas.List.{append-nil, length-map}
use Rattle.std.proofs.lemmas.List.Elements.{filter-append}
use Rattle.fm_base.specs.declared.port.PortValue.{PortValue}
use Rattle.fm_base.specs.Channels.{Item, Ports}
use Rattle.fm_net.specs.Typed.{AllIn}
use Rattle.fm_tree.specs.declared.port_type.Kind.{Kind}
use Rattle.fm_tree.specs.declared.port_type.Kind.TheVariants as kind
use Rattle.fm_symbols.specs.declared.names.Variable.{Variable}
use Rattle.fm_mean.specs.Names.{ProgramUnit}
use Rattle.fm_mean.specs.Layout.{AreLaidOut}
use Rattle.fm_mean.proofs.Sizes.{all_append}
use Rattle.fm_code.specs.declared.code.Span.{Span}
use Rattle.fm_code.specs.Acts.{span_of as words_at}
use Rattle.fm_code.specs.Passing.{is_port, live, ports_in, spliced}
use Rattle.fm_proc_language.specs.Slots.{Slots, no_slots, port_in, in_slot, left, all_taken, put, all_put}
use Rattle.fm_proc_language.specs.Frames.{moved_over}
use Rattle.fm_gen_relation.specs.Sound.{is_word, words_among, IsSoundUnit}
use Rattle.fm_gen_relation.specs.Standing.{port_by, item_by, values_in}
use Rattle.fm_gen_relation.specs.Formals.{span_of, ports_of}
use Rattle.fm_gen_relation.proofs.Passing.{span_length}
use Rattle.fm_gen_relation.proofs.Spans.{spliced_length}
use Rattle.fm_proc_simulation.specs.SlotWords.{IsHeld, IsSlots, AreOnce, IsOther, NameTheSame}
use Rattle.fm_proc_simulation.proofs.PortLists.{all_first, all_second, all_of, all_both, all_other, other_of, once_between, once_second}
use Rattle.fm_proc_simulation.proofs.Slots.{put_slots, put_held, put_others, left_slots, left_others, held_port}
use Rattle.fm_proc_simulation.proofs.Same.{ports_same, item_same, values_same}
use Rattle.fm_proc_simulation.proofs.Overlaid.{over_before, over_behind, over_there, SameBehind, spans_behind, values_behind}

same_names : (zs : List ℤ) (s : Slots) → NameTheSame zs s s
same_names [] s = tt
same_names (z ∷ zs) s = (refl, same_names zs s)

names_then : (zs : List ℤ) (s t r : Slots) → NameTheSame zs s t → NameTheSame zs t r → NameTheSame zs s r
names_then zs s t r first next = all_both (λ z. port_in t z ≡ port_in s z) (λ z. port_in r z ≡ port_in t z) (λ z. port_in r z ≡ port_in s z) (λ z a b. b ∙ a) zs first next

port_there : (f : ℤ → PortValue) (z : ℤ) → is_port z ≡ true → port_by f z ≡ Some (f z)
port_there f z e = go (int_eq z (pos 0)) e
  where
    go : (b : Bool) → not b ≡ true → cond b None (Some (f z)) ≡ Some (f z)
    go true h = absurd (cc)
    go false h = refl

-- what is taken, by whether the word is that of NULL
abbrev taken_by : Bool → Slots → ℤ → Option PortValue × Slots
taken_by b from z = cond (not b) (in_slot from z, left from z) (None, from)

-- ports that were taken: what they are, and the other slots
record AreTaken (from : Slots) (rest : List ℤ) (meant : List (Option PortValue)) (out : List (Option PortValue) × Slots) : Type 0 where
  ports : out.0 ≡ meant
  slots : IsSlots out.1
  held : AllIn (IsHeld out.1) rest
  same : NameTheSame rest from out.1

-- ports that were put: their words, and the slots that were in use
record ArePut (to : Slots) (done : List ℤ) (xs : List (Option PortValue)) (new : List ℤ × Slots) : Type 0 where
  count : length new.0 ≡ length xs
  slots : IsSlots new.1
  held : AllIn (IsHeld new.1) (done ++ live new.0)
  once : AreOnce (done ++ live new.0)
  same : NameTheSame done to new.1
  ports : map (port_by (port_in new.1)) new.0 ≡ xs

-- What came from slots of the one to slots of the other, where ports with these spans stand for these values.
record AreMoved (n : ℕ) (values : (ℤ → PortValue) → List ℤ → List Item) (spans : List Span) (ws : List ℤ) (from to : Slots) (rest done : List ℤ) (r : List ℤ × (Slots × Slots)) : Type 0 where
  stand : values (port_in r.1.1) r.0 ≡ values (port_in from) ws
  count : length r.0 ≡ length ws
  before : (j m : ℕ) → j + m ≤ n → take m (drop j r.0) ≡ take m (drop j ws)
  new_slots : IsSlots r.1.1
  new_held : AllIn (IsHeld r.1.1) (done ++ ports_in spans r.0)
  new_once : AreOnce (done ++ ports_in spans r.0)
  new_same : NameTheSame done to r.1.1
  old_slots : IsSlots r.1.0
  old_held : AllIn (IsHeld r.1.0) rest
  old_same : NameTheSame rest from r.1.0

-- The words of a child stand for the values of the start, and name slots of its own; the others of the parent still name what
-- they named.
pub record MovedAlike (vs : List Variable) (ws : List ℤ) (from : Slots) (rest : List ℤ) (r : List ℤ × (Slots × Slots)) : Type 0 where
  pub stand : values_in (port_in r.1.1) vs r.0 ≡ values_in (port_in from) vs ws
  pub count : length r.0 ≡ length ws
  pub new_slots : IsSlots r.1.1
  pub new_held : AllIn (IsHeld r.1.1) (ports_in (ports_of vs) r.0)
  pub new_once : AreOnce (ports_in (ports_of vs) r.0)
  pub old_slots : IsSlots r.1.0
  pub old_held : AllIn (IsHeld r.1.0) rest
  pub old_same : NameTheSame rest from r.1.0

-- Taking.

takes : (zs rest : List ℤ) (from : Slots) → IsSlots from → AllIn (IsHeld from) (live zs ++ rest) → AreOnce (live zs ++ rest) → AreTaken from rest (map (port_by (port_in from)) zs) (all_taken from zs)
takes [] rest from slots held once = record { ports = refl; slots = slots; held = held; same = same_names rest from }
takes (z ∷ zs) rest from slots held once = go (int_eq z (pos 0)) held once (takes zs rest)
  where
    go : (b : Bool) → AllIn (IsHeld from) (cond (not b) (z ∷ live zs) (live zs) ++ rest) → AreOnce (cond (not b) (z ∷ live zs) (live zs) ++ rest)
        → ((s : Slots) → IsSlots s → AllIn (IsHeld s) (live zs ++ rest) → AreOnce (live zs ++ rest) → AreTaken s rest (map (port_by (port_in s)) zs) (all_taken s zs))
        → AreTaken from rest (cond b None (Some (port_in from z)) ∷ map (port_by (port_in from)) zs)
        ((taken_by b from z).0 ∷ (all_taken (taken_by b from z).1 zs).0, (all_taken (taken_by b from z).1 zs).1)
    go true held once next =
        let t = next from slots held once in
        record { ports = ap (λ l. None ∷ l) t.ports; slots = t.slots; held = t.held; same = t.same }
    go false held once next =
        let then : Slots = left from z in
        let both : AllIn (λ w. IsHeld then w × (port_in then w ≡ port_in from w)) (live zs ++ rest) =
        all_both (IsHeld from) (λ w. z ≡ w → ⊥) (λ w. IsHeld then w × (port_in then w ≡ port_in from w)) (λ w h o. left_others from z w held.0 h o) (live zs ++ rest) held.1 (all_other z (live zs ++ rest) once.0) in
        let held_then = all_of (λ w. IsHeld then w × (port_in then w ≡ port_in from w)) (IsHeld then) (λ w h. h.0) (live zs ++ rest) both in
        let same_then : NameTheSame (live zs ++ rest) from then = all_of (λ w. IsHeld then w × (port_in then w ≡ port_in from w)) (λ w. port_in then w ≡ port_in from w) (λ w h. h.1) (live zs ++ rest) both in
        let t = next then (left_slots from z slots held.0) held_then once.1 in
        record {
          ports = λ i. (held_port from z held.0).1 i ∷ (t.ports ∙ ports_same (port_in from) (port_in then) zs (all_first (λ w. port_in then w ≡ port_in from w) (live zs) rest same_then)) i;
          slots = t.slots;
          held = t.held;
          same = names_then rest from then (all_taken then zs).1 (all_second (λ w. port_in then w ≡ port_in from w) (live zs) rest same_then) t.same;
        }

-- Putting.

puts : (xs : List (Option PortValue)) (to : Slots) (done : List ℤ) → IsSlots to → AllIn (IsHeld to) done → AreOnce done → ArePut to done xs (all_put to xs)
puts [] to done slots held once = record {
  count = refl;
  slots = slots;
  held = subst (AllIn (IsHeld to)) (sym (append-nil done)) held;
  once = subst AreOnce (sym (append-nil done)) once;
  same = same_names done to;
  ports = refl;
}
puts (None ∷ xs) to done slots held once =
    let t = puts xs to done slots held once in
    record { count = ap suc t.count; slots = t.slots; held = t.held; once = t.once; same = t.same; ports = ap (λ l. None ∷ l) t.ports }
puts (Some x ∷ xs) to done slots held once =
    let z : ℤ = (put to x).0 in
    let then : Slots = (put to x).1 in
    let last : List ℤ × Slots = all_put then xs in
    let mine = put_held to x slots in
    let others : AllIn (λ w. IsHeld then w × (port_in then w ≡ port_in to w) × (w ≡ z → ⊥)) done =
    all_of (IsHeld to) (λ w. IsHeld then w × (port_in then w ≡ port_in to w) × (w ≡ z → ⊥)) (λ w h. put_others to x w slots h) done held in
    let held_then : AllIn (IsHeld then) (done ++ z ∷ []) =
    all_append (IsHeld then) done (z ∷ []) (all_of (λ w. IsHeld then w × (port_in then w ≡ port_in to w) × (w ≡ z → ⊥)) (IsHeld then) (λ w h. h.0) done others) (mine.0, tt) in
    let apart : IsOther z done = other_of z done (all_of (λ w. IsHeld then w × (port_in then w ≡ port_in to w) × (w ≡ z → ⊥)) (λ w. z ≡ w → ⊥) (λ w h e. h.2 (sym e)) done others) in
    let once_then : AreOnce (done ++ z ∷ []) = once_between z done [] (subst (IsOther z) (sym (append-nil done)) apart) (subst AreOnce (sym (append-nil done)) once) in
    let t = puts xs then (done ++ z ∷ []) (put_slots to x slots) held_then once_then in
    let full : is_port z ≡ true = (held_port then z mine.0).0 in
    let words : (done ++ z ∷ []) ++ live last.0 ≡ done ++ live (z ∷ last.0) =
    append_assoc done (z ∷ []) (live last.0) ∙ ap (λ b. done ++ cond b (z ∷ live last.0) (live last.0)) (sym full) in
    record {
      count = ap suc t.count;
      slots = t.slots;
      held = subst (AllIn (IsHeld last.1)) words t.held;
      once = subst AreOnce words t.once;
      same = names_then done to then last.1 (all_of (λ w. IsHeld then w × (port_in then w ≡ port_in to w) × (w ≡ z → ⊥)) (λ w. port_in then w ≡ port_in to w) (λ w h. h.1) done others)
          (all_first (λ w. port_in last.1 w ≡ port_in then w) done (z ∷ []) t.same);
      ports = λ i. (port_there (port_in last.1) z full ∙ ap Some ((all_second (λ w. port_in last.1 w ≡ port_in then w) done (z ∷ []) t.same).0 ∙ mine.1)) i ∷ t.ports i;
    }

-- One variable after the other.

abbrev Moves : ℕ → List Variable → Type 0
Moves n vs = (ws : List ℤ) (from to : Slots) (rest done : List ℤ) → n + words_among vs ≤ length ws → IsSlots from → AllIn (IsHeld from) (ports_in (ports_of vs) ws ++ rest) → AreOnce (ports_in (ports_of vs) ws ++ rest)
    → IsSlots to → AllIn (IsHeld to) done → AreOnce done → AreMoved n (λ f zs. values_in f vs zs) (ports_of vs) ws from to rest done (moved_over (ports_of vs) ws from to)

module _ (n : ℕ) (v : Variable) (vs : List Variable) (q : Kind) (at : v.first ≡ n) (laid : AreLaidOut (n + v.words) vs) (next : Moves (n + v.words) vs)
    (ws : List ℤ) (from to : Slots) (rest done : List ℤ) (within : n + v.words + words_among vs ≤ length ws) (slots : IsSlots from) (slots_to : IsSlots to) (held_to : AllIn (IsHeld to) done) (once_to : AreOnce done)
  where
    abbrev more_values : (ℤ → PortValue) → List ℤ → List Item
    more_values f zs = item_by f q (take v.words (drop v.first zs)) ∷ values_in f vs zs

    abbrev behind : List ℤ → List ℤ
    behind zs = flat_map (words_at zs) (ports_of vs)

    abbrev mine : List ℤ
    mine = take v.words (drop v.first ws)

    words_move : ((f g : ℤ → PortValue) (zs : List ℤ) → item_by g q zs ≡ item_by f q zs) → AllIn (IsHeld from) (ports_in (ports_of vs) ws ++ rest) → AreOnce (ports_in (ports_of vs) ws ++ rest)
        → AreMoved n more_values (ports_of vs) ws from to rest done (moved_over (ports_of vs) ws from to)
    words_move word held once =
        let r = moved_over (ports_of vs) ws from to in
        let t = next ws from to rest done within slots held once slots_to held_to once_to in
        record {
          stand = λ i. (ap (item_by (port_in r.1.1) q) (t.before v.first v.words (omega (arith, at))) ∙ word (port_in from) (port_in r.1.1) mine) i ∷ t.stand i;
          count = t.count;
          before = λ j m le. t.before j m (omega (arith, le));
          new_slots = t.new_slots;
          new_held = t.new_held;
          new_once = t.new_once;
          new_same = t.new_same;
          old_slots = t.old_slots;
          old_held = t.old_held;
          old_same = t.old_same;
        }

    abbrev out : List (Option PortValue) × Slots
    out = all_taken from mine

    abbrev new : List ℤ × Slots
    new = all_put to out.0

    abbrev moved_words : List ℤ
    moved_words = spliced ws v.first new.0

    ports_move : ((f : ℤ → PortValue) (zs : List ℤ) → item_by f q zs ≡ Ports (map (port_by f) zs)) → AllIn (IsHeld from) (ports_in (span_of v ∷ ports_of vs) ws ++ rest) → AreOnce (ports_in (span_of v ∷ ports_of vs) ws ++ rest)
        → AreMoved n more_values (span_of v ∷ ports_of vs) ws from to rest done (moved_over (span_of v ∷ ports_of vs) ws from to)
    ports_move port held once =
        let after : List ℤ = live (behind ws) ++ rest in
        let parts : live (mine ++ behind ws) ++ rest ≡ live mine ++ after = ap (λ l. l ++ rest) (filter-append is_port mine (behind ws)) ∙ append_assoc (live mine) (live (behind ws)) rest in
        let once_parts : AreOnce (live mine ++ after) = subst AreOnce parts once in
        let taking = takes mine after from slots (subst (AllIn (IsHeld from)) parts held) once_parts in
        let putting = puts out.0 to done slots_to held_to once_to in
        let full : length mine ≡ v.words = span_length ws v.first v.words (omega (arith, at, within)) in
        let count : length new.0 ≡ v.words = putting.count ∙ ap length taking.ports ∙ length-map mine (port_by (port_in from)) ∙ full in
        let fits : v.first + length new.0 ≤ length ws = omega (arith, at, within, count) in
        let same_behind : SameBehind (n + v.words) ws moved_words = λ j le. over_behind ws v.first new.0 j fits (omega (arith, at, le, count)) in
        let spans : behind moved_words ≡ behind ws = spans_behind (n + v.words) vs ws moved_words laid same_behind in
        let next_words : after ≡ live (behind moved_words) ++ rest = ap (λ l. live l ++ rest) (sym spans) in
        let r = moved_over (ports_of vs) moved_words out.1 new.1 in
        let t = next moved_words out.1 new.1 rest (done ++ live new.0) (omega (arith, within, spliced_length ws v.first new.0 fits)) taking.slots
        (subst (AllIn (IsHeld out.1)) next_words taking.held) (subst AreOnce next_words (once_second (live mine) after once_parts)) putting.slots putting.held putting.once in
        let there : take v.words (drop v.first r.0) ≡ new.0 =
        t.before v.first v.words (omega (arith, at)) ∙ ap (λ k. take k (drop v.first moved_words)) (sym count) ∙ over_there ws v.first new.0 fits in
        let words : (done ++ live new.0) ++ live (behind r.0) ≡ done ++ live (take v.words (drop v.first r.0) ++ behind r.0) =
        append_assoc done (live new.0) (live (behind r.0)) ∙ ap (λ l. done ++ l) (sym (filter-append is_port new.0 (behind r.0)) ∙ ap (λ l. live (l ++ behind r.0)) (sym there)) in
        let first : item_by (port_in r.1.1) q (take v.words (drop v.first r.0)) ≡ item_by (port_in from) q mine =
        ap (item_by (port_in r.1.1) q) there
        ∙ item_same q (port_in new.1) (port_in r.1.1) new.0 (all_second (λ z. port_in r.1.1 z ≡ port_in new.1 z) done (live new.0) t.new_same)
        ∙ port (port_in new.1) new.0 ∙ ap Ports (putting.ports ∙ taking.ports) ∙ sym (port (port_in from) mine) in
        record {
          stand = λ i. first i ∷ (t.stand ∙ values_behind (port_in out.1) (n + v.words) vs ws moved_words laid same_behind
              ∙ values_same vs (port_in from) (port_in out.1) ws (all_first (λ z. port_in out.1 z ≡ port_in from z) (live (behind ws)) rest taking.same)) i;
          count = t.count ∙ spliced_length ws v.first new.0 fits;
          before = λ j m le. t.before j m (omega (arith, le)) ∙ over_before ws v.first new.0 j m fits (omega (arith, le, at));
          new_slots = t.new_slots;
          new_held = subst (AllIn (IsHeld r.1.1)) words t.new_held;
          new_once = subst AreOnce words t.new_once;
          new_same = names_then done to new.1 r.1.1 putting.same (all_first (λ z. port_in r.1.1 z ≡ port_in new.1 z) done (live new.0) t.new_same);
          old_slots = t.old_slots;
          old_held = t.old_held;
          old_same = names_then rest from out.1 r.1.0 (all_second (λ z. port_in out.1 z ≡ port_in from z) (live (behind ws)) rest taking.same) t.old_same;
        }

all_move : (n : ℕ) (vs : List Variable) → AreLaidOut n vs → Moves n vs
all_move n [] laid ws from to rest done within slots held once slots_to held_to once_to = record {
  stand = refl;
  count = refl;
  before = λ j m le. refl;
  new_slots = slots_to;
  new_held = subst (AllIn (IsHeld to)) (sym (append-nil done)) held_to;
  new_once = subst AreOnce (sym (append-nil done)) once_to;
  new_same = same_names done to;
  old_slots = slots;
  old_held = held;
  old_same = same_names rest from;
}
all_move n (v ∷ vs) laid ws from to rest done within slots held once slots_to held_to once_to = go v.kind held once (all_move (n + v.words) vs laid.1)
  where
    inside : n + v.words + words_among vs ≤ length ws
    inside = omega (arith, within)

    go : (q : Kind) → AllIn (IsHeld from) (ports_in (cond (is_word q) (ports_of vs) (span_of v ∷ ports_of vs)) ws ++ rest) → AreOnce (ports_in (cond (is_word q) (ports_of vs) (span_of v ∷ ports_of vs)) ws ++ rest) → Moves (n + v.words) vs
        → AreMoved n (λ f zs. item_by f q (take v.words (drop v.first zs)) ∷ values_in f vs zs) (cond (is_word q) (ports_of vs) (span_of v ∷ ports_of vs)) ws from to rest done
        (moved_over (cond (is_word q) (ports_of vs) (span_of v ∷ ports_of vs)) ws from to)
    go kind.Integer held once next = words_move n v vs kind.Integer laid.0 laid.1 next ws from to rest done inside slots slots_to held_to once_to (λ f g zs. refl) held once
    go kind.Logical held once next = words_move n v vs kind.Logical laid.0 laid.1 next ws from to rest done inside slots slots_to held_to once_to (λ f g zs. refl) held once
    go (kind.In t) held once next = ports_move n v vs (kind.In t) laid.0 laid.1 next ws from to rest done inside slots slots_to held_to once_to (λ f zs. refl) held once
    go (kind.Out t) held once next = ports_move n v vs (kind.Out t) laid.0 laid.1 next ws from to rest done inside slots slots_to held_to once_to (λ f zs. refl) held once

pub moved_alike : (u : ProgramUnit) → IsSoundUnit u → (ws : List ℤ) → length ws ≡ u.names.words → (from : Slots) (rest : List ℤ) → IsSlots from
    → AllIn (IsHeld from) (ports_in (ports_of u.names.variables) ws ++ rest) → AreOnce (ports_in (ports_of u.names.variables) ws ++ rest)
    → MovedAlike u.names.variables ws from rest (moved_over (ports_of u.names.variables) ws from no_slots)
moved_alike u sound ws count from rest slots held once =
    let t = all_move 0 u.names.variables sound.laid ws from no_slots rest [] (omega (arith, count, sound.counted)) slots held once (record { empty = tt; once = tt }) tt tt in
    record { stand = t.stand; count = t.count; new_slots = t.new_slots; new_held = t.new_held; new_once = t.new_once; old_slots = t.old_slots; old_held = t.old_held; old_same = t.old_same }

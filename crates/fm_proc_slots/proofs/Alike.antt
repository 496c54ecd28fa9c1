-- What is given back depends on the ports of the one who gives, and not on its free slots.
use Rattle.std.proofs.Common.{◌≡◌, refl, ℕ, zero, suc, ℤ, pos, Bool, true, false, cond, Option, Some, None, List, [], ◌∷◌, ◌++◌, option_to_list, slice_get, slice_set, unwrap_or, ap, ap₂, sym, subst, ◌∙◌}
use Rattle.std.proofs.lemmas.List.{set-get_or}
use Rattle.std.proofs.lemmas.Option.{unwrap_or-slice_get}
use Rattle.fm_base.specs.declared.port.PortValue.{PortValue}
use Rattle.fm_code.specs.declared.body.Back.{Back}
use Rattle.fm_code.specs.Acts.{span_of}
use Rattle.fm_code.specs.Passing.{given_span, is_port, spliced}
use Rattle.fm_code.specs.Statements.{word_at}
use Rattle.fm_proc_language.specs.Slots.{Slots, before, in_slot, left, taken}
use Rattle.fm_proc_language.specs.Frames.{Held, Joined, all_given, exchanged, one_given, port_given, port_settled, ports_given}
use Rattle.fm_proc_slots.specs.Joins.{GivesAlike, GivesSo, SamePorts, joined}
use Rattle.fm_proc_slots.specs.declared.joining.Child.{Child}
use Rattle.fm_proc_slots.specs.declared.joining.Gains.{Gains}

pub alike_self : (j : Joined) → GivesAlike j j
alike_self j = record { mine = refl; drops = refl; words = refl; slots = refl }

pub alike_on : (j k l : Joined) → GivesAlike j k → GivesAlike k l → GivesAlike j l
alike_on j k l a b = record { mine = a.mine ∙ b.mine; drops = a.drops ∙ b.drops; words = a.words ∙ b.words; slots = a.slots ∙ b.slots }

-- Ports.

abbrev took : Bool → Slots → ℤ → Option PortValue × Slots
took b s z = cond {A = Option PortValue × Slots} b (in_slot s z, left s z) (None, s)

pub same_in_slot : (s t : Slots) (z : ℤ) → SamePorts s t → in_slot s z ≡ in_slot t z
same_in_slot s t z e = ap (λ (ps : List (Option PortValue)). unwrap_or (slice_get ps (before z)) None) e

pub same_left : (s t : Slots) (z : ℤ) → SamePorts s t → SamePorts (left s z) (left t z)
same_left s t z e = ap (λ (ps : List (Option PortValue)). slice_set ps (before z) None) e

same_took : (b : Bool) (s t : Slots) (z : ℤ) → SamePorts s t → (took b s z).0 ≡ (took b t z).0
same_took true s t z e = same_in_slot s t z e
same_took false s t z e = refl

same_took_left : (b : Bool) (s t : Slots) (z : ℤ) → SamePorts s t → SamePorts (took b s z).1 (took b t z).1
same_took_left true s t z e = same_left s t z e
same_took_left false s t z e = e

pub same_taken : (s t : Slots) (z : ℤ) → SamePorts s t → (taken s z).0 ≡ (taken t z).0
same_taken s t z e = same_took (is_port z) s t z e

pub same_taken_left : (s t : Slots) (z : ℤ) → SamePorts s t → SamePorts (taken s z).1 (taken t z).1
same_taken_left s t z e = same_took_left (is_port z) s t z e

settled_alike : (o : Option PortValue) (j k : Joined) (h i : Held) (to : ℕ) → GivesAlike j k → h.words ≡ i.words → SamePorts h.slots i.slots → GivesAlike (port_settled j to h o) (port_settled k to i o)
settled_alike None j k h i to a e f = a
settled_alike (Some x) j k h i to a e f = record {
  mine = ap (λ (m : Held). (exchanged m to (Some x)).0) a.mine;
  drops = ap₂ (λ (ds : List PortValue) (m : Held). ds ++ option_to_list (exchanged m to (Some x)).1) a.drops a.mine;
  words = e;
  slots = f;
}

pub port_alike : (j k : Joined) (from to : ℕ) → GivesAlike j k → GivesAlike (port_given j from to) (port_given k from to)
port_alike j k from to a =
    let z = word_at k.theirs.words from in
    let out : (exchanged j.theirs from None).1 ≡ (exchanged k.theirs from None).1 =
    ap (λ (ws : List ℤ). (taken j.theirs.slots (word_at ws from)).0) a.words ∙ same_taken j.theirs.slots k.theirs.slots z a.slots in
    let rest : SamePorts (exchanged j.theirs from None).0.slots (exchanged k.theirs from None).0.slots =
    ap (λ (ws : List ℤ). (taken j.theirs.slots (word_at ws from)).1.ports) a.words ∙ same_taken_left j.theirs.slots k.theirs.slots z a.slots in
    let words : (exchanged j.theirs from None).0.words ≡ (exchanged k.theirs from None).0.words = ap (λ (ws : List ℤ). slice_set ws from (pos 0)) a.words in
    subst (λ (o : Option PortValue). GivesAlike (port_given j from to) (port_settled k to (exchanged k.theirs from None).0 o)) out
    (settled_alike (exchanged j.theirs from None).1 j k (exchanged j.theirs from None).0 (exchanged k.theirs from None).0 to a words rest)

pub ports_alike : (n : ℕ) (j k : Joined) (from to : ℕ) → GivesAlike j k → GivesAlike (ports_given j from to n) (ports_given k from to n)
ports_alike zero j k from to a = a
ports_alike (suc n) j k from to a = ports_alike n (port_given j from to) (port_given k from to) (suc from) (suc to) (port_alike j k from to a)

-- All.

abbrev gave : Bool → Joined → Back → Joined
gave p j b = cond p (ports_given j b.from b.to b.words) (record j { mine = record j.mine { words = spliced j.mine.words b.to (span_of j.theirs.words (given_span b)) } })

gave_alike : (p : Bool) (j k : Joined) (b : Back) → GivesAlike j k → GivesAlike (gave p j b) (gave p k b)
gave_alike true j k b a = ports_alike b.words j k b.from b.to a
gave_alike false j k b a = record {
  mine = ap₂ (λ (m : Held) (ws : List ℤ). record m { words = spliced m.words b.to (span_of ws (given_span b)) }) a.mine a.words;
  drops = a.drops;
  words = a.words;
  slots = a.slots;
}

pub one_alike : (j k : Joined) (b : Back) → GivesAlike j k → GivesAlike (one_given j b) (one_given k b)
one_alike j k b a = gave_alike b.port j k b a

pub all_alike : (bs : List Back) (j k : Joined) → GivesAlike j k → GivesAlike (all_given j bs) (all_given k bs)
all_alike [] j k a = a
all_alike (b ∷ bs) j k a = all_alike bs (one_given j b) (one_given k b) (one_alike j k b a)

-- the rest is given by what is there after one
pub rest_given : (j : Joined) (rest more : List Back) (b : Back) (g h : Gains) (c d : Child) → rest ≡ b ∷ more → GivesAlike j (all_given (joined g c) rest) → GivesSo (one_given (joined g c) b) h d →
    GivesAlike j (all_given (joined h d) more)
rest_given j rest more b g h c d e a f =
    let on : GivesAlike j (all_given (joined g c) (b ∷ more)) = subst (λ (bs : List Back). GivesAlike j (all_given (joined g c) bs)) e a in
    alike_on j (all_given (one_given (joined g c) b) more) (all_given (joined h d) more) on (all_alike more (one_given (joined g c) b) (joined h d) f)

-- Where no port stands.

empty_slot : (xs : List (Option PortValue)) (k : ℕ) → unwrap_or (slice_get xs k) None ≡ None → slice_set xs k None ≡ xs
empty_slot xs k e = ap (slice_set xs k) (sym (sym (unwrap_or-slice_get xs k None) ∙ e)) ∙ set-get_or xs k None

none_took : (b : Bool) (s : Slots) (z : ℤ) → in_slot s z ≡ None → (took b s z).0 ≡ None
none_took true s z e = e
none_took false s z e = refl

pub none_given : (g : Gains) (c : Child) (from to : ℕ) (z : ℤ) (s : Slots) → z ≡ word_at c.words from → in_slot c.slots z ≡ None → s ≡ record c.slots { ports = slice_set c.slots.ports (before z) None } →
    GivesSo (port_given (joined g c) from to) g (record { words = c.words; slots = s })
none_given g c from to z s e f h =
    let j = joined g c in
    let here : in_slot c.slots (word_at c.words from) ≡ None = ap (in_slot c.slots) (sym e) ∙ f in
    let none : (exchanged j.theirs from None).1 ≡ None = none_took (is_port (word_at c.words from)) c.slots (word_at c.words from) here in
    let stays : port_given j from to ≡ j = ap (port_settled j to (exchanged j.theirs from None).0) none in
    subst (λ (x : Joined). GivesAlike x (joined g (record { words = c.words; slots = s }))) (sym stays) (record {
      mine = refl;
      drops = refl;
      words = refl;
      slots = sym (ap (λ (t : Slots). t.ports) h ∙ empty_slot c.slots.ports (before z) f);
    })

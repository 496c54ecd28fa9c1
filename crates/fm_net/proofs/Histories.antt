-- Histories: the choices of turns, one turn after the other.
use Rattle.std.proofs.Common.{◌≡◌, ℕ, zero, suc, Option, Some, None, List, [], ◌∷◌, ◌++◌, replicate, refl, sym, ap, ◌∙◌, append_assoc, append-nil}
use Rattle.std.specs.Prelude.{option_map, option_and_then, slice_get}
use Rattle.fm_base.specs.declared.schedule.Turn.{Turn}
use Rattle.fm_net.specs.Machine.{Place}
use Rattle.fm_net.specs.Starts.{choices_of}

pub longer_at : {X : Type 0} (xs ys : List X) (n : ℕ) (x : X) → slice_get xs n ≡ Some x → slice_get (xs ++ ys) n ≡ Some x
longer_at [] ys n x is = absurd (cc is)
longer_at (y ∷ xs) ys zero x is = is
longer_at (y ∷ xs) ys (suc n) x is = longer_at xs ys n x is

-- the choices of the first turn, and those of the others
record Split (t : Turn) (ts : List Turn) (places cs : List Place) : Type 0 where
  who : Place
  others : List Place
  who_is : slice_get places t.number ≡ Some who
  others_are : choices_of ts places ≡ Some others
  whole : replicate t.steps who ++ others ≡ cs

split : (t : Turn) (ts : List Turn) (places cs : List Place) → choices_of (t ∷ ts) places ≡ Some cs → Split t ts places cs
split t ts places cs e = go (slice_get places t.number) (choices_of ts places) refl refl e
  where
    go : (a : Option Place) (o : Option (List Place)) → slice_get places t.number ≡ a → choices_of ts places ≡ o → option_and_then (λ p. option_map (λ ds. replicate t.steps p ++ ds) o) a ≡ Some cs → Split t ts places cs
    go None o ea eo e' = absurd (cc e')
    go (Some p) None ea eo e' = absurd (cc e')
    go (Some p) (Some ds) ea eo e' = record { who = p; others = ds; who_is = ea; others_are = eo; whole = cc e' }

pub first_turn : (t : Turn) (ts : List Turn) (places : List Place) (p : Place) (ds : List Place) → slice_get places t.number ≡ Some p → choices_of ts places ≡ Some ds → choices_of (t ∷ ts) places ≡ Some (replicate t.steps p ++ ds)
first_turn t ts places p ds who others =
    ap (option_and_then (λ p. option_map (λ ds. replicate t.steps p ++ ds) (choices_of ts places))) who
    ∙ ap (option_map (λ ds. replicate t.steps p ++ ds)) others

-- a turn more, and processes that started meanwhile
pub choices_more : (ts : List Turn) (places more cs : List Place) (t : Turn) (p : Place) → choices_of ts places ≡ Some cs → slice_get places t.number ≡ Some p
    → choices_of (ts ++ t ∷ []) (places ++ more) ≡ Some (cs ++ replicate t.steps p)
choices_more [] places more cs t p is who =
    let none : [] ≡ cs = cc is in
    first_turn t [] (places ++ more) p [] (longer_at places more t.number p who) refl ∙ ap Some (append-nil (replicate t.steps p)) ∙ ap (λ ds. Some (ds ++ replicate t.steps p)) none
choices_more (u ∷ ts) places more cs t p is who =
    let k = split u ts places cs is in
    first_turn u (ts ++ t ∷ []) (places ++ more) k.who (k.others ++ replicate t.steps p) (longer_at places more u.number k.who k.who_is) (choices_more ts places more k.others t p k.others_are who)
    ∙ ap Some (sym (append_assoc (replicate u.steps k.who) k.others (replicate t.steps p))) ∙ ap (λ ds. Some (ds ++ replicate t.steps p)) k.whole

-- who starts later changes nothing
pub choices_stay : (ts : List Turn) (places more cs : List Place) → choices_of ts places ≡ Some cs → choices_of ts (places ++ more) ≡ Some cs
choices_stay [] places more cs is = is
choices_stay (t ∷ ts) places more cs is =
    let k = split t ts places cs is in
    first_turn t ts (places ++ more) k.who k.others (longer_at places more t.number k.who k.who_is) (choices_stay ts places more k.others k.others_are) ∙ ap Some k.whole

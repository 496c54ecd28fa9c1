-- The choices of some entries of a history, and those of the others.
use Rattle.std.proofs.Common.{◌≡◌, Option, Some, None, List, [], ◌∷◌, ◌++◌, replicate, refl, sym, ap, ◌∙◌, append_assoc}
use Rattle.std.specs.Prelude.{option_and_then, option_map, slice_get}
use Rattle.fm_base.specs.declared.schedule.Turn.{Turn}
use Rattle.fm_net.specs.Machine.{Place}
use Rattle.fm_net.specs.Starts.{choices_of}
use Rattle.fm_net.proofs.Histories.{first_turn}

-- the choices of the first entry, and those of the others
pub record Parts (t : Turn) (ts : List Turn) (places cs : List Place) : Type 0 where
  pub who : Place
  pub others : List Place
  pub who_is : slice_get places t.number ≡ Some who
  pub others_are : choices_of ts places ≡ Some others
  pub whole : cs ≡ replicate t.steps who ++ others

the_list : (own bs : List Place) → Some own ≡ Some bs → bs ≡ own
the_list own bs e = cc

pub parts : (t : Turn) (ts : List Turn) (places cs : List Place) → choices_of (t ∷ ts) places ≡ Some cs → Parts t ts places cs
parts t ts places cs e = go (slice_get places t.number) (choices_of ts places) refl refl e
  where
    go : (a : Option Place) (o : Option (List Place)) → slice_get places t.number ≡ a → choices_of ts places ≡ o → option_and_then (λ p. option_map (λ ds. replicate t.steps p ++ ds) o) a ≡ Some cs → Parts t ts places cs
    go None o ea eo f = absurd (cc f)
    go (Some p) None ea eo f = absurd (cc f)
    go (Some p) (Some ds) ea eo f = record { who = p; others = ds; who_is = ea; others_are = eo; whole = the_list (replicate t.steps p ++ ds) cs f }

-- the choices of some entries, and those of the others
pub record Halves (ts us : List Turn) (places cs : List Place) : Type 0 where
  pub front : List Place
  pub back : List Place
  pub front_is : choices_of ts places ≡ Some front
  pub back_is : choices_of us places ≡ Some back
  pub whole : cs ≡ front ++ back

pub halves : (ts us : List Turn) (places cs : List Place) → choices_of (ts ++ us) places ≡ Some cs → Halves ts us places cs
halves [] us places cs e = record { front = []; back = cs; front_is = refl; back_is = e; whole = refl }
halves (t ∷ ts) us places cs e =
    let k = parts t (ts ++ us) places cs e in
    let h = halves ts us places k.others k.others_are in
    record {
      front = replicate t.steps k.who ++ h.front;
      back = h.back;
      front_is = first_turn t ts places k.who h.front k.who_is h.front_is;
      back_is = h.back_is;
      whole = k.whole ∙ ap (λ ds. replicate t.steps k.who ++ ds) h.whole ∙ sym (append_assoc (replicate t.steps k.who) h.front h.back);
    }

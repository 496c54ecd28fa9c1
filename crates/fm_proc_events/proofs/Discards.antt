-- Ports that are discarded one after the other, and the rest of them.
use Rattle.std.proofs.Common.{◌≡◌, ℤ, Bool, true, false, cond, Option, List, [], ◌∷◌, ◌++◌, option_to_list, refl, sym, ap, ap₂, ◌∙◌}
use Rattle.std.proofs.lemmas.List.{append-nil}
use Rattle.std.proofs.lemmas.List.Elements.{filter-append}
use Rattle.fm_base.specs.declared.port.PortValue.{PortValue}
use Rattle.fm_base.specs.Channels.{Chans, all_shed}
use Rattle.fm_code.specs.Passing.{is_port, live}
use Rattle.fm_discards.proofs.Order.{all_shed-append}
use Rattle.fm_discards.proofs.Shedding.{all_shed-nil}
use Rattle.fm_proc_language.specs.Slots.{Slots, all_drained, all_left, drained, in_slot, vacated}
use Rattle.fm_proc_language.proofs.Drained.{drained_ports}
use Rattle.fm_proc_slots.proofs.Vacated.{same_vacated, vacated-append}
use Rattle.fm_proc_events.specs.Discards.{all_discarded}

all_drained-append : (ys zs : List ℤ) (s : Slots) → all_drained s (ys ++ zs) ≡ all_drained (all_drained s ys) zs
all_drained-append [] zs s = refl
all_drained-append (y ∷ ys) zs s = all_drained-append ys zs (drained s y)

pub all_discarded-append : (ys zs : List ℤ) (s : Slots) (cs : Chans) → all_discarded s cs (ys ++ zs) ≡ all_discarded (all_discarded s cs ys).0 (all_discarded s cs ys).1 zs
all_discarded-append ys zs s cs =
    ap₂ (λ (t : Slots) (ds : Chans). (t, ds)) (all_drained-append ys zs s)
    (ap (λ (l : List PortValue). all_shed l cs) (vacated-append ys zs s)
    ∙ all_shed-append (vacated s ys) (vacated (all_left s ys) zs) cs
    ∙ ap (λ (l : List PortValue). all_shed l (all_shed (vacated s ys) cs)) (sym (same_vacated zs (all_drained s ys) (all_left s ys) (drained_ports ys s))))

-- after the first of them the rest gives what all gave
pub discarded_first : (ys zs rest : List ℤ) (s t : Slots) (cs ds : Chans) (all : Slots × Chans) → rest ≡ ys ++ zs → (t, ds) ≡ all_discarded s cs ys → all_discarded s cs rest ≡ all → all_discarded t ds zs ≡ all
discarded_first ys zs rest s t cs ds all is done so =
    ap (λ (x : Slots × Chans). all_discarded x.0 x.1 zs) done ∙ (sym (all_discarded-append ys zs s cs) ∙ (ap (all_discarded s cs) (sym is) ∙ so))

-- where none is left
pub discarded_none : (rest : List ℤ) (s : Slots) (cs : Chans) (all : Slots × Chans) → rest ≡ [] → all_discarded s cs rest ≡ all → (s, cs) ≡ all
discarded_none rest s cs all none so = ap (λ (ds : Chans). (s, ds)) (sym (all_shed-nil cs)) ∙ (ap (all_discarded s cs) (sym none) ∙ so)

-- One word.

live_one : (z : ℤ) (b : Bool) → is_port z ≡ b → live (z ∷ []) ≡ cond {A = List ℤ} b (z ∷ []) []
live_one z b e = ap (λ (x : Bool). cond {A = List ℤ} x (z ∷ []) []) e

-- no port word
pub none_discarded : (x z : ℤ) (s : Slots) (cs : Chans) → x ≡ z → is_port x ≡ false → (s, cs) ≡ all_discarded s cs (live (z ∷ []))
none_discarded x z s cs same e = ap (λ (ds : Chans). (s, ds)) (sym (all_shed-nil cs)) ∙ ap (all_discarded s cs) (sym (live_one z false (ap is_port (sym same) ∙ e)))

-- a port word, with what stood in its slot
pub one_discarded : (x z : ℤ) (s t : Slots) (cs ds : Chans) (o : Option PortValue) → x ≡ z → is_port x ≡ true → o ≡ in_slot s x → t ≡ drained s x → ds ≡ all_shed (option_to_list o) cs → (t, ds) ≡ all_discarded s cs (live (z ∷ []))
one_discarded x z s t cs ds o same e f g h =
    ap₂ (λ (r : Slots) (es : Chans). (r, es)) (g ∙ ap (drained s) same)
    (h ∙ ap (λ (l : List PortValue). all_shed l cs) (ap option_to_list (f ∙ ap (in_slot s) same) ∙ sym (append-nil (option_to_list (in_slot s z)))))
    ∙ ap (all_discarded s cs) (sym (live_one z true (ap is_port (sym same) ∙ e)))

-- All words of a list.

pub discarded_word : (rest zs : List ℤ) (y z : ℤ) (s t : Slots) (cs ds : Chans) (all : Slots × Chans) → rest ≡ z ∷ zs → y ≡ z → (t, ds) ≡ all_discarded s cs (live (y ∷ [])) → all_discarded s cs (live rest) ≡ all → all_discarded t ds (live zs) ≡ all
discarded_word rest zs y z s t cs ds all is same done so =
    let first : rest ≡ y ∷ zs = is ∙ ap (λ (x : ℤ). x ∷ zs) (sym same) in
    discarded_first (live (y ∷ [])) (live zs) (live rest) s t cs ds all (ap live first ∙ filter-append is_port (y ∷ []) zs) done so

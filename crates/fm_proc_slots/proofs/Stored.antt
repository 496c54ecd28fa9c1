-- What finds no place is let go.
use Rattle.std.proofs.Common.{◌≡◌, refl, ℕ, ℤ, Some, List, [], ◌∷◌, ◌++◌, ap, ap₂, sym, subst, append_assoc, ◌∙◌}
use Rattle.fm_base.specs.declared.port.PortValue.{PortValue}
use Rattle.fm_base.specs.Channels.{Item, Message, Words, item_ports, message_ports}
use Rattle.fm_chan.specs.declared.message.Content.{Content}
use Rattle.fm_chan.specs.declared.message.Content.TheVariants as content
use Rattle.fm_chan.specs.Items.{plain_message}
use Rattle.fm_code.specs.declared.ask.Operand.{Operand}
use Rattle.fm_code.specs.declared.ask.Operand.TheVariants as operand
use Rattle.fm_proc_language.specs.Frames.{Held, all_stored, all_placed, stored}
use Rattle.fm_proc_language.specs.Slots.{Slots}
use Rattle.fm_proc_slots.specs.Copies.{kept_word}
use Rattle.fm_proc_slots.specs.Helds.{held}
use Rattle.fm_proc_slots.specs.Stores.{PlacesMessage, PlacesPort, words_stored}

none_stored : (h : Held) (ms : Message) → all_stored h [] ms ≡ (h, message_ports ms)
none_stored h [] = refl
none_stored h (m ∷ ms) = refl

nowhere : (h : Held) (i : Item) (out out' : List PortValue) → out' ≡ out ++ item_ports i → PlacesMessage h [] out i h [] out'
nowhere h i out out' f = record {
  keeps = λ ms. ap (λ (p : Held × List PortValue). p.0) (none_stored h ms);
  gives = λ ms. ap₂ (λ (l : List PortValue) (p : Held × List PortValue). l ++ p.1) f (none_stored h ms) ∙ append_assoc out (item_ports i) (message_ports ms);
}

pub stored_nowhere : (h : Held) (os : List Operand) (i : Item) (out out' : List PortValue) → os ≡ [] → out' ≡ out ++ item_ports i → PlacesMessage h os out i h os out'
stored_nowhere h os i out out' e f = subst (λ (l : List Operand). PlacesMessage h l out i h l out') (sym e) (nowhere h i out out' f)

none_placed : (h : Held) (xs : List PortValue) → all_placed h [] xs ≡ (h, xs)
none_placed h [] = refl
none_placed h (x ∷ xs) = refl

unplaced : (h : Held) (x : PortValue) (out out' : List PortValue) → out' ≡ out ++ x ∷ [] → PlacesPort h [] out x h [] out'
unplaced h x out out' f = record {
  keeps = λ xs. ap (λ (p : Held × List PortValue). p.0) (none_placed h xs);
  gives = λ xs. ap₂ (λ (l : List PortValue) (p : Held × List PortValue). l ++ p.1) f (none_placed h xs) ∙ append_assoc out (x ∷ []) xs;
}

pub placed_nowhere : (h : Held) (ks : List ℕ) (x : PortValue) (out out' : List PortValue) → ks ≡ [] → out' ≡ out ++ x ∷ [] → PlacesPort h ks out x h ks out'
placed_nowhere h ks x out out' e f = subst (λ (l : List ℕ). PlacesPort h l out x h l out') (sym e) (unplaced h x out out' f)

-- words at the first place, if there is one
words_at : (ws : List ℤ) (slots : Slots) (o : Operand) (ns : List ℤ) → (held (words_stored ws o ns) slots, []) ≡ stored (held ws slots) o (Words ns)
words_at ws slots (operand.Value v) ns = refl
words_at ws slots (operand.Words s) ns = refl
words_at ws slots (operand.Ports s) ns = refl

pub first_stored : (ws after : List ℤ) (os left : List Operand) (o : Operand) (ns : List ℤ) → os ≡ o ∷ left → after ≡ words_stored ws o ns → (slots : Slots) → (held after slots, []) ≡ all_stored (held ws slots) os (Words ns ∷ [])
first_stored ws after os left o ns there is slots =
    ap (λ (v : List ℤ). (held v slots, [])) is
    ∙ ap (λ (p : Held × List PortValue). (p.0, p.1 ++ [])) (words_at ws slots o ns)
    ∙ ap (λ (l : List Operand). all_stored (held ws slots) l (Words ns ∷ [])) (sym there)

-- the message is its word
pub kept_is : (k : Content) (w : ℤ) → Some w ≡ kept_word k → Words (w ∷ []) ∷ [] ≡ plain_message k
kept_is (content.Word v) w is =
    let same : w ≡ v = cc is in
    ap (λ x. Words (x ∷ []) ∷ []) same
kept_is (content.Items is) w e = absurd (cc e)

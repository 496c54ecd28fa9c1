-- A message without ports leaves the words and the slots as they are.
use Rattle.std.proofs.Common.{◌≡◌, ◌||◌, ℤ, Bool, true, false, List, [], ◌∷◌, refl, sym, ap, ◌∙◌}
use Rattle.std.specs.Prelude.{Option, Some, None, IfSome, is_some, not}
use Rattle.fm_base.specs.Channels.{Item, Message, Words}
use Rattle.fm_code.specs.declared.ask.Operand.{Operand}
use Rattle.fm_code.specs.declared.ask.Operand.TheVariants as operand
use Rattle.fm_proc_language.specs.Frames.{Held, item_from, message_from}
use Rattle.fm_proc_slots.specs.Copies.{carries_ports, copied_words, has_ports, words_message}

first_no : (a b : Bool) → (a || b) ≡ false → a ≡ false
first_no true b e = absurd (cc e)
first_no false b e = refl

other_no : (a b : Bool) → (a || b) ≡ false → b ≡ false
other_no true b e = absurd (cc e)
other_no false b e = e

one_copied : (h : Held) (o : Operand) → has_ports o ≡ false → item_from h o ≡ (h, Words (copied_words h.words o))
one_copied h (operand.Value v) e = refl
one_copied h (operand.Words s) e = refl
one_copied h (operand.Ports s) e = absurd (cc e)

pub all_copied : (h : Held) (os : List Operand) → carries_ports os ≡ false → message_from h os ≡ (h, words_message h.words os)
all_copied h [] e = refl
all_copied h (o ∷ os) e =
    let one = one_copied h o (first_no (has_ports o) (carries_ports os) e) in
    let rest = all_copied h os (other_no (has_ports o) (carries_ports os) e) in
    ap (λ (p : Held × Item). ((message_from p.0 os).0, p.1 ∷ (message_from p.0 os).1)) one
    ∙ ap (λ (p : Held × Message). (p.0, Words (copied_words h.words o) ∷ p.1)) rest

no_ports : (b : Bool) → true ≡ not b → b ≡ false
no_ports true e = absurd (cc e)
no_ports false e = refl

-- a message that was copied
pub copied_so : (h : Held) (os : List Operand) (ws : List ℤ) (r : Option Message) (m : Message) → ws ≡ h.words → r ≡ Some m → is_some r ≡ not (carries_ports os) → IfSome r (λ l. l ≡ words_message ws os) → (h, m) ≡ message_from h os
copied_so h os ws None m there e some is = absurd (cc e)
copied_so h os ws (Some l) m there e some is =
    let same : m ≡ l = cc e in
    ap (λ (x : Message). (h, x)) (same ∙ is ∙ ap (λ v. words_message v os) there) ∙ sym (all_copied h os (no_ports (carries_ports os) some))

-- A message that is built item by item.
use Rattle.std.proofs.Common.{◌≡◌, refl, suc, ℤ, ◌+◌, ◌≤◌, List, [], ◌∷◌, ◌++◌, length, drop, sym, ap, arith, append_assoc, ◌∙◌}
use Rattle.std.proofs.lemmas.List.{length-take}
use Rattle.fm_base.specs.Channels as base
use Rattle.fm_base.specs.Channels.{Item, Message, item_length}
use Rattle.fm_code.specs.declared.ask.Operand.{Operand}
use Rattle.fm_code.specs.declared.ask.Operand.TheVariants as operand
use Rattle.fm_code.specs.Acts.{span_of}
use Rattle.fm_proc_language.specs.Frames.{Held, item_from, message_from}
use Rattle.fm_proc_language.specs.Processes.{message_words}
use Rattle.fm_proc_language.specs.Slots.{Slots, all_taken, taken}
use Rattle.fm_proc_slots.specs.declared.open.OpenSlots.{OpenSlots}
use Rattle.fm_proc_slots.specs.Operands.{operand_ports, operand_words, ports_room, words_room}
use Rattle.fm_proc_slots.specs.Rooms.{HasRoom, LeavesRoom}
use Rattle.fm_proc_slots.proofs.Roomy.{room_within}

module _ (all rest : List Operand) (o : Operand) (is : all ≡ o ∷ rest) where
  sum : ports_room all ≡ operand_ports o + ports_room rest
  sum = ap ports_room is

  pub slots_now : (s : OpenSlots) → HasRoom s (ports_room all) → HasRoom s (operand_ports o)
  slots_now s r = room_within s (ports_room all) (operand_ports o) (omega (arith, sum)) r

  pub slots_then : (s s' : OpenSlots) → HasRoom s (ports_room all) → LeavesRoom (operand_ports o) s s' → HasRoom s' (ports_room rest)
  slots_then s s' r l = l (ports_room rest) (room_within s (ports_room all) (operand_ports o + ports_room rest) (omega (arith, sum)) r)

  module _ (h h' : Held) (i : Item) (from : (h', i) ≡ item_from h o) where
    pub message_keeps : (end : Held) → (message_from h all).0 ≡ end → (message_from h' rest).0 ≡ end
    message_keeps end so = ap (λ (p : Held × Item). (message_from p.0 rest).0) from ∙ ap (λ l. (message_from h l).0) (sym is) ∙ so

    pub message_gives : (before after end : Message) → before ++ (message_from h all).1 ≡ end → after ≡ before ++ i ∷ [] → after ++ (message_from h' rest).1 ≡ end
    message_gives before after end so more =
        ap (λ l. l ++ (message_from h' rest).1) more
        ∙ ap (λ (p : Held × Item). (before ++ p.1 ∷ []) ++ (message_from p.0 rest).1) from
        ∙ append_assoc before ((item_from h o).1 ∷ []) (message_from (item_from h o).0 rest).1
        ∙ ap (λ l. before ++ (message_from h l).1) (sym is) ∙ so

-- how many words and ports it has
taken_length : (s : Slots) (zs : List ℤ) → length (all_taken s zs).0 ≡ length zs
taken_length s [] = refl
taken_length s (z ∷ zs) = ap suc (taken_length (taken s z).1 zs)

item_fits : (h : Held) (o : Operand) → item_length (item_from h o).1 ≤ operand_words o
item_fits h (operand.Value v) = omega arith
item_fits h (operand.Words s) = omega (arith, length-take s.count (drop s.first h.words))
item_fits h (operand.Ports s) = omega (arith, taken_length h.slots (span_of h.words s), length-take s.count (drop s.first h.words))

counted : (i : Item) (is : Message) → message_words (i ∷ is) ≡ item_length i + message_words is
counted (base.Words ws) is = refl
counted (base.Ports ps) is = refl

pub message_fits : (h : Held) (os : List Operand) → message_words (message_from h os).1 ≤ words_room os
message_fits h [] = omega arith
message_fits h (o ∷ os) = omega (arith, counted (item_from h o).1 (message_from (item_from h o).0 os).1, item_fits h o, message_fits (item_from h o).0 os)

-- Ports that leave one after the other, and the room for them.
use Rattle.std.proofs.Common.{◌≡◌, ℕ, ◌+◌, ◌<◌, ◌≤◌, ℤ, pos, List, ◌∷◌, ◌++◌, length, drop, get_or, sym, ap, subst, append_assoc, ◌∙◌, arith, length-drop}
use Rattle.std.specs.Prelude.{option_to_list}
use Rattle.std.proofs.lemmas.List.{drop_more}
use Rattle.fm_base.specs.declared.port.PortValue.{PortValue}
use Rattle.fm_proc_language.specs.Slots.{Slots, all_left, in_slot, left, vacated}
use Rattle.fm_proc_slots.specs.declared.open.OpenSlots.{OpenSlots}
use Rattle.fm_proc_slots.specs.Rooms.{HasRoom}

-- room for all that are left is room for the next one and the others
pub room_next : (slots : OpenSlots) (ws : List ℤ) (i : ℕ) → i < length ws → HasRoom slots (length (drop i ws)) → HasRoom slots (1 + length (drop (i + 1) ws))
room_next slots ws i low = subst (HasRoom slots) (omega (arith, low, length-drop i ws, length-drop (i + 1) ws))

pub empty_next : (len len' capacity capacity' : ℕ) (ws : List ℤ) (i : ℕ) → i < length ws → len + length (drop i ws) ≤ capacity → len' ≤ len + 1 → capacity ≤ capacity' → len' + length (drop (i + 1) ws) ≤ capacity'
empty_next len len' capacity capacity' ws i low room more keeps = omega (arith, low, room, more, keeps, length-drop i ws, length-drop (i + 1) ws)

-- the words from this one on
next_word : (ws : List ℤ) (i : ℕ) (z : ℤ) → i < length ws → z ≡ get_or ws i (pos 0) → z ∷ drop (i + 1) ws ≡ drop i ws
next_word ws i z low this = ap (λ y. y ∷ drop (i + 1) ws) this ∙ sym (drop_more ws i (pos 0) low)

pub vacated_next : (s s' : Slots) (ws : List ℤ) (i : ℕ) (z : ℤ) (before after all : List PortValue) → i < length ws → z ≡ get_or ws i (pos 0) → before ++ vacated s (drop i ws) ≡ all → after ≡ before ++ option_to_list (in_slot s z) → s' ≡ left s z
    → after ++ vacated s' (drop (i + 1) ws) ≡ all
vacated_next s s' ws i z before after all low this so more is =
    let rest = drop (i + 1) ws in
    ap (λ l. l ++ vacated s' rest) more ∙ ap (λ t. (before ++ option_to_list (in_slot s z)) ++ vacated t rest) is
    ∙ append_assoc before (option_to_list (in_slot s z)) (vacated (left s z) rest)
    ∙ ap (λ l. before ++ vacated s l) (next_word ws i z low this) ∙ so

pub left_next : (s s' all : Slots) (ws : List ℤ) (i : ℕ) (z : ℤ) → i < length ws → z ≡ get_or ws i (pos 0) → all_left s (drop i ws) ≡ all → s' ≡ left s z → all_left s' (drop (i + 1) ws) ≡ all
left_next s s' all ws i z low this so is = ap (λ t. all_left t (drop (i + 1) ws)) is ∙ ap (all_left s) (next_word ws i z low this) ∙ so

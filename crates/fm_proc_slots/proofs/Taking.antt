-- Ports at words that leave one after the other.
use Rattle.std.proofs.Common.{◌≡◌, ℕ, ◌+◌, ◌<◌, ℤ, pos, Option, List, [], ◌∷◌, ◌++◌, length, drop, get_or, sym, ap, append_assoc, ◌∙◌}
use Rattle.std.proofs.lemmas.List.{drop_more}
use Rattle.fm_base.specs.declared.port.PortValue.{PortValue}
use Rattle.fm_proc_language.specs.Slots.{Slots, all_taken, taken}

module _ (s s' : Slots) (ws : List ℤ) (i : ℕ) (z : ℤ) (x : Option PortValue) (low : i < length ws) (this : z ≡ get_or ws i (pos 0)) (is : (x, s') ≡ taken s z) where
  abbrev rest : List ℤ
  rest = drop (i + 1) ws

  next : z ∷ rest ≡ drop i ws
  next = ap (λ y. y ∷ rest) this ∙ sym (drop_more ws i (pos 0) low)

  pub taken_next : (ps ps' all : List (Option PortValue)) → ps ++ (all_taken s (drop i ws)).0 ≡ all → ps' ≡ ps ++ x ∷ [] → ps' ++ (all_taken s' (drop (i + 1) ws)).0 ≡ all
  taken_next ps ps' all so more =
      ap (λ l. l ++ (all_taken s' rest).0) more
      ∙ ap (λ (p : Option PortValue × Slots). (ps ++ p.0 ∷ []) ++ (all_taken p.1 rest).0) is
      ∙ append_assoc ps ((taken s z).0 ∷ []) (all_taken (taken s z).1 rest).0
      ∙ ap (λ l. ps ++ (all_taken s l).0) next ∙ so

  pub left_next : (all : Slots) → (all_taken s (drop i ws)).1 ≡ all → (all_taken s' (drop (i + 1) ws)).1 ≡ all
  left_next all so = ap (λ (p : Option PortValue × Slots). (all_taken p.1 rest).1) is ∙ ap (λ l. (all_taken s l).1) next ∙ so

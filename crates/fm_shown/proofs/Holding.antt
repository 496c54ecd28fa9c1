-- The ports of words, and the words of frames, one after the other.
use Rattle.std.proofs.Common.{◌≡◌, ◌+◌, ◌<◌, ℕ, ℤ, List, [], ◌∷◌, ◌++◌, length, map, take, drop, get_or, sym, ap, append-nil, append_assoc, ◌∙◌}
use mathlib.Core.List.{reverse-cons}
use Rattle.std.specs.Prelude.{reverse}
use Rattle.std.specs.List.{flat_map}
use Rattle.std.proofs.lemmas.Grind.{flat_map-append}
use Rattle.std.proofs.lemmas.List.{map-append, take_more, drop_more}
use Rattle.fm_base.specs.declared.port.PortValue.{PortValue}
use Rattle.fm_net.specs.Machine.{Place}
use Rattle.fm_run.specs.Gathered.{Owners, with_held}
use Rattle.fm_run.proofs.Holding.{held_both}

-- ---- one port, and one more of a list of them

pub held_next : (m mid new : Owners) (path : Place) (f : ℤ → PortValue) (ws : List ℤ) (i : ℕ) (none : ℤ) → i < length ws → mid ≡ with_held m path (map f (take i ws)) → new ≡ with_held mid path (f (get_or ws i none) ∷ [])
    → new ≡ with_held m path (map f (take (i + 1) ws))
held_next m mid new path f ws i none low before is =
    let front = map f (take i ws) in
    let last = f (get_or ws i none) ∷ [] in
    let ports : map f (take (i + 1) ws) ≡ front ++ last = ap (map f) (take_more ws i none low) ∙ map-append f (take i ws) (get_or ws i none ∷ []) in
    is ∙ ap (λ (l : Owners). with_held l path last) before ∙ sym (held_both m path front last) ∙ sym (ap (with_held m path) ports)

-- ---- words of frames, from the innermost frame on

module _ {X : Type 0} (f : X → List ℤ) where
  -- a frame more, further out
  pub words_more : (old mid new : List ℤ) (xs : List X) (k n : ℕ) (x : X) → k + 1 ≡ n → k < length xs → x ≡ get_or xs k x → mid ≡ old ++ flat_map f (reverse (drop n xs)) → new ≡ mid ++ f x
      → new ≡ old ++ flat_map f (reverse (drop k xs))
  words_more old mid new xs k n x one low this before is =
      let inner = flat_map f (reverse (drop n xs)) in
      let left : drop k xs ≡ x ∷ drop n xs = drop_more xs k x low ∙ ap (λ y. y ∷ drop (k + 1) xs) (sym this) ∙ ap (λ (j : ℕ). x ∷ drop j xs) one in
      let words : flat_map f (reverse (drop k xs)) ≡ inner ++ f x =
      ap (λ l. flat_map f (reverse l)) left ∙ ap (flat_map f) (reverse-cons x (drop n xs)) ∙ flat_map-append f (reverse (drop n xs)) (x ∷ []) ∙ ap (λ l. inner ++ l) (append-nil (f x)) in
      is ∙ ap (λ l. l ++ f x) before ∙ append_assoc old inner (f x) ∙ ap (λ l. old ++ l) (sym words)

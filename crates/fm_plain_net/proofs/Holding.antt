-- The ports of processes, gathered one after the other.
use Rattle.std.proofs.Common.{◌≡◌, ◌+◌, ◌<◌, ℕ, List, [], ◌∷◌, ◌++◌, length, map, take, drop, get_or, sym, ap, append-nil, ◌∙◌}
use mathlib.Core.List.{reverse-cons}
use Rattle.std.specs.Prelude.{reverse}
use Rattle.std.specs.List.{flat_map}
use Rattle.std.proofs.lemmas.Grind.{flat_map-append}
use Rattle.std.proofs.lemmas.List.{map-append, take_more, drop_more}
use Rattle.fm_base.specs.declared.port.PortValue.{PortValue}
use Rattle.fm_net.specs.Machine.{Place}
use Rattle.fm_mean.specs.declared.outport.Outport.{Outport}
use Rattle.fm_mean.specs.Places.{live}
use Rattle.fm_mean.specs.Process.{frame_ports, frames_ports}
use Rattle.fm_mean.specs.Process as mean
use Rattle.fm_plain_frame.specs.declared.word.Word.{Word}
use Rattle.fm_plain_frame.specs.Memory.{port_in}
use Rattle.fm_run.specs.Gathered.{Owners, with_holders, with_held}
use Rattle.fm_run.proofs.Holding.{held_both, with_both}
use Rattle.fm_plain_net.proofs.Loads.{live_snoc}

-- the first of what is left
module _ {X : Type 0} (f : X → List (Outport × Place)) where
  pub holders_next : (m later whole : Owners) (e : X) (left rest : List X) → left ≡ e ∷ rest → with_holders m (flat_map f left) ≡ whole → later ≡ with_holders m (f e) → with_holders later (flat_map f rest) ≡ whole
  holders_next m later whole e left rest first before is =
      ap (λ (l : Owners). with_holders l (flat_map f rest)) is ∙ sym (with_both m (f e) (flat_map f rest)) ∙ sym (ap (λ (es : List X). with_holders m (flat_map f es)) first) ∙ before

-- ---- the ports of one thing more, of a list of things

-- some ports, and then others
pub after : (m mid new : Owners) (path : Place) (front last whole : List PortValue) → whole ≡ front ++ last → mid ≡ with_held m path front → new ≡ with_held mid path last → new ≡ with_held m path whole
after m mid new path front last whole ports before is = is ∙ ap (λ (l : Owners). with_held l path last) before ∙ sym (held_both m path front last) ∙ sym (ap (with_held m path) ports)

taken_more : {X : Type 0} (xs : List X) (i : ℕ) (x : X) → i < length xs → x ≡ get_or xs i x → take (i + 1) xs ≡ take i xs ++ x ∷ []
taken_more xs i x low this = take_more xs i x low ∙ ap (λ y. take i xs ++ y ∷ []) (sym this)

module _ {X Y : Type 0} (g : Y → List PortValue) (f : X → Y) where
  pub held_next : (m mid new : Owners) (path : Place) (xs : List X) (i : ℕ) (x : X) → i < length xs → x ≡ get_or xs i x → mid ≡ with_held m path (flat_map g (map f (take i xs))) → new ≡ with_held mid path (g (f x))
      → new ≡ with_held m path (flat_map g (map f (take (i + 1) xs)))
  held_next m mid new path xs i x low this before is =
      let front = flat_map g (map f (take i xs)) in
      let ports : flat_map g (map f (take (i + 1) xs)) ≡ front ++ g (f x) =
      ap (λ l. flat_map g (map f l)) (taken_more xs i x low this) ∙ ap (flat_map g) (map-append f (take i xs) (x ∷ []))
      ∙ flat_map-append g (map f (take i xs)) (f x ∷ []) ∙ ap (λ l. front ++ l) (append-nil (g (f x))) in
      after m mid new path front (g (f x)) (flat_map g (map f (take (i + 1) xs))) ports before is

pub held_word : (m mid new : Owners) (path : Place) (ws : List Word) (i : ℕ) (w : Word) → i < length ws → w ≡ get_or ws i w → mid ≡ with_held m path (live (map port_in (take i ws))) → new ≡ with_held mid path (live (port_in w ∷ []))
    → new ≡ with_held m path (live (map port_in (take (i + 1) ws)))
held_word m mid new path ws i w low this before is =
    let front = live (map port_in (take i ws)) in
    let last = live (port_in w ∷ []) in
    let ports : live (map port_in (take (i + 1) ws)) ≡ front ++ last =
    ap (λ l. live (map port_in l)) (taken_more ws i w low this) ∙ ap live (map-append port_in (take i ws) (w ∷ [])) ∙ live_snoc (map port_in (take i ws)) (port_in w) in
    after m mid new path front last (live (map port_in (take (i + 1) ws))) ports before is

-- a frame more, further out
module _ {X : Type 0} (f : X → mean.Frame) where
  pub held_frame : (m mid new : Owners) (path : Place) (xs : List X) (k n : ℕ) (x : X) → k + 1 ≡ n → k < length xs → x ≡ get_or xs k x → mid ≡ with_held m path (frames_ports (reverse (map f (drop n xs)))) → new ≡ with_held mid path (frame_ports (f x))
      → new ≡ with_held m path (frames_ports (reverse (map f (drop k xs))))
  held_frame m mid new path xs k n x one low this before is =
      let inner = reverse (map f (drop n xs)) in
      let left : drop k xs ≡ x ∷ drop n xs = drop_more xs k x low ∙ ap (λ y. y ∷ drop (k + 1) xs) (sym this) ∙ ap (λ (j : ℕ). x ∷ drop j xs) one in
      let ports : frames_ports (reverse (map f (drop k xs))) ≡ frames_ports inner ++ frame_ports (f x) =
      ap (λ l. frames_ports (reverse (map f l))) left ∙ ap frames_ports (reverse-cons (f x) (map f (drop n xs)))
      ∙ flat_map-append frame_ports inner (f x ∷ []) ∙ ap (λ l. frames_ports inner ++ l) (append-nil (frame_ports (f x))) in
      after m mid new path (frames_ports inner) (frame_ports (f x)) (frames_ports (reverse (map f (drop k xs)))) ports before is

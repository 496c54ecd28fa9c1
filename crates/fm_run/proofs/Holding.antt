-- The holders of outports, gathered one after the other.
use Rattle.std.proofs.Common.{◌≡◌, Bool, true, false, cond, Option, Some, None, is_some, List, [], ◌∷◌, ◌++◌, refl, sym, ap, append-nil, append_assoc, ◌∙◌}
use Rattle.std.specs.List.{flat_map}
use Rattle.std.specs.FinMap.{empty, find, from_entries, from_entries_push, get-from_entries, insert}
use Rattle.std.specs.Ordering.{eq_by_cmp}
use Rattle.std.specs.declared.cmp.Ordering.{Ordering}
use Rattle.std.proofs.lemmas.Grind.{flat_map-append}
use Rattle.fm_base.specs.declared.port.PortValue.{PortValue}
use Rattle.fm_finmap.specs.Keys.{IsKeyOrder}
use Rattle.fm_finmap.proofs.Keys.{decide, same, tie_not}
use Rattle.fm_finmap.proofs.Maps.{key_order}
use Rattle.fm_net.specs.Machine.{Place}
use Rattle.fm_mean.specs.declared.outport.Outport.{Outport}
use Rattle.fm_mean.specs.Holders.{holding}
use Rattle.fm_mean.specs.OutportKeys.{outport_exact, outport_total}
use Rattle.fm_mean.specs.Outports.{outport_cmp}
use Rattle.fm_run.specs.Gathered.{Owners, with_holder, with_holders, with_held}

pub outport_order : IsKeyOrder outport_cmp
outport_order = key_order outport_total outport_exact

-- ---- entries, of which the first with a key counts

module _ {K X : Type 0} (R : K → K → Ordering) where
  -- another key's entry
  found_apart : (es : List (K × X)) (k : K) (v : X) (q : K) → eq_by_cmp R q k ≡ false → find R q (es ++ (k, v) ∷ []) ≡ find R q es
  found_apart [] k v q off = ap (λ b. cond b (Some v) None) off
  found_apart (e ∷ es) k v q off = ap (cond (eq_by_cmp R q e.0) (Some e.1)) (found_apart es k v q off)

  -- a second entry of a key
  found_first : (es : List (K × X)) (k : K) (v x : X) → find R k es ≡ Some x → find R k (es ++ (k, v) ∷ []) ≡ find R k es
  found_first [] k v x is = absurd (cc is)
  found_first (e ∷ es) k v x is = go (λ later. found_first es k v x later) (eq_by_cmp R k e.0) is
    where
      go : (find R k es ≡ Some x → find R k (es ++ (k, v) ∷ []) ≡ find R k es) → (b : Bool) → cond b (Some e.1) (find R k es) ≡ Some x → cond b (Some e.1) (find R k (es ++ (k, v) ∷ [])) ≡ cond b (Some e.1) (find R k es)
      go rest true h = refl
      go rest false h = rest h

  module _ (o : IsKeyOrder R) where
    found_again : (es : List (K × X)) (k : K) (v x : X) → find R k es ≡ Some x → (q : K) → find R q (es ++ (k, v) ∷ []) ≡ find R q es
    found_again es k v x is q = elim (decide o q k) [
      | yes e ↦ ap (λ (j : K). find R j (es ++ (k, v) ∷ [])) e ∙ found_first es k v x is ∙ ap (λ (j : K). find R j es) (sym e)
      | no n ↦ found_apart es k v q (tie_not o q k n)
    ]

    kept_first : (es : List (K × X)) (k : K) (v x : X) → find R k es ≡ Some x → from_entries {R = R} es ≡ from_entries {R = R} (es ++ (k, v) ∷ [])
    kept_first es k v x is = same o _ _ (λ q. get-from_entries o.total es q ∙ sym (found_again es k v x is q) ∙ sym (get-from_entries o.total (es ++ (k, v) ∷ []) q))

-- ---- one holder after the other

one_more : (es : List (Outport × Place)) (k : Outport) (v : Place) → with_holder (from_entries es) k v ≡ from_entries (es ++ (k, v) ∷ [])
one_more es k v = go (find outport_cmp k es) refl
  where
    there : (o : Option Place) → find outport_cmp k es ≡ o → with_holder (from_entries es) k v ≡ cond (is_some o) (from_entries es) (insert (from_entries es) k v)
    there o e = ap (λ (p : Option Place). cond (is_some p) (from_entries {R = outport_cmp} es) (insert (from_entries {R = outport_cmp} es) k v)) (get-from_entries outport_total es k ∙ e)

    go : (o : Option Place) → find outport_cmp k es ≡ o → with_holder (from_entries es) k v ≡ from_entries (es ++ (k, v) ∷ [])
    go None e = there None e ∙ sym (from_entries_push outport_total outport_exact es k v e)
    go (Some x) e = there (Some x) e ∙ kept_first outport_cmp outport_order es k v x e

from_before : (es hs : List (Outport × Place)) → with_holders (from_entries es) hs ≡ from_entries (es ++ hs)
from_before es [] = ap (λ l. from_entries {R = outport_cmp} l) (sym (append-nil es))
from_before es (h ∷ hs) = ap (λ m. with_holders m hs) (one_more es h.0 h.1) ∙ from_before (es ++ h ∷ []) hs ∙ ap (λ l. from_entries {R = outport_cmp} l) (append_assoc es (h ∷ []) hs)

-- gathered from nothing on
pub from_none : (m : Owners) (hs : List (Outport × Place)) → m ≡ empty → with_holders m hs ≡ from_entries hs
from_none m hs none = ap (λ (l : Owners). with_holders l hs) none ∙ from_before [] hs

pub with_both : (m : Owners) (xs ys : List (Outport × Place)) → with_holders m (xs ++ ys) ≡ with_holders (with_holders m xs) ys
with_both m [] ys = refl
with_both m (x ∷ xs) ys = with_both (with_holder m x.0 x.1) xs ys

pub held_both : (m : Owners) (path : Place) (zs ws : List PortValue) → with_held m path (zs ++ ws) ≡ with_held (with_held m path zs) path ws
held_both m path zs ws = ap (with_holders m) (flat_map-append (holding path) zs ws) ∙ with_both m (flat_map (holding path) zs) (flat_map (holding path) ws)

-- A process's own frame is the outermost one.
use Rattle.std.proofs.Common.{◌≡◌, Some, List, [], ◌∷◌, ◌++◌, refl, sym, ap, ◌∙◌}
use mathlib.Core.List.{reverse-cons}
use Rattle.std.specs.Prelude.{reverse, slice_get}
use Rattle.fm_code.specs.declared.body.Frame.{Frame}
use Rattle.fm_shown.specs.Outcome.{own_frame}

-- the first of a list that has a last one
first_snoc : (xs : List Frame) (x y : Frame) → slice_get ((xs ++ x ∷ []) ++ y ∷ []) 0 ≡ slice_get (xs ++ x ∷ []) 0
first_snoc [] x y = refl
first_snoc (z ∷ zs) x y = refl

outermost : (m : Frame) (ns : List Frame) → slice_get (reverse (m ∷ ns)) 0 ≡ Some (own_frame m ns)
outermost m [] = ap (λ (fs : List Frame). slice_get fs 0) (reverse-cons m [])
outermost m (n ∷ ns) =
    ap (λ (fs : List Frame). slice_get fs 0) (reverse-cons m (n ∷ ns) ∙ ap (λ fs. fs ++ m ∷ []) (reverse-cons n ns)) ∙ first_snoc (reverse ns) n m
    ∙ sym (ap (λ (fs : List Frame). slice_get fs 0) (reverse-cons n ns)) ∙ outermost n ns

pub own_below : (m : Frame) (ns : List Frame) (f : Frame) → Some f ≡ slice_get (reverse ns) 0 → f ≡ own_frame m ns
own_below m [] f is = absurd (cc is)
own_below m (n ∷ ns) f is = cc (is ∙ outermost n ns)

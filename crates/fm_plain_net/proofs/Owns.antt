-- A process's own frame is the outermost one.
use Rattle.std.proofs.Common.{◌≡◌, Option, Some, None, List, [], ◌∷◌, ◌++◌, map, refl, sym, ap, ◌∙◌, append_assoc}
use mathlib.Core.List.{reverse-cons}
use Rattle.std.specs.Prelude.{option_map, option_to_list, reverse, slice_get}
use Rattle.fm_rules.specs.declared.program.Program.{Program}
use Rattle.fm_mean.specs.Process as mean
use Rattle.fm_mean.specs.Outcome.{own_variables}
use Rattle.fm_plain_frame.specs.declared.frame.Frame.{Frame}
use Rattle.fm_plain_frame.specs.Frames.{frame_of, frames_of}
use Rattle.fm_plain_net.specs.Shown.{of_frame}

last_own : (p : Program) (fs : List mean.Frame) (f : Frame) → own_variables p (fs ++ frame_of p f ∷ []) ≡ of_frame p (Some f)
last_own p [] f = refl
last_own p (g ∷ []) f = refl
last_own p (g ∷ h ∷ fs) f = last_own p (h ∷ fs) f

pub own_below : (p : Program) (top : Option Frame) (f : Frame) (fs : List Frame) → own_variables p (frames_of p top (f ∷ fs)) ≡ of_frame p (Some f)
own_below p top f fs =
    ap (own_variables p) (ap (λ gs. option_to_list (option_map (frame_of p) top) ++ gs) (reverse-cons (frame_of p f) (map (frame_of p) fs)) ∙ sym (append_assoc (option_to_list (option_map (frame_of p) top)) (reverse (map (frame_of p) fs)) (frame_of p f ∷ [])))
    ∙ last_own p (option_to_list (option_map (frame_of p) top) ++ reverse (map (frame_of p) fs)) f

pub own_alone : (p : Program) (top : Option Frame) → own_variables p (frames_of p top []) ≡ of_frame p top
own_alone p None = refl
own_alone p (Some f) = refl

pub own_first : (p : Program) (top : Option Frame) (below : List Frame) (f : Frame) → Some f ≡ slice_get below 0 → own_variables p (frames_of p top below) ≡ of_frame p (Some f)
own_first p top [] f is = absurd (cc is)
own_first p top (g ∷ fs) f is =
    let same : f ≡ g = cc is in
    own_below p top g fs ∙ ap (λ (h : Frame). of_frame p (Some h)) (sym same)

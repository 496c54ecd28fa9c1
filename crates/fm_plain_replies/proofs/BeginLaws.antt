-- The children of a block, one after the other.
use Rattle.std.proofs.Common.{◌≡◌, ◌<◌, ◌+◌, ℕ, List, [], ◌∷◌, ◌++◌, map, length, drop, get_or, sym, ap, ◌∙◌, append_assoc, add-one}
use Rattle.std.proofs.Math.Seq.{drop-cons}
use Rattle.std.proofs.lemmas.List.{map-append}
use Rattle.fm_rules.specs.declared.program.Program.{Program}
use Rattle.fm_mean.specs.Process as mean
use Rattle.fm_mean.specs.Steps.{kid_of as kid_from}
use Rattle.fm_plain_frame.specs.declared.frame.Start.{Start}
use Rattle.fm_plain_frame.specs.declared.process.Kid.{Kid}
use Rattle.fm_plain_frame.specs.Frames.{kid_of, start_of}

-- one more child is made
pub kids_next : (p : Program) (done : List Kid) (k : Kid) (starts : List Start) (i : ℕ) (s : Start) (whole : List mean.Kid) → i < length starts → s ≡ get_or starts i s → kid_of k ≡ kid_from (start_of p s)
    → map kid_of done ++ map kid_from (map (start_of p) (drop i starts)) ≡ whole → map kid_of (done ++ k ∷ []) ++ map kid_from (map (start_of p) (drop (i + 1) starts)) ≡ whole
kids_next p done k starts i s whole lt at is before =
    let rest : List mean.Kid = map kid_from (map (start_of p) (drop (i + 1) starts)) in
    let here : drop i starts ≡ s ∷ drop (i + 1) starts = drop-cons starts i s lt ∙ (λ j. sym at j ∷ drop (sym (add-one i) j) starts) in
    ap (λ (zs : List mean.Kid). zs ++ rest) (map-append kid_of done (k ∷ []))
    ∙ append_assoc (map kid_of done) (kid_of k ∷ []) rest
    ∙ (λ j. map kid_of done ++ (is j ∷ rest))
    ∙ ap (λ (ss : List Start). map kid_of done ++ map kid_from (map (start_of p) ss)) (sym here)
    ∙ before

-- Frames that are opened, and frames that are gone.
use Rattle.std.proofs.Common.{◌≡◌, ℕ, zero, suc, ◌+◌, Option, Some, None, List, [], ◌∷◌, ◌++◌, length, refl, sym, ap, ◌∙◌, arith}
use Rattle.std.specs.Prelude.{slice_set}
use Rattle.fm_base.specs.declared.port.PortValue.{PortValue}
use Rattle.fm_base.specs.Channels.{Item}
use Rattle.fm_rules.specs.declared.program.Program.{Program}
use Rattle.fm_mean.specs.Names.{ProgramUnit}
use Rattle.fm_mean.specs.Calls.{new_frame, variables_in}
use Rattle.fm_mean.specs.Fits.{variables_of}
use Rattle.fm_mean.specs.Places.{Returned}
use Rattle.fm_mean.specs.Process as mean
use Rattle.fm_mean.specs.Process.{Execution, framed}
use Rattle.fm_mean.specs.declared.place.Back.{Back}
use Rattle.fm_mean.specs.Actions.{Own, opens}
use Rattle.fm_plain_frame.specs.Frames.{frame_of}
use Rattle.fm_plain_frame.specs.Units.{unit_of}
use Rattle.fm_plain_frame.specs.declared.frame.Frame.{Frame}
use Rattle.fm_plain_frame.proofs.LeavingLaws.{last_frame}
use Rattle.fm_plain.specs.declared.here.Here.{Here}
use Rattle.fm_plain.specs.Standing.{StandsIn, below_of, program_in, standing, waiting}

-- the variables of the unit of a frame
pub variables_here : (h : Here) (f : Frame) → StandsIn h f → variables_of (program_in h) f.unit ≡ (unit_of h.unit).names.variables
variables_here h f s = ap variables_in s

-- the item that was put last is exchanged
pub set_last : {A : Type 0} (xs : List A) (x y : A) (k : ℕ) → k ≡ length xs → slice_set (xs ++ x ∷ []) k y ≡ xs ++ y ∷ []
set_last [] x y zero e = refl
set_last [] x y (suc k) e = absurd (omega arith)
set_last (z ∷ xs) x y zero e = absurd (omega arith)
set_last (z ∷ xs) x y (suc k) e = ap (λ ys. z ∷ ys) (set_last xs x y k (omega arith))

pub own_alike : (w : Execution) (fs gs : List mean.Frame) (ds es : List PortValue) (c d : ℕ) → fs ≡ gs → ds ≡ es → c ≡ d → Own (framed w fs) [] ds c ≡ Own (framed w gs) [] es d
own_alike w fs gs ds es c d f g h =
    ap (λ (xs : List mean.Frame). Own (framed w xs) [] ds c) f ∙ (ap (λ (xs : List PortValue). Own (framed w gs) [] xs c) g ∙ ap (λ (n : ℕ). Own (framed w gs) [] es n) h)

pub waiting_with : (f : mean.Frame) (vs : List Item) (next : Option ℕ) → waiting (record f { values = vs }) next ≡ record (waiting f next) { values = vs }
waiting_with f vs None = refl
waiting_with f vs (Some n) = refl

two_alike : {A : Type 0} (a b c d : A) (xs ys : List A) → a ≡ b → c ≡ d → xs ≡ ys → a ∷ c ∷ xs ≡ b ∷ d ∷ ys
two_alike a b c d xs ys e f g = cc

-- a frame is opened: the room that was made for the caller is its place
pub opened : (p : Program) (w : Execution) (caller : mean.Frame) (next : Option ℕ) (bs : List Frame) (hole gone top : Frame) (all : List Frame) (place n : ℕ) (u : ProgramUnit) (r : Returned) (backs : List Back) (ports : List PortValue) (cost : ℕ)
    → all ≡ bs ++ hole ∷ [] → place ≡ length bs → frame_of p top ≡ new_frame n r.theirs backs → frame_of p gone ≡ waiting (record caller { values = r.mine }) next → ports ≡ r.drops → cost ≡ 1 + u.names.words
    → opens w (waiting caller next) (below_of p bs) n u r backs ≡ Own (framed w (standing p top (slice_set all place gone))) [] ports cost
opened p w caller next bs hole gone top all place n u r backs ports cost pushed at new old drops words =
    let below : below_of p (slice_set all place gone) ≡ frame_of p gone ∷ below_of p bs = ap (λ (xs : List Frame). below_of p (slice_set xs place gone)) pushed ∙ ap (below_of p) (set_last bs hole gone place at) ∙ last_frame p bs gone in
    own_alike w _ _ _ _ _ _
    (two_alike (new_frame n r.theirs backs) (frame_of p top) (record (waiting caller next) { values = r.mine }) (frame_of p gone) (below_of p bs) (below_of p bs) (sym new) (sym (waiting_with caller r.mine next) ∙ sym old) refl
    ∙ ap (λ xs. frame_of p top ∷ xs) (sym below))
    (sym drops) (sym words)

-- Frames that are gone: what they give to the frame below, and what they let go.
use Rattle.std.proofs.Common.{◌≡◌, ℕ, ℤ, zero, suc, ◌+◌, Option, Result, Ok, Err, List, [], ◌∷◌, ◌++◌, length, map, reverse, take, refl, sym, ap, ◌∙◌, subst, arith, append_assoc}
use Rattle.std.specs.Prelude.{slice_index_or, slice_set, OnErr}
use Rattle.std.proofs.lemmas.List.{same_from_push, set-get_or}
use Rattle.fm_base.specs.declared.port.PortValue.{PortValue}
use Rattle.fm_base.specs.Channels.{message_ports}
use Rattle.fm_symbols.specs.declared.names.Variable.{Variable}
use Rattle.fm_rules.specs.declared.program.Program.{Program}
use Rattle.fm_mean.specs.Names.{ProgramUnit, result_variable}
use Rattle.fm_mean.specs.Calls.{back_words}
use Rattle.fm_mean.specs.Fits.{variables_of}
use Rattle.fm_mean.specs.Places.{live, word_at}
use Rattle.fm_mean.specs.Process as mean
use Rattle.fm_mean.specs.Process.{Execution, framed, frame_ports, started_ports}
use Rattle.fm_mean.specs.declared.place.Span.{Span}
use Rattle.fm_mean.specs.Actions.{Own, gives_back, results_in, scalar_place}
use Rattle.fm_plain_frame.specs.Frames.{frame_of}
use Rattle.fm_plain_frame.specs.Memory.{values_of}
use Rattle.fm_plain_frame.specs.Units.{unit_of}
use Rattle.fm_plain_frame.specs.declared.frame.Frame.{Frame}
use Rattle.fm_plain_frame.specs.declared.word.Word.{Word}
use Rattle.fm_plain_frame.proofs.LeavingLaws.{last_frame}
use Rattle.fm_plain.specs.declared.here.Here.{Here}
use Rattle.fm_plain.specs.Standing.{HasGivenBack, StandsIn, below_of, given_back, program_in, standing}
use Rattle.fm_plain.proofs.CallLaws.{own_alike, variables_here}

pub on_err : {T E P : Type 0} (r : Result T E) → P → OnErr r P
on_err (Ok x) h = tt
on_err (Err e) h = h

-- an exchanged item that reads as before
map_same : {A B : Type 0} (read : A → B) (xs : List A) (k : ℕ) (x y : A) → x ≡ slice_index_or xs k x → read y ≡ read x → map read (slice_set xs k y) ≡ map read xs
map_same read [] zero x y at same = refl
map_same read [] (suc k) x y at same = refl
map_same read (z ∷ xs) zero x y at same = ap (λ v. v ∷ map read xs) (same ∙ ap read at)
map_same read (z ∷ xs) (suc k) x y at same = ap (λ vs. read z ∷ vs) (map_same read xs k x y at same)

-- the last item
put_last : {A : Type 0} (xs : List A) (k : ℕ) (y : A) → k + 1 ≡ length xs → slice_set xs k y ≡ take k xs ++ y ∷ []
put_last [] k y e = absurd (omega (arith, e))
put_last (z ∷ []) zero y e = refl
put_last (z ∷ []) (suc k) y e = absurd (omega (arith, e))
put_last (z ∷ v ∷ xs) zero y e = absurd (omega (arith, e))
put_last (z ∷ v ∷ xs) (suc k) y e = ap (λ ys. z ∷ ys) (put_last (v ∷ xs) k y (omega (arith, e)))

-- the last item was exchanged and is taken: what was there, and what is taken
pub taken_last : {A : Type 0} (xs rest : List A) (k : ℕ) (x y z : A) → k + 1 ≡ length xs → x ≡ slice_index_or xs k x → slice_set xs k y ≡ rest ++ z ∷ [] → (xs ≡ rest ++ x ∷ []) × (z ≡ y)
taken_last xs rest k x y z e at is =
    let same = same_from_push rest (take k xs) z y (sym is ∙ put_last xs k y e) in
    (sym (set-get_or xs k x) ∙ put_last xs k (slice_index_or xs k x) e ∙ (ap (λ v. take k xs ++ v ∷ []) (sym at) ∙ ap (λ vs. vs ++ x ∷ []) (sym same.0)), same.1)

-- the frames after a failure are those that were
pub frames_stay : (p q : Program) (f g caller callee : Frame) (bs : List Frame) (k : ℕ) → q ≡ p → g ≡ slice_index_or bs k g → frame_of q caller ≡ frame_of q g → frame_of q callee ≡ frame_of q f
    → standing p callee (slice_set bs k caller) ≡ standing p f bs
frames_stay p q f g caller callee bs k one at mine theirs =
    let same : frame_of p caller ≡ frame_of p g = subst (λ r. frame_of r caller ≡ frame_of r g) one mine in
    ap (λ v. v ∷ below_of p (slice_set bs k caller)) (subst (λ r. frame_of r callee ≡ frame_of r f) one theirs)
    ∙ ap (λ vs. frame_of p f ∷ reverse vs) (map_same (frame_of p) bs k g caller at same)

pub below_last : (p : Program) (bs rest : List Frame) (g : Frame) → bs ≡ rest ++ g ∷ [] → below_of p bs ≡ frame_of p g ∷ below_of p rest
below_last p bs rest g is = ap (below_of p) is ∙ last_frame p rest g

-- what a frame gave, and what is left of it
gave_all : (p : Program) (w : Execution) (f g caller callee x gone : Frame) (bs rest : List Frame) (drops ports : List PortValue) (cost : ℕ) → below_of p bs ≡ frame_of p g ∷ below_of p rest → x ≡ caller → gone ≡ callee
    → HasGivenBack p g f caller callee drops → ports ≡ drops ++ frame_ports (frame_of p gone) → cost ≡ 1 + back_words f.backs → gives_back w (frame_of p f) (below_of p bs) ≡ Own (framed w (standing p x rest)) [] ports cost
gave_all p w f g caller callee x gone bs rest drops ports cost below new old gave left words =
    let r = given_back (frame_of p g) (frame_of p f) in
    let all : (r.drops ++ message_ports r.theirs) ++ started_ports (frame_of p f).starts ≡ ports =
    append_assoc r.drops (message_ports r.theirs) (started_ports (frame_of p f).starts)
    ∙ (ap (λ (v : mean.Frame). r.drops ++ frame_ports v) (sym gave.callee_is ∙ ap (frame_of p) (sym old))
    ∙ (ap (λ (ds : List PortValue). ds ++ frame_ports (frame_of p gone)) (sym gave.drops_are) ∙ sym left)) in
    ap (gives_back w (frame_of p f)) below
    ∙ own_alike w _ _ _ _ _ _ (ap (λ (v : mean.Frame). v ∷ below_of p rest) (sym gave.caller_is ∙ ap (frame_of p) (sym new))) all (sym words)

pub gave_back : (p q : Program) (w : Execution) (f g caller callee x y gone : Frame) (bs rest : List Frame) (k : ℕ) (drops ports : List PortValue) (cost : ℕ) → q ≡ p → k + 1 ≡ length bs → g ≡ slice_index_or bs k g
    → slice_set bs k caller ≡ rest ++ y ∷ [] → x ≡ y → gone ≡ callee → HasGivenBack q g f caller callee drops → ports ≡ drops ++ frame_ports (frame_of p gone) → cost ≡ 1 + back_words f.backs
    → gives_back w (frame_of p f) (below_of p bs) ≡ Own (framed w (standing p x rest)) [] ports cost
gave_back p q w f g caller callee x y gone bs rest k drops ports cost one e at is new old gave left words =
    let last = taken_last bs rest k g caller y e at is in
    gave_all p w f g caller callee x gone bs rest drops ports cost (below_last p bs rest g last.0) (new ∙ last.1) old
    (subst (λ r. HasGivenBack r g f caller callee drops) one gave) left words

-- the number at a place of the innermost frame, as it is read from memory
pub word_here : (h : Here) (f : Frame) → StandsIn h f → (vs : List Variable) (m : List Word) (q : Span) → vs ≡ (unit_of h.unit).names.variables → m ≡ f.memory.items → (n : ℤ) → n ≡ word_at (values_of vs m) q
    → q ≡ scalar_place (result_variable (unit_of h.unit)) → n ≡ word_at (frame_of (program_in h) f).values (scalar_place (result_variable (unit_of h.unit)))
word_here h f stands vs m q variables memory n is place =
    is ∙ (ap (λ (xs : List Variable). word_at (values_of xs m) q) (variables ∙ sym (variables_here h f stands))
    ∙ (ap (λ (ws : List Word). word_at (values_of (variables_of (program_in h) f.unit) ws) q) memory ∙ ap (word_at (frame_of (program_in h) f).values) place))

-- a function's frame is gone, and its result stays
pub left_result : (p : Program) (w : Execution) (u : ProgramUnit) (f g caller x y gone : Frame) (bs rest : List Frame) (k : ℕ) (n : ℤ) (none : List (Option PortValue)) (ports : List PortValue) → k + 1 ≡ length bs → g ≡ slice_index_or bs k g
    → slice_set bs k caller ≡ rest ++ y ∷ [] → x ≡ y → gone ≡ f → frame_of p caller ≡ record (frame_of p g) { results = (frame_of p g).results ++ n ∷ [] }
    → n ≡ word_at (frame_of p f).values (scalar_place (result_variable u)) → none ≡ [] → ports ≡ live none ++ frame_ports (frame_of p gone)
    → results_in w u (frame_of p f) (below_of p bs) ≡ Own (framed w (standing p x rest)) [] ports 1
left_result p w u f g caller x y gone bs rest k n none ports e at is new old with word empty left =
    let last = taken_last bs rest k g caller y e at is in
    let place = scalar_place (result_variable u) in
    ap (results_in w u (frame_of p f)) (below_last p bs rest g last.0)
    ∙ own_alike w _ _ _ _ 1 1
    (ap (λ (v : mean.Frame). v ∷ below_of p rest)
    (ap (λ (m : ℤ). record (frame_of p g) { results = (frame_of p g).results ++ m ∷ [] }) (sym word) ∙ (sym with ∙ ap (frame_of p) (sym (new ∙ last.1)))))
    (ap (λ (v : Frame). frame_ports (frame_of p v)) (sym old) ∙ (ap (λ (os : List (Option PortValue)). live os ++ frame_ports (frame_of p gone)) (sym empty) ∙ sym left)) refl

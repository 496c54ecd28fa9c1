-- Starts that are put behind those of the block.
use Rattle.std.proofs.Common.{◌≡◌, ℕ, zero, suc, ◌+◌, Option, Some, Result, Ok, Err, List, [], ◌∷◌, ◌++◌, length, map, take, refl, sym, subst, ap, ◌∙◌, arith}
use Rattle.std.specs.Prelude.{IfOk, slice_set}
use Rattle.std.proofs.lemmas.List.{map-append}
use Rattle.fm_base.specs.declared.port.PortValue.{PortValue}
use Rattle.fm_base.specs.declared.schedule.Machine.{Machine}
use Rattle.fm_base.specs.Channels.{Item}
use Rattle.fm_base.specs.declared.memory.NoMemory.{NoMemory}
use Rattle.fm_tree.specs.Tree.{Tree}
use Rattle.fm_tree.specs.declared.statement.Where.{Where}
use Rattle.fm_symbols.specs.declared.names.Variable.{Variable}
use Rattle.fm_rules.specs.declared.program.Program.{Program}
use Rattle.fm_mean.specs.Names.{Point, ProgramUnit, unit_at}
use Rattle.fm_mean.specs.Calls.{backs_of, entered, variables_in}
use Rattle.fm_mean.specs.Evaluate.{Scope}
use Rattle.fm_mean.specs.declared.place.Actual.{Actual}
use Rattle.fm_mean.specs.Fits.{variables_of}
use Rattle.fm_mean.specs.Places.{Returned}
use Rattle.fm_map.specs.Placement.{Seat}
use Rattle.fm_mean.specs.Process as mean
use Rattle.fm_mean.specs.Process.{Execution, framed}
use Rattle.fm_mean.specs.declared.place.Back.{Back}
use Rattle.fm_mean.specs.Actions.{Action, Own, at_entry, pended, process_calls, starts_one}
use Rattle.fm_plain_frame.specs.Frames.{frame_of, start_of}
use Rattle.fm_plain_frame.specs.Memory.{values_of}
use Rattle.fm_plain_frame.specs.Units.{unit_of}
use Rattle.fm_plain_frame.specs.declared.frame.Frame.{Frame}
use Rattle.fm_plain_frame.specs.declared.frame.Start.{Start}
use Rattle.fm_plain_frame.specs.declared.word.Word.{Word}
use Rattle.fm_plain.specs.declared.here.Here.{Here}
use Rattle.fm_plain.specs.Operands.{arguments_and_seat}
use Rattle.fm_plain.specs.Standing.{ActsAt, ActsOn, SitsAt, StandsIn, frame_in, program_in}
use Rattle.fm_plain.specs.Steps.{IsStep}
use Rattle.fm_plain.specs.declared.step.Step.{Step}
use Rattle.fm_plain.proofs.CallLaws.{own_alike, set_last, variables_here}

-- a front of that many items
pub take_front : {A : Type 0} (xs rest : List A) (n : ℕ) → length xs ≡ n → take n (xs ++ rest) ≡ xs
take_front [] rest zero e = refl
take_front [] rest (suc n) e = absurd (omega (arith, e))
take_front (x ∷ xs) rest zero e = absurd (omega (arith, e))
take_front (x ∷ xs) rest (suc n) e = ap (λ ys. x ∷ ys) (take_front xs rest n (omega (arith, e)))

-- the values of the innermost frame, as they are read from memory
pub values_here : (h : Here) (f : Frame) → StandsIn h f → (vs : List Variable) (m : List Word) → vs ≡ (unit_of h.unit).names.variables → m ≡ f.memory.items → values_of vs m ≡ (frame_of (program_in h) f).values
values_here h f stands vs m variables memory =
    ap (λ (xs : List Variable). values_of xs m) (variables ∙ sym (variables_here h f stands)) ∙ ap (values_of (variables_of (program_in h) f.unit)) memory

-- and after another memory was put there
pub values_after : (h : Here) (f : Frame) → StandsIn h f → (vs : List Variable) (m : List Word) → vs ≡ (unit_of h.unit).names.variables → values_of (variables_of (program_in h) f.unit) m ≡ values_of vs m
values_after h f stands vs m variables = ap (λ (xs : List Variable). values_of xs m) (variables_here h f stands ∙ sym variables)

-- a start as the meaning's
pub start_alike : (p q : Program) (m n : ℕ) (u : ProgramUnit) (ws : List Word) (backs bs : List Back) (machine : Machine) (node : ℕ) (theirs : List Item) → m ≡ n → q ≡ p → unit_at q m ≡ Some u → values_of u.names.variables ws ≡ theirs → backs ≡ bs
    → ◌≡◌ {A = mean.Start} (record { unit = m; values = values_of (variables_of p m) ws; backs = backs; machine = machine; node = node }) (record { unit = n; values = theirs; backs = bs; machine = machine; node = node })
start_alike p q m n u ws backs bs machine node theirs same one unit is back =
    let values : values_of (variables_of p m) ws ≡ theirs = ap (λ (r : Program). values_of (variables_of r m) ws) (sym one) ∙ (ap (λ o. values_of (variables_in o) ws) unit ∙ is) in
    ap (λ (vs : List Item). record { unit = m; values = vs; backs = backs; machine = machine; node = node }) values
    ∙ (ap (λ (k : ℕ). record { unit = k; values = theirs; backs = backs; machine = machine; node = node }) same
    ∙ ap (λ (b : List Back). record { unit = n; values = theirs; backs = b; machine = machine; node = node }) back)

-- the room that was made behind the starts is the new one's
pub start_last : (p : Program) (olds news : List Start) (hole s : Start) (k : ℕ) (t : mean.Start) → k ≡ length olds → news ≡ olds ++ hole ∷ [] → start_of p s ≡ t → map (start_of p) (slice_set news k s) ≡ map (start_of p) olds ++ t ∷ []
start_last p olds news hole s k t e is new =
    ap (λ (ss : List Start). map (start_of p) (slice_set ss k s)) is
    ∙ (ap (map (start_of p)) (set_last olds hole s k e)
    ∙ (map-append (start_of p) olds (s ∷ []) ∙ ap (λ (x : mean.Start). map (start_of p) olds ++ x ∷ []) new))

pub pended_own : (w : Execution) (e : Point) (f new : mean.Frame) (below : List mean.Frame) (n : ℕ) (u : ProgramUnit) (backs : List Back) (seat : Seat) (t : Returned) (values : List Item) (starts : List mean.Start) (ports : List PortValue) (cost : ℕ)
    → new ≡ at_entry (record f { values = values; starts = starts }) e.entry.after → values ≡ t.mine → starts ≡ f.starts ++ record { unit = n; values = t.theirs; backs = backs; machine = seat.0; node = seat.1 } ∷ [] → ports ≡ t.drops → cost ≡ 1 + u.names.words
    → pended w e f below n u backs seat t ≡ Own (framed w (new ∷ below)) [] ports cost
pended_own w e f new below n u backs seat t values starts ports cost is mine more drops words =
    own_alike w _ _ _ _ _ _
    (ap (λ (x : mean.Frame). x ∷ below)
    (ap (λ (vs : List Item). at_entry (record f { values = vs; starts = f.starts ++ record { unit = n; values = t.theirs; backs = backs; machine = seat.0; node = seat.1 } ∷ [] }) e.entry.after) (sym mine)
    ∙ (ap (λ (ss : List mean.Start). at_entry (record f { values = values; starts = ss }) e.entry.after) (sym more) ∙ sym is)))
    (sym drops) (sym words)

-- ---- the call itself

-- a process call of a unit that is there, whose arguments and seat were found, starts one
pub calls_pended : (w : Execution) (s : Scope) (e : Point) (f : mean.Frame) (below : List mean.Frame) (o : Option (ℕ × ProgramUnit)) (n : ℕ) (u : ProgramUnit) (args : List Tree) (at : Option Where) (m : Machine) (node : ℕ) (actuals : List Actual) (seat : Seat)
    → o ≡ Some (n, u) → w.machine ≡ m → w.node ≡ node → arguments_and_seat s m node u.names.extents args at ≡ Ok (actuals, seat)
    → process_calls w s e f below o args at ≡ pended w e f below n u (backs_of u actuals) seat (entered u f.values actuals)
calls_pended w s e f below o n u args at m node actuals seat named machine sits found =
    ap (λ (o : Option (ℕ × ProgramUnit)). process_calls w s e f below o args at) named
    ∙ (ap (λ (k : Machine). starts_one w e f below n u (arguments_and_seat s k w.node u.names.extents args at)) machine
    ∙ (ap (λ (k : ℕ). starts_one w e f below n u (arguments_and_seat s m k u.names.extents args at)) sits
    ∙ ap (starts_one w e f below n u) found))

-- a step that acts on its frames does what it is to do on the machine of the process, where the two are the same there
pub acts_at : (h : Here) (a b : Execution → List mean.Frame → Action) (f g : Frame) (r : Result Step NoMemory)
    → ((w : Execution) (below : List mean.Frame) → SitsAt h w → b w below ≡ a w below) → IfOk r (λ r. ActsOn h a f r g) → IfOk r (λ r. ActsAt h b f r g)
acts_at h a b f g (Ok r) same on = λ w below sits. subst (λ (x : Action). IsStep (program_in h) w x (frame_in h f ∷ below) r (frame_in h g ∷ below)) (sym (same w below sits)) (on w below)
acts_at h a b f g (Err e) same on = tt

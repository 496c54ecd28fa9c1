-- Operands that are evaluated together: the first failure, and what a statement does with them.
use Rattle.std.proofs.Common.{◌≡◌, ℕ, ◌+◌, List, Result, Ok, Err, IfOk, false, refl, sym, ap, ◌∙◌, subst, arith}
use Rattle.fm_base.specs.declared.fault.Fault.{Fault}
use Rattle.fm_base.specs.declared.memory.NoMemory.{NoMemory}
use Rattle.fm_base.specs.declared.name.Line.{Line}
use Rattle.fm_base.specs.declared.schedule.Machine.{Machine}
use Rattle.fm_tree.specs.PortFields.{PortFields}
use Rattle.fm_tree.specs.Tree.{Tree, trees_from}
use Rattle.fm_tree.specs.declared.statement.Var.{Var}
use Rattle.fm_tree.specs.declared.statement.Where.{Where}
use Rattle.fm_mean.specs.Operands.{◌>>=◌}
use Rattle.fm_mean.specs.Names.{Point, line_of}
use Rattle.fm_mean.specs.Places.{port_at}
use Rattle.fm_mean.specs.Process.{Frame}
use Rattle.fm_mean.specs.declared.place.Actual.{Actual}
use Rattle.fm_mean.specs.declared.place.Span.{Span}
use Rattle.fm_mean.specs.Actions.{channel_places, fails, seat_at, sends, sent, two_places}
use Rattle.fm_mean.specs.Evaluate.{Scope, actuals_of, place_of, refs_in_all, refs_in_var}
use Rattle.fm_map.specs.Placement.{Seat, fitted}
use Rattle.fm_plain_eval.specs.declared.failure.Failure.{Failure}
use Rattle.fm_plain_eval.specs.declared.failure.Failure.TheVariants as failure
use Rattle.fm_plain_eval.specs.Outcomes.{IsFailure}
use Rattle.fm_plain_eval.specs.Operands.{seated}
use Rattle.fm_plain_frame.specs.declared.frame.Frame as memory
use Rattle.fm_plain.specs.declared.here.Here.{Here}
use Rattle.fm_plain.specs.declared.step.Step.{Step}
use Rattle.fm_plain.specs.Operands.{arguments_and_seat}
use Rattle.fm_plain.specs.Standing.{ActsOn, frame_in, line_in, point_in}
use Rattle.fm_plain.specs.Steps.{IsFailed}
use Rattle.std.specs.Prelude.{Option}

-- what comes behind a value that was found fails
fails_behind : {A B : Type 0} (m : Result A Fault) (x : A) (f : A → Result B Fault) (e : Failure) → m ≡ Ok x → IsFailure (f x) e → IsFailure (m >>= f) e
fails_behind m x f (failure.Fault fault) is h = ap (λ r. r >>= f) is ∙ h
fails_behind m x f failure.NoMemory is h = tt

-- a failure stops what stands on it
stops : {A B : Type 0} (m : Result A Fault) (f : A → Result B Fault) (e : Failure) → IsFailure m e → IsFailure (m >>= f) e
stops m f (failure.Fault fault) h = ap (λ r. r >>= f) h
stops m f failure.NoMemory h = tt

pub two_fail : (s : Scope) (a b : Var) (x : Span) (n : ℕ) (e : Failure) → place_of s a 0 ≡ Ok x → n ≡ 0 + refs_in_var s a → IsFailure (place_of s b n) e → IsFailure (two_places s a b) e
two_fail s a b x n e is next h =
    let k : n ≡ refs_in_var s a = omega (arith, next) in
    fails_behind (place_of s a 0) x (λ p. place_of s b (refs_in_var s a) >>= λ q. Ok (p, q)) e is
    (stops (place_of s b (refs_in_var s a)) (λ q. Ok (x, q)) e (subst (λ (j : ℕ). IsFailure (place_of s b j) e) k h))

-- operands one after the other, and the other way round
abbrev both : {A B : Type 0} → Result A Fault → Result B Fault → Result (A × B) Fault
both m k = m >>= λ p. k >>= λ q. Ok (p, q)

abbrev swapped : {A B : Type 0} → Result A Fault → Result B Fault → Result (B × A) Fault
swapped m k = m >>= λ p. k >>= λ q. Ok (q, p)

-- and behind one that was found
abbrev behind : {A B C : Type 0} → C → Result A Fault → (A → Result B Fault) → Result (C × B) Fault
behind x m k = m >>= λ p. k p >>= λ q. Ok (x, q)

swap_err : (m k : Result Span Fault) (fault : Fault) → both m k ≡ Err fault → swapped m k ≡ Err fault
swap_err (Ok a) (Ok b) fault h = absurd (cc)
swap_err (Ok a) (Err g) fault h = h
swap_err (Err g) k fault h = h

pub swap_fails : (s : Scope) (p q : Var) (e : Failure) → IsFailure (two_places s q p) e → IsFailure (channel_places s false p q) e
swap_fails s p q (failure.Fault fault) h = swap_err (place_of s q 0) (place_of s p (refs_in_var s q)) fault h
swap_fails s p q failure.NoMemory h = tt

err_behind : {B C : Type 0} (x : C) (r : Result B Fault) (fault : Fault) → r ≡ Err fault → (both (Ok x) r) ≡ Err fault
err_behind x (Ok b) fault h = absurd (cc)
err_behind x (Err g) fault h = cc

seat_err : {A B C : Type 0} (x : C) (m : Result A Fault) (k : A → Result B Fault) (fault : Fault) → (m >>= k) ≡ Err fault → behind x m k ≡ Err fault
seat_err x (Err g) k fault h = cc
seat_err x (Ok a) k fault h = err_behind x (k a) fault h

abbrev seat_after : Scope → Machine → ℕ → List ℕ → List Tree → Option Where → Result (List Actual) Fault → Result (List Actual × Seat) Fault
seat_after s m node extents args at r = r >>= λ actuals. behind actuals (seat_at s m (m, node) at (refs_in_all s (trees_from args))) (fitted extents)

pub seat_fails : (s : Scope) (m : Machine) (node : ℕ) (extents : List ℕ) (args : List Tree) (at : Option Where) (xs : List Actual) (n : ℕ) (e : Failure)
    → actuals_of s (trees_from args) 0 ≡ Ok xs → n ≡ 0 + refs_in_all s (trees_from args) → IsFailure (seated s m (m, node) extents at n) e → IsFailure (arguments_and_seat s m node extents args at) e
seat_fails s m node extents args at xs n failure.NoMemory is next h = tt
seat_fails s m node extents args at xs n (failure.Fault fault) is next h =
    let k : n ≡ refs_in_all s (trees_from args) = omega (arith, next) in
    ap (λ (r : Result (List Actual) Fault). seat_after s m node extents args at r) is
    ∙ seat_err xs (seat_at s m (m, node) at (refs_in_all s (trees_from args))) (fitted extents) fault (subst (λ (j : ℕ). seated s m (m, node) extents at j ≡ Err fault) k h)

-- SEND with its operands
abbrev ok : {A : Type 0} → A → Result A Fault
ok a = Ok a

ok_is : {A : Type 0} (a b : A) → ok a ≡ ok b → a ≡ b
ok_is a b e = cc

pub sends_to : (e : Point) (fields : PortFields) (f : Frame) (m : Result Span Fault) (k : Result (List Actual) Fault) (q : Span) (xs : List Actual) → both m k ≡ Ok (q, xs) → sends e fields f m k ≡ sent e fields (port_at f.values q) xs
sends_to e fields f (Ok p) (Ok ys) q xs h = ap (λ (r : Span × List Actual). sent e fields (port_at f.values r.0) r.1) (ok_is (p, ys) (q, xs) h)
sends_to e given f (Ok p) (Err g) q xs h = absurd (cc)
sends_to e given f (Err g) k q xs h = absurd (cc)

abbrev no_operands : Fault → Result (Span × List Actual) Fault
no_operands f = Err f

the_fault : (f g : Fault) → no_operands f ≡ no_operands g → f ≡ g
the_fault f g e = cc e

sends_err : (e : Point) (fields : PortFields) (f : Frame) (m : Result Span Fault) (k : Result (List Actual) Fault) (fault : Fault) → both m k ≡ Err fault → sends e fields f m k ≡ fails (line_of e) fault
sends_err e given f (Ok p) (Ok ys) fault h = absurd (cc)
sends_err e given f (Ok p) (Err g) fault h = ap (fails (line_of e)) (the_fault g fault h)
sends_err e given f (Err g) k fault h = ap (fails (line_of e)) (the_fault g fault h)

pub sends_failed : (h : Here) (f : memory.Frame) (fields : PortFields) (m : Result Span Fault) (k : Result (List Actual) Fault) (line : Line) (e : Failure) (r : Result Step NoMemory)
    → line.0 ≡ line_in h → IsFailure (both m k) e → IsFailed line e r → IfOk r (λ s. ActsOn h (λ w below. sends (point_in h) fields (frame_in h f) m k) f s f)
sends_failed h f given m k line (failure.Fault fault) r at failing is =
    subst (λ (t : Result Step NoMemory). IfOk t (λ s. ActsOn h (λ w below. sends (point_in h) given (frame_in h f) m k) f s f)) (sym is)
    (λ w below. (refl, (sends_err (point_in h) given (frame_in h f) m k fault failing ∙ ap (λ (n : ℕ). fails n fault) (sym at), tt)))
sends_failed h f given m k line failure.NoMemory r at failing is =
    subst (λ (t : Result Step NoMemory). IfOk t (λ s. ActsOn h (λ w below. sends (point_in h) given (frame_in h f) m k) f s f)) (sym is) tt

-- What it means that the code of expressions does what they do.
-- Source: this profile.
use Rattle.std.specs.Prelude.{◌≡◌, ℕ, ℤ, pos, ◌+◌, Option, Some, None, List, ◌∷◌, ◌++◌, map, reverse, Result, Ok, Err}
use Rattle.fm_base.specs.declared.fault.Fault.{Fault}
use Rattle.fm_values.specs.Values.{word_of}
use Rattle.fm_tree.specs.Tree.{Tree, Trees, trees_from}
use Rattle.fm_tree.specs.declared.statement.Var.{Var}
use Rattle.fm_tree.specs.declared.statement.Where.{Where}
use Rattle.fm_tree.specs.declared.statement.Where.TheVariants as put_at
use Rattle.fm_rules.specs.declared.program.Program.{Program}
use Rattle.fm_mean.specs.Operands.{◌>>=◌}
use Rattle.fm_mean.specs.Names.{ProgramUnit}
use Rattle.fm_mean.specs.Evaluate.{Scope, refs_in, value_of, number_of, numbers_of, place_of, places_of, actuals_of}
use Rattle.fm_code.specs.declared.body.Frame.{Frame}
use Rattle.fm_code.specs.declared.instr.Instr.{Instr}
use Rattle.fm_code.specs.declared.scratch.Place.{Place}
use Rattle.fm_code.specs.declared.scratch.Place.TheVariants as place
use Rattle.fm_code.specs.declared.scratch.Scratch.{Scratch}
use Rattle.fm_code.specs.Acts.{StatementEnd, Fails, work}
use Rattle.fm_code.specs.declared.ask.Operand.{Operand}
use Rattle.fm_gen_relation.specs.Standing.{Slots, scope_in, IsFrame, AreDone, AreAllDone}
use Rattle.fm_gen_relation.specs.Operands.{word_number, operand_of, target_of}
use Rattle.fm_gen_relation.specs.Calls.{VarDone, VarsDone, WhereDone}

-- a statement goes on with a value, or fails with the fault that came in its place
abbrev pub then : {A : Type 0} → Result A Fault → (A → StatementEnd) → StatementEnd
then (Ok x) f = f x
then (Err fault) f = Fails fault

-- Before any other instructions, in each frame that stands for one of the unit, with any stack and whatever the statement
-- has built: the code leaves the word of the expression's value on top, or fails with the expression's first fault.
abbrev pub KeepsValue : Program → ProgramUnit → Tree → (n : ℕ) → List Instr → Type 0
KeepsValue p u t n code = (slots : Slots) (m : Frame) → IsFrame u slots m → AreDone (scope_in p u slots m) t n
    → (behind : List Instr) (stack : List ℤ) (built : Scratch)
    → work (code ++ behind) stack built m ≡ then (value_of (scope_in p u slots m) t n) (λ v. work behind (word_of v ∷ stack) built m)

-- the same of a list, the first of which is pushed first
abbrev pub KeepsNumbers : Program → ProgramUnit → Trees → (n : ℕ) → List Instr → Type 0
KeepsNumbers p u ts n code = (slots : Slots) (m : Frame) → IsFrame u slots m → AreAllDone (scope_in p u slots m) ts n
    → (behind : List Instr) (stack : List ℤ) (built : Scratch)
    → work (code ++ behind) stack built m ≡ then (numbers_of (scope_in p u slots m) ts n) (λ xs. work behind (reverse xs ++ stack) built m)

-- Places and operands.

-- the number of a place's first word is left on top
abbrev pub KeepsPlace : Program → ProgramUnit → Var → (n : ℕ) → List Instr → Type 0
KeepsPlace p u v n code = (slots : Slots) (m : Frame) → IsFrame u slots m → VarDone (scope_in p u slots m) v n
    → (behind : List Instr) (stack : List ℤ) (built : Scratch)
    → work (code ++ behind) stack built m ≡ then (place_of (scope_in p u slots m) v n) (λ s. work behind (pos (word_number u.names.variables s) ∷ stack) built m)

-- operands go last among those that are built
abbrev pub with_operands : Scratch → List Operand → Scratch
with_operands b os = record b { operands = b.operands ++ os }

-- arguments, or items of a message, are the next operands
abbrev pub KeepsActuals : Program → ProgramUnit → Trees → (n : ℕ) → List Instr → Type 0
KeepsActuals p u ts n code = (slots : Slots) (m : Frame) → IsFrame u slots m → AreAllDone (scope_in p u slots m) ts n
    → (behind : List Instr) (stack : List ℤ) (built : Scratch)
    → work (code ++ behind) stack built m
    ≡ then (actuals_of (scope_in p u slots m) ts n) (λ xs. work behind stack (with_operands built (map (operand_of u.names.variables) xs)) m)

-- places that are to be filled are
abbrev pub KeepsTargets : Program → ProgramUnit → List Var → (n : ℕ) → List Instr → Type 0
KeepsTargets p u vs n code = (slots : Slots) (m : Frame) → IsFrame u slots m → VarsDone (scope_in p u slots m) vs n
    → (behind : List Instr) (stack : List ℤ) (built : Scratch)
    → work (code ++ behind) stack built m
    ≡ then (places_of (scope_in p u slots m) vs n) (λ ss. work behind stack (with_operands built (map (target_of u.names.variables) ss)) m)

-- Seats.

-- the numbers that tell where a process is put; without any it is where it was
abbrev pub seat_place : Scope → Place → Option Where → (n : ℕ) → Result Place Fault
seat_place s q None n = Ok q
seat_place s q (Some (put_at.Location ks)) n = numbers_of s (trees_from ks) n >>= λ xs. Ok (place.Location xs)
seat_place s q (Some (put_at.Submachine low high)) n = number_of s low n >>= λ x. number_of s high (n + refs_in s low) >>= λ y. Ok (place.Submachine x y)

abbrev pub with_place : Scratch → Place → Scratch
with_place b q = record b { place = q }

-- they are the place of the process that is built
abbrev pub KeepsSeat : Program → ProgramUnit → Option Where → (n : ℕ) → List Instr → Type 0
KeepsSeat p u o n code = (slots : Slots) (m : Frame) → IsFrame u slots m → WhereDone (scope_in p u slots m) o n
    → (behind : List Instr) (stack : List ℤ) (built : Scratch)
    → work (code ++ behind) stack built m ≡ then (seat_place (scope_in p u slots m) built.place o n) (λ q. work behind stack (with_place built q) m)
